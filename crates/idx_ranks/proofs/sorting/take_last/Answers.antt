use Rattle.std.proofs.Common.{◌≡◌, ◌+◌, ◌-◌, ◌<◌, ℕ, List, [], length, drop, get_or, take, map, refl, sym, ap, ◌∙◌, subst, arith, vec_len}
use Rattle.std.proofs.lemmas.Grind.{common_steps}
use Rattle.std.proofs.lemmas.List.{get_or_default, take_all}
use Rattle.std.proofs.lemmas.List.Elements.{All-nil, All-push, All-same}
use Rattle.idx_pieces.specs.Parcels.{IsFull, parcel_heading}
use Rattle.idx_pieces.specs.Ranks.{rank_count}
use Rattle.idx_pieces.specs.declared.piece.Piece.{Piece}
use Rattle.idx_ranks.specs.Queues.{AreQueuesWith}
use Rattle.idx_ranks.proofs.LegalLemmas.{owed, ranks_rise, why_none}
use Rattle.idx_ranks.proofs.ListLemmas.{Rises}
use Rattle.idx_ranks.proofs.QueueLemmas.{IsTaken, headings_more, last_known, queues_first, queues_last, rank_within, some_left, taken}
use Rattle.idx_ranks.proofs.sorting.take_last.Goals as goal

pub loop-rank-init : goal.loop-rank-init
loop-rank-init c =
    let count : vec_len c.args.pieces.now ≡ length c.args.pieces.now.items = grind (arith, common_steps) in
    let at : c.index-piece.result.now ≡ get_or c.args.pieces.now.items (vec_len c.args.pieces.now - 1) c.index-piece.result.now = grind (arith, common_steps) in
    let same : (d : Piece) → c.as_slice-ranks.result.now ≡ (get_or c.args.pieces.now.items (vec_len c.args.pieces.now - 1) d).ranks =
    λ d. c.as_slice-ranks.ensures
    ∙ ap (λ (q : Piece). q.ranks) (at ∙ get_or_default c.args.pieces.now.items (vec_len c.args.pieces.now - 1) c.index-piece.result.now d (omega (arith, count, c.requires.some))) in
    record {
      number = refl;
      ranks = same;
      queues = λ d.
          let last = last_known c.args._header.now (vec_len c.args.queues.now) c.args.pieces.now.items (vec_len c.args.pieces.now) d count c.requires.some c.requires.pieces c.requires.ranks in
          subst (λ (ranks : List ℕ). AreQueuesWith c.args._header.now.box (vec_len c.args.queues.now) (take (vec_len c.args.pieces.now - 1) c.args.pieces.now.items)
          (get_or c.args.pieces.now.items (vec_len c.args.pieces.now - 1) d) ranks c.args.queues.now.items) (sym (same d))
          (queues_first c.args._header.now (vec_len c.args.queues.now) c.args.pieces.now.items (take (vec_len c.args.pieces.now - 1) c.args.pieces.now.items)
          (get_or c.args.pieces.now.items (vec_len c.args.pieces.now - 1) d) c.args.queues.now.items c.requires.queues last.split last.is last.of);
      headings = λ d. ap (map parcel_heading) c.in_ok-parcels.ensures.items;
      full = λ told all. (all, All-same (IsFull c.args._header.now told) c.in_ok-parcels.parcels.items [] c.in_ok-parcels.ensures.items (All-nil (IsFull c.args._header.now told)));
    }

pub take_parcel-requires-clause-rank : goal.take_parcel-requires-clause-rank
take_parcel-requires-clause-rank c =
    let d : Piece = c.index-piece.result.now in
    let count : vec_len c.args.pieces.now ≡ length c.args.pieces.now.items = grind (arith, common_steps) in
    let last = last_known c.args._header.now (vec_len c.args.queues.now) c.args.pieces.now.items (vec_len c.args.pieces.now) d count c.requires.some c.requires.pieces c.requires.ranks in
    let among : get_or c.as_slice-ranks.result.now c.loop-rank.rank-index 0 < rank_count c.args._header.now.box (vec_len c.args.queues.now) =
    rank_within c.args._header.now (get_or c.args.pieces.now.items (vec_len c.args.pieces.now - 1) d) c.as_slice-ranks.result.now (vec_len c.args.queues.now) c.loop-rank.rank-index
    last.is last.of (c.loop-rank.invariant.ranks d) c.loop-rank-test.true in
    omega (arith, among, c.loop-rank.invariant.number)

pub take_parcel-requires-clause-some : goal.take_parcel-requires-clause-some
take_parcel-requires-clause-some c =
    let d : Piece = c.index-piece.result.now in
    let count : vec_len c.args.pieces.now ≡ length c.args.pieces.now.items = grind (arith, common_steps) in
    let last = last_known c.args._header.now (vec_len c.args.queues.now) c.args.pieces.now.items (vec_len c.args.pieces.now) d count c.requires.some c.requires.pieces c.requires.ranks in
    let among : get_or c.as_slice-ranks.result.now c.loop-rank.rank-index 0 < rank_count c.args._header.now.box (vec_len c.args.queues.now) =
    rank_within c.args._header.now (get_or c.args.pieces.now.items (vec_len c.args.pieces.now - 1) d) c.as_slice-ranks.result.now (vec_len c.args.queues.now) c.loop-rank.rank-index
    last.is last.of (c.loop-rank.invariant.ranks d) c.loop-rank-test.true in
    some_left c.args._header.now.box (vec_len c.args.queues.now) (take (vec_len c.args.pieces.now - 1) c.args.pieces.now.items)
    (get_or c.args.pieces.now.items (vec_len c.args.pieces.now - 1) d) c.as_slice-ranks.result.now c.loop-rank.rank-index (get_or c.as_slice-ranks.result.now c.loop-rank.rank-index 0)
    c.loop-rank.queues.items (c.loop-rank.invariant.queues d) c.loop-rank-test.true refl among

pub loop-rank-preserved : goal.loop-rank-preserved
loop-rank-preserved c =
    let count : vec_len c.args.pieces.now ≡ length c.args.pieces.now.items = grind (arith, common_steps) in
    let ranks : List ℕ = c.as_slice-ranks.result.now in
    let k : ℕ = c.loop-rank.rank-index in
    let n : ℕ = vec_len c.args.queues.now in
    let fact : (d : Piece) → IsTaken c.args._header.now.box n (take (vec_len c.args.pieces.now - 1) c.args.pieces.now.items)
    (get_or c.args.pieces.now.items (vec_len c.args.pieces.now - 1) d) (drop (k + 1) ranks) (get_or ranks k 0) c.take_parcel.new.queues.items c.take_parcel.result =
    λ d.
    let last = last_known c.args._header.now n c.args.pieces.now.items (vec_len c.args.pieces.now) d count c.requires.some c.requires.pieces c.requires.ranks in
    let rises : Rises ranks = subst Rises (sym (c.loop-rank.invariant.ranks d)) (ranks_rise c.args._header.now (get_or c.args.pieces.now.items (vec_len c.args.pieces.now - 1) d) last.is) in
    taken c.args._header.now.box n (take (vec_len c.args.pieces.now - 1) c.args.pieces.now.items)
    (get_or c.args.pieces.now.items (vec_len c.args.pieces.now - 1) d) ranks k (get_or ranks k 0) c.loop-rank.queues.items c.take_parcel.new.queues.items c.take_parcel.result
    (c.loop-rank.invariant.queues d) rises c.loop-rank-test.true refl
    (rank_within c.args._header.now (get_or c.args.pieces.now.items (vec_len c.args.pieces.now - 1) d) ranks n k last.is last.of (c.loop-rank.invariant.ranks d) c.loop-rank-test.true)
    c.take_parcel.ensures.taken c.take_parcel.ensures.others in
    record {
      number = c.take_parcel.ensures.number ∙ c.loop-rank.invariant.number;
      ranks = c.loop-rank.invariant.ranks;
      queues = λ d. (fact d).queues;
      headings = λ d.
          let last = last_known c.args._header.now n c.args.pieces.now.items (vec_len c.args.pieces.now) d count c.requires.some c.requires.pieces c.requires.ranks in
          headings_more c.args._header.now (get_or c.args.pieces.now.items (vec_len c.args.pieces.now - 1) d) n ranks k c.loop-rank.parcels.items c.push.new.self.items c.take_parcel.result
          last.of c.loop-rank-test.true (c.loop-rank.invariant.headings d) (fact d).heading c.in_ok-push.ensures.items;
      full = λ told all.
          let now = c.loop-rank.invariant.full told all in
          let both = c.take_parcel.ensures.full c.args._header.now told now.0 in (
            both.0,
            All-same (IsFull c.args._header.now told) c.push.new.self.items _ c.in_ok-push.ensures.items
                (All-push (IsFull c.args._header.now told) c.loop-rank.parcels.items c.take_parcel.result now.1 both.1),
          );
    }

pub returns-clause-queues : goal.returns-clause-queues
returns-clause-queues c =
    let d : Piece = c.index-piece.result.now in
    queues_last c.args._header.now.box (vec_len c.args.queues.now) (take (vec_len c.args.pieces.now - 1) c.args.pieces.now.items)
    (get_or c.args.pieces.now.items (vec_len c.args.pieces.now - 1) d) c.as_slice-ranks.result.now c.loop-rank.rank-index c.loop-rank.queues.items
    (c.loop-rank.invariant.queues d) (omega (arith, c.loop-rank-test.false))

pub returns-clause-legal : goal.returns-clause-legal
returns-clause-legal c = λ d.
    let count : vec_len c.args.pieces.now ≡ length c.args.pieces.now.items = grind (arith, common_steps) in
    let last = last_known c.args._header.now (vec_len c.args.queues.now) c.args.pieces.now.items (vec_len c.args.pieces.now) d count c.requires.some c.requires.pieces c.requires.ranks in
    let piece : Piece = get_or c.args.pieces.now.items (vec_len c.args.pieces.now - 1) d in
    why_none c.args._header.now piece c.loop-rank.parcels.items last.is
    (c.loop-rank.invariant.headings d
    ∙ ap (map (owed c.args._header.now piece)) (take_all c.loop-rank.rank-index c.as_slice-ranks.result.now (omega (arith, c.loop-rank-test.false)) ∙ c.loop-rank.invariant.ranks d))
