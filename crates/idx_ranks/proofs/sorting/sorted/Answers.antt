use Rattle.std.proofs.Common.{◌≡◌, ◌-◌, ◌++◌, ◌∷◌, ◌<◌, ℕ, List, [], Option, Some, None, get_or, take, refl, sym, ap, ◌∙◌, subst, arith, vec_len}
use Rattle.std.specs.Prelude.{All}
use Rattle.std.specs.Option.{option_to_list}
use Rattle.std.proofs.lemmas.Grind.{common_steps}
use Rattle.std.proofs.lemmas.List.Elements.{All-push, All-same, All-take}
use Rattle.idx_pieces.specs.Parcels.{IsFull}
use Rattle.idx_pieces.specs.Pieces.{IsPiece}
use Rattle.idx_pieces.specs.Refusals.{why_not}
use Rattle.idx_pieces.specs.declared.parcel.Parcel.{Parcel}
use Rattle.idx_pieces.specs.declared.piece.Piece.{Piece}
use Rattle.idx_ranks.specs.Queues.{AreQueuesOf}
use Rattle.idx_ranks.specs.declared.load.Load.{Load}
use Rattle.idx_ranks.proofs.ListLemmas.{All-reverse}
use Rattle.idx_ranks.proofs.LoadLemmas.{one_more}
use Rattle.idx_ranks.proofs.sorting.sorted.Goals as goal

pub loop-taken-preserved : goal.loop-taken-preserved
loop-taken-preserved c =
    let piece : Piece = c.unwrap-piece.result in
    let load : Load = record { piece = c.unwrap-piece.result; parcels = c.from_vec.result } in
    let pieces : List Piece = c.loop-taken.pieces.items in
    let some : 0 < vec_len c.loop-taken.pieces = omega (arith, c.loop-taken.invariant.left, c.loop-taken-test.true) in
    let rest : c.pop.new.self.items ≡ take (vec_len c.loop-taken.pieces - 1) pieces = c.pop.ensures.rest in
    let split : pieces ≡ c.pop.new.self.items ++ piece ∷ [] = c.pop.ensures.items ∙ ap (λ (o : Option Piece). c.pop.new.self.items ++ option_to_list o) c.unwrap-piece.ensures in
    let at : c.pop.result ≡ Some (get_or pieces (vec_len c.loop-taken.pieces - 1) piece) = c.pop.ensures.value piece some in
    let is : c.pop.result ≡ Some piece = c.unwrap-piece.ensures in
    let last : get_or pieces (vec_len c.loop-taken.pieces - 1) piece ≡ piece = cc in
    let legal : why_not c.args.header.now piece c.from_vec.result ≡ None =
    subst (λ (ps : List Parcel). why_not c.args.header.now piece ps ≡ None) (sym c.from_vec.ensures)
    (subst (λ (q : Piece). why_not c.args.header.now q c.in_ok-parcels.parcels.items ≡ None) last (c.in_ok-parcels.ensures.legal piece)) in
    record {
      split = one_more pieces c.pop.new.self.items piece c.loop-taken.loads.items c.push.new.self.items load split refl c.in_ok-push.ensures.items ∙ c.loop-taken.invariant.split;
      left = grind (arith, common_steps);
      number = c.in_ok-parcels.ensures.number ∙ c.loop-taken.invariant.number;
      queues = subst (λ (ps : List Piece). AreQueuesOf c.args.header.now.box (vec_len c.args.queues) ps c.take_last.new.queues.items) (sym rest)
          (subst (λ (n : ℕ). AreQueuesOf c.args.header.now.box n (take (vec_len c.loop-taken.pieces - 1) pieces) c.take_last.new.queues.items) c.loop-taken.invariant.number c.in_ok-parcels.ensures.queues);
      valid = All-same (IsPiece c.args.header.now) c.pop.new.self.items _ rest (All-take (IsPiece c.args.header.now) (vec_len c.loop-taken.pieces - 1) pieces c.loop-taken.invariant.valid);
      ranks = All-same (λ (q : Piece). q.of_ranks ≡ vec_len c.args.queues) c.pop.new.self.items _ rest
          (All-take (λ (q : Piece). q.of_ranks ≡ vec_len c.args.queues) (vec_len c.loop-taken.pieces - 1) pieces c.loop-taken.invariant.ranks);
      legal = All-same (λ (l : Load). why_not c.args.header.now l.piece l.parcels ≡ None) c.push.new.self.items _ c.in_ok-push.ensures.items
          (All-push (λ (l : Load). why_not c.args.header.now l.piece l.parcels ≡ None) c.loop-taken.loads.items load c.loop-taken.invariant.legal legal);
      full = λ told all.
          let now = c.loop-taken.invariant.full told all in
          let both = c.in_ok-parcels.ensures.full told now.0 in (
            both.0,
            All-same (λ (l : Load). All (IsFull c.args.header.now told) l.parcels) c.push.new.self.items _ c.in_ok-push.ensures.items
                (All-push (λ (l : Load). All (IsFull c.args.header.now told) l.parcels) c.loop-taken.loads.items load now.1
                (subst (λ (ps : List Parcel). All (IsFull c.args.header.now told) ps) (sym c.from_vec.ensures) both.1)),
          );
    }

pub returns-clause-legal : goal.returns-clause-legal
returns-clause-legal c =
    All-same (λ (l : Load). why_not c.args.header.now l.piece l.parcels ≡ None) c.reverse.new.self.items _ c.reverse.ensures.items
    (All-reverse (λ (l : Load). why_not c.args.header.now l.piece l.parcels ≡ None) c.loop-taken.loads.items c.loop-taken.invariant.legal)

pub returns-clause-full : goal.returns-clause-full
returns-clause-full c = λ told all.
    All-same (λ (l : Load). All (IsFull c.args.header.now told) l.parcels) c.reverse.new.self.items _ c.reverse.ensures.items
    (All-reverse (λ (l : Load). All (IsFull c.args.header.now told) l.parcels) c.loop-taken.loads.items (c.loop-taken.invariant.full told all).1)
