use Rattle.std.proofs.Common.{Vec, Global, ◌≡◌, ℕ, ◌<◌, List, [], ◌∷◌, ◌++◌, length, take, get_or, map, sym, ap, ◌∙◌, subst, arith, rules}
use Rattle.std.proofs.lemmas.List.{map-append}
use Rattle.std.proofs.lemmas.List.Elements.{All-same, All-push}
use Rattle.idx_pieces.specs.Parcels.{MeetsSome, heading_of, meeting}
use Rattle.idx_pieces.specs.Reading.{HoldsUpTo, IsReady, heading}
use Rattle.idx_pieces.specs.declared.filling.Filling.{Filling}
use Rattle.idx_pieces.specs.declared.piece.Piece.{Piece}
use Rattle.idx_pieces.proofs.MeetLemmas.{meets-from_point, meets-one, misses-from_none, meeting-more, meeting-skip}
use Rattle.idx_pieces.proofs.begun.begin_all.Goals.{in-None, in-Some+in_ok-part-in-Some+in_ok-push-in-Some}
use Rattle.idx_pieces.proofs.begun.begin_all.Goals as goal

pub pieces-preserved : goal.pieces-preserved
pieces-preserved c =
    let pieces : List Piece = c.args.pieces.now.items in
    let region : List (ℕ × ℕ) = c.args.region.now in
    let parts : List Filling = c.pieces.parts.items in
    let i : ℕ = c.pieces.i in
    let p : Piece = c.index-piece.result.now in
    let at : p ≡ get_or pieces i p = c.index-piece.ensures in
    let inside : i < length pieces = omega (arith, c.pieces-test.true, c.pieces.auto.i-end, c.len-i-end.ensures) in
    let axes : length p.region ≡ length region = subst (λ (q : Piece). length q.region ≡ length region) (sym at) (c.requires.axes i p inside) in
    elim c.match-meet.branch [
      | in-None w ↦
          let same : c.match-meet.parts.items ≡ parts = ap (λ (v : Vec Filling Global). v.items) w.parts-is in
          let skip = meeting-skip region pieces i p inside at (misses-from_none region p.region (sym axes) w.in-None.ensures.bounds) in
          record {
            ready = All-same (IsReady c.args.header.now.box 0) _ _ same c.pieces.invariant.ready;
            first = All-same (λ (f : Filling). f.cursor.done ≡ 0) _ _ same c.pieces.invariant.first;
            held = λ told. All-same (HoldsUpTo c.args.header.now told 0) _ _ same (c.pieces.invariant.held told);
            headings = ap (map heading) same ∙ c.pieces.invariant.headings ∙ sym (ap (map (heading_of c.args.rank region)) skip);
          }
      | in-Some+in_ok-part-in-Some+in_ok-push-in-Some w ↦
          let part : Filling = w.in_ok-part-in-Some.part in
          let same : c.match-meet.parts.items ≡ parts ++ part ∷ [] = ap (λ (v : Vec Filling Global). v.items) w.parts-is ∙ w.in_ok-push-in-Some.ensures.items in
          let more = meeting-more region pieces i p inside at (meets-from_point region p.region w.in-Some.ensures.bounds.0) in
          let head : heading part ≡ heading_of c.args.rank region p =
          w.in_ok-part-in-Some.ensures.heading ∙ ap (λ (r : List (ℕ × ℕ)). (c.args.rank, (p.id, r))) w.in-Some.ensures.bounds.1 in
          record {
            ready = All-same (IsReady c.args.header.now.box 0) _ _ same (All-push (IsReady c.args.header.now.box 0) parts part c.pieces.invariant.ready w.in_ok-part-in-Some.ensures.ready);
            first = All-same (λ (f : Filling). f.cursor.done ≡ 0) _ _ same
                (All-push (λ (f : Filling). f.cursor.done ≡ 0) parts part c.pieces.invariant.first w.in_ok-part-in-Some.ensures.first);
            held = λ told. All-same (HoldsUpTo c.args.header.now told 0) _ _ same
                (All-push (HoldsUpTo c.args.header.now told 0) parts part (c.pieces.invariant.held told) (w.in_ok-part-in-Some.ensures.held told));
            headings =
                ap (map heading) same
                ∙ map-append heading parts (part ∷ [])
                ∙ (λ j. c.pieces.invariant.headings j ++ head j ∷ [])
                ∙ sym (ap (map (heading_of c.args.rank region)) more ∙ map-append (heading_of c.args.rank region) (meeting region (take i pieces)) (p ∷ []));
          }
    ]

pub returns-in_err-part-in-Some-clause-some : goal.returns-in_err-part-in-Some-clause-some
returns-in_err-part-in-Some-clause-some c =
    let p : Piece = c.index-piece.result.now in
    let some : MeetsSome c.args.region.now c.args.pieces.now.items =
    meets-one c.args.region.now c.args.pieces.now.items c.pieces.i p (omega (arith, c.pieces-test.true, c.pieces.auto.i-end, c.len-i-end.ensures)) c.index-piece.ensures c.in-Some.ensures.bounds.0 in
    search rules

pub returns-in_err-push-in-Some-clause-some : goal.returns-in_err-push-in-Some-clause-some
returns-in_err-push-in-Some-clause-some c =
    let p : Piece = c.index-piece.result.now in
    let some : MeetsSome c.args.region.now c.args.pieces.now.items =
    meets-one c.args.region.now c.args.pieces.now.items c.pieces.i p (omega (arith, c.pieces-test.true, c.pieces.auto.i-end, c.len-i-end.ensures)) c.index-piece.ensures c.in-Some.ensures.bounds.0 in
    search rules
