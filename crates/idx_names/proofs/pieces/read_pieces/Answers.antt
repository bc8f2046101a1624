use Rattle.std.proofs.Common.{◌≡◌, ◌-◌, ◌<◌, List, ℕ, [], ◌∷◌, ◌++◌, length, take, drop, sym, arith, ap, ◌∙◌}
use Rattle.std.proofs.lemmas.List.{take_rest}
use Rattle.std.proofs.lemmas.Bool.Decides.{nat_tests}
use Rattle.idx_names.specs.declared.piece.Piece.{Piece}
use Rattle.idx_names.specs.Pieces.{pieces_of}
use Rattle.idx_names.proofs.ReadLemmas.{behind, one_more, no_more, all_read}
use Rattle.idx_names.proofs.pieces.read_pieces.Goals as goal

pub returns-in_default : goal.returns-in_default
returns-in_default c =
    let some : 0 < length c.loop-rest.rest.now = grind (arith, nat_tests) in
    sym c.loop-rest.invariant ∙ no_more c.args.kind c.loop-rest.pieces.items c.loop-rest.rest.now some (sym c.in_default.ensures.value)

pub loop-rest-preserved : goal.loop-rest-preserved
loop-rest-preserved c =
    let some : 0 < length c.loop-rest.rest.now = grind (arith, nat_tests) in
    let rest : List ℕ = c.loop-rest.rest.now in
    let front : List Piece = c.loop-rest.pieces.items in
    let p : Piece = c.in-Some.piece in
    ap (λ items. behind items (pieces_of c.args.kind (take (length rest - c.width.result) (drop c.width.result rest)))) c.in_ok-push.ensures.items
    ∙ ap (λ t. behind (front ++ p ∷ []) (pieces_of c.args.kind t)) (take_rest rest c.width.result ∙ ap (λ w. drop w rest) c.width.ensures)
    ∙ sym (one_more c.args.kind front rest p some (sym c.in-Some.ensures.value)) ∙ c.loop-rest.invariant

pub returns : goal.returns
returns c =
    let none : length c.loop-rest.rest.now ≡ 0 = grind (arith, nat_tests) in
    sym c.loop-rest.invariant ∙ all_read c.args.kind c.loop-rest.pieces.items c.loop-rest.rest.now none
