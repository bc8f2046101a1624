use Rattle.std.proofs.Common.{◌≡◌, ◌++◌, ℕ, List, ap, ◌∙◌, arith}
use Rattle.std.specs.List.{flat_map, range_with_len}
use Rattle.idx_pieces.specs.Joined.{place_bytes}
use Rattle.idx_pieces.proofs.JoinSteps.{range_step}
use Rattle.idx_pieces.proofs.joined.join_field.Goals as goal

pub returns : goal.returns
returns c =
    let f : ℕ → List ℕ = place_bytes c.args.piece.now c.args.parcels.now c.args.places c.args.before c.args.size in
    let all : c.loop-place.place ≡ c.args.places = omega arith in
    c.loop-place.invariant ∙ ap (λ (k : ℕ). c.args.bytes.now ++ flat_map f (range_with_len 0 k)) all

pub loop-place-preserved : goal.loop-place-preserved
loop-place-preserved c =
    range_step (place_bytes c.args.piece.now c.args.parcels.now c.args.places c.args.before c.args.size) c.args.bytes.now c.loop-place.bytes c.join_place.new.bytes
    c.loop-place.place c.in_ok-join_place.ensures c.loop-place.invariant
