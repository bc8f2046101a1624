use Rattle.std.proofs.Common.{◌≡◌, ◌+◌, ◌-◌, ◌*◌, ◌/◌, List, ℕ, length, take, drop, ap, ◌∙◌, arith}
use Rattle.idx_geom.specs.Region.{points}
use Rattle.idx_pieces.proofs.JoinSteps.{row_fits}
use Rattle.idx_pieces.proofs.joined.row_of.Goals as goal

pub slice_bounds-result-end : goal.slice_bounds-result-end
slice_bounds-result-end c =
    let row = c.args.row.now in
    let fits = row_fits c.count-count.result row.places row.before row.size row.place c.count-count.ensures.few c.requires.small c.requires.within in
    let count : c.count-count.result * (row.before + row.size) ≡ length (points c.args.parcel.now.region) * (row.before + row.size) = ap (λ (n : ℕ). n * (row.before + row.size)) c.count-count.ensures.count in
    omega (arith, fits.end, count, c.requires.room, ap length c.as_slice.ensures)

pub returns : goal.returns
returns c =
    let row = c.args.row.now in
    let n : ℕ = c.count-count.result in
    let at : ℕ = n * row.before + row.place * (n / row.places * row.size) in
    let len : ℕ = n / row.places * row.size in
    let long : at + len - at ≡ len = omega arith in
    ap (λ (k : ℕ). take k (drop at c.as_slice.result.now)) long
    ∙ ap (λ (xs : List ℕ). take len (drop at xs)) c.as_slice.ensures
    ∙ ap (λ (m : ℕ). take (m / row.places * row.size) (drop (m * row.before + row.place * (m / row.places * row.size)) c.args.parcel.now.bytes)) c.count-count.ensures.count
