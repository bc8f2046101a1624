use Rattle.std.proofs.Common.{◌≡◌, ℕ, ◌+◌, ◌-◌, ◌*◌, ◌≤◌, List, take, drop, slice_index, refl, sym, ◌∙◌, arith, subst}
use Rattle.std.proofs.Math.Nat.{mul-le-mul_right}
use Rattle.idx_rowmajor.specs.Rows.{sample_of}
use Rattle.idx_rowmajor.proofs.PickLemmas.{window_sample}
use Rattle.idx_rowmajor.proofs.picks.pick_at.Goals as goal

pub returns : goal.returns
returns g c i few =
    let size : ℕ = c.bytes-size.result in
    let first : ℕ = c.args.first in
    let place : ℕ = slice_index c.args.behind.now i in
    let last : ℕ = slice_index c.args.behind.now 7 in
    let from : List ℕ = c.args.from.now in
    let new : List ℕ = c.pick_eight.new.into in
    let n : ℕ = (first + last + 1) * size - first * size in
    let whole : (first + last + 1) * size ≡ first * size + (last + 1) * size = grind arith in
    let inside : (place + 1) * size ≤ n = omega (arith, whole, mul-le-mul_right size (let h : place + 1 ≤ last + 1 = omega (arith, c.requires.last i few) in h)) in
    let told : sample_of size new i ≡ sample_of size (take n (drop (first * size) from)) place =
    subst (λ (k : ℕ). sample_of k new i ≡ sample_of k (take n (drop (first * size) from)) place) (sym c.bytes-size.ensures) (c.pick_eight.ensures i few) in
    subst (λ (k : ℕ). sample_of k new i ≡ sample_of k from (first + place)) c.bytes-size.ensures (told ∙ window_sample size first place n n from refl inside)
