-- A block out of a copy of it, sample by sample and run by run.
use Rattle.std.proofs.Common.{◌≡◌, ℕ, zero, suc, ◌+◌, ◌-◌, ◌*◌, ◌/◌, ◌%◌, ◌^◌, ◌<◌, ◌≤◌, List, ◌++◌, length, take, drop, refl, sym, ap, ◌∙◌, ⊎_elim, arith, subst, length-take-le, length-drop}
use Rattle.std.specs.Prelude.{slice_index, bit_and, bit_or, max, min}
use Rattle.std.specs.Int.{bit_at}
use Rattle.std.proofs.Math.Nat.{mul-le-mul_right}
use Rattle.std.proofs.Math.Seq.{drop-append-add}
use Rattle.std.proofs.lemmas.Bool.{cases_lt}
use Rattle.std.proofs.lemmas.Nat.{or_disjoint, or_lt}
use Rattle.std.proofs.lemmas.Nat.Bits.{bit_at-zero, bit_at_above, bit_at_and, bit_at_cat_low, bit_at_or, same_from_bits}
use Rattle.std.proofs.lemmas.List.{drop-append-le, drop-drop, take-append-le, drop-take, take-take}
use Rattle.idx_lanes.specs.Written.{written}
use Rattle.idx_lanes.proofs.CopyLemmas.{kept-written, placed-written}
use Rattle.idx_rowmajor.specs.Bits.{ArePlaces, Carries}
use Rattle.idx_rowmajor.specs.Picks.{AddsBits}
use Rattle.idx_rowmajor.specs.Rows.{sample_of}
use Rattle.idx_rowmajor.specs.Tables.{partner_of}
use Rattle.idx_rowmajor.specs.declared.bit_tables.BitTables.{BitTables}
use Rattle.idx_rowmajor.proofs.BitLemmas.{same_carried}

-- one sample more is written
pub picked_more : (want : ℕ → List ℕ) (size l : ℕ) (piece cur new : List ℕ) → length piece ≡ size → (l + 1) * size ≤ length cur → piece ≡ want l → new ≡ written (l * size) piece cur →
    ((o : ℕ) → o < l → sample_of size cur o ≡ want o) → (o : ℕ) → o < l + 1 → sample_of size new o ≡ want o
picked_more want size l piece cur new long room right is before o within =
    ap (λ xs. sample_of size xs o) is
    ∙ ⊎_elim
    (λ (less : o < l). kept-written want size l piece cur long room right o (before o less))
    (λ (most : l ≤ o).
    let same : o ≡ l = omega arith in
    subst (λ k. sample_of size (written (l * size) piece cur) k ≡ want k) (sym same) (placed-written want size l piece cur long room right))
    (cases_lt o l)

-- samples in front of a part that is written over keep their bytes
pub front_kept : (size start o : ℕ) (part old : List ℕ) → o < start → start * size ≤ length old → sample_of size (written (start * size) part old) o ≡ sample_of size old o
front_kept size start o part old less room =
    let at : ℕ = start * size in
    let from : ℕ = o * size in
    let rest : List ℕ = part ++ drop (at + length part) old in
    let next : (o + 1) * size ≡ from + size = grind arith in
    let below : from + size ≤ at = omega (arith, next, mul-le-mul_right size (let h : o + 1 ≤ start = omega arith in h)) in
    let long : length (take at old) ≡ at = length-take-le at old room in
    let left : at ≡ from + (at - from) = omega arith in
    let tail : drop from (take at old) ≡ take (at - from) (drop from old) = ap (λ n. drop from (take n old)) left ∙ drop-take from (at - from) old in
    let many : length (take (at - from) (drop from old)) ≡ at - from = length-take-le (at - from) (drop from old) (omega (arith, length-drop from old)) in
    ap (take size) (drop-append-le from (take at old) rest (omega arith) ∙ ap (λ xs. xs ++ rest) tail)
    ∙ take-append-le size (take (at - from) (drop from old)) rest (omega arith)
    ∙ take-take size (at - from) (drop from old) (omega arith)

-- and those of the part have its bytes
pub part_written : (size start l : ℕ) (part old : List ℕ) → (l + 1) * size ≤ length part → start * size ≤ length old → sample_of size (written (start * size) part old) (start + l) ≡ sample_of size part l
part_written size start l part old inside room =
    let at : ℕ = start * size in
    let rest : List ℕ = drop (at + length part) old in
    let long : length (take at old) ≡ at = length-take-le at old room in
    let next : (l + 1) * size ≡ l * size + size = grind arith in
    let place : (start + l) * size ≡ length (take at old) + l * size = (let h : (start + l) * size ≡ start * size + l * size = grind arith in h) ∙ ap (λ n. n + l * size) (sym long) in
    ap (λ n. take size (drop n (take at old ++ (part ++ rest)))) place
    ∙ ap (take size) (drop-append-add (take at old) (part ++ rest) (l * size) ∙ drop-append-le (l * size) part rest (omega arith))
    ∙ take-append-le size (drop (l * size) part) rest (omega (arith, length-drop (l * size) part))

-- the place that tables give for one of a run
pub partner_in_run : (tables : BitTables) (number l : ℕ) → l < 1024 → partner_of tables (number * 1024 + l) ≡ bit_or (slice_index tables.low l) (slice_index tables.high number)
partner_in_run tables number l few =
    let low : (number * 1024 + l) % 1024 ≡ l = omega arith in
    let high : (number * 1024 + l) / 1024 ≡ number = omega arith in
    ap (λ k. bit_or (slice_index tables.low k) (slice_index tables.high ((number * 1024 + l) / 1024))) low
    ∙ ap (λ k. bit_or (slice_index tables.low l) (slice_index tables.high k)) high

-- a sample of a window is one of the whole
pub window_sample : (size first j n m : ℕ) (xs : List ℕ) → m ≡ n → (j + 1) * size ≤ n → sample_of size (take m (drop (first * size) xs)) j ≡ sample_of size xs (first + j)
window_sample size first j n m xs is inside =
    let next : (j + 1) * size ≡ j * size + size = grind arith in
    let left : m ≡ j * size + (n - j * size) = omega (arith, is, inside, next) in
    let sum : first * size + j * size ≡ (first + j) * size = grind arith in
    ap (λ k. take size (drop (j * size) (take k (drop (first * size) xs)))) left
    ∙ ap (take size) (drop-take (j * size) (n - j * size) (drop (first * size) xs))
    ∙ take-take size (n - j * size) (drop (j * size) (drop (first * size) xs)) (omega arith)
    ∙ ap (take size) (drop-drop (j * size) (first * size) xs ∙ ap (λ k. drop k xs) sum)

-- ---- numbers that have no bit in common

-- where each bit has a place of its own, they go where each of them goes
pub AddsBits-carried : (bits : ℕ) (targets : List ℕ) (f : ℕ → ℕ) → ArePlaces bits targets → ((from : ℕ) → from < 2 ^ bits → Carries bits targets from (f from)) → AddsBits (2 ^ bits) f
AddsBits-carried bits targets f are carries a b apart within =
    let u : ℕ = f a in
    let v : ℕ = f b in
    let from_a : Carries bits targets a u = carries a (omega arith) in
    let from_b : Carries bits targets b v = carries b (omega arith) in
    let same : bit_or a b ≡ a + b = or_disjoint a b apart in
    let either : Carries bits targets (a + b) (bit_or u v) = record {
      small = or_lt bits u v from_a.small from_b.small;
      each = λ j inside.
          bit_at_or u v (slice_index targets j)
          ∙ ap (λ n. max n (bit_at v (slice_index targets j))) (from_a.each j inside)
          ∙ ap (λ n. max (bit_at a j) n) (from_b.each j inside)
          ∙ sym (bit_at_or a b j)
          ∙ ap (λ n. bit_at n j) same;
    } in
    let none : bit_and u v ≡ 0 = same_from_bits (bit_and u v) 0 (λ m.
    bit_at_and u v m
    ∙ ⊎_elim
    (λ (inside : m < bits).
    let at = are.onto m inside in
    let bit_u : bit_at u m ≡ bit_at a at.0 = ap (bit_at u) (sym at.2) ∙ from_a.each at.0 at.1 in
    let bit_v : bit_at v m ≡ bit_at b at.0 = ap (bit_at v) (sym at.2) ∙ from_b.each at.0 at.1 in
    ap (λ n. min n (bit_at v m)) bit_u ∙ ap (λ n. min (bit_at a at.0) n) bit_v
    ∙ sym (bit_at_and a b at.0) ∙ ap (λ n. bit_at n at.0) apart ∙ bit_at-zero at.0)
    (λ (beyond : bits ≤ m). ap (λ n. min n (bit_at v m)) (bit_at_above u bits m from_a.small beyond) ∙ (let h : min 0 (bit_at v m) ≡ 0 = omega arith in h))
    (cases_lt m bits)
    ∙ sym (bit_at-zero m)) in
    same_carried bits targets (a + b) (f (a + b)) (bit_or u v) are (carries (a + b) within) either ∙ or_disjoint u v none

-- a multiple of eight and a number below eight have none
pub eights_apart : (q i : ℕ) → i < 8 → bit_and (8 * q) i ≡ 0
eights_apart q i few = same_from_bits (bit_and (8 * q) i) 0 (λ m.
    bit_at_and (8 * q) i m
    ∙ ⊎_elim
    (λ (inside : m < 3).
    let shape : 8 * q ≡ q * 2 ^ 3 + 0 = omega arith in
    let none : bit_at (8 * q) m ≡ 0 = ap (λ n. bit_at n m) shape ∙ bit_at_cat_low q 3 0 m inside ∙ bit_at-zero m in
    ap (λ n. min n (bit_at i m)) none ∙ (let h : min 0 (bit_at i m) ≡ 0 = omega arith in h))
    (λ (beyond : 3 ≤ m). ap (λ n. min (bit_at (8 * q) m) n) (bit_at_above i 3 m few beyond) ∙ (let h : min (bit_at (8 * q) m) 0 ≡ 0 = omega arith in h))
    (cases_lt m 3)
    ∙ sym (bit_at-zero m))

-- nor do a number below eight and what is left to seven
pub sevens_apart : (i : ℕ) → i < 8 → bit_and i (7 - i) ≡ 0
sevens_apart zero few = refl
sevens_apart (suc zero) few = refl
sevens_apart (suc (suc zero)) few = refl
sevens_apart (suc (suc (suc zero))) few = refl
sevens_apart (suc (suc (suc (suc zero)))) few = refl
sevens_apart (suc (suc (suc (suc (suc zero))))) few = refl
sevens_apart (suc (suc (suc (suc (suc (suc zero)))))) few = refl
sevens_apart (suc (suc (suc (suc (suc (suc (suc zero))))))) few = refl
sevens_apart (suc (suc (suc (suc (suc (suc (suc (suc i)))))))) few = absurd (omega arith)
