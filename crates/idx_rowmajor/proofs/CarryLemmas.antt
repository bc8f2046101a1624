-- A number gets the bits of another one, each at its place, bit by bit.
use Rattle.std.proofs.Common.{◌≡◌, ◌≢◌, ℕ, ◌+◌, ◌*◌, ◌^◌, ◌<◌, ◌≤◌, List, get_or, sym, ap, ◌∙◌, ⊎_elim, arith}
use Rattle.std.specs.Int.{bit_at}
use Rattle.std.specs.Prelude.{bit_or, max}
use Rattle.std.proofs.lemmas.Bool.{cases_lt, cases_eq}
use Rattle.std.proofs.lemmas.Nat.Bits.{bit_at-lt, bit_at-zero, bit_at_or, bit_at-pow_same, bit_at-pow_other}
use Rattle.idx_rowmajor.specs.Bits.{ArePlaces, Carries}
use Rattle.idx_rowmajor.proofs.BitLemmas.{lt_from_bits}

pub record IsCarrying (bits bit : ℕ) (places : List ℕ) (from to : ℕ) : Type 0 where
  pub each : (j : ℕ) → j < bit → j < bits → bit_at to (get_or places j 0) ≡ bit_at from j
  pub others : (m : ℕ) → ((j : ℕ) → j < bit → j < bits → get_or places j 0 ≢ m) → bit_at to m ≡ 0

pub IsCarrying-none : (bits : ℕ) (places : List ℕ) (from : ℕ) → IsCarrying bits 0 places from 0
IsCarrying-none bits places from = record { each = λ j below within. absurd (omega arith); others = λ m none. bit_at-zero m }

pub bit-same : (b k : ℕ) → b < 2 → bit_at (b * 2 ^ k) k ≡ b
bit-same b k small = ⊎_elim
    (λ (none : b ≡ 0). ap (λ n. bit_at n k) (let h : b * 2 ^ k ≡ 0 = ap (λ n. n * 2 ^ k) none ∙ omega arith in h) ∙ bit_at-zero k ∙ sym none)
    (λ (some : b ≢ 0). let one : b ≡ 1 = omega arith in ap (λ n. bit_at n k) (let h : b * 2 ^ k ≡ 2 ^ k = ap (λ n. n * 2 ^ k) one ∙ omega arith in h) ∙ bit_at-pow_same k ∙ sym one)
    (cases_eq b 0)

pub bit-other : (b k m : ℕ) → b < 2 → m ≢ k → bit_at (b * 2 ^ k) m ≡ 0
bit-other b k m small other = ⊎_elim
    (λ (none : b ≡ 0). ap (λ n. bit_at n m) (let h : b * 2 ^ k ≡ 0 = ap (λ n. n * 2 ^ k) none ∙ omega arith in h) ∙ bit_at-zero m)
    (λ (some : b ≢ 0). let one : b ≡ 1 = omega arith in ap (λ n. bit_at n m) (let h : b * 2 ^ k ≡ 2 ^ k = ap (λ n. n * 2 ^ k) one ∙ omega arith in h) ∙ bit_at-pow_other k m other)
    (cases_eq b 0)

pub IsCarrying-more : (bits bit : ℕ) (places : List ℕ) (from to b : ℕ) → bit < bits → ArePlaces bits places → b ≡ bit_at from bit → IsCarrying bits bit places from to → IsCarrying bits (bit + 1) places from (bit_or to (b * 2 ^ get_or places bit 0))
IsCarrying-more bits bit places from to b within are is carrying =
    let place : ℕ = get_or places bit 0 in
    let small : b < 2 = omega (arith, bit_at-lt from bit) in
    record {
      each = λ j below inside. ⊎_elim
          (λ (less : j < bit).
          let other : get_or places j 0 ≢ place = are.apart j bit less within in
          bit_at_or to (b * 2 ^ place) (get_or places j 0) ∙ ap (λ n. max (bit_at to (get_or places j 0)) n) (bit-other b place (get_or places j 0) small other) ∙ omega (arith, carrying.each j less inside))
          (λ (most : bit ≤ j).
          let same : j ≡ bit = omega arith in
          let none : bit_at to place ≡ 0 = carrying.others place (λ i less _. are.apart i bit less within) in
          ap (λ n. bit_at (bit_or to (b * 2 ^ place)) (get_or places n 0)) same ∙ bit_at_or to (b * 2 ^ place) place
          ∙ ap (λ n. max (bit_at to place) n) (bit-same b place small) ∙ omega (arith, ap (bit_at from) same))
          (cases_lt j bit);
      others = λ m apart.
          let other : m ≢ place = λ e. apart bit (omega arith) within (sym e) in
          let none : bit_at to m ≡ 0 = carrying.others m (λ j below inside. apart j (omega arith) inside) in
          bit_at_or to (b * 2 ^ place) m ∙ ap (λ n. max (bit_at to m) n) (bit-other b place m small other) ∙ omega arith;
    }

pub IsCarrying-all : (bits bit : ℕ) (places : List ℕ) (from to : ℕ) → bits ≤ bit → ArePlaces bits places → IsCarrying bits bit places from to → Carries bits places from to
IsCarrying-all bits bit places from to all are carrying = record {
  small = lt_from_bits to bits (λ m above. carrying.others m (λ j below inside same. let low : get_or places j 0 < bits = are.within j inside in omega arith));
  each = λ j inside. carrying.each j (omega arith) inside;
}
