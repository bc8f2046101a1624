-- Places of bits that are taken back.
use Rattle.std.proofs.Common.{◌≡◌, ℕ, ◌+◌, ◌^◌, ◌<◌, ◌≤◌, List, length, get_or, sym, ap, ◌∙◌, ⊎_elim, arith, subst}
use Rattle.std.specs.Int.{bit_at}
use Rattle.std.proofs.Math.ListN.{set}
use Rattle.std.proofs.lemmas.Bool.{cases_lt}
use Rattle.std.proofs.lemmas.List.{get_or-set_same, get_or-set_other, length-set}
use Rattle.idx_rowmajor.specs.Bits.{ArePlaces, Carries}
use Rattle.idx_rowmajor.specs.Targets.{AreInverse}

pub ArePlaces-inverse : (bits : ℕ) (targets inverse : List ℕ) → AreInverse bits targets inverse → ArePlaces bits targets → ArePlaces bits inverse
ArePlaces-inverse bits targets inverse back are = record {
  within = λ i inside. let at = are.onto i inside in subst (λ k. k < bits) (sym (ap (λ k. get_or inverse k 0) (sym at.2) ∙ back at.0 at.1)) at.1;
  apart = λ i j less inside same.
      let at_i = are.onto i (omega arith) in
      let at_j = are.onto j inside in
      let one : at_i.0 ≡ at_j.0 = sym (back at_i.0 at_i.1) ∙ ap (λ k. get_or inverse k 0) at_i.2 ∙ same ∙ sym (ap (λ k. get_or inverse k 0) at_j.2) ∙ back at_j.0 at_j.1 in
      let equal : i ≡ j = sym at_i.2 ∙ ap (λ k. get_or targets k 0) one ∙ at_j.2 in
      omega arith;
  onto = λ m inside. (get_or targets m 0, are.within m inside, back m inside);
}

pub Carries-inverse : (bits : ℕ) (targets inverse : List ℕ) (from to : ℕ) → AreInverse bits targets inverse → ArePlaces bits targets → from < 2 ^ bits → Carries bits targets from to → Carries bits inverse to from
Carries-inverse bits targets inverse from to back are small carried = record {
  small = small;
  each = λ i inside.
      let at = are.onto i inside in
      ap (bit_at from) (ap (λ k. get_or inverse k 0) (sym at.2) ∙ back at.0 at.1) ∙ sym (carried.each at.0 at.1) ∙ ap (bit_at to) at.2;
}

-- what is carried back carries the place
pub Carries-back : (bits : ℕ) (targets inverse : List ℕ) (place offset : ℕ) → AreInverse bits targets inverse → ArePlaces bits targets → place < 2 ^ bits → Carries bits inverse place offset → Carries bits targets offset place
Carries-back bits targets inverse place offset back are small carried = record {
  small = small;
  each = λ j within. sym (carried.each (get_or targets j 0) (are.within j within)) ∙ ap (bit_at offset) (back j within);
}

-- ---- the walk that takes places back

pub record IsInverting (bits bit : ℕ) (targets inverse : List ℕ) : Type 0 where
  pub room : length inverse ≡ 20
  pub known : (j : ℕ) → j < bit → j < bits → get_or inverse (get_or targets j 0) 0 ≡ j

pub IsInverting-more : (bits bit : ℕ) (targets inverse : List ℕ) → bits ≤ 20 → bit < bits → ArePlaces bits targets → IsInverting bits bit targets inverse → IsInverting bits (bit + 1) targets (set inverse (get_or targets bit 0) bit)
IsInverting-more bits bit targets inverse few within are inverting =
    let at : ℕ = get_or targets bit 0 in
    let small : at < bits = are.within bit within in
    record {
      room = length-set inverse at bit ∙ inverting.room;
      known = λ j below inside. ⊎_elim
          (λ (less : j < bit).
          get_or-set_other inverse at (get_or targets j 0) bit 0 (are.apart j bit less within) ∙ inverting.known j less inside)
          (λ (most : bit ≤ j).
          let same : j ≡ bit = omega arith in
          ap (λ n. get_or (set inverse at bit) (get_or targets n 0) 0) same ∙ get_or-set_same inverse at bit 0 (omega (arith, inverting.room)) ∙ sym same)
          (cases_lt j bit);
    }
