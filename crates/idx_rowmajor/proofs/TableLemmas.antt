-- Two tables give the number that has the bits of a place, each at its place.
use Rattle.std.proofs.Common.{◌≡◌, ◌≢◌, ℕ, ◌+◌, ◌-◌, ◌*◌, ◌/◌, ◌%◌, ◌^◌, ◌<◌, ◌≤◌, List, length, get_or, refl, sym, ap, ◌∙◌, ⊎_elim, arith, subst}
use Rattle.std.specs.Int.{bit_at}
use Rattle.std.specs.Prelude.{bit_or, max, min}
use Rattle.std.proofs.Math.Pow.{pow_mono}
use Rattle.std.proofs.lemmas.Bool.{cases_lt}
use Rattle.std.proofs.Math.ListN.{set}
use Rattle.std.proofs.lemmas.List.{get_or-set_same, get_or-set_other, length-set}
use Rattle.std.proofs.lemmas.Nat.{pow_pos, pow-add}
use Rattle.std.proofs.lemmas.Nat.Bits.{bit_at-lt, bit_at-zero, bit_at_or, bit_at-pow_same, bit_at-pow_other, bit_at_above, bit_at_cat_low, bit_at_cat_high}
use Rattle.idx_rowmajor.specs.Bits.{ArePlaces, Carries}
use Rattle.idx_rowmajor.specs.Tables.{AreApart, IsEntry, AreEntries}
use Rattle.idx_rowmajor.proofs.BitLemmas.{lt_from_bits}

AreApart-places : (bits first count : ℕ) (places : List ℕ) → bits ≤ 20 → first + count ≤ bits → ArePlaces bits places → AreApart places first count
AreApart-places bits first count places few within are = record {
  small = λ j inside. let below : get_or places (first + j) 0 < bits = are.within (first + j) (omega arith) in omega arith;
  apart = λ i j less inside. are.apart (first + i) (first + j) (omega arith) (omega arith);
}

pub AreApart-low : (bits : ℕ) (places : List ℕ) → bits ≤ 20 → ArePlaces bits places → AreApart places 0 (min bits 10)
AreApart-low bits places few are = AreApart-places bits 0 (min bits 10) places few (omega arith) are

pub AreApart-high : (bits : ℕ) (places : List ℕ) → bits ≤ 20 → ArePlaces bits places → AreApart places 10 (bits - 10)
AreApart-high bits places few are = ⊎_elim
    (λ (less : bits < 10). record { small = λ j inside. absurd (omega arith); apart = λ i j order inside. absurd (omega arith) })
    (λ (most : 10 ≤ bits). AreApart-places bits 10 (bits - 10) places few (omega arith) are)
    (cases_lt bits 10)

-- ---- one bit more

IsEntry-zero : (places : List ℕ) (first : ℕ) → IsEntry places first 0 0 0
IsEntry-zero places first = record { each = λ j none. absurd (omega arith); others = λ m apart. bit_at-zero m }

pub AreEntries-none : (places entries : List ℕ) (first : ℕ) → get_or entries 0 0 ≡ 0 → AreEntries places first 0 entries
AreEntries-none places entries first is from small =
    let none : from ≡ 0 = omega (arith, small) in
    subst (λ n. IsEntry places first 0 n (get_or entries n 0)) (sym none) (subst (IsEntry places first 0 0) (sym is) (IsEntry-zero places first))

-- the next bit is 0
IsEntry-without : (places : List ℕ) (first bits from to : ℕ) → AreApart places first (bits + 1) → from < 2 ^ bits → IsEntry places first bits from to → IsEntry places first (bits + 1) from to
IsEntry-without places first bits from to are small entry = record {
  each = λ j inside. ⊎_elim
      (λ (less : j < bits). entry.each j less)
      (λ (most : bits ≤ j).
      let same : j ≡ bits = omega arith in
      entry.others (get_or places (first + j) 0) (λ i below equal. are.apart i j (omega arith) inside equal)
      ∙ sym (bit_at_above from bits j small most))
      (cases_lt j bits);
  others = λ m apart. entry.others m (λ j inside. apart j (omega arith));
}

-- the next bit is 1
IsEntry-with : (places : List ℕ) (first bits from to : ℕ) → AreApart places first (bits + 1) → from < 2 ^ bits → IsEntry places first bits from to →
    IsEntry places first (bits + 1) (2 ^ bits + from) (bit_or to (2 ^ get_or places (first + bits) 0))
IsEntry-with places first bits from to are small entry =
    let place : ℕ = get_or places (first + bits) 0 in
    let shape : 1 * 2 ^ bits + from ≡ 2 ^ bits + from = omega arith in
    record {
      each = λ j inside. ⊎_elim
          (λ (less : j < bits).
          let other : get_or places (first + j) 0 ≢ place = are.apart j bits less (omega arith) in
          let bit : bit_at from j < 2 = bit_at-lt from j in
          bit_at_or to (2 ^ place) (get_or places (first + j) 0)
          ∙ ap (λ n. max (bit_at to (get_or places (first + j) 0)) n) (bit_at-pow_other place (get_or places (first + j) 0) other)
          ∙ ap (λ n. max n 0) (entry.each j less) ∙ omega arith
          ∙ sym (bit_at_cat_low 1 bits from j less) ∙ ap (λ n. bit_at n j) shape)
          (λ (most : bits ≤ j).
          let same : j ≡ bits = omega arith in
          let none : bit_at to place ≡ 0 = entry.others place (λ i below equal. are.apart i bits below (omega arith) equal) in
          let lowest : j - bits ≡ 0 = omega arith in
          let at : get_or places (first + j) 0 ≡ place = ap (λ n. get_or places (first + n) 0) same in
          ap (bit_at (bit_or to (2 ^ place))) at
          ∙ bit_at_or to (2 ^ place) place ∙ ap (λ n. max n (bit_at (2 ^ place) place)) none ∙ ap (λ n. max 0 n) (bit_at-pow_same place)
          ∙ sym (ap (λ n. bit_at n j) (sym shape) ∙ bit_at_cat_high 1 bits from j small most ∙ ap (bit_at 1) lowest))
          (cases_lt j bits);
      others = λ m apart.
          let other : m ≢ place = λ e. apart bits (omega arith) (sym e) in
          bit_at_or to (2 ^ place) m ∙ ap (λ n. max (bit_at to m) n) (bit_at-pow_other place m other)
          ∙ ap (λ n. max n 0) (entry.others m (λ j inside. apart j (omega arith)));
    }

pub AreEntries-more : (places old new : List ℕ) (first bits half bit : ℕ) → AreApart places first (bits + 1) → half ≡ 2 ^ bits → bit ≡ 2 ^ get_or places (first + bits) 0 →
    ((k : ℕ) → k < half → get_or new k 0 ≡ get_or old k 0) → ((k : ℕ) → k < half → get_or new (half + k) 0 ≡ bit_or (get_or old k 0) bit) →
    AreEntries places first bits old → AreEntries places first (bits + 1) new
AreEntries-more places old new first bits half bit are is_half is_bit lower upper entries from small =
    let whole : 2 ^ (bits + 1) ≡ 2 ^ bits * 2 = pow-add 2 bits 1 in
    ⊎_elim
    (λ (less : from < 2 ^ bits).
    subst (IsEntry places first (bits + 1) from) (sym (lower from (omega arith))) (IsEntry-without places first bits from (get_or old from 0) are less (entries from less)))
    (λ (most : 2 ^ bits ≤ from).
    let k : ℕ = from - 2 ^ bits in
    let below : k < 2 ^ bits = omega arith in
    let number : 2 ^ bits + k ≡ from = omega arith in
    let at : get_or new from 0 ≡ bit_or (get_or old k 0) (2 ^ get_or places (first + bits) 0) =
    ap (λ n. get_or new n 0) (let h : from ≡ half + k = omega arith in h) ∙ upper k (omega arith) ∙ ap (bit_or (get_or old k 0)) is_bit in
    subst (IsEntry places first (bits + 1) from) (sym at)
    (subst (λ n. IsEntry places first (bits + 1) n (bit_or (get_or old k 0) (2 ^ get_or places (first + bits) 0))) number (IsEntry-with places first bits k (get_or old k 0) are below (entries k below))))
    (cases_lt from (2 ^ bits))

-- ---- both tables

pub Carries-tables : (bits from : ℕ) (places low high : List ℕ) → ArePlaces bits places → from < 2 ^ bits → AreEntries places 0 (min bits 10) low → AreEntries places 10 (bits - 10) high →
    Carries bits places from (bit_or (get_or low (from % 1024) 0) (get_or high (from / 1024) 0))
Carries-tables bits from places low high are small lows highs =
    let a : ℕ = from % 1024 in
    let b : ℕ = from / 1024 in
    let u : ℕ = get_or low a 0 in
    let v : ℕ = get_or high b 0 in
    let parts : from ≡ b * 2 ^ 10 + a = omega arith in
    let few : a < 2 ^ 10 = omega arith in
    let small_a : a < 2 ^ min bits 10 = ⊎_elim
    (λ (less : bits < 10). let is : min bits 10 ≡ bits = omega arith in subst (λ n. a < 2 ^ n) (sym is) (omega arith))
    (λ (most : 10 ≤ bits). let is : min bits 10 ≡ 10 = omega arith in subst (λ n. a < 2 ^ n) (sym is) few)
    (cases_lt bits 10) in
    let small_b : b < 2 ^ (bits - 10) = ⊎_elim
    (λ (less : bits < 10). let power : 2 ^ bits ≤ 2 ^ 10 = pow_mono (let h : bits ≤ 10 = omega arith in h) in omega (arith, pow_pos (bits - 10)))
    (λ (most : 10 ≤ bits).
    let power : 2 ^ bits ≡ 2 ^ 10 * 2 ^ (bits - 10) = ap (λ n. 2 ^ n) (let h : bits ≡ 10 + (bits - 10) = omega arith in h) ∙ pow-add 2 10 (bits - 10) in
    omega arith)
    (cases_lt bits 10) in
    let low_entry : IsEntry places 0 (min bits 10) a u = lows a small_a in
    let high_entry : IsEntry places 10 (bits - 10) b v = highs b small_b in
    record {
      small = lt_from_bits (bit_or u v) bits (λ m above.
          bit_at_or u v m
          ∙ ap (λ n. max n (bit_at v m)) (low_entry.others m (λ j inside same. let below : get_or places (0 + j) 0 < bits = are.within (0 + j) (omega arith) in omega arith))
          ∙ ap (λ n. max 0 n) (high_entry.others m (λ j inside same. let below : get_or places (10 + j) 0 < bits = are.within (10 + j) (omega arith) in omega arith)));
      each = λ i inside. ⊎_elim
          (λ (less : i < 10).
          let zero_i : 0 + i ≡ i = omega arith in
          let here : bit_at u (get_or places i 0) ≡ bit_at a i = ap (λ n. bit_at u (get_or places n 0)) (sym zero_i) ∙ low_entry.each i (omega arith) in
          let none : bit_at v (get_or places i 0) ≡ 0 = high_entry.others (get_or places i 0) (λ j within same. are.apart i (10 + j) (omega arith) (omega arith) (sym same)) in
          let bit : bit_at a i < 2 = bit_at-lt a i in
          bit_at_or u v (get_or places i 0) ∙ ap (λ n. max (bit_at u (get_or places i 0)) n) none ∙ ap (λ n. max n 0) here ∙ omega arith
          ∙ sym (ap (λ n. bit_at n i) parts ∙ bit_at_cat_low b 10 a i less))
          (λ (most : 10 ≤ i).
          let j : ℕ = i - 10 in
          let at : 10 + j ≡ i = omega arith in
          let here : bit_at v (get_or places i 0) ≡ bit_at b j = ap (λ n. bit_at v (get_or places n 0)) (sym at) ∙ high_entry.each j (omega arith) in
          let none : bit_at u (get_or places i 0) ≡ 0 = low_entry.others (get_or places i 0) (λ k within same. are.apart (0 + k) i (omega arith) inside same) in
          bit_at_or u v (get_or places i 0) ∙ ap (λ n. max n (bit_at v (get_or places i 0))) none ∙ ap (λ n. max 0 n) here ∙ omega arith
          ∙ sym (ap (λ n. bit_at n i) parts ∙ bit_at_cat_high b 10 a i few most))
          (cases_lt i 10);
    }

-- ---- the walk over half a table

-- the first half stays, and so many entries of the second half are those of the first with one more bit
pub record IsAdding (half bit done : ℕ) (old new : List ℕ) : Type 0 where
  pub room : length new ≡ 1024
  pub first : (k : ℕ) → k < half → get_or new k 0 ≡ get_or old k 0
  pub second : (k : ℕ) → k < done → get_or new (half + k) 0 ≡ bit_or (get_or old k 0) bit

pub IsAdding-none : (half bit : ℕ) (old : List ℕ) → length old ≡ 1024 → IsAdding half bit 0 old old
IsAdding-none half bit old room = record { room = room; first = λ k inside. refl; second = λ k none. absurd (omega arith) }

pub IsAdding-more : (half bit done value : ℕ) (old new : List ℕ) → 2 * half ≤ 1024 → done < half → value ≡ bit_or (get_or new done 0) bit → IsAdding half bit done old new → IsAdding half bit (done + 1) old (set new (half + done) value)
IsAdding-more half bit done value old new few within is adding = record {
  room = length-set new (half + done) value ∙ adding.room;
  first = λ k inside. get_or-set_other new (half + done) k value 0 (λ e. omega arith) ∙ adding.first k inside;
  second = λ k below. ⊎_elim
      (λ (less : k < done). get_or-set_other new (half + done) (half + k) value 0 (λ e. omega arith) ∙ adding.second k less)
      (λ (most : done ≤ k).
      let same : k ≡ done = omega arith in
      ap (λ n. get_or (set new (half + done) value) (half + n) 0) same
      ∙ get_or-set_same new (half + done) value 0 (omega (arith, adding.room))
      ∙ is ∙ ap (λ n. bit_or n bit) (adding.first done within) ∙ ap (λ n. bit_or (get_or old n 0) bit) (sym same))
      (cases_lt k done);
}

pub AreApart-fewer : (places : List ℕ) (first few many : ℕ) → few ≤ many → AreApart places first many → AreApart places first few
AreApart-fewer places first few many le are = record {
  small = λ j inside. are.small j (omega arith);
  apart = λ i j less inside. are.apart i j less (omega arith);
}
