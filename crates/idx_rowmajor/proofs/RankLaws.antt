-- The ranks of a block's points are one to one from the points of the block onto the numbers of so many bits.
use Rattle.std.proofs.Common.{◌≡◌, ℕ, suc, ◌+◌, ◌-◌, ◌*◌, ◌/◌, ◌%◌, ◌^◌, ◌<◌, ◌≤◌, List, length, sym, ap, ◌∙◌, ⊎_elim, arith, subst}
use Rattle.std.proofs.Math.Nat.{mod-add-div', div-eq_of_lt}
use Rattle.std.proofs.Math.Pow.{pow_mono}
use Rattle.std.proofs.lemmas.Nat.{pow_pos, pow-add, div-mul-add, mod_below, mul-add-lt}
use Rattle.idx_hz.specs.Mask.{NamesAxes, HasAddress}
use Rattle.idx_hz.specs.Address.{hz_at, hz_address}
use Rattle.idx_hz.proofs.HzLemmas.{hz_at-lt}
use Rattle.idx_hz.proofs.AddressLaws.{inverse_of, hz_address-injective, hz_address-onto}
use Rattle.idx_rowmajor.specs.Digits.{row_rank, rank_of_digits, digits_behind}
use Rattle.idx_rowmajor.proofs.WindowLemmas.{rank_of_digits-lt, unrank, unrank-lt, unrank-rank_of_digits, rank_of_digits-unrank}
use Rattle.idx_rowmajor.proofs.BlockRankLemmas.{IsLater, row_rank-later, row_rank-first}
use Rattle.idx_rowmajor.proofs.DigitLemmas.{length-digits_behind}
use Rattle.idx_rowmajor.proofs.TargetLemmas.{highest_of}
use Rattle.idx_rowmajor.proofs.BlockPlaceLemmas.{NamesAxes-digits_behind}

-- the points of a block have the ranks of the numbers of so many bits, each number having its address
pub record IsRanked (mask : List ℕ) (axes bits block : ℕ) (digits : List ℕ) (address : ℕ → ℕ) : Type 0 where
  pub len : length digits ≡ bits
  pub named : NamesAxes digits axes
  pub rank : (t : ℕ) (p : List ℕ) → t < 2 ^ bits → length p ≡ axes → HasAddress mask p → hz_address mask p ≡ address t → row_rank mask axes bits block p ≡ rank_of_digits digits axes t
  pub has : (p : List ℕ) → HasAddress mask p → hz_address mask p / 2 ^ bits ≡ block → (t : ℕ) × (t < 2 ^ bits) × (hz_address mask p ≡ address t)
  pub inside : (t : ℕ) → t < 2 ^ bits → (address t / 2 ^ bits ≡ block) × (address t < 2 ^ length mask)

IsRanked-later : (mask : List ℕ) (axes bits k block : ℕ) → IsLater mask axes bits k block → block < 2 ^ (length mask - bits) → IsRanked mask axes bits block (digits_behind mask k bits) (λ t. block * 2 ^ bits + t)
IsRanked-later mask axes bits k block later exists = record {
  len = length-digits_behind mask k bits (omega (arith, later.fits));
  named = NamesAxes-digits_behind mask axes k bits later.named;
  rank = λ t p small len has address. row_rank-later mask axes bits k block later t p small len has address;
  has = λ p has is. (hz_address mask p % 2 ^ bits, mod_below (hz_address mask p) (2 ^ bits) (pow_pos bits), omega (arith, mod-add-div' (hz_address mask p) (2 ^ bits), ap (λ n. n * 2 ^ bits) is));
  inside = λ t small.
      let whole : 2 ^ length mask ≡ 2 ^ bits * 2 ^ (length mask - bits) = ap (λ n. 2 ^ n) (let h : length mask ≡ bits + (length mask - bits) = omega (arith, later.fits) in h) ∙ pow-add 2 bits (length mask - bits) in
      (div-mul-add block (2 ^ bits) t small, omega (arith, mul-add-lt block (2 ^ bits) t (2 ^ (length mask - bits)) exists small));
}

IsRanked-first : (mask : List ℕ) (axes bits : ℕ) → NamesAxes mask axes → bits ≤ length mask → IsRanked mask axes bits 0 (digits_behind mask 0 bits) (hz_at bits)
IsRanked-first mask axes bits named fits = record {
  len = length-digits_behind mask 0 bits (omega arith);
  named = NamesAxes-digits_behind mask axes 0 bits named;
  rank = λ t p small len has address. row_rank-first mask axes bits named fits t p small len has address;
  has = λ p has is.
      let below : hz_address mask p < 2 ^ bits = omega (arith, mod-add-div' (hz_address mask p) (2 ^ bits), ap (λ n. n * 2 ^ bits) is, mod_below (hz_address mask p) (2 ^ bits) (pow_pos bits)) in
      let found = inverse_of bits (hz_address mask p) below in
      (found.0, found.1.small, sym found.1.address);
  inside = λ t small.
      let below : hz_at bits t < 2 ^ bits = hz_at-lt bits t small in
      (div-eq_of_lt below, omega (arith, pow_mono fits));
}

-- some digits rank the points of each block
pub Ranked : List ℕ → ℕ → ℕ → ℕ → Type 0
Ranked mask axes bits block = (digits : List ℕ) × (address : ℕ → ℕ) × IsRanked mask axes bits block digits address

ranked_of : (mask : List ℕ) (axes bits block : ℕ) → NamesAxes mask axes → bits ≤ length mask → block < 2 ^ (length mask - bits) → Ranked mask axes bits block
unfolding Ranked
ranked_of mask axes bits block named fits exists = ⊎_elim
    (λ (none : block ≡ 0). subst (λ b. (digits : List ℕ) × (address : ℕ → ℕ) × IsRanked mask axes bits b digits address) (sym none) (digits_behind mask 0 bits, hz_at bits, IsRanked-first mask axes bits named fits))
    (λ (one : (k : ℕ) × (k < length mask - bits) × (2 ^ k ≤ block) × (block < 2 ^ suc k)).
    (digits_behind mask one.0 bits, (λ t. block * 2 ^ bits + t), IsRanked-later mask axes bits one.0 block (record { named = named; fits = omega (arith, one.1); from = one.2; to = one.3 }) exists))
    (highest_of (length mask - bits) block exists)

pub row_rank-lt : (mask : List ℕ) (axes bits block : ℕ) (p : List ℕ) → NamesAxes mask axes → bits ≤ length mask → block < 2 ^ (length mask - bits) → length p ≡ axes → HasAddress mask p → hz_address mask p / 2 ^ bits ≡ block → row_rank mask axes bits block p < 2 ^ bits
unfolding Ranked
row_rank-lt mask axes bits block p named fits exists len has is =
    let ranked = ranked_of mask axes bits block named fits exists in
    let at = ranked.2.has p has is in
    omega (arith, ranked.2.rank at.0 p at.1 len has at.2, rank_of_digits-lt ranked.0 axes at.0 ranked.2.named, ap (λ n. 2 ^ n) ranked.2.len)

pub row_rank-injective : (mask : List ℕ) (axes bits block : ℕ) (p q : List ℕ) → NamesAxes mask axes → bits ≤ length mask → block < 2 ^ (length mask - bits) → length p ≡ axes → length q ≡ axes → HasAddress mask p → HasAddress mask q →
    hz_address mask p / 2 ^ bits ≡ block → hz_address mask q / 2 ^ bits ≡ block → row_rank mask axes bits block p ≡ row_rank mask axes bits block q → p ≡ q
unfolding Ranked
row_rank-injective mask axes bits block p q named fits exists len_p len_q has_p has_q is_p is_q same =
    let ranked = ranked_of mask axes bits block named fits exists in
    let digits : List ℕ = ranked.0 in
    let at_p = ranked.2.has p has_p is_p in
    let at_q = ranked.2.has q has_q is_q in
    let ranks : rank_of_digits digits axes at_p.0 ≡ rank_of_digits digits axes at_q.0 = sym (ranked.2.rank at_p.0 p at_p.1 len_p has_p at_p.2) ∙ same ∙ ranked.2.rank at_q.0 q at_q.1 len_q has_q at_q.2 in
    let small_p : at_p.0 < 2 ^ length digits = omega (arith, at_p.1, ap (λ n. 2 ^ n) ranked.2.len) in
    let small_q : at_q.0 < 2 ^ length digits = omega (arith, at_q.1, ap (λ n. 2 ^ n) ranked.2.len) in
    let one : at_p.0 ≡ at_q.0 = sym (unrank-rank_of_digits digits axes at_p.0 ranked.2.named small_p) ∙ ap (unrank digits axes) ranks ∙ unrank-rank_of_digits digits axes at_q.0 ranked.2.named small_q in
    hz_address-injective mask p q has_p has_q (len_p ∙ sym len_q) (at_p.2 ∙ ap ranked.1 one ∙ sym at_q.2)

pub row_rank-onto : (mask : List ℕ) (axes bits block place : ℕ) → NamesAxes mask axes → bits ≤ length mask → block < 2 ^ (length mask - bits) → place < 2 ^ bits →
    (p : List ℕ) × (length p ≡ axes) × HasAddress mask p × (hz_address mask p / 2 ^ bits ≡ block) × (row_rank mask axes bits block p ≡ place)
unfolding Ranked
row_rank-onto mask axes bits block place named fits exists small =
    let ranked = ranked_of mask axes bits block named fits exists in
    let digits : List ℕ = ranked.0 in
    let few : place < 2 ^ length digits = omega (arith, ap (λ n. 2 ^ n) ranked.2.len) in
    let t : ℕ = unrank digits axes place in
    let below : t < 2 ^ bits = omega (arith, unrank-lt digits axes place, ap (λ n. 2 ^ n) ranked.2.len) in
    let inside = ranked.2.inside t below in
    let p = hz_address-onto mask axes (ranked.1 t) named inside.1 in
    (p.0, p.1, p.2, ap (λ n. n / 2 ^ bits) p.3 ∙ inside.0, ranked.2.rank t p.0 below p.1 p.2 p.3 ∙ rank_of_digits-unrank digits axes place ranked.2.named few)
