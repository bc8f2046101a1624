-- Block 0, level by level: its first sample, and behind it the levels, each as many addresses as there are before it.
use Rattle.std.proofs.Common.{◌≡◌, ◌≢◌, ℕ, ◌+◌, ◌-◌, ◌*◌, ◌/◌, ◌%◌, ◌^◌, ◌<◌, ◌≤◌, Bool, true, false, cond, eqb, List, Some, length, take, drop, eqb-true, eq-eqb, refl, sym, ap, ◌∙◌, subst, inl, inr, arith}
use Rattle.std.specs.Prelude.{nat_lt}
use Rattle.std.proofs.lemmas.Bool.Decides.{nat_tests}
use Rattle.std.proofs.lemmas.Bool.{cases_lt, ne_eqb}
use Rattle.std.proofs.lemmas.Option.{same_Some}
use Rattle.std.proofs.lemmas.List.{drop-drop, drop-take}
use Rattle.std.proofs.lemmas.Nat.{div-add-mod', div-mul-add, pow_pos}
use Rattle.std.proofs.Math.Nat.{div-eq_of_lt, mod-lt, mul-le-mul_right}
use Rattle.std.proofs.Math.Seq.{take-length, take-take}
use Rattle.idx_lanes.specs.Written.{written}
use Rattle.std.specs.List.{slice_get}
use Rattle.idx_geom.specs.Region.{LiesIn, place_of}
use Rattle.idx_hz.specs.Answer.{has_level}
use Rattle.idx_hz.specs.Address.{hz_address}
use Rattle.idx_lanes.proofs.CopyLemmas.{kept-written, placed-written}
use Rattle.idx_lanes.proofs.LevelLemmas.{double}
use Rattle.idx_scatter.specs.Asked.{Asked, asked_before, asked_points}
use Rattle.idx_scatter.proofs.AskedLemmas.{asked-from}
use Rattle.idx_scatter.specs.Scatter.{AreFirstScattered, IsScattered, is_in_block, put_of_block, put_of_first, sample_of}

below : (n m : ℕ) → n < m → nat_lt n m ≡ true
below n m less = grind (arith, nat_tests)

no_bytes : (size : ℕ) → 0 * size ≡ 0
no_bytes size = omega arith

not_below : (n m : ℕ) → m ≤ n → nat_lt n m ≡ false
not_below n m ge = grind (arith, nat_tests)

-- ---- one sample

put-here : (size at : ℕ) (piece old : List ℕ) → length piece ≡ size → (at + 1) * size ≤ length old → sample_of size (written (at * size) piece old) at ≡ piece
put-here size at piece old long room = placed-written (λ o. piece) size at piece old long room refl

put-other : (size at o : ℕ) (piece old : List ℕ) → length piece ≡ size → (at + 1) * size ≤ length old → o ≢ at → sample_of size (written (at * size) piece old) o ≡ sample_of size old o
put-other size at o piece old long room apart =
    let want : ℕ → List ℕ = λ (n : ℕ). cond (eqb n at) piece (sample_of size old n) in
    let here : want at ≡ piece = ap (λ (b : Bool). cond b piece (sample_of size old at)) (eq-eqb at at refl) in
    let there : want o ≡ sample_of size old o = ap (λ (b : Bool). cond b piece (sample_of size old o)) (ne_eqb o at apart) in
    kept-written want size at piece old long room (sym here) o (sym there) ∙ there

-- ---- what stands behind the first addresses

first-below : (a : Asked) (count size : ℕ) (samples old : List ℕ) (i : ℕ) (p : List ℕ) → hz_address a.mask p < count →
    put_of_first a count size samples old i p ≡ sample_of size samples (hz_address a.mask p)
first-below a count size samples old i p less =
    ap (λ (b : Bool). cond b (sample_of size samples (hz_address a.mask p)) (sample_of size old i)) (below (hz_address a.mask p) count less)

first-behind : (a : Asked) (count size : ℕ) (samples old : List ℕ) (i : ℕ) (p : List ℕ) → count ≤ hz_address a.mask p → put_of_first a count size samples old i p ≡ sample_of size old i
first-behind a count size samples old i p ge =
    ap (λ (b : Bool). cond b (sample_of size samples (hz_address a.mask p)) (sample_of size old i)) (not_below (hz_address a.mask p) count ge)

-- the first sample is put at the place of its point, where that is asked for
pub first-in : (a : Asked) (size o : ℕ) (sample old first new : List ℕ) → ((p : List ℕ) → LiesIn a.region p → hz_address a.mask p ≡ 0 → p ≡ first) → hz_address a.mask first ≡ 0 →
    slice_get (asked_points a) o ≡ Some first → length sample ≡ size → (o + 1) * size ≤ length old → new ≡ written (o * size) sample old → AreFirstScattered a 1 size sample old new
first-in a size o sample old first new only address stands long room is i p at =
    let from = asked-from a i p at in
    let there = asked-from a o first stands in
    ap (λ t. sample_of size t i) is
    ∙ elim (cases_lt (hz_address a.mask p) 1) [
      | inl less ↦
          let none : hz_address a.mask p ≡ 0 = omega (arith, less) in
          let same : p ≡ first = only p from.inside none in
          let place : i ≡ o = sym from.before ∙ ap (λ q. asked_before a (place_of a.region q)) same ∙ there.before in
          let whole : sample_of size sample 0 ≡ sample = ap (λ k. take size (drop k sample)) (no_bytes size) ∙ ap (λ n. take n sample) (sym long) ∙ take-length sample in
          ap (sample_of size (written (o * size) sample old)) place
          ∙ put-here size o sample old long room
          ∙ sym (first-below a 1 size sample old i p less ∙ ap (sample_of size sample) none ∙ whole)
      | inr ge ↦
          let apart : i ≢ o = λ same.
          let points : p ≡ first = same_Some p first (sym at ∙ ap (slice_get (asked_points a)) same ∙ stands) in
          let none : hz_address a.mask p ≡ 0 = ap (hz_address a.mask) points ∙ address in
          absurd (omega (arith, ge, none)) in
          put-other size o i sample old long room apart
          ∙ sym (first-behind a 1 size sample old i p ge)
    ]

-- where it is not, nothing changes
pub first-out : (a : Asked) (size : ℕ) (sample old : List ℕ) → ((p : List ℕ) → LiesIn a.region p → has_level a.mask a.lo a.hi p ≡ true → hz_address a.mask p ≢ 0) →
    AreFirstScattered a 1 size sample old old
first-out a size sample old none i p at =
    let from = asked-from a i p at in
    elim (cases_lt (hz_address a.mask p) 1) [
      | inl less ↦ absurd (none p from.inside from.asked (omega (arith, less)))
      | inr ge ↦ sym (first-behind a 1 size sample old i p ge)
    ]

-- the first sample is the first one of all
pub first-front : (a : Asked) (size n : ℕ) (sample samples old new : List ℕ) → n ≡ size → sample ≡ take size samples → AreFirstScattered a 1 n sample old new →
    AreFirstScattered a 1 size samples old new
first-front a size n sample samples old new same front made i p at =
    elim (cases_lt (hz_address a.mask p) 1) [
      | inl less ↦
          let none : hz_address a.mask p ≡ 0 = omega (arith, less) in
          let cut : sample_of size (take size samples) 0 ≡ sample_of size samples 0 =
          ap (λ k. take size (drop k (take size samples))) (no_bytes size) ∙ take-take size size samples (omega arith) ∙ sym (ap (λ k. take size (drop k samples)) (no_bytes size)) in
          now
          ∙ first-below a 1 size sample old i p less
          ∙ ap (λ t. sample_of size t (hz_address a.mask p)) front
          ∙ ap (sample_of size (take size samples)) none ∙ cut ∙ ap (sample_of size samples) (sym none)
          ∙ sym (first-below a 1 size samples old i p less)
      | inr ge ↦ now ∙ first-behind a 1 size sample old i p ge ∙ sym (first-behind a 1 size samples old i p ge)
    ]
  where
    now : sample_of size new i ≡ put_of_first a 1 size sample old i p
    now = subst (λ (m : ℕ). sample_of m new i ≡ put_of_first a 1 m sample old i p) same (made i p at)

-- ---- one level more

-- a sample of a part of the block is one of the block
part-sample : (size filled n place address : ℕ) (samples : List ℕ) → address ≡ filled + place → (place + 1) * size ≤ n →
    sample_of size (take n (drop (filled * size) samples)) place ≡ sample_of size samples address
part-sample size filled n place address samples is room =
    let more : (place + 1) * size ≡ place * size + size = grind arith in
    let split : place * size + (n - place * size) ≡ n = omega (arith, room, more) in
    let less : size ≤ n - place * size = omega (arith, room, more) in
    let at : filled * size + place * size ≡ address * size = sym (ap (λ m. m * size) is ∙ grind arith) in
    ap (λ m. take size (drop (place * size) (take m (drop (filled * size) samples)))) (sym split)
    ∙ ap (take size) (drop-take (place * size) (n - place * size) (drop (filled * size) samples))
    ∙ take-take size (n - place * size) (drop (place * size) (drop (filled * size) samples)) less
    ∙ ap (take size) (drop-drop (place * size) (filled * size) samples)
    ∙ ap (λ m. take size (drop m samples)) at

pub level-put : (a : Asked) (size level put n : ℕ) (samples old mid new : List ℕ) → put ≡ size * 2 ^ level → n ≡ put →
    AreFirstScattered a (2 ^ level) size samples old mid → IsScattered a level 1 size (take n (drop put samples)) mid new → AreFirstScattered a (2 ^ (level + 1)) size samples old new
level-put a size level put n samples old mid new front same before made i p at = by_test (is_in_block a.mask level 1 p) refl
  where
    m : ℕ
    m = 2 ^ level

    address : ℕ
    address = hz_address a.mask p

    twice : 2 ^ (level + 1) ≡ m + m
    twice = double level

    parts : address / m * m + address % m ≡ address
    parts = div-add-mod' address m

    rest : address % m < m
    rest = mod-lt address (pow_pos level)

    by_test : (b : Bool) → is_in_block a.mask level 1 p ≡ b → sample_of size new i ≡ put_of_first a (2 ^ (level + 1)) size samples old i p
    by_test true here =
        let quotient : address / m ≡ 1 = eqb-true (address / m) 1 here in
        let whole : address ≡ m + address % m = omega (arith, parts, ap (λ q. q * m) quotient) in
        let put_is : put ≡ m * size = front ∙ grind arith in
        let le : address % m + 1 ≤ m = omega (arith, rest) in
        let room : (address % m + 1) * size ≤ n = omega (arith, same, put_is, mul-le-mul_right size le) in
        made i p at
        ∙ ap (λ (b : Bool). cond b (sample_of size (take n (drop put samples)) (address % m)) (sample_of size mid i)) here
        ∙ ap (λ k. sample_of size (take n (drop k samples)) (address % m)) put_is
        ∙ part-sample size m n (address % m) address samples whole room
        ∙ sym (first-below a (2 ^ (level + 1)) size samples old i p (omega (arith, whole, rest, twice)))
    by_test false out =
        made i p at
        ∙ ap (λ (b : Bool). cond b (sample_of size (take n (drop put samples)) (address % m)) (sample_of size mid i)) out
        ∙ before i p at
        ∙ elim (cases_lt address m) [
          | inl less ↦
              first-below a m size samples old i p less ∙ sym (first-below a (2 ^ (level + 1)) size samples old i p (omega (arith, less, twice)))
          | inr ge ↦
              first-behind a m size samples old i p ge ∙ sym (first-behind a (2 ^ (level + 1)) size samples old i p (behind ge))
        ]
      where
        behind : m ≤ address → 2 ^ (level + 1) ≤ address
        behind ge = elim (cases_lt address (m + m)) [
          | inl less ↦
              let more : address ≡ 1 * m + (address - m) = omega (arith, ge) in
              let small : address - m < m = omega (arith, less, ge) in
              let quotient : address / m ≡ 1 = ap (λ a. a / m) more ∙ div-mul-add 1 m (address - m) small in
              let wrong : false ≡ true = sym out ∙ eq-eqb (address / m) 1 quotient in
              cc
          | inr over ↦ omega (arith, over, twice)
        ]

-- ---- all of block 0

pub first-all : (a : Asked) (bits block size : ℕ) (samples old new : List ℕ) → block ≡ 0 → AreFirstScattered a (2 ^ bits) size samples old new → IsScattered a bits block size samples old new
first-all a bits block size samples old new first made i p at = by_test (is_in_block a.mask bits block p) refl
  where
    m : ℕ
    m = 2 ^ bits

    address : ℕ
    address = hz_address a.mask p

    by_test : (b : Bool) → is_in_block a.mask bits block p ≡ b → sample_of size new i ≡ put_of_block a bits block size samples old i p
    by_test true here =
        let quotient : address / m ≡ 0 = eqb-true (address / m) block here ∙ first in
        let parts : address / m * m + address % m ≡ address = div-add-mod' address m in
        let none : address / m * m ≡ 0 * m = ap (λ q. q * m) quotient in
        let same : address % m ≡ address = omega (arith, parts, none) in
        let small : address < m = omega (arith, same, mod-lt address (pow_pos bits)) in
        made i p at
        ∙ first-below a m size samples old i p small
        ∙ ap (sample_of size samples) (sym same)
        ∙ sym (ap (λ (b : Bool). cond b (sample_of size samples (address % m)) (sample_of size old i)) here)
    by_test false out =
        made i p at
        ∙ first-behind a m size samples old i p behind
        ∙ sym (ap (λ (b : Bool). cond b (sample_of size samples (address % m)) (sample_of size old i)) out)
      where
        behind : m ≤ address
        behind = elim (cases_lt address m) [
          | inl less ↦
              let quotient : address / m ≡ block = div-eq_of_lt less ∙ sym first in
              let wrong : false ≡ true = sym out ∙ eq-eqb (address / m) block quotient in
              cc
          | inr over ↦ over
        ]
