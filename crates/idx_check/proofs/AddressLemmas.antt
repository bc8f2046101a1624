-- Which addresses are those of points of a box.
use Rattle.std.proofs.Common.{◌≡◌, ◌↔◌, ℕ, Bool, true, false, List, length, refl, sym, subst, eq-eqb, eqb-true}
use Rattle.idx_geom.specs.Region.{LiesIn}
use Rattle.idx_geom.proofs.LiesInLemmas.{length_from_LiesIn}
use Rattle.idx_hz.specs.Mask.{HasAddress}
use Rattle.idx_hz.specs.Address.{hz_address}
use Rattle.idx_layout.proofs.PresentLemmas.{any_point, point_found}
use Rattle.idx_check.specs.Wanted.{is_address_of}

-- the test of the one point that has an address
pub address-tested : (mask : List ℕ) (region : List (ℕ × ℕ)) (address : ℕ) (p : List ℕ) (b : Bool) →
    ((q : List ℕ) → LiesIn region q → HasAddress mask q) →
    ((q : List ℕ) → length q ≡ length region → HasAddress mask q → hz_address mask q ≡ address → q ≡ p) →
    hz_address mask p ≡ address → ((b ≡ true) ↔ LiesIn region p) → b ≡ is_address_of mask region address
address-tested mask region address p true has only at is = sym (any_point region _ p (is.0 refl) (eq-eqb (hz_address mask p) address at))
address-tested mask region address p false has only at is = by_test (is_address_of mask region address) refl
  where
    by_test : (t : Bool) → is_address_of mask region address ≡ t → false ≡ is_address_of mask region address
    by_test false e = sym e
    by_test true e =
        let found = point_found region _ e in
        let same : found.0 ≡ p = only found.0 (length_from_LiesIn region found.0 found.1) (has found.0 found.1) (eqb-true (hz_address mask found.0) address found.2) in
        let wrong : false ≡ true = is.1 (subst (λ (q : List ℕ). LiesIn region q) same found.1) in absurd (cc)
