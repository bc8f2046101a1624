-- Parcels while they are filled: what windows add, and what a whole field is.
use Rattle.std.proofs.Common.{◌≡◌, ℕ, ◌+◌, ◌-◌, ◌*◌, ◌<◌, List, ◌++◌, length, get_or, set, Option, Some, None, sym, ap, ◌∙◌, inl, inr, subst, arith, append_assoc}
use Rattle.std.specs.List.{AllWithin}
use Rattle.std.proofs.lemmas.Bool.{cases_lt}
use Rattle.std.proofs.lemmas.List.{get_or_default, get_or-set_other, length-set}
use Rattle.idx_geom.specs.Region.{points}
use Rattle.idx_header.specs.Header.{HeaderValue, sample_bytes_of}
use Rattle.idx_pieces.specs.Filling.{samples_from, Appends}
use Rattle.idx_pieces.specs.Samples.{raw_sample, samples_in}
use Rattle.idx_pieces.specs.Reading.{HoldsUpTo, IsWindowOf, heading, bytes_before, field_start}
use Rattle.idx_pieces.specs.declared.filling.Filling.{Filling}
use Rattle.idx_pieces.proofs.FillingLemmas.{samples-append}

-- a write to a place leaves what stands behind it
pub AllWithin-behind : {X : Type 0} (P : X → Type 0) (xs : List X) (i : ℕ) (y : X) → AllWithin P xs i (length xs) → AllWithin P (set xs i y) (i + 1) (length (set xs i y))
AllWithin-behind P xs i y h k d low high =
    subst P (sym (get_or-set_other xs i k y d (λ same. absurd (omega (arith, same, low))))) (h k d (omega (arith, low)) (omega (arith, high, length-set xs i y)))

-- one place more
pub AllWithin-reach : {X : Type 0} (P : X → Type 0) (xs : List X) (i : ℕ) (x : X) → i < length xs → x ≡ get_or xs i x → AllWithin P xs 0 i → P x → AllWithin P xs 0 (i + 1)
AllWithin-reach {X} P xs i x inside at before here k d low high =
    elim (cases_lt k i) [
      | inl lt ↦ before k d low lt
      | inr ge ↦
          let same : i ≡ k = omega (arith, ge, high) in
          let is : x ≡ get_or xs k d = at ∙ get_or_default xs i x d inside ∙ ap (λ j. get_or xs j d) same in
          subst P is here
    ]

-- a window's samples more
pub HoldsUpTo-more : (h : HeaderValue) (told : Option (List ℕ)) (field from : ℕ) (window : List ℕ) (old new : Filling) →
    Appends (sample_bytes_of h field) from window h.box old.parcel.region old.parcel.bytes new.parcel.bytes old.cursor.done new.cursor.done →
    heading new ≡ heading old → IsWindowOf h told field from window → HoldsUpTo h told field old → HoldsUpTo h told field new
HoldsUpTo-more h told field from window old new more same is before =
    let size : ℕ = sample_bytes_of h field in
    let first : ℕ = old.cursor.done in
    let last : ℕ = new.cursor.done in
    let region : new.parcel.region ≡ old.parcel.region = ap (λ t. t.1.1) same in
    let whole : first + (last - first) ≡ last = omega (arith, more.rises) in
    let split : size * last ≡ size * (first + (last - first)) = sym (ap (λ n. size * n) whole) in
    let F : Option (List ℕ) → Type 0 = λ o.
    IsWindowOf h o field from window → HoldsUpTo h o field old → HoldsUpTo h o field new in
    let many : length new.parcel.bytes ≡ length (points new.parcel.region) * bytes_before h field + size * last =
    omega (arith, more.longer, before.many, split) ∙ ap (λ r. length (points r) * bytes_before h field + size * last) (sym region) in
    let by_told : F told = elim told as (λ o. F o) [
      | None ↦ (λ w b. record { many = many; samples = tt })
      | Some raw ↦ (λ w b. record {
        many = many;
        samples =
            more.samples (field_start h field) raw w
            ∙ ap (λ t. t ++ samples_from size (field_start h field) raw h.box old.parcel.region first (last - first)) b.samples
            ∙ append_assoc (samples_in field (raw_sample h raw) old.parcel.region) (samples_from size (field_start h field) raw h.box old.parcel.region 0 first)
            (samples_from size (field_start h field) raw h.box old.parcel.region first (last - first))
            ∙ ap (λ t. samples_in field (raw_sample h raw) old.parcel.region ++ t)
            (ap (λ k. samples_from size (field_start h field) raw h.box old.parcel.region 0 first ++ samples_from size (field_start h field) raw h.box old.parcel.region k (last - first))
            (let up : first ≡ 0 + first = omega arith in up)
            ∙ sym (samples-append size (field_start h field) raw h.box old.parcel.region 0 first (last - first)))
            ∙ ap (λ n. samples_in field (raw_sample h raw) old.parcel.region ++ samples_from size (field_start h field) raw h.box old.parcel.region 0 n) whole
            ∙ ap (λ r. samples_in field (raw_sample h raw) r ++ samples_from size (field_start h field) raw h.box r 0 last) (sym region);
      })
    ] in
    by_told is before
