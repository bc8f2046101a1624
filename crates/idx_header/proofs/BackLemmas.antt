-- The values of a header, written and read back.
use Rattle.std.proofs.Common.{◌≡◌, ℕ, ◌+◌, ◌-◌, ◌*◌, ◌^◌, ◌<◌, ◌≤◌, ◌==◌, ◌&&◌, ◌||◌, nat_le, nat_lt, Bool, true, false, cond, List, [], ◌∷◌, length, All, get_or, Option, Some, None, option_and_then, Ok, Err, refl, sym, ap, ◌∙◌, subst, arith, append_assoc, add-zero, zero-add, suc}
use Rattle.std.specs.List.{join_with_byte, list_all, list_any}
use Rattle.std.specs.Fmt.{decimal}
use Rattle.std.proofs.lemmas.Bool.Decides.{nat_tests}
use Rattle.std.proofs.lemmas.List.Elements.{All-head, All-tail}
use Rattle.std.proofs.lemmas.List.{length-map}
use Rattle.idx_geom.specs.Region.{IsRegion, upper_ends}
use Rattle.idx_hz.specs.Mask.{HasAddress, IsMask, NamesAxes, bit_count}
use Rattle.idx_hz.specs.MaskText.{mask_of, mask_text}
use Rattle.idx_hz.proofs.MaskTextLemmas.{mask_of_iff}
use Rattle.idx_table.specs.Table.{table_bytes}
use Rattle.idx_text.specs.BoxText.{both_ends}
use Rattle.idx_text.specs.Numbers.{runs}
use Rattle.idx_text.proofs.NumberLemmas.{reads_back}
use Rattle.idx_fields.specs.declared.fields_fault.FieldsFault.TheVariants as field_faults
use Rattle.idx_fields.specs.Field.{Field, sample_bytes}
use Rattle.idx_fields.specs.Fields.{AreFields, are_within_limits, fields_lines, fields_of, listed_fields, within_limits}
use Rattle.idx_fields.proofs.ReadBackLemmas.{rows_back, lines_joined}
use Rattle.idx_names.specs.TimeTemplate.{time_template_text}
use Rattle.idx_names.proofs.TimeLemmas.{made_time, time_read_again, time_prints, time_text_some}
use Rattle.idx_header.specs.declared.steps.Steps.{Steps}
use Rattle.idx_header.specs.Box.{by_twos, checked_box, fits_from, make_box, names_pairs, pairs_of}
use Rattle.idx_header.specs.Faults.{are_no_block_bits, are_no_blocks_per_file}
use Rattle.idx_header.specs.Header.{AreSteps, HeaderValue, IsHeader}
use Rattle.idx_header.specs.Time.{steps_of, steps_of_words}
use Rattle.idx_header.specs.Written.{box_text, steps_text}
use Rattle.idx_header.proofs.PlainWords.{ArePlain, AreNumbers, numbers-back, number-plain, prints-plain, runs-joined}

-- ---- the box

twos-back : (r : List (ℕ × ℕ)) → by_twos (both_ends r) ≡ Some r
twos-back [] = refl
twos-back (b ∷ bs) = ap (λ o. option_and_then (λ pairs. Some (b ∷ pairs)) o) (twos-back bs)

pub ends-small : (r : List (ℕ × ℕ)) → All (λ b. b.0 ≤ b.1) r → All (λ b. b.1 ≤ 2 ^ 40) r → AreNumbers (both_ends r)
unfolding AreNumbers
ends-small [] o s = tt
ends-small (b ∷ bs) o s =
    let order : b.0 ≤ b.1 = All-head (λ (b : ℕ × ℕ). b.0 ≤ b.1) b bs o in
    let most : b.1 ≤ 2 ^ 40 = All-head (λ (b : ℕ × ℕ). b.1 ≤ 2 ^ 40) b bs s in
    (omega arith, (omega arith, ends-small bs (All-tail (λ (b : ℕ × ℕ). b.0 ≤ b.1) b bs o) (All-tail (λ (b : ℕ × ℕ). b.1 ≤ 2 ^ 40) b bs s)))

ordered : (r : List (ℕ × ℕ)) → All (λ b. b.0 ≤ b.1) r → list_all (λ b. nat_le b.0 b.1) r ≡ true
ordered [] o = refl
ordered (b ∷ bs) o =
    let order : b.0 ≤ b.1 = All-head (λ (b : ℕ × ℕ). b.0 ≤ b.1) b bs o in
    let here : nat_le b.0 b.1 ≡ true = grind (arith, nat_tests) in
    ap (λ c. c && list_all (λ (b : ℕ × ℕ). nat_le b.0 b.1) bs) here ∙ ordered bs (All-tail (λ (b : ℕ × ℕ). b.0 ≤ b.1) b bs o)

made : (r : List (ℕ × ℕ)) → IsRegion r → make_box r ≡ true
made r h =
    let some : nat_le 2 (length r) ≡ true = grind (arith, nat_tests, h.axes.0) in
    let few : nat_le (length r) 5 ≡ true = grind (arith, nat_tests, h.axes.1) in
    rw (some, few) (ordered r h.ordered)

pub box-back : (r : List (ℕ × ℕ)) → IsRegion r → pairs_of (box_text r) ≡ Some r
unfolding pairs_of
box-back r h =
    ap (λ o. option_and_then checked_box (option_and_then by_twos o)) (numbers-back (both_ends r) (ends-small r h.ordered h.small))
    ∙ ap (option_and_then checked_box) (twos-back r) ∙ ap (λ c. cond c (Some r) None) (made r h)

-- ---- the mask

pub mask-back : (mask : List ℕ) → IsMask mask → mask_of (mask_text mask) ≡ Some mask
mask-back mask h = (mask_of_iff (mask_text mask) mask).1 (h, refl)

named : (mask : List ℕ) (axes : ℕ) → NamesAxes mask axes → list_all (λ digit. nat_lt digit axes) mask ≡ true
named [] axes h = refl
named (d ∷ ds) axes h =
    let small : d < axes = All-head (λ x. x < axes) d ds h in
    let here : nat_lt d axes ≡ true = grind (arith, nat_tests) in
    ap (λ c. c && list_all (λ digit. nat_lt digit axes) ds) here ∙ named ds axes (All-tail (λ x. x < axes) d ds h)

fits : (mask : List ℕ) (axis : ℕ) (r : List (ℕ × ℕ)) → ((k : ℕ) → k < length r → get_or (upper_ends r) k 0 < 2 ^ bit_count (axis + k) mask) → fits_from axis r mask ≡ true
fits mask axis [] h = refl
fits mask axis (b ∷ bs) h =
    let first : b.1 < 2 ^ bit_count axis mask = subst (λ n. b.1 < 2 ^ bit_count n mask) (add-zero axis) (h 0 (omega arith)) in
    let here : nat_lt b.1 (2 ^ bit_count axis mask) ≡ true = grind (arith, nat_tests) in
    ap (λ c. c && fits_from (axis + 1) bs mask) here
    ∙ fits mask (axis + 1) bs (λ k below. subst (λ n. get_or (upper_ends bs) k 0 < 2 ^ bit_count n mask) (moved axis k) (h (suc k) (omega arith)))
  where
    moved : (a k : ℕ) → a + suc k ≡ a + 1 + k
    moved a k = omega arith

-- the mask names axes of the box, and the box is inside it
pub mask-names : (r : List (ℕ × ℕ)) (mask : List ℕ) → HasAddress mask (upper_ends r) → names_pairs r mask ≡ true
mask-names r mask h = named mask (length r) (subst (NamesAxes mask) (length-map r (λ (b : ℕ × ℕ). b.1)) h.named)

pub mask-fits : (r : List (ℕ × ℕ)) (mask : List ℕ) → HasAddress mask (upper_ends r) → fits_from 0 r mask ≡ true
mask-fits r mask h =
    fits mask 0 r (λ k below. subst (λ n. get_or (upper_ends r) k 0 < 2 ^ bit_count n mask) (sym (zero-add k))
    (h.below k (omega (arith, length-map r (λ (b : ℕ × ℕ). b.1)))))

-- ---- the fields

read_whole : (listed : Option (List Field)) (fs : List Field) → within_limits listed ≡ Ok fs → (listed ≡ Some fs) × (are_within_limits fs ≡ true)
read_whole None fs e = cc
read_whole (Some gs) fs e = cases (are_within_limits gs) refl e
  where
    cases : (within : Bool) → within ≡ are_within_limits gs → cond within (Ok gs) (Err field_faults.OverLimit) ≡ Ok fs → (Some gs ≡ Some fs) × (are_within_limits fs ≡ true)
    cases true same e = let is : gs ≡ fs = cc in (ap Some is, ap are_within_limits (sym is) ∙ sym same)
    cases false same e = cc

pub fields-back : (fs : List Field) → AreFields fs → (listed_fields (join_with_byte 32 (fields_lines fs)) ≡ Some fs) × (are_within_limits fs ≡ true)
unfolding fields_of
fields-back fs h = read_whole (listed_fields (join_with_byte 32 (fields_lines fs))) fs (ap fields_of (sym (lines_joined fs)) ∙ rows_back fs h)

-- ---- the numbers of blocks

small-blocks : (bits : ℕ) (fields : List Field) → All (λ f. sample_bytes f * 2 ^ bits ≤ 2 ^ 24) fields →
    list_any (λ f. nat_lt (2 ^ 24) (sample_bytes f * 2 ^ bits)) fields ≡ false
small-blocks bits [] h = refl
small-blocks bits (f ∷ fs) h =
    let small : sample_bytes f * 2 ^ bits ≤ 2 ^ 24 = All-head (λ g. sample_bytes g * 2 ^ bits ≤ 2 ^ 24) f fs h in
    let here : nat_lt (2 ^ 24) (sample_bytes f * 2 ^ bits) ≡ false = grind (arith, nat_tests) in
    ap (λ c. c || list_any (λ g. nat_lt (2 ^ 24) (sample_bytes g * 2 ^ bits)) fs) here
    ∙ small-blocks bits fs (All-tail (λ g. sample_bytes g * 2 ^ bits ≤ 2 ^ 24) f fs h)

pub bits-right : (h : HeaderValue) → IsHeader h → are_no_block_bits h.block_bits h.mask h.fields ≡ false
bits-right h is =
    let bits : ℕ = h.block_bits in
    let digits : ℕ = length h.mask in
    let a : (bits == 0) ≡ false = grind (arith, nat_tests, is.bits_some) in
    let b : nat_lt 20 bits ≡ false = grind (arith, nat_tests, is.bits_few) in
    let c : nat_lt digits bits ≡ false = grind (arith, nat_tests, is.bits_within) in
    let d : nat_lt (bits + 24) digits ≡ false = grind (arith, nat_tests, is.bits_most) in
    rw (a, b, c, d) (small-blocks bits h.fields is.small_blocks)

pub blocks-right : (h : HeaderValue) → IsHeader h → are_no_blocks_per_file h.blocks_per_file h.fields ≡ false
blocks-right h is =
    let a : (h.blocks_per_file == 0) ≡ false = grind (arith, nat_tests, is.blocks_some) in
    let b : nat_lt 65536 h.blocks_per_file ≡ false = grind (arith, nat_tests, is.blocks_few) in
    let c : nat_lt (2 ^ 24) (table_bytes (length h.fields * h.blocks_per_file)) ≡ false = grind (arith, nat_tests, is.small_table) in
    rw (a, b, c) refl

-- ---- the steps

abbrev pub step_words : Steps → List (List ℕ)
step_words s = decimal s.first ∷ decimal s.last ∷ time_template_text s.template ∷ []

pub steps-joined : (s : Steps) → steps_text s ≡ join_with_byte 32 (step_words s)
steps-joined s = append_assoc (decimal s.first) (32 ∷ decimal s.last) (32 ∷ time_template_text s.template)

pub steps-plain : (s : Steps) → AreSteps s → ArePlain (step_words s)
unfolding ArePlain
steps-plain s h =
    let template = made_time s.template h.template in (
      number-plain s.first (omega (arith, h.ordered, h.last)),
      (
        number-plain s.last (omega (arith, h.last)),
        (prints-plain (time_template_text s.template) (time_prints s.template template) (time_text_some s.template), tt),
      ),
    )

pub steps-back : (s : Steps) → AreSteps s → steps_of (steps_text s) ≡ Some s
unfolding steps_of
steps-back s h =
    let ordered : nat_le s.first s.last ≡ true = grind (arith, nat_tests, h.ordered) in
    let last : nat_le s.last (2 ^ 31 - 1) ≡ true = grind (arith, nat_tests, h.last) in
    ap steps_of_words (ap runs (steps-joined s) ∙ runs-joined (step_words s) (steps-plain s h))
    ∙ rw (reads_back s.first (omega (arith, h.ordered, h.last)), reads_back s.last (omega (arith, h.last)), time_read_again s.template (made_time s.template h.template), ordered, last) refl
