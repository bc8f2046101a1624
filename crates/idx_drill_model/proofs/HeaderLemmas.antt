-- The header of a drill is one, its mask is the guess of its box, and its box can be divided.
use Rattle.std.proofs.Common.{◌≡◌, ℕ, zero, suc, ◌-◌, ◌*◌, ◌^◌, ◌<◌, ◌≤◌, true, false, List, [], ◌∷◌, length, refl, sym, subst, leb, min, arith, lit≤}
use Rattle.std.proofs.Math.Pow.{pow_mono}
use Rattle.std.proofs.lemmas.Bool.{ne_eqb}
use Rattle.std.proofs.lemmas.List.Elements.{All-cons, All-nil, All-weaker}
use Rattle.std.proofs.lemmas.Nat.{pow_pos}
use Rattle.idx_text.specs.Numbers.{is_blank}
use Rattle.idx_text.specs.Lines.{is_text_line}
use Rattle.idx_geom.specs.Region.{IsRegion, upper_ends}
use Rattle.idx_hz.specs.Mask.{HasAddress, IsBelow, IsMask, bit_count}
use Rattle.idx_hz.specs.Guess.{binary_digits, guessed_mask}
use Rattle.idx_fields.specs.Field.{Field, IsField, IsWord, is_plus, sample_bytes}
use Rattle.idx_fields.specs.Fields.{AreFields}
use Rattle.idx_names.specs.Pieces.{first_piece, part_of, pieces_behind, pieces_text}
use Rattle.idx_names.specs.Template.{IsTemplate, of_parts, parts_of, room, template_of, template_text}
use Rattle.idx_names.specs.TimeTemplate.{IsTimeTemplate, time_template_of, time_template_text}
use Rattle.idx_header.specs.Box.{box_of}
use Rattle.idx_header.specs.Header.{AreSteps, IsHeader, IsTextField, IsUnknown, block_count, last_file}
use Rattle.idx_pieces.specs.Digits.{piece_digits, point_bytes}
use Rattle.idx_pieces.proofs.DigitLemmas.{greatest_within}
use Rattle.idx_core_model.specs.Headline.{IsDivided}
use Rattle.idx_drill_model.specs.Drill.{drill_bits, drill_box, drill_depth, drill_end, drill_field, drill_header, drill_mask, drill_steps, drill_template}
use Rattle.idx_drill_model.proofs.BoxLemmas.{bits-of, bits-within, length-mask, names-axes}
use Rattle.idx_drill_model.proofs.TakenLemmas.{points-many}

-- what holds of each number from 1 to 8
pub each-drill : (P : ℕ → Type 0) → P 1 → P 2 → P 3 → P 4 → P 5 → P 6 → P 7 → P 8 → (n : ℕ) → 1 ≤ n → n ≤ 8 → P n
each-drill P a b c d e f g h zero some few = absurd (omega arith)
each-drill P a b c d e f g h (suc zero) some few = a
each-drill P a b c d e f g h (suc (suc zero)) some few = b
each-drill P a b c d e f g h (suc (suc (suc zero))) some few = c
each-drill P a b c d e f g h (suc (suc (suc (suc zero)))) some few = d
each-drill P a b c d e f g h (suc (suc (suc (suc (suc zero))))) some few = e
each-drill P a b c d e f g h (suc (suc (suc (suc (suc (suc zero)))))) some few = f
each-drill P a b c d e f g h (suc (suc (suc (suc (suc (suc (suc zero))))))) some few = g
each-drill P a b c d e f g h (suc (suc (suc (suc (suc (suc (suc (suc zero)))))))) some few = h
each-drill P a b c d e f g h (suc (suc (suc (suc (suc (suc (suc (suc (suc n))))))))) some few = absurd (omega arith)

-- ---- the mask

pub mask-guessed : (n : ℕ) → 1 ≤ n → n ≤ 8 → guessed_mask (drill_box n) ≡ drill_mask n
unfolding binary_digits
mask-guessed = each-drill (λ n. guessed_mask (drill_box n) ≡ drill_mask n) refl refl refl refl refl refl refl refl

mask-is : (n : ℕ) → 1 ≤ n → n ≤ 8 → IsMask (drill_mask n)
mask-is n some small = record {
  some = omega (arith, length-mask n);
  few = omega (arith, length-mask n);
  digits = All-weaker (λ (d : ℕ). d < 3) (λ (d : ℕ). d < 5) (λ d below. omega arith) (drill_mask n) (names-axes n);
}

-- ---- the box

end-small : (n : ℕ) → n ≤ 8 → drill_end n ≤ 2 ^ 40
end-small n small = let few : n ≤ 40 = omega arith in
    let power : 2 ^ n ≤ 2 ^ 40 = pow_mono few in omega (arith, power)

region-is : (n : ℕ) → n ≤ 8 → IsRegion (drill_box n)
region-is n small =
    let few : drill_depth n ≤ 40 = omega arith in
    let power : 2 ^ drill_depth n ≤ 2 ^ 40 = pow_mono few in
    record {
      axes = (omega arith, omega arith);
      ordered =
          All-cons (λ (b : ℕ × ℕ). b.0 ≤ b.1) (0, drill_end n) ((0, drill_end n) ∷ (0, drill_end n) ∷ []) (omega arith)
          (All-cons (λ (b : ℕ × ℕ). b.0 ≤ b.1) (0, drill_end n) ((0, drill_end n) ∷ []) (omega arith)
          (All-cons (λ (b : ℕ × ℕ). b.0 ≤ b.1) (0, drill_end n) [] (omega arith) (All-nil (λ (b : ℕ × ℕ). b.0 ≤ b.1))));
      small =
          All-cons (λ (b : ℕ × ℕ). b.1 ≤ 2 ^ 40) (0, drill_end n) ((0, drill_end n) ∷ (0, drill_end n) ∷ []) (end-small n small)
          (All-cons (λ (b : ℕ × ℕ). b.1 ≤ 2 ^ 40) (0, drill_end n) ((0, drill_end n) ∷ []) (end-small n small)
          (All-cons (λ (b : ℕ × ℕ). b.1 ≤ 2 ^ 40) (0, drill_end n) [] (end-small n small) (All-nil (λ (b : ℕ × ℕ). b.1 ≤ 2 ^ 40))));
      few = omega (arith, points-many n, power);
    }

ends-below : (n axis : ℕ) → axis < 3 → drill_end n < 2 ^ bit_count axis (drill_mask n)
ends-below n axis within = subst (λ k. drill_end n < 2 ^ k) (sym (bits-of axis n within)) (omega (arith, pow_pos n))

ends-address : (n : ℕ) → HasAddress (drill_mask n) (upper_ends (drill_box n))
ends-address n = record { named = names-axes n; below = below }
  where
    below : IsBelow (drill_mask n) (upper_ends (drill_box n))
    below zero within = ends-below n 0 (omega arith)
    below (suc zero) within = ends-below n 1 (omega arith)
    below (suc (suc zero)) within = ends-below n 2 (omega arith)
    below (suc (suc (suc axis))) within = absurd (omega arith)

-- none of its axes is dropped
whole-box : (n : ℕ) → 1 ≤ n → box_of (drill_box n) (drill_mask n) ≡ drill_box n
unfolding box_of
whole-box n some =
    let power : 2 ^ 1 ≤ 2 ^ n = pow_mono some in
    rw (ne_eqb (drill_end n) 0 (λ e. omega (arith, e, power))) refl

-- ---- the field

field-is : IsField drill_field
field-is = record {
  name = record {
    some = omega arith;
    no_blank = All-cons (λ (b : ℕ). is_blank b ≡ false) 97 [] refl (All-nil (λ (b : ℕ). is_blank b ≡ false));
    no_plus = All-cons (λ (b : ℕ). is_plus b ≡ false) 97 [] refl (All-nil (λ (b : ℕ). is_plus b ≡ false));
  };
  short = omega arith;
  count = omega arith;
  sample = omega arith;
  attributes = All-nil IsWord;
}

fields-are : AreFields (drill_field ∷ [])
fields-are = record { some = omega arith; few = omega arith; each = All-cons IsField drill_field [] field-is (All-nil IsField); distinct = refl }

text-field : IsTextField drill_field
text-field = record { name = refl; attributes = All-nil (λ (word : List ℕ). is_text_line word ≡ true) }

-- ---- names

template-is : IsTemplate drill_template
unfolding IsTemplate first_piece part_of pieces_behind pieces_text of_parts parts_of template_of template_text
template-is = refl

template-room : room drill_template ≡ 24
unfolding room
template-room = refl

steps-are : AreSteps drill_steps
unfolding IsTimeTemplate first_piece pieces_behind pieces_text time_template_of time_template_text
steps-are = record { ordered = omega arith; last = omega arith; few = omega arith; template = refl }

few-blocks : (n : ℕ) → n ≤ 8 → block_count (drill_header n) ≤ 4096
few-blocks n small =
    let exponent : length (drill_mask n) - drill_bits n ≤ 12 = omega (arith, length-mask n) in
    let power : 2 ^ (length (drill_mask n) - drill_bits n) ≤ 2 ^ 12 = pow_mono exponent in
    omega (arith, power)

-- ---- the header

pub header-is : (n : ℕ) → 1 ≤ n → n ≤ 8 → IsHeader (drill_header n)
header-is n some small =
    let few : drill_bits n ≤ 12 = omega arith in
    let power : 2 ^ drill_bits n ≤ 2 ^ 12 = pow_mono few in
    record {
      region = region-is n small;
      mask = mask-is n some small;
      covered = ends-address n;
      whole = whole-box n some;
      fields = fields-are;
      texts = All-cons IsTextField drill_field [] text-field (All-nil IsTextField);
      bits_some = omega arith;
      bits_few = omega arith;
      bits_within = bits-within n;
      bits_most = omega (arith, length-mask n);
      small_blocks = All-cons (λ (f : Field). sample_bytes f * 2 ^ drill_bits n ≤ 2 ^ 24) drill_field [] (omega (arith, power)) (All-nil (λ (f : Field). sample_bytes f * 2 ^ drill_bits n ≤ 2 ^ 24));
      blocks_some = omega arith;
      blocks_few = omega arith;
      small_table = lit≤ tt;
      template = template-is;
      fits = subst (λ k. last_file (drill_header n) < 2 ^ k) (sym template-room) (omega (arith, few-blocks n small));
      steps = steps-are;
      unknown = All-nil IsUnknown;
      revision_few = omega arith;
      unrevised = λ none. refl;
    }

-- its box is divided into pieces, and among so many ranks
pub drill-divided : (n : ℕ) → 1 ≤ n → n ≤ 8 → IsDivided (drill_header n) (piece_digits (drill_header n) (2 ^ 28)) 4
drill-divided n some small =
    let most : ℕ = length (drill_mask n) - min (length (drill_mask n)) 6 in
    let few = greatest_within (λ e. leb (4 * 2 ^ e * point_bytes (drill_header n)) (2 ^ 28)) most in
    record { header = header-is n some small; time = refl; digits = omega (arith, few); ranks = omega arith }
