-- The lines that are written of a header's values are read back as they stand.
use Rattle.std.proofs.Common.{◌≡◌, ℕ, ◌+◌, ◌^◌, ◌<◌, ◌≤◌, true, false, cond, List, [], ◌∷◌, length, drop, map, All, codes, refl, sym, subst, arith}
use Rattle.std.specs.List.{AllByRecursion}
use Rattle.std.specs.Fmt.{decimal}
use Rattle.std.proofs.lemmas.Bool.Decides.{nat_tests}
use Rattle.std.proofs.lemmas.List.Elements.{All-cons, All-nil, All-head, All-tail, All-drop}
use Rattle.idx_geom.specs.Region.{IsRegion}
use Rattle.idx_hz.specs.Mask.{IsMask}
use Rattle.idx_hz.specs.MaskText.{mask_text}
use Rattle.idx_text.specs.BoxText.{both_ends}
use Rattle.idx_text.specs.Numbers.{has_bytes}
use Rattle.idx_text.specs.Trim.{trimmed}
use Rattle.idx_text.specs.Lines.{is_text, is_text_line}
use Rattle.idx_text.specs.Sections.{is_key_line}
use Rattle.idx_text.specs.Entries.{Entry, IsValueLine}
use Rattle.idx_text.proofs.EntryLemmas.{AreEntries}
use Rattle.idx_text.proofs.TextLemmas.{IsPart, IsValue, some-join, trimmed-stays}
use Rattle.idx_fields.specs.Field.{Field, IsField, field_text}
use Rattle.idx_fields.specs.Fields.{AreFields, fields_lines, further_lines}
use Rattle.idx_fields.proofs.LineLemmas.{text_passes, text_some, text_trimmed, further_trimmed}
use Rattle.idx_names.specs.Pieces.{IsWordByte}
use Rattle.idx_names.specs.Template.{TemplateValue, IsTemplate}
use Rattle.idx_names.specs.TimeTemplate.{time_template_text}
use Rattle.idx_names.proofs.TemplateLemmas.{made, text_prints}
use Rattle.idx_header.specs.declared.key.Key.TheVariants as keys
use Rattle.idx_header.specs.declared.steps.Steps.{Steps}
use Rattle.idx_header.specs.declared.unknown.Unknown.{Unknown}
use Rattle.idx_header.specs.Header.{AreSteps, HeaderValue, IsHeader, IsTextField, IsUnknown}
use Rattle.idx_header.specs.Written.{box_text, entry, steps_text, template_line, unknown_entry}
use Rattle.idx_header.proofs.BackLemmas.{ends-small, step_words, steps-joined, steps-plain}
use Rattle.idx_header.proofs.PlainWords.{numbers-plain, number-plain, plain-joined, plain-part, prints-plain}

-- the entries of a header with a time
abbrev pub entries_with : HeaderValue → Steps → List Entry
entries_with h s =
    entry keys.Version (codes "6" ∷ [])
    ∷ entry keys.Box (box_text h.box ∷ [])
    ∷ entry keys.Fields (fields_lines h.fields)
    ∷ entry keys.Bits (mask_text h.mask ∷ [])
    ∷ entry keys.BitsPerBlock (decimal h.block_bits ∷ [])
    ∷ entry keys.BlocksPerFile (decimal h.blocks_per_file ∷ [])
    ∷ entry keys.FilenameTemplate (template_line h.template ∷ [])
    ∷ entry keys.Time (steps_text s ∷ [])
    ∷ map unknown_entry h.unknown

-- no line is a key line
abbrev pub NoKeyLine : List (List ℕ) → Type 0
NoKeyLine ls = All (λ line. is_key_line line ≡ false) ls

has-bytes : (line : List ℕ) → 0 < length line → has_bytes line ≡ true
has-bytes [] h = absurd (omega arith)
has-bytes (b ∷ bs) h = refl

value-line : (line : List ℕ) → IsValue line → 0 < length line → is_key_line line ≡ false → IsValueLine line
value-line line v some value = record { some = has-bytes line some; text = v.text; trimmed = trimmed-stays line v.trimmed; value = value }

one : (line : List ℕ) → (is_key_line line ≡ false → IsValueLine line) → NoKeyLine (line ∷ []) → All IsValueLine (line ∷ [])
one line make plain = All-cons IsValueLine line [] (make (All-head (λ l. is_key_line l ≡ false) line [] plain)) (All-nil IsValueLine)

part-line : (line : List ℕ) → IsPart line → is_key_line line ≡ false → IsValueLine line
part-line line p value = value-line line (record { text = p.text; trimmed = p.trimmed }) p.some value

-- ---- each value

box-some : (r : List (ℕ × ℕ)) → IsRegion r → 0 < length (box_text r)
box-some [] h = absurd (omega (arith, h.axes.0))
box-some (b ∷ bs) h =
    let small = ends-small (b ∷ bs) h.ordered h.small in
    some-join (decimal b.0) (map decimal (b.1 ∷ both_ends bs)) (number-plain b.0 (below b h)).some
  where
    below : (c : ℕ × ℕ) → IsRegion (c ∷ bs) → c.0 < 2 ^ 64
    below c r =
        let order : c.0 ≤ c.1 = All-head (λ (x : ℕ × ℕ). x.0 ≤ x.1) c bs r.ordered in
        let most : c.1 ≤ 2 ^ 40 = All-head (λ (x : ℕ × ℕ). x.1 ≤ 2 ^ 40) c bs r.small in
        omega arith

box-line : (r : List (ℕ × ℕ)) → IsRegion r → is_key_line (box_text r) ≡ false → IsValueLine (box_text r)
box-line r h value =
    value-line (box_text r) (plain-joined (map decimal (both_ends r)) (numbers-plain (both_ends r) (ends-small r h.ordered h.small))) (box-some r h) value

print-text : (b : ℕ) → 32 ≤ b → b ≤ 126 → is_text b ≡ true
print-text b some few = grind (arith, nat_tests)

field-text : (f : Field) → IsField f → IsTextField f → is_text_line (field_text f) ≡ true
field-text f is text = text_passes is_text f is print-text text.name text.attributes

first-line : (f : Field) → IsField f → IsTextField f → is_key_line (field_text f) ≡ false → IsValueLine (field_text f)
first-line f is text value =
    record { some = has-bytes (field_text f) (omega (arith, text_some f is)); text = field-text f is text; trimmed = text_trimmed f is; value = value }

further-lines : (fs : List Field) → All IsField fs → All IsTextField fs → NoKeyLine (further_lines fs) → All IsValueLine (further_lines fs)
further-lines [] is text plain = All-nil IsValueLine
further-lines (f ∷ fs) is text plain =
    let line : List ℕ = 43 ∷ 32 ∷ field_text f in
    let here = All-head IsField f fs is in
    let words = All-head IsTextField f fs text in
    All-cons IsValueLine line (further_lines fs)
    (record { some = refl; text = field-text f here words; trimmed = further_trimmed f here; value = All-head (λ l. is_key_line l ≡ false) line (further_lines fs) plain })
    (further-lines fs (All-tail IsField f fs is) (All-tail IsTextField f fs text) (All-tail (λ l. is_key_line l ≡ false) line (further_lines fs) plain))

all-lines : (fs : List Field) → AreFields fs → All IsTextField fs → NoKeyLine (fields_lines fs) → All IsValueLine (fields_lines fs)
all-lines [] is text plain = All-nil IsValueLine
all-lines (f ∷ fs) is text plain =
    All-cons IsValueLine (field_text f) (further_lines fs)
    (first-line f (All-head IsField f fs is.each) (All-head IsTextField f fs text) (All-head (λ l. is_key_line l ≡ false) (field_text f) (further_lines fs) plain))
    (further-lines fs (All-tail IsField f fs is.each) (All-tail IsTextField f fs text) (All-tail (λ l. is_key_line l ≡ false) (field_text f) (further_lines fs) plain))

digit-byte : (d : ℕ) → d < 5 → IsWordByte (d + 48)
digit-byte d h = (omega arith, omega arith)

mask-bytes : (mask : List ℕ) → All (λ d. d < 5) mask → AllByRecursion IsWordByte (map (λ d. d + 48) mask)
mask-bytes [] h = tt
mask-bytes (d ∷ ds) h = (digit-byte d (All-head (λ x. x < 5) d ds h), mask-bytes ds (All-tail (λ x. x < 5) d ds h))

mask-line : (mask : List ℕ) → IsMask mask → is_key_line (mask_text mask) ≡ false → IsValueLine (mask_text mask)
mask-line mask h value =
    part-line (mask_text mask) (plain-part (mask_text mask) (prints-plain (mask_text mask) ((omega arith, omega arith), mask-bytes mask h.digits) (λ e. absurd (cc e)))) value

template-line : (t : TemplateValue) → IsTemplate t → is_key_line (template_line t) ≡ false → IsValueLine (template_line t)
template-line t h value =
    part-line (template_line t) (plain-part (template_line t)
    (prints-plain (template_line t) ((omega arith, omega arith), ((omega arith, omega arith), text_prints t (made t h))) (λ e. absurd (cc e)))) value

steps-line : (s : Steps) → AreSteps s → is_key_line (steps_text s) ≡ false → IsValueLine (steps_text s)
steps-line s h value =
    let joined = plain-joined (step_words s) (steps-plain s h) in
    value-line (steps_text s) (subst IsValue (sym (steps-joined s)) joined)
    (subst (λ (t : List ℕ). 0 < length t) (sym (steps-joined s))
    (some-join (decimal s.first) (decimal s.last ∷ time_template_text s.template ∷ []) (number-plain s.first (omega (arith, h.ordered, h.last))).some)) value

unknown-lines : (value : List ℕ) → is_text_line value ≡ true → trimmed value ≡ value → NoKeyLine (cond (has_bytes value) (value ∷ []) []) →
    All IsValueLine (cond (has_bytes value) (value ∷ []) [])
unknown-lines [] text trim plain = All-nil IsValueLine
unknown-lines (b ∷ bs) text trim plain = one (b ∷ bs) (λ v. record { some = refl; text = text; trimmed = trim; value = v }) plain

unknown-entries : (us : List Unknown) → All IsUnknown us → All (λ (e : Entry). NoKeyLine e.lines) (map unknown_entry us) → AreEntries (map unknown_entry us)
unfolding AreEntries
unknown-entries [] is plain = tt
unknown-entries (u ∷ us) is plain =
    let here = All-head IsUnknown u us is in (
      record { key = here.key; lines = unknown-lines u.value here.value here.trimmed (All-head (λ (e : Entry). NoKeyLine e.lines) (unknown_entry u) (map unknown_entry us) plain) },
      unknown-entries us (All-tail IsUnknown u us is) (All-tail (λ (e : Entry). NoKeyLine e.lines) (unknown_entry u) (map unknown_entry us) plain),
    )

-- ---- all entries

module _ (h : HeaderValue) (s : Steps) (is : IsHeader h) (steps : AreSteps s) (lines : All (λ (e : Entry). NoKeyLine e.lines) (entries_with h s)) where
  abbrev Apart : Entry → Type 0
  Apart e = NoKeyLine e.lines

  rest : (n : ℕ) → All Apart (drop n (entries_with h s))
  rest n = All-drop Apart n (entries_with h s) lines

  none : Entry
  none = record { key = []; lines = [] }

  pub all-entries : AreEntries (entries_with h s)
  unfolding AreEntries
  all-entries =
      let v : IsPart (codes "6") = plain-part (codes "6") (prints-plain (codes "6") ((omega arith, omega arith), tt) (λ e. absurd (cc e))) in (
        record { key = refl; lines = one (codes "6") (part-line (codes "6") v) (lines 0 none (omega arith)) },
        (
          record { key = refl; lines = one (box_text h.box) (box-line h.box is.region) (lines 1 none (omega arith)) },
          (
            record { key = refl; lines = all-lines h.fields is.fields is.texts (lines 2 none (omega arith)) },
            (
              record { key = refl; lines = one (mask_text h.mask) (mask-line h.mask is.mask) (lines 3 none (omega arith)) },
              (
                record {
                  key = refl;
                  lines =
                      one (decimal h.block_bits) (part-line (decimal h.block_bits) (plain-part (decimal h.block_bits) (number-plain h.block_bits (omega (arith, is.bits_few)))))
                      (lines 4 none (omega arith));
                },
                (
                  record {
                    key = refl;
                    lines =
                        one (decimal h.blocks_per_file)
                        (part-line (decimal h.blocks_per_file) (plain-part (decimal h.blocks_per_file) (number-plain h.blocks_per_file (omega (arith, is.blocks_few))))) (lines 5 none (omega arith));
                  },
                  (
                    record { key = refl; lines = one (template_line h.template) (template-line h.template is.template) (lines 6 none (omega arith)) },
                    (
                      record { key = refl; lines = one (steps_text s) (steps-line s steps) (lines 7 none (omega arith)) },
                      unknown-entries h.unknown is.unknown (rest 8),
                    ),
                  ),
                ),
              ),
            ),
          ),
        ),
      )
