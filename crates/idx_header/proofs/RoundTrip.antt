-- The canonical text of a header that can be written, read back.
use Rattle.std.proofs.Common.{◌≡◌, ℕ, ◌+◌, ◌^◌, ◌<◌, ◌&&◌, not, nat_lt, Bool, true, false, cond, List, [], ◌∷◌, ◌++◌, length, map, filter, All, Option, Some, None, Ok, refl, sym, ap, ◌∙◌, subst, arith}
use Rattle.std.specs.List.{join_with_byte, list_any}
use Rattle.std.specs.Prelude.{IsSome, IfSome}
use Rattle.std.specs.Fmt.{decimal}
use Rattle.std.proofs.lemmas.Bool.Decides.{nat_tests}
use Rattle.std.proofs.lemmas.List.Elements.{All-head, All-tail}
use Rattle.idx_text.specs.Number.{number_of}
use Rattle.idx_text.specs.Numbers.{has_bytes}
use Rattle.idx_text.proofs.NumberLemmas.{reads_back}
use Rattle.idx_text.specs.declared.section.Section.{Section}
use Rattle.idx_text.specs.Entries.{Entry, entries_text, numbered}
use Rattle.idx_text.specs.Lines.{lines, wrong_line}
use Rattle.idx_text.specs.Sections.{sections}
use Rattle.idx_text.proofs.EntryLemmas.{AreEntries, written-sections, written-text}
use Rattle.idx_hz.specs.MaskText.{mask_of, mask_text}
use Rattle.idx_fields.specs.Fields.{are_within_limits, fields_lines, listed_fields}
use Rattle.idx_names.specs.Template.{room, template_of}
use Rattle.idx_names.proofs.TemplateLemmas.{dot_read_again, made}
use Rattle.idx_header.specs.declared.header_fault.HeaderFault.{HeaderFault}
use Rattle.idx_header.specs.declared.header_kind.HeaderKind.{HeaderKind}
use Rattle.idx_header.specs.declared.steps.Steps.{Steps}
use Rattle.idx_header.specs.declared.unknown.Unknown.{Unknown}
use Rattle.idx_header.specs.Box.{box_of, pairs_of}
use Rattle.idx_header.specs.Faults.{double_key_at, fault_where, first_of, last_file_number, not_text_on, or_else, overflows}
use Rattle.idx_header.specs.Header.{AreSteps, HeaderValue, IsHeader, IsUnknown}
use Rattle.idx_header.specs.HeaderOf.{text_faults, key_faults, value_faults, faults_of, header_in, header_of, unless, unknown_in}
use Rattle.idx_header.specs.Keys.{has_key, is_known, lacks_key, repeated, repeated_behind, section_of, unknown_sections}
use Rattle.idx_header.specs.Time.{step_count, steps_of}
use Rattle.idx_header.specs.Written.{box_text, steps_text, template_line, entries_of, IsWritable, text_of, unknown_entry}
use Rattle.idx_header.proofs.BackLemmas.{bits-right, blocks-right, box-back, fields-back, mask-back, mask-fits, mask-names, steps-back}
use Rattle.idx_header.proofs.EntryLines.{all-entries, entries_with, NoKeyLine}

-- ---- keys that have no effect

-- none of them is a known key
unrepeated : (line : ℕ) (before : List Section) (us : List Unknown) → All IsUnknown us → repeated_behind before (numbered line (map unknown_entry us)) ≡ None
unrepeated line before [] h = refl
unrepeated line before (u ∷ us) h =
    let s : Section = record { line = line; key = u.key; value = join_with_byte 32 (unknown_entry u).lines } in
    let more : List Section = numbered (line + 1 + length (unknown_entry u).lines) (map unknown_entry us) in
    ap (λ c. cond (c && list_any (has_key u.key) before) (Some s) (repeated_behind (before ++ s ∷ []) more)) (All-head IsUnknown u us h).unknown
    ∙ unrepeated (line + 1 + length (unknown_entry u).lines) (before ++ s ∷ []) us (All-tail IsUnknown u us h)

one-line : (value : List ℕ) → join_with_byte 32 (cond (has_bytes value) (value ∷ []) []) ≡ value
one-line [] = refl
one-line (b ∷ bs) = refl

unknown-back : (line : ℕ) (us : List Unknown) → All IsUnknown us → unknown_in (numbered line (map unknown_entry us)) ≡ us
unfolding unknown_sections
unknown-back line [] h = refl
unknown-back line (u ∷ us) h =
    let s : Section = record { line = line; key = u.key; value = join_with_byte 32 (unknown_entry u).lines } in
    let next : ℕ = line + 1 + length (unknown_entry u).lines in
    let kept : List Section = filter (λ t. not (is_known t)) (numbered next (map unknown_entry us)) in
    let plain : Section → Unknown = λ t. record { key = t.key; value = t.value } in
    ap (λ c. map plain (cond (not c) (s ∷ kept) kept)) (All-head IsUnknown u us h).unknown
    ∙ ap (λ v. record { key = u.key; value = v } ∷ map plain kept) (one-line u.value)
    ∙ ap (λ t. u ∷ t) (unknown-back next us (All-tail IsUnknown u us h))

-- ---- no fault

unfoldable pub AllNone : List (Option HeaderFault) → Type 0
AllNone [] = Unit {0}
AllNone (f ∷ fs) = (f ≡ None) × AllNone fs

pub none-first : (fs : List (Option HeaderFault)) → AllNone fs → first_of fs ≡ None
unfolding AllNone
none-first [] h = refl
none-first (None ∷ fs) h = none-first fs h.1
none-first (Some f ∷ fs) h = cc

nowhere : (applies : Bool) (line : ℕ) (kind : HeaderKind) → applies ≡ false → fault_where applies line kind ≡ None
nowhere true line kind h = cc
nowhere false line kind h = refl

module _ (h : HeaderValue) (s : Steps) (is : IsHeader h) (time : h.steps ≡ Some s) (steps : AreSteps s) (w : IsWritable h) where
  abbrev written : List Section
  written = numbered 1 (entries_with h s)

  same-entries : entries_of h ≡ entries_with h s
  unfolding entries_of
  same-entries = rw time refl

  same-text : text_of h ≡ entries_text (entries_with h s)
  unfolding text_of
  same-text = ap entries_text same-entries

  are : AreEntries (entries_with h s)
  are = all-entries h s is steps (subst (All (λ (e : Entry). NoKeyLine e.lines)) same-entries w.lines)

  read : sections (text_of h) ≡ written
  read = ap sections same-text ∙ written-sections (entries_with h s) are

  right : wrong_line (text_of h) ≡ None
  right = ap wrong_line same-text ∙ written-text (entries_with h s) are

  short : nat_lt 65536 (length (text_of h)) ≡ false
  short = grind (arith, nat_tests, w.short)

  once : repeated written ≡ None
  unfolding repeated
  once = unrepeated _ _ h.unknown is.unknown

  whole : lacks_key written ≡ false
  unfolding section_of
  whole = refl

  fields-are : (listed_fields (join_with_byte 32 (fields_lines h.fields)) ≡ Some h.fields) × (are_within_limits h.fields ≡ true)
  fields-are = fields-back h.fields is.fields

  template-is : template_of (template_line h.template) ≡ Some h.template
  template-is = dot_read_again h.template (made h.template is.template)

  bits-are : number_of (decimal h.block_bits) ≡ Some h.block_bits
  bits-are = reads_back h.block_bits (omega (arith, is.bits_few))

  blocks-are : number_of (decimal h.blocks_per_file) ≡ Some h.blocks_per_file
  blocks-are = reads_back h.blocks_per_file (omega (arith, is.blocks_few))

  box-is : pairs_of (box_text h.box) ≡ Some h.box
  box-is = box-back h.box is.region

  mask-is : mask_of (mask_text h.mask) ≡ Some h.mask
  mask-is = mask-back h.mask is.mask

  steps-are : steps_of (steps_text s) ≡ Some s
  steps-are = steps-back s steps

  last-fits : overflows (Some h.template) (last_file_number (length h.mask) h.block_bits h.blocks_per_file) ≡ false
  last-fits =
      let fits : last_file_number (length h.mask) h.block_bits h.blocks_per_file < 2 ^ room h.template = is.fits in
      grind (arith, nat_tests, fits)

  few-steps : nat_lt 4096 (step_count s) ≡ false
  few-steps = grind (arith, nat_tests, steps.few)

  no_value_fault : AllNone (value_faults written)
  unfolding AllNone section_of number_of
  no_value_fault = (
    refl,
    (
      refl,
      (
        nowhere _ _ _ (rw box-is refl),
        (
          nowhere _ _ _ (rw (mask-is, box-is, mask-names h.box h.mask is.covered) refl),
          (
            nowhere _ _ _ (rw (mask-is, box-is, mask-fits h.box h.mask is.covered) refl),
            (
              nowhere _ _ _ (rw fields-are.0 refl),
              (
                nowhere _ _ _ (rw (fields-are.0, fields-are.1) refl),
                (
                  nowhere _ _ _ (rw bits-are refl),
                  (
                    nowhere _ _ _ (rw (bits-are, mask-is, fields-are.0) (bits-right h is)),
                    (
                      nowhere _ _ _ (rw blocks-are refl),
                      (
                        nowhere _ _ _ (rw (blocks-are, fields-are.0) (blocks-right h is)),
                        (
                          nowhere _ _ _ (rw template-is refl),
                          (
                            nowhere _ _ _ (rw (template-is, mask-is, bits-are, blocks-are) last-fits),
                            (nowhere _ _ _ (rw steps-are refl), (nowhere _ _ _ (rw steps-are few-steps), tt)),
                          ),
                        ),
                      ),
                    ),
                  ),
                ),
              ),
            ),
          ),
        ),
      ),
    ),
  )

  no_fault : first_of (faults_of (text_of h)) ≡ None
  unfolding faults_of AllNone
  no_fault =
      let T : List ℕ = text_of h in
      ap (λ ss. first_of (text_faults T ++ (key_faults (length (lines T)) ss ++ value_faults ss))) read
      ∙ none-first (text_faults T ++ (key_faults (length (lines T)) written ++ value_faults written))
      (nowhere _ _ _ short, (ap not_text_on right, (ap double_key_at once, (nowhere _ _ _ whole, no_value_fault))))

  same-unknown : unknown_in written ≡ h.unknown
  unfolding unknown_sections
  same-unknown = unknown-back _ h.unknown is.unknown

  same-header : header_in written ≡ h
  unfolding header_in section_of number_of
  same-header = λ i. record {
    box = (ap (λ o. box_of (or_else [] o) (or_else [] (mask_of (mask_text h.mask)))) box-is ∙ ap (λ o. box_of h.box (or_else [] o)) mask-is ∙ is.whole) i;
    mask = ap (or_else []) mask-is i;
    fields = ap (or_else []) fields-are.0 i;
    block_bits = ap (or_else 0) bits-are i;
    blocks_per_file = ap (or_else 0) blocks-are i;
    template = ap (or_else (record { above = []; pieces = [] })) template-is i;
    steps = (steps-are ∙ sym time) i;
    unknown = same-unknown i;
    revision = sym w.unrevised i;
  }

  back : header_of (text_of h) ≡ Ok h
  unfolding header_of
  back =
      ap (λ f. unless f (header_in (sections (text_of h)))) no_fault
      ∙ ap (λ ss. Ok (header_in ss)) read ∙ ap Ok same-header

-- reading what is written of a header gives the header
pub read_back : (h : HeaderValue) → IsHeader h → IsWritable h → header_of (text_of h) ≡ Ok h
read_back h is w = go h.steps refl w.time is.steps
  where
    go : (o : Option Steps) → h.steps ≡ o → IsSome o → IfSome o AreSteps → header_of (text_of h) ≡ Ok h
    go None e some are = cc
    go (Some s) e some are = back h s is e are w
