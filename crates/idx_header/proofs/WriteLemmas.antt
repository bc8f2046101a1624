-- The text of a header, line by line: what one field and one axis more append.
use Rattle.std.proofs.Common.{◌≡◌, ℕ, ◌+◌, ◌<◌, ◌≤◌, List, [], ◌∷◌, ◌++◌, length, map, codes, take, refl, sym, ap, ◌∙◌, arith, append_assoc}
use Rattle.std.specs.Fmt.{decimal}
use Rattle.std.specs.List.{join_with_byte, slice_index_or}
use Rattle.std.proofs.lemmas.Grind.{flat_map-append}
use Rattle.std.proofs.lemmas.List.{take_more, map-append, append-nil, length-take-le}
use Rattle.idx_fields.specs.Field.{Field, field_at, field_text}
use Rattle.idx_fields.specs.Fields.{fields_lines}
use Rattle.idx_text.specs.BoxText.{both_ends}
use Rattle.idx_hz.specs.MaskText.{mask_text}
use Rattle.idx_text.specs.Entries.{entries_text, entry_text, lines_text}
use Rattle.idx_header.specs.declared.key.Key.TheVariants as keys
use Rattle.idx_header.specs.Header.{HeaderValue}
use Rattle.idx_header.specs.Written.{box_text, entries_of, entry, numbers_text, steps_entries, template_line, text_of, unknown_entry}

further : (fs gs : List Field) → 1 ≤ length fs → lines_text (fields_lines (fs ++ gs)) ≡ lines_text (fields_lines fs) ++ lines_text (map (λ f. 43 ∷ 32 ∷ field_text f) gs)
further [] gs h = absurd (omega arith)
further (f ∷ fs) gs h =
    ap (λ lines. lines_text (field_text f ∷ lines)) (map-append (λ g. 43 ∷ 32 ∷ field_text g) fs gs)
    ∙ flat_map-append (λ line. line ++ 10 ∷ []) (fields_lines (f ∷ fs)) (map (λ g. 43 ∷ 32 ∷ field_text g) gs)

-- one field more
pub lines-more : (fs : List Field) (i : ℕ) → 1 ≤ i → i < length fs →
    lines_text (fields_lines (take (i + 1) fs)) ≡ lines_text (fields_lines (take i fs)) ++ 43 ∷ 32 ∷ (field_text (field_at fs i) ++ 10 ∷ [])
lines-more fs i some h =
    ap (λ gs. lines_text (fields_lines gs)) (take_more fs i _ h)
    ∙ further (take i fs) (field_at fs i ∷ []) (omega (arith, length-take-le i fs (omega arith)))
    ∙ ap (λ text. lines_text (fields_lines (take i fs)) ++ 43 ∷ 32 ∷ text) (append-nil (field_text (field_at fs i) ++ 10 ∷ []))

join-more : (x y : List ℕ) (xs ys : List (List ℕ)) → join_with_byte 32 ((x ∷ xs) ++ y ∷ ys) ≡ join_with_byte 32 (x ∷ xs) ++ 32 ∷ join_with_byte 32 (y ∷ ys)
join-more x y [] ys = refl
join-more x y (z ∷ xs) ys =
    ap (λ text. x ++ 32 ∷ text) (join-more z y xs ys) ∙ sym (append_assoc x (32 ∷ join_with_byte 32 (z ∷ xs)) (32 ∷ join_with_byte 32 (y ∷ ys)))

box-append : (r : List (ℕ × ℕ)) (b : ℕ × ℕ) → 1 ≤ length r → box_text (r ++ b ∷ []) ≡ box_text r ++ 32 ∷ box_text (b ∷ [])
box-append [] b h = absurd (omega arith)
box-append (a ∷ r) b h =
    ap (λ ends. numbers_text (a.0 ∷ a.1 ∷ ends)) (flat_map-append (λ c. c.0 ∷ c.1 ∷ []) r (b ∷ []))
    ∙ ap (λ texts. join_with_byte 32 (decimal a.0 ∷ decimal a.1 ∷ texts)) (map-append decimal (both_ends r) (b.0 ∷ b.1 ∷ []))
    ∙ join-more (decimal a.0) (decimal b.0) (decimal a.1 ∷ map decimal (both_ends r)) (decimal b.1 ∷ [])

-- one axis more
pub box-more : (r : List (ℕ × ℕ)) (i : ℕ) → 1 ≤ i → i < length r →
    box_text (take (i + 1) r) ≡ box_text (take i r) ++ 32 ∷ box_text (slice_index_or r i (0, 0) ∷ [])
box-more r i some h = ap box_text (take_more r i _ h) ∙ box-append (take i r) (slice_index_or r i (0, 0)) (omega (arith, length-take-le i r (omega arith)))

in_a_row : (a b c d e f g s u ab abc abcd to_e to_f to_g to_s to_u : List ℕ) →
    ab ≡ a ++ b → abc ≡ ab ++ c → abcd ≡ abc ++ d → to_e ≡ abcd ++ e → to_f ≡ to_e ++ f → to_g ≡ to_f ++ g → to_s ≡ to_g ++ s → to_u ≡ to_s ++ u →
    to_u ≡ a ++ (b ++ (c ++ (d ++ (e ++ (f ++ (g ++ (s ++ u)))))))
in_a_row a b c d e f g s u ab abc abcd to_e to_f to_g to_s to_u is-ab is-abc is-abcd is-e is-f is-g is-s is-u =
    rw is-u (rw is-s (rw is-g (rw is-f (rw is-e (rw is-abcd (rw is-abc (rw is-ab (simp append_assoc refl))))))))

-- the texts of all keys make the text of the header
pub all_keys : (h : HeaderValue) (one two three four five six seven eight nine : List ℕ) →
    one ≡ entry_text (entry keys.Version (codes "6" ∷ [])) →
    two ≡ one ++ entry_text (entry keys.Box (box_text h.box ∷ [])) →
    three ≡ two ++ entry_text (entry keys.Fields (fields_lines h.fields)) →
    four ≡ three ++ entry_text (entry keys.Bits (mask_text h.mask ∷ [])) →
    five ≡ four ++ entry_text (entry keys.BitsPerBlock (decimal h.block_bits ∷ [])) →
    six ≡ five ++ entry_text (entry keys.BlocksPerFile (decimal h.blocks_per_file ∷ [])) →
    seven ≡ six ++ entry_text (entry keys.FilenameTemplate (template_line h.template ∷ [])) →
    eight ≡ seven ++ entries_text (steps_entries h.steps) →
    nine ≡ eight ++ entries_text (map unknown_entry h.unknown) →
    nine ≡ text_of h
unfolding text_of entries_of
all_keys h one two three four five six seven eight nine is-one is-two is-three is-four is-five is-six is-seven is-eight is-nine =
    in_a_row (entry_text (entry keys.Version (codes "6" ∷ []))) (entry_text (entry keys.Box (box_text h.box ∷ [])))
    (entry_text (entry keys.Fields (fields_lines h.fields))) (entry_text (entry keys.Bits (mask_text h.mask ∷ [])))
    (entry_text (entry keys.BitsPerBlock (decimal h.block_bits ∷ []))) (entry_text (entry keys.BlocksPerFile (decimal h.blocks_per_file ∷ [])))
    (entry_text (entry keys.FilenameTemplate (template_line h.template ∷ [])))
    (entries_text (steps_entries h.steps)) (entries_text (map unknown_entry h.unknown))
    two three four five six seven eight nine
    (is-two ∙ ap (λ text. text ++ entry_text (entry keys.Box (box_text h.box ∷ []))) is-one) is-three is-four is-five is-six is-seven is-eight is-nine
    ∙ sym (ap (λ text. entry_text (entry keys.Version (codes "6" ∷ [])) ++ (entry_text (entry keys.Box (box_text h.box ∷ []))
    ++ (entry_text (entry keys.Fields (fields_lines h.fields)) ++ (entry_text (entry keys.Bits (mask_text h.mask ∷ []))
    ++ (entry_text (entry keys.BitsPerBlock (decimal h.block_bits ∷ [])) ++ (entry_text (entry keys.BlocksPerFile (decimal h.blocks_per_file ∷ []))
    ++ (entry_text (entry keys.FilenameTemplate (template_line h.template ∷ [])) ++ text)))))))
    (flat_map-append entry_text (steps_entries h.steps) (map unknown_entry h.unknown)))
