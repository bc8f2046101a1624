-- Keys with the lines of their values, written and read back.
use Rattle.std.proofs.Common.{◌≡◌, ℕ, zero, suc, ◌+◌, ◌-◌, ◌==◌, ◌&&◌, true, false, cond, List, [], ◌∷◌, ◌++◌, length, map, take, get_or, flat_map, All, Some, None, refl, sym, ap, ◌∙◌, arith, append_assoc}
use Rattle.std.specs.List.{join_with_byte, onto_first}
use Rattle.std.specs.Str.Lines.{strip_carriage_return}
use Rattle.std.proofs.Math.Numerals.{suc-eq-add-one}
use Rattle.std.proofs.lemmas.Bool.Decides.{nat_tests}
use Rattle.std.proofs.lemmas.List.Elements.{All-head, All-tail}
use Rattle.std.proofs.lemmas.List.Folds.{list_all-append}
use Rattle.std.proofs.lemmas.Grind.{flat_map-append, common_steps}
use Rattle.idx_text.specs.Numbers.{has_bytes}
use Rattle.idx_text.specs.Trim.{trimmed}
use Rattle.idx_text.specs.declared.section.Section.{Section}
use Rattle.idx_text.specs.Entries.{Entry, IsEntry, IsValueLine, entry_text, entries_text, key_line, lines_text, numbered}
use Rattle.idx_text.specs.Lines.{is_text, is_text_line, lines, parts, trimmed_lines, wrong_line, wrong_line_from}
use Rattle.idx_text.specs.Sections.{is_key_line, key_in, value_lines, value_in, sections_from, sections}
use Rattle.idx_text.proofs.TextLemmas.{trimmed-stays, last_word-append}

-- ---- the parts of lines that are ended by line feeds

no_feed : (b : ℕ) → is_text b ≡ true → (b == 10) ≡ false
no_feed b h = grind (arith, nat_tests)

no_return : (b : ℕ) → is_text b ≡ true → (b == 13) ≡ false
no_return b h = grind (arith, nat_tests)

pub parts-line : (line rest : List ℕ) → is_text_line line ≡ true → parts (line ++ 10 ∷ rest) ≡ line ∷ parts rest
parts-line [] rest h = refl
parts-line (b ∷ bs) rest h =
    let here : is_text b ≡ true = grind arith in
    let more : is_text_line bs ≡ true = grind arith in
    ap (λ c. cond c ([] ∷ parts (bs ++ 10 ∷ rest)) (onto_first b (parts (bs ++ 10 ∷ rest)))) (no_feed b here)
    ∙ ap (onto_first b) (parts-line bs rest more)

at-no_return : (xs : List ℕ) (i : ℕ) → is_text_line xs ≡ true → (get_or xs i 0 == 13) ≡ false
at-no_return [] i h = refl
at-no_return (x ∷ xs) zero h = no_return x (grind arith)
at-no_return (x ∷ xs) (suc i) h = at-no_return xs i (grind arith)

pub strip-line : (line : List ℕ) → is_text_line line ≡ true → strip_carriage_return line ≡ line
strip-line line h = ap (λ c. cond c (take (length line - 1) line) line) (at-no_return line (length line - 1) h)

-- lines each of whose bytes may stand in a text
AllText : List (List ℕ) → Type 0
AllText [] = Unit {0}
AllText (line ∷ more) = (is_text_line line ≡ true) × AllText more

lines-back : (ls : List (List ℕ)) → AllText ls → lines (lines_text ls) ≡ ls
unfolding lines AllText
lines-back [] h = refl
lines-back (line ∷ more) h =
    ap (map strip_carriage_return) (ap parts (append_assoc line (10 ∷ []) (lines_text more)) ∙ parts-line line (lines_text more) h.0)
    ∙ ap (λ l. l ∷ map strip_carriage_return (parts (lines_text more))) (strip-line line h.0)
    ∙ ap (λ ls. line ∷ ls) (lines-back more h.1)

right-lines : (number : ℕ) (ls : List (List ℕ)) → AllText ls → wrong_line_from number ls ≡ None
unfolding AllText
right-lines number [] h = refl
right-lines number (line ∷ more) h =
    ap (λ c. cond c (wrong_line_from (number + 1) more) (Some number)) h.0 ∙ right-lines (number + 1) more h.1

-- ---- key lines

last-key : (front : List ℕ) (b : ℕ) → get_or (front ++ b ∷ []) (length (front ++ b ∷ []) - 1) 0 ≡ b
last-key front b = grind (arith, common_steps)

pub key_line-is : (key : List ℕ) → is_key_line (key_line key) ≡ true
key_line-is key = ap (λ b. b == 41) (last-key (40 ∷ key) 41)

pub key_line-key : (key : List ℕ) → key_in (key_line key) ≡ key
key_line-key key = grind (arith, common_steps)

key_line-trimmed : (key : List ℕ) → trimmed (key_line key) ≡ key_line key
key_line-trimmed key =
    trimmed-stays (key_line key) (record { begins = refl; ends = last_word-append (40 ∷ key) (41 ∷ []) (omega arith) refl })

key_line-text : (key : List ℕ) → is_text_line key ≡ true → is_text_line (key_line key) ≡ true
key_line-text key h = list_all-append is_text key (41 ∷ []) ∙ ap (λ c. c && true) h

-- ---- the lines of entries

abbrev entry_lines : Entry → List (List ℕ)
entry_lines e = key_line e.key ∷ e.lines

abbrev all_lines : List Entry → List (List ℕ)
all_lines entries = flat_map entry_lines entries

lines_text-append : (xs ys : List (List ℕ)) → lines_text (xs ++ ys) ≡ lines_text xs ++ lines_text ys
lines_text-append xs ys = flat_map-append (λ line. line ++ 10 ∷ []) xs ys

entries-lines : (entries : List Entry) → entries_text entries ≡ lines_text (all_lines entries)
entries-lines [] = refl
entries-lines (e ∷ entries) = ap (λ t. entry_text e ++ t) (entries-lines entries) ∙ sym (lines_text-append (entry_lines e) (all_lines entries))

-- what is true of each entry
unfoldable pub AreEntries : List Entry → Type 0
AreEntries [] = Unit {0}
AreEntries (e ∷ entries) = IsEntry e × AreEntries entries

text-append : (xs ys : List (List ℕ)) → AllText xs → AllText ys → AllText (xs ++ ys)
unfolding AllText
text-append [] ys h t = t
text-append (x ∷ xs) ys h t = (h.0, text-append xs ys h.1 t)

values-text : (ls : List (List ℕ)) → All IsValueLine ls → AllText ls
unfolding AllText
values-text [] h = tt
values-text (line ∷ more) h = ((All-head IsValueLine line more h).text, values-text more (All-tail IsValueLine line more h))

all-text : (entries : List Entry) → AreEntries entries → AllText (all_lines entries)
unfolding AllText AreEntries
all-text [] h = tt
all-text (e ∷ entries) h = (key_line-text e.key h.0.key, text-append e.lines (all_lines entries) (values-text e.lines h.0.lines) (all-text entries h.1))

values-trimmed : (ls : List (List ℕ)) → All IsValueLine ls → map trimmed ls ≡ ls
values-trimmed [] h = refl
values-trimmed (line ∷ more) h =
    ap (λ l. l ∷ map trimmed more) (All-head IsValueLine line more h).trimmed ∙ ap (λ ls. line ∷ ls) (values-trimmed more (All-tail IsValueLine line more h))

map-append-lines : (xs ys : List (List ℕ)) → map trimmed (xs ++ ys) ≡ map trimmed xs ++ map trimmed ys
map-append-lines [] ys = refl
map-append-lines (x ∷ xs) ys = ap (λ t. trimmed x ∷ t) (map-append-lines xs ys)

all-trimmed : (entries : List Entry) → AreEntries entries → map trimmed (all_lines entries) ≡ all_lines entries
unfolding AreEntries
all-trimmed [] h = refl
all-trimmed (e ∷ entries) h =
    ap (λ l. l ∷ map trimmed (e.lines ++ all_lines entries)) (key_line-trimmed e.key)
    ∙ ap (λ t. key_line e.key ∷ t) (map-append-lines e.lines (all_lines entries)
    ∙ ap (λ t. t ++ map trimmed (all_lines entries)) (values-trimmed e.lines h.0.lines)
    ∙ ap (λ t. e.lines ++ t) (all-trimmed entries h.1))

-- ---- their sections

-- no line of a value stands in front
Opens : List (List ℕ) → Type 0
Opens [] = Unit {0}
Opens (line ∷ more) = is_key_line line ≡ true

all-open : (entries : List Entry) → Opens (all_lines entries)
unfolding Opens
all-open [] = tt
all-open (e ∷ entries) = key_line-is e.key

values-end : (more : List (List ℕ)) → Opens more → value_lines more ≡ []
unfolding Opens
values-end [] h = refl
values-end (line ∷ more) h = ap (λ c. cond c [] (cond (has_bytes line) (line ∷ value_lines more) (value_lines more))) h

values-back : (ls more : List (List ℕ)) → All IsValueLine ls → Opens more → value_lines (ls ++ more) ≡ ls
values-back [] more h o = values-end more o
values-back (line ∷ ls) more h o =
    let here = All-head IsValueLine line ls h in
    let rest : List (List ℕ) = value_lines (ls ++ more) in
    ap (λ c. cond c [] (cond (has_bytes line) (line ∷ rest) rest)) here.value
    ∙ ap (λ c. cond c (line ∷ rest) rest) here.some
    ∙ ap (λ t. line ∷ t) (values-back ls more (All-tail IsValueLine line ls h) o)

sections-skip : (number : ℕ) (ls more : List (List ℕ)) → All IsValueLine ls → sections_from number (ls ++ more) ≡ sections_from (number + length ls) more
sections-skip number [] more h = ap (λ n. sections_from n more) (omega arith)
sections-skip number (line ∷ ls) more h =
    let here = All-head IsValueLine line ls h in
    let rest : List Section = sections_from (number + 1) (ls ++ more) in
    ap (λ c. cond c (record { line = number; key = key_in line; value = value_in (ls ++ more) } ∷ rest) rest) here.value
    ∙ sections-skip (number + 1) ls more (All-tail IsValueLine line ls h)
    ∙ ap (λ n. sections_from n more) (omega (arith, suc-eq-add-one (length ls)))

entries-sections : (number : ℕ) (entries : List Entry) → AreEntries entries → sections_from number (all_lines entries) ≡ numbered number entries
unfolding AreEntries
entries-sections number [] h = refl
entries-sections number (e ∷ entries) h =
    let behind : List (List ℕ) = e.lines ++ all_lines entries in
    let rest : List Section = sections_from (number + 1) behind in
    ap (λ c. cond c (record { line = number; key = key_in (key_line e.key); value = value_in behind } ∷ rest) rest) (key_line-is e.key)
    ∙ ap (λ k. record { line = number; key = k; value = value_in behind } ∷ rest) (key_line-key e.key)
    ∙ ap (λ ls. record { line = number; key = e.key; value = join_with_byte 32 ls } ∷ rest) (values-back e.lines (all_lines entries) h.0.lines (all-open entries))
    ∙ ap (λ t. record { line = number; key = e.key; value = join_with_byte 32 e.lines } ∷ t)
    (sections-skip (number + 1) e.lines (all_lines entries) h.0.lines ∙ entries-sections (number + 1 + length e.lines) entries h.1)

-- the sections of a text that was written
pub written-sections : (entries : List Entry) → AreEntries entries → sections (entries_text entries) ≡ numbered 1 entries
unfolding sections
written-sections entries h =
    ap (λ t. sections_from 1 (trimmed_lines t)) (entries-lines entries)
    ∙ ap (λ ls. sections_from 1 (map trimmed ls)) (lines-back (all_lines entries) (all-text entries h))
    ∙ ap (sections_from 1) (all-trimmed entries h)
    ∙ entries-sections 1 entries h

-- no line of it is wrong
pub written-text : (entries : List Entry) → AreEntries entries → wrong_line (entries_text entries) ≡ None
written-text entries h =
    ap (λ t. wrong_line_from 1 (lines t)) (entries-lines entries)
    ∙ ap (wrong_line_from 1) (lines-back (all_lines entries) (all-text entries h))
    ∙ right-lines 1 (all_lines entries) (all-text entries h)
