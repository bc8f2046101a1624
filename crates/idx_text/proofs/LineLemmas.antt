-- The parts of a text between its line feeds, one after another.
use Rattle.std.proofs.Common.{◌≡◌, ℕ, ◌+◌, ◌<◌, ◌≤◌, ◌==◌, Bool, true, false, not, cond, List, [], ◌∷◌, length, take, drop, map, refl, sym, ap, ◌∙◌, arith, add-one, one-add}
use Rattle.std.proofs.lemmas.List.{take_all, drop_all}
use Rattle.std.specs.List.{onto_first, position_or_len}
use Rattle.std.specs.Str.Lines.{strip_carriage_return}
use Rattle.std.proofs.lemmas.List.{length-map}
use Rattle.idx_text.specs.Trim.{trimmed}
use Rattle.idx_text.specs.Lines.{parts, lines, trimmed_lines}

abbrev pub ends_line : ℕ → Bool
ends_line b = b == 10

-- the place of the first line feed, or the length
abbrev pub line_end : List ℕ → ℕ
line_end text = position_or_len (λ b. b == 10) text

step : (ends : Bool) (b : ℕ) (bs : List ℕ) → (0 < length bs → parts bs ≡ take (line_end bs) bs ∷ parts (drop (line_end bs + 1) bs)) →
    cond ends ([] ∷ parts bs) (onto_first b (parts bs)) ≡
    take (cond (not ends) (1 + line_end bs) 0) (b ∷ bs) ∷ parts (drop (cond (not ends) (1 + line_end bs) 0 + 1) (b ∷ bs))
step true b bs h = refl
step false b [] h = refl
step false b (x ∷ xs) h =
    let rest = h (omega arith) in
    let n : ℕ = line_end (x ∷ xs) in
    let more : take (1 + n) (b ∷ x ∷ xs) ≡ b ∷ take n (x ∷ xs) = rw one-add refl in
    let behind : drop (1 + n + 1) (b ∷ x ∷ xs) ≡ drop (n + 1) (x ∷ xs) = rw (add-one, one-add, add-one) refl in
    ap (onto_first b) rest ∙ sym (ap (λ t. t ∷ parts (drop (1 + n + 1) (b ∷ x ∷ xs))) more ∙ ap (λ t. (b ∷ take n (x ∷ xs)) ∷ parts t) behind)

-- the first part ends at the first line feed, or at the end
pub parts-first : (text : List ℕ) → 0 < length text → parts text ≡ take (line_end text) text ∷ parts (drop (line_end text + 1) text)
parts-first [] some = absurd (omega arith)
parts-first (b ∷ bs) some = step (ends_line b) b bs (parts-first bs)

-- a text in which no line ends is one part
pub parts-last : (text : List ℕ) → 0 < length text → length text ≤ line_end text → parts text ≡ text ∷ parts []
parts-last text some none =
    let all : take (line_end text) text ≡ text = take_all (line_end text) text none in
    let nothing : drop (line_end text + 1) text ≡ [] = drop_all (line_end text + 1) text (omega arith) in
    parts-first text some ∙ ap (λ t. t ∷ parts (drop (line_end text + 1) text)) all ∙ ap (λ t. text ∷ parts t) nothing

-- one part more is one line more
pub lines-step : (text part behind : List ℕ) → parts text ≡ part ∷ parts behind → lines text ≡ strip_carriage_return part ∷ lines behind
unfolding lines
lines-step text part behind e = ap (map strip_carriage_return) e

pub trimmed-step : (text part behind line : List ℕ) → parts text ≡ part ∷ parts behind → line ≡ trimmed (strip_carriage_return part) →
    trimmed_lines text ≡ line ∷ trimmed_lines behind
trimmed-step text part behind line e is = ap (map trimmed) (lines-step text part behind e) ∙ ap (λ l. l ∷ trimmed_lines behind) (sym is)

pub lines-none : lines [] ≡ []
unfolding lines
lines-none = refl

-- a line for each part
pub length-lines : (text : List ℕ) → length (lines text) ≡ length (parts text)
unfolding lines
length-lines text = simp length-map
