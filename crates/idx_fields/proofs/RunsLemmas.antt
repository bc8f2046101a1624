-- The words of a text: blanks in front go, and a word up to the next blank is the first.
use Rattle.std.proofs.Common.{◌≡◌, true, false, ℕ, ◌-◌, ◌<◌, ◌≤◌, List, [], ◌∷◌, ◌++◌, length, take, drop, get_or, filter, refl, sym, ap, ◌∙◌, arith, append-nil, add-zero, length-drop, zero, suc}
use Rattle.std.specs.List.{All, slice_split}
use Rattle.std.proofs.lemmas.List.Splits.{slice_split_at, slice_split_none, slice_split-cons_yes}
use Rattle.std.proofs.lemmas.List.{take-append-drop, get_or-drop, length-take-le}
use Rattle.std.proofs.lemmas.List.Elements.{All-head, All-tail}
use Rattle.idx_text.specs.Numbers.{is_blank, has_bytes, runs}

-- a blank in front goes
pub runs-blank : (b : ℕ) (rest : List ℕ) → is_blank b ≡ true → runs (b ∷ rest) ≡ runs rest
runs-blank b rest here = ap (filter has_bytes) (slice_split-cons_yes is_blank b rest here)

-- blanks in front go
pub runs-blanks : (front rest : List ℕ) → All (λ b. is_blank b ≡ true) front → runs (front ++ rest) ≡ runs rest
runs-blanks [] rest all = refl
runs-blanks (b ∷ bs) rest all = runs-blank b (bs ++ rest) (All-head (λ x. is_blank x ≡ true) b bs all) ∙ runs-blanks bs rest (All-tail (λ x. is_blank x ≡ true) b bs all)

has-cons : (word : List ℕ) (words : List (List ℕ)) → 0 < length word → filter has_bytes (word ∷ words) ≡ word ∷ filter has_bytes words
has-cons [] words some = absurd (omega arith)
has-cons (b ∷ bs) words some = refl

-- a word before a blank is the first word
pub runs-word : (word : List ℕ) (b : ℕ) (rest : List ℕ) → 0 < length word → All (λ b. is_blank b ≡ false) word → is_blank b ≡ true →
    runs (word ++ b ∷ rest) ≡ word ∷ runs rest
runs-word word b rest some all here =
    ap (filter has_bytes) (slice_split_at is_blank word b rest all here) ∙ has-cons word (slice_split is_blank rest) some

-- a word alone is the only word
pub runs-last : (word : List ℕ) → 0 < length word → All (λ b. is_blank b ≡ false) word → runs word ≡ word ∷ []
runs-last word some all = ap (filter has_bytes) (slice_split_none is_blank word all) ∙ has-cons word [] some

-- a word before something that is empty or begins with a blank
pub runs-before : (word rest : List ℕ) → 0 < length word → All (λ b. is_blank b ≡ false) word →
    (0 < length rest → is_blank (get_or rest 0 0) ≡ true) → runs (word ++ rest) ≡ word ∷ runs rest
runs-before word [] some all behind = ap runs (append-nil word) ∙ runs-last word some all
runs-before word (b ∷ rest) some all behind =
    runs-word word b rest some all (behind (omega arith)) ∙ ap (λ t. word ∷ t) (sym (runs-blank b rest (behind (omega arith))))

-- a text of blanks has no word
pub runs-none : (text : List ℕ) → All (λ b. is_blank b ≡ true) text → runs text ≡ []
runs-none text all = ap runs (sym (append-nil text)) ∙ runs-blanks text [] all

-- a word that does not end at its start has a byte
not_at_start : (rest : List ℕ) (end : ℕ) → 0 < length rest → is_blank (get_or rest 0 0) ≡ false →
    (end < length rest → is_blank (get_or rest end 0) ≡ true) → 0 < end
not_at_start rest zero some letter behind = absurd (true_is_not_false (sym (behind some) ∙ letter))
  where
    true_is_not_false : true ≡ false → ⊥
    true_is_not_false e = cc
not_at_start rest (suc end) some letter behind = omega arith

-- the first word stands behind the first blanks, and ends before the next
pub runs-first : (text rest : List ℕ) (start end : ℕ) → start < length text → All (λ b. is_blank b ≡ true) (take start text) →
    is_blank (get_or text start 0) ≡ false → rest ≡ drop start text → end ≤ length rest → All (λ b. is_blank b ≡ false) (take end rest) →
    (end < length rest → is_blank (get_or rest end 0) ≡ true) →
    (runs text ≡ take end rest ∷ runs (drop end rest)) × (length (drop end rest) < length text)
runs-first text rest start end inside blanks word is within letters behind =
    let at : get_or rest 0 0 ≡ get_or text start 0 =
    ap (λ t. get_or t 0 0) is ∙ get_or-drop start text 0 0 ∙ ap (λ n. get_or text n 0) (add-zero start) in
    let left : length rest ≡ length text - start = ap length is ∙ length-drop start text in
    let some : 0 < end = not_at_start rest end (omega arith) (ap is_blank at ∙ word) behind in
    let skipped : runs text ≡ runs rest = ap runs (sym (take-append-drop start text)) ∙ runs-blanks (take start text) (drop start text) blanks ∙ ap runs (sym is) in
    let size : length (take end rest) ≡ end = length-take-le end rest within in
    let size' : length (drop end rest) ≡ length rest - end = length-drop end rest in
    let next : 0 < length (drop end rest) → is_blank (get_or (drop end rest) 0 0) ≡ true =
    λ h. ap is_blank (get_or-drop end rest 0 0 ∙ ap (λ n. get_or rest n 0) (add-zero end)) ∙ behind (omega arith) in
    let first : runs rest ≡ take end rest ∷ runs (drop end rest) =
    ap runs (sym (take-append-drop end rest)) ∙ runs-before (take end rest) (drop end rest) (omega arith) letters next in
    (skipped ∙ first, omega arith)
