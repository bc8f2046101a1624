-- Different numbers give different paths.
use Rattle.std.proofs.Common.{◌≡◌, ℕ, zero, suc, ◌+◌, ◌-◌, ◌*◌, ◌/◌, ◌%◌, ◌^◌, ◌<◌, ◌≤◌, true, false, eqb, ltb, List, [], ◌∷◌, ◌++◌, length, map, replicate, refl, sym, ap, ◌∙◌, subst, arith, append_assoc, append-nil, if◌then◌else◌, mod-lt, length-append, true≢false, Some, None}
use Rattle.std.proofs.lemmas.List.{append_cancel_left, length-map, length-replicate}
use Rattle.std.proofs.lemmas.Bool.Decides.{nat_tests}
use Rattle.std.proofs.lemmas.Int.Digits.{number_digits_of, all_below_base_digits_of, length-digits_of-le}
use Rattle.std.proofs.lemmas.Nat.{pow-add, pow_pos}
use Rattle.std.proofs.Math.Nat.{div-add-mod, div-lt_iff_lt-mul}
use Rattle.std.specs.Fmt.{digit_glyph}
use Rattle.std.specs.List.{AllByRecursion}
use Rattle.std.specs.Int.Digits.{digits_of, number_from_digits, number_from_digits_after, AllBelowBase}
use Rattle.idx_names.specs.declared.mark_kind.MarkKind.TheVariants.{Step}
use Rattle.idx_names.specs.declared.piece.Piece.{Piece}
use Rattle.idx_names.specs.declared.piece.Piece.TheVariants.{Byte, Mark}
use Rattle.idx_names.specs.Numeral.{numeral}
use Rattle.idx_names.specs.Pieces.{bits_of, mark_count, is_plain}
use Rattle.idx_names.specs.Template.{TemplateValue, IsTemplate}
use Rattle.idx_names.specs.TimeTemplate.{TimeTemplateValue, IsTimeTemplate, folder_text, folder_name}
use Rattle.idx_names.specs.Path.{numbered, revision_mark, step_folder, file_path}
use Rattle.idx_names.proofs.GrammarLemmas.{IsInner, All-both}
use Rattle.idx_names.proofs.TemplateLemmas.{made}
use Rattle.idx_names.proofs.TimeLemmas.{made_time}
use Rattle.idx_names.proofs.NumeralLemmas.{numeral_parts}

-- two lists whose fronts are as long
halves : {A : Type 0} (xs us ys vs : List A) → length xs ≡ length us → xs ++ ys ≡ us ++ vs → (xs ≡ us) × (ys ≡ vs)
halves [] [] ys vs same e = (refl, e)
halves [] (u ∷ us) ys vs same e = absurd (omega arith)
halves (x ∷ xs) [] ys vs same e = absurd (omega arith)
halves (x ∷ xs) (u ∷ us) ys vs same e =
    let head : x ≡ u = cc in
    let tail : xs ++ ys ≡ us ++ vs = cc in
    let rest = halves xs us ys vs (omega arith) tail in
    (λ i. head i ∷ rest.0 i, rest.1)

ends_halves : {A : Type 0} (xs us ys vs : List A) → length ys ≡ length vs → xs ++ ys ≡ us ++ vs → (xs ≡ us) × (ys ≡ vs)
ends_halves xs us ys vs same e =
    let whole : length (xs ++ ys) ≡ length (us ++ vs) = ap length e in
    halves xs us ys vs (omega (arith, length-append xs ys, length-append us vs)) e

-- the digit of a character
digit_back : ℕ → ℕ
digit_back c = if ltb c 58 then c - 48 else c - 87

glyph_back : (d : ℕ) → d < 16 → digit_back (digit_glyph false d) ≡ d
unfolding digit_back
glyph_back d small = grind (arith, nat_tests)

glyphs_back : (b : ℕ) (ds : List ℕ) → b ≤ 16 → AllBelowBase b ds → map digit_back (map (digit_glyph false) ds) ≡ ds
glyphs_back b [] base h = refl
glyphs_back b (d ∷ ds) base h =
    let first : digit_back (digit_glyph false d) ≡ d = glyph_back d (omega (arith, h.0)) in
    let rest = glyphs_back b ds base h.1 in λ i. first i ∷ rest i

zeros_back : (b k : ℕ) (ds : List ℕ) → number_from_digits b (map digit_back (replicate k 48 ++ ds)) ≡ number_from_digits b (map digit_back ds)
unfolding digit_back
zeros_back b zero ds = refl
zeros_back b (suc k) ds =
    let none : 0 * b + 0 ≡ 0 = omega arith in
    ap (λ n. number_from_digits_after b n (map digit_back (replicate k 48 ++ ds))) none ∙ zeros_back b k ds

-- the number that a numeral stands for
number_back : ℕ → List ℕ → ℕ
number_back b bs = number_from_digits b (map digit_back bs)

numeral_back : (b least n : ℕ) → 2 ≤ b → b ≤ 16 → number_back b (numeral b least n) ≡ n
unfolding number_back
numeral_back b least n low high =
    let digits = map (digit_glyph false) (digits_of b n) in
    ap (λ bs. number_from_digits b (map digit_back bs)) (numeral_parts b least n digits refl)
    ∙ zeros_back b (least - length digits) digits
    ∙ ap (number_from_digits b) (glyphs_back b (digits_of b n) high (all_below_base_digits_of b n low))
    ∙ number_digits_of b n low

pub numeral_once : (b least m n : ℕ) → 2 ≤ b → b ≤ 16 → numeral b least m ≡ numeral b least n → m ≡ n
numeral_once b least m n low high e = sym (numeral_back b least m low high) ∙ ap (number_back b) e ∙ numeral_back b least n low high

-- a number with at most so many digits has exactly so many
pub numeral_length : (b least n : ℕ) → 2 ≤ b → n < b ^ least → length (numeral b least n) ≡ least
numeral_length b least n low small =
    let digits = map (digit_glyph false) (digits_of b n) in
    let few : length (digits_of b n) ≤ least = length-digits_of-le b least n low small in
    let count : length digits ≡ length (digits_of b n) = length-map (digits_of b n) (digit_glyph false) in
    ap length (numeral_parts b least n digits refl) ∙ length-append (replicate (least - length digits) 48) digits
    ∙ omega (arith, length-replicate {A = ℕ} (least - length digits) 48)

sixteen : (d : ℕ) → 2 ^ (4 * d) ≡ 16 ^ d
sixteen zero = refl
sixteen (suc d) =
    let up : 4 * suc d ≡ 4 * d + 4 = omega arith in
    let one : suc d ≡ d + 1 = omega arith in
    ap (λ k. 2 ^ k) up ∙ pow-add 2 (4 * d) 4 ∙ ap (λ n. n * 16) (sixteen d) ∙ sym (ap (λ k. 16 ^ k) one ∙ pow-add 16 d 1)

pub numbered_nil : (n : ℕ) → numbered [] n ≡ []
unfolding numbered
numbered_nil n = refl

pub numbered_byte : (b : ℕ) (ps : List Piece) (n : ℕ) → numbered (Byte b ∷ ps) n ≡ b ∷ numbered ps n
unfolding numbered
numbered_byte b ps n = refl

pub numbered_mark : (d : ℕ) (ps : List Piece) (n : ℕ) →
    numbered (Mark d ∷ ps) n ≡ numeral 16 d (n / 2 ^ bits_of ps) ++ numbered ps (n % 2 ^ bits_of ps)
unfolding numbered
numbered_mark d ps n = refl

-- how many bytes the pieces give where the number fits
width : List Piece → ℕ
width [] = 0
width (Byte b ∷ ps) = 1 + width ps
width (Mark d ∷ ps) = d + width ps

part_small : (d bits n : ℕ) → n < 2 ^ (4 * d + bits) → n / 2 ^ bits < 16 ^ d
part_small d bits n small =
    let law = div-lt_iff_lt-mul {k = 2 ^ bits} {x = n} {y = 16 ^ d} (pow_pos bits) in
    let parts : 2 ^ (4 * d + bits) ≡ 16 ^ d * 2 ^ bits = pow-add 2 (4 * d) bits ∙ ap (λ k. k * 2 ^ bits) (sixteen d) in
    law.1 (subst (λ (k : ℕ). n < k) parts small)

numbered_width : (ps : List Piece) (n : ℕ) → n < 2 ^ bits_of ps → length (numbered ps n) ≡ width ps
unfolding width
numbered_width [] n small = ap length (numbered_nil n)
numbered_width (Byte b ∷ ps) n small =
    let same : bits_of (Byte b ∷ ps) ≡ bits_of ps = omega arith in
    let rest = numbered_width ps n (subst (λ (k : ℕ). n < 2 ^ k) same small) in
    ap length (numbered_byte b ps n) ∙ omega (arith, rest)
numbered_width (Mark d ∷ ps) n small =
    let high : n / 2 ^ bits_of ps < 16 ^ d = part_small d (bits_of ps) n small in
    let rest = numbered_width ps (n % 2 ^ bits_of ps) (mod-lt n (pow_pos (bits_of ps))) in
    ap length (numbered_mark d ps n) ∙ length-append (numeral 16 d (n / 2 ^ bits_of ps)) (numbered ps (n % 2 ^ bits_of ps))
    ∙ omega (arith, numeral_length 16 d (n / 2 ^ bits_of ps) (omega arith) high, rest)

whole_again : (m n k : ℕ) → m / k ≡ n / k → m % k ≡ n % k → m ≡ n
whole_again m n k quotient rest =
    sym (div-add-mod m k) ∙ ap (λ q. k * q + m % k) quotient ∙ ap (λ r. k * (n / k) + r) rest ∙ div-add-mod n k

byte_off : (b : ℕ) (xs ys : List ℕ) → b ∷ xs ≡ b ∷ ys → xs ≡ ys
byte_off b xs ys e = cc

-- the numbers above and below a mark's place are told
mark_parts : (d : ℕ) (ps : List Piece) (m n : ℕ) → numbered (Mark d ∷ ps) m ≡ numbered (Mark d ∷ ps) n →
    (m / 2 ^ bits_of ps ≡ n / 2 ^ bits_of ps) × (numbered ps (m % 2 ^ bits_of ps) ≡ numbered ps (n % 2 ^ bits_of ps))
mark_parts d ps m n e =
    let k : ℕ = 2 ^ bits_of ps in
    let some : 0 < 2 ^ bits_of ps = pow_pos (bits_of ps) in
    let same : length (numbered ps (m % k)) ≡ length (numbered ps (n % k)) =
    numbered_width ps (m % k) (mod-lt m some) ∙ sym (numbered_width ps (n % k) (mod-lt n some)) in
    let both = ends_halves (numeral 16 d (m / k)) (numeral 16 d (n / k)) (numbered ps (m % k)) (numbered ps (n % k)) same
    (sym (numbered_mark d ps m) ∙ e ∙ numbered_mark d ps n) in
    (numeral_once 16 d (m / k) (n / k) (omega arith) (omega arith) both.0, both.1)

-- numbers that fit are told
small_once : (ps : List Piece) (m n : ℕ) → m < 2 ^ bits_of ps → n < 2 ^ bits_of ps → numbered ps m ≡ numbered ps n → m ≡ n
small_once [] m n small low e = omega arith
small_once (Byte b ∷ ps) m n small low e =
    let same : bits_of (Byte b ∷ ps) ≡ bits_of ps = omega arith in
    small_once ps m n (subst (λ (k : ℕ). m < 2 ^ k) same small) (subst (λ (k : ℕ). n < 2 ^ k) same low)
    (byte_off b (numbered ps m) (numbered ps n) (sym (numbered_byte b ps m) ∙ e ∙ numbered_byte b ps n))
small_once (Mark d ∷ ps) m n small low e =
    let k : ℕ = 2 ^ bits_of ps in
    let some : 0 < 2 ^ bits_of ps = pow_pos (bits_of ps) in
    let both = mark_parts d ps m n e in
    whole_again m n k both.0 (small_once ps (m % k) (n % k) (mod-lt m some) (mod-lt n some) both.1)

-- where there is a mark, all numbers are told
pub numbered_once : (ps : List Piece) (m n : ℕ) → 1 ≤ mark_count ps → numbered ps m ≡ numbered ps n → m ≡ n
numbered_once [] m n some e = absurd (omega arith)
numbered_once (Byte b ∷ ps) m n some e =
    numbered_once ps m n some (byte_off b (numbered ps m) (numbered ps n) (sym (numbered_byte b ps m) ∙ e ∙ numbered_byte b ps n))
numbered_once (Mark d ∷ ps) m n some e =
    let k : ℕ = 2 ^ bits_of ps in
    let room : 0 < 2 ^ bits_of ps = pow_pos (bits_of ps) in
    let both = mark_parts d ps m n e in
    whole_again m n k both.0 (small_once ps (m % k) (n % k) (mod-lt m room) (mod-lt n room) both.1)

-- a character other than this one
abbrev IsOther : ℕ → ℕ → Type 0
IsOther c b = eqb b c ≡ false

plain_other : (b : ℕ) → is_plain b ≡ true → IsOther 47 b
plain_other b t = grind (arith, nat_tests)

zeros_other : (c k : ℕ) → c ≤ 47 → AllByRecursion (IsOther c) (replicate k 48)
zeros_other c zero low = tt
zeros_other c (suc k) low = let other : eqb 48 c ≡ false = grind (arith, nat_tests) in (other, zeros_other c k low)

glyph_other : (c d : ℕ) → c ≤ 47 → IsOther c (digit_glyph false d)
glyph_other c d low = grind (arith, nat_tests)

glyphs_other : (c : ℕ) (ds : List ℕ) → c ≤ 47 → AllByRecursion (IsOther c) (map (digit_glyph false) ds)
glyphs_other c [] low = tt
glyphs_other c (d ∷ ds) low = (glyph_other c d low, glyphs_other c ds low)

-- no digit is one of the characters before `0`
numeral_other : (c b least n : ℕ) → c ≤ 47 → AllByRecursion (IsOther c) (numeral b least n)
numeral_other c b least n low =
    let digits = map (digit_glyph false) (digits_of b n) in
    subst (AllByRecursion (IsOther c)) (sym (numeral_parts b least n digits refl))
    (All-both (IsOther c) (replicate (least - length digits) 48) digits (zeros_other c (least - length digits) low) (glyphs_other c (digits_of b n) low))

folder_other : (step : ℕ) (ps : List Piece) → AllByRecursion (IsInner Step) ps → AllByRecursion (IsOther 47) (folder_text step ps)
unfolding folder_text
folder_other step [] h = tt
folder_other step (Byte b ∷ ps) h = (plain_other b h.0, folder_other step ps h.1)
folder_other step (Mark d ∷ ps) h =
    All-both (IsOther 47) (numeral 10 d step) (folder_text step ps) (numeral_other 47 10 d step (omega arith)) (folder_other step ps h.1)

mark_other : (r : ℕ) → AllByRecursion (IsOther 47) (revision_mark r)
mark_other zero = tt
mark_other (suc r) = (refl, (refl, numeral_other 47 10 1 (suc r) (omega arith)))

-- lists up to their first `/`
cut : (xs us ys vs : List ℕ) → AllByRecursion (IsOther 47) xs → AllByRecursion (IsOther 47) us → xs ++ 47 ∷ ys ≡ us ++ 47 ∷ vs → (xs ≡ us) × (ys ≡ vs)
cut [] [] ys vs h k e = (refl, byte_off 47 ys vs e)
cut [] (u ∷ us) ys vs h k e =
    let same : u ≡ 47 = cc in absurd (true≢false (sym (ap (λ b. eqb b 47) same) ∙ k.0))
cut (x ∷ xs) [] ys vs h k e =
    let same : x ≡ 47 = cc in absurd (true≢false (sym (ap (λ b. eqb b 47) same) ∙ h.0))
cut (x ∷ xs) (u ∷ us) ys vs h k e =
    let head : x ≡ u = cc in
    let tail : xs ++ 47 ∷ ys ≡ us ++ 47 ∷ vs = cc in
    let rest = cut xs us ys vs h.1 k.1 tail in
    (λ i. head i ∷ rest.0 i, rest.1)

-- pieces with no mark are the same for each step
same_folder : (s u : ℕ) (ps : List Piece) → mark_count ps ≡ 0 → folder_text s ps ≡ folder_text u ps
unfolding folder_text
same_folder s u [] none = refl
same_folder s u (Byte b ∷ ps) none = ap (λ t. b ∷ t) (same_folder s u ps none)
same_folder s u (Mark d ∷ ps) none = absurd (omega arith)

pub folder_byte : (step b : ℕ) (ps : List Piece) → folder_text step (Byte b ∷ ps) ≡ b ∷ folder_text step ps
unfolding folder_text
folder_byte step b ps = refl

pub folder_mark : (step d : ℕ) (ps : List Piece) → folder_text step (Mark d ∷ ps) ≡ numeral 10 d step ++ folder_text step ps
unfolding folder_text
folder_mark step d ps = refl

folder_once : (s u : ℕ) (ps : List Piece) → mark_count ps ≡ 1 → folder_text s ps ≡ folder_text u ps → s ≡ u
folder_once s u [] one e = absurd (omega arith)
folder_once s u (Byte b ∷ ps) one e =
    folder_once s u ps one (byte_off b (folder_text s ps) (folder_text u ps) (sym (folder_byte s b ps) ∙ e ∙ folder_byte u b ps))
folder_once s u (Mark d ∷ ps) one e =
    let same : length (folder_text s ps) ≡ length (folder_text u ps) = ap length (same_folder s u ps (omega arith)) in
    let both = ends_halves (numeral 10 d s) (numeral 10 d u) (folder_text s ps) (folder_text u ps) same
    (sym (folder_mark s d ps) ∙ e ∙ folder_mark u d ps) in
    numeral_once 10 d s u (omega arith) (omega arith) both.0

-- a list with a `.` in it
dotted : (us vs : List ℕ) → AllByRecursion (IsOther 46) (us ++ 46 ∷ vs) → ⊥
dotted [] vs h = absurd (true≢false h.0)
dotted (u ∷ us) vs h = dotted us vs h.1

-- lists from their last `.` on
last_cut : (xs us ys vs : List ℕ) → AllByRecursion (IsOther 46) ys → AllByRecursion (IsOther 46) vs → xs ++ 46 ∷ ys ≡ us ++ 46 ∷ vs →
    (xs ≡ us) × (ys ≡ vs)
last_cut [] [] ys vs h k e = (refl, byte_off 46 ys vs e)
last_cut [] (u ∷ us) ys vs h k e =
    let tail : ys ≡ us ++ 46 ∷ vs = cc in absurd (dotted us vs (subst (AllByRecursion (IsOther 46)) tail h))
last_cut (x ∷ xs) [] ys vs h k e =
    let tail : vs ≡ xs ++ 46 ∷ ys = cc in absurd (dotted xs ys (subst (AllByRecursion (IsOther 46)) tail k))
last_cut (x ∷ xs) (u ∷ us) ys vs h k e =
    let head : x ≡ u = cc in
    let tail : xs ++ 46 ∷ ys ≡ us ++ 46 ∷ vs = cc in
    let rest = last_cut xs us ys vs h k tail in
    (λ i. head i ∷ rest.0 i, rest.1)

-- how many characters are `.`
dots : List ℕ → ℕ
dots [] = 0
dots (b ∷ bs) = (if eqb b 46 then 1 else 0) + dots bs

dots_append : (xs ys : List ℕ) → dots (xs ++ ys) ≡ dots xs + dots ys
unfolding dots
dots_append [] ys = omega arith
dots_append (x ∷ xs) ys = let rest = dots_append xs ys in omega (arith, rest)

dots_none : (xs : List ℕ) → AllByRecursion (IsOther 46) xs → dots xs ≡ 0
unfolding dots
dots_none [] h = refl
dots_none (x ∷ xs) h =
    let rest : dots xs ≡ 0 = dots_none xs h.1 in
    let here : ◌≡◌ {A = ℕ} (if eqb x 46 then 1 else 0) 0 = ap (λ b. if b then 1 else 0) h.0 in
    omega (arith, rest, here)

-- the step's number adds none
same_dots : (s u : ℕ) (ps : List Piece) → dots (folder_text s ps) ≡ dots (folder_text u ps)
unfolding dots folder_text
same_dots s u [] = refl
same_dots s u (Byte b ∷ ps) = ap (λ n. (if eqb b 46 then 1 else 0) + n) (same_dots s u ps)
same_dots s u (Mark d ∷ ps) =
    dots_append (numeral 10 d s) (folder_text s ps)
    ∙ omega (arith, same_dots s u ps, dots_none (numeral 10 d s) (numeral_other 46 10 d s (omega arith)), dots_none (numeral 10 d u) (numeral_other 46 10 d u (omega arith)))
    ∙ sym (dots_append (numeral 10 d u) (folder_text u ps))

-- a name with a mark of a revision has one more
one_more_dot : (s u r : ℕ) (ps : List Piece) → folder_text s ps ≡ folder_text u ps ++ 46 ∷ 114 ∷ numeral 10 1 (suc r) → ⊥
unfolding dots
one_more_dot s u r ps e =
    let marked : dots (46 ∷ 114 ∷ numeral 10 1 (suc r)) ≡ 1 + (0 + dots (numeral 10 1 (suc r))) = refl in
    let whole : dots (folder_text s ps) ≡ dots (folder_text u ps ++ 46 ∷ 114 ∷ numeral 10 1 (suc r)) = ap dots e in
    omega (arith, marked, whole, dots_append (folder_text u ps) (46 ∷ 114 ∷ numeral 10 1 (suc r)), same_dots s u ps)

-- a folder's name tells its step and its revision
marked_once : (s u r q : ℕ) (ps : List Piece) → mark_count ps ≡ 1 → folder_text s ps ++ revision_mark r ≡ folder_text u ps ++ revision_mark q →
    (s ≡ u) × (r ≡ q)
marked_once s u zero zero ps one e =
    (folder_once s u ps one (sym (append-nil (folder_text s ps)) ∙ e ∙ append-nil (folder_text u ps)), refl)
marked_once s u zero (suc q) ps one e = absurd (one_more_dot s u q ps (sym (append-nil (folder_text s ps)) ∙ e))
marked_once s u (suc r) zero ps one e = absurd (one_more_dot u s r ps (sym (append-nil (folder_text u ps)) ∙ sym e))
marked_once s u (suc r) (suc q) ps one e =
    let none : (n : ℕ) → AllByRecursion (IsOther 46) (114 ∷ numeral 10 1 n) = λ n. (refl, numeral_other 46 10 1 n (omega arith)) in
    let both = last_cut (folder_text s ps) (folder_text u ps) (114 ∷ numeral 10 1 (suc r)) (114 ∷ numeral 10 1 (suc q))
    (none (suc r)) (none (suc q)) e in (
      folder_once s u ps one both.0,
      numeral_once 10 1 (suc r) (suc q) (omega arith) (omega arith)
          (byte_off 114 (numeral 10 1 (suc r)) (numeral 10 1 (suc q)) both.1),
    )

-- the laws of paths
pub files_differ : (t : TemplateValue) (f g : ℕ) → IsTemplate t → file_path t None f ≡ file_path t None g → f ≡ g
unfolding file_path
files_differ t f g h e =
    numbered_once t.pieces f g (made t h).some (append_cancel_left t.above (numbered t.pieces f) (numbered t.pieces g) e)

pub folders_differ : (t : TemplateValue) (time : TimeTemplateValue) (s u r q : ℕ) → IsTimeTemplate time →
    step_folder t time s r ≡ step_folder t time u q → (s ≡ u) × (r ≡ q)
unfolding step_folder folder_name
folders_differ t time s u r q k e =
    marked_once s u r q time.pieces (made_time time k).one
    (append_cancel_left t.above (folder_text s time.pieces ++ revision_mark r) (folder_text u time.pieces ++ revision_mark q) e)

pub steps_differ : (t : TemplateValue) (time : TimeTemplateValue) (s u r q f g : ℕ) → IsTemplate t → IsTimeTemplate time →
    file_path t (Some (time, s, r)) f ≡ file_path t (Some (time, u, q)) g → (s ≡ u) × (r ≡ q) × (f ≡ g)
unfolding file_path step_folder folder_name
steps_differ t time s u r q f g h k e =
    let m = made_time time k in
    let here : List ℕ = folder_text s time.pieces ++ revision_mark r in
    let there : List ℕ = folder_text u time.pieces ++ revision_mark q in
    let behind : here ++ 47 ∷ numbered t.pieces f ≡ there ++ 47 ∷ numbered t.pieces g =
    append_cancel_left t.above _ _
    (sym (append_assoc t.above here (47 ∷ numbered t.pieces f)) ∙ e ∙ append_assoc t.above there (47 ∷ numbered t.pieces g)) in
    let both = cut here there (numbered t.pieces f) (numbered t.pieces g)
    (All-both (IsOther 47) (folder_text s time.pieces) (revision_mark r) (folder_other s time.pieces m.inner) (mark_other r))
    (All-both (IsOther 47) (folder_text u time.pieces) (revision_mark q) (folder_other u time.pieces m.inner) (mark_other q)) behind in
    let folder = marked_once s u r q time.pieces m.one both.0 in
    (folder.0, folder.1, numbered_once t.pieces f g (made t h).some both.1)
