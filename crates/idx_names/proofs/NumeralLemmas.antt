-- Digits of numbers: one digit after another, the zeros in front, and what tells two numbers apart.
use Rattle.std.proofs.Common.{◌≡◌, ℕ, zero, suc, ◌+◌, ◌-◌, ◌*◌, ◌/◌, ◌%◌, ◌^◌, ◌<◌, ◌≤◌, false, List, [], ◌∷◌, ◌++◌, length, map, replicate, drop, set, refl, sym, ap, ◌∙◌, arith, append_assoc}
use Rattle.std.proofs.lemmas.List.{map-append, length-map, drop-set}
use Rattle.std.proofs.lemmas.Int.Digits.{digits_of_step}
use Rattle.std.proofs.lemmas.Nat.{pow-add}
use Rattle.std.proofs.Math.Nat.{div-lt_iff_lt-mul}
use Rattle.std.specs.Fmt.{digit_glyph}
use Rattle.std.specs.Int.Digits.{digits_of}
use Rattle.idx_names.specs.Numeral.{numeral}

map-zeros : (k : ℕ) → map (digit_glyph false) (replicate k 0) ≡ replicate k 48
map-zeros zero = refl
map-zeros (suc k) = ap (λ t. 48 ∷ t) (map-zeros k)

-- a numeral is its digits with zeros in front
pub numeral_parts : (b least n : ℕ) (ds : List ℕ) → map (digit_glyph false) (digits_of b n) ≡ ds →
    numeral b least n ≡ replicate (least - length ds) 48 ++ ds
unfolding numeral
numeral_parts b least n ds e =
    let digits = digits_of b n in
    let count : length digits ≡ length ds = sym (length-map digits (digit_glyph false)) ∙ ap length e in
    map-append (digit_glyph false) (replicate (least - length digits) 0) digits
    ∙ ap (λ zeros. zeros ++ map (digit_glyph false) digits) (map-zeros (least - length digits))
    ∙ ap (λ t. replicate (least - length digits) 48 ++ t) e
    ∙ ap (λ k. replicate (least - k) 48 ++ ds) count

-- the lowest digit goes in front of those behind it
pub digits_more : (b rest place d : ℕ) (whole digits : List ℕ) → 2 ≤ b → 0 < rest → 1 ≤ place → place ≤ length digits →
    d ≡ digit_glyph false (rest % b) → whole ≡ map (digit_glyph false) (digits_of b rest) ++ drop place digits →
    whole ≡ map (digit_glyph false) (digits_of b (rest / b)) ++ drop (place - 1) (set digits (place - 1) d)
digits_more b rest place d whole digits base some room inside is e =
    let front : List ℕ = map (digit_glyph false) (digits_of b (rest / b)) in
    let step : map (digit_glyph false) (digits_of b rest) ≡ front ++ digit_glyph false (rest % b) ∷ [] =
    ap (map (digit_glyph false)) (digits_of_step b rest base some) ∙ map-append (digit_glyph false) (digits_of b (rest / b)) (rest % b ∷ []) in
    let behind : drop (place - 1) (set digits (place - 1) d) ≡ d ∷ drop (place - 1 + 1) digits = drop-set digits (place - 1) d (omega arith) in
    let up : place - 1 + 1 ≡ place = omega arith in
    e ∙ ap (λ t. t ++ drop place digits) step ∙ append_assoc front (digit_glyph false (rest % b) ∷ []) (drop place digits)
    ∙ ap (λ t. front ++ t ∷ drop place digits) (sym is)
    ∙ ap (λ t. front ++ d ∷ drop t digits) (sym up)
    ∙ ap (λ t. front ++ t) (sym behind)

less_power : (place : ℕ) → 1 ≤ place → 10 ^ place ≡ 10 ^ (place - 1) * 10
less_power place some =
    let up : place ≡ place - 1 + 1 = omega arith in
    ap (λ k. 10 ^ k) up ∙ pow-add 10 (place - 1) 1

-- a digit in a base from ten on leaves less than a decimal place
pub less_left : (b rest place : ℕ) → 10 ≤ b → 1 ≤ place → rest < 10 ^ place → rest / b < 10 ^ (place - 1)
less_left b rest place base some small =
    let up : 10 ^ place ≡ 10 ^ (place - 1) * 10 = less_power place some in
    let wide : 10 ^ (place - 1) * 10 ≤ 10 ^ (place - 1) * b = grind arith in
    (div-lt_iff_lt-mul {k = b} {x = rest} {y = 10 ^ (place - 1)} (omega arith)).1 (omega arith)
