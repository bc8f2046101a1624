-- The samples at places of a list.
use Rattle.std.proofs.Common.{◌≡◌, ℕ, zero, suc, ◌+◌, ◌-◌, ◌*◌, ◌<◌, ◌≤◌, List, [], ◌∷◌, ◌++◌, length, take, drop, sym, ap, ◌∙◌, arith, All, length-append, length-take-le, length-drop, append-nil}
use Rattle.std.proofs.lemmas.List.Concat.{flat_map-append}
use Rattle.std.proofs.lemmas.List.Elements.{All-head, All-tail}
use Rattle.std.proofs.Math.Nat.{mul-le-mul_right}
use Rattle.std.proofs.lemmas.List.FromFn.{map-range_with_len_more, length-map-range_with_len}
use Rattle.idx_stride.specs.Places.{samples_at, progression}

-- the sample at this place lies within
abbrev pub LiesWithin : ℕ → List ℕ → ℕ → Type 0
LiesWithin size bytes o = o + size ≤ length bytes

pub samples_at-append : (size : ℕ) (bytes before behind : List ℕ) → samples_at size bytes (before ++ behind) ≡ samples_at size bytes before ++ samples_at size bytes behind
samples_at-append size bytes before behind = flat_map-append (λ o. take size (drop o bytes)) before behind

pub samples_at-one : (size : ℕ) (bytes : List ℕ) (o : ℕ) → samples_at size bytes (o ∷ []) ≡ take size (drop o bytes)
samples_at-one size bytes o = append-nil (take size (drop o bytes))

pub length-sample : (size : ℕ) (bytes : List ℕ) (o : ℕ) → LiesWithin size bytes o → length (take size (drop o bytes)) ≡ size
length-sample size bytes o within = length-take-le size (drop o bytes) (omega (arith, length-drop o bytes))

pub length-samples_at : (size : ℕ) (bytes offsets : List ℕ) → All (LiesWithin size bytes) offsets → length (samples_at size bytes offsets) ≡ length offsets * size
length-samples_at size bytes [] within = sym (omega arith)
length-samples_at size bytes (o ∷ os) within =
    let here : LiesWithin size bytes o = All-head (LiesWithin size bytes) o os within in
    let rest : length (samples_at size bytes os) ≡ length os * size = length-samples_at size bytes os (All-tail (LiesWithin size bytes) o os within) in
    omega (arith, length-append (take size (drop o bytes)) (samples_at size bytes os), length-sample size bytes o here, rest)

-- one place more
pub progression-more : (first step n : ℕ) → progression first step (n + 1) ≡ progression first step n ++ (first + n * step) ∷ []
progression-more first step n = map-range_with_len_more (λ k. first + k * step) 0 n n (omega arith)

pub length-progression : (first step n : ℕ) → length (progression first step n) ≡ n
length-progression first step n = length-map-range_with_len (λ k. first + k * step) 0 n

pub samples_at-progression-more : (size : ℕ) (bytes : List ℕ) (first step n : ℕ) →
    samples_at size bytes (progression first step (n + 1)) ≡ samples_at size bytes (progression first step n) ++ take size (drop (first + n * step) bytes)
samples_at-progression-more size bytes first step n =
    ap (samples_at size bytes) (progression-more first step n)
    ∙ samples_at-append size bytes (progression first step n) ((first + n * step) ∷ [])
    ∙ ap (λ t. samples_at size bytes (progression first step n) ++ t) (samples_at-one size bytes (first + n * step))

pub length-samples_at-progression : (size : ℕ) (bytes : List ℕ) (first step n : ℕ) → ((k : ℕ) → k < n → LiesWithin size bytes (first + k * step)) →
    length (samples_at size bytes (progression first step n)) ≡ n * size
length-samples_at-progression size bytes first step zero within = sym (omega arith)
length-samples_at-progression size bytes first step (suc n) within =
    let e : suc n ≡ n + 1 = omega arith in
    let rest : length (samples_at size bytes (progression first step n)) ≡ n * size = length-samples_at-progression size bytes first step n (λ k h. within k (omega arith)) in
    let last : length (take size (drop (first + n * step) bytes)) ≡ size = length-sample size bytes (first + n * step) (within n (omega arith)) in
    ap (λ m. length (samples_at size bytes (progression first step m))) e
    ∙ ap length (samples_at-progression-more size bytes first step n)
    ∙ omega (arith, length-append (samples_at size bytes (progression first step n)) (take size (drop (first + n * step) bytes)), rest, last)

-- the same where the last sample lies within
pub length-samples_at-read : (size : ℕ) (bytes : List ℕ) (first step n : ℕ) → (0 < n → first + (n - 1) * step + size ≤ length bytes) →
    length (samples_at size bytes (progression first step n)) ≡ n * size
length-samples_at-read size bytes first step n read =
    length-samples_at-progression size bytes first step n (λ k h.
    let most : k ≤ n - 1 = omega arith in
    omega (arith, read (omega arith), mul-le-mul_right step most))
