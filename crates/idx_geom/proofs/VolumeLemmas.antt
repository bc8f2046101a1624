-- A volume and its raw input.
use Rattle.std.proofs.Common.{◌≡◌, ℕ, zero, suc, ◌+◌, ◌*◌, List, [], ◌∷◌, ◌++◌, length, take, drop, All, refl, sym, ap, ◌∙◌, arith, sum, length-append, append_assoc, length-take-le, ◌≤◌}
use Rattle.std.specs.List.{concat}
use Rattle.std.proofs.Math.Seq.{take-add}
use Rattle.std.proofs.lemmas.List.Elements.{All-nil, All-cons, All-head, All-tail}
use Rattle.std.proofs.lemmas.List.{take_at, drop_at, nil_from_length, length-drop, take-append-drop}
use Rattle.std.proofs.lemmas.List.Sums.{sum_by-cons}
use Rattle.idx_geom.specs.Volume.{IsVolume, samples_of, volume_of, raw_of}

-- so many samples, one after another, are the front of the bytes that they were cut from
pub concat-samples_of : (size n : ℕ) (bytes : List ℕ) → concat (samples_of size n bytes) ≡ take (size * n) bytes
concat-samples_of size zero bytes =
    let none : size * 0 ≡ 0 = omega arith in
    ap (λ n. take n bytes) (sym none)
concat-samples_of size (suc n) bytes =
    let more : size * suc n ≡ size + size * n = omega arith in
    ap (λ t. take size bytes ++ t) (concat-samples_of size n (drop size bytes))
    ∙ sym (take-add size (size * n) bytes)
    ∙ ap (λ m. take m bytes) (sym more)

pub raw_of-volume_of : (sizes : List ℕ) (n : ℕ) (bytes : List ℕ) → length bytes ≡ sum sizes * n → raw_of (volume_of sizes n bytes) ≡ bytes
raw_of-volume_of [] n bytes h = sym (nil_from_length bytes (h ∙ omega arith))
raw_of-volume_of (size ∷ sizes) n bytes h =
    let parts : length bytes ≡ size * n + sum sizes * n = h ∙ ap (λ m. m * n) (sum_by-cons (λ x. x) size sizes) ∙ omega arith in
    let rest : length (drop (size * n) bytes) ≡ sum sizes * n = length-drop (size * n) bytes ∙ omega arith in
    ap (λ t. t ++ raw_of (volume_of sizes n (drop (size * n) bytes))) (concat-samples_of size n bytes)
    ∙ ap (λ t. take (size * n) bytes ++ t) (raw_of-volume_of sizes n (drop (size * n) bytes) rest)
    ∙ take-append-drop (size * n) bytes

-- ---- the volume of a raw input

pub length-samples_of : (size n : ℕ) (bytes : List ℕ) → length (samples_of size n bytes) ≡ n
length-samples_of size zero bytes = refl
length-samples_of size (suc n) bytes = ap suc (length-samples_of size n (drop size bytes))

pub samples_of-sizes : (size n : ℕ) (bytes : List ℕ) → size * n ≤ length bytes → All (λ sample. length sample ≡ size) (samples_of size n bytes)
samples_of-sizes size zero bytes room = All-nil (λ sample. length sample ≡ size)
samples_of-sizes size (suc n) bytes room =
    let more : size * suc n ≡ size + size * n = omega arith in
    All-cons (λ sample. length sample ≡ size) (take size bytes) (samples_of size n (drop size bytes))
    (length-take-le size bytes (omega arith))
    (samples_of-sizes size n (drop size bytes) (omega (arith, length-drop size bytes)))

pub IsVolume-volume_of : (sizes : List ℕ) (n : ℕ) (bytes : List ℕ) → length bytes ≡ sum sizes * n → IsVolume sizes n (volume_of sizes n bytes)
IsVolume-volume_of [] n bytes h = tt
IsVolume-volume_of (size ∷ sizes) n bytes h =
    let parts : length bytes ≡ size * n + sum sizes * n = h ∙ ap (λ m. m * n) (sum_by-cons (λ x. x) size sizes) ∙ omega arith in (
      length-samples_of size n bytes,
      samples_of-sizes size n bytes (omega arith),
      IsVolume-volume_of sizes n (drop (size * n) bytes) (length-drop (size * n) bytes ∙ omega arith),
    )

-- ---- the raw input of a volume

length-concat : (size n : ℕ) (samples : List (List ℕ)) → length samples ≡ n → All (λ sample. length sample ≡ size) samples → length (concat samples) ≡ size * n
length-concat size zero [] count sizes = omega arith
length-concat size (suc n) [] count sizes = absurd (omega arith)
length-concat size zero (sample ∷ samples) count sizes = absurd (omega arith)
length-concat size (suc n) (sample ∷ samples) count sizes =
    let first : length sample ≡ size = All-head (λ s. length s ≡ size) sample samples sizes in
    let rest : length (concat samples) ≡ size * n = length-concat size n samples (omega arith) (All-tail (λ s. length s ≡ size) sample samples sizes) in
    length-append sample (concat samples) ∙ omega arith

pub length-raw_of : (sizes : List ℕ) (n : ℕ) (volume : List (List (List ℕ))) → IsVolume sizes n volume → length (raw_of volume) ≡ sum sizes * n
length-raw_of [] n [] h = omega arith
length-raw_of [] n (samples ∷ volume) h = absurd h
length-raw_of (size ∷ sizes) n [] h = absurd h
length-raw_of (size ∷ sizes) n (samples ∷ volume) h =
    let parts : sum (size ∷ sizes) * n ≡ size * n + sum sizes * n = ap (λ m. m * n) (sum_by-cons (λ x. x) size sizes) ∙ omega arith in
    length-append (concat samples) (raw_of volume) ∙ omega (arith, length-concat size n samples h.0 h.1, length-raw_of sizes n volume h.2)

samples_of-concat : (size n : ℕ) (samples : List (List ℕ)) (rest : List ℕ) → length samples ≡ n → All (λ sample. length sample ≡ size) samples → samples_of size n (concat samples ++ rest) ≡ samples
samples_of-concat size zero [] rest count sizes = refl
samples_of-concat size (suc n) [] rest count sizes = absurd (omega arith)
samples_of-concat size zero (sample ∷ samples) rest count sizes = absurd (omega arith)
samples_of-concat size (suc n) (sample ∷ samples) rest count sizes =
    let first : length sample ≡ size = All-head (λ s. length s ≡ size) sample samples sizes in
    ap (samples_of size (suc n)) (append_assoc sample (concat samples) rest)
    ∙ (λ i. take_at sample (concat samples ++ rest) size first i ∷ samples_of size n (drop_at sample (concat samples ++ rest) size first i))
    ∙ ap (λ t. sample ∷ t) (samples_of-concat size n samples rest (omega arith) (All-tail (λ s. length s ≡ size) sample samples sizes))

pub volume_of-raw_of : (sizes : List ℕ) (n : ℕ) (volume : List (List (List ℕ))) → IsVolume sizes n volume → volume_of sizes n (raw_of volume) ≡ volume
volume_of-raw_of [] n [] h = refl
volume_of-raw_of [] n (samples ∷ volume) h = absurd h
volume_of-raw_of (size ∷ sizes) n [] h = absurd h
volume_of-raw_of (size ∷ sizes) n (samples ∷ volume) h =
    (λ i. samples_of-concat size n samples (raw_of volume) h.0 h.1 i ∷ volume_of sizes n (drop_at (concat samples) (raw_of volume) (size * n) (length-concat size n samples h.0 h.1) i))
    ∙ ap (λ t. samples ∷ t) (volume_of-raw_of sizes n volume h.2)
