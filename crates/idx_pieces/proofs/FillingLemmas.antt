-- Samples that stand one behind the other in a window, and what was appended window by window.
use Rattle.std.proofs.Common.{◌≡◌, ℕ, zero, suc, ◌+◌, ◌-◌, ◌*◌, ◌<◌, ◌≤◌, List, [], ◌∷◌, ◌++◌, length, take, drop, refl, sym, ap, ◌∙◌, arith, append_assoc, append-nil, length-append, length-take-le, length-drop}
use Rattle.std.specs.List.{flat_map, range_with_len}
use Rattle.std.proofs.lemmas.List.{drop-drop, drop-take}
use Rattle.std.proofs.lemmas.List.Concat.{flat_map-append}
use Rattle.std.proofs.Math.Nat.{mul-le-mul_right}
use Rattle.std.proofs.Math.Seq.{take-add}
use Rattle.idx_geom.specs.Region.{points}
use Rattle.idx_pieces.specs.Cursor.{place_at, StandsAt, IsCursor}
use Rattle.idx_pieces.specs.Filling.{sample_in, samples_from, IsWindow, Appends}
use Rattle.idx_pieces.specs.declared.cursor.Cursor.{Cursor}
use Rattle.idx_pieces.proofs.CursorLemmas.{InRow, row_facts}

pub range-append : (a n m : ℕ) → range_with_len a (n + m) ≡ range_with_len a n ++ range_with_len (a + n) m
range-append a zero m =
    let one : a ≡ a + 0 = omega arith in
    let two : 0 + m ≡ m = omega arith in
    λ i. range_with_len (one i) (two i)
range-append a (suc n) m =
    let one : suc n + m ≡ suc (n + m) = omega arith in
    let two : a + 1 + n ≡ a + suc n = omega arith in
    ap (range_with_len a) one
    ∙ ap (λ t. a ∷ t) (range-append (a + 1) n m)
    ∙ ap (λ b. a ∷ (range_with_len (a + 1) n ++ range_with_len b m)) two

pub samples-append : (size base : ℕ) (raw : List ℕ) (box region : List (ℕ × ℕ)) (first n m : ℕ) →
    samples_from size base raw box region first (n + m) ≡ samples_from size base raw box region first n ++ samples_from size base raw box region (first + n) m
samples-append size base raw box region first n m =
    ap (flat_map (λ k. sample_in size base raw (place_at box region k))) (range-append first n m)
    ∙ flat_map-append (λ k. sample_in size base raw (place_at box region k)) (range_with_len first n) (range_with_len (first + n) m)

-- samples of consecutive places are one piece
pub dense : (size base place k n : ℕ) (raw : List ℕ) (f : ℕ → ℕ) → ((j : ℕ) → j < n → f (k + j) ≡ place + j) →
    flat_map (λ i. sample_in size base raw (f i)) (range_with_len k n) ≡ take (n * size) (drop (base + size * place) raw)
dense size base place k zero raw f h =
    let none : 0 ≡ 0 * size = omega arith in
    ap (λ m. take m (drop (base + size * place) raw)) none
dense size base place k (suc n) raw f h =
    let here : f k ≡ place =
    ap f (let zero_on : k ≡ k + 0 = omega arith in zero_on) ∙ h 0 (omega arith) ∙ (let zero_up : place + 0 ≡ place = omega arith in zero_up) in
    let rest : flat_map (λ i. sample_in size base raw (f i)) (range_with_len (k + 1) n) ≡ take (n * size) (drop (base + size * (place + 1)) raw) =
    dense size base (place + 1) (k + 1) n raw f (λ j lt.
    ap f (let a : k + 1 + j ≡ k + (j + 1) = omega arith in a)
    ∙ h (j + 1) (omega arith)
    ∙ (let b : place + (j + 1) ≡ place + 1 + j = omega arith in b)) in
    let next : drop (base + size * (place + 1)) raw ≡ drop size (drop (base + size * place) raw) =
    ap (λ m. drop m raw) (let c : base + size * (place + 1) ≡ base + size * place + size = omega arith in c) ∙ sym (drop-drop size (base + size * place) raw) in
    (λ i. take size (drop (base + size * here i) raw) ++ rest i)
    ∙ ap (λ t. take size (drop (base + size * place) raw) ++ take (n * size) t) next
    ∙ sym (take-add size (n * size) (drop (base + size * place) raw))
    ∙ ap (λ m. take m (drop (base + size * place) raw)) (let d : size + n * size ≡ suc n * size = omega arith in d)

take-within : (m n : ℕ) (xs : List ℕ) → take m (take (m + n) xs) ≡ take m xs
take-within zero n xs = refl
take-within (suc m) n [] = ap (λ k. take (suc m) (take k [])) (let a : suc m + n ≡ suc (m + n) = omega arith in a)
take-within (suc m) n (x ∷ xs) =
    ap (λ k. take (suc m) (take k (x ∷ xs))) (let a : suc m + n ≡ suc (m + n) = omega arith in a) ∙ ap (λ t. x ∷ t) (take-within m n xs)

-- a part of a window
pub window_part : (size base from first count : ℕ) (raw window : List ℕ) → IsWindow size base from raw window → (first + count) * size ≤ length window →
    take (count * size) (drop (first * size) window) ≡ take (count * size) (drop (base + size * (from + first)) raw)
window_part size base from first count raw window is le =
    let d : ℕ = first * size in
    let m : ℕ = count * size in
    let rest : ℕ = length window - (d + m) in
    let whole : length window ≡ d + (m + rest) = omega arith in
    let x : List ℕ = drop (base + size * from) raw in
    ap (λ w. take m (drop d w)) (is ∙ ap (λ n. take n x) whole)
    ∙ ap (take m) (drop-take d (m + rest) x)
    ∙ take-within m rest (drop d x)
    ∙ ap (take m) (drop-drop d (base + size * from) raw ∙ ap (λ n. drop n raw) (let a : base + size * from + d ≡ base + size * (from + first) = omega arith in a))

pub Appends-none : (size from : ℕ) (window : List ℕ) (box region : List (ℕ × ℕ)) (old : List ℕ) (first : ℕ) →
    Appends size from window box region old old first first
Appends-none size from window box region old first =
    let none : first - first ≡ 0 = omega arith in
    record {
      rises = omega arith;
      longer = omega (arith, ap (λ n. size * n) none);
      samples = λ base raw is. sym (ap (λ n. old ++ samples_from size base raw box region first n) none ∙ append-nil old);
    }

-- a row's samples more
pub Appends-row : (size from : ℕ) (window : List ℕ) (box region : List (ℕ × ℕ)) (old mid new : List ℕ) (first n : ℕ) (c : Cursor) →
    Appends size from window box region old mid first c.done → IsCursor box region c → c.done < length (points region) → from ≤ c.place → n ≤ c.left →
    (c.place - from + n) * size ≤ length window → new ≡ mid ++ take (n * size) (drop ((c.place - from) * size) window) →
    Appends size from window box region old new first (c.done + n)
Appends-row size from window box region old mid new first n c h cursor some low row le is =
    let k : ℕ = c.done in
    let g : ℕ = c.place - from in
    let piece : List ℕ = take (n * size) (drop (g * size) window) in
    let grown : k + n - first ≡ k - first + n = omega (arith, h.rises) in
    let stands : StandsAt box region c = cursor.at some in
    let each : (j : ℕ) → j < n → place_at box region (k + j) ≡ c.place + j = λ j lt.
    let f : InRow box region k j = row_facts box region k j cursor.part some (omega (arith, stands.left, row, lt)) in
    omega (arith, f.place, stands.place) in
    let room : n * size ≤ length (drop (g * size) window) = omega (arith, length-drop (g * size) window, le) in
    record {
      rises = omega (arith, h.rises);
      longer = ap length is ∙ omega (arith, length-append mid piece, length-take-le (n * size) (drop (g * size) window) room, h.longer, ap (λ t. size * t) grown);
      samples = λ base raw window_is.
          let at : from + g ≡ c.place = omega (arith, low) in
          let behind : first + (k - first) ≡ k = omega (arith, h.rises) in
          is
          ∙ (λ i. h.samples base raw window_is i ++ (window_part size base from g n raw window window_is le ∙ ap (λ p. take (n * size) (drop (base + size * p) raw)) at
          ∙ sym (dense size base c.place k n raw (place_at box region) each)) i)
          ∙ append_assoc old (samples_from size base raw box region first (k - first)) (samples_from size base raw box region k n)
          ∙ ap (λ b. old ++ (samples_from size base raw box region first (k - first) ++ samples_from size base raw box region b n)) (sym behind)
          ∙ ap (λ t. old ++ t) (sym (samples-append size base raw box region first (k - first) n))
          ∙ ap (λ t. old ++ samples_from size base raw box region first t) (sym grown);
    }

-- a run of samples that ends before the window does lies in it
pub run-fits : (place from to count size room : ℕ) → from ≤ place → place + count ≤ to → room ≡ (to - from) * size → (place - from + count) * size ≤ room
run-fits place from to count size room low high is =
    let fits : place - from + count ≤ to - from = omega (arith, low, high) in omega (arith, mul-le-mul_right size fits, is)
