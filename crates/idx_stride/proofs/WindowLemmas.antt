-- The samples of a walk, read from a part of the bytes.
use Rattle.std.proofs.Common.{◌≡◌, ℕ, zero, suc, ◌+◌, ◌-◌, ◌*◌, ◌≤◌, Bool, List, [], ◌∷◌, ◌++◌, length, take, drop, refl, sym, ap, ◌∙◌, arith, All}
use Rattle.std.specs.List.{flat_map}
use Rattle.std.proofs.lemmas.List.{drop-drop, drop-take}
use Rattle.std.proofs.lemmas.List.Folds.{flat_map-map}
use Rattle.std.proofs.lemmas.List.Elements.{All-head, All-tail, All-weaker}
use Rattle.idx_stride.specs.declared.axis.Axis.{Axis}
use Rattle.idx_stride.specs.Places.{offsets, samples_at}
use Rattle.idx_stride.specs.Strides.{reach}
use Rattle.idx_stride.specs.Written.{gathered}
use Rattle.idx_stride.proofs.CountLemmas.{length-map}
use Rattle.idx_stride.proofs.SamplesLemmas.{LiesWithin, length-samples_at}
use Rattle.idx_stride.proofs.BoundLemmas.{IsAmong, offsets-among}
use Rattle.idx_stride.proofs.PlacesLemmas.{offsets-moved}

flat_map-same : {X Y : Type 0} (f g : X → List Y) (xs : List X) → All (λ x. f x ≡ g x) xs → flat_map f xs ≡ flat_map g xs
flat_map-same f g [] h = refl
flat_map-same f g (x ∷ xs) h =
    let here : f x ≡ g x = All-head (λ x. f x ≡ g x) x xs h in
    let rest : flat_map f xs ≡ flat_map g xs = flat_map-same f g xs (All-tail (λ x. f x ≡ g x) x xs h) in
    λ i. here i ++ rest i

-- a sample of the part is the sample of the whole
sample-windowed : (size : ℕ) (bytes : List ℕ) (at n o : ℕ) → o + size ≤ n → take size (drop o (take n (drop at bytes))) ≡ take size (drop (at + o) bytes)
sample-windowed size bytes at n o fits =
    let long : n ≡ o + (size + (n - o - size)) = omega arith in
    let ys : List ℕ = drop o (drop at bytes) in
    ap (λ m. take size (drop o (take m (drop at bytes)))) long
    ∙ ap (take size) (drop-take o (size + (n - o - size)) (drop at bytes))
    ∙ take-of_take size (n - o - size) ys
    ∙ ap (take size) (drop-drop o at bytes)
  where
    take-of_take : (m k : ℕ) (xs : List ℕ) → take m (take (m + k) xs) ≡ take m xs
    take-of_take zero k xs = refl
    take-of_take (suc m) k [] = let one : suc m + k ≡ suc (m + k) = omega arith in ap (λ n. take (suc m) (take n [])) one
    take-of_take (suc m) k (x ∷ xs) = let one : suc m + k ≡ suc (m + k) = omega arith in ap (λ n. take (suc m) (take n (x ∷ xs))) one ∙ ap (λ t. x ∷ t) (take-of_take m k xs)

pub samples-windowed : (size : ℕ) (bytes window : List ℕ) (at n base : ℕ) (coarse : Bool) (axes : List Axis) → window ≡ take n (drop at bytes) → at ≤ base →
    base + reach axes + size ≤ at + n → samples_at size window (offsets (base - at) coarse axes) ≡ samples_at size bytes (offsets base coarse axes)
samples-windowed size bytes window at n base coarse axes part le fits =
    let rel : ℕ = base - at in
    let same : base ≡ at + rel = omega arith in
    let each : (o : ℕ) → IsAmong rel (rel + reach axes) o → take size (drop o (take n (drop at bytes))) ≡ take size (drop (at + o) bytes) = λ o among.
    sample-windowed size bytes at n o (omega (arith, among.1)) in
    ap (λ w. samples_at size w (offsets rel coarse axes)) part
    ∙ flat_map-same (λ o. take size (drop o (take n (drop at bytes)))) (λ o. take size (drop (at + o) bytes)) (offsets rel coarse axes)
    (All-weaker (IsAmong rel (rel + reach axes)) (λ o. take size (drop o (take n (drop at bytes))) ≡ take size (drop (at + o) bytes)) each (offsets rel coarse axes) (offsets-among rel coarse axes))
    ∙ sym (flat_map-map (λ o. take size (drop o bytes)) (λ o. at + o) (offsets rel coarse axes))
    ∙ ap (samples_at size bytes) (sym (offsets-moved at rel coarse axes))
    ∙ ap (λ b. samples_at size bytes (offsets b coarse axes)) (sym same)

-- how many bytes the samples have that are read from a part
pub length-gathered : (size : ℕ) (window : List ℕ) (at base : ℕ) (coarse : Bool) (axes : List Axis) → at ≤ base → base + reach axes + size ≤ at + length window →
    length (gathered size window (base - at) coarse axes) ≡ length (offsets base coarse axes) * size
length-gathered size window at base coarse axes le fits =
    let rel : ℕ = base - at in
    let same : at + rel ≡ base = omega arith in
    let each : (o : ℕ) → IsAmong rel (rel + reach axes) o → LiesWithin size window o = λ o among. omega (arith, among.1) in
    let moved : length (offsets base coarse axes) ≡ length (offsets rel coarse axes) =
    ap (λ b. length (offsets b coarse axes)) (sym same) ∙ ap length (offsets-moved at rel coarse axes) ∙ length-map (λ o. at + o) (offsets rel coarse axes) in
    length-samples_at size window (offsets rel coarse axes) (All-weaker (IsAmong rel (rel + reach axes)) (LiesWithin size window) each (offsets rel coarse axes) (offsets-among rel coarse axes))
    ∙ ap (λ n. n * size) (sym moved)
