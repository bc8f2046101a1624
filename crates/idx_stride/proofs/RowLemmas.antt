-- The samples along one axis.
use Rattle.std.proofs.Common.{◌≡◌, ℕ, zero, suc, ◌+◌, ◌-◌, ◌*◌, ◌/◌, ◌%◌, ◌<◌, ◌≤◌, min, Bool, true, false, ◌&&◌, eqb, List, [], ◌∷◌, ◌++◌, take, drop, sym, ap, ◌∙◌, arith, append-nil, inl, inr}
use Rattle.std.specs.List.{flat_map, range_with_len}
use Rattle.std.proofs.lemmas.Bool.{eq-eqb, ne_eqb, cases_lt}
use Rattle.std.proofs.lemmas.List.Folds.{flat_map-map}
use Rattle.std.proofs.lemmas.List.Concat.{flat_map_single}
use Rattle.std.proofs.lemmas.Nat.{div-add-mod'}
use Rattle.std.proofs.Math.Nat.{mul-le-mul_right}
use Rattle.idx_stride.specs.declared.axis.Axis.{Axis}
use Rattle.idx_stride.specs.Places.{is_coarse, offsets, samples_at, progression}
use Rattle.idx_stride.specs.Written.{gathered}
use Rattle.idx_stride.proofs.PlacesLemmas.{offsets-snoc, samples-snoc}
use Rattle.idx_stride.proofs.RangeLemmas.{flat_map-range_append, flat_map-range_more, flat_map-range_shift, flat_map-range_same}

-- the sample at a coordinate of a row, or none
abbrev pub piece : ℕ → List ℕ → ℕ → Bool → Axis → ℕ → List ℕ
piece size bytes base coarse a k = gathered size bytes (base + k * a.step) (coarse && is_coarse a k) []

module _ (size : ℕ) (bytes : List ℕ) (base : ℕ) where
  pub gathered-row : (coarse : Bool) (a : Axis) → gathered size bytes base coarse (a ∷ []) ≡ flat_map (piece size bytes base coarse a) (range_with_len 0 a.count)
  gathered-row coarse a = samples-snoc size bytes base coarse [] a

  pub gathered-fine_row : (a : Axis) → gathered size bytes base false (a ∷ []) ≡ samples_at size bytes (progression base a.step a.count)
  gathered-fine_row a =
      ap (samples_at size bytes) (offsets-snoc base false [] a ∙ flat_map_single (λ k. base + k * a.step) (range_with_len 0 a.count))

  pub piece-fine : (a : Axis) (k : ℕ) → is_coarse a k ≡ false → piece size bytes base true a k ≡ take size (drop (base + k * a.step) bytes)
  piece-fine a k e =
      ap (λ c. samples_at size bytes (offsets (base + k * a.step) c [])) e ∙ append-nil (take size (drop (base + k * a.step) bytes))

  pub piece-coarse : (a : Axis) (k : ℕ) → is_coarse a k ≡ true → piece size bytes base true a k ≡ []
  piece-coarse a k e = ap (λ c. samples_at size bytes (offsets (base + k * a.step) c [])) e

-- so many pieces, two by two
halved : (F : ℕ → List ℕ) (k n : ℕ) → flat_map F (range_with_len k (2 * n)) ≡ flat_map (λ j. F (k + 2 * j) ++ (F (k + 2 * j + 1) ++ [])) (range_with_len 0 n)
halved F k zero = let none : 2 * 0 ≡ 0 = omega arith in ap (λ m. flat_map F (range_with_len k m)) none
halved F k (suc n) =
    let more : 2 * suc n ≡ 2 * n + 2 = omega arith in
    let one : n + 1 ≡ suc n = omega arith in
    let G : ℕ → List ℕ = λ j. F (k + 2 * j) ++ (F (k + 2 * j + 1) ++ []) in
    ap (λ m. flat_map F (range_with_len k m)) more
    ∙ flat_map-range_append F k (2 * n) 2
    ∙ ap (λ t. t ++ G n) (halved F k n)
    ∙ sym (flat_map-range_more G n)
    ∙ ap (λ m. flat_map G (range_with_len 0 m)) one

module _ (size : ℕ) (bytes : List ℕ) (F : ℕ → List ℕ) (first step : ℕ) where
  -- neighbouring pieces that are samples are a run
  pub pieces-run : (k n : ℕ) → ((j : ℕ) → j < n → F (k + j) ≡ take size (drop (first + j * step) bytes)) → flat_map F (range_with_len k n) ≡ samples_at size bytes (progression first step n)
  pieces-run k n each =
      let start : k ≡ k + 0 = omega arith in
      ap (λ s. flat_map F (range_with_len s n)) start
      ∙ flat_map-range_shift F k 0 n
      ∙ flat_map-range_same (λ j. F (k + j)) (λ j. take size (drop (first + j * step) bytes)) 0 n (λ j low high. each j (omega arith))
      ∙ sym (flat_map-map (λ o. take size (drop o bytes)) (λ j. first + j * step) (range_with_len 0 n))

  -- every second piece is a sample, and the others are empty
  pub pieces-every_other : (k n : ℕ) → ((j : ℕ) → j < n → F (k + 2 * j) ≡ take size (drop (first + j * step) bytes)) → ((j : ℕ) → j < n → F (k + 2 * j + 1) ≡ []) →
      flat_map F (range_with_len k (2 * n)) ≡ samples_at size bytes (progression first step n)
  pieces-every_other k n each none =
      halved F k n
      ∙ flat_map-range_same (λ j. F (k + 2 * j) ++ (F (k + 2 * j + 1) ++ [])) (λ j. take size (drop (first + j * step) bytes)) 0 n (λ j low high.
      let here : j < n = omega arith in
      (λ i. each j here i ++ (none j here i ++ [])) ∙ append-nil (take size (drop (first + j * step) bytes)))
      ∙ sym (flat_map-map (λ o. take size (drop o bytes)) (λ j. first + j * step) (range_with_len 0 n))

-- between two coarse coordinates none is coarse
pub fine_before : (a : Axis) (k left j : ℕ) → (a.phase + k + left) % a.ratio ≡ 0 → left < a.ratio → j < left → is_coarse a (k + j) ≡ false
fine_before a k left j at less before =
    ne_eqb ((a.phase + (k + j)) % a.ratio) 0 (λ e.
    let x : ℕ = a.phase + (k + j) in
    let y : ℕ = a.phase + k + left in
    let apart : x < y = omega arith in
    let near : y < x + a.ratio = omega arith in
    let one : x / a.ratio * a.ratio + x % a.ratio ≡ x = div-add-mod' x a.ratio in
    let two : y / a.ratio * a.ratio + y % a.ratio ≡ y = div-add-mod' y a.ratio in
    elim (cases_lt (x / a.ratio) (y / a.ratio)) [
      | inl more ↦
          let step : x / a.ratio + 1 ≤ y / a.ratio = omega arith in
          omega (arith, mul-le-mul_right a.ratio step)
      | inr most ↦ omega (arith, mul-le-mul_right a.ratio most)
    ])

pub coarse_at : (a : Axis) (k left : ℕ) → (a.phase + k + left) % a.ratio ≡ 0 → is_coarse a (k + left) ≡ true
coarse_at a k left at =
    let same : a.phase + (k + left) ≡ a.phase + k + left = omega arith in
    eq-eqb ((a.phase + (k + left)) % a.ratio) 0 (ap (λ n. n % a.ratio) same ∙ at)

module _ (size : ℕ) (bytes : List ℕ) (base : ℕ) (a : Axis) where
  -- where every second coordinate is coarse, the others are a progression of twice the step
  pub gathered-every_other : (first n : ℕ) → a.ratio ≡ 2 → first ≤ 1 → 1 ≤ a.count → (a.phase + first) % 2 ≡ 1 → n ≡ (a.count - first + 1) / 2 →
      gathered size bytes base true (a ∷ []) ≡ samples_at size bytes (progression (base + first * a.step) (2 * a.step) n)
  gathered-every_other first n ratio few some odd half =
      let F : ℕ → List ℕ = piece size bytes base true a in
      let fine : (j : ℕ) → is_coarse a (first + 2 * j) ≡ false = λ j.
      ap (λ r. eqb ((a.phase + (first + 2 * j)) % r) 0) ratio ∙ ne_eqb ((a.phase + (first + 2 * j)) % 2) 0 (λ e. omega arith) in
      let coarse : (j : ℕ) → is_coarse a (first + 2 * j + 1) ≡ true = λ j.
      ap (λ r. eqb ((a.phase + (first + 2 * j + 1)) % r) 0) ratio ∙ eq-eqb ((a.phase + (first + 2 * j + 1)) % 2) 0 (omega arith) in
      let each : (j : ℕ) → j < n → F (first + 2 * j) ≡ take size (drop (base + first * a.step + j * (2 * a.step)) bytes) = λ j h.
      let same : base + (first + 2 * j) * a.step ≡ base + first * a.step + j * (2 * a.step) = omega arith in
      piece-fine size bytes base a (first + 2 * j) (fine j) ∙ ap (λ o. take size (drop o bytes)) same in
      let none : (j : ℕ) → j < n → F (first + 2 * j + 1) ≡ [] = λ j h. piece-coarse size bytes base a (first + 2 * j + 1) (coarse j) in
      let before : flat_map F (range_with_len 0 first) ≡ [] = elim (cases_lt first 1) [
        | inl h ↦ let zero_first : first ≡ 0 = omega arith in ap (λ m. flat_map F (range_with_len 0 m)) zero_first
        | inr h ↦
            let one_first : first ≡ 1 = omega arith in
            let at_zero : is_coarse a 0 ≡ true = ap (λ r. eqb ((a.phase + 0) % r) 0) ratio ∙ eq-eqb ((a.phase + 0) % 2) 0 (omega arith) in
            ap (λ m. flat_map F (range_with_len 0 m)) one_first ∙ append-nil (F 0) ∙ piece-coarse size bytes base a 0 at_zero
      ] in
      let start : 0 + first ≡ first = omega arith in
      let front : flat_map F (range_with_len 0 (first + 2 * n)) ≡ samples_at size bytes (progression (base + first * a.step) (2 * a.step) n) =
      flat_map-range_append F 0 first (2 * n)
      ∙ (λ i. before i ++ flat_map F (range_with_len (start i) (2 * n)))
      ∙ pieces-every_other size bytes F (base + first * a.step) (2 * a.step) first n each none in
      let whole : flat_map F (range_with_len 0 a.count) ≡ flat_map F (range_with_len 0 (first + 2 * n)) = elim (cases_lt a.count (first + 2 * n)) [
        | inl h ↦
            let more : first + 2 * n ≡ a.count + 1 = omega arith in
            let last : a.count ≡ first + 2 * (n - 1) + 1 = omega arith in
            sym (ap (λ m. flat_map F (range_with_len 0 m)) more
            ∙ flat_map-range_more F a.count
            ∙ ap (λ t. flat_map F (range_with_len 0 a.count) ++ t) (ap F last ∙ piece-coarse size bytes base a (first + 2 * (n - 1) + 1) (coarse (n - 1)))
            ∙ append-nil (flat_map F (range_with_len 0 a.count)))
        | inr h ↦ let same : a.count ≡ first + 2 * n = omega arith in ap (λ m. flat_map F (range_with_len 0 m)) same
      ] in
      gathered-row size bytes base true a ∙ whole ∙ front

  -- one run more, and the coarse coordinate behind it
  pub pieces-next_run : (k left n next : ℕ) → (a.phase + k + left) % a.ratio ≡ 0 → left < a.ratio → k < a.count → n ≡ min left (a.count - k) → next ≡ min (k + n + 1) a.count →
      flat_map (piece size bytes base true a) (range_with_len 0 next) ≡ flat_map (piece size bytes base true a) (range_with_len 0 k) ++ samples_at size bytes (progression (base + k * a.step) a.step n)
  pieces-next_run k left n next at less inside run then =
      let F : ℕ → List ℕ = piece size bytes base true a in
      let each : (j : ℕ) → j < n → F (k + j) ≡ take size (drop (base + k * a.step + j * a.step) bytes) = λ j h.
      let same : base + (k + j) * a.step ≡ base + k * a.step + j * a.step = omega arith in
      piece-fine size bytes base a (k + j) (fine_before a k left j at less (omega arith)) ∙ ap (λ o. take size (drop o bytes)) same in
      let start : 0 + k ≡ k = omega arith in
      let front : flat_map F (range_with_len 0 (k + n)) ≡ flat_map F (range_with_len 0 k) ++ samples_at size bytes (progression (base + k * a.step) a.step n) =
      flat_map-range_append F 0 k n
      ∙ ap (λ s. flat_map F (range_with_len 0 k) ++ flat_map F (range_with_len s n)) start
      ∙ ap (λ t. flat_map F (range_with_len 0 k) ++ t) (pieces-run size bytes F (base + k * a.step) a.step k n each) in
      let whole : flat_map F (range_with_len 0 next) ≡ flat_map F (range_with_len 0 (k + n)) = elim (cases_lt (k + n) a.count) [
        | inl h ↦
            let all_fine : n ≡ left = omega arith in
            let more : next ≡ k + n + 1 = omega arith in
            ap (λ m. flat_map F (range_with_len 0 m)) more
            ∙ flat_map-range_more F (k + n)
            ∙ ap (λ t. flat_map F (range_with_len 0 (k + n)) ++ t) (ap (λ m. F (k + m)) all_fine ∙ piece-coarse size bytes base a (k + left) (coarse_at a k left at))
            ∙ append-nil (flat_map F (range_with_len 0 (k + n)))
        | inr h ↦ let same : next ≡ k + n = omega arith in ap (λ m. flat_map F (range_with_len 0 m)) same
      ] in
      whole ∙ front

-- the last of every second sample lies within
pub every_other-read : (base size step count first n len : ℕ) → n ≡ (count - first + 1) / 2 → first ≤ 1 → 1 < count → base + (count - 1) * step + size ≤ len → 0 < n →
    base + first * step + (n - 1) * (2 * step) + size ≤ len
every_other-read base size step count first n len half few wide read some =
    let m : ℕ = n - 1 in
    let most : 2 * m + first ≤ count - 1 = omega arith in
    let within : (2 * m + first) * step ≤ (count - 1) * step = mul-le-mul_right step most in
    omega arith

-- the last of a run lies within
pub run-read : (base size step count k n len : ℕ) → base + (count - 1) * step + size ≤ len → k + n ≤ count → 0 < n → base + k * step + (n - 1) * step + size ≤ len
run-read base size step count k n len read fits some =
    let m : ℕ = n - 1 in
    let most : k + m ≤ count - 1 = omega arith in
    let within : (k + m) * step ≤ (count - 1) * step = mul-le-mul_right step most in
    omega arith
