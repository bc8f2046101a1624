-- The samples of a walk, one coordinate of its slowest axis behind the other.
use Rattle.std.proofs.Common.{◌≡◌, ℕ, ◌+◌, ◌-◌, ◌*◌, ◌<◌, ◌≤◌, Bool, ◌&&◌, List, [], ◌∷◌, ◌++◌, length, take, drop, get_or, sym, ap, ◌∙◌, arith, take-append-drop}
use Rattle.std.specs.List.{flat_map, range_with_len}
use Rattle.std.proofs.lemmas.List.{drop_more}
use Rattle.std.proofs.Math.Seq.{drop-length}
use Rattle.std.proofs.Math.Nat.{mul-le-mul_right}
use Rattle.idx_stride.specs.declared.axis.Axis.{Axis}
use Rattle.idx_stride.specs.Places.{is_coarse}
use Rattle.idx_stride.specs.Strides.{reach}
use Rattle.idx_stride.specs.Written.{gathered}
use Rattle.idx_stride.proofs.PartLemmas.{reach-snoc}
use Rattle.idx_stride.proofs.PlacesLemmas.{samples-snoc}
use Rattle.idx_stride.proofs.RangeLemmas.{length-flat_map-range}

-- the samples behind a coordinate of the slowest axis
abbrev pub layer : ℕ → List ℕ → ℕ → Bool → List Axis → Axis → ℕ → List ℕ
layer size bytes base coarse faster a k = gathered size bytes (base + k * a.step) (coarse && is_coarse a k) faster

-- a list is its front and its last element
pub take-last : {X : Type 0} (xs : List X) (d : X) → 1 ≤ length xs → take (length xs - 1) xs ++ get_or xs (length xs - 1) d ∷ [] ≡ xs
take-last xs d some =
    let last : ℕ = length xs - 1 in
    let end : last + 1 ≡ length xs = omega arith in
    sym (ap (λ t. take last xs ++ t) (drop_more xs last d (omega arith) ∙ ap (λ t. get_or xs last d ∷ t) (ap (λ n. drop n xs) end ∙ drop-length xs)))
    ∙ take-append-drop last xs

module _ (axes faster : List Axis) (a : Axis) (whole : faster ++ a ∷ [] ≡ axes) where
  pub gathered-layers : (size : ℕ) (bytes : List ℕ) (base : ℕ) (coarse : Bool) → gathered size bytes base coarse axes ≡ flat_map (layer size bytes base coarse faster a) (range_with_len 0 a.count)
  gathered-layers size bytes base coarse = ap (gathered size bytes base coarse) (sym whole) ∙ samples-snoc size bytes base coarse faster a

  pub reach-layer : (k : ℕ) → k < a.count → k * a.step + reach faster ≤ reach axes
  reach-layer k inside =
      let most : k ≤ a.count - 1 = omega arith in
      omega (arith, ap reach whole, reach-snoc faster a, mul-le-mul_right a.step most)

  pub layer_fits : (size : ℕ) (bytes : List ℕ) (base : ℕ) (coarse : Bool) (k at next room : ℕ) → k < a.count →
      next ≡ at + length (flat_map (layer size bytes base coarse faster a) (range_with_len 0 k)) → at + length (gathered size bytes base coarse axes) ≤ room →
      next + length (layer size bytes base coarse faster a k) ≤ room
  layer_fits size bytes base coarse k at next room inside here fits =
      omega (arith, ap length (gathered-layers size bytes base coarse), length-flat_map-range (layer size bytes base coarse faster a) k a.count inside)
