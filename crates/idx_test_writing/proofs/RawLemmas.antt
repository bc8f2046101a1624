-- Raw volumes that tell nothing.
use Rattle.std.proofs.Common.{◌≡◌, ℕ, zero, suc, List, [], ◌∷◌, Option, None, map, refl, slice_index_or, sym, ◌∙◌}

abbrev untold : {V : Type 0} → V → Option (List ℕ)
untold raw = None

unknown : {V : Type 0} (raws : List V) (i : ℕ) → slice_index_or (map untold raws) i None ≡ None
unknown [] zero = refl
unknown [] (suc i) = refl
unknown (raw ∷ raws) zero = refl
unknown (raw ∷ raws) (suc i) = unknown raws i

-- they are alike
pub untold_alike : {V : Type 0} (raws : List V) (i : ℕ) → slice_index_or (map untold raws) i None ≡ slice_index_or (map untold raws) 0 None
untold_alike raws i = unknown raws i ∙ sym (unknown raws 0)
