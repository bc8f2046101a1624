use Rattle.std.proofs.Common.{◌≡◌, ℕ, zero, suc, List, [], ◌∷◌, Option, None, map, refl, slice_index_or, sym, ◌∙◌}
use Rattle.idx_test_commands.proofs.setting.cause_over.Goals as goal

-- these raw volumes tell nothing
abbrev untold : {V : Type 0} → V → Option (List ℕ)
untold raw = None

unknown : {V : Type 0} (raws : List V) (i : ℕ) → slice_index_or (map untold raws) i None ≡ None
unknown [] zero = refl
unknown [] (suc i) = refl
unknown (raw ∷ raws) zero = refl
unknown (raw ∷ raws) (suc i) = unknown raws i

pub run-done-requires-clause-same : goal.run-done-requires-clause-same
run-done-requires-clause-same g c κs within = λ i here. unknown c.args.forms.now.raws.items i ∙ sym (unknown c.args.forms.now.raws.items 0)
