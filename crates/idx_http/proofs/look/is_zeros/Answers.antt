use Rattle.std.proofs.Common.{◌≡◌, ℕ, Bool, false, List, [], ◌∷◌, length, ◌∙◌, sym}
use Rattle.std.specs.Prelude.{◌==◌}
use Rattle.std.specs.List.{list_all}
use Rattle.idx_http.specs.Values.{is_zeros}
use Rattle.idx_http.proofs.look.is_zeros.Goals as goal

some_zeros : (v : List ℕ) (r : Bool) → false ≡ (length v == 0) → r ≡ list_all (λ b. b == 48) v → r ≡ is_zeros v
some_zeros [] r some all = absurd (cc)
some_zeros (b ∷ v) r some all = all

pub returns-then-not-is_empty : goal.returns-then-not-is_empty
returns-then-not-is_empty c = some_zeros c.args.value.now c.all_zeros.result (sym c.if-not-is_empty.true ∙ c.is_empty.ensures) c.all_zeros.ensures
