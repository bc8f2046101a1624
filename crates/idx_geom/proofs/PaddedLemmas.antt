-- Lists that are stored in arrays are equal exactly where the arrays and the lengths are.
use Rattle.std.proofs.Common.{◌≡◌, ℕ, List, length, take, ◌&&◌, ap, sym, ◌∙◌, refl}
use Rattle.std.specs.Prelude.{◌↔◌, IsTrue, nat_eq, replicate, ◌-◌}
use Rattle.std.specs.Str.{bytes_eq}
use Rattle.std.proofs.lemmas.Bool.{and_parts, eqb-true, eq-eqb}
use Rattle.std.proofs.lemmas.List.{take_at}
use Rattle.std.proofs.lemmas.Slice.Eq.{bytes_eq-Decides}
use Rattle.idx_geom.specs.Padded.{padded}

pub equal_iff : (room : ℕ) (xs ys : List ℕ) → IsTrue (bytes_eq (padded room xs) (padded room ys) && nat_eq (length xs) (length ys)) ↔ (xs ≡ ys)
equal_iff room xs ys = (
  λ test.
      let parts = and_parts (bytes_eq (padded room xs) (padded room ys)) (nat_eq (length xs) (length ys)) test in
      let array : padded room xs ≡ padded room ys = (bytes_eq-Decides (padded room xs) (padded room ys)).0 parts.0 in
      let size : length xs ≡ length ys = eqb-true (length xs) (length ys) parts.1 in
      sym (take_at xs (replicate (room - length xs) 0) (length xs) refl)
      ∙ (λ i. take (size i) (array i))
      ∙ take_at ys (replicate (room - length ys) 0) (length ys) refl,
  λ same.
      rw ((bytes_eq-Decides (padded room xs) (padded room ys)).1 (ap (padded room) same), eq-eqb (length xs) (length ys) (ap length same)) refl,
)
