-- Where two texts differ, found byte by byte.
use Rattle.std.proofs.Common.{◌≡◌, ℕ, zero, suc, ◌+◌, ◌<◌, Bool, true, false, cond, List, [], ◌∷◌, length, Some, None, refl, sym, ap, ◌∙◌, arith, eq-eqb, eqb-true}
use Rattle.std.specs.Prelude.{◌≢◌, ◌↔◌, ◌==◌, Option, min, slice_index}
use Rattle.std.specs.Option.{option_map}
use Rattle.std.proofs.lemmas.Bool.{ne_eqb}
use Rattle.idx_check.specs.Difference.{first_difference}

-- texts with the same first byte differ where what is behind it does
same_first : (x y : ℕ) (xs ys : List ℕ) → x ≡ y → first_difference (x ∷ xs) (y ∷ ys) ≡ option_map (λ at. at + 1) (first_difference xs ys)
same_first x y xs ys same =
    ap (λ (b : Bool). cond b (option_map (λ at. at + 1) (first_difference xs ys)) (Some 0)) (eq-eqb x y same)

-- the least place at which they differ
pub differs_at : (xs ys : List ℕ) (at : ℕ) → ((i : ℕ) → i < at → slice_index xs i ≡ slice_index ys i) → at < length xs → at < length ys →
    slice_index xs at ≢ slice_index ys at → first_difference xs ys ≡ Some at
differs_at [] ys at same left right other = absurd (omega arith)
differs_at (x ∷ xs) [] at same left right other = absurd (omega arith)
differs_at (x ∷ xs) (y ∷ ys) zero same left right other =
    ap (λ (b : Bool). cond b (option_map (λ at. at + 1) (first_difference xs ys)) (Some 0)) (ne_eqb x y other)
differs_at (x ∷ xs) (y ∷ ys) (suc at) same left right other =
    same_first x y xs ys (same 0 (omega arith))
    ∙ ap (option_map (λ at. at + 1)) (differs_at xs ys at (λ i less. same (suc i) (omega arith)) (omega arith) (omega arith) other)
    ∙ ap (λ n. Some n) (omega arith)

-- the end of the shorter one
pub differs_at_end : (xs ys : List ℕ) (at : ℕ) → ((i : ℕ) → i < at → slice_index xs i ≡ slice_index ys i) → at ≡ min (length xs) (length ys) →
    length xs ≢ length ys → first_difference xs ys ≡ Some at
differs_at_end [] [] at same end other = absurd (other refl)
differs_at_end [] (y ∷ ys) at same end other = ap (λ n. Some n) (omega arith)
differs_at_end (x ∷ xs) [] at same end other = ap (λ n. Some n) (omega arith)
differs_at_end (x ∷ xs) (y ∷ ys) zero same end other = absurd (omega arith)
differs_at_end (x ∷ xs) (y ∷ ys) (suc at) same end other =
    same_first x y xs ys (same 0 (omega arith))
    ∙ ap (option_map (λ at. at + 1)) (differs_at_end xs ys at (λ i less. same (suc i) (omega arith)) (omega arith) (λ e. other (ap suc e)))
    ∙ ap (λ n. Some n) (omega arith)

-- a text differs nowhere from itself
pub no_difference : (xs : List ℕ) → first_difference xs xs ≡ None
no_difference [] = refl
no_difference (x ∷ xs) = same_first x x xs xs refl ∙ ap (option_map (λ at. at + 1)) (no_difference xs)

-- texts that are equal in length and at each place are one
pub same_texts : (xs ys : List ℕ) → length xs ≡ length ys → ((i : ℕ) → i < length xs → slice_index xs i ≡ slice_index ys i) → xs ≡ ys
same_texts [] [] size same = refl
same_texts [] (y ∷ ys) size same = absurd (omega arith)
same_texts (x ∷ xs) [] size same = absurd (omega arith)
same_texts (x ∷ xs) (y ∷ ys) size same =
    ap (λ z. z ∷ xs) (same 0 (omega arith)) ∙ ap (λ zs. y ∷ zs) (same_texts xs ys (omega arith) (λ i less. same (suc i) (omega arith)))

-- such texts differ nowhere
pub differs_nowhere : (xs ys : List ℕ) → length xs ≡ length ys → ((i : ℕ) → i < length xs → slice_index xs i ≡ slice_index ys i) →
    first_difference xs ys ≡ None
differs_nowhere xs ys size same = ap (first_difference xs) (sym (same_texts xs ys size same)) ∙ no_difference xs

-- and texts that differ nowhere are one
pub one_text : (xs ys : List ℕ) → first_difference xs ys ≡ None → xs ≡ ys
one_text [] [] none = refl
one_text [] (y ∷ ys) none = let wrong : ◌≡◌ {A = Option ℕ} (Some 0) None = none in absurd (cc)
one_text (x ∷ xs) [] none = let wrong : ◌≡◌ {A = Option ℕ} (Some 0) None = none in absurd (cc)
one_text (x ∷ xs) (y ∷ ys) none = by_test (one_text xs ys) (x == y) refl (first_difference xs ys) refl
  where
    by_test : (first_difference xs ys ≡ None → xs ≡ ys) → (b : Bool) → (x == y) ≡ b → (o : Option ℕ) → first_difference xs ys ≡ o → x ∷ xs ≡ y ∷ ys
    by_test rest false e o is =
        let wrong : ◌≡◌ {A = Option ℕ} (Some 0) None =
        sym (ap (λ (b : Bool). cond b (option_map (λ at. at + 1) (first_difference xs ys)) (Some 0)) e) ∙ none in absurd (cc)
    by_test rest true e (Some at) is =
        let wrong : ◌≡◌ {A = Option ℕ} (Some (at + 1)) None =
        sym (ap (option_map (λ at. at + 1)) is) ∙ sym (same_first x y xs ys (eqb-true x y e)) ∙ none in absurd (cc)
    by_test rest true e None is =
        ap (λ z. z ∷ xs) (eqb-true x y e) ∙ ap (λ zs. y ∷ zs) (rest is)

pub nowhere_iff : (xs ys : List ℕ) → (first_difference xs ys ≡ None) ↔ (xs ≡ ys)
nowhere_iff xs ys = (one_text xs ys, λ same. ap (first_difference xs) (sym same) ∙ no_difference xs)
