-- What the calls of a hall keep, where the post is given by its number.
use Rattle.std.proofs.Common.{◌≡◌, ℕ, true, false, if◌then◌else◌, List, [], ◌∷◌, refl, ap, Some}
use Rattle.std.specs.Prelude.{All, slice_get}
use Rattle.idx_cache.specs.Cached.{found, put_all}
use Rattle.idx_hall.specs.Posts.{Post, is_newest}
use Rattle.idx_hall.specs.Hall.{HallValue, HallOk, IsBlockOf, after_fill, name_eq, name_of, named_pairs, with_pairs}
use Rattle.idx_hall.specs.declared.key.Key.{Key}
use Rattle.idx_hall.proofs.HallLemmas.{HallOk-put, IsPublished-from, found-blocks, newest-is}

module _ (number : ℕ) (pairs : List (Key × List ℕ)) (h : HallValue) where
  abbrev put : HallValue
  put = with_pairs h (put_all name_eq h.cache.cap (named_pairs number pairs) h.cache.pairs)

  filled : (P : HallValue → Type 0) → (is_newest h.board number ≡ true → P put) → P h → P (after_fill number pairs h)
  filled P new old = (elim (is_newest h.board number) as (λ b. is_newest h.board number ≡ b → P (if b then put else h)) [
    | true ↦ λ e. new e
    | false ↦ λ e. old
  ]) refl

  pub filled-shape : (after_fill number pairs h).shape ≡ h.shape
  filled-shape = filled (λ (z : HallValue). z.shape ≡ h.shape) (λ e. refl) refl

  pub filled-board : (after_fill number pairs h).board ≡ h.board
  filled-board = filled (λ (z : HallValue). z.board ≡ h.board) (λ e. refl) refl

  -- blocks of a post are put where it is the newest of its timestep, and else are not
  pub HallOk-fill : HallOk h → (p : Post) → slice_get h.board number ≡ Some p → All (IsBlockOf h.shape p) pairs → HallOk (after_fill number pairs h)
  HallOk-fill ok p at blocks = filled HallOk
      (λ newest. HallOk-put (named_pairs number pairs) h ok (IsPublished-from h number p (newest-is h.board number p at newest) pairs blocks))
      ok

-- what is found of a key in a post is its block in it
pub found-one : (h : HallValue) → HallOk h → (number : ℕ) (p : Post) → slice_get h.board number ≡ Some p → (key : Key) (bytes : List ℕ) →
    found name_eq (name_of number key) h.cache.pairs ≡ Some bytes → IsBlockOf h.shape p (key, bytes)
found-one h ok number p at key bytes e = found-blocks h ok number p at (key ∷ []) 0 key bytes refl (ap Some e)
