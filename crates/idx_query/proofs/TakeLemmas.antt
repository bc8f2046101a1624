-- What is known of a hall that is taken and given back.
use Rattle.std.proofs.Common.{◌≡◌, ℕ, Bool, true, false, cond, List, [], ◌∷◌, refl, sym, ◌∙◌, subst, Some, Option}
use Rattle.std.specs.Prelude.{◌==◌, IfSome, length, slice_get}
use Rattle.std.proofs.lemmas.Option.{same_Some}
use Rattle.idx_outside.specs.Shape.{Shape}
use Rattle.idx_cache.specs.Cached.{put_all}
use Rattle.idx_hall.specs.declared.key.Key.{Key}
use Rattle.idx_hall.specs.Posts.{Post, is_newest, post_of}
use Rattle.idx_hall.specs.Hall.{HallValue, after_fill, name_eq, named_pairs, with_pairs}
use Rattle.idx_hall.specs.Calls.{IsStepOf}
use Rattle.idx_turn.specs.Stands.{Begins, MayGive, Stand, stand}
use Rattle.idx_turn.proofs.BeginsLemmas.{begins_whole}
use Rattle.idx_query.specs.Steps.{IsEditionOf, held_for}

-- what went out may come back
pub given-back : (given : Option Stand) (may_add : Bool) (was now : HallValue) → given ≡ Some (stand was.shape was.cache.cap was.board) → now.shape ≡ was.shape →
    now.cache.cap ≡ was.cache.cap → now.board ≡ was.board → MayGive given may_add (stand now.shape now.cache.cap now.board)
given-back given may_add was now out same_shape same_cap same =
    subst (λ (g : Option Stand). MayGive g may_add (stand now.shape now.cache.cap now.board)) (sym out)
    (record { shape = same_shape; capacity = same_cap; begins = subst (λ (l : List Post). Begins was.board l) (sym same) (begins_whole was.board); same = λ no. same })

-- the step of a post's number is that post
pub edition-of : {E : Type 0} (time : E → ℕ) (shape : E → Shape) (has : E → ℕ → ℕ → Bool) (stored : E → Option (ℕ → ℕ → List ℕ)) (h : HallValue) (number : ℕ) (post : Post) (e : E) →
    slice_get h.board number ≡ Some post → IsStepOf time shape has stored h number e → IsEditionOf time shape has stored h.shape post e
edition-of time shape has stored h number post e at step_is =
    record { shaped = step_is.shaped; is = same_Some (post_of h.shape (time e) (has e) (stored e)) post (sym step_is.at ∙ at) }

-- what is said of an answer is said of what it holds
pub holding : {A : Type 0} (P : A → Type 0) (o : Option A) (x : A) → IfSome o P → o ≡ Some x → P x
holding P o x known is = subst (λ p. IfSome p P) is known

-- a fill leaves the shape, the capacity and the posts
pub filled-shape : (number : ℕ) (pairs : List (Key × List ℕ)) (h : HallValue) → (after_fill number pairs h).shape ≡ h.shape
filled-shape number pairs h = elim (is_newest h.board number) as (λ b. (cond b (with_pairs h (put_all name_eq h.cache.cap (named_pairs number pairs) h.cache.pairs)) h).shape ≡ h.shape) [
  | true ↦ refl
  | false ↦ refl
]

pub filled-cap : (number : ℕ) (pairs : List (Key × List ℕ)) (h : HallValue) → (after_fill number pairs h).cache.cap ≡ h.cache.cap
filled-cap number pairs h = elim (is_newest h.board number) as (λ b. (cond b (with_pairs h (put_all name_eq h.cache.cap (named_pairs number pairs) h.cache.pairs)) h).cache.cap ≡ h.cache.cap) [
  | true ↦ refl
  | false ↦ refl
]

pub filled-board : (number : ℕ) (pairs : List (Key × List ℕ)) (h : HallValue) → (after_fill number pairs h).board ≡ h.board
filled-board number pairs h = elim (is_newest h.board number) as (λ b. (cond b (with_pairs h (put_all name_eq h.cache.cap (named_pairs number pairs) h.cache.pairs)) h).board ≡ h.board) [
  | true ↦ refl
  | false ↦ refl
]

-- no block fills nothing
pub filled-none : (number : ℕ) (h : HallValue) → after_fill number [] h ≡ h
filled-none number h = elim (is_newest h.board number) as (λ b. cond b (with_pairs h (put_all name_eq h.cache.cap (named_pairs number []) h.cache.pairs)) h ≡ h) [
  | true ↦ refl
  | false ↦ refl
]

-- some blocks are put at one hold
pub held-some : (pairs : List (Key × List ℕ)) → (length pairs == 0) ≡ false → held_for pairs ≡ 1
held-some [] none = cc
held-some (pair ∷ pairs) some = refl
