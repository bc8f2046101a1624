-- The posts of the board and the published volumes.
use Rattle.std.proofs.Common.{◌≡◌, inl, inr, ℕ, suc, ◌<◌, ◌≤◌, Bool, true, false, ◌&&◌, ◌||◌, cond, nat_eq, List, [], ◌∷◌, ◌++◌, length, map, filter, find, get_or, drop, slice_get, Some, refl, sym, ap, ◌∙◌, subst, arith}
use Rattle.std.specs.List.{AllByRecursion, list_any}
use Rattle.std.specs.Cmp.Derive.{both_true}
use Rattle.std.proofs.lemmas.Bool.{eqb-true, eq-eqb, false≢true, lt-ltb}
use Rattle.std.proofs.lemmas.Option.{same_Some}
use Rattle.idx_hall.specs.Posts.{Post}
use Rattle.idx_events.specs.Lists.{AnyOf, change_first}
use Rattle.idx_events.specs.Setting.{Setting}
use Rattle.idx_events.specs.World.{Volume, is_published}
use Rattle.idx_events.specs.Volumes.{is_of, is_later, is_post_of, is_published_of, count_of, revisions, post_of, publish}
use Rattle.idx_events.specs.WorldOk.{BoardOk, IsPostFor}
use Rattle.idx_events.proofs.ListLemmas.{both, clash, no_Some, AnyOf-at, AnyOf-filter, AnyOf-unmap, AnyOf-each, Each-always, Each-weaker, filter-none}

-- ---- the revisions of a timestep rise

-- each volume's revision is below those of its timestep that stand behind it
abbrev pub Rise : List Volume → Type 0
Rise [] = Unit {0}
Rise (v ∷ vs) = AllByRecursion (λ u. u.time ≡ v.time → v.revision < u.revision) vs × Rise vs

count-more : (t n : ℕ) (before : List ℕ) → count_of t before ≤ count_of t (n ∷ before)
count-more t n before = elim (nat_eq t n) as (λ b. count_of t before ≤ length (cond b (n ∷ filter (nat_eq t) before) (filter (nat_eq t) before))) [
  | true ↦ omega arith
  | false ↦ omega arith
]

count-one : (t : ℕ) (before : List ℕ) → count_of t (t ∷ before) ≡ suc (count_of t before)
count-one t before = ap (λ b. length (cond b (t ∷ filter (nat_eq t) before) (filter (nat_eq t) before))) (eq-eqb t t refl)

-- the revisions of a list whose timesteps stand behind others
behind : (t n : ℕ) (before : List ℕ) → n ≤ count_of t before → (vs : List Volume) → map (λ v. v.revision) vs ≡ revisions before (map (λ v. v.time) vs) → AllByRecursion (λ u. u.time ≡ t → n ≤ u.revision) vs
behind t n before le [] e = tt
behind t n before le (v ∷ vs) e = (
  (λ same. let here : v.revision ≡ count_of t before = ap (λ l. get_or l 0 0) e ∙ ap (λ k. count_of k before) same in omega (arith, here, le)),
  behind t n (v.time ∷ before) (let more = count-more t v.time before in omega (arith, more, le)) vs (ap (λ l. drop 1 l) e),
)

rise-behind : (before : List ℕ) (vs : List Volume) → map (λ v. v.revision) vs ≡ revisions before (map (λ v. v.time) vs) → Rise vs
rise-behind before [] e = tt
rise-behind before (v ∷ vs) e =
    let rest : map (λ u. u.revision) vs ≡ revisions (v.time ∷ before) (map (λ u. u.time) vs) = ap (λ l. drop 1 l) e in
    let here : v.revision ≡ count_of v.time before = ap (λ l. get_or l 0 0) e in (
      Each-weaker (λ u. u.time ≡ v.time → suc (count_of v.time before) ≤ u.revision) (λ u. u.time ≡ v.time → v.revision < u.revision)
          (λ u h same. let le : suc (count_of v.time before) ≤ u.revision = h same in omega (arith, here, le)) vs
          (behind v.time (suc (count_of v.time before)) (v.time ∷ before) (let one = count-one v.time before in omega (arith, one)) vs rest),
      rise-behind (v.time ∷ before) vs rest,
    )

-- of volumes that are numbered by how often their timestep came before
pub revisions-rise : (vs : List Volume) → map (λ v. v.revision) vs ≡ revisions [] (map (λ v. v.time) vs) → Rise vs
revisions-rise vs e = rise-behind [] vs e

-- ---- one more published volume

module _ (time revision : ℕ) where
  -- none behind the volume is published, where no later revision is
  none-behind : (v : Volume) → is_of time revision v ≡ true → (vs : List Volume) → AllByRecursion (λ u. u.time ≡ v.time → v.revision < u.revision) vs →
      list_any (is_later time revision) vs ≡ false → AllByRecursion (λ u. is_published_of time u ≡ false) vs
  none-behind v here [] rise none = tt
  none-behind v here (u ∷ vs) rise none =
      (unpublished (is_published_of time u) refl, none-behind v here vs rise.1 (or-right-false (is_later time revision u) (list_any (is_later time revision) vs) none))
    where
      or-right-false : (a b : Bool) → (a || b) ≡ false → b ≡ false
      or-right-false true b h = absurd (false≢true (sym h))
      or-right-false false b h = h

      or-left-false : (a b : Bool) → (a || b) ≡ false → a ≡ false
      or-left-false true b h = h
      or-left-false false b h = refl

      unpublished : (b : Bool) → is_published_of time u ≡ b → b ≡ false
      unpublished false e = refl
      unpublished true e =
          let parts = both (is_published u.phase) (nat_eq u.time time) e in
          let mine = both (nat_eq v.time time) (nat_eq v.revision revision) here in
          let less : v.revision < u.revision = rise.0 (eqb-true u.time time parts.1 ∙ sym (eqb-true v.time time mine.0)) in
          let at : v.revision ≡ revision = eqb-true v.revision revision mine.1 in
          absurd (clash (both_true parts.0 (both_true parts.1 (lt-ltb revision u.revision (omega (arith, less, at))))) (or-left-false (is_later time revision u) (list_any (is_later time revision) vs) none))

  module _ (s : Setting) where
    -- the published volumes of the timestep, once this one is published: it comes last
    pub filter-published : (vs : List Volume) (v : Volume) → Rise vs → list_any (is_later time revision) vs ≡ false → find (is_of time revision) vs ≡ Some v → is_published v.phase ≡ false →
        filter (is_published_of time) (change_first (is_of time revision) (publish s) vs) ≡ filter (is_published_of time) vs ++ publish s v ∷ []
    filter-published [] v rise none found staged = no_Some v found
    filter-published (u ∷ vs) v rise none found staged = (elim (is_of time revision u) as (λ b. is_of time revision u ≡ b → cond b (Some u) (find (is_of time revision) vs) ≡ Some v →
        filter (is_published_of time) (cond b (publish s u ∷ vs) (u ∷ change_first (is_of time revision) (publish s) vs)) ≡ filter (is_published_of time) (u ∷ vs) ++ publish s v ∷ []) [
          | true ↦ λ e k.
              let same : u ≡ v = same_Some u v k in
              let old : is_published_of time u ≡ false = ap (λ b. b && nat_eq u.time time) (ap (λ (z : Volume). is_published z.phase) same ∙ staged) in
              let mine = both (nat_eq u.time time) (nat_eq u.revision revision) e in
              let rest : filter (is_published_of time) vs ≡ [] = filter-none (is_published_of time) vs (none-behind u e vs rise.0 (later-none u vs none)) in
              ap (λ b. cond b (publish s u ∷ filter (is_published_of time) vs) (filter (is_published_of time) vs)) mine.0
              ∙ ap (λ l. publish s u ∷ l) rest
              ∙ ap (λ (z : Volume). publish s z ∷ []) same
              ∙ sym (ap (λ b. cond b (u ∷ filter (is_published_of time) vs) (filter (is_published_of time) vs) ++ publish s v ∷ []) old ∙ ap (λ l. l ++ publish s v ∷ []) rest)
          | false ↦ λ e k.
              let rest = filter-published vs v rise.1 (later-none u vs none) k staged in
              ap (λ l. cond (is_published_of time u) (u ∷ l) l) rest ∙ push (is_published_of time u) u (filter (is_published_of time) vs)
        ]) refl found
      where
        later-none : (z : Volume) (zs : List Volume) → list_any (is_later time revision) (z ∷ zs) ≡ false → list_any (is_later time revision) zs ≡ false
        later-none z zs h = (elim (is_later time revision z) as (λ b. (b || list_any (is_later time revision) zs) ≡ false → list_any (is_later time revision) zs ≡ false) [
          | true ↦ λ k. absurd (false≢true (sym k))
          | false ↦ λ k. k
        ]) h

        push : (b : Bool) (z : Volume) (l : List Volume) → cond b (z ∷ (l ++ publish s v ∷ [])) (l ++ publish s v ∷ []) ≡ cond b (z ∷ l) l ++ publish s v ∷ []
        push true z l = refl
        push false z l = refl

-- ---- the posts are of published volumes

module _ (s : Setting) (vs : List Volume) (board : List Post) (ok : BoardOk s vs board) where
  pub post-for : (n : ℕ) (p : Post) → slice_get board n ≡ Some p → AnyOf (IsPostFor s p) vs
  post-for n p at =
      let there : AnyOf (λ q. q ≡ p) (filter (is_post_of p.time) board) = AnyOf-at (is_post_of p.time) board n p at (eq-eqb p.time p.time refl) in
      let made : AnyOf (λ v. post_of s v ≡ p) (filter (is_published_of p.time) vs) =
      AnyOf-unmap (post_of s) (λ q. q ≡ p) (filter (is_published_of p.time) vs) (subst (λ l. AnyOf (λ q. q ≡ p) l) (ok.posts p.time) there) in
      AnyOf-each (λ v. (is_published_of p.time v ≡ true) × (post_of s v ≡ p)) (λ v. Unit {0}) (IsPostFor s p)
      (λ v is any. record { phase = (both (is_published v.phase) (nat_eq v.time p.time) is.0).0; post = sym is.1 }) vs
      (AnyOf-filter (λ v. post_of s v ≡ p) (is_published_of p.time) vs made) (Each-always (λ v. Unit {0}) (λ v. tt) vs)

  -- and tell what they store
  told-by : (p : Post) (us : List Volume) → AnyOf (IsPostFor s p) us → (stored : List (List (List ℕ))) × (p.stored ≡ Some stored)
  told-by p [] any = absurd any
  told-by p (u ∷ us) any = elim any [
    | inl is ↦ (_, ap (λ (q : Post). q.stored) is.post)
    | inr there ↦ told-by p us there
  ]

  pub posts-told : (n : ℕ) (p : Post) → slice_get board n ≡ Some p → (stored : List (List (List ℕ))) × (p.stored ≡ Some stored)
  posts-told n p at = told-by p vs (post-for n p at)
