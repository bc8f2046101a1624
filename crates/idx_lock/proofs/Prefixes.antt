-- Beginnings of what values stand for.
use Rattle.std.proofs.Common.{◌≡◌, ◌⊎◌, inl, inr, ◌≤◌, ◌<◌, Bool, true, false, cond, List, [], ◌∷◌, ◌++◌, length, refl, sym, ◌∙◌, arith}
use Rattle.std.specs.Prelude.{Option, Some, None, leb}
use Rattle.std.proofs.lemmas.Bool.{leb-true, leb-false}
use Rattle.idx_turn.specs.Stands.{Begins, Stand}
use Rattle.idx_turn.proofs.BeginsLemmas.{begins_whole, begins_more}
use Rattle.idx_lock.specs.LockRule.{Precedes, longer, shorter}

both_begin : {A : Type 0} (a b r s : List A) → a ++ r ≡ b ++ s → length a ≤ length b → Begins a b
both_begin [] b r s e le = record { rest = b; is = refl }
both_begin (x ∷ xs) [] r s e le = absurd (omega arith)
both_begin (x ∷ xs) (y ∷ ys) r s e le =
    let tails : xs ++ r ≡ ys ++ s = cc in
    let h = both_begin xs ys r s tails (omega arith) in
    let heads : y ≡ x = cc in
    let tail = h.is in
    record { rest = h.rest; is = (cc) }

pub begins_begins : {A : Type 0} {a b g : List A} → Begins a g → Begins b g → length a ≤ length b → Begins a b
begins_begins {A} {a} {b} {g} h k le = both_begin a b h.rest k.rest (sym h.is ∙ k.is) le

pub precedes_itself : (a : Option Stand) → Precedes a a
precedes_itself None = tt
precedes_itself (Some a) = (refl, refl, begins_whole a.posts)

pub precedes_more : (a b c : Option Stand) → Precedes a b → Precedes b c → Precedes a c
precedes_more None b c h k = tt
precedes_more (Some a) None c h k = absurd h
precedes_more (Some a) (Some b) None h k = absurd k
precedes_more (Some a) (Some b) (Some c) h k = (h.0 ∙ k.0, h.1 ∙ k.1, begins_more h.2 k.2)

pick_ordered : (a b g : Stand) (t : Bool) → leb (length a.posts) (length b.posts) ≡ t → Precedes (Some a) (Some g) → Precedes (Some b) (Some g)
    → Precedes (cond t (Some a) (Some b)) (cond t (Some b) (Some a)) × Precedes (cond t (Some b) (Some a)) (Some g)
pick_ordered a b g true e h k = ((h.0 ∙ sym k.0, h.1 ∙ sym k.1, begins_begins h.2 k.2 (leb-true (length a.posts) (length b.posts) e)), k)
pick_ordered a b g false e h k =
    let lt : length b.posts < length a.posts = leb-false (length a.posts) (length b.posts) e in
    ((k.0 ∙ sym h.0, k.1 ∙ sym h.1, begins_begins k.2 h.2 (omega arith)), h)

-- of two prefixes of one list the shorter is a prefix of the longer, which is a prefix of that list
pub longer_is : (a b g : Option Stand) → Precedes a g → Precedes b g → Precedes (shorter a b) (longer a b) × Precedes (longer a b) g
longer_is None b g h k = (tt, k)
longer_is (Some a) None g h k = (tt, h)
longer_is (Some a) (Some b) None h k = absurd h
longer_is (Some a) (Some b) (Some g) h k = pick_ordered a b g (leb (length a.posts) (length b.posts)) refl h k

one_begins : (a b g : Stand) (t : Bool) → leb (length a.posts) (length b.posts) ≡ t → Precedes (Some a) (Some g) → Precedes (Some b) (Some g)
    → Precedes (Some a) (Some b) ⊎ Precedes (Some b) (Some a)
one_begins a b g true e h k = inl (pick_ordered a b g true e h k).0
one_begins a b g false e h k = inr (pick_ordered a b g false e h k).0

-- of two prefixes of one list one is a prefix of the other
pub either_begins : (a b g : Option Stand) → Precedes a g → Precedes b g → Precedes a b ⊎ Precedes b a
either_begins None b g h k = inl tt
either_begins (Some a) None g h k = inr tt
either_begins (Some a) (Some b) None h k = absurd h
either_begins (Some a) (Some b) (Some g) h k = one_begins a b g (leb (length a.posts) (length b.posts)) refl h k
