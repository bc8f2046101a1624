-- What a seat is that was made of two.
use Rattle.std.proofs.Common.{◌≡◌, Bool, true, false, cond, true≢false, ◌||◌, length, refl, sym, ◌∙◌, subst, inl, inr}
use Rattle.std.specs.Prelude.{Option, Some, None, leb}
use Rattle.atomic_table.specs.Seated.{TableId}
use Rattle.crossbeam_queue.specs.Passes.{Pass, view}
use Rattle.idx_turn.specs.Stands.{Stand}
use Rattle.idx_turn.specs.LockId.{LockId}
use Rattle.idx_turn.proofs.BeginsLemmas.{begins_whole}
use Rattle.idx_lock.specs.declared.seat_view.SeatView.{SeatView}
use Rattle.idx_lock.specs.LockRule.{Precedes, longer, shorter, joined}
use Rattle.idx_lock.specs.Seats.{SeatValue, seat_value, Joined, lock_of, seen_or_none, seat_of, Rests}

-- the seat of two where the first has seen all, and where the second has
first_has_all : (l m : LockId) (a b : Stand) (t u : Bool) → (u ≡ true → a ≡ b) → (t ≡ true → u ≡ false) → Precedes (Some b) (Some a)
    → Joined (seat_value l a t) (seat_value m b u) (seat_value l a (t || u))
first_has_all l m a b t u same one h = record {
  lock = refl;
  shape = refl;
  other_shape = sym h.0;
  capacity = refl;
  other_capacity = sym h.1;
  begins = begins_whole a.posts;
  other_begins = h.2;
  one = inl refl;
  same = λ _. refl;
  other_same = same;
  writer = refl;
  one_writer = one;
}

second_has_all : (l m : LockId) (a b : Stand) (t u : Bool) → (t ≡ true → b ≡ a) → (t ≡ true → u ≡ false) → Precedes (Some a) (Some b)
    → Joined (seat_value l a t) (seat_value m b u) (seat_value l b (t || u))
second_has_all l m a b t u same one h = record {
  lock = refl;
  shape = sym h.0;
  other_shape = refl;
  capacity = sym h.1;
  other_capacity = refl;
  begins = h.2;
  other_begins = begins_whole b.posts;
  one = inr refl;
  same = same;
  other_same = λ _. refl;
  writer = refl;
  one_writer = one;
}

never : {A : Type 0} → false ≡ true → A
never e = absurd (true≢false (sym e))

of_readers : (l m : LockId) (a b : Stand) (t : Bool) → Precedes (cond t (Some a) (Some b)) (cond t (Some b) (Some a))
    → Joined (seat_value l a false) (seat_value m b false) (seat_value l (seen_or_none (cond t (Some b) (Some a))) false)
of_readers l m a b true h = second_has_all l m a b false false never never h
of_readers l m a b false h = first_has_all l m a b false false never never h

-- two seats that have seen a and b
of_two : (l m : LockId) (a b : Stand) (t u : Bool)
    → Precedes (cond t (Some b) (cond u (Some a) (shorter (Some a) (Some b)))) (cond t (cond u None (Some a)) (cond u (Some b) (longer (Some a) (Some b))))
    → Joined (seat_value l a t) (seat_value m b u)
    (seat_value l (seen_or_none (cond t (cond u None (Some a)) (cond u (Some b) (longer (Some a) (Some b))))) (t || u))
of_two l m a b true true h = absurd h
of_two l m a b true false h = first_has_all l m a b true false never (λ _. refl) h
of_two l m a b false true h = second_has_all l m a b false true never never h
of_two l m a b false false h = of_readers l m a b (leb (length a.posts) (length b.posts)) h

-- the seat of a pass that took in another, as it is after the rule was asked
pub made_one : {S : Type 0} {seat other : SeatValue} (a b p q : Pass S SeatView) → seat_of a ≡ seat → seat_of b ≡ other
    → Rests a → Rests b → p.table_id ≡ a.table_id → view p ≡ joined (view a) (view b) → Precedes (view p).lesser (view p).seen
    → q.table_id ≡ p.table_id → view q ≡ view p → Joined seat other (seat_of q)
made_one {S} {seat} {other} a b p q is_seat is_other a_rests b_rests of is learnt kept stays =
    let l = lock_of a.table_id in
    let m = lock_of b.table_id in
    let s = seen_or_none (view a).seen in
    let r = seen_or_none (view b).seen in
    let t = (view a).writer in
    let u = (view b).writer in
    let At : Option Stand → Option Stand → Type 0 =
    λ x y. Precedes (cond t y (cond u x (shorter x y))) (cond t (cond u None x) (cond u y (longer x y)))
    → Joined (seat_value l s t) (seat_value m r u) (seat_value l (seen_or_none (cond t (cond u None x) (cond u y (longer x y)))) (t || u)) in
    let at : At (view a).seen (view b).seen =
    subst (λ (z : Option Stand × Option Stand). At z.0 z.1) (λ i. (sym a_rests.known i, sym b_rests.known i)) (of_two l m s r t u) in
    let both = at (subst (λ (v : SeatView). Precedes v.lesser v.seen) is learnt) in
    let moved : Joined (seat_of a) (seat_of b) (seat_of q) =
    subst (λ (z : TableId × SeatView). Joined (seat_of a) (seat_of b) (seat_value (lock_of z.0) (seen_or_none z.1.seen) z.1.writer))
    (λ i. (sym (kept ∙ of) i, sym (stays ∙ is) i)) both in
    subst (λ (z : SeatValue × SeatValue). Joined z.0 z.1 (seat_of q)) (λ i. (is_seat i, is_other i)) moved
