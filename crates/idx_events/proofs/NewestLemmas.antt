-- The post that a question notes at its first look, and that it keeps.
use Rattle.std.proofs.Common.{◌≡◌, ℕ, zero, suc, Bool, true, false, ◌&&◌, is_some, is_none, nat_lt, length, List, [], ◌∷◌, slice_get, slice_set, Option, Some, None, refl, sym, ap, ◌∙◌, subst}
use Rattle.std.specs.Option.{option_map_or, option_or}
use Rattle.std.proofs.lemmas.Bool.{false≢true}
use Rattle.idx_hall.specs.Posts.{Post, newest}
use Rattle.idx_hall.specs.Hall.{HallValue, after_fill}
use Rattle.idx_hall.proofs.NewestLemmas.{at_before, newest-post}
use Rattle.idx_events.specs.Setting.{Setting}
use Rattle.idx_events.specs.World.{World, Query, Round, Volume}
use Rattle.idx_events.specs.Volumes.{is_of, post_of_sealed}
use Rattle.idx_events.specs.Queries.{NotesNewest, can_look, fill, answered, look, post_noted, read, post_for, round_keys, loaded_pairs}
use Rattle.idx_events.specs.Events.{after_fill_of, after_look_in, effect, enabled, hall_after_publish, on_query, run}
use Rattle.idx_events.specs.declared.event.Event.{Event}
use Rattle.idx_events.specs.declared.event.Event.TheVariants.{Give, Ship, Write, Publish, Abandon, Look, Read, Fill, Evict, Answer}
use Rattle.idx_events.proofs.ListLemmas.{both}
use Rattle.idx_events.proofs.HallLemmas.{filled-board}
use Rattle.std.specs.Prelude.{find}

abbrev post_in : Option Query → Option ℕ
post_in o = option_map_or (λ (x : Query). x.post) o None

-- a changed question keeps its post, and the others are as they were
set-keeps : (n : ℕ) (xs : List Query) (k number : ℕ) (x y : Query) → slice_get xs k ≡ Some x → (x.post ≡ Some n → y.post ≡ Some n) →
    post_in (slice_get xs number) ≡ Some n → post_in (slice_get (slice_set xs k y) number) ≡ Some n
set-keeps n [] k number x y at keeps is = is
set-keeps n (z ∷ xs) zero zero x y at keeps is = keeps (ap (λ (u : Query). u.post) (sym (let e : z ≡ x = (let o : Some z ≡ Some x = at in cc) in e)) ∙ is)
set-keeps n (z ∷ xs) zero (suc m) x y at keeps is = is
set-keeps n (z ∷ xs) (suc k) zero x y at keeps is = is
set-keeps n (z ∷ xs) (suc k) (suc m) x y at keeps is = set-keeps n xs k m x y at keeps is

set-at : (xs : List Query) (k : ℕ) (x y : Query) → slice_get xs k ≡ Some x → slice_get (slice_set xs k y) k ≡ Some y
set-at [] k x y at = absurd (let wrong : None ≡ Some x = at in cc)
set-at (z ∷ xs) zero x y at = refl
set-at (z ∷ xs) (suc k) x y at = set-at xs k x y at

query-keeps : (number n k : ℕ) (h : Query → HallValue) (f : Query → Query) (w : World) → ((x : Query) → x.post ≡ Some n → (f x).post ≡ Some n) →
    post_noted number w ≡ Some n → post_noted number (on_query k h f w) ≡ Some n
query-keeps number n k h f w keeps is = (elim (slice_get w.queries k) as (λ o. slice_get w.queries k ≡ o →
    post_noted number (option_map_or (λ x. record w { hall = h x; queries = slice_set w.queries k (f x) }) o w) ≡ Some n) [
      | None ↦ λ at. is
      | Some x ↦ λ at. set-keeps n w.queries k number x (f x) at (keeps x) is
    ]) refl

module _ (s : Setting) where
  look-keeps : (h : HallValue) (n : ℕ) (x : Query) → x.post ≡ Some n → (look s h x).post ≡ Some n
  look-keeps h n x is = ap (λ o. option_or o (newest h.board x.ask.time)) is

  one-kept : (e : Event) (w : World) (number n : ℕ) → post_noted number w ≡ Some n → post_noted number (effect s w e) ≡ Some n
  one-kept (Give time revision rank piece) w number n is = is
  one-kept (Ship time revision piece file) w number n is = is
  one-kept (Write time revision file) w number n is = is
  one-kept (Publish time revision) w number n is = is
  one-kept (Abandon time revision) w number n is = is
  one-kept (Look query) w number n is =
      query-keeps number n query (λ x. after_look_in (post_for w.hall.board x) (round_keys s x) w.hall) (look s w.hall) w (look-keeps w.hall n) is
  one-kept (Read query block) w number n is = query-keeps number n query (λ x. w.hall) (read w.hall.board block) w (λ x e. e) is
  one-kept (Fill query) w number n is = query-keeps number n query (λ x. after_fill_of x w.hall) fill w (λ x e. e) is
  one-kept (Evict count) w number n is = is
  one-kept (Answer query) w number n is = query-keeps number n query (λ x. w.hall) (answered s) w (λ x e. e) is

  pub all-kept : (es : List Event) (w : World) (query number : ℕ) → post_noted query w ≡ Some number → post_noted query (run s w es) ≡ Some number
  all-kept [] w query number is = is
  all-kept (e ∷ es) w query number is = all-kept es (effect s w e) query number (one-kept e w query number is)

  -- ---- the first look

  noted-at : (k : ℕ) (h : Query → HallValue) (f : Query → Query) (w : World) (x : Query) → slice_get w.queries k ≡ Some x →
      post_noted k (on_query k h f w) ≡ (f x).post
  noted-at k h f w x at =
      ap (λ o. post_noted k (option_map_or (λ y. record w { hall = h y; queries = slice_set w.queries k (f y) }) o w)) at
      ∙ ap post_in (set-at w.queries k x (f x) at)

  some-newest : (o : Option ℕ) → is_some o ≡ true → (n : ℕ) × (o ≡ Some n)
  some-newest None is = absurd (false≢true is)
  some-newest (Some n) is = (n, refl)

  some-in : (answer : Option (List ℕ)) (round : Option Round) (left some : Bool) → (is_none answer && (is_none round && (left && some))) ≡ true → some ≡ true
  some-in answer round left some may =
      let rounds = (both (is_none answer) (is_none round && (left && some)) may).1 in
      (both left some (both (is_none round) (left && some) rounds).1).1

  pub first-look : (w : World) (query : ℕ) (x : Query) → slice_get w.queries query ≡ Some x → x.post ≡ None → enabled s w (Look query) ≡ true →
      NotesNewest w.hall.board x.ask.time (post_noted query (effect s w (Look query)))
  first-look w query x at none can =
      let may : can_look s w.hall.board x ≡ true = sym (ap (λ o. option_map_or (can_look s w.hall.board) o false) at) ∙ can in
      let there = some-newest (newest w.hall.board x.ask.time) (some-in x.answer x.round (nat_lt x.ended (length (s.rounds x.ask))) (is_some (newest w.hall.board x.ask.time)) may) in
      let is = newest-post w.hall.board x.ask.time there.0 there.1 in
      record {
        number = there.0;
        post = is.0;
        is = is.1;
        noted_is = noted-at query (λ y. after_look_in (post_for w.hall.board y) (round_keys s y) w.hall) (look s w.hall) w x at
            ∙ ap (λ o. option_or o (newest w.hall.board x.ask.time)) none ∙ there.1;
      }

  -- ---- posts stay

  abbrev StaysAt : ℕ → Post → HallValue → Type 0
  StaysAt n p h = slice_get h.board n ≡ Some p

  query-board : (n : ℕ) (p : Post) (k : ℕ) (h : Query → HallValue) (f : Query → Query) (w : World) → ((x : Query) → StaysAt n p (h x)) →
      StaysAt n p w.hall → StaysAt n p (on_query k h f w).hall
  query-board n p k h f w stays is = elim (slice_get w.queries k) as (λ o. StaysAt n p (option_map_or (λ x. record w { hall = h x; queries = slice_set w.queries k (f x) }) o w).hall) [
    | None ↦ is
    | Some x ↦ stays x
  ]

  looked-board : (n : ℕ) (p : Post) (o : Option ℕ) (x : Query) (h : HallValue) → StaysAt n p h → StaysAt n p (after_look_in o (round_keys s x) h)
  looked-board n p None x h is = is
  looked-board n p (Some number) x h is = is

  filled-by : (n : ℕ) (p : Post) (x : Query) (h : HallValue) → StaysAt n p h → StaysAt n p (after_fill_of x h)
  filled-by n p x h is = elim x.post as (λ o. StaysAt n p (option_map_or (λ number. after_fill number (loaded_pairs x) h) o h)) [
    | None ↦ is
    | Some number ↦ subst (λ b. slice_get b n ≡ Some p) (sym (filled-board number (loaded_pairs x) h)) is
  ]

  published-board : (n : ℕ) (p : Post) (v : Option Volume) (h : HallValue) → StaysAt n p h → StaysAt n p (hall_after_publish s v h)
  published-board n p None h is = is
  published-board n p (Some v) h is = at_before h.board (post_of_sealed s v ∷ []) n p is

  one-stays : (e : Event) (w : World) (n : ℕ) (p : Post) → StaysAt n p w.hall → StaysAt n p (effect s w e).hall
  one-stays (Give time revision rank piece) w n p is = is
  one-stays (Ship time revision piece file) w n p is = is
  one-stays (Write time revision file) w n p is = is
  one-stays (Publish time revision) w n p is = published-board n p (find (is_of time revision) w.volumes) w.hall is
  one-stays (Abandon time revision) w n p is = is
  one-stays (Look query) w n p is =
      query-board n p query (λ x. after_look_in (post_for w.hall.board x) (round_keys s x) w.hall) (look s w.hall) w (λ x. looked-board n p (post_for w.hall.board x) x w.hall is) is
  one-stays (Read query block) w n p is = query-board n p query (λ x. w.hall) (read w.hall.board block) w (λ x. is) is
  one-stays (Fill query) w n p is = query-board n p query (λ x. after_fill_of x w.hall) fill w (λ x. filled-by n p x w.hall is) is
  one-stays (Evict count) w n p is = is
  one-stays (Answer query) w n p is = query-board n p query (λ x. w.hall) (answered s) w (λ x. is) is

  pub all-stay : (es : List Event) (w : World) (number : ℕ) (post : Post) → slice_get w.hall.board number ≡ Some post → slice_get (run s w es).hall.board number ≡ Some post
  all-stay [] w number post is = is
  all-stay (e ∷ es) w number post is = all-stay es (effect s w e) number post (one-stays e w number post is)
