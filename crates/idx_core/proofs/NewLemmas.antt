-- What is taken into a new world, one more at a time, and what then holds of it.
use Rattle.std.proofs.Common.{◌≡◌, ℕ, zero, suc, ◌+◌, ◌<◌, ◌≤◌, add-one, zero-add, arith, length, slice_get, get_or, take, eqb-true, Bool, true, false, cond, nat_eq, List, [], ◌∷◌, ◌++◌, All, map, filter, Some, refl, sym, ap, ◌∙◌, subst, below_more, Result, Ok, Err}
use Rattle.std.specs.Prelude.{IsErrAnd}
use Rattle.std.specs.List.{AllByRecursion}
use Rattle.std.proofs.lemmas.List.{map-append, take-map, take_all, take_more, get_or-map, length-map}
use Rattle.std.proofs.lemmas.List.Filters.{length-filter_more}
use Rattle.std.proofs.lemmas.Option.{get_or_from_slice_get, same_Some, slice_get-get_or}
use Rattle.idx_header.specs.Header.{HasTime, HeaderValue, volume_bytes}
use Rattle.idx_plan.specs.declared.ask.Ask.{Ask}
use Rattle.idx_cache.specs.Cached.{cached}
use Rattle.idx_hall.specs.Hall.{HallValue, hall}
use Rattle.idx_layout.specs.Shape.{shape_of}
use Rattle.idx_events.specs.Setting.{Setting}
use Rattle.idx_events.specs.World.{Query}
use Rattle.idx_events.specs.WorldOk.{WorldOk}
use Rattle.idx_events.specs.Start.{new_query, new_volume, new_volumes, new_world}
use Rattle.idx_events.specs.Volumes.{count_of}
use Rattle.idx_core_model.specs.Headline.{CanBeAsked, IsDivided, IsTaken}
use Rattle.idx_core_model.specs.Layers.{setting_of}
use Rattle.idx_core_model.proofs.HeadlineLemmas.{new-holds}
use Rattle.idx_core_layers.specs.Division.{DivisionValue, layers_of}
use Rattle.idx_core_asks.specs.Asked.{AskedValue, IsPlanned}
use Rattle.idx_core_steps.specs.Steps.{AreSlots, StepValue, volume_of}
use Rattle.idx_core.specs.World.{CoreValue, IsCore, world_of}
use Rattle.idx_core.specs.NewWorld.{AreAsks, AreRight, IsAskAt, IsAskRefusal, IsFirstWithout, IsNewWorld, IsRightVolume, divided_by, times_of}
use Rattle.idx_core.specs.declared.world_refusal.WorldRefusal.{WorldRefusal}
use Rattle.idx_core.specs.declared.world_refusal.WorldRefusal.TheVariants.{WrongVolume, WrongAsk, NoMemory}

-- what holds of the element at each place holds of each
pub each-from : {X : Type 0} (P : X → Type 0) (xs : List X) → ((i : ℕ) → i < length xs → (x : X) → slice_get xs i ≡ Some x → P x) → AllByRecursion P xs
each-from P [] f = tt
each-from P (x ∷ xs) f = (f zero (omega arith) x refl, each-from P xs (λ i l. f (suc i) (omega arith)))

-- ---- volumes

-- how many of a timestep are in one volume more
count-more : (t : ℕ) (volumes : List (ℕ × List ℕ)) (i : ℕ) → i < length volumes →
    count_of t (times_of (take (i + 1) volumes)) ≡ count_of t (times_of (take i volumes)) + cond (nat_eq t (get_or volumes i (0, [])).0) 1 0
count-more t volumes i l =
    let within : i < length (times_of volumes) = subst (λ n. i < n) (sym (length-map volumes (λ v. v.0))) l in
    ap (count_of t) (sym (take-map (λ v. v.0) (i + 1) volumes)) ∙ length-filter_more (nat_eq t) (times_of volumes) i 0 within
    ∙ ap (λ ts. count_of t ts + cond (nat_eq t (get_or (times_of volumes) i 0)) 1 0) (take-map (λ v. v.0) i volumes)
    ∙ ap (λ u. count_of t (times_of (take i volumes)) + cond (nat_eq t u) 1 0) (get_or-map (λ v. v.0) volumes i (0, []) 0 l)

-- how many volumes are of a timestep
pub count-times : (t : ℕ) (volumes : List (ℕ × List ℕ)) → length (filter (λ (v : ℕ × List ℕ). nat_eq t v.0) volumes) ≡ count_of t (times_of volumes)
count-times t [] = refl
count-times t (v ∷ volumes) = by (nat_eq t v.0) (count-times t volumes)
  where
    by : (b : Bool) → length (filter (λ (v : ℕ × List ℕ). nat_eq t v.0) volumes) ≡ count_of t (times_of volumes) →
        length (cond b (v ∷ filter (λ (v : ℕ × List ℕ). nat_eq t v.0) volumes) (filter (λ (v : ℕ × List ℕ). nat_eq t v.0) volumes)) ≡ length (cond b (v.0 ∷ filter (nat_eq t) (times_of volumes)) (filter (nat_eq t) (times_of volumes)))
    by true h = ap suc h
    by false h = h

module _ (h : HeaderValue) (volumes : List (ℕ × List ℕ)) where
  right-at : AreRight h volumes → (i : ℕ) → i < length volumes → IsRightVolume h (times_of (take i volumes)) (get_or volumes i (0, []))
  right-at right i l = right i l (get_or volumes i (0, [])) (slice_get-get_or volumes i (0, []) l)

  few-so-far : AreRight h volumes → (t i : ℕ) → i ≤ length volumes → count_of t (times_of (take i volumes)) ≤ 256
  few-so-far right t zero l = omega arith
  few-so-far right t (suc i) l =
      let one = right-at right i (omega arith) in
      subst (λ n. count_of t (times_of (take n volumes)) ≤ 256) (add-one i)
      (subst (λ n. n ≤ 256) (sym (count-more t volumes i (omega arith)))
      (by (nat_eq t (get_or volumes i (0, [])).0) refl (few-so-far right t i (omega arith)) one.few))
    where
      by : (b : Bool) → nat_eq t (get_or volumes i (0, [])).0 ≡ b → count_of t (times_of (take i volumes)) ≤ 256 → count_of (get_or volumes i (0, [])).0 (times_of (take i volumes)) ≤ 255 →
          count_of t (times_of (take i volumes)) + cond b 1 0 ≤ 256
      by true is before few =
          let same : count_of t (times_of (take i volumes)) ≤ 255 = subst (λ u. count_of u (times_of (take i volumes)) ≤ 255) (sym (eqb-true t (get_or volumes i (0, [])).0 is)) few in
          omega (arith, same)
      by false is before few = omega (arith, before)

  -- right volumes, and questions that can be asked, are what a world takes
  pub all-taken : (asks : List Ask) → AreRight h volumes → AreAsks h asks → IsTaken h volumes asks
  all-taken asks right can = record {
    steps = each-from (λ v. HasTime h v.0) volumes (λ i l v at. (right i l v at).step);
    few = λ time. subst (λ vs. count_of time (times_of vs) ≤ 256) (take_all (length volumes) volumes (omega arith)) (few-so-far right time (length volumes) (omega arith));
    whole = each-from (λ v. length v.1 ≡ volume_bytes h) volumes (λ i l v at. (right i l v at).whole);
    asked = each-from (CanBeAsked h) asks can;
  }

-- one volume more is one revision more
new-snoc : (s : Setting) (before : List ℕ) (xs : List (ℕ × List ℕ)) (y : ℕ × List ℕ) →
    new_volumes s before (xs ++ y ∷ []) ≡ new_volumes s before xs ++ new_volume s y.0 (count_of y.0 (times_of xs) + count_of y.0 before) y.1 ∷ []
new-snoc s before [] y = ap (λ n. new_volume s y.0 n y.1 ∷ []) (sym (zero-add (count_of y.0 before)))
new-snoc s before (x ∷ xs) y =
    ap (λ vs. new_volume s x.0 (count_of x.0 before) x.1 ∷ vs) (new-snoc s (x.0 ∷ before) xs y ∙ ap (λ n. new_volumes s (x.0 ∷ before) xs ++ new_volume s y.0 n y.1 ∷ []) (by (nat_eq y.0 x.0)))
  where
    by : (b : Bool) → count_of y.0 (times_of xs) + length (cond b (x.0 ∷ filter (nat_eq y.0) before) (filter (nat_eq y.0) before))
        ≡ length (cond b (x.0 ∷ filter (nat_eq y.0) (times_of xs)) (filter (nat_eq y.0) (times_of xs))) + count_of y.0 before
    by true = omega arith
    by false = refl

volumes-more : (s : Setting) (volumes : List (ℕ × List ℕ)) (i : ℕ) (v : ℕ × List ℕ) → i < length volumes → v ≡ get_or volumes i v →
    new_volumes s [] (take (i + 1) volumes) ≡ new_volumes s [] (take i volumes) ++ new_volume s v.0 (count_of v.0 (times_of (take i volumes))) v.1 ∷ []
volumes-more s volumes i v l at =
    ap (new_volumes s []) (take_more volumes i v l ∙ ap (λ w. take i volumes ++ w ∷ []) (sym at)) ∙ new-snoc s [] (take i volumes) v
    ∙ ap (λ n. new_volumes s [] (take i volumes) ++ new_volume s v.0 n v.1 ∷ []) (omega arith)

-- an element does not depend on what would stand for a lacking one
same-element : {X : Type 0} (xs : List X) (i : ℕ) (a b : X) → i < length xs → get_or xs i a ≡ get_or xs i b
same-element xs i a b l = same_Some (get_or xs i a) (get_or xs i b) (sym (slice_get-get_or xs i a l) ∙ slice_get-get_or xs i b l)

-- a revision for the next volume, behind those of the volumes so far
pub step-more : (s : Setting) (volumes : List (ℕ × List ℕ)) (i : ℕ) (a b : ℕ × List ℕ) (steps new : List StepValue) (step : StepValue) (number : ℕ) (raw : List ℕ) → i < length volumes →
    number ≡ count_of (get_or volumes i a).0 (times_of (take i volumes)) → raw ≡ (get_or volumes i b).1 → volume_of step ≡ new_volume s (get_or volumes i a).0 number raw → new ≡ steps ++ step ∷ [] →
    map volume_of steps ≡ new_volumes s [] (take i volumes) → map volume_of new ≡ new_volumes s [] (take (i + 1) volumes)
step-more s volumes i a b steps new step number raw l numbered copied made pushed before =
    ap (map volume_of) pushed ∙ map-append volume_of steps (step ∷ []) ∙ ap (λ vs. vs ++ volume_of step ∷ []) before
    ∙ ap (λ v. new_volumes s [] (take i volumes) ++ v ∷ [])
    (made ∙ ap (λ n. new_volume s (get_or volumes i a).0 n raw) numbered
    ∙ ap (λ r. new_volume s (get_or volumes i a).0 (count_of (get_or volumes i a).0 (times_of (take i volumes))) r) (copied ∙ ap (λ v. v.1) (same-element volumes i b a l)))
    ∙ sym (volumes-more s volumes i (get_or volumes i a) l (same-element volumes i a (get_or volumes i a) l))

-- ---- questions

module _ (h : HeaderValue) (asks : List Ask) (i : ℕ) (a : Ask) (l : i < length asks) (before : (k : ℕ) → k < i → IsAskAt h asks k) where
  -- the first question that cannot be asked
  pub first-lacking : ¬ (CanBeAsked h (get_or asks i a)) → IsFirstWithout (IsAskAt h asks) (length asks) i
  first-lacking lacks = record { there = l; before = before; lacks = λ can. lacks (can (get_or asks i a) (slice_get-get_or asks i a l)) }

  -- one question more that can be asked
  pub can-more : (d : DivisionValue) → d.header ≡ h → (x : AskedValue) → x.query ≡ new_query (get_or asks i a) → IsPlanned d x → (k : ℕ) → k < i + 1 → IsAskAt h asks k
  can-more d of x asked planned = below_more (IsAskAt h asks) i before
      (λ ask at. subst (λ g. CanBeAsked g ask) of (subst (CanBeAsked d.header) (ap (λ (q : Query). q.ask) asked ∙ get_or_from_slice_get asks i ask a at) planned.can))

pub queries-more : (asks : List Ask) (i : ℕ) (a : Ask) (old new : List AskedValue) (x : AskedValue) → i < length asks → new ≡ old ++ x ∷ [] → x.query ≡ new_query (get_or asks i a) →
    map (λ (y : AskedValue). y.query) old ≡ map new_query (take i asks) → map (λ (y : AskedValue). y.query) new ≡ map new_query (take (i + 1) asks)
queries-more asks i a old new x l pushed asked before =
    ap (map (λ (y : AskedValue). y.query)) pushed ∙ map-append (λ (y : AskedValue). y.query) old (x ∷ []) ∙ ap (λ qs. qs ++ x.query ∷ []) before
    ∙ ap (λ q. map new_query (take i asks) ++ q ∷ []) asked
    ∙ sym (ap (map new_query) (take_more asks i a l) ∙ map-append new_query (take i asks) (get_or asks i a ∷ []))

-- ---- the world

module _ (h : HeaderValue) (ranks capacity : ℕ) (volumes : List (ℕ × List ℕ)) (asks : List Ask) (d : DivisionValue) (steps : List StepValue) (l : HallValue) (asked : List AskedValue) where
  -- what a world is made of
  pub record IsMade : Type 0 where
    pub layers : d ≡ divided_by h ranks
    pub divided : IsDivided d.header d.digits d.ranks
    pub right : AreRight h volumes
    pub volumes_are : map volume_of steps ≡ new_volumes (layers_of d) [] volumes
    pub slots : All (AreSlots d) steps
    pub can : AreAsks d.header asks
    pub queries : map (λ (x : AskedValue). x.query) asked ≡ map new_query asks
    pub planned : All (IsPlanned d) asked
    pub hall_is : l ≡ hall (shape_of d.header) [] (cached [] capacity)

  pub made-taken : IsMade → IsTaken h volumes asks
  made-taken m = all-taken h volumes asks m.right (subst (λ (e : DivisionValue). AreAsks e.header asks) m.layers m.can)

  empty-hall : l ≡ hall (shape_of d.header) [] (cached [] capacity) → l ≡ hall (layers_of d).shape [] (cached [] capacity)
  unfolding setting_of
  empty-hall is = is

  made-world : IsMade → world_of steps l asked ≡ new_world (layers_of d) volumes asks capacity
  made-world m =
      ap (λ vs. record { volumes = vs; hall = l; queries = map (λ (x : AskedValue). x.query) asked }) m.volumes_are
      ∙ ap (λ k. record { volumes = new_volumes (layers_of d) [] volumes; hall = k; queries = map (λ (x : AskedValue). x.query) asked }) (empty-hall m.hall_is)
      ∙ ap (λ qs. record { volumes = new_volumes (layers_of d) [] volumes; hall = hall (layers_of d).shape [] (cached [] capacity); queries = qs }) m.queries

  pub made-new : IsMade → world_of steps l asked ≡ new_world (layers_of (divided_by h ranks)) volumes asks capacity
  made-new m = subst (λ (e : DivisionValue). world_of steps l asked ≡ new_world (layers_of e) volumes asks capacity) m.layers (made-world m)

  -- what holds of every world holds of it
  pub made-core : 1 ≤ capacity → IsMade → IsCore d steps l asked
  made-core some m = record {
    divided = m.divided;
    world = subst (WorldOk (layers_of d)) (sym (made-world m))
        (new-holds d.header d.digits d.ranks capacity volumes asks m.divided some (subst (λ (e : DivisionValue). IsTaken e.header volumes asks) (sym m.layers) (made-taken m)));
    slots = m.slots;
    planned = m.planned;
  }

-- ---- why no world is made

module _ (h : HeaderValue) (ranks capacity : ℕ) (volumes : List (ℕ × List ℕ)) (asks : List Ask) (right : AreRight h volumes) where
  refusal-new : (refusal : WorldRefusal) → IsAskRefusal h asks refusal → IsNewWorld h ranks volumes asks capacity (Err refusal)
  refusal-new (WrongVolume at) is = absurd is
  refusal-new (WrongAsk at) is = (right, is)
  refusal-new NoMemory is = right

  -- memory was short
  pub starved-new : (result : Result CoreValue WorldRefusal) → IsErrAnd result (λ refusal. refusal ≡ NoMemory) → IsNewWorld h ranks volumes asks capacity result
  starved-new (Ok made) gives = absurd gives
  starved-new (Err refusal) gives = subst (λ r. IsNewWorld h ranks volumes asks capacity (Err r)) (sym gives) right

  -- a question was refused, or memory was short
  pub refused-new : (result : Result CoreValue WorldRefusal) (refusal : WorldRefusal) → IsErrAnd result (λ r. r ≡ refusal) → IsAskRefusal h asks refusal →
      IsNewWorld h ranks volumes asks capacity result
  refused-new (Ok made) refusal gives is = absurd gives
  refused-new (Err r) refusal gives is = subst (λ r. IsNewWorld h ranks volumes asks capacity (Err r)) (sym gives) (refusal-new refusal is)
