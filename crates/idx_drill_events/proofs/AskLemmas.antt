-- Questions of one round: each of their events may happen.
use Rattle.std.proofs.Common.{◌≡◌, ℕ, zero, suc, ◌+◌, Bool, true, false, nat_eq, nat_lt, is_some, if◌then◌else◌, List, [], ◌∷◌, ◌++◌, length, map, get_or, slice_get, slice_set, Option, Some, None, refl, sym, ap, ◌∙◌, subst, append_assoc, append-nil, length-append, arith}
use Rattle.std.specs.List.{AllByRecursion}
use Rattle.std.specs.Option.{option_map_or}
use Rattle.std.specs.Cmp.Derive.{both_true}
use Rattle.std.proofs.lemmas.Bool.{eq-eqb}
use Rattle.std.proofs.lemmas.List.{map-append, length-map}
use Rattle.idx_hall.specs.Posts.{Post, is_newest, newest}
use Rattle.idx_cache.specs.Cached.{put_all, raise_all}
use Rattle.idx_hall.specs.Hall.{name_eq, named, named_pairs, HallValue, after_look, after_fill, with_pairs}
use Rattle.idx_plan.specs.declared.ask.Ask.{Ask}
use Rattle.idx_plan.specs.Needed.{key_of}
use Rattle.idx_events.specs.Setting.{Setting}
use Rattle.idx_events.specs.World.{World, Query}
use Rattle.idx_events.specs.Queries.{found_in, hits, misses, ended_after, round_after, can_look, can_read, can_fill, can_answer, look, read, fill, answered, post_for, round_keys}
use Rattle.idx_events.specs.Events.{query_can, on_query, after_look_in, after_fill_of}
use Rattle.idx_events.specs.Start.{new_query}
use Rattle.idx_events.specs.declared.event.Event.{Event}
use Rattle.idx_events.specs.declared.event.Event.TheVariants.{Look, Read, Fill, Answer}
use Rattle.idx_events.proofs.ListLemmas.{no_Some, map-map}
use Rattle.idx_events.proofs.HallLemmas.{filled-shape, filled-board}
use Rattle.idx_drill_events.specs.Lists.{Asking, asked, all_asked, loads}
use Rattle.idx_drill_events.specs.Leads.{Leads}
use Rattle.idx_drill_events.specs.Asked.{found_by, keys_of, block_by, pairs_by, hall_after, hall_after_all, query_after, queries_after, with_asked, with_all_asked, IsAsked, AreAsked}
use Rattle.idx_drill_events.proofs.RunLemmas.{leads-none, leads-first, leads-one, leads-append}

-- ---- places of a list

module _ {X : Type 0} where
  get-set : (xs : List X) (n : ℕ) (x y : X) → slice_get xs n ≡ Some x → slice_get (slice_set xs n y) n ≡ Some y
  get-set [] n x y at = no_Some x at
  get-set (z ∷ xs) zero x y at = refl
  get-set (z ∷ xs) (suc n) x y at = get-set xs n x y at

  set-again : (xs : List X) (n : ℕ) (x y : X) → slice_set (slice_set xs n x) n y ≡ slice_set xs n y
  set-again [] n x y = refl
  set-again (z ∷ xs) zero x y = refl
  set-again (z ∷ xs) (suc n) x y = ap (λ l. z ∷ l) (set-again xs n x y)

  get-behind : (xs ys : List X) (x : X) → slice_get (xs ++ x ∷ ys) (length xs) ≡ Some x
  get-behind [] ys x = refl
  get-behind (z ∷ xs) ys x = get-behind xs ys x

  set-behind : (xs ys : List X) (x y : X) → slice_set (xs ++ x ∷ ys) (length xs) y ≡ xs ++ y ∷ ys
  set-behind [] ys x y = refl
  set-behind (z ∷ xs) ys x y = ap (λ l. z ∷ l) (set-behind xs ys x y)

-- ---- a world and one of its questions

module _ (w : World) (q : ℕ) (before : Query) (at : slice_get w.queries q ≡ Some before) where
  abbrev with_query : HallValue → Query → World
  with_query h x = record w { hall = h; queries = slice_set w.queries q x }

  can-first : (test : Query → Bool) → test before ≡ true → query_can q test w ≡ true
  can-first test can = ap (λ o. option_map_or test o false) at ∙ can

  on-first : (h : Query → HallValue) (f : Query → Query) → on_query q h f w ≡ with_query (h before) (f before)
  on-first h f = ap (λ o. option_map_or (λ x. let u : World = record w { hall = h x; queries = slice_set w.queries q (f x) } in u) o w) at

  can-next : (now : HallValue) (x : Query) (test : Query → Bool) → test x ≡ true → query_can q test (with_query now x) ≡ true
  can-next now x test can = ap (λ o. option_map_or test o false) (get-set w.queries q before x at) ∙ can

  on-next : (now : HallValue) (x : Query) (h : Query → HallValue) (f : Query → Query) → on_query q h f (with_query now x) ≡ with_query (h x) (f x)
  on-next now x h f =
      ap (λ o. option_map_or (λ y. let u : World = record w { hall = h y; queries = slice_set (slice_set w.queries q x) q (f y) } in u) o (with_query now x)) (get-set w.queries q before x at)
      ∙ ap (λ l. let u : World = record w { hall = h x; queries = l } in u) (set-again w.queries q x (f x))

-- nothing is put
pub fill-none : (number : ℕ) (h : HallValue) → after_fill number [] h ≡ h
fill-none number h = elim (is_newest h.board number) as (λ b. (if b then with_pairs h h.cache.pairs else h) ≡ h) [ true ↦ refl | false ↦ refl ]

-- ---- a question

module _ (s : Setting) (w : World) (q : ℕ) (ask : Ask) (post : ℕ) (blocks : List ℕ) (at : slice_get w.queries q ≡ Some (new_query ask)) where
  abbrev asking : List ℕ → Asking
  asking missing = record { ask = ask; post = post; blocks = blocks; missing = missing }

  abbrev found : List (Option (List ℕ))
  found = found_in (Some post) (map (key_of ask) blocks) w.hall

  abbrev looked_in : HallValue
  looked_in = after_look post (map (key_of ask) blocks) w.hall

  -- the question after its look
  abbrev looked : List ℕ → Query
  looked missing = record { ask = ask; post = Some post; ended = ended_after missing 0; round = round_after missing; kept = hits blocks found; answer = None }

  -- by its post and its rounds
  abbrev look_of : Option ℕ → List (List ℕ) → List ℕ → Query
  look_of o rounds missing = record {
    ask = ask;
    post = o;
    ended = ended_after missing 0;
    round = round_after missing;
    kept = hits (get_or rounds 0 []) (found_in o (map (key_of ask) (get_or rounds 0 [])) w.hall);
    answer = None;
  }

  abbrev missing_of : Option ℕ → List (List ℕ) → List ℕ
  missing_of o rounds = misses (get_or rounds 0 []) (found_in o (map (key_of ask) (get_or rounds 0 [])) w.hall)

  abbrev here : HallValue → Query → World
  here h x = with_query w q (new_query ask) at h x

  module _ (missing : List ℕ) (is : IsAsked s w.hall (asking missing)) where
    look-is : look s w.hall (new_query ask) ≡ looked missing
    look-is =
        ap (λ o. look_of o (s.rounds ask) (missing_of o (s.rounds ask))) is.post
        ∙ ap (λ rounds. look_of (Some post) rounds (missing_of (Some post) rounds)) is.rounds
        ∙ ap (λ m. looked m) (sym is.missing)

    look-hall : after_look_in (post_for w.hall.board (new_query ask)) (round_keys s (new_query ask)) w.hall ≡ looked_in
    look-hall =
        ap (λ o. after_look_in o (map (key_of ask) (get_or (s.rounds ask) 0 [])) w.hall) is.post
        ∙ ap (λ rounds. after_look post (map (key_of ask) (get_or rounds 0 [])) w.hall) is.rounds

    may-look : can_look s w.hall.board (new_query ask) ≡ true
    may-look = both_true (ap (λ rounds. nat_lt 0 (length rounds)) is.rounds) (ap (λ o. is_some o) is.post)

    look-leads : (es : List Event) (u : World) → Leads s (here looked_in (looked missing)) es u → Leads s w (Look q ∷ es) u
    look-leads es u more = leads-first s w (here looked_in (looked missing)) u (Look q) es
        (can-first w q (new_query ask) at (can_look s w.hall.board) may-look)
        (on-first w q (new_query ask) at (λ x. after_look_in (post_for w.hall.board x) (round_keys s x) w.hall) (look s w.hall)
        ∙ ap (λ h. here h (look s w.hall (new_query ask))) look-hall ∙ ap (λ x. here looked_in x) look-is)
        more

    -- all blocks are held
    abbrev whole : List (ℕ × List ℕ) → Query
    whole kept = record { ask = ask; post = Some post; ended = 1; round = None; kept = kept; answer = None }

    answer-leads : (h : HallValue) (kept : List (ℕ × List ℕ)) → Leads s (here h (whole kept)) (Answer q ∷ []) (here h (answered s (whole kept)))
    answer-leads h kept = leads-one s (here h (whole kept)) (here h (answered s (whole kept))) (Answer q)
        (can-next w q (new_query ask) at h (whole kept) (can_answer s) (ap (λ rounds. nat_eq 1 (length rounds)) is.rounds))
        (on-next w q (new_query ask) at h (whole kept) (λ x. h) (answered s))

    -- in its round
    abbrev reading : List (ℕ × List ℕ) → Query
    reading loaded = record { ask = ask; post = Some post; ended = 0; round = Some (record { missing = missing; loaded = loaded }); kept = hits blocks found; answer = None }

    abbrev loaded_of : List ℕ → List (ℕ × List ℕ)
    loaded_of rest = map (λ b. (b, block_by (asking missing) w.hall.board b)) rest

    abbrev first : ℕ × List ℕ → ℕ
    first pair = pair.0

    read-leads : (rest : List ℕ) (loaded : List (ℕ × List ℕ)) → missing ≡ map first loaded ++ rest →
        Leads s (here looked_in (reading loaded)) (map (λ b. Read q b) rest) (here looked_in (reading (loaded ++ loaded_of rest)))
    read-leads [] loaded e = leads-none s (here looked_in (reading loaded)) (here looked_in (reading (loaded ++ []))) (ap (λ l. here looked_in (reading l)) (sym (append-nil loaded)))
    read-leads (b ∷ rest) loaded e =
        let pair : ℕ × List ℕ = (b, block_by (asking missing) w.hall.board b) in
        let after : List (ℕ × List ℕ) = loaded ++ pair ∷ [] in
        leads-first s (here looked_in (reading loaded)) (here looked_in (reading after)) (here looked_in (reading (loaded ++ loaded_of (b ∷ rest)))) (Read q b) (map (λ c. Read q c) rest)
        (can-next w q (new_query ask) at looked_in (reading loaded) (can_read b) next)
        (on-next w q (new_query ask) at looked_in (reading loaded) (λ x. looked_in) (read w.hall.board b))
        (subst (λ l. Leads s (here looked_in (reading after)) (map (λ c. Read q c) rest) (here looked_in (reading l))) (append_assoc loaded (pair ∷ []) (loaded_of rest))
        (read-leads rest after (e ∙ sym (ap (λ l. l ++ rest) (map-append first loaded (pair ∷ [])) ∙ append_assoc (map first loaded) (b ∷ []) rest))))
      where
        place : slice_get missing (length loaded) ≡ Some b
        place =
            ap (λ l. slice_get l (length loaded)) e
            ∙ ap (λ n. slice_get (map first loaded ++ b ∷ rest) n) (sym (length-map loaded first))
            ∙ get-behind (map first loaded) rest b

        next : can_read b (reading loaded) ≡ true
        next = ap (λ o. option_map_or (nat_eq b) o false) place ∙ eq-eqb b b refl

    abbrev filled_in : HallValue
    filled_in = after_fill post (pairs_by (asking missing) w.hall.board) looked_in

    -- the world after the fill
    abbrev full : World
    full = here filled_in (whole (hits blocks found ++ loaded_of missing))

    fill-leads : Leads s (here looked_in (reading (loaded_of missing))) (Fill q ∷ []) full
    fill-leads = leads-one s (here looked_in (reading (loaded_of missing))) full (Fill q)
        (can-next w q (new_query ask) at looked_in (reading (loaded_of missing)) can_fill
        (eq-eqb (length (loaded_of missing)) (length missing) (length-map missing (λ b. (b, block_by (asking missing) w.hall.board b)))))
        (on-next w q (new_query ask) at looked_in (reading (loaded_of missing)) (λ x. after_fill_of x looked_in) fill
        ∙ ap (λ pairs. here (after_fill post pairs looked_in) (whole (hits blocks found ++ loaded_of missing)))
        (map-map (λ b. (b, block_by (asking missing) w.hall.board b)) (λ (pair : ℕ × List ℕ). (key_of ask pair.0, pair.1)) missing))

  ask-leads-by : (missing : List ℕ) → IsAsked s w.hall (asking missing) → Leads s w (asked q missing) (with_asked s q (asking missing) w)
  ask-leads-by [] is = look-leads [] is (Answer q ∷ []) (with_asked s q (asking []) w)
      (subst (λ z. Leads s (here looked_in (looked [])) (Answer q ∷ []) z) same (answer-leads [] is looked_in (hits blocks found)))
    where
      same : here looked_in (answered s (whole [] is (hits blocks found))) ≡ with_asked s q (asking []) w
      same =
          ap (λ h. here h (answered s (whole [] is (hits blocks found)))) (sym (fill-none post looked_in))
          ∙ ap (λ kept. here (after_fill post [] looked_in) (answered s (whole [] is kept))) (sym (append-nil (hits blocks found)))
  ask-leads-by (b ∷ more) is = look-leads (b ∷ more) is (loads q (b ∷ more) ++ Answer q ∷ []) (with_asked s q (asking (b ∷ more)) w)
      (leads-append s (here looked_in (looked (b ∷ more))) (full (b ∷ more) is) (with_asked s q (asking (b ∷ more)) w) (loads q (b ∷ more)) (Answer q ∷ [])
      (leads-append s (here looked_in (looked (b ∷ more))) (here looked_in (reading (b ∷ more) is (loaded_of (b ∷ more) is (b ∷ more)))) (full (b ∷ more) is) (map (λ c. Read q c) (b ∷ more)) (Fill q ∷ [])
      (read-leads (b ∷ more) is (b ∷ more) [] refl) (fill-leads (b ∷ more) is))
      (answer-leads (b ∷ more) is (filled_in (b ∷ more) is) (hits blocks found ++ loaded_of (b ∷ more) is (b ∷ more))))

module _ (s : Setting) where
  -- all events of a question may happen, and it is answered
  pub ask-leads : (w : World) (q : ℕ) (x : Asking) → slice_get w.queries q ≡ Some (new_query x.ask) → IsAsked s w.hall x → Leads s w (asked q x.missing) (with_asked s q x w)
  ask-leads w q x at is = ask-leads-by s w q x.ask x.post x.blocks at x.missing is

  -- the queries, once the first of the new ones is answered
  queries-then : (queries done : List Query) (x : Asking) (xs : List Asking) (y : Query) → queries ≡ done ++ map (λ z. new_query z.ask) (x ∷ xs) →
      slice_set queries (length done) y ≡ (done ++ y ∷ []) ++ map (λ z. new_query z.ask) xs
  queries-then queries done x xs y e =
      ap (λ l. slice_set l (length done) y) e
      ∙ set-behind done (map (λ z. new_query z.ask) xs) (new_query x.ask) y
      ∙ sym (append_assoc done (y ∷ []) (map (λ z. new_query z.ask) xs))

  -- all events of questions behind those that are done may happen, and they are answered
  pub all-lead : (xs : List Asking) (done : List Query) (w : World) → w.queries ≡ done ++ map (λ x. new_query x.ask) xs → AreAsked s w.hall xs →
      Leads s w (all_asked (length done) xs) (with_all_asked s done xs w)
  all-lead [] done w e are = leads-none s w (with_all_asked s done [] w) (ap (λ l. let u : World = record w { queries = l } in u) e)
  all-lead (x ∷ xs) done w e are =
      let y : Query = query_after s x w.hall in
      let next : World = with_asked s (length done) x w in
      leads-append s w next (with_all_asked s done (x ∷ xs) w) (asked (length done) x.missing) (all_asked (length done + 1) xs)
      (ask-leads w (length done) x (ap (λ l. slice_get l (length done)) e ∙ get-behind done (map (λ z. new_query z.ask) xs) (new_query x.ask)) are.0)
      (subst (λ n. Leads s next (all_asked n xs) (with_all_asked s done (x ∷ xs) w)) (length-append done (y ∷ []))
      (subst (λ l. Leads s next (all_asked (length (done ++ y ∷ [])) xs) (let u : World = record w { hall = hall_after_all xs (hall_after x w.hall); queries = l } in u))
      (append_assoc done (y ∷ []) (queries_after s xs (hall_after x w.hall)))
      (all-lead xs (done ++ y ∷ []) next (queries-then w.queries done x xs y e) are.1)))

-- ---- what questions leave of a hall

pub after-board : (xs : List Asking) (h : HallValue) → (hall_after_all xs h).board ≡ h.board
after-board [] h = refl
after-board (x ∷ xs) h = after-board xs (hall_after x h) ∙ filled-board x.post (pairs_by x h.board) (after_look x.post (keys_of x) h)

pub after-shape : (xs : List Asking) (h : HallValue) → (hall_after_all xs h).shape ≡ h.shape
after-shape [] h = refl
after-shape (x ∷ xs) h = after-shape xs (hall_after x h) ∙ filled-shape x.post (pairs_by x h.board) (after_look x.post (keys_of x) h)

-- where the post is the newest of its timestep, the missing blocks are put
pub after-newest : (x : Asking) (h : HallValue) → is_newest h.board x.post ≡ true →
    hall_after x h ≡ with_pairs h (put_all name_eq h.cache.cap (named_pairs x.post (pairs_by x h.board)) (raise_all name_eq (named x.post (keys_of x)) h.cache.pairs))
after-newest x h newest =
    let looked : HallValue = after_look x.post (keys_of x) h in
    ap (λ b. if b then with_pairs looked (put_all name_eq looked.cache.cap (named_pairs x.post (pairs_by x h.board)) looked.cache.pairs) else looked) newest

-- each has an answer
pub each-answered : (s : Setting) (xs : List Asking) (h : HallValue) → AllByRecursion (λ x. is_some x.answer ≡ true) (queries_after s xs h)
each-answered s [] h = tt
each-answered s (x ∷ xs) h = (refl, each-answered s xs (hall_after x h))

-- ---- questions of which each finds the hall in a state, and leaves it in the next

module _ (s : Setting) (board : List Post) (CacheAt : ℕ → HallValue → Type 0) where
  pub record IsStep (n : ℕ) (x : Asking) : Type 0 where
    pub post : newest board x.ask.time ≡ Some x.post
    pub rounds : s.rounds x.ask ≡ x.blocks ∷ []
    pub missing : (h : HallValue) → h.board ≡ board → CacheAt n h → x.missing ≡ misses x.blocks (found_by x h)
    pub next : (h : HallValue) → h.board ≡ board → CacheAt n h → CacheAt (n + 1) (hall_after x h)

  -- by their places
  abbrev pub AreSteps : ℕ → List Asking → Type 0
  AreSteps n [] = Unit {0}
  AreSteps n (x ∷ xs) = IsStep n x × AreSteps (n + 1) xs

  pub steps-at : (xs : List Asking) (n : ℕ) → ((k : ℕ) (x : Asking) → slice_get xs k ≡ Some x → IsStep (n + k) x) → AreSteps n xs
  steps-at [] n each = tt
  steps-at (x ∷ xs) n each = (
    subst (λ m. IsStep m x) (omega arith) (each 0 x refl),
    steps-at xs (n + 1) (λ k y at. subst (λ m. IsStep m y) (omega arith) (each (suc k) y at)),
  )

  pub steps-asked : (xs : List Asking) (n : ℕ) (h : HallValue) → AreSteps n xs → h.board ≡ board → CacheAt n h → AreAsked s h xs
  steps-asked [] n h steps same cache = tt
  steps-asked (x ∷ xs) n h steps same cache = (
    record { post = ap (λ b. newest b x.ask.time) same ∙ steps.0.post; rounds = steps.0.rounds; missing = steps.0.missing h same cache },
    steps-asked xs (n + 1) (hall_after x h) steps.1 (after-board (x ∷ []) h ∙ same) (steps.0.next h same cache),
  )

  pub steps-cache : (xs : List Asking) (n : ℕ) (h : HallValue) → AreSteps n xs → h.board ≡ board → CacheAt n h → CacheAt (n + length xs) (hall_after_all xs h)
  steps-cache [] n h steps same cache = subst (λ m. CacheAt m h) (omega arith) cache
  steps-cache (x ∷ xs) n h steps same cache =
      subst (λ m. CacheAt m (hall_after_all xs (hall_after x h))) (omega arith)
      (steps-cache xs (n + 1) (hall_after x h) steps.1 (after-board (x ∷ []) h ∙ same) (steps.0.next h same cache))

  -- all of their events may happen, and they are answered
  pub steps-lead : (xs : List Asking) (n : ℕ) (done : List Query) (w : World) → w.queries ≡ done ++ map (λ x. new_query x.ask) xs → AreSteps n xs → w.hall.board ≡ board → CacheAt n w.hall →
      Leads s w (all_asked (length done) xs) (with_all_asked s done xs w)
  steps-lead xs n done w e steps same cache = all-lead s xs done w e (steps-asked xs n w.hall steps same cache)
