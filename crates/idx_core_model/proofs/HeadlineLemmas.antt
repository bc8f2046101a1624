-- The headline of every world that events lead to, out of what they keep.
use Rattle.std.proofs.Common.{◌≡◌, ℕ, suc, ◌+◌, ◌<◌, ◌≤◌, true, false, cond, nat_eq, is_none, List, [], ◌∷◌, length, map, filter, slice_get, Option, Some, None, refl, sym, ap, ◌∙◌, arith}
use Rattle.std.specs.List.{AllByRecursion, slice_index_or}
use Rattle.std.specs.Option.{IsSome, is_some, option_map_or}
use Rattle.std.specs.Cmp.Derive.{both_true}
use Rattle.std.proofs.lemmas.Bool.{eq-eqb, false≢true, le-leb, lt-ltb}
use Rattle.idx_hz.specs.Answer.{answer}
use Rattle.idx_layout.specs.Shape.{shape_of}
use Rattle.idx_layout.specs.Step.{volume_of_raw}
use Rattle.idx_hall.specs.Posts.{Post}
use Rattle.idx_plan.proofs.AnswerLemmas.{all_levels}
use Rattle.idx_events.specs.Queries.{post_at}
use Rattle.idx_header.specs.Header.{HasTime, HasTimeAmong, HeaderValue, volume_bytes}
use Rattle.idx_header.specs.declared.steps.Steps.{Steps}
use Rattle.idx_plan.specs.declared.ask.Ask.{Ask}
use Rattle.idx_events.specs.Setting.{post_of_files}
use Rattle.idx_events.specs.World.{World, Volume, Query, is_published}
use Rattle.idx_events.specs.Volumes.{count_of, is_published_of, post_of, sealed_files}
use Rattle.idx_events.specs.Events.{run, all_enabled}
use Rattle.idx_events.specs.Start.{new_volumes, new_world, replayed}
use Rattle.idx_events.specs.WorldOk.{WorldOk, AnswerOk, HeldOk, IsAnswerOf}
use Rattle.idx_events.specs.declared.event.Event.{Event}
use Rattle.idx_events.proofs.ListLemmas.{AnyOf-each, no_Some, Each-both, Each-filter, Each-weaker, map-agree}
use Rattle.idx_events.proofs.StartLemmas.{new-world, replay-keeps}
use Rattle.idx_events.proofs.WorldLemmas.{keeps-all}
use Rattle.idx_core_model.specs.Layers.{answer_of_raw, has_step_among, setting_of}
use Rattle.idx_core_model.specs.Headline.{CanBeAsked, HeadlineHolds, IsAnswerFrom, IsDivided, IsTaken, files_of_volume, post_of_volume, region_samples}
use Rattle.idx_core_model.proofs.SettingLemmas.{files_of_layers, layers_ok, raw_taken}

-- ---- what a world takes

has-step : (o : Option Steps) (time : ℕ) → is_some o ≡ true → HasTimeAmong o time → has_step_among o time ≡ true
has-step None time some has = absurd (false≢true some)
has-step (Some steps) time some has = both_true (le-leb steps.first time has.0) (le-leb time steps.last has.1)

module _ (h : HeaderValue) (e n : ℕ) where
  step-true : (time revision : ℕ) → IsSome h.steps → HasTime h time → revision ≤ 255 → (setting_of h e n).valid_step time revision ≡ true
  unfolding setting_of
  step-true time revision some has few = both_true (has-step h.steps time some has) (le-leb revision 255 few)

  -- one volume more of a timestep is one less behind it
  fewer : (t time : ℕ) (before times : List ℕ) → count_of t before + count_of t (time ∷ times) ≤ 256 → count_of t (time ∷ before) + count_of t times ≤ 256
  fewer t time before times = elim (nat_eq t time) as (λ b. count_of t before + length (cond b (time ∷ filter (nat_eq t) times) (filter (nat_eq t) times)) ≤ 256 →
      length (cond b (time ∷ filter (nat_eq t) before) (filter (nat_eq t) before)) + count_of t times ≤ 256) [
        | true ↦ λ le. omega (arith, le)
        | false ↦ λ le. le
      ]

  room-for : (time : ℕ) (before times : List ℕ) → count_of time before + count_of time (time ∷ times) ≤ 256 → count_of time before ≤ 255
  room-for time before times le =
      let one : count_of time (time ∷ times) ≡ suc (count_of time times) = ap (λ b. length (cond b (time ∷ filter (nat_eq time) times) (filter (nat_eq time) times))) (eq-eqb time time refl) in
      omega (arith, le, one)

  new-steps : (before : List ℕ) (volumes : List (ℕ × List ℕ)) → IsSome h.steps → AllByRecursion (λ v. HasTime h v.0) volumes → ((t : ℕ) → count_of t before + count_of t (map (λ v. v.0) volumes) ≤ 256) →
      AllByRecursion (λ v. (setting_of h e n).valid_step v.time v.revision ≡ true) (new_volumes (setting_of h e n) before volumes)
  new-steps before [] some steps few = tt
  new-steps before (v ∷ more) some steps few = (
    step-true v.0 (count_of v.0 before) some steps.0 (room-for v.0 before (map (λ u. u.0) more) (few v.0)),
    new-steps (v.0 ∷ before) more some steps.1 (λ t. fewer t v.0 before (map (λ u. u.0) more) (few t)),
  )

  raw-true : (raw : List ℕ) → length raw ≡ volume_bytes h → (setting_of h e n).valid_raw raw ≡ true
  unfolding setting_of
  raw-true raw whole = eq-eqb (length raw) (volume_bytes h) whole

  ask-true : (ask : Ask) → CanBeAsked h ask → (setting_of h e n).valid_ask ask ≡ true
  unfolding setting_of
  ask-true ask can = both_true (lt-ltb ask.field (length h.fields) can.field) (both_true (eq-eqb (length ask.region) (length h.box) can.axes) (ap (λ o. is_none o) can.plan))

  pub new-holds : (capacity : ℕ) (volumes : List (ℕ × List ℕ)) (asks : List Ask) → IsDivided h e n → 0 < capacity → IsTaken h volumes asks →
      WorldOk (setting_of h e n) (new_world (setting_of h e n) volumes asks capacity)
  new-holds capacity volumes asks divided some taken = new-world (setting_of h e n) volumes asks capacity some
      (new-steps [] volumes divided.time taken.steps (λ t. (let few = taken.few t in omega (arith, few))))
      (Each-weaker (λ v. length v.1 ≡ volume_bytes h) (λ v. (setting_of h e n).valid_raw v.1 ≡ true) (λ v whole. raw-true v.1 whole) volumes taken.whole)
      (Each-weaker (CanBeAsked h) (λ ask. (setting_of h e n).valid_ask ask ≡ true) ask-true asks taken.asked)

  -- ---- the headline

  raw-is : (raw : List ℕ) → (setting_of h e n).valid_raw raw ≡ true → length raw ≡ volume_bytes h
  unfolding setting_of
  raw-is raw valid = raw_taken h raw valid

  made-post : (v : Volume) → post_of_files (setting_of h e n) v.time v.revision (files_of_volume h v) ≡ post_of_volume h v
  unfolding setting_of
  made-post v = refl

  -- the post of a whole volume
  post-is : (v : Volume) → length v.raw ≡ volume_bytes h → post_of (setting_of h e n) v ≡ post_of_volume h v
  post-is v whole = ap (λ files. post_of_files (setting_of h e n) v.time v.revision files) (files_of_layers h e n v.time v.revision v.raw whole) ∙ made-post v

  shape-is : (setting_of h e n).shape ≡ shape_of h
  unfolding setting_of
  shape-is = refl

  -- the post that a question noted is of its timestep, and so is the volume of this post
  time-is : (board : List Post) (x : Query) (v : Volume) → HeldOk (setting_of h e n) board x → post_at board x ≡ Some (post_of (setting_of h e n) v) → v.time ≡ x.ask.time
  time-is board x v held is = (elim x.post as (λ o. x.post ≡ o → option_map_or (slice_get board) o None ≡ Some (post_of (setting_of h e n) v) → v.time ≡ x.ask.time) [
    | None ↦ λ none found. no_Some (post_of (setting_of h e n) v) found
    | Some number ↦ λ noted found. let from = held.from number noted in
        let same : Some (post_of (setting_of h e n) v) ≡ Some from.post = sym found ∙ from.is.at in
        let posts : post_of (setting_of h e n) v ≡ from.post = (cc) in
        ap (λ (p : Post). p.time) posts ∙ from.is.time
  ]) refl is

  -- all levels are all samples
  whole-is : (raw : List ℕ) (ask : Ask) (bytes : List ℕ) → bytes ≡ answer_of_raw h raw ask → ask.lo ≡ 0 → ask.hi ≡ length h.mask → bytes ≡ region_samples h raw ask.field ask.region
  whole-is raw ask bytes is lo hi =
      is
      ∙ (λ i. answer h.mask h.box (slice_index_or (volume_of_raw h raw) ask.field []) ask.region (lo i) (hi i))
      ∙ all_levels h.mask h.box ask.region (slice_index_or (volume_of_raw h raw) ask.field [])

  answer-is : (raw : List ℕ) (ask : Ask) → (setting_of h e n).answer raw ask ≡ answer_of_raw h raw ask
  unfolding setting_of
  answer-is raw ask = refl

  pub headline : (w : World) → WorldOk (setting_of h e n) w → HeadlineHolds h w
  headline w ok = record {
    files = Each-both (λ v. (setting_of h e n).valid_raw v.raw ≡ true)
        (λ v. is_published v.phase ≡ true → sealed_files v.slots ≡ _)
        (λ v. is_published v.phase ≡ true → sealed_files v.slots ≡ files_of_volume h v)
        (λ v whole files is. files is ∙ files_of_layers h e n v.time v.revision v.raw (raw-is v.raw whole)) w.volumes ok.volumes.whole ok.board.files;
    posts = λ time. ok.board.posts time ∙ map-agree (post_of (setting_of h e n)) (post_of_volume h) (filter (is_published_of time) w.volumes)
        (Each-filter (λ v. post_of (setting_of h e n) v ≡ post_of_volume h v) (is_published_of time) w.volumes
        (Each-weaker (λ v. (setting_of h e n).valid_raw v.raw ≡ true) (λ v. post_of (setting_of h e n) v ≡ post_of_volume h v) (λ v whole. post-is v (raw-is v.raw whole)) w.volumes ok.volumes.whole));
    shape = ok.shape ∙ shape-is;
    cache = ok.hall;
    answers = Each-both (HeldOk (setting_of h e n) w.hall.board) (AnswerOk (setting_of h e n) w.volumes w.hall.board) _
        (λ x held answered bytes made. AnyOf-each (IsAnswerOf (setting_of h e n) w.hall.board x bytes) (λ v. (setting_of h e n).valid_raw v.raw ≡ true) (IsAnswerFrom h w.hall.board x bytes)
        (λ v is whole. record {
          phase = is.phase;
          time = time-is w.hall.board x v held is.post;
          post = is.post ∙ ap Some (post-is v (raw-is v.raw whole));
          answer = is.answer ∙ answer-is v.raw x.ask;
          whole = whole-is v.raw x.ask bytes (is.answer ∙ answer-is v.raw x.ask);
        }) w.volumes (answered bytes made) ok.volumes.whole) w.queries ok.held ok.answers;
  }

  -- after events that may happen
  pub all-hold : (capacity : ℕ) (volumes : List (ℕ × List ℕ)) (asks : List Ask) (es : List Event) → IsDivided h e n → 0 < capacity → IsTaken h volumes asks →
      all_enabled (setting_of h e n) (new_world (setting_of h e n) volumes asks capacity) es ≡ true → HeadlineHolds h (run (setting_of h e n) (new_world (setting_of h e n) volumes asks capacity) es)
  all-hold capacity volumes asks es divided some taken can =
      headline (run (setting_of h e n) (new_world (setting_of h e n) volumes asks capacity) es)
      (keeps-all (setting_of h e n) (layers_ok h e n divided) es (new_world (setting_of h e n) volumes asks capacity) (new-holds capacity volumes asks divided some taken) can)

  -- and after those before the first that may not
  pub refused-hold : (capacity : ℕ) (volumes : List (ℕ × List ℕ)) (asks : List Ask) (es : List Event) → IsDivided h e n → 0 < capacity → IsTaken h volumes asks →
      HeadlineHolds h (replayed (setting_of h e n) (new_world (setting_of h e n) volumes asks capacity) es)
  refused-hold capacity volumes asks es divided some taken =
      headline (replayed (setting_of h e n) (new_world (setting_of h e n) volumes asks capacity) es)
      (replay-keeps (setting_of h e n) (layers_ok h e n divided) es (new_world (setting_of h e n) volumes asks capacity) (new-holds capacity volumes asks divided some taken))
