-- The world of a drill is made and its events are done in it: what is refused cannot be, and what is answered is right.
use Rattle.std.proofs.Common.{◌≡◌, ℕ, zero, suc, ◌+◌, ◌<◌, ◌≤◌, Bool, true, false, get_or, take, List, [], ◌∷◌, ◌++◌, length, map, Some, None, slice_get, refl, sym, ap, ◌∙◌, subst, arith}
use Rattle.std.specs.Prelude.{◌↔◌, Err, IsTrue, Ok, Option, sum}
use Rattle.std.specs.Option.{option_map_or}
use Rattle.std.proofs.lemmas.Bool.{false≢true}
use Rattle.std.proofs.lemmas.List.FromFn.{get_or-map-range_with_len, length-map-range_with_len}
use Rattle.idx_header.specs.Header.{HasTime, HeaderValue, volume_bytes}
use Rattle.idx_plan.specs.declared.ask.Ask.{Ask}
use Rattle.idx_events.specs.Events.{all_enabled, enabled, run}
use Rattle.idx_events.specs.Setting.{Setting}
use Rattle.idx_events.specs.Start.{new_world}
use Rattle.idx_events.specs.World.{Query, World}
use Rattle.idx_events.specs.declared.event.Event.{Event}
use Rattle.idx_events.specs.declared.event.Event.TheVariants.{Publish}
use Rattle.idx_events.proofs.ListLemmas.{Each-at}
use Rattle.idx_core_model.specs.Headline.{CanBeAsked, IsTaken}
use Rattle.idx_core_layers.specs.Division.{layers_of}
use Rattle.idx_core_layers.specs.declared.step_refusal.StepRefusal.TheVariants.{NotEnabled}
use Rattle.idx_core.specs.NewWorld.{IsAskAt, IsFirstWithout, IsNewWorld, IsRightAt, divided_by}
use Rattle.idx_core.specs.World.{CoreValue, IsReplay}
use Rattle.idx_drill_model.specs.Drill.{drill_asks, drill_box, drill_depth, drill_header, drill_volume}
use Rattle.idx_drill_model.proofs.RoundLemmas.{sum-all}
use Rattle.idx_drill_model.proofs.TakenLemmas.{drill-taken}
use Rattle.idx_drill.specs.Drilled.{DrillValue, drill_answer, drill_division, drill_events, drill_files, drill_layers, drill_level, drill_levels, drill_ranks, drill_value, drill_world, drilled_world}
use Rattle.idx_drill.specs.Runs.{AreAnswered, HasAnswers, reads_below}
use Rattle.idx_drill.proofs.ReplayLemmas.{may-at, replayed}

-- ---- the world is made

abbrev pub drill_volumes : ℕ → List (ℕ × List ℕ)
drill_volumes n = (0, drill_volume n) ∷ []

-- a list to which the volume is pushed
pub volumes_are : (n : ℕ) (volumes more : List (ℕ × List ℕ)) (volume : List ℕ) → volumes ≡ [] → more ≡ volumes ++ (0, volume) ∷ [] → volume ≡ drill_volume n → more ≡ drill_volumes n
volumes_are n volumes more volume none pushed same =
    pushed ∙ ap (λ (l : List (ℕ × List ℕ)). l ++ (0, volume) ∷ []) none ∙ ap (λ (v : List ℕ). (0, v) ∷ []) same

pub same_start : (n : ℕ) (h : HeaderValue) (volumes : List (ℕ × List ℕ)) (asks : List Ask) (made : CoreValue) → h ≡ drill_header n →
    volumes ≡ drill_volumes n → asks ≡ drill_asks n → IsNewWorld h 4 volumes asks 64 (Ok made) →
    (made.layers ≡ drill_division n) × (made.world ≡ drill_world n)
same_start n h volumes asks made same_header same_volumes same_asks is = (
  is.1 ∙ ap (λ x. divided_by x 4) same_header,
  is.2
      ∙ ap (λ x. new_world (layers_of (divided_by x 4)) volumes asks 64) same_header
      ∙ ap (λ x. new_world (drill_layers n) x asks 64) same_volumes
      ∙ ap (λ x. new_world (drill_layers n) (drill_volumes n) x 64) same_asks,
)

right-at : (n at : ℕ) → n ≤ 8 → at < 1 → IsRightAt (drill_header n) (drill_volumes n) at
right-at n (suc at) few there v got = absurd (omega arith)
right-at n zero few there v got = record {
  whole = Each-at (λ (x : ℕ × List ℕ). length x.1 ≡ volume_bytes (drill_header n)) (drill_volumes n) 0 v taken.whole got;
  step = Each-at (λ (x : ℕ × List ℕ). HasTime (drill_header n) x.0) (drill_volumes n) 0 v taken.steps got;
  few = omega arith;
}
  where
    taken : IsTaken (drill_header n) (drill_volumes n) (drill_asks n)
    taken = drill-taken n few

-- no volume and no question is wrong
pub no_wrong_volume : (n at : ℕ) (h : HeaderValue) (volumes : List (ℕ × List ℕ)) → n ≤ 8 → h ≡ drill_header n → volumes ≡ drill_volumes n →
    IsFirstWithout (IsRightAt h volumes) (length volumes) at → ⊥
no_wrong_volume n at h volumes few same_header same_volumes wrong =
    wrong.lacks (subst (λ x. IsRightAt x volumes at) (sym same_header)
    (subst (λ x. IsRightAt (drill_header n) x at) (sym same_volumes) (right-at n at few (subst (λ (x : List (ℕ × List ℕ)). at < length x) same_volumes wrong.there))))

pub no_wrong_ask : (n at : ℕ) (h : HeaderValue) (asks : List Ask) → n ≤ 8 → h ≡ drill_header n → asks ≡ drill_asks n →
    IsFirstWithout (IsAskAt h asks) (length asks) at → ⊥
no_wrong_ask n at h asks few same_header same_asks wrong =
    wrong.lacks (subst (λ x. IsAskAt x asks at) (sym same_header)
    (subst (λ x. IsAskAt (drill_header n) x at) (sym same_asks) (λ ask got. Each-at (CanBeAsked (drill_header n)) (drill_asks n) at ask (drill-taken n few).asked got)))

-- ---- its events are done

-- none of them may not happen
pub never_refused : (n place : ℕ) (s : Setting) (w new : World) (es : List Event) → 1 ≤ n → n ≤ 8 → s ≡ drill_layers n → w ≡ drill_world n → es ≡ drill_events n →
    IsReplay s w es (Err (place, NotEnabled)) new → ⊥
never_refused n place s w new es some few same_layers same_world same_events is =
    let step : (enabled s new (get_or es place (Publish 0 0)) ≡ false) × (new ≡ new) = is.3 (Publish 0 0) in
    let all : all_enabled s w es ≡ true =
    (λ i. all_enabled (same_layers i) (same_world i) (same_events i)) ∙ (replayed n some few).may in
    let may : enabled s (run s w (take place es)) (get_or es place (Publish 0 0)) ≡ true = may-at s es w place (Publish 0 0) all is.0 in
    let wrong : false ≡ true = sym step.0 ∙ ap (λ u. enabled s u (get_or es place (Publish 0 0))) is.2 ∙ may in
    cc

-- after all of them the questions have the answers of the volume
pub done_right : (n : ℕ) (s : Setting) (w new : World) (es : List Event) → 1 ≤ n → n ≤ 8 → s ≡ drill_layers n → w ≡ drill_world n → es ≡ drill_events n →
    IsReplay s w es (Ok tt) new → map (λ (x : Query). x.answer) new.queries ≡ map (λ level. Some (drill_answer n level)) (drill_levels n)
done_right n s w new es some few same_layers same_world same_events is =
    ap (λ (u : World). map (λ (x : Query). x.answer) u.queries) is.1
    ∙ (λ i. map (λ (x : Query). x.answer) (run (same_layers i) (same_world i) (same_events i)).queries)
    ∙ (replayed n some few).answers

-- and the world is that of the drill
pub world_is : (n : ℕ) (made new : CoreValue) (es : List Event) → made.layers ≡ drill_division n → made.world ≡ drill_world n → es ≡ drill_events n → new.layers ≡ made.layers →
    IsReplay (layers_of made.layers) made.world es (Ok tt) new.world → new ≡ drilled_world n
world_is n made new es layers world events kept is =
    let after : new.world ≡ run (drill_layers n) (drill_world n) (drill_events n) = is.1 ∙ (λ i. run (layers_of (layers i)) (world i) (events i)) in
    let dataset : new.layers ≡ drill_division n = kept ∙ layers in
    (λ i. record { layers = dataset i; world = after i })

-- ---- answers one by one

each_has : (queries : List Query) (answers : List (List ℕ)) → map (λ (x : Query). x.answer) queries ≡ map (λ a. Some a) answers → HasAnswers queries answers
each_has queries [] same k less = absurd (omega arith)
each_has [] (a ∷ answers) same k less =
    let wrong : ◌≡◌ {A = List (Option (List ℕ))} [] (Some a ∷ map (λ a. Some a) answers) = same in absurd (cc)
each_has (x ∷ queries) (a ∷ answers) same zero less = let e : x.answer ∷ map (λ (x : Query). x.answer) queries ≡ Some a ∷ map (λ a. Some a) answers = same in cc
each_has (x ∷ queries) (a ∷ answers) same (suc k) less =
    let e : x.answer ∷ map (λ (x : Query). x.answer) queries ≡ Some a ∷ map (λ a. Some a) answers = same in
    each_has queries answers (cc) k (omega (arith, less))

some_answers : (n : ℕ) (levels : List ℕ) → map (λ level. Some (drill_answer n level)) levels ≡ map (λ a. Some a) (map (drill_answer n) levels)
some_answers n [] = refl
some_answers n (level ∷ levels) = ap (λ l. Some (drill_answer n level) ∷ l) (some_answers n levels)

-- questions with the answers of the drill have those that a run gave
pub has_all : (n : ℕ) (queries : List Query) (answers : List (List ℕ)) → map (λ (x : Query). x.answer) queries ≡ map (λ level. Some (drill_answer n level)) (drill_levels n) →
    answers ≡ map (drill_answer n) (drill_levels n) → HasAnswers queries answers
has_all n queries answers given same =
    each_has queries answers (given ∙ some_answers n (drill_levels n) ∙ ap (λ l. map (λ a. Some a) l) (sym same))

-- the answer of a level
pub answered_at : (n level : ℕ) (queries : List Query) → AreAnswered n queries → level ≤ drill_depth n →
    option_map_or (λ (x : Query). x.answer) (slice_get queries level) None ≡ Some (drill_answer n level)
answered_at n level queries given within =
    let less : level < drill_depth n + 1 = omega (arith, within) in
    let many : length (map (drill_answer n) (drill_levels n)) ≡ drill_depth n + 1 = length-map-range_with_len (drill_answer n) 0 (drill_depth n + 1) in
    has_all n queries (map (drill_answer n) (drill_levels n)) given refl level (omega (arith, less, many))
    ∙ ap Some (get_or-map-range_with_len (drill_answer n) 0 (drill_depth n + 1) level level [] less (omega arith))

-- a question that has the answer of a level answers it
pub answer_is : (n level : ℕ) (given : Option (List ℕ)) (samples : List ℕ) (queries : List Query) → AreAnswered n queries → level ≤ drill_depth n →
    given ≡ option_map_or (λ (x : Query). x.answer) (slice_get queries level) None → given ≡ Some samples → samples ≡ drill_answer n level
answer_is n level given samples queries all within told is =
    let same : Some samples ≡ Some (drill_answer n level) = sym is ∙ told ∙ answered_at n level queries all within in
    cc

-- they are found to have them
pub never_others : (n : ℕ) (queries : List Query) (answers : List (List ℕ)) (same : Bool) → (IsTrue same ↔ HasAnswers queries answers) → same ≡ false →
    map (λ (x : Query). x.answer) queries ≡ map (λ level. Some (drill_answer n level)) (drill_levels n) → answers ≡ map (drill_answer n) (drill_levels n) → ⊥
never_others n queries answers same tells others given run = absurd (false≢true (sym others ∙ tells.1 (has_all n queries answers given run)))

-- what a drill says, part by part
pub value_is : (n : ℕ) (d : DrillValue) → d.box ≡ drill_box n → d.levels ≡ map (drill_level n) (drill_levels n) → d.ranks ≡ drill_ranks → d.files ≡ length (drill_files n) →
    d.bytes ≡ sum (map (λ (file : List ℕ × List ℕ). length file.1) (drill_files n)) → d.reads ≡ reads_below n (drill_depth n + 1) → d.events ≡ length (drill_events n) → d.world ≡ drilled_world n → d ≡ drill_value n
value_is n d box levels ranks files bytes reads events world = (λ i. record {
  box = box i;
  levels = levels i;
  ranks = ranks i;
  files = files i;
  bytes = bytes i;
  reads = (reads ∙ sum-all n) i;
  events = events i;
  world = world i;
})
