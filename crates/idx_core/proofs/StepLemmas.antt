-- From what a step answers to what it leaves of a world.
use Rattle.std.proofs.Common.{◌≡◌, ℕ, slice_get, slice_set, Bool, false, zero, suc, List, [], ◌∷◌, All, map, option_map, Option, Some, None, Result, Ok, Err, refl, sym, ap, ◌∙◌, subst}
use Rattle.std.specs.Option.{option_map_or}
use Rattle.std.proofs.lemmas.Option.{get_or_from_slice_get, slice_get-map, slice_get_within}
use Rattle.std.proofs.lemmas.List.Elements.{All-get_or, All-set}
use Rattle.idx_hall.specs.Hall.{HallValue}
use Rattle.idx_events.specs.Setting.{Setting, SettingOk}
use Rattle.idx_events.specs.World.{World, Volume, Query}
use Rattle.idx_events.specs.WorldOk.{WorldOk}
use Rattle.idx_events.specs.Events.{enabled, effect, on_query, on_volume, query_can, volume_can}
use Rattle.idx_events.specs.declared.event.Event.{Event}
use Rattle.idx_events.proofs.WorldLemmas.{keeps}
use Rattle.idx_query.specs.Blocks.{IsPlanOf}
use Rattle.idx_core_model.specs.Headline.{CanBeAsked}
use Rattle.idx_core_model.proofs.SettingLemmas.{layers_ok}
use Rattle.idx_core_layers.specs.Division.{DivisionValue, layers_of}
use Rattle.idx_core_layers.specs.declared.step_refusal.StepRefusal.{StepRefusal}
use Rattle.idx_core_layers.specs.declared.step_refusal.StepRefusal.TheVariants.{NotEnabled, NoMemory}
use Rattle.idx_core_asks.specs.Asked.{AskedValue, IsPlanned, with_query}
use Rattle.idx_core_asks.specs.Asking.{IsAsking, asked_can}
use Rattle.idx_core_steps.specs.Steps.{AreSlots, IsChange, StepValue}
use Rattle.idx_core.specs.World.{IsCore, IsStep, world_of}

module _ (s : Setting) where
  -- what holds of the world before a step holds after it
  pub step-keeps : SettingOk s → (w : World) → WorldOk s w → (e : Event) (result : Result (Unit {0}) StepRefusal) (new : World) → IsStep s w e result new → WorldOk s new
  step-keeps laws w ok e (Ok done) new h = subst (WorldOk s) (sym h.1) (keeps s laws w ok e h.0)
  step-keeps laws w ok e (Err NotEnabled) new h = subst (WorldOk s) (sym h.1) ok
  step-keeps laws w ok e (Err NoMemory) new h = subst (WorldOk s) (sym h.1) ok

-- the questions after one was changed
queries_after : (f : Query → Query) (number : ℕ) (asked : List AskedValue) (x : AskedValue) →
    map (λ (y : AskedValue). y.query) (slice_set asked number (with_query x (f x.query))) ≡ slice_set (map (λ (y : AskedValue). y.query) asked) number (f x.query)
queries_after f number [] x = refl
queries_after f zero (y ∷ asked) x = refl
queries_after f (suc number) (y ∷ asked) x = ap (λ qs. y.query ∷ qs) (queries_after f number asked x)

module _ (s : Setting) (steps : List StepValue) (h : HallValue) (asked : List AskedValue) (number : ℕ) (test : Query → Bool) (k : Query → HallValue) (f : Query → Query) (e : Event) where
  can_same : query_can number test (world_of steps h asked) ≡ asked_can test number asked
  can_same = ap (λ o. option_map_or test o false) (slice_get-map (λ (x : AskedValue). x.query) asked number) ∙ by (slice_get asked number)
    where
      by : (o : Option AskedValue) → option_map_or test (option_map (λ (x : AskedValue). x.query) o) false ≡ option_map_or (λ (x : AskedValue). test x.query) o false
      by None = refl
      by (Some x) = refl

  changed : (x : AskedValue) → slice_get asked number ≡ Some x →
      on_query number k f (world_of steps h asked) ≡ world_of steps (k x.query) (slice_set asked number (with_query x (f x.query)))
  changed x at =
      ap (λ o. option_map_or (λ (y : Query). record (world_of steps h asked) { hall = k y; queries = slice_set (world_of steps h asked).queries number (f y) }) o (world_of steps h asked))
      (slice_get-map (λ (y : AskedValue). y.query) asked number ∙ ap (option_map (λ (y : AskedValue). y.query)) at)
      ∙ ap (λ qs. record (world_of steps h asked) { hall = k x.query; queries = qs }) (sym (queries_after f number asked x))

  -- an event of asking is a change of one question, and of the hall with it
  pub asking-step : enabled s (world_of steps h asked) e ≡ query_can number test (world_of steps h asked) → effect s (world_of steps h asked) e ≡ on_query number k f (world_of steps h asked) →
      (result : Result (Unit {0}) StepRefusal) (new : List AskedValue) (l : HallValue) → IsAsking test k f number asked h result new l →
      IsStep s (world_of steps h asked) e result (world_of steps l new)
  asking-step on makes (Ok done) new l i =
      (on ∙ can_same ∙ i.0, ap (λ z. world_of steps z new) i.4 ∙ ap (λ z. world_of steps (k i.1.query) z) i.3 ∙ sym (makes ∙ changed i.1 i.2))
  asking-step on makes (Err NotEnabled) new l i = (on ∙ can_same ∙ i.0, ap (λ z. world_of steps z new) i.2 ∙ ap (λ z. world_of steps h z) i.1)
  asking-step on makes (Err NoMemory) new l i = (on ∙ can_same ∙ i.0, ap (λ z. world_of steps z new) i.2 ∙ ap (λ z. world_of steps h z) i.1)

-- ---- what holds of every world holds after an event of asking

-- the question of a number has its plan
pub planned-at : (d : DivisionValue) (asked : List AskedValue) (number : ℕ) (x : AskedValue) → All (IsPlanned d) asked → slice_get asked number ≡ Some x → IsPlanned d x
planned-at d asked number x planned at =
    subst (IsPlanned d) (get_or_from_slice_get asked number x x at) (All-get_or (IsPlanned d) asked number x (slice_get_within asked number x at) planned)

-- a question that asks for the same has the plan
same-plan : (d : DivisionValue) (x : AskedValue) (y : Query) → y.ask ≡ x.query.ask → IsPlanned d x → IsPlanned d (with_query x y)
same-plan d x y same is = record {
  can = subst (λ ask. CanBeAsked d.header ask) (sym same) is.can;
  plan = subst (λ ask. IsPlanOf d.header ask x.plan) (sym same) is.plan;
}

module _ (d : DivisionValue) (steps : List StepValue) (h : HallValue) (asked : List AskedValue) (number : ℕ) (test : Query → Bool) (k : Query → HallValue) (f : Query → Query) (e : Event) where
  planned-after : ((x : Query) → (f x).ask ≡ x.ask) → All (IsPlanned d) asked → (result : Result (Unit {0}) StepRefusal) (new : List AskedValue) (l : HallValue) →
      IsAsking test k f number asked h result new l → All (IsPlanned d) new
  planned-after same planned (Ok done) new l i =
      subst (λ (xs : List AskedValue). All (IsPlanned d) xs) (sym i.3)
      (All-set (IsPlanned d) asked number (with_query i.1 (f i.1.query)) (same-plan d i.1 (f i.1.query) (same i.1.query) (planned-at d asked number i.1 planned i.2)) planned)
  planned-after same planned (Err NotEnabled) new l i = subst (λ (xs : List AskedValue). All (IsPlanned d) xs) (sym i.1) planned
  planned-after same planned (Err NoMemory) new l i = subst (λ (xs : List AskedValue). All (IsPlanned d) xs) (sym i.1) planned

  pub asking-keeps : IsCore d steps h asked → enabled (layers_of d) (world_of steps h asked) e ≡ query_can number test (world_of steps h asked) →
      effect (layers_of d) (world_of steps h asked) e ≡ on_query number k f (world_of steps h asked) → ((x : Query) → (f x).ask ≡ x.ask) →
      (result : Result (Unit {0}) StepRefusal) (new : List AskedValue) (l : HallValue) → IsAsking test k f number asked h result new l → IsCore d steps l new
  asking-keeps core on makes same result new l i = record {
    divided = core.divided;
    world = step-keeps (layers_of d) (layers_ok d.header d.digits d.ranks core.divided) (world_of steps h asked) core.world e result (world_of steps l new)
        (asking-step (layers_of d) steps h asked number test k f e on makes result new l i);
    slots = core.slots;
    planned = planned-after same core.planned result new l i;
  }

-- the question of a number, in the world
pub question-at : (steps : List StepValue) (h : HallValue) (asked : List AskedValue) (number : ℕ) (x : AskedValue) → slice_get asked number ≡ Some x → slice_get (world_of steps h asked).queries number ≡ Some x.query
question-at steps h asked number x at = slice_get-map (λ (y : AskedValue). y.query) asked number ∙ ap (option_map (λ (y : AskedValue). y.query)) at

-- ---- events of a revision

module _ (s : Setting) (steps : List StepValue) (h : HallValue) (asked : List AskedValue) (time revision : ℕ) (test : Volume → Bool) (f : Volume → Volume) (e : Event) where
  -- a change of one revision, and of nothing else
  pub volume-step : enabled s (world_of steps h asked) e ≡ volume_can time revision test (world_of steps h asked) → effect s (world_of steps h asked) e ≡ on_volume time revision f (world_of steps h asked) →
      (result : Result (Unit {0}) StepRefusal) (new : List StepValue) → IsChange test f time revision steps result new → IsStep s (world_of steps h asked) e result (world_of new h asked)
  volume-step on makes (Ok done) new i = (on ∙ i.0, ap (λ vs. record (world_of steps h asked) { volumes = vs }) i.1 ∙ sym makes)
  volume-step on makes (Err NotEnabled) new i = (on ∙ i.0, ap (λ vs. world_of vs h asked) i.1)
  volume-step on makes (Err NoMemory) new i = (on ∙ i.0, ap (λ vs. world_of vs h asked) i.1)

-- after a step of the revisions
pub volume-keeps : (d : DivisionValue) (steps new : List StepValue) (h k : HallValue) (asked : List AskedValue) → IsCore d steps h asked → (e : Event) (result : Result (Unit {0}) StepRefusal) →
    IsStep (layers_of d) (world_of steps h asked) e result (world_of new k asked) → All (AreSlots d) new → IsCore d new k asked
volume-keeps d steps new h k asked core e result step slots = record {
  divided = core.divided;
  world = step-keeps (layers_of d) (layers_ok d.header d.digits d.ranks core.divided) (world_of steps h asked) core.world e result (world_of new k asked) step;
  slots = slots;
  planned = core.planned;
}
