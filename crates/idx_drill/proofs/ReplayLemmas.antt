-- All events of a drill may happen, and the answers afterwards are those of its volume.
use Rattle.std.proofs.Common.{◌≡◌, ℕ, ◌+◌, ◌^◌, ◌<◌, ◌≤◌, suc, zero, Bool, true, false, cond, get_or, take, List, [], ◌∷◌, length, map, Some, refl, sym, ap, ◌∙◌, subst, arith}
use Rattle.std.specs.List.{range_with_len}
use Rattle.idx_hall.specs.Hall.{HallValue}
use Rattle.idx_hall.specs.Posts.{Post, newest}
use Rattle.idx_pieces.specs.Digits.{piece_digits}
use Rattle.idx_events.specs.Setting.{Setting, SettingOk}
use Rattle.idx_events.specs.declared.event.Event.{Event}
use Rattle.idx_events.specs.Start.{new_world}
use Rattle.idx_events.specs.Events.{all_enabled, effect, enabled, run}
use Rattle.idx_events.specs.World.{Query, World}
use Rattle.idx_events.specs.WorldOk.{WorldOk}
use Rattle.idx_core_model.specs.Headline.{IsDivided}
use Rattle.idx_core_model.specs.Layers.{setting_of}
use Rattle.idx_core_model.proofs.HeadlineLemmas.{new-holds}
use Rattle.idx_core_model.proofs.SettingLemmas.{layers_ok}
use Rattle.idx_drill_events.specs.Asked.{AreAsked, pairs_by}
use Rattle.idx_drill_events.specs.Drill.{opened_hall}
use Rattle.idx_drill_events.specs.Drill.{drill_world as whole_world}
use Rattle.idx_drill_events.specs.Lists.{Asking}
use Rattle.idx_drill_events.specs.Written.{AreAll}
use Rattle.idx_drill_events.proofs.AskLemmas.{IsStep, AreSteps, steps-asked}
use Rattle.idx_drill_events.proofs.DrillLemmas.{drill-answers, drill-may}
use Rattle.idx_drill_model.specs.Blocks.{blocks_at, drill_key, new_blocks}
use Rattle.idx_drill_model.specs.Cache.{CacheAt}
use Rattle.idx_drill_model.specs.Drill.{drill_ask, drill_asks, drill_capacity, drill_depth, drill_header, drill_volume}
use Rattle.idx_drill_model.proofs.CacheLemmas.{cache-empty, kept-fill, missing-new}
use Rattle.idx_drill_model.proofs.HeaderLemmas.{drill-divided}
use Rattle.idx_drill_model.proofs.RoundLemmas.{round-blocks}
use Rattle.idx_drill_model.proofs.TakenLemmas.{drill-taken}
use Rattle.idx_drill.specs.Drilled.{IsReplayed, drill_answer, drill_asking, drill_events, drill_layers, drill_levels, drill_pieces, drill_questions, drill_ranks, drill_world}
use Rattle.idx_drill.proofs.DivideLemmas.{are_all}

-- the questions are those of their records
pub asks_are : (n : ℕ) (levels : List ℕ) → map (λ (x : Asking). x.ask) (map (drill_asking n) levels) ≡ map (drill_ask n) levels
asks_are n [] = refl
asks_are n (level ∷ levels) = ap (λ l. drill_ask n level ∷ l) (asks_are n levels)

module _ (n : ℕ) (some : 1 ≤ n) (few : n ≤ 8) where
  abbrev digits : ℕ
  digits = piece_digits (drill_header n) (2 ^ 28)

  divided : IsDivided (drill_header n) digits 4
  divided = drill-divided n some few

  laws : SettingOk (drill_layers n)
  laws = layers_ok (drill_header n) digits 4 divided

  all : AreAll (drill_layers n) (drill_pieces n) drill_ranks
  all = are_all (drill_header n) digits 4 divided

  new : WorldOk (drill_layers n) (drill_world n)
  new = new-holds (drill_header n) digits 4 drill_capacity ((0, drill_volume n) ∷ []) (drill_asks n) divided (omega arith) (drill-taken n few)

  -- ---- questions

  rounds-are : (level : ℕ) → level ≤ drill_depth n → (drill_layers n).rounds (drill_ask n level) ≡ blocks_at n level ∷ []
  unfolding setting_of
  rounds-are level within = round-blocks n level few within

  module _ (post : Post) (time : post.time ≡ 0) where
    abbrev board : List Post
    board = post ∷ []

    newest-is : newest board 0 ≡ Some 0
    newest-is = ap (λ t. newest (record post { time = t } ∷ []) 0) time

    step : (level : ℕ) → level ≤ drill_depth n → IsStep (drill_layers n) board (CacheAt n) level (drill_asking n level)
    step level within = record {
      post = newest-is;
      rounds = rounds-are level within;
      missing = λ h same cache. sym (missing-new n level h cache);
      next = λ h same cache. kept-fill n level h cache (pairs_by (drill_asking n level) h.board) (pair-keys (new_blocks n level) h);
    }
      where
        pair-keys : (blocks : List ℕ) (h : HallValue) → map (λ pair. pair.0) (pairs_by (record (drill_asking n level) { missing = blocks }) h.board) ≡ map drill_key blocks
        pair-keys [] h = refl
        pair-keys (b ∷ blocks) h = ap (λ l. drill_key b ∷ l) (pair-keys blocks h)

    steps-from : (a k : ℕ) → a + k ≤ drill_depth n + 1 → AreSteps (drill_layers n) board (CacheAt n) a (map (drill_asking n) (range_with_len a k))
    steps-from a zero within = tt
    steps-from a (suc k) within = (step a (omega (arith, within)), steps-from (a + 1) k (omega (arith, within)))

  abbrev opened : HallValue
  opened = opened_hall (drill_layers n) 0 (drill_volume n) drill_capacity

  are : AreAsked (drill_layers n) opened (drill_questions n)
  are =
      steps-asked (drill_layers n) opened.board (CacheAt n) (drill_questions n) 0 opened (steps-from _ refl 0 (drill_depth n + 1) (omega arith)) refl
      (cache-empty n opened (record { post = _; only = refl; time = refl }) refl refl)

  -- ---- the answers

  answer-is : (level : ℕ) → (drill_layers n).answer (drill_volume n) (drill_ask n level) ≡ drill_answer n level
  unfolding setting_of
  answer-is level = refl

  answers-are : (levels : List ℕ) →
      map (λ (x : Asking). Some ((drill_layers n).answer (drill_volume n) x.ask)) (map (drill_asking n) levels) ≡ map (λ level. Some (drill_answer n level)) levels
  answers-are [] = refl
  answers-are (level ∷ levels) = (λ i. Some (answer-is level i) ∷ answers-are levels i)

  same-world : whole_world (drill_layers n) 0 (drill_volume n) (drill_questions n) drill_capacity ≡ drill_world n
  same-world = ap (λ asks. new_world (drill_layers n) ((0, drill_volume n) ∷ []) asks drill_capacity) (asks_are n (drill_levels n))

  pub replayed : IsReplayed n
  replayed = record {
    may = subst (λ w. all_enabled (drill_layers n) w (drill_events n) ≡ true) same-world
        (drill-may (drill_layers n) laws (drill_pieces n) drill_ranks all 0 drill_capacity (drill_volume n) (drill_questions n) (subst (WorldOk (drill_layers n)) (sym same-world) new) are);
    answers = subst (λ w. map (λ (x : Query). x.answer) (run (drill_layers n) w (drill_events n)).queries ≡ map (λ level. Some (drill_answer n level)) (drill_levels n)) same-world
        (drill-answers (drill_layers n) laws (drill_pieces n) drill_ranks all 0 drill_capacity (drill_volume n) (drill_questions n) (subst (WorldOk (drill_layers n)) (sym same-world) new) are
        ∙ answers-are (drill_levels n));
  }

-- ---- one event of a list that may happen

both-hold : (b c : Bool) → cond b c false ≡ true → (b ≡ true) × (c ≡ true)
both-hold true c is = (refl, is)
both-hold false c is = absurd (let wrong : false ≡ true = is in cc)

-- the event at a place may happen after those before it
pub may-at : (s : Setting) (es : List Event) (w : World) (k : ℕ) (d : Event) → all_enabled s w es ≡ true → k < length es →
    enabled s (run s w (take k es)) (get_or es k d) ≡ true
may-at s [] w k d may within = absurd (omega arith)
may-at s (e ∷ es) w zero d may within = (both-hold (enabled s w e) (all_enabled s (effect s w e) es) may).0
may-at s (e ∷ es) w (suc k) d may within =
    may-at s es (effect s w e) k d (both-hold (enabled s w e) (all_enabled s (effect s w e) es) may).1 (omega (arith, within))
