-- A new dataset whose one step is written and then asked: the step is that of its volume, and the answers are right.
use Rattle.std.proofs.Common.{◌≡◌, inl, inr, ℕ, true, false, nat_eq, List, [], ◌∷◌, map, Some, None, refl, sym, ap, ◌∙◌, subst}
use Rattle.std.specs.List.{AllByRecursion}
use Rattle.std.specs.Option.{option_map_or}
use Rattle.std.proofs.lemmas.Bool.{eq-eqb}
use Rattle.idx_hall.specs.Posts.{Post, behind_first, newest, is_newest}
use Rattle.idx_hall.specs.Hall.{HallValue, after_publish}
use Rattle.idx_events.specs.Setting.{Setting, SettingOk, step_files, post_of_files}
use Rattle.idx_events.specs.World.{World, Volume, Query, is_published}
use Rattle.idx_events.specs.Volumes.{sealed_files}
use Rattle.idx_events.specs.Events.{run, all_enabled}
use Rattle.idx_events.specs.Start.{new_query, new_volume}
use Rattle.idx_events.specs.WorldOk.{WorldOk, AnswerOk}
use Rattle.idx_events.proofs.ListLemmas.{map-map}
use Rattle.idx_events.proofs.WorldLemmas.{keeps-all}
use Rattle.idx_drill_events.specs.Lists.{Asking, written, all_asked}
use Rattle.idx_drill_events.specs.Leads.{Leads}
use Rattle.idx_drill_events.specs.Written.{AreAll, IsWritten}
use Rattle.idx_drill_events.specs.Asked.{hall_after, hall_after_all, query_after, queries_after, with_all_asked, AreAsked}
use Rattle.idx_drill_events.specs.Drill.{opened_hall, drill_world, drill_events, right_answers}
use Rattle.idx_drill_events.proofs.RunLemmas.{leads-append}
use Rattle.idx_drill_events.proofs.WriteLemmas.{step-leads}
use Rattle.idx_drill_events.proofs.AskLemmas.{all-lead}

module _ (s : Setting) (laws : SettingOk s) where
  -- the post of a published volume is that of its files
  post-is : (w u : World) (time revision : ℕ) (raw : List ℕ) → WorldOk s u → IsWritten s w (new_volume s time revision raw) u →
      u.hall ≡ after_publish (post_of_files s time revision (step_files s time revision raw)) w.hall
  post-is w u time revision raw ok is =
      is.hall
      ∙ ap (λ files. after_publish (post_of_files s is.volume.time is.volume.revision files) w.hall) files-are
      ∙ ap (λ t. after_publish (post_of_files s t is.volume.revision (step_files s t is.volume.revision is.volume.raw)) w.hall) is.time
      ∙ ap (λ r. after_publish (post_of_files s time r (step_files s time r is.volume.raw)) w.hall) is.revision
      ∙ ap (λ r. after_publish (post_of_files s time revision (step_files s time revision r)) w.hall) is.raw
    where
      files-are : sealed_files is.volume.slots ≡ step_files s is.volume.time is.volume.revision is.volume.raw
      files-are = (subst (λ l. AllByRecursion (λ v. is_published v.phase ≡ true → sealed_files v.slots ≡ step_files s v.time v.revision v.raw) l) is.volumes ok.board.files).0 (ap is_published is.phase)

  -- the post of a step that is written whole is that of its volume's files
  pub whole-post : (pieces : List ℕ) (ranks : ℕ) → AreAll s pieces ranks → (w : World) (time revision : ℕ) (raw : List ℕ) → WorldOk s w → w.volumes ≡ new_volume s time revision raw ∷ [] →
      (run s w (written s time revision pieces ranks)).hall ≡ after_publish (post_of_files s time revision (step_files s time revision raw)) w.hall
  whole-post pieces ranks all w time revision raw ok alone =
      let done = step-leads s pieces ranks all w time revision raw alone in
      post-is w (run s w (written s time revision pieces ranks)) time revision raw (keeps-all s laws (written s time revision pieces ranks) w ok done.0) done.1

  -- answers of one volume are the answers out of it
  right-one : (board : List Post) (y : Query) (v : Volume) (bytes : List ℕ) → y.answer ≡ Some bytes → AnswerOk s (v ∷ []) board y → Some bytes ≡ Some (s.answer v.raw y.ask)
  right-one board y v bytes e ok = elim (ok bytes e) [
    | inl is ↦ ap (λ b. Some b) is.answer
    | inr none ↦ absurd none
  ]

  right-all : (board : List Post) (v : Volume) (xs : List Asking) (h : HallValue) → AllByRecursion (AnswerOk s (v ∷ []) board) (queries_after s xs h) →
      map (λ (y : Query). y.answer) (queries_after s xs h) ≡ right_answers s v.raw xs
  right-all board v [] h ok = refl
  right-all board v (x ∷ xs) h ok =
      ap (λ o. o ∷ map (λ (y : Query). y.answer) (queries_after s xs (hall_after x h))) (right-one board (query_after s x h) v (s.put_together x.ask (query_after s x h).kept) refl ok.0)
      ∙ ap (λ l. Some (s.answer v.raw x.ask) ∷ l) (right-all board v xs (hall_after x h) ok.1)

  module _ (pieces : List ℕ) (ranks : ℕ) (all : AreAll s pieces ranks) (time capacity : ℕ) (raw : List ℕ) (questions : List Asking)
      (ok : WorldOk s (drill_world s time raw questions capacity)) (are : AreAsked s (opened_hall s time raw capacity) questions) where
    abbrev start : World
    start = drill_world s time raw questions capacity

    abbrev opened : World
    opened = run s start (written s time 0 pieces ranks)

    abbrev end : World
    end = run s start (drill_events s time raw pieces ranks questions)

    step : (all_enabled s start (written s time 0 pieces ranks) ≡ true) × IsWritten s start (new_volume s time 0 raw) opened
    step = step-leads s pieces ranks all start time 0 raw refl

    hall-is : opened.hall ≡ opened_hall s time raw capacity
    hall-is = whole-post pieces ranks all start time 0 raw ok refl

    asked-all : Leads s opened (all_asked 0 questions) (with_all_asked s [] questions opened)
    asked-all = all-lead s questions [] opened (step.1.queries ∙ map-map (λ (x : Asking). x.ask) new_query questions) (subst (λ h. AreAsked s h questions) (sym hall-is) are)

    both-lead : Leads s start (drill_events s time raw pieces ranks questions) (with_all_asked s [] questions opened)
    both-lead = leads-append s start opened (with_all_asked s [] questions opened) (written s time 0 pieces ranks) (all_asked 0 questions) (record { may = step.0; after = refl }) asked-all

    pub drill-may : all_enabled s start (drill_events s time raw pieces ranks questions) ≡ true
    drill-may = both-lead.may

    pub drill-hall : end.hall ≡ hall_after_all questions (opened_hall s time raw capacity)
    drill-hall = ap (λ (z : World). z.hall) both-lead.after ∙ ap (hall_after_all questions) hall-is

    pub drill-ok : WorldOk s end
    drill-ok = keeps-all s laws (drill_events s time raw pieces ranks questions) start ok drill-may

    end-ok : WorldOk s (with_all_asked s [] questions opened)
    end-ok = subst (WorldOk s) both-lead.after drill-ok

    pub drill-answers : map (λ (x : Query). x.answer) end.queries ≡ right_answers s raw questions
    drill-answers =
        ap (λ (z : World). map (λ (x : Query). x.answer) z.queries) both-lead.after
        ∙ right-all (with_all_asked s [] questions opened).hall.board step.1.volume questions opened.hall
        (subst (λ l. AllByRecursion (AnswerOk s l (with_all_asked s [] questions opened).hall.board) (queries_after s questions opened.hall)) step.1.volumes end-ok.answers)
        ∙ ap (λ r. right_answers s r questions) step.1.raw

-- ---- the hall that the questions begin with

module _ (s : Setting) (time : ℕ) (raw : List ℕ) (capacity : ℕ) where
  pub opened-newest : newest (opened_hall s time raw capacity).board time ≡ Some 0
  opened-newest = ap (λ b. behind_first b None) (eq-eqb time time refl)

  pub opened-current : is_newest (opened_hall s time raw capacity).board 0 ≡ true
  opened-current = ap (λ o. option_map_or (nat_eq 0) o false) opened-newest
