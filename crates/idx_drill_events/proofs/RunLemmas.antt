-- Events one after another, and lists of events one behind another.
use Rattle.std.proofs.Common.{◌≡◌, true, false, if◌then◌else◌, List, [], ◌∷◌, ◌++◌, refl, sym, ap, ◌∙◌, subst}
use Rattle.idx_events.specs.Setting.{Setting}
use Rattle.idx_events.specs.World.{World}
use Rattle.idx_events.specs.Events.{enabled, effect, run, all_enabled}
use Rattle.idx_events.specs.declared.event.Event.{Event}
use Rattle.idx_drill_events.specs.Leads.{Leads}

module _ (s : Setting) where
  pub run-append : (xs ys : List Event) (w : World) → run s w (xs ++ ys) ≡ run s (run s w xs) ys
  run-append [] ys w = refl
  run-append (e ∷ xs) ys w = run-append xs ys (effect s w e)

  pub may-append : (xs ys : List Event) (w : World) → all_enabled s w xs ≡ true → all_enabled s (run s w xs) ys ≡ true → all_enabled s w (xs ++ ys) ≡ true
  may-append [] ys w first second = second
  may-append (e ∷ xs) ys w first second = (elim (enabled s w e) as (λ b. (if b then all_enabled s (effect s w e) xs else false) ≡ true → (if b then all_enabled s (effect s w e) (xs ++ ys) else false) ≡ true) [
    | true ↦ λ h. may-append xs ys (effect s w e) h second
    | false ↦ λ h. h
  ]) first

  pub leads-none : (w u : World) → w ≡ u → Leads s w [] u
  leads-none w u e = record { may = refl; after = e }

  -- an event that may happen, and then more
  pub leads-first : (w v u : World) (e : Event) (es : List Event) → enabled s w e ≡ true → effect s w e ≡ v → Leads s v es u → Leads s w (e ∷ es) u
  leads-first w v u e es can is more = record {
    may = ap (λ b. if b then all_enabled s (effect s w e) es else false) can ∙ subst (λ z. all_enabled s z es ≡ true) (sym is) more.may;
    after = ap (λ z. run s z es) is ∙ more.after;
  }

  pub leads-one : (w u : World) (e : Event) → enabled s w e ≡ true → effect s w e ≡ u → Leads s w (e ∷ []) u
  leads-one w u e can is = leads-first w u u e [] can is (leads-none u u refl)

  pub leads-append : (w v u : World) (xs ys : List Event) → Leads s w xs v → Leads s v ys u → Leads s w (xs ++ ys) u
  leads-append w v u xs ys first second = record {
    may = may-append xs ys w first.may (subst (λ z. all_enabled s z ys ≡ true) (sym first.after) second.may);
    after = run-append xs ys w ∙ ap (λ z. run s z ys) first.after ∙ second.after;
  }
