-- One event more of a list.
use Rattle.std.proofs.Common.{◌≡◌, ℕ, zero, suc, ◌+◌, ◌<◌, add-one, arith, length, get_or, take, true, false, if◌then◌else◌, List, [], ◌∷◌, refl, sym, ap, ◌∙◌, subst}
use Rattle.idx_events.specs.Events.{all_enabled, effect, enabled, run}
use Rattle.idx_events.specs.Setting.{Setting}
use Rattle.idx_events.specs.World.{World}
use Rattle.idx_events.specs.declared.event.Event.{Event}

run-snoc : (s : Setting) (es : List Event) (w : World) (i : ℕ) (d : Event) → i < length es → run s w (take (suc i) es) ≡ effect s (run s w (take i es)) (get_or es i d)
run-snoc s [] w i d l = absurd (omega arith)
run-snoc s (e ∷ es) w zero d l = refl
run-snoc s (e ∷ es) w (suc i) d l = run-snoc s es (effect s w e) i d (omega arith)

enabled-snoc : (s : Setting) (es : List Event) (w : World) (i : ℕ) (d : Event) → i < length es → all_enabled s w (take i es) ≡ true → enabled s (run s w (take i es)) (get_or es i d) ≡ true →
    all_enabled s w (take (suc i) es) ≡ true
enabled-snoc s [] w i d l a b = absurd (omega arith)
enabled-snoc s (e ∷ es) w zero d l a b = ap (λ c. if c then true else false) b
enabled-snoc s (e ∷ es) w (suc i) d l a b =
    (elim (enabled s w e) as (λ c. (if c then all_enabled s (effect s w e) (take i es) else false) ≡ true → (if c then all_enabled s (effect s w e) (take (suc i) es) else false) ≡ true) [
      | true ↦ λ h. enabled-snoc s es (effect s w e) i d (omega arith) h b
      | false ↦ λ h. h
    ]) a

-- the world after one event more, which may happen
pub run-more : (s : Setting) (es : List Event) (w : World) (i : ℕ) (d : Event) (now new : World) → i < length es → now ≡ run s w (take i es) → all_enabled s w (take i es) ≡ true →
    enabled s now (get_or es i d) ≡ true → new ≡ effect s now (get_or es i d) → (all_enabled s w (take (i + 1) es) ≡ true) × (new ≡ run s w (take (i + 1) es))
run-more s es w i d now new l is a on makes =
    (rw add-one (enabled-snoc s es w i d l a (subst (λ z. enabled s z (get_or es i d) ≡ true) is on)), rw add-one (makes ∙ ap (λ z. effect s z (get_or es i d)) is ∙ sym (run-snoc s es w i d l)))
