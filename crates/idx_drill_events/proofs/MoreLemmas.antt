-- One question more, behind others; and questions by their numbers.
use Rattle.std.proofs.Common.{◌≡◌, ℕ, suc, ◌+◌, List, [], ◌∷◌, ◌++◌, length, slice_get, flat_map, Some, refl, sym, ap, ◌∙◌, arith, append_assoc, append-nil}
use Rattle.std.specs.List.{range_with_len}
use Rattle.idx_hall.specs.Hall.{HallValue}
use Rattle.idx_events.specs.Setting.{Setting}
use Rattle.idx_drill_events.specs.Lists.{Asking, asked, all_asked}
use Rattle.idx_drill_events.specs.Asked.{hall_after, hall_after_all, query_after, queries_after, IsAsked, AreAsked}

pub events-more : (xs : List Asking) (x : Asking) (q : ℕ) → all_asked q (xs ++ x ∷ []) ≡ all_asked q xs ++ asked (q + length xs) x.missing
events-more [] x q = append-nil (asked q x.missing) ∙ ap (λ n. asked n x.missing) (let e : q ≡ q + 0 = omega arith in e)
events-more (y ∷ ys) x q =
    let e : (q + 1) + length ys ≡ q + length (y ∷ ys) = omega arith in
    ap (λ l. asked q y.missing ++ l) (events-more ys x (q + 1) ∙ ap (λ n. all_asked (q + 1) ys ++ asked n x.missing) e)
    ∙ sym (append_assoc (asked q y.missing) (all_asked (q + 1) ys) (asked (q + length (y ∷ ys)) x.missing))

pub hall-more : (xs : List Asking) (x : Asking) (h : HallValue) → hall_after_all (xs ++ x ∷ []) h ≡ hall_after x (hall_after_all xs h)
hall-more [] x h = refl
hall-more (y ∷ ys) x h = hall-more ys x (hall_after y h)

module _ (s : Setting) where
  pub queries-more : (xs : List Asking) (x : Asking) (h : HallValue) → queries_after s (xs ++ x ∷ []) h ≡ queries_after s xs h ++ query_after s x (hall_after_all xs h) ∷ []
  queries-more [] x h = refl
  queries-more (y ∷ ys) x h = ap (λ l. query_after s y h ∷ l) (queries-more ys x (hall_after y h))

  pub are-more : (xs : List Asking) (x : Asking) (h : HallValue) → AreAsked s h xs → IsAsked s (hall_after_all xs h) x → AreAsked s h (xs ++ x ∷ [])
  are-more [] x h are is = (is, tt)
  are-more (y ∷ ys) x h are is = (are.0, are-more ys x (hall_after y h) are.1 is)

-- the events of questions by their numbers
pub events-by_number : (missing : ℕ → List ℕ) (xs : List Asking) (q : ℕ) → ((k : ℕ) (x : Asking) → slice_get xs k ≡ Some x → missing (q + k) ≡ x.missing) →
    all_asked q xs ≡ flat_map (λ n. asked n (missing n)) (range_with_len q (length xs))
events-by_number missing [] q each = refl
events-by_number missing (x ∷ xs) q each =
    ap (λ l. asked q l ++ all_asked (q + 1) xs) (sym (ap missing (let e : q ≡ q + 0 = omega arith in e) ∙ each 0 x refl))
    ∙ ap (λ l. asked q (missing q) ++ l)
    (events-by_number missing xs (q + 1) (λ k y at. ap missing (let e : (q + 1) + k ≡ q + suc k = omega arith in e) ∙ each (suc k) y at))
