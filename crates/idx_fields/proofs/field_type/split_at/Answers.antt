use Rattle.std.proofs.Common.{◌==◌, ◌+◌, ◌∙◌, sym, ap, ℕ, Bool, take, drop}
use Rattle.std.proofs.lemmas.List.{take_rest}
use Rattle.idx_fields.proofs.TypeLemmas.{place_none, place_some}
use Rattle.idx_fields.proofs.field_type.split_at.Goals as goal

pub returns-in_err-place : goal.returns-in_err-place
returns-in_err-place c =
    let p : ℕ → Bool = λ b. b == c.args.mark in
    rw c.from_residual.ensures (place_none p c.args.word.now (sym c.place_of.ensures ∙ c.in_err-place.was))

pub returns : goal.returns
returns c =
    let p : ℕ → Bool = λ b. b == c.args.mark in
    let place = c.in_ok-place.place in
    let word = c.args.word.now in
    let found = place_some p word place (sym c.place_of.ensures ∙ c.in_ok-place.was) in
    (found.0, ap (λ n. take n word) (sym found.1), take_rest word (place + 1) ∙ ap (λ n. drop (n + 1) word) (sym found.1))
