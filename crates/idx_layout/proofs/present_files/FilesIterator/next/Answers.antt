use Rattle.std.proofs.Common.{◌≡◌, ℕ, ◌+◌, [], ◌∷◌, length, sym, ap, subst, ◌∙◌, rules}
use Rattle.idx_layout.specs.Placing.{Placing}
use Rattle.idx_layout.specs.FileNumbers.{AreFiles, files_from}
use Rattle.idx_layout.proofs.FilesLemmas.{files_end, files_step, next_begins}
use Rattle.idx_layout.proofs.present_files.FilesIterator.next.Goals as goal

pub returns-in_default-clause-steps : goal.returns-in_default-clause-steps
returns-in_default-clause-steps c =
    let l : Placing = record { mask = c.self.inside.mask; region = c.self.inside.region; bits = c.self.inside.bits; per_file = c.self.inside.per_file; sizes = [] } in
    let none = files_end l c.self.inside.next c.self.invariant (sym c.in_default.ensures.value) in
    (sym c.self.view_is ∙ none, sym c.self.view_is ∙ none)

pub invariant_of-self : goal.invariant_of-self
invariant_of-self c =
    let l : Placing = record { mask = c.self.inside.mask; region = c.self.inside.region; bits = c.self.inside.bits; per_file = c.self.inside.per_file; sizes = [] } in
    subst (λ (n : ℕ). AreFiles l (n + c.self.inside.per_file)) (sym c.file_of-file.ensures.value) (next_begins l c.self.inside.next c.in-Some.block c.self.invariant)

pub returns-clause-steps : goal.returns-clause-steps
returns-clause-steps c =
    let l : Placing = record { mask = c.self.inside.mask; region = c.self.inside.region; bits = c.self.inside.bits; per_file = c.self.inside.per_file; sizes = [] } in
    sym c.self.view_is ∙ files_step l c.self.inside.next c.in-Some.block c.self.invariant (sym c.in-Some.ensures.value)
    ∙ ap (λ (n : ℕ). n ∷ files_from l (n + c.self.inside.per_file)) (sym c.file_of-file.ensures.value)

pub returns-clause-goes : goal.returns-clause-goes
returns-clause-goes c =
    let l : Placing = record { mask = c.self.inside.mask; region = c.self.inside.region; bits = c.self.inside.bits; per_file = c.self.inside.per_file; sizes = [] } in
    let steps : c.args.self.now ≡ c.file_of-file.result ∷ files_from l (c.file_of-file.result + c.self.inside.per_file) =
    sym c.self.view_is ∙ files_step l c.self.inside.next c.in-Some.block c.self.invariant (sym c.in-Some.ensures.value)
    ∙ ap (λ (n : ℕ). n ∷ files_from l (n + c.self.inside.per_file)) (sym c.file_of-file.ensures.value) in
    let shorter = ap length steps in search rules
