use Rattle.std.proofs.Common.{ap, map, refl, string_bytes, sym, ◌∙◌}
use Rattle.idx_commands.specs.Cause.{status_of}
use Rattle.idx_commands.proofs.RunLemmas.{counts_faults, cut_off, leaves_rest, meets_once, no_usage, same_ok, silent, written}
use Rattle.idx_commands.proofs.running.run.Goals as goal

pub returns-in-Ok-clause-done : goal.returns-in-Ok-clause-done
returns-in-Ok-clause-done g c = λ zero.
    let given = c.in-Ok.ensures.read c.in-Ok.command in
    written (map string_bytes c.args.words.now) _ c.in-Ok.command (given.0 refl) _ c.run_command.ensures.ends
    (sym c.run_command.ensures.status ∙ zero)

pub returns-in-Ok-clause-cut_off : goal.returns-in-Ok-clause-cut_off
returns-in-Ok-clause-cut_off g c = λ nine.
    let given = c.in-Ok.ensures.read c.in-Ok.command in
    cut_off (map string_bytes c.args.words.now) _ c.in-Ok.command (given.0 refl) _ c.run_command.ensures.ends
    (sym c.run_command.ensures.status ∙ nine)

pub returns-in-Ok-clause-silent : goal.returns-in-Ok-clause-silent
returns-in-Ok-clause-silent g c = λ zero nine.
    silent (map string_bytes c.args.words.now) _ c.in-Ok.command _ c.run_command.ensures.ends
    (λ e. zero (c.run_command.ensures.status ∙ e)) (λ e. nine (c.run_command.ensures.status ∙ e))

pub returns-in-Ok-clause-unasked : goal.returns-in-Ok-clause-unasked
returns-in-Ok-clause-unasked g c = λ one.
    absurd (no_usage (map string_bytes c.args.words.now) _ c.in-Ok.command _ c.run_command.ensures.ends
    (sym c.run_command.ensures.status ∙ one))

pub returns-in-Ok-clause-place : goal.returns-in-Ok-clause-place
returns-in-Ok-clause-place g c = λ at usage.
    absurd (no_usage (map string_bytes c.args.words.now) _ c.in-Ok.command _ c.run_command.ensures.ends (ap status_of usage))

pub returns-in-Ok-clause-faults : goal.returns-in-Ok-clause-faults
returns-in-Ok-clause-faults g c =
    let given = c.in-Ok.ensures.read c.in-Ok.command in
    counts_faults (map string_bytes c.args.words.now) _ c.in-Ok.command (given.0 refl) _ c.run_command.ensures.ends

pub returns-in-Ok-clause-rest : goal.returns-in-Ok-clause-rest
returns-in-Ok-clause-rest g c =
    let given = c.in-Ok.ensures.read c.in-Ok.command in
    leaves_rest (map string_bytes c.args.words.now) _ c.in-Ok.command (given.0 refl)
    (λ other gives. let also = c.in-Ok.ensures.read other in same_ok _ c.in-Ok.command other refl (also.1 gives)) _ c.run_command.ensures.ends

pub returns-in-Ok-clause-once : goal.returns-in-Ok-clause-once
returns-in-Ok-clause-once g c =
    let given = c.in-Ok.ensures.read c.in-Ok.command in
    meets_once (map string_bytes c.args.words.now) _ c.in-Ok.command (given.0 refl)
    (λ other gives. let also = c.in-Ok.ensures.read other in same_ok _ c.in-Ok.command other refl (also.1 gives)) _ c.run_command.ensures.ends
