use Rattle.std.proofs.Common.{ℕ, IsSome, Option, sym, subst, ◌∙◌}
use Rattle.idx_header.specs.Header.{HasTime, HeaderValue}
use Rattle.idx_header.specs.declared.steps.Steps.{Steps}
use Rattle.idx_header.specs.Names.{step_folder}
use Rattle.idx_test_writing.proofs.states.Opened.window.Goals as goal

pub loop-init : goal.loop-init
loop-init g c =
    let o = c.in_ok-docking.ensures.opening in
    let new = c.in_ok-docking.docking.opening in
    let own = c.args.self in
    record {
      same = own.same ∙ sym (λ i. (o i).ranks);
      timed = subst (λ (s : Option Steps). IsSome s) (sym (λ i. (o i).header.steps)) own.timed;
      has =
          subst (λ (step : ℕ). HasTime new.header step) (sym (λ i. (o i).step))
          (subst (λ (h : HeaderValue). HasTime h own.opening.step) (sym (λ i. (o i).header)) own.has);
      begun = own.begun ∙ sym (λ i. step_folder (o i).header (o i).step);
      files = own.files;
    }

pub invariant_of-docked : goal.invariant_of-docked
invariant_of-docked g c = c.loop.invariant
