use Rattle.std.proofs.Common.{IsSome, sym, subst, ap, ◌∙◌}
use Rattle.idx_header.specs.Header.{HasTime, HeaderValue}
use Rattle.idx_header.specs.Names.{step_folder}
use Rattle.idx_test_writing.specs.Ready.{IsWriter}
use Rattle.idx_test_writing.proofs.ready.Ready.new.Goals as goal

pub invariant_of-result-2-clause-number : goal.invariant_of-result-2-clause-number
invariant_of-result-2-clause-number g c = c.in_ok-raws_of.ensures

pub invariant_of-result-2-clause-seat : goal.invariant_of-result-2-clause-seat
invariant_of-result-2-clause-seat g c =
    subst (IsWriter c.args.lock.now c.args.site.now.header) (sym c.writer.view_is) c.requires

pub invariant_of-result-2-clause-timed : goal.invariant_of-result-2-clause-timed
invariant_of-result-2-clause-timed g c =
    subst (λ (h : HeaderValue). IsSome h.steps) c.in_ok-header.ensures c.in_ok-bay_of.ensures.folder.timed

pub invariant_of-result-2-clause-has : goal.invariant_of-result-2-clause-has
invariant_of-result-2-clause-has g c =
    subst (λ (h : HeaderValue). HasTime h c.args.time) c.in_ok-header.ensures c.in_ok-bay_of.ensures.folder.has

pub invariant_of-result-2-clause-begun : goal.invariant_of-result-2-clause-begun
invariant_of-result-2-clause-begun g c =
    c.in_ok-bay_of.ensures.begun ∙ ap (λ (h : HeaderValue). step_folder h c.args.time) c.in_ok-header.ensures

pub invariant_of-result-2-clause-files : goal.invariant_of-result-2-clause-files
invariant_of-result-2-clause-files g c = c.in_ok-bay_of.ensures.files
