use Rattle.std.proofs.Common.{◌≡◌, length, ◌+◌, ◌/◌, ◌^◌, ◌≤◌, sym, ap, ◌∙◌, subst}
use Rattle.idx_pieces.specs.Runs.{run_length}
use Rattle.idx_dock.proofs.ContentLemmas.{run_ends}
use Rattle.idx_dock.proofs.next.end_of.Goals as goal

pub returns-clause-few : goal.returns-clause-few
returns-clause-few c =
    let h = c.args.header.now in
    let run = c.args.run.now in
    let count : c.len.result / c.sample_bytes.result ≡ run_length h run = ap (λ n. n / c.sample_bytes.result) c.len.ensures ∙ ap (λ n. length run.bytes / n) c.sample_bytes.ensures.value in
    subst (λ n. run.first + n ≤ 2 ^ 50) (sym count) (run_ends h c.args.file run c.requires.valid c.requires.exists c.requires.run)
