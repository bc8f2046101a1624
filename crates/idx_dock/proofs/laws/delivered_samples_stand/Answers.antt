use Rattle.std.proofs.Common.{◌≡◌, true, ap}
use Rattle.std.specs.Prelude.{replicate}
use Rattle.std.specs.Option.{option_map_or}
use Rattle.idx_header.specs.Header.{sample_bytes_of}
use Rattle.idx_dock.specs.Content.{dock_sample, has_sample, run_sample, runs_in}
use Rattle.idx_dock.proofs.ApartLemmas.{dock_writable}
use Rattle.idx_dock.proofs.CompleteLemmas.{all_from, find-unfound}
use Rattle.idx_dock.proofs.WriteLemmas.{sample_run}
use Rattle.idx_dock.proofs.laws.delivered_samples_stand.Goals as goal

pub returns-clause-samples : goal.returns-clause-samples
returns-clause-samples c = λ d field address is.
    all_from (λ run. has_sample d.header field address run ≡ true → dock_sample d field address ≡ run_sample d.header address run) (runs_in d.awaited)
    (λ r here has. sample_run d.header field address (runs_in d.awaited) r (dock_writable d is).apart here has)

pub returns-clause-zeros : goal.returns-clause-zeros
returns-clause-zeros c = λ d field address none.
    ap (λ o. option_map_or (run_sample d.header address) o (replicate (sample_bytes_of d.header field) 0)) (find-unfound (has_sample d.header field address) (runs_in d.awaited) none)
