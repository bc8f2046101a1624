use Rattle.idx_pieces.specs.Runs.{HasSamples}
use Rattle.idx_dock.specs.Content.{runs_in, sample_of}
use Rattle.idx_dock.proofs.ContentLemmas.{one_of}
use Rattle.idx_dock.proofs.CompleteLemmas.{complete_bytes_as}
use Rattle.idx_dock.proofs.laws.complete_docks_are_files.Goals as goal

pub returns : goal.returns
returns c = λ layout d volume is none are samples.
    complete_bytes_as layout d is none volume are (λ r here. one_of (HasSamples d.header (sample_of d.header volume)) (runs_in d.awaited) r samples here)
