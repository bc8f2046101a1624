use Rattle.idx_layout.specs.Files.{length_of_file}
use Rattle.idx_layout.specs.OfHeader.{placing_of}
use Rattle.idx_gather.proofs.RunLemmas.{run_fits}
use Rattle.idx_gather.proofs.laws.windows_fit_the_room.Goals as goal

pub returns : goal.returns
returns c = λ h room files. run_fits (length_of_file (placing_of h)) room files
