use Rattle.idx_words.specs.Words.{GiveCommand}
use Rattle.idx_words.proofs.PlaceLemmas.{IsPlace-once}
use Rattle.idx_words.proofs.laws.places_are_one.Goals as goal

pub returns : goal.returns
returns c = λ words a b. IsPlace-once GiveCommand words a b
