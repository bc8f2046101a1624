use Rattle.idx_words.proofs.BuiltLemmas.{IsBuilt-once}
use Rattle.idx_words.proofs.laws.built_texts_are_one.Goals as goal

pub returns : goal.returns
returns c = IsBuilt-once
