use Rattle.idx_core_model.proofs.SettingLemmas.{layers_ok}
use Rattle.idx_core_model.proofs.laws.layers_keep_their_laws.Goals as goal

pub returns : goal.returns
returns c = layers_ok
