use Rattle.idx_events.proofs.WorldLemmas.{keeps}
use Rattle.idx_core_model.specs.Layers.{setting_of}
use Rattle.idx_core_model.proofs.HeadlineLemmas.{all-hold, headline, new-holds, refused-hold}
use Rattle.idx_core_model.proofs.SettingLemmas.{layers_ok}
use Rattle.idx_core_model.proofs.laws.every_interleaving.Goals as goal

pub returns-clause-all : goal.returns-clause-all
returns-clause-all c = λ h e n. all-hold h e n

pub returns-clause-refused : goal.returns-clause-refused
returns-clause-refused c = λ h e n. refused-hold h e n

pub returns-clause-new : goal.returns-clause-new
returns-clause-new c = λ h e n. new-holds h e n

pub returns-clause-step : goal.returns-clause-step
returns-clause-step c = λ h e n divided w ok event can. keeps (setting_of h e n) (layers_ok h e n divided) w ok event can

pub returns-clause-holds : goal.returns-clause-holds
returns-clause-holds c = λ h e n divided w ok. headline h e n w ok
