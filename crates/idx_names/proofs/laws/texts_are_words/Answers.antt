use Rattle.std.proofs.lemmas.List.Elements.{All-from_recursion}
use Rattle.idx_names.specs.Pieces.{IsWordByte}
use Rattle.idx_names.specs.Template.{template_text}
use Rattle.idx_names.specs.TimeTemplate.{time_template_text}
use Rattle.idx_names.proofs.TemplateLemmas.{made, text_some, text_prints}
use Rattle.idx_names.proofs.TimeLemmas.{made_time, time_text_some, time_prints}
use Rattle.idx_names.proofs.laws.texts_are_words.Goals as goal

pub returns-clause-template_some : goal.returns-clause-template_some
returns-clause-template_some c = λ t h. text_some t (made t h)

pub returns-clause-template : goal.returns-clause-template
returns-clause-template c = λ t h. All-from_recursion IsWordByte (template_text t) (text_prints t (made t h))

pub returns-clause-time_some : goal.returns-clause-time_some
returns-clause-time_some c = λ t h. time_text_some t

pub returns-clause-time : goal.returns-clause-time
returns-clause-time c = λ t h. All-from_recursion IsWordByte (time_template_text t) (time_prints t (made_time t h))
