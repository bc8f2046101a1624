use Rattle.idx_serve.proofs.NewestLemmas.{gives-few, gives-newest}
use Rattle.idx_serve.proofs.laws.answers_are_of_the_newest_post.Goals as goal

pub returns-clause-few : goal.returns-clause-few
returns-clause-few c = λ tells site before asked last reply given few. gives-few tells site before asked last reply given few

pub returns-clause-newest : goal.returns-clause-newest
returns-clause-newest c = λ tells site before asked last reply given few behind. gives-newest tells site before asked last reply given few behind
