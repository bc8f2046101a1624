use Rattle.form_urlencoded.specs.Parse.{raw_pairs_left}
use Rattle.idx_request.proofs.PairLemmas.{ScansUpTo}
use Rattle.idx_request.proofs.parameters.read_pairs.Given as goal

abbrev pub invariant-loop-name : goal.invariant-loop-name
invariant-loop-name l = ScansUpTo l.query (raw_pairs_left l.name-iterator) l.parameters
