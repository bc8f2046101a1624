use Rattle.std.proofs.Common.{refl}
use Rattle.form_urlencoded.specs.Parse.{raw_pairs_left}
use Rattle.idx_request.specs.Pairs.{Pair, decoded}
use Rattle.idx_request.proofs.PairLemmas.{scan_push}
use Rattle.idx_request.proofs.parameters.read_pairs.Goals as goal

pub loop-name-preserved : goal.loop-name-preserved
loop-name-preserved c =
    let raw : Pair = (c.in-Some.name.now, c.in-Some.value.now) in
    scan_push c.args.query.now (raw_pairs_left c.loop-name.name-iterator) (raw_pairs_left c.next.new.self) raw (decoded raw)
    c.loop-name.parameters c.in_ok-parameters.parameters c.loop-name.invariant c.in-Some.ensures.steps refl c.in_ok-parameters.ensures
