use Rattle.std.proofs.Common.{rules}
use Rattle.idx_convert.proofs.place.place_in.Goals as goal

pub returns-in_err-no_header-clause-cause : goal.returns-in_err-no_header-clause-cause
returns-in_err-no_header-clause-cause g c = λ k.
    let stop = c.in_err-no_header.ensures.cause c.args.step k in
    search rules

pub returns-in_err-written-clause-cause : goal.returns-in_err-written-clause-cause
returns-in_err-written-clause-cause g c = λ k.
    let stop = c.in_err-written.ensures.cause k in
    search rules
