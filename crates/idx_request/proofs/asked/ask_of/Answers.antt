use Rattle.std.proofs.Common.{codes}
use Rattle.idx_request.specs.Pairs.{values}
use Rattle.idx_request.proofs.AskLemmas.{ask_read, behind_levels, box_refused, err_same, field_refused, singles, time_refused}
use Rattle.idx_request.proofs.asked.ask_of.Goals as goal

pub returns : goal.returns
returns c pairs kept single =
    let once = singles pairs single in
    let field = c.in_ok-field.ensures (values (codes "field") pairs) kept.field once.field in
    ask_read c.args.header.now pairs _ field.0 (record {
      time = c.in_ok-time.ensures (values (codes "time") pairs) kept.time once.time;
      field = field.1;
      region = c.in_ok-region.ensures (values (codes "box") pairs) kept.region once.region;
      levels = c.in_ok-lo.ensures pairs kept single;
    })

pub returns-in_err-field : goal.returns-in_err-field
returns-in_err-field c pairs kept single =
    field_refused c.args.header.now pairs _ c.from_residual.result c.in_err-field.field-0.0 (err_same c.from_residual.result c.in_err-field.field-0.0 c.from_residual.ensures.1)
    (c.in_err-field.ensures (values (codes "field") pairs) kept.field (singles pairs single).field) (λ unnamed. unnamed)

pub returns-in_err-time : goal.returns-in_err-time
returns-in_err-time c pairs kept single =
    let once = singles pairs single in
    let field = c.in_ok-field.ensures (values (codes "field") pairs) kept.field once.field in
    time_refused c.args.header.now pairs _ c.from_residual-in_err-time.result c.in_err-time.field-0.0 (err_same c.from_residual-in_err-time.result c.in_err-time.field-0.0 c.from_residual-in_err-time.ensures.1) field.0
    (c.in_err-time.ensures (values (codes "time") pairs) kept.time once.time) (λ none. none)

pub returns-in_err-region : goal.returns-in_err-region
returns-in_err-region c pairs kept single =
    let once = singles pairs single in
    let field = c.in_ok-field.ensures (values (codes "field") pairs) kept.field once.field in
    let time = c.in_ok-time.ensures (values (codes "time") pairs) kept.time once.time in
    box_refused c.args.header.now pairs _ c.from_residual-in_err-region.result c.in_err-region.field-0.0 (err_same c.from_residual-in_err-region.result c.in_err-region.field-0.0 c.from_residual-in_err-region.ensures.1) field.0
    c.in_ok-time.time time (c.in_err-region.ensures (values (codes "box") pairs) kept.region once.region) (λ wrong. wrong)

pub returns-in_err-lo : goal.returns-in_err-lo
returns-in_err-lo c pairs kept single =
    let once = singles pairs single in
    let field = c.in_ok-field.ensures (values (codes "field") pairs) kept.field once.field in
    let time = c.in_ok-time.ensures (values (codes "time") pairs) kept.time once.time in
    let region = c.in_ok-region.ensures (values (codes "box") pairs) kept.region once.region in
    behind_levels c.args.header.now pairs _ c.from_residual-in_err-lo.result c.in_err-lo.field-0.0 (err_same c.from_residual-in_err-lo.result c.in_err-lo.field-0.0 c.from_residual-in_err-lo.ensures.1) field.0
    c.in_ok-time.time time c.in_ok-region.region region (c.in_err-lo.ensures pairs kept single) (λ wrong. wrong)
