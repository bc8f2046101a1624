use Rattle.std.proofs.Common.{◌≡◌, length, drop, ap, sym, ◌∙◌, arith}
use Rattle.std.specs.List.{slice_range}
use Rattle.idx_http.proofs.ListLemmas.{length-window, slice_range-window}
use Rattle.idx_http.proofs.head.take_head.Goals as goal

pub of-requires-clause-in_range : goal.of-requires-clause-in_range
of-requires-clause-in_range c =
    let found = c.requires.1 in
    omega (arith, found.within, found.target_within.1, (length-window c.args.pending.now).0, ap length c.kept.ensures)

pub drop_front-requires : goal.drop_front-requires
drop_front-requires c = omega (arith, c.requires.1.within, (length-window c.args.pending.now).0)

pub returns : goal.returns
returns c =
    let kept = c.args.pending.now in
    let found = c.requires.1 in
    let span = c.args.found.now.target in
    let target : c.in-Ok.target ≡ c.requires.0.target =
    c.in-Ok.ensures ∙ c.of.ensures ∙ ap (λ t. slice_range t span.start span.end) c.kept.ensures
    ∙ sym (slice_range-window span.start span.end kept found.target_within.0 (omega (arith, found.within, found.target_within.1)))
    ∙ found.target in (
      c.requires.0,
      (
        record { rest = _; reads = found.reads },
        omega (arith, found.fields, c.if-found-gt-FIELD_LIMIT.false),
      ),
      (λ i. record { get = found.get i; body = found.body i; close = found.close i; target = target i }),
      c.drop_front.ensures ∙ ap (λ n. drop n kept) found.len,
      omega (arith, found.len, found.within, (length-window kept).0),
    )
