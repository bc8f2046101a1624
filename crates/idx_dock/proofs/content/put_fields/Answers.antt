use Rattle.std.proofs.Common.{◌≡◌, ℕ, ◌+◌, ◌-◌, ◌<◌, List, length, sym, ap, ◌∙◌, arith}
use Rattle.std.specs.List.{flat_map, range_with_len}
use Rattle.idx_outside.specs.Contents.{appended}
use Rattle.idx_outside.proofs.ContentsLemmas.{appended-appended, appended-nil}
use Rattle.idx_dock.specs.Content.{field_among, runs_in}
use Rattle.idx_dock.proofs.ContentLemmas.{range_step}
use Rattle.idx_dock.proofs.content.put_fields.Goals as goal

pub loop-field-preserved : goal.loop-field-preserved
loop-field-preserved g c =
    let h = c.args.header.now in
    let draft = g.D.Draft in
    let field : ℕ = c.loop-field.field in
    let n : ℕ = length h.fields in
    let part : ℕ → List ℕ = field_among c.args.layout h c.args.file (runs_in c.args.awaited.now) in
    let before = appended (draft.contents c.loop-field.draft) c.loop-field.buffer.items in
    let rest : List ℕ = flat_map part (range_with_len (field + 1) (n - (field + 1))) in
    let exists : field < n = omega (arith, c.loop-field-test.true, c.field_count-field-end.ensures.count) in
    record {
      passed = omega arith;
      written = ap (λ o. appended o rest) c.in_ok-put_field.ensures.written
          ∙ appended-appended before (part field) rest
          ∙ ap (λ fields. appended before (flat_map part fields)) (sym (range_step field n exists))
          ∙ c.loop-field.invariant.written;
      quiet = c.in_ok-put_field.ensures.quiet ∙ c.loop-field.invariant.quiet;
      path = c.put_field.ensures.path ∙ c.loop-field.invariant.path;
    }

pub returns-clause-written : goal.returns-clause-written
returns-clause-written g c =
    let h = c.args.header.now in
    let draft = g.D.Draft in
    let part : ℕ → List ℕ = field_among c.args.layout h c.args.file (runs_in c.args.awaited.now) in
    let now = appended (draft.contents c.loop-field.draft) c.loop-field.buffer.items in
    let none : length h.fields - c.loop-field.field ≡ 0 = omega (arith, c.loop-field-test.false, c.field_count-field-end.ensures.count) in
    sym (appended-nil now) ∙ ap (λ n. appended now (flat_map part (range_with_len c.loop-field.field n))) (sym none) ∙ c.loop-field.invariant.written
