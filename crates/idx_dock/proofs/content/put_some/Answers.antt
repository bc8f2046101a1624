use Rattle.std.proofs.Common.{◌≡◌, ℕ, ◌-◌, ◌*◌, ◌≤◌, List, Some, min, replicate, sym, ap, ◌∙◌, arith}
use Rattle.std.specs.Prelude.{slice_range}
use Rattle.std.specs.List.{flat_map, range_with_len}
use Rattle.idx_outside.specs.Contents.{appended}
use Rattle.idx_header.specs.Header.{sample_bytes_of}
use Rattle.idx_pieces.specs.declared.run.Run.{Run}
use Rattle.idx_pieces.specs.Runs.{IsRun}
use Rattle.idx_dock.specs.Content.{runs_in, sample_among}
use Rattle.idx_dock.specs.Next.{end_of}
use Rattle.idx_dock.proofs.NextLemmas.{left_is}
use Rattle.idx_dock.proofs.WriteLemmas.{samples_gap, samples_none, samples_run}
use Rattle.idx_dock.proofs.ContentLemmas.{IfOk-two, one_of_all}
use Rattle.idx_dock.proofs.content.put_some.Goals as goal

pub returns-in_default-clause-written : goal.returns-in_default-clause-written
returns-in_default-clause-written g c =
    let h = c.args.header.now in
    let field = c.args.field in
    let from = c.args.from in
    let end = c.args.end in
    let runs = runs_in c.args.awaited.now in
    let draft = g.D.Draft in
    let before = appended (draft.contents c.args.draft.now) c.args.buffer.now.items in
    let after = appended (draft.contents c.put_gap.new.draft) c.put_gap.new.buffer.items in
    let f : ℕ → List ℕ = sample_among h runs field in
    IfOk-two c.put_gap.result (λ at. at ≡ end) (λ _. after ≡ appended before (replicate (sample_bytes_of h field * (end - from)) 0))
    (λ to. after ≡ appended before (flat_map f (range_with_len from (to - from))))
    (λ to is w. w ∙ ap (appended before) (sym (samples_none h field from end runs c.in_default.ensures.next))
    ∙ ap (λ n. appended before (flat_map f (range_with_len from (n - from)))) (sym is))
    c.put_gap.ensures.to c.put_gap.ensures.written

pub returns-then-run-from-clause-written : goal.returns-then-run-from-clause-written
returns-then-run-from-clause-written g c =
    let h = c.args.header.now in
    let field = c.args.field in
    let from = c.args.from in
    let end = c.min.result in
    let run = c.in-Some.run'.now in
    let runs = runs_in c.args.awaited.now in
    let draft = g.D.Draft in
    let before = appended (draft.contents c.args.draft.now) c.args.buffer.now.items in
    let after = appended (draft.contents c.put_gap-then-run-from.new.draft) c.put_gap-then-run-from.new.buffer.items in
    let f : ℕ → List ℕ = sample_among h runs field in
    let within : end ≤ run.first = omega (arith, c.min.ensures) in
    IfOk-two c.put_gap-then-run-from.result (λ at. at ≡ end) (λ _. after ≡ appended before (replicate (sample_bytes_of h field * (end - from)) 0))
    (λ to. after ≡ appended before (flat_map f (range_with_len from (to - from))))
    (λ to is w. w ∙ ap (appended before) (sym (samples_gap h field from end runs (Some run) c.in-Some.ensures.next
    (λ r same. (let one : run ≡ r = cc in let first : run.first ≡ r.first = ap (λ (x : Run). x.first) one in omega (arith, within)))))
    ∙ ap (λ n. appended before (flat_map f (range_with_len from (n - from)))) (sym is))
    c.put_gap-then-run-from.ensures.to c.put_gap-then-run-from.ensures.written

pub put_run-requires-clause-run : goal.put_run-requires-clause-run
put_run-requires-clause-run g c =
    one_of_all (IsRun c.args.header.now c.args.file) c.args.awaited.now c.in-Some.run'.now c.requires.writable.runs c.in-Some.ensures.next.1

pub returns-clause-written : goal.returns-clause-written
returns-clause-written g c =
    let h = c.args.header.now in
    let field = c.args.field in
    let from = c.args.from in
    let end = c.args.end in
    let run = c.in-Some.run'.now in
    let runs = runs_in c.args.awaited.now in
    let draft = g.D.Draft in
    let before = appended (draft.contents c.args.draft.now) c.args.buffer.now.items in
    let after = appended (draft.contents c.put_run.new.draft) c.put_run.new.buffer.items in
    let f : ℕ → List ℕ = sample_among h runs field in
    let size : ℕ = sample_bytes_of h run.field in
    let left = (left_is h field from run c.in-Some.ensures.next.0).1 in
    IfOk-two c.put_run.result (λ to. to ≡ min (end_of h run) end) (λ to. after ≡ appended before (slice_range run.bytes (size * (from - run.first)) (size * (to - run.first))))
    (λ to. after ≡ appended before (flat_map f (range_with_len from (to - from))))
    (λ to is w. (let far : from ≤ to = omega (arith, is, left, c.requires.from) in
    let near : to ≤ end_of h run = omega (arith, is) in
    w ∙ ap (appended before) (sym (samples_run h field from to runs run c.requires.writable.apart c.in-Some.ensures.next c.if-run-from.false far near))))
    c.put_run.ensures.to c.put_run.ensures.written
