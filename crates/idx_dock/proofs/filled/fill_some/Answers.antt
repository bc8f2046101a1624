use Rattle.std.proofs.Common.{◌≡◌, ℕ, ◌-◌, ◌*◌, ◌≤◌, ◌++◌, List, Some, sym, ap, ◌∙◌, arith}
use Rattle.std.specs.List.{flat_map, range_with_len}
use Rattle.std.proofs.Math.Nat.{mul-le-mul_left}
use Rattle.idx_header.specs.Header.{sample_bytes_of}
use Rattle.idx_pieces.specs.declared.run.Run.{Run}
use Rattle.idx_pieces.specs.Runs.{IsRun}
use Rattle.idx_dock.specs.Content.{runs_in, sample_among}
use Rattle.idx_dock.specs.Next.{end_of}
use Rattle.idx_dock.proofs.NextLemmas.{left_is}
use Rattle.idx_dock.proofs.WriteLemmas.{samples_gap, samples_none, samples_run}
use Rattle.idx_dock.proofs.ContentLemmas.{one_of_all}
use Rattle.idx_dock.proofs.filled.fill_some.Goals as goal

pub returns-in_default-clause-filled : goal.returns-in_default-clause-filled
returns-in_default-clause-filled c =
    let h = c.args.header.now in
    let field : ℕ = c.args.field in
    let from : ℕ = c.args.from in
    let runs = runs_in c.args.awaited.now in
    let old : List ℕ = c.args.bytes.now.items in
    c.fill_gap.ensures.filled
    ∙ ap (λ xs. old ++ xs) (sym (samples_none h field from c.args.end runs c.in_default.ensures.next)
    ∙ ap (λ n. flat_map (sample_among h runs field) (range_with_len from (n - from))) (sym c.fill_gap.ensures.to))

pub fill_gap-requires-then-run-from-clause-room : goal.fill_gap-requires-then-run-from-clause-room
fill_gap-requires-then-run-from-clause-room c =
    let size : ℕ = sample_bytes_of c.args.header.now c.args.field in
    let less : c.min.result - c.args.from ≤ c.args.end - c.args.from = omega (arith, c.min.ensures) in
    let most : size * (c.min.result - c.args.from) ≤ size * (c.args.end - c.args.from) = mul-le-mul_left size less in
    omega (arith, most, c.requires.room)

pub returns-then-run-from-clause-filled : goal.returns-then-run-from-clause-filled
returns-then-run-from-clause-filled c =
    let h = c.args.header.now in
    let field : ℕ = c.args.field in
    let from : ℕ = c.args.from in
    let end : ℕ = c.min.result in
    let run : Run = c.in-Some.run'.now in
    let runs = runs_in c.args.awaited.now in
    let old : List ℕ = c.args.bytes.now.items in
    let within : end ≤ run.first = omega (arith, c.min.ensures) in
    c.fill_gap-then-run-from.ensures.filled
    ∙ ap (λ xs. old ++ xs) (sym (samples_gap h field from end runs (Some run) c.in-Some.ensures.next
    (λ r same. (let one : run ≡ r = cc in let first : run.first ≡ r.first = ap (λ (x : Run). x.first) one in omega (arith, within))))
    ∙ ap (λ n. flat_map (sample_among h runs field) (range_with_len from (n - from))) (sym c.fill_gap-then-run-from.ensures.to))

pub fill_run-requires-clause-run : goal.fill_run-requires-clause-run
fill_run-requires-clause-run c =
    one_of_all (IsRun c.args.header.now c.args.file) c.args.awaited.now c.in-Some.run'.now c.requires.writable.runs c.in-Some.ensures.next.1

pub returns-clause-filled : goal.returns-clause-filled
returns-clause-filled c =
    let h = c.args.header.now in
    let field : ℕ = c.args.field in
    let from : ℕ = c.args.from in
    let to : ℕ = c.fill_run.result in
    let run : Run = c.in-Some.run'.now in
    let old : List ℕ = c.args.bytes.now.items in
    let left = (left_is h field from run c.in-Some.ensures.next.0).1 in
    let far : from ≤ to = omega (arith, c.fill_run.ensures.to, left, c.requires.from) in
    let near : to ≤ end_of h run = omega (arith, c.fill_run.ensures.to) in
    c.fill_run.ensures.filled
    ∙ ap (λ xs. old ++ xs) (sym (samples_run h field from to (runs_in c.args.awaited.now) run c.requires.writable.apart c.in-Some.ensures.next c.if-run-from.false far near))
