use Rattle.std.proofs.Common.{ℕ, List, length, sym, ap, refl, ◌∙◌}
use Rattle.std.specs.List.{flat_map}
use Rattle.idx_outside.specs.Contents.{appended}
use Rattle.idx_outside.proofs.ContentsLemmas.{appended-appended}
use Rattle.idx_dock.specs.Content.{runs_in, stored_among}
use Rattle.idx_dock.proofs.ContentLemmas.{ahead_all, ahead_next, ahead_passed}
use Rattle.idx_dock.proofs.content.put_field.Goals as goal

pub loop-block-init : goal.loop-block-init
loop-block-init g c =
    let h = c.args.header.now in
    let draft = g.D.Draft in
    let all = c.into_iter-block-iterator.ensures.into_iter_gives ∙ c.file_blocks-block-items.ensures.value in
    let before = appended (draft.contents c.args.draft.now) c.args.buffer.now.items in
    record {
      ahead = ahead_all h c.args.file c.args.field (length c.args.passed.now) c.args.awaited.now c.reset.new.passed c.into_iter-block-iterator.result c.requires.writable.header c.requires.passed c.reset.ensures all;
      written = ap (λ blocks. appended before (flat_map (stored_among c.args.layout h (runs_in c.args.awaited.now) c.args.field) blocks)) all;
      quiet = refl;
      path = refl;
    }

pub put_stored-requires-clause-passed : goal.put_stored-requires-clause-passed
put_stored-requires-clause-passed g c =
    (ahead_passed c.args.header.now c.args.field c.args.awaited.now c.loop-block.passed c.loop-block.block-iterator c.next.new.self c.in-Some.block c.in-Some.ensures.steps c.loop-block.invariant.ahead).1

pub put_stored-requires-clause-exists : goal.put_stored-requires-clause-exists
put_stored-requires-clause-exists g c =
    (ahead_passed c.args.header.now c.args.field c.args.awaited.now c.loop-block.passed c.loop-block.block-iterator c.next.new.self c.in-Some.block c.in-Some.ensures.steps c.loop-block.invariant.ahead).0

pub loop-block-preserved : goal.loop-block-preserved
loop-block-preserved g c =
    let h = c.args.header.now in
    let draft = g.D.Draft in
    let block : ℕ → List ℕ = stored_among c.args.layout h (runs_in c.args.awaited.now) c.args.field in
    let before = appended (draft.contents c.loop-block.draft) c.loop-block.buffer.items in
    let first = c.in-Some.ensures.steps in
    record {
      ahead = ahead_next h c.args.field c.args.awaited.now c.loop-block.passed c.put_stored.new.passed c.loop-block.block-iterator c.next.new.self c.in-Some.block first c.loop-block.invariant.ahead
          c.in_ok-put_stored.ensures.passed;
      written = ap (λ o. appended o (flat_map block c.next.new.self)) c.in_ok-put_stored.ensures.written
          ∙ appended-appended before (block c.in-Some.block) (flat_map block c.next.new.self)
          ∙ ap (λ blocks. appended before (flat_map block blocks)) (sym first)
          ∙ c.loop-block.invariant.written;
      quiet = c.in_ok-put_stored.ensures.quiet ∙ c.loop-block.invariant.quiet;
      path = c.put_stored.ensures.path ∙ c.loop-block.invariant.path;
    }
