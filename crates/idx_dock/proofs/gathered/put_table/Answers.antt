use Rattle.std.proofs.Common.{replicate, sym, ap, ◌∙◌}
use Rattle.std.specs.List.{flat_map}
use Rattle.idx_outside.specs.Contents.{appended}
use Rattle.idx_outside.proofs.ContentsLemmas.{appended-appended}
use Rattle.idx_layout.specs.Files.{rows_of_file}
use Rattle.idx_layout.specs.OfHeader.{placing_of}
use Rattle.idx_table.specs.Row.{row_bytes}
use Rattle.idx_dock.proofs.gathered.put_table.Goals as goal

pub loop-row-init : goal.loop-row-init
loop-row-init g c =
    let draft = g.D.Draft in
    let before = appended (draft.contents c.args.draft.now) c.args.buffer.now.items in
    let rows = rows_of_file c.args.layout (placing_of c.args.header.now) c.args.file in
    record {
      written = ap (λ o. appended o (flat_map row_bytes c.into_iter-row-iterator.result)) c.in_ok-put.ensures.written
          ∙ ap (λ left. appended (appended before (replicate 40 0)) (flat_map row_bytes left))
          (c.into_iter-row-iterator.ensures.into_iter_gives ∙ c.file_rows-row-items.ensures.rows)
          ∙ appended-appended before (replicate 40 0) (flat_map row_bytes rows);
      quiet = c.in_ok-put.ensures.quiet;
      path = c.put.ensures.path;
    }

pub loop-row-preserved : goal.loop-row-preserved
loop-row-preserved g c =
    let draft = g.D.Draft in
    let before = appended (draft.contents c.loop-row.draft) c.loop-row.buffer.items in
    record {
      written = ap (λ o. appended o (flat_map row_bytes c.next.new.self)) c.in_ok-put_row.ensures.written
          ∙ appended-appended before (row_bytes c.in-Some.row) (flat_map row_bytes c.next.new.self)
          ∙ ap (λ rows. appended before (flat_map row_bytes rows)) (sym c.in-Some.ensures.steps)
          ∙ c.loop-row.invariant.written;
      quiet = c.in_ok-put_row.ensures.quiet ∙ c.loop-row.invariant.quiet;
      path = c.put_row.ensures.path ∙ c.loop-row.invariant.path;
    }
