use Rattle.std.proofs.Common.{◌≡◌, ℕ, ◌++◌, List, replicate, ap, ◌∙◌}
use Rattle.std.specs.List.{flat_map}
use Rattle.idx_outside.specs.Contents.{appended}
use Rattle.idx_outside.proofs.ContentsLemmas.{appended-appended, appended-nil}
use Rattle.idx_layout.specs.Files.{rows_of_file}
use Rattle.idx_layout.specs.OfHeader.{placing_of}
use Rattle.idx_table.specs.Row.{row_bytes}
use Rattle.idx_dock.specs.Content.{fields_among, file_among, runs_in}
use Rattle.idx_dock.proofs.ContentLemmas.{IfOk-from}
use Rattle.idx_dock.proofs.content.write_file.Goals as goal

pub returns-clause-written : goal.returns-clause-written
returns-clause-written g c =
    let h = c.args.header.now in
    let draft = g.D.Draft in
    let old = draft.contents c.args.draft.now in
    let now = draft.contents c.flush.new.draft in
    let table : List ℕ = replicate 40 0 ++ flat_map row_bytes (rows_of_file c.args.layout (placing_of h) c.args.file) in
    let blocks : List ℕ = fields_among c.args.layout h c.args.file (runs_in c.args.awaited.now) in
    IfOk-from c.flush.result (λ _. now ≡ appended (draft.contents c.put_fields.new.draft) c.put_fields.new.buffer.items)
    (λ _. now ≡ appended old (file_among c.args.layout h c.args.file (runs_in c.args.awaited.now)))
    (λ _ w. w ∙ c.in_ok-put_fields.ensures.written
    ∙ ap (λ o. appended o blocks) c.in_ok-put_table.ensures.written
    ∙ ap (λ b. appended (appended (appended old b) table) blocks) c.requires.empty
    ∙ ap (λ o. appended (appended o table) blocks) (appended-nil old)
    ∙ appended-appended old table blocks)
    c.flush.ensures.written
