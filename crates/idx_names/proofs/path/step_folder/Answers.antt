use Rattle.std.proofs.Common.{◌++◌, ap, ◌∙◌, append_assoc}
use Rattle.idx_names.specs.TimeTemplate.{folder_text, folder_name}
use Rattle.idx_names.specs.Path.{revision_mark, step_folder}
use Rattle.idx_names.proofs.path.step_folder.Goals as goal

pub returns : goal.returns
unfolding step_folder folder_name
returns c =
    c.in_ok-append_revision.ensures
    ∙ ap (λ path. path ++ revision_mark c.args.revision) c.in_ok-append_folder.ensures
    ∙ append_assoc _ (folder_text c.args.step c.pieces.result.now) (revision_mark c.args.revision)
    ∙ ap (λ above. above ++ (folder_text c.args.step c.pieces.result.now ++ revision_mark c.args.revision)) (c.in_ok-path.ensures ∙ c.above.ensures)
    ∙ ap (λ ps. c.args.template.now.above ++ (folder_text c.args.step ps ++ revision_mark c.args.revision)) c.pieces.ensures.same
