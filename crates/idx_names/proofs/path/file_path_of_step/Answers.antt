use Rattle.std.proofs.Common.{[], ◌∷◌, ◌++◌, ap, ◌∙◌, append_assoc}
use Rattle.idx_names.specs.Path.{numbered, step_folder, file_path}
use Rattle.idx_names.proofs.path.file_path_of_step.Goals as goal

pub returns : goal.returns
unfolding file_path
returns c =
    c.in_ok-append_numbered.ensures
    ∙ ap (λ path. path ++ numbered c.args.template.now.pieces c.args.file) (c.in_ok-push.ensures.ok ∙ ap (λ path. path ++ 47 ∷ []) c.in_ok-path.ensures)
    ∙ append_assoc (step_folder c.args.template.now c.args.time.now c.args.step c.args.revision) (47 ∷ []) (numbered c.args.template.now.pieces c.args.file)
