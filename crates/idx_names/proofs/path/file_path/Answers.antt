use Rattle.std.proofs.Common.{◌++◌, ap, ◌∙◌}
use Rattle.idx_names.specs.Path.{numbered, file_path}
use Rattle.idx_names.proofs.path.file_path.Goals as goal

pub returns : goal.returns
unfolding file_path
returns c =
    c.in_ok-append_numbered.ensures
    ∙ ap (λ above. above ++ numbered c.args.template.now.pieces c.args.file) (c.in_ok-name.ensures ∙ c.above.ensures)
