use Rattle.std.proofs.Common.{sym, ◌∙◌}
use Rattle.idx_convert.proofs.NextLemmas.{folder_exists}
use Rattle.idx_convert.proofs.place.folder_of.Goals as goal

pub unreachable-requires : goal.unreachable-requires
unreachable-requires c =
    folder_exists c.args.header.now c.args.step c.requires.timed (sym c.in_ok-folder.ensures ∙ c.in_default.is)
