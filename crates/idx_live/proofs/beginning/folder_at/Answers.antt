use Rattle.std.proofs.Common.{◌∙◌, subst, sym}
use Rattle.std.specs.Prelude.{IsSome}
use Rattle.idx_header.specs.Header.{HeaderValue}
use Rattle.idx_convert.proofs.NextLemmas.{folder_exists}
use Rattle.idx_live.proofs.beginning.folder_at.Goals as goal

pub unreachable-requires : goal.unreachable-requires
unreachable-requires c =
    folder_exists c.in_ok-written.written c.args.time
    (subst (λ (w : HeaderValue). IsSome w.steps) (sym c.in_ok-written.ensures) c.requires.timed)
    (sym c.in_ok-folder.ensures ∙ c.in_default.is)
