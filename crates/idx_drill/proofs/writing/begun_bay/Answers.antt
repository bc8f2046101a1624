use Rattle.std.proofs.Common.{◌≡◌, List, None, Option, Some, ap, sym, ◌∙◌, ℕ}
use Rattle.idx_header.specs.Header.{HeaderValue}
use Rattle.idx_header.specs.Names.{step_folder}
use Rattle.idx_drill.proofs.WritingLemmas.{folder-of}
use Rattle.idx_drill.proofs.writing.begun_bay.Goals as goal

pub unreachable-requires : goal.unreachable-requires
unreachable-requires c =
    let wrong : ◌≡◌ {A = Option (List ℕ)} None (Some (folder-of c.args.number).0) =
    sym c.in_default.is ∙ c.in_ok-folder.ensures ∙ ap (λ (h : HeaderValue). step_folder h 0) c.requires.header ∙ (folder-of c.args.number).1 in
    cc
