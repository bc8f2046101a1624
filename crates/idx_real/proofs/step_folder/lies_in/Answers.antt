-- The path's front is compared with the folder's name, and then its next byte with a slash.
use Rattle.std.proofs.Common.{arith, sym, ◌∙◌, length, take}
use Rattle.std.proofs.lemmas.Grind.{common_steps}
use Rattle.std.proofs.lemmas.Slice.Eq.{bytes_eq-Decides}
use Rattle.idx_real.proofs.FolderLemmas.{LiesIn-by_slash, LiesIn-other}
use Rattle.idx_real.proofs.step_folder.lies_in.Goals as goal

pub returns-then-eq-clause-lies : goal.returns-then-eq-clause-lies
returns-then-eq-clause-lies c =
    let front = (bytes_eq-Decides (take (length c.args.folder.now) c.args.path.now) c.args.folder.now).0 (sym c.eq.ensures ∙ c.if-eq.true) in
    LiesIn-by_slash c.args.folder.now c.args.path.now (grind (arith, common_steps)) front

pub returns-else-eq-clause-lies : goal.returns-else-eq-clause-lies
returns-else-eq-clause-lies c =
    let same = (bytes_eq-Decides (take (length c.args.folder.now) c.args.path.now) c.args.folder.now).1 in
    let other = LiesIn-other c.args.folder.now c.args.path.now (λ front. grind (arith, common_steps, c.eq.ensures, c.if-eq.false, same front)) in
    (λ h. grind (arith, common_steps, h), λ h. absurd (other h))
