use Rattle.std.proofs.Common.{ℕ, ◌<◌, List, length, sym, ap, subst, ◌∙◌, arith}
use Rattle.std.proofs.Math.Logic.{∥∥₁_elim, ∥∥₁_map}
use Rattle.std.specs.Coded.{le_prop}
use Rattle.idx_outside.specs.Files.{AllLieIn, AllNamed, HasStep, shown}
use Rattle.idx_layout.specs.Step.{step_files, volume_of_raw}
use Rattle.idx_edition.specs.Tables.{TablesValue, has_in_tables, shape_in, stored_in}
use Rattle.idx_edition.proofs.ReadsLemmas.{on_err}
use Rattle.idx_gather.proofs.CommitLemmas.{files_added, same_shown, step_added, step_left, step_written}
use Rattle.idx_gather.proofs.EditionLemmas.{HoldsAny, holds_added, is_volume}
use Rattle.idx_gather.proofs.StepLemmas.{files_lie, folder_exists}
use Rattle.idx_gather.proofs.ToldLemmas.{lie_fact, lie_told, some_told, step_told, written_told}
use Rattle.idx_gather.proofs.committing.commit_leaves.Goals as goal

pub unreachable-requires : goal.unreachable-requires
unreachable-requires g c =
    folder_exists c.args.header.now c.args.step c.requires.folder.timed (sym c.in_ok-folder.ensures ∙ c.in_default.is)

pub of_leaves_as-requires : goal.of_leaves_as-requires
of_leaves_as-requires g c = record {
  written = ∥∥₁_map c.requires.whole
      (λ are. (are.volume, written_told c.args.layout c.args.header.now c.args.step (shown g.B.Leaf.Leaf.contents c.args.leaves.items) are));
}

pub commit-requires-clause-some : goal.commit-requires-clause-some
commit-requires-clause-some g c =
    let some : 0 < length c.leaves.result.now.items =
    subst (λ leaves. 0 < length leaves) (sym (c.leaves.ensures ∙ c.in_ok-edition.ensures.leaves))
    (∥∥₁_elim c.requires.whole le_prop (some_told c.args.layout g.B.Leaf.Leaf.contents c.args.header.now c.args.step c.args.leaves.items c.in_ok-edition.ensures.valid)) in
    omega (arith, some, c.leaves.result.now.ok)

pub commit-requires-clause-named : goal.commit-requires-clause-named
commit-requires-clause-named g c =
    subst (AllNamed g.B.Leaf.Leaf.path) (sym (c.leaves.ensures ∙ c.in_ok-edition.ensures.leaves)) c.requires.named

pub commit-requires-clause-new : goal.commit-requires-clause-new
commit-requires-clause-new g c = λ files known committed.
    let stands = sym c.in_ok-folder.ensures ∙ c.in-Some.is in
    c.requires.new c.in-Some.folder stands files known (subst (λ (f : List ℕ). HasStep f files) c.as_slice.ensures committed)

pub commit-requires-clause-within : goal.commit-requires-clause-within
commit-requires-clause-within g c = λ files known.
    let h = c.args.header.now in
    let stands = sym c.in_ok-folder.ensures ∙ c.in-Some.is in
    subst (λ leaves. AllLieIn c.as_slice.result.now leaves) (sym (c.leaves.ensures ∙ c.in_ok-edition.ensures.leaves))
    (subst (λ (f : List ℕ). AllLieIn f c.args.leaves.items) (sym c.as_slice.ensures)
    (∥∥₁_elim c.requires.whole (lie_fact c.in-Some.folder c.args.leaves.items)
    (λ are. lie_told g.B.Leaf.Leaf.contents c.in-Some.folder c.args.leaves.items (step_files c.args.layout h are.volume c.args.step) are.tell
    (files_lie c.args.layout h are.volume c.args.step c.in-Some.folder stands))))

pub returns-in_err-commit-clause-whole : goal.returns-in_err-commit-clause-whole
returns-in_err-commit-clause-whole g c =
    on_err c.from_residual-in_err-commit.result _
    (step_left c.args.layout g.B.Leaf.Leaf.contents c.args.header.now c.args.step (g.B.Bay.files c.args.bay.now) c.args.leaves.items
    c.in-Some.folder c.as_slice.result.now c.leaves.result.now.items (g.B.Bay.files c.commit.new.self)
    (sym c.in_ok-folder.ensures ∙ c.in-Some.is) c.as_slice.ensures (c.leaves.ensures ∙ c.in_ok-edition.ensures.leaves) c.in_err-commit.ensures.whole)

pub returns-clause-added : goal.returns-clause-added
returns-clause-added g c = λ raw is.
    step_added c.args.layout g.B.Leaf.Leaf.contents c.args.header.now c.args.step (g.B.Bay.files c.args.bay.now) c.args.leaves.items
    c.in-Some.folder c.as_slice.result.now c.leaves.result.now.items (g.B.Bay.files c.commit.new.self)
    (sym c.in_ok-folder.ensures ∙ c.in-Some.is) c.as_slice.ensures (c.leaves.ensures ∙ c.in_ok-edition.ensures.leaves) raw is c.in_ok-commit.ensures.stands

pub returns-clause-blocks : goal.returns-clause-blocks
returns-clause-blocks g c = λ raw is.
    c.in_ok-edition.ensures.stored (volume_of_raw c.args.header.now raw)
    (step_written c.args.layout g.B.Leaf.Leaf.contents c.args.header.now c.args.step (g.B.Bay.files c.args.bay.now) c.args.leaves.items raw is)

pub returns-clause-some : goal.returns-clause-some
returns-clause-some g c = λ tell. ∥∥₁_map c.requires.whole (λ are.
    let one = step_told c.args.layout c.args.header.now c.args.step (g.B.Bay.files c.args.bay.now) (shown g.B.Leaf.Leaf.contents c.args.leaves.items) are tell in (
      one.0,
      (
        one.1.whole,
        tt,
        step_added c.args.layout g.B.Leaf.Leaf.contents c.args.header.now c.args.step (g.B.Bay.files c.args.bay.now) c.args.leaves.items
            c.in-Some.folder c.as_slice.result.now c.leaves.result.now.items (g.B.Bay.files c.commit.new.self)
            (sym c.in_ok-folder.ensures ∙ c.in-Some.is) c.as_slice.ensures (c.leaves.ensures ∙ c.in_ok-edition.ensures.leaves) one.0 one.1 c.in_ok-commit.ensures.stands,
      ),
    ))

pub returns-clause-holds : goal.returns-clause-holds
returns-clause-holds g c = λ raw is.
    let h = c.args.header.now in
    let step = c.args.step in
    let contents = g.B.Leaf.Leaf.contents in
    let old = g.B.Bay.files c.args.bay.now in
    let volume = volume_of_raw h raw in
    let new = g.B.Bay.files c.commit.new.self in
    let folder = c.in-Some.folder in
    let edition = c.in_ok-edition.edition in
    let leaves = shown contents edition.leaves.items in
    let tables : TablesValue = edition.tables in
    let held : HoldsAny c.args.layout h step volume (shape_in tables) (has_in_tables tables) (stored_in tables leaves) leaves = record {
      any = λ files has same.
          c.in_ok-edition.ensures.holds volume files (is_volume h raw is.whole) has
          (ap (shown contents) (sym c.in_ok-edition.ensures.leaves) ∙ same);
    } in
    holds_added c.args.layout h step c.in_ok-edition.ensures.valid c.requires.folder.has volume folder (shape_in tables) (has_in_tables tables) (stored_in tables leaves) leaves held
    old new
    (same_shown c.args.layout contents h step old c.args.leaves.items raw is edition.leaves.items c.in_ok-edition.ensures.leaves)
    (files_added c.args.layout contents h step old c.args.leaves.items folder c.as_slice.result.now c.leaves.result.now.items new
    (sym c.in_ok-folder.ensures ∙ c.in-Some.is) c.as_slice.ensures (c.leaves.ensures ∙ c.in_ok-edition.ensures.leaves) raw is c.in_ok-commit.ensures.stands)
