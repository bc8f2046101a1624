use Rattle.std.proofs.Common.{map, ap, ◌∙◌}
use Rattle.idx_dock.specs.Dock.{DockValue}
use Rattle.idx_gather.proofs.SealedLemmas.{named_more, numbered_more}
use Rattle.idx_gather.proofs.stream_sealing.seal_more.Goals as goal

pub returns-in_ok-number-in-Ok-clause-sealed : goal.returns-in_ok-number-in-Ok-clause-sealed
returns-in_ok-number-in-Ok-clause-sealed g c =
    numbered_more c.args.opening.now.layout g.B.Leaf.Leaf.contents c.args.opening.now.header c.args.opening.now.step (g.B.Bay.files c.args.bay.now) c.args.sealed.now.items c.number.new.sealed.items
    c.in_ok-numbers.numbers.items c.in-Ok.leaves.items c.args.docks.items c.in_ok-number-in-Ok.ensures
    (c.in_ok-numbers.ensures ∙ ap (map (λ (d : DockValue). d.file)) c.deref.ensures.value) c.in-Ok.ensures.leaves

pub returns-in_ok-number-in-Ok-clause-named : goal.returns-in_ok-number-in-Ok-clause-named
returns-in_ok-number-in-Ok-clause-named g c =
    named_more c.args.opening.now.layout g.B.Leaf.Leaf.contents c.args.opening.now.header c.args.opening.now.step (g.B.Bay.files c.args.bay.now) g.B.Leaf.Leaf.path c.args.sealed.now.items c.number.new.sealed.items
    c.in_ok-numbers.numbers.items c.in-Ok.leaves.items c.args.docks.items c.in_ok-number-in-Ok.ensures
    (c.in_ok-numbers.ensures ∙ ap (map (λ (d : DockValue). d.file)) c.deref.ensures.value) c.in-Ok.ensures.leaves c.in-Ok.ensures.named
