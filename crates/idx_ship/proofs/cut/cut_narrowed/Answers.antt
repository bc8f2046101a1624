use Rattle.std.proofs.Common.{ℕ, List, length, sym, subst, arith}
use Rattle.std.specs.Prelude.{OnOk}
use Rattle.std.proofs.lemmas.List.{length-map}
use Rattle.idx_hz.specs.Mask.{NamesAxes}
use Rattle.idx_ship.specs.Spans.{AreAdded, IsSpan, block_addresses}
use Rattle.idx_ship.proofs.CutLemmas.{added_one}
use Rattle.idx_ship.proofs.PrefixLemmas.{part_of, part_whole}
use Rattle.idx_ship.proofs.cut.cut_narrowed.Goals as goal

pub returns-then-prefix : goal.returns-then-prefix
returns-then-prefix c =
    let mask : List ℕ = c.args.mask.now in
    let region : List (ℕ × ℕ) = c.args.region.now in
    let part = part_of mask region c.args.prefix.now c.args.bits c.args.number c.requires.prefix c.requires.bits c.requires.exists c.in-Some.part c.in-Some.ensures in
    let named : NamesAxes mask (length region) = subst (NamesAxes mask) (length-map region (λ (b : ℕ × ℕ). b.1)) c.requires.address.named in
    let span : IsSpan mask c.in-Some.part = record {
      few = omega (arith, part.within, c.requires.few);
      within = omega (arith, part.within, c.requires.bits);
      exists = part.exists;
    } in
    subst (AreAdded mask (block_addresses mask region c.args.bits c.args.number) c.args.spans.now.items) (sym c.in_ok-push.ensures.items)
    (added_one mask (block_addresses mask region c.args.bits c.args.number) c.args.spans.now.items c.in-Some.part
    (part_whole mask region c.args.prefix.now c.args.bits c.args.number c.requires.prefix c.requires.bits c.requires.exists c.in-Some.part c.in-Some.ensures named c.if-prefix.true) span)

pub cut-requires-clause-exists : goal.cut-requires-clause-exists
cut-requires-clause-exists c =
    (part_of c.args.mask.now c.args.region.now c.args.prefix.now c.args.bits c.args.number c.requires.prefix c.requires.bits c.requires.exists c.in-Some.part c.in-Some.ensures).exists

pub returns : goal.returns
returns c =
    let part = part_of c.args.mask.now c.args.region.now c.args.prefix.now c.args.bits c.args.number c.requires.prefix c.requires.bits c.requires.exists c.in-Some.part c.in-Some.ensures in
    subst (λ (more : List ℕ). OnOk c.cut.result (AreAdded c.args.mask.now more c.args.spans.now.items c.cut.new.spans.items)) (sym part.same) c.cut.ensures
