use Rattle.std.proofs.Common.{◌≡◌, length, true, false, sym, ◌∙◌}
use Rattle.idx_outside.specs.Files.{entry_shown, shown}
use Rattle.idx_edition.proofs.LookupLemmas.{block_within, leaf_exists, read_stored, shown_at, stands-has}
use Rattle.idx_edition.proofs.edition.EditionBlocks.fetch.Goals as goal

pub read_at-requires : goal.read_at-requires
read_at-requires g c =
    let contents = g.L.Leaf.contents in
    let self = c.args.self.now in
    let place = c.in-Some.place in
    let stands = c.in-Some.ensures.stands in
    let within = leaf_exists contents self.leaves.items self.tables c.args.field c.args.block place.file place.offset place.flags self.fits stands in
    block_within self.tables (shown contents self.leaves.items) c.args.field c.args.block place.file place.offset place.flags (length c.args.into.now) (entry_shown contents c.index.result.now)
    c.find.ensures.valid self.fits stands (shown_at contents self.leaves.items place.file c.index.result.now within c.index.ensures) c.requires.room

pub returns-clause-bytes : goal.returns-clause-bytes
returns-clause-bytes g c =
    let contents = g.L.Leaf.contents in
    let self = c.args.self.now in
    let place = c.in-Some.place in
    let stands = c.in-Some.ensures.stands in
    let within = leaf_exists contents self.leaves.items self.tables c.args.field c.args.block place.file place.offset place.flags self.fits stands in
    read_stored self.tables (shown contents self.leaves.items) c.args.field c.args.block place.file place.offset place.flags (length c.args.into.now) (entry_shown contents c.index.result.now) c.read_at.new.into
    c.put_in_hz_order.new.bytes
    c.find.ensures.valid self.fits stands (shown_at contents self.leaves.items place.file c.index.result.now within c.index.ensures) c.requires.room c.in_ok-read_at.ensures.read c.put_in_hz_order.ensures

pub returns-clause-absent : goal.returns-clause-absent
returns-clause-absent g c =
    let self = c.args.self.now in
    let place = c.in-Some.place in
    let has = stands-has self.tables c.args.field c.args.block place.file place.offset place.flags c.find.ensures.valid c.in-Some.ensures.stands in
    (λ e. absurd (cc), λ absent. let wrong : ◌≡◌ true false = sym has ∙ absent in absurd (cc))
