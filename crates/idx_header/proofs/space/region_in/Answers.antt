use Rattle.idx_header.proofs.BoxLemmas.{are_kept}
use Rattle.idx_header.proofs.space.region_in.Goals as goal

pub region_of-requires-clause-region : goal.region_of-requires-clause-region
region_of-requires-clause-region c =
    rw c.kept.ensures.value (are_kept c.args.pairs.now c.args.mask.now c.requires.box_ends c.requires.mask c.requires.named c.requires.fits).region

pub region_of-requires-clause-small : goal.region_of-requires-clause-small
region_of-requires-clause-small c =
    rw c.kept.ensures.value (are_kept c.args.pairs.now c.args.mask.now c.requires.box_ends c.requires.mask c.requires.named c.requires.fits).small

pub returns-clause-covered : goal.returns-clause-covered
returns-clause-covered c =
    rw (c.region_of.ensures, c.kept.ensures.value)
    (are_kept c.args.pairs.now c.args.mask.now c.requires.box_ends c.requires.mask c.requires.named c.requires.fits).covered

pub returns-clause-whole : goal.returns-clause-whole
returns-clause-whole c =
    rw (c.region_of.ensures, c.kept.ensures.value)
    (are_kept c.args.pairs.now c.args.mask.now c.requires.box_ends c.requires.mask c.requires.named c.requires.fits).whole
