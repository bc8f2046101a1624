use Rattle.std.proofs.Common.{◌∙◌, rules}
use Rattle.idx_geom.specs.Region.{HaveCommonPoint}
use Rattle.idx_geom.proofs.RegionSteps.{some_from_SomeIff}
use Rattle.idx_pieces.proofs.BoundsLemmas.{value_from_SomeIff}
use Rattle.idx_pieces.proofs.PartLemmas.{part_known, rank_counts}
use Rattle.idx_pieces.proofs.refusal.part_of.Goals as goal

pub rank_region-requires : goal.rank_region-requires
rank_region-requires c = rank_counts c.args.header.now c.args.piece.now c.args.rank c.region.result c.requires.piece c.requires.rank c.region.ensures.value

pub meet-requires : goal.meet-requires
meet-requires c =
    (part_known c.args.header.now c.args.piece.now c.args.rank c.region.result c.rank_region.result c.requires.piece c.requires.rank
    c.region.ensures.value c.rank_region.ensures).axes

pub unwrap-requires : goal.unwrap-requires
unwrap-requires c =
    let part = part_known c.args.header.now c.args.piece.now c.args.rank c.region.result c.rank_region.result c.requires.piece c.requires.rank
    c.region.ensures.value c.rank_region.ensures in
    rw (some_from_SomeIff c.meet.result _ c.meet.ensures.bounds part.common) (search rules)

pub returns : goal.returns
returns c =
    let part = part_known c.args.header.now c.args.piece.now c.args.rank c.region.result c.rank_region.result c.requires.piece c.requires.rank
    c.region.ensures.value c.rank_region.ensures in
    value_from_SomeIff (HaveCommonPoint c.rank_region.result c.args.piece.now.region) c.meet.result _ c.unwrap.result c.meet.ensures.bounds c.unwrap.ensures ∙ part.is
