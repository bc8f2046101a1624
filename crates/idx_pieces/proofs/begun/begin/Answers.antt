use Rattle.std.proofs.Common.{ℕ, List, sym, subst, arith}
use Rattle.idx_geom.specs.Region.{HoldsAll}
use Rattle.idx_pieces.proofs.begun.begin.Goals as goal

pub at-cursor-requires : goal.at-cursor-requires
at-cursor-requires c = record {
  within = omega (arith, c.count.ensures.count, c.count.ensures.some);
  part = record {
    valid_box = c.axes.ensures.valid;
    valid = c.axes-2.ensures.valid;
    inside = subst (λ (b : List (ℕ × ℕ)). HoldsAll b c.args.region) (sym c.region-extent.ensures.value) c.requires;
  };
}
