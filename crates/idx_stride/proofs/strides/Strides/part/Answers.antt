use Rattle.std.proofs.Common.{◌≡◌, ◌+◌, ◌*◌, [], ◌∷◌, ◌++◌, take, sym, ap, ◌∙◌, subst, arith}
use Rattle.idx_stride.specs.Parts.{walk_part}
use Rattle.idx_stride.specs.Strides.{Walk, IsStrides}
use Rattle.idx_stride.proofs.PartLemmas.{IsStrides-part, end_of-part}
use Rattle.idx_stride.proofs.strides.Strides.part.Goals as goal

pub overflow_mul-base : goal.overflow_mul-base
overflow_mul-base c =
    omega (arith, c.requires.valid.within, end_of-part c.args.self.now c.args.faster.now c.args.slowest.now c.args.from c.args.count c.requires.whole c.requires.some c.requires.within)

pub overflow_add-base : goal.overflow_add-base
overflow_add-base c =
    omega (
      arith,
      c.first.ensures.base,
      c.requires.valid.within,
      end_of-part c.args.self.now c.args.faster.now c.args.slowest.now c.args.from c.args.count c.requires.whole c.requires.some c.requires.within,
    )

pub new-requires : goal.new-requires
new-requires c =
    let w : Walk = c.args.self.now in
    let axes : take c.with_slowest-number.result.1 c.with_slowest-number.result.0 ≡ (walk_part w c.args.faster.now c.args.slowest.now c.args.from c.args.count).axes =
    c.with_slowest-number.ensures.axes ∙ ap (λ a. c.args.faster.now ++ a ∷ []) c.part.ensures in
    let same : (walk_part w c.args.faster.now c.args.slowest.now c.args.from c.args.count) ≡ record {
      base = c.first.result + c.args.from * c.args.slowest.now.step;
      size =
          c.size.result;
      coarse = c.leaves_out_coarse.result;
      axes = take c.with_slowest-number.result.1 c.with_slowest-number.result.0;
    } =
    λ i. record { base = sym c.first.ensures.base i + c.args.from * c.args.slowest.now.step; size = sym c.size.ensures.bytes i; coarse = sym c.leaves_out_coarse.ensures i; axes = sym axes i } in
    subst IsStrides same (IsStrides-part w c.args.faster.now c.args.slowest.now c.args.from c.args.count c.requires.whole c.requires.valid c.requires.some c.requires.within)
