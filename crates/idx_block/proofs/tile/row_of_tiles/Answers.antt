use Rattle.std.proofs.Common.{◌≡◌, ℕ, suc, ◌+◌, ◌*◌, List, sym, ap, ◌∙◌, subst, arith}
use Rattle.idx_lanes.specs.Spread.{next_part, part_after}
use Rattle.idx_lanes.specs.declared.lane.Lane.{Lane}
use Rattle.idx_lanes.specs.Copies.{AreMade, EachCopy, IsWanted, IsWithin}
use Rattle.idx_lanes.proofs.CopyLemmas.{begins_within, each-implied, so_far-all, so_far-more}
use Rattle.idx_block.specs.Tiles.{tile_lanes}
use Rattle.idx_block.proofs.TileLemmas.{tile-coordinates}
use Rattle.idx_block.proofs.tile.row_of_tiles.Goals as goal

pub overflow_mul-k : goal.overflow_mul-k
overflow_mul-k g c =
    let lane = c.args.lane.now in
    let tile = c.args.tile in
    let k : ℕ = c.loop-k.k in
    let begins = begins_within (g.S.Sample.bytes c.args.sample) c.args.samples.now c.args.into.now (tile_lanes tile.one tile.two tile.four) (c.args.from + k * lane.step) (c.args.place + part_after lane.bits lane.first k)
    (omega (arith, c.requires.some)) (tile-coordinates tile.one tile.two tile.four) (c.requires.within k c.loop-k-test.true) in
    omega (arith, begins.0)

pub overflow_add-from : goal.overflow_add-from
overflow_add-from g c =
    let lane = c.args.lane.now in
    let tile = c.args.tile in
    let k : ℕ = c.loop-k.k in
    let begins = begins_within (g.S.Sample.bytes c.args.sample) c.args.samples.now c.args.into.now (tile_lanes tile.one tile.two tile.four) (c.args.from + k * lane.step) (c.args.place + part_after lane.bits lane.first k)
    (omega (arith, c.requires.some)) (tile-coordinates tile.one tile.two tile.four) (c.requires.within k c.loop-k-test.true) in
    omega (arith, begins.0)

pub overflow_add-place : goal.overflow_add-place
overflow_add-place g c =
    let lane = c.args.lane.now in
    let tile = c.args.tile in
    let k : ℕ = c.loop-k.k in
    let begins = begins_within (g.S.Sample.bytes c.args.sample) c.args.samples.now c.args.into.now (tile_lanes tile.one tile.two tile.four) (c.args.from + k * lane.step) (c.args.place + part_after lane.bits lane.first k)
    (omega (arith, c.requires.some)) (tile-coordinates tile.one tile.two tile.four) (c.requires.within k c.loop-k-test.true) in
    omega (arith, begins.1, c.loop-k.invariant.part)

pub copy_tile-requires-clause-within : goal.copy_tile-requires-clause-within
copy_tile-requires-clause-within g c =
    let lane = c.args.lane.now in
    let tile = c.args.tile in
    let k : ℕ = c.loop-k.k in
    let lanes : List Lane = tile_lanes tile.one tile.two tile.four in
    let each : EachCopy (IsWithin (g.S.Sample.bytes c.args.sample) c.args.samples.now c.args.into.now) lanes (c.args.from + k * lane.step) (c.args.place + c.loop-k.part) =
    subst (λ (n : ℕ). EachCopy (IsWithin (g.S.Sample.bytes c.args.sample) c.args.samples.now c.args.into.now) lanes (c.args.from + k * lane.step) (c.args.place + n)) (sym c.loop-k.invariant.part)
    (c.requires.within k c.loop-k-test.true) in
    each-implied (IsWithin (g.S.Sample.bytes c.args.sample) c.args.samples.now c.args.into.now) (IsWithin (g.S.Sample.bytes c.args.sample) c.args.samples.now c.loop-k.into) (λ f o h. (h.0, omega (arith, h.1, c.loop-k.auto.into)))
    lanes (c.args.from + k * lane.step) (c.args.place + c.loop-k.part) each

pub loop-k-preserved : goal.loop-k-preserved
loop-k-preserved g c =
    let lane = c.args.lane.now in
    let tile = c.args.tile in
    let k : ℕ = c.loop-k.k in
    let lanes : List Lane = tile_lanes tile.one tile.two tile.four in
    let next : suc k ≡ k + 1 = omega arith in
    record {
      part = c.next_part-part.ensures ∙ ap (next_part lane.bits) c.loop-k.invariant.part ∙ ap (part_after lane.bits lane.first) next;
      made = λ want right.
          so_far-more want (g.S.Sample.bytes c.args.sample) lane lanes c.args.from c.args.place k c.args.into.now c.loop-k.into c.copy_tile.new.into (c.loop-k.invariant.made want right)
          (subst (λ (n : ℕ). AreMade want (g.S.Sample.bytes c.args.sample) lanes (c.args.from + k * lane.step) (c.args.place + n) c.loop-k.into c.copy_tile.new.into) c.loop-k.invariant.part
          (c.copy_tile.ensures want
          (subst (λ (n : ℕ). EachCopy (IsWanted want (g.S.Sample.bytes c.args.sample) c.args.samples.now) lanes (c.args.from + k * lane.step) (c.args.place + n)) (sym c.loop-k.invariant.part)
          (right k c.loop-k-test.true))));
    }

pub returns : goal.returns
returns g c = λ want right.
    let tile = c.args.tile in
    so_far-all want (g.S.Sample.bytes c.args.sample) c.args.lane.now (tile_lanes tile.one tile.two tile.four) c.args.from c.args.place c.loop-k.k c.args.into.now c.loop-k.into
    (omega (arith, c.loop-k-test.false)) (c.loop-k.invariant.made want right)
