use Rattle.std.proofs.Common.{◌≡◌, ℕ, suc, ◌+◌, ◌*◌, ◌≤◌, List, [], ◌∷◌, ◌++◌, length, sym, ap, ◌∙◌, subst, arith, rules}
use Rattle.idx_lanes.specs.Spread.{next_part, part_after}
use Rattle.idx_lanes.specs.declared.lane.Lane.{Lane}
use Rattle.idx_lanes.specs.Copies.{AreMade, EachCopy, HasCoordinate, IsWanted, IsWithin}
use Rattle.idx_lanes.proofs.CopyLemmas.{All-faster, begins_within, each-implied, faster_of, lanes-are, no_lane-is, one_lane-is, slowest_of, so_far-all, so_far-more}
use Rattle.idx_block.specs.Tiles.{tile_lanes}
use Rattle.idx_block.proofs.TileLemmas.{coordinates-with_tile, each-faster_tiles}
use Rattle.idx_block.proofs.tile.+walk_tiles.Goals as goal

pub overflow_mul-k : goal.overflow_mul-k
overflow_mul-k g t c =
    let lanes : List Lane = c.args.lanes.now in
    let tile : List Lane = tile_lanes c.args.tile.one c.args.tile.two c.args.tile.four in
    let some : 1 ≤ length lanes = omega (arith, c.in-len1-up.len_at_least) in
    let each = each-faster_tiles
    (IsWithin (g.S.Sample.bytes c.args.sample) c.args.samples.now c.args.into.now) lanes tile c.args.from c.args.place c.loop-k.k c.loop-k.part some c.loop-k-test.true c.loop-k.invariant.part c.requires.within in
    let begins = begins_within (g.S.Sample.bytes c.args.sample) c.args.samples.now c.args.into.now (faster_of lanes ++ tile) (c.args.from + c.loop-k.k * (slowest_of lanes).step) (c.args.place + c.loop-k.part)
    (omega (arith, c.requires.some)) (coordinates-with_tile (faster_of lanes) c.args.tile.one c.args.tile.two c.args.tile.four (All-faster HasCoordinate lanes some c.requires.lanes)) each in
    omega (arith, begins.0)

pub overflow_add-from : goal.overflow_add-from
overflow_add-from g t c =
    let lanes : List Lane = c.args.lanes.now in
    let tile : List Lane = tile_lanes c.args.tile.one c.args.tile.two c.args.tile.four in
    let some : 1 ≤ length lanes = omega (arith, c.in-len1-up.len_at_least) in
    let each = each-faster_tiles
    (IsWithin (g.S.Sample.bytes c.args.sample) c.args.samples.now c.args.into.now) lanes tile c.args.from c.args.place c.loop-k.k c.loop-k.part some c.loop-k-test.true c.loop-k.invariant.part c.requires.within in
    let begins = begins_within (g.S.Sample.bytes c.args.sample) c.args.samples.now c.args.into.now (faster_of lanes ++ tile) (c.args.from + c.loop-k.k * (slowest_of lanes).step) (c.args.place + c.loop-k.part)
    (omega (arith, c.requires.some)) (coordinates-with_tile (faster_of lanes) c.args.tile.one c.args.tile.two c.args.tile.four (All-faster HasCoordinate lanes some c.requires.lanes)) each in
    omega (arith, begins.0)

pub overflow_add-place : goal.overflow_add-place
overflow_add-place g t c =
    let lanes : List Lane = c.args.lanes.now in
    let tile : List Lane = tile_lanes c.args.tile.one c.args.tile.two c.args.tile.four in
    let some : 1 ≤ length lanes = omega (arith, c.in-len1-up.len_at_least) in
    let each = each-faster_tiles
    (IsWithin (g.S.Sample.bytes c.args.sample) c.args.samples.now c.args.into.now) lanes tile c.args.from c.args.place c.loop-k.k c.loop-k.part some c.loop-k-test.true c.loop-k.invariant.part c.requires.within in
    let begins = begins_within (g.S.Sample.bytes c.args.sample) c.args.samples.now c.args.into.now (faster_of lanes ++ tile) (c.args.from + c.loop-k.k * (slowest_of lanes).step) (c.args.place + c.loop-k.part)
    (omega (arith, c.requires.some)) (coordinates-with_tile (faster_of lanes) c.args.tile.one c.args.tile.two c.args.tile.four (All-faster HasCoordinate lanes some c.requires.lanes)) each in
    omega (arith, begins.1)

pub walk_tiles-requires : goal.walk_tiles-requires
walk_tiles-requires g t c κs within =
    let lanes : List Lane = c.args.lanes.now in
    let tile : List Lane = tile_lanes c.args.tile.one c.args.tile.two c.args.tile.four in
    let some : 1 ≤ length lanes = omega (arith, c.in-len1-up.len_at_least) in
    let each = each-faster_tiles
    (IsWithin (g.S.Sample.bytes c.args.sample) c.args.samples.now c.args.into.now) lanes tile c.args.from c.args.place c.loop-k.k c.loop-k.part some c.loop-k-test.true c.loop-k.invariant.part c.requires.within in (
      search rules,
      (
        within,
        (
          c.requires.some,
          (
            c.requires.few,
            (
              All-faster HasCoordinate lanes some c.requires.lanes,
              each-implied (IsWithin (g.S.Sample.bytes c.args.sample) c.args.samples.now c.args.into.now) (IsWithin (g.S.Sample.bytes c.args.sample) c.args.samples.now c.loop-k.into) (λ f o h. (h.0, omega (arith, h.1, c.loop-k.auto.into)))
                  (faster_of lanes ++ tile) (c.args.from + c.loop-k.k * (slowest_of lanes).step) (c.args.place + c.loop-k.part) each,
            ),
          ),
        ),
      ),
    )

pub loop-k-preserved : goal.loop-k-preserved
loop-k-preserved g t c =
    let lanes : List Lane = c.args.lanes.now in
    let tile : List Lane = tile_lanes c.args.tile.one c.args.tile.two c.args.tile.four in
    let lane : Lane = slowest_of lanes in
    let k : ℕ = c.loop-k.k in
    let next : suc k ≡ k + 1 = omega arith in
    record {
      part = c.next_part-part.ensures ∙ ap (next_part lane.bits) c.loop-k.invariant.part ∙ ap (part_after lane.bits lane.first) next;
      made = λ want right.
          so_far-more want (g.S.Sample.bytes c.args.sample) lane (faster_of lanes ++ tile) c.args.from c.args.place k c.args.into.now c.loop-k.into c.walk_tiles.new.into (c.loop-k.invariant.made want right)
          (subst (λ (n : ℕ). AreMade want (g.S.Sample.bytes c.args.sample) (faster_of lanes ++ tile) (c.args.from + k * lane.step) (c.args.place + n) c.loop-k.into c.walk_tiles.new.into) c.loop-k.invariant.part
          (c.walk_tiles.ensures want
          (subst (λ (n : ℕ). EachCopy (IsWanted want (g.S.Sample.bytes c.args.sample) c.args.samples.now) (faster_of lanes ++ tile) (c.args.from + k * lane.step) (c.args.place + n)) (sym c.loop-k.invariant.part)
          (right k c.loop-k-test.true))));
    }

pub copy_tile-requires-clause-within : goal.copy_tile-requires-clause-within
copy_tile-requires-clause-within g t c =
    let lanes : List Lane = c.args.lanes.now in
    let tile : List Lane = tile_lanes c.args.tile.one c.args.tile.two c.args.tile.four in
    let none : [] ≡ lanes = no_lane-is lanes c.in-empty.len_below in
    subst (λ (ls : List Lane). EachCopy (IsWithin (g.S.Sample.bytes c.args.sample) c.args.samples.now c.args.into.now) (ls ++ tile) c.args.from c.args.place) (sym none) c.requires.within

pub returns-in-empty : goal.returns-in-empty
returns-in-empty g t c = λ want right.
    let lanes : List Lane = c.args.lanes.now in
    let tile : List Lane = tile_lanes c.args.tile.one c.args.tile.two c.args.tile.four in
    let none : [] ≡ lanes = no_lane-is lanes c.in-empty.len_below in
    subst (λ (ls : List Lane). AreMade want (g.S.Sample.bytes c.args.sample) (ls ++ tile) c.args.from c.args.place c.args.into.now c.copy_tile.new.into) none
    (c.copy_tile.ensures want (subst (λ (ls : List Lane). EachCopy (IsWanted want (g.S.Sample.bytes c.args.sample) c.args.samples.now) (ls ++ tile) c.args.from c.args.place) (sym none) right))

pub row_of_tiles-requires-clause-within : goal.row_of_tiles-requires-clause-within
row_of_tiles-requires-clause-within g t c =
    let lanes : List Lane = c.args.lanes.now in
    let tile : List Lane = tile_lanes c.args.tile.one c.args.tile.two c.args.tile.four in
    let one : slowest_of lanes ∷ [] ≡ lanes = one_lane-is lanes (omega (arith, c.in-len1.len_at_least)) c.in-len1.len_below in
    subst (λ (ls : List Lane). EachCopy (IsWithin (g.S.Sample.bytes c.args.sample) c.args.samples.now c.args.into.now) (ls ++ tile) c.args.from c.args.place) (sym one) c.requires.within

pub returns-in-len1 : goal.returns-in-len1
returns-in-len1 g t c = λ want right.
    let lanes : List Lane = c.args.lanes.now in
    let tile : List Lane = tile_lanes c.args.tile.one c.args.tile.two c.args.tile.four in
    let one : slowest_of lanes ∷ [] ≡ lanes = one_lane-is lanes (omega (arith, c.in-len1.len_at_least)) c.in-len1.len_below in
    subst (λ (ls : List Lane). AreMade want (g.S.Sample.bytes c.args.sample) (ls ++ tile) c.args.from c.args.place c.args.into.now c.row_of_tiles.new.into) one
    (c.row_of_tiles.ensures want (subst (λ (ls : List Lane). EachCopy (IsWanted want (g.S.Sample.bytes c.args.sample) c.args.samples.now) (ls ++ tile) c.args.from c.args.place) (sym one) right))

pub returns-after-loop-k : goal.returns-after-loop-k
returns-after-loop-k g t c = λ want right.
    let lanes : List Lane = c.args.lanes.now in
    let tile : List Lane = tile_lanes c.args.tile.one c.args.tile.two c.args.tile.four in
    let some : 1 ≤ length lanes = omega (arith, c.in-len1-up.len_at_least) in
    let whole : slowest_of lanes ∷ faster_of lanes ≡ lanes = lanes-are lanes some in
    subst (λ (ls : List Lane). AreMade want (g.S.Sample.bytes c.args.sample) (ls ++ tile) c.args.from c.args.place c.args.into.now c.loop-k.into) whole
    (so_far-all want (g.S.Sample.bytes c.args.sample) (slowest_of lanes) (faster_of lanes ++ tile) c.args.from c.args.place c.loop-k.k c.args.into.now c.loop-k.into (omega (arith, c.loop-k-test.false))
    (c.loop-k.invariant.made want (subst (λ (ls : List Lane). EachCopy (IsWanted want (g.S.Sample.bytes c.args.sample) c.args.samples.now) (ls ++ tile) c.args.from c.args.place) (sym whole) right)))
