use Rattle.std.proofs.Common.{◌≡◌, ℕ, ◌+◌, List, [], ◌∷◌, sym, ◌∙◌, subst, arith}
use Rattle.idx_lanes.specs.declared.lane.Lane.{Lane}
use Rattle.idx_lanes.specs.Copies.{AreMade, EachCopy, IsWanted, IsWithin}
use Rattle.idx_lanes.proofs.CopyLemmas.{each-implied}
use Rattle.idx_block.specs.Tiles.{pair_of, tile_lanes}
use Rattle.idx_block.proofs.TileLemmas.{four_is, half-begins_within, pair-first, pair-made, pair-second}
use Rattle.idx_block.proofs.tile.copy_tile.Goals as goal

pub copy_bytes-requires : goal.copy_bytes-requires
copy_bytes-requires g c =
    let tile = c.args.tile in
    let size : ℕ = g.S.Sample.bytes c.args.sample in
    let one : size ≡ 1 = sym c.bytes.ensures ∙ c.if-bytes-eq1.true in
    record {
      within = subst (λ (n : ℕ). EachCopy (IsWithin n c.args.samples.now c.args.into.now) (tile_lanes tile.one tile.two tile.four) c.args.from c.args.place) one c.requires.within;
    }

pub copy_four-requires-clause-within : goal.copy_four-requires-clause-within
copy_four-requires-clause-within g c =
    let tile = c.args.tile in
    let size : ℕ = g.S.Sample.bytes c.args.sample in
    pair-first (IsWithin size c.args.samples.now c.args.into.now) (pair_of tile.two 2 ∷ (pair_of tile.one 1 ∷ [])) tile.four 4 c.args.from c.args.place c.requires.within

pub overflow_add-place : goal.overflow_add-place
overflow_add-place g c =
    let tile = c.args.tile in
    let size : ℕ = g.S.Sample.bytes c.args.sample in
    let begins = half-begins_within size c.args.samples.now c.args.into.now tile.one tile.two (c.args.from + tile.four) (c.args.place + 4) c.requires.some
    (pair-second (IsWithin size c.args.samples.now c.args.into.now) (pair_of tile.two 2 ∷ (pair_of tile.one 1 ∷ [])) tile.four 4 c.args.from c.args.place four_is c.requires.within) in
    omega (arith, begins)

pub copy_four-requires-else-bytes-eq1-clause-within : goal.copy_four-requires-else-bytes-eq1-clause-within
copy_four-requires-else-bytes-eq1-clause-within g c =
    let tile = c.args.tile in
    let size : ℕ = g.S.Sample.bytes c.args.sample in
    let lanes : List Lane = pair_of tile.two 2 ∷ (pair_of tile.one 1 ∷ []) in
    each-implied (IsWithin size c.args.samples.now c.args.into.now) (IsWithin size c.args.samples.now c.copy_four.new.into) (λ f o h. (h.0, omega (arith, h.1, c.copy_four.auto.into)))
    lanes (c.args.from + tile.four) (c.args.place + 4)
    (pair-second (IsWithin size c.args.samples.now c.args.into.now) lanes tile.four 4 c.args.from c.args.place four_is c.requires.within)

pub returns-then-bytes-eq1 : goal.returns-then-bytes-eq1
returns-then-bytes-eq1 g c = λ want right.
    let tile = c.args.tile in
    let size : ℕ = g.S.Sample.bytes c.args.sample in
    let lanes : List Lane = tile_lanes tile.one tile.two tile.four in
    let one : size ≡ 1 = sym c.bytes.ensures ∙ c.if-bytes-eq1.true in
    subst (λ (n : ℕ). AreMade want n lanes c.args.from c.args.place c.args.into.now c.copy_bytes.new.into) (sym one)
    (c.copy_bytes.ensures want (subst (λ (n : ℕ). EachCopy (IsWanted want n c.args.samples.now) lanes c.args.from c.args.place) one right))

pub returns-else-bytes-eq1 : goal.returns-else-bytes-eq1
returns-else-bytes-eq1 g c = λ want right.
    let tile = c.args.tile in
    let size : ℕ = g.S.Sample.bytes c.args.sample in
    let lanes : List Lane = pair_of tile.two 2 ∷ (pair_of tile.one 1 ∷ []) in
    pair-made want size lanes tile.four 4 c.args.from c.args.place c.args.into.now c.copy_four.new.into c.copy_four-else-bytes-eq1.new.into four_is
    (c.copy_four.ensures want (pair-first (IsWanted want size c.args.samples.now) lanes tile.four 4 c.args.from c.args.place right))
    (c.copy_four-else-bytes-eq1.ensures want (pair-second (IsWanted want size c.args.samples.now) lanes tile.four 4 c.args.from c.args.place four_is right))
