use Rattle.std.proofs.Common.{◌≡◌, ℕ, suc, ◌+◌, ◌*◌, [], ◌∷◌, sym, ap, ◌∙◌, subst, arith}
use Rattle.idx_lanes.specs.Spread.{next_part, part_after}
use Rattle.idx_lanes.specs.Copies.{AreMade, EachCopy, IsWanted, IsWithin}
use Rattle.idx_lanes.proofs.CopyLemmas.{begins_within, each-implied, so_far-all, so_far-more}
use Rattle.idx_block.proofs.RowsLemmas.{one_coordinate}
use Rattle.idx_block.proofs.rows.band_rows.Goals as goal

pub overflow_add-place : goal.overflow_add-place
overflow_add-place g c =
    let size : ℕ = g.S.Sample.bytes c.args.sample in
    let lane = c.args.lane.now in
    let k : ℕ = c.loop-k.k in
    let begins = begins_within size c.args.samples.now c.args.into.now (c.args.band.now ∷ []) (c.args.from + k * lane.step) (c.args.place + part_after lane.bits lane.first k)
    (omega (arith, c.requires.some))
    (one_coordinate c.args.band.now (omega (arith, c.requires.band))) (c.requires.within k c.loop-k-test.true) in
    omega (arith, begins.1, c.loop-k.invariant.part)

pub copy_column-requires : goal.copy_column-requires
copy_column-requires g c =
    let size : ℕ = g.S.Sample.bytes c.args.sample in
    let lane = c.args.lane.now in
    let k : ℕ = c.loop-k.k in
    let each : EachCopy (IsWithin size c.args.samples.now c.args.into.now) (c.args.band.now ∷ []) (c.args.from + k * lane.step) (c.args.place + c.loop-k.part) =
    subst (λ (n : ℕ). EachCopy (IsWithin size c.args.samples.now c.args.into.now) (c.args.band.now ∷ []) (c.args.from + k * lane.step) (c.args.place + n)) (sym c.loop-k.invariant.part)
    (c.requires.within k c.loop-k-test.true) in
    let within : EachCopy (IsWithin size c.args.samples.now c.loop-k.into) (c.args.band.now ∷ []) (c.args.from + k * lane.step) (c.args.place + c.loop-k.part) =
    each-implied (IsWithin size c.args.samples.now c.args.into.now) (IsWithin size c.args.samples.now c.loop-k.into) (λ f o h. (h.0, omega (arith, h.1, c.loop-k.auto.into)))
    (c.args.band.now ∷ []) (c.args.from + k * lane.step) (c.args.place + c.loop-k.part) each in
    (omega (arith, c.requires.narrow), (c.requires.wide, (c.requires.narrow, (c.requires.some, (c.requires.few, (c.requires.band, (c.parts_of-parts.ensures, within)))))))

pub loop-k-preserved : goal.loop-k-preserved
loop-k-preserved g c =
    let size : ℕ = g.S.Sample.bytes c.args.sample in
    let lane = c.args.lane.now in
    let band = c.args.band.now in
    let k : ℕ = c.loop-k.k in
    let next : suc k ≡ k + 1 = omega arith in
    record {
      part = c.next_part-part.ensures ∙ ap (next_part lane.bits) c.loop-k.invariant.part ∙ ap (part_after lane.bits lane.first) next;
      made = λ want right.
          so_far-more want size lane (band ∷ []) c.args.from c.args.place k c.args.into.now c.loop-k.into c.copy_column.new.into (c.loop-k.invariant.made want right)
          (subst (λ (n : ℕ). AreMade want size (band ∷ []) (c.args.from + k * lane.step) (c.args.place + n) c.loop-k.into c.copy_column.new.into) c.loop-k.invariant.part
          (c.copy_column.ensures want
          (subst (λ (n : ℕ). EachCopy (IsWanted want size c.args.samples.now) (band ∷ []) (c.args.from + k * lane.step) (c.args.place + n)) (sym c.loop-k.invariant.part)
          (right k c.loop-k-test.true))));
    }

pub returns-clause-made : goal.returns-clause-made
returns-clause-made g c = λ want right.
    so_far-all want (g.S.Sample.bytes c.args.sample) c.args.lane.now (c.args.band.now ∷ []) c.args.from c.args.place c.loop-k.k c.args.into.now c.loop-k.into
    (omega (arith, c.loop-k-test.false)) (c.loop-k.invariant.made want right)
