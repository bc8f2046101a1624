use Rattle.std.proofs.Common.{◌≡◌, ℕ, suc, ◌+◌, ◌*◌, ◌≤◌, [], ◌∷◌, sym, ap, ◌∙◌, subst, arith}
use Rattle.idx_lanes.specs.Spread.{next_part, part_after}
use Rattle.idx_lanes.specs.Copies.{AreMade, EachCopy, IsWanted, IsWithin}
use Rattle.idx_lanes.proofs.CopyLemmas.{begins_within, each-implied, so_far-all, so_far-more}
use Rattle.idx_block.proofs.RowsLemmas.{each-some, one_coordinate, part_after-add, so_far-some, some_of}
use Rattle.idx_block.proofs.rows.rows.Goals as goal

pub band_rows-part-requires-clause-within : goal.band_rows-part-requires-clause-within
band_rows-part-requires-clause-within g c =
    let size : ℕ = g.S.Sample.bytes c.args.sample in
    let slower = c.args.slower.now in
    let lane = c.args.lane.now in
    let k : ℕ = c.loop-k.k in
    let each = each-some (IsWithin size c.args.samples.now c.args.into.now) slower lane c.args.from c.args.place k g.row.N c.loop-k.part (omega arith) c.loop-k.invariant.part c.requires.within in
    each-implied (IsWithin size c.args.samples.now c.args.into.now) (IsWithin size c.args.samples.now c.loop-k.into) (λ f o h. (h.0, omega (arith, h.1, c.loop-k.auto.into)))
    (lane ∷ (some_of slower g.row.N c.loop-k.part ∷ [])) (c.args.from + k * slower.step) c.args.place each

pub loop-k-preserved-then-slower-k : goal.loop-k-preserved-then-slower-k
loop-k-preserved-then-slower-k g c =
    let size : ℕ = g.S.Sample.bytes c.args.sample in
    let slower = c.args.slower.now in
    let lane = c.args.lane.now in
    let k : ℕ = c.loop-k.k in
    let within : k + g.row.N ≤ slower.count = omega arith in
    record {
      within = within;
      part = c.band_rows-part.ensures.part ∙ ap (λ p. part_after slower.bits p g.row.N) c.loop-k.invariant.part ∙ part_after-add slower.bits slower.first k g.row.N;
      made = λ want right.
          so_far-some want size slower lane c.args.from c.args.place k g.row.N c.loop-k.part c.args.into.now c.loop-k.into c.band_rows-part.new.into c.loop-k.invariant.part
          (c.loop-k.invariant.made want right)
          (c.band_rows-part.ensures.made want (each-some (IsWanted want size c.args.samples.now) slower lane c.args.from c.args.place k g.row.N c.loop-k.part within c.loop-k.invariant.part right));
    }

pub overflow_add-place : goal.overflow_add-place
overflow_add-place g c =
    let size : ℕ = g.S.Sample.bytes c.args.sample in
    let slower = c.args.slower.now in
    let k : ℕ = c.loop-k.k in
    let begins = begins_within size c.args.samples.now c.args.into.now (c.args.lane.now ∷ []) (c.args.from + k * slower.step) (c.args.place + part_after slower.bits slower.first k)
    (omega (arith, c.requires.some))
    (one_coordinate c.args.lane.now c.requires.coordinates) (c.requires.within k c.loop-k-test.true) in
    omega (arith, begins.1, c.loop-k.invariant.part)

pub row-requires-clause-within : goal.row-requires-clause-within
row-requires-clause-within g c =
    let size : ℕ = g.S.Sample.bytes c.args.sample in
    let slower = c.args.slower.now in
    let lane = c.args.lane.now in
    let k : ℕ = c.loop-k.k in
    let each : EachCopy (IsWithin size c.args.samples.now c.args.into.now) (lane ∷ []) (c.args.from + k * slower.step) (c.args.place + c.loop-k.part) =
    subst (λ (n : ℕ). EachCopy (IsWithin size c.args.samples.now c.args.into.now) (lane ∷ []) (c.args.from + k * slower.step) (c.args.place + n)) (sym c.loop-k.invariant.part)
    (c.requires.within k c.loop-k-test.true) in
    each-implied (IsWithin size c.args.samples.now c.args.into.now) (IsWithin size c.args.samples.now c.loop-k.into) (λ f o h. (h.0, omega (arith, h.1, c.loop-k.auto.into)))
    (lane ∷ []) (c.args.from + k * slower.step) (c.args.place + c.loop-k.part) each

pub loop-k-preserved : goal.loop-k-preserved
loop-k-preserved g c =
    let size : ℕ = g.S.Sample.bytes c.args.sample in
    let slower = c.args.slower.now in
    let lane = c.args.lane.now in
    let k : ℕ = c.loop-k.k in
    let next : suc k ≡ k + 1 = omega arith in
    record {
      within = omega (arith, c.loop-k-test.true);
      part = c.next_part-part.ensures ∙ ap (next_part slower.bits) c.loop-k.invariant.part ∙ ap (part_after slower.bits slower.first) next;
      made = λ want right.
          so_far-more want size slower (lane ∷ []) c.args.from c.args.place k c.args.into.now c.loop-k.into c.row.new.into (c.loop-k.invariant.made want right)
          (subst (λ (n : ℕ). AreMade want size (lane ∷ []) (c.args.from + k * slower.step) (c.args.place + n) c.loop-k.into c.row.new.into) c.loop-k.invariant.part
          (c.row.ensures want (subst (λ (n : ℕ). EachCopy (IsWanted want size c.args.samples.now) (lane ∷ []) (c.args.from + k * slower.step) (c.args.place + n))
          (sym c.loop-k.invariant.part) (right k c.loop-k-test.true))));
    }

pub returns : goal.returns
returns g c = λ want right.
    so_far-all want (g.S.Sample.bytes c.args.sample) c.args.slower.now (c.args.lane.now ∷ []) c.args.from c.args.place c.loop-k.k c.args.into.now c.loop-k.into
    (omega (arith, c.loop-k-test.false)) (c.loop-k.invariant.made want right)
