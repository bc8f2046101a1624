use Rattle.std.proofs.Common.{◌≡◌, ℕ, suc, ◌+◌, ◌*◌, ap, ◌∙◌, subst, arith}
use Rattle.idx_lanes.specs.Spread.{next_part, part_after}
use Rattle.idx_scatter.specs.Moves.{AreApart}
use Rattle.idx_scatter.proofs.MoveLemmas.{add_one, apart-more, one_is, sample-made}
use Rattle.idx_scatter.proofs.walk.even_row.Goals as goal

pub overflow_add-place : goal.overflow_add-place
overflow_add-place g c =
    let fits = c.requires.within c.loop-k.k c.loop-k-test.true in
    omega (arith, fits.read, c.loop-k.invariant.part, one_is (c.args.place + part_after c.args.lane.now.bits c.args.lane.now.first c.loop-k.k) (g.S.Sample.bytes c.args.sample) c.requires.some)

pub overflow_mul-k : goal.overflow_mul-k
overflow_mul-k g c =
    let fits = c.requires.within c.loop-k.k c.loop-k-test.true in
    omega (arith, fits.room, one_is (c.args.first + c.loop-k.k * c.args.more) (g.S.Sample.bytes c.args.sample) c.requires.some)

pub overflow_add-first : goal.overflow_add-first
overflow_add-first g c =
    let fits = c.requires.within c.loop-k.k c.loop-k-test.true in
    omega (arith, fits.room, one_is (c.args.first + c.loop-k.k * c.args.more) (g.S.Sample.bytes c.args.sample) c.requires.some)

pub overflow_mul-first : goal.overflow_mul-first
overflow_mul-first g c =
    let to : ℕ = c.args.first + c.loop-k.k * c.args.more in
    let fits = c.requires.within c.loop-k.k c.loop-k-test.true in
    let same : to * c.bytes-size.result ≡ to * g.S.Sample.bytes c.args.sample = ap (λ n. to * n) c.bytes-size.ensures in
    omega (arith, same, fits.room, add_one to (g.S.Sample.bytes c.args.sample))

pub copy-requires-clause-write : goal.copy-requires-clause-write
copy-requires-clause-write g c =
    let to : ℕ = c.args.first + c.loop-k.k * c.args.more in
    let fits = c.requires.within c.loop-k.k c.loop-k-test.true in
    let same : to * c.bytes-size.result ≡ to * g.S.Sample.bytes c.args.sample = ap (λ n. to * n) c.bytes-size.ensures in
    omega (arith, same, fits.room, add_one to (g.S.Sample.bytes c.args.sample), c.loop-k.auto.into)

pub loop-k-preserved : goal.loop-k-preserved
loop-k-preserved g c =
    let lane = c.args.lane.now in
    let size : ℕ = g.S.Sample.bytes c.args.sample in
    let k : ℕ = c.loop-k.k in
    let to : ℕ = c.args.first + k * c.args.more in
    let next : suc k ≡ k + 1 = omega arith in
    let fits = c.requires.within k c.loop-k-test.true in
    let from_is : (c.args.place + c.loop-k.part) * c.bytes-size.result ≡ (c.args.place + part_after lane.bits lane.first k) * size =
    λ i. (c.args.place + c.loop-k.invariant.part i) * c.bytes-size.ensures i in
    let to_is : to * c.bytes-size.result ≡ to * size = ap (λ n. to * n) c.bytes-size.ensures in
    record {
      part = c.next_part-part.ensures ∙ ap (next_part lane.bits) c.loop-k.invariant.part ∙ ap (part_after lane.bits lane.first) next;
      made = λ want right.
          apart-more want size k c.args.first c.args.more c.args.into.now c.loop-k.into c.copy.new.out (c.loop-k.invariant.made want right)
          (sample-made want size (c.args.place + part_after lane.bits lane.first k) to ((c.args.place + c.loop-k.part) * c.bytes-size.result) (to * c.bytes-size.result)
          c.args.samples.now c.loop-k.into c.copy.new.out (omega (arith, fits.room, c.loop-k.auto.into)) fits.read from_is to_is c.copy.ensures (right k c.loop-k-test.true));
    }

pub returns : goal.returns
returns g c = λ want right.
    let all : c.loop-k.k ≡ c.args.lane.now.count = omega (arith, c.loop-k-test.false) in
    subst (λ (n : ℕ). AreApart want (g.S.Sample.bytes c.args.sample) n c.args.first c.args.more c.args.into.now c.loop-k.into) all (c.loop-k.invariant.made want right)
