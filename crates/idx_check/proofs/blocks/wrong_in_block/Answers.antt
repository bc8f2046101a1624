use Rattle.std.proofs.Common.{◌≡◌, ℕ, ◌+◌, ◌-◌, ◌*◌, ◌^◌, ◌<◌, ◌≤◌, List, length, take, drop, refl, sym, ap, ◌∙◌, subst, arith}
use Rattle.std.specs.Prelude.{slice_index}
use Rattle.idx_check.specs.Piece.{AskedUpTo, IsOnTheWay}
use Rattle.idx_check.specs.Stray.{IsClean, IsStray}
use Rattle.idx_check.proofs.PieceLemmas.{asked_next, length-slice, way_behind}
use Rattle.idx_check.specs.Pieces.{ReadsOn, read_to}
use Rattle.idx_check.proofs.PiecesLemmas.{reads_both, reads_none, reads_wider}
use Rattle.idx_check.proofs.RunLemmas.{clean_begins, clean_whole, run_clean, run_of, run_stray, runs_end}
use Rattle.idx_check.proofs.blocks.wrong_in_block.Goals as goal

pub loop-k-init : goal.loop-k-init
loop-k-init g c =
    record {
      next = omega arith;
      clean = clean_begins (g.L.Leaf.contents c.args.leaf.now) c.args.header.now.mask c.args.header.now.box c.args.run.size (c.args.block * 2 ^ c.args.header.now.block_bits) c.args.at c.args.run.bytes;
      way = c.requires.way;
      asked = λ before is. is;
      pieces = reads_none (g.R.Reader.reads c.args.reader.now) (g.R.Reader.reads c.args.reader.now) (g.R.Reader.asked c.args.reader.now) (g.R.Reader.asked c.args.reader.now)
          (read_to c.args.at c.args.piece.now.bytes.items c.args.piece.now.used) (read_to c.args.at c.args.piece.now.bytes.items c.args.piece.now.used) refl refl (omega arith);
      quiet = refl;
    }

pub overflow_mul-number : goal.overflow_mul-number
overflow_mul-number g c =
    let run = run_of (length c.args.header.now.mask) c.args.header.now.block_bits c.args.run.bits c.args.block c.address_count-runs.result c.loop-k.k c.args.run.size c.args.run.bytes c.args.at c.loop-k.next
    c.requires.bits c.mask-mask.ensures.valid.bits_within c.mask-mask.ensures.valid.mask.few c.requires.exists
    (c.address_count-runs.ensures.value ∙ ap (λ n. 2 ^ (n - c.args.run.bits)) c.bits_per_block.ensures.value) c.loop-k-test.true c.requires.run c.loop-k.invariant.next in
    omega (arith, run.small)

pub overflow_add-number : goal.overflow_add-number
overflow_add-number g c =
    let run = run_of (length c.args.header.now.mask) c.args.header.now.block_bits c.args.run.bits c.args.block c.address_count-runs.result c.loop-k.k c.args.run.size c.args.run.bytes c.args.at c.loop-k.next
    c.requires.bits c.mask-mask.ensures.valid.bits_within c.mask-mask.ensures.valid.mask.few c.requires.exists
    (c.address_count-runs.ensures.value ∙ ap (λ n. 2 ^ (n - c.args.run.bits)) c.bits_per_block.ensures.value) c.loop-k-test.true c.requires.run c.loop-k.invariant.next in
    omega (arith, run.small)

pub look_ahead-requires-clause-more : goal.look_ahead-requires-clause-more
look_ahead-requires-clause-more g c =
    let run = run_of (length c.args.header.now.mask) c.args.header.now.block_bits c.args.run.bits c.args.block c.address_count-runs.result c.loop-k.k c.args.run.size c.args.run.bytes c.args.at c.loop-k.next
    c.requires.bits c.mask-mask.ensures.valid.bits_within c.mask-mask.ensures.valid.mask.few c.requires.exists
    (c.address_count-runs.ensures.value ∙ ap (λ n. 2 ^ (n - c.args.run.bits)) c.bits_per_block.ensures.value) c.loop-k-test.true c.requires.run c.loop-k.invariant.next in
    omega (arith, run.behind, c.requires.more, c.requires.unit)

pub look_ahead-requires-clause-way : goal.look_ahead-requires-clause-way
look_ahead-requires-clause-way g c =
    subst (λ (n : ℕ). IsOnTheWay (g.L.Leaf.contents c.args.leaf.now) c.loop-k.piece.bytes.items c.loop-k.piece.used n c.loop-k.next (c.args.stretch.end - c.loop-k.next)) (sym c.requires.unit) c.loop-k.invariant.way

pub first_stray-requires-clause-exists : goal.first_stray-requires-clause-exists
first_stray-requires-clause-exists g c =
    let run = run_of (length c.args.header.now.mask) c.args.header.now.block_bits c.args.run.bits c.args.block c.address_count-runs.result c.loop-k.k c.args.run.size c.args.run.bytes c.args.at c.loop-k.next
    c.requires.bits c.mask-mask.ensures.valid.bits_within c.mask-mask.ensures.valid.mask.few c.requires.exists
    (c.address_count-runs.ensures.value ∙ ap (λ n. 2 ^ (n - c.args.run.bits)) c.bits_per_block.ensures.value) c.loop-k-test.true c.requires.run c.loop-k.invariant.next in
    subst (λ (m : List ℕ). c.args.block * c.address_count-runs.result + c.loop-k.k < 2 ^ (length m - c.args.run.bits)) (sym c.mask-mask.ensures.value) run.exists

pub overflow_sub-result : goal.overflow_sub-result
overflow_sub-result g c = omega (arith, c.loop-k.invariant.next)

pub returns-in-Some-clause-found : goal.returns-in-Some-clause-found
returns-in-Some-clause-found g c =
    let run = run_of (length c.args.header.now.mask) c.args.header.now.block_bits c.args.run.bits c.args.block c.address_count-runs.result c.loop-k.k c.args.run.size c.args.run.bytes c.args.at c.loop-k.next
    c.requires.bits c.mask-mask.ensures.valid.bits_within c.mask-mask.ensures.valid.mask.few c.requires.exists
    (c.address_count-runs.ensures.value ∙ ap (λ n. 2 ^ (n - c.args.run.bits)) c.bits_per_block.ensures.value) c.loop-k-test.true c.requires.run c.loop-k.invariant.next in
    let mask : List ℕ = c.args.header.now.mask in
    let box : List (ℕ × ℕ) = c.args.header.now.box in
    let size : ℕ = c.args.run.size in
    let n : ℕ = c.args.run.bytes in
    let piece : List ℕ = c.look_ahead.new.self.bytes.items in
    let used : ℕ = c.look_ahead.new.self.used in
    let cut : ℕ = used + n - used in
    let cut_is : cut ≡ n = omega arith in
    let sub : ℕ = (c.args.block * c.address_count-runs.result + c.loop-k.k) * 2 ^ c.args.run.bits in
    let room : used + n ≤ length piece = omega (arith, c.in_ok-look_ahead.ensures.ahead, c.requires.unit) in
    let here : IsStray mask box size sub (slice_index (take cut (drop used piece))) (length (take cut (drop used piece))) c.in-Some.place =
    subst (λ (m : List ℕ). IsStray m box size sub (slice_index (take cut (drop used piece))) (length (take cut (drop used piece))) c.in-Some.place) c.mask-mask.ensures.value
    (subst (λ (r : List (ℕ × ℕ)). IsStray c.mask-mask.result r size sub (slice_index (take cut (drop used piece))) (length (take cut (drop used piece))) c.in-Some.place) c.region-region.ensures.value
    (subst (λ (xs : List ℕ). IsStray c.mask-mask.result c.region-region.result size sub (slice_index (take cut (drop used xs))) (length (take cut (drop used xs))) c.in-Some.place) c.deref.ensures.value c.in-Some.ensures)) in
    let stray : IsStray mask box size sub (slice_index (take cut (drop used piece))) n c.in-Some.place =
    subst (λ (m : ℕ). IsStray mask box size sub (slice_index (take cut (drop used piece))) m c.in-Some.place) (length-slice piece used n cut cut_is room) here in
    run_stray mask box size (c.args.block * 2 ^ c.args.header.now.block_bits) sub c.loop-k.k (2 ^ c.args.run.bits) n cut c.args.at c.loop-k.next used piece c.requires.some c.requires.run run.first
    c.loop-k.invariant.next room cut_is (g.L.Leaf.contents c.args.leaf.now) (size * 2 ^ c.args.header.now.block_bits) c.in-Some.place
    c.in_ok-look_ahead.ensures.way.same c.loop-k.invariant.clean run.room stray

pub returns-in-Some-clause-within : goal.returns-in-Some-clause-within
returns-in-Some-clause-within g c =
    let run = run_of (length c.args.header.now.mask) c.args.header.now.block_bits c.args.run.bits c.args.block c.address_count-runs.result c.loop-k.k c.args.run.size c.args.run.bytes c.args.at c.loop-k.next
    c.requires.bits c.mask-mask.ensures.valid.bits_within c.mask-mask.ensures.valid.mask.few c.requires.exists
    (c.address_count-runs.ensures.value ∙ ap (λ n. 2 ^ (n - c.args.run.bits)) c.bits_per_block.ensures.value) c.loop-k-test.true c.requires.run c.loop-k.invariant.next in
    let n : ℕ = c.args.run.bytes in
    let piece : List ℕ = c.look_ahead.new.self.bytes.items in
    let used : ℕ = c.look_ahead.new.self.used in
    let cut : ℕ = used + n - used in
    let cut_is : cut ≡ n = omega arith in
    let room : used + n ≤ length piece = omega (arith, c.in_ok-look_ahead.ensures.ahead, c.requires.unit) in
    let less : c.in-Some.place < length (take cut (drop used piece)) =
    subst (λ (xs : List ℕ). c.in-Some.place < length (take cut (drop used xs))) c.deref.ensures.value c.in-Some.ensures.within in
    omega (arith, less, length-slice piece used n cut cut_is room, run.room, c.loop-k.invariant.next)

pub returns-in-Some-clause-ended : goal.returns-in-Some-clause-ended
returns-in-Some-clause-ended g c =
    let run = run_of (length c.args.header.now.mask) c.args.header.now.block_bits c.args.run.bits c.args.block c.address_count-runs.result c.loop-k.k c.args.run.size c.args.run.bytes c.args.at c.loop-k.next
    c.requires.bits c.mask-mask.ensures.valid.bits_within c.mask-mask.ensures.valid.mask.few c.requires.exists
    (c.address_count-runs.ensures.value ∙ ap (λ n. 2 ^ (n - c.args.run.bits)) c.bits_per_block.ensures.value) c.loop-k-test.true c.requires.run c.loop-k.invariant.next in
    let reads = g.R.Reader.reads in
    let asked = g.R.Reader.asked in
    let piece : List ℕ = c.look_ahead.new.self.bytes.items in
    let used : ℕ = c.look_ahead.new.self.used in
    let before : ℕ = read_to c.loop-k.next c.loop-k.piece.bytes.items c.loop-k.piece.used in
    reads_both (reads c.args.reader.now) (reads c.loop-k.reader) (reads c.look_ahead.new.reader) (asked c.args.reader.now) (asked c.loop-k.reader) (asked c.look_ahead.new.reader)
    (read_to c.args.at c.args.piece.now.bytes.items c.args.piece.now.used) before c.args.stretch.end c.loop-k.invariant.pieces
    (reads_wider (reads c.loop-k.reader) (reads c.look_ahead.new.reader) (asked c.loop-k.reader) (asked c.look_ahead.new.reader) before (read_to c.loop-k.next piece used) before c.args.stretch.end
    (omega (arith, c.in_ok-look_ahead.ensures.way.few, run.behind, c.requires.more, c.requires.unit)) c.in_ok-look_ahead.ensures.pieces)

pub loop-k-preserved : goal.loop-k-preserved
loop-k-preserved g c =
    let run = run_of (length c.args.header.now.mask) c.args.header.now.block_bits c.args.run.bits c.args.block c.address_count-runs.result c.loop-k.k c.args.run.size c.args.run.bytes c.args.at c.loop-k.next
    c.requires.bits c.mask-mask.ensures.valid.bits_within c.mask-mask.ensures.valid.mask.few c.requires.exists
    (c.address_count-runs.ensures.value ∙ ap (λ n. 2 ^ (n - c.args.run.bits)) c.bits_per_block.ensures.value) c.loop-k-test.true c.requires.run c.loop-k.invariant.next in
    let mask : List ℕ = c.args.header.now.mask in
    let box : List (ℕ × ℕ) = c.args.header.now.box in
    let size : ℕ = c.args.run.size in
    let n : ℕ = c.args.run.bytes in
    let contents = g.L.Leaf.contents c.args.leaf.now in
    let piece : List ℕ = c.look_ahead.new.self.bytes.items in
    let used : ℕ = c.look_ahead.new.self.used in
    let cut : ℕ = used + n - used in
    let cut_is : cut ≡ n = omega arith in
    let sub : ℕ = (c.args.block * c.address_count-runs.result + c.loop-k.k) * 2 ^ c.args.run.bits in
    let room : used + n ≤ length piece = omega (arith, c.in_ok-look_ahead.ensures.ahead, c.requires.unit) in
    let here : (i : ℕ) → i < length (take cut (drop used piece)) → IsClean mask box size sub (slice_index (take cut (drop used piece))) i =
    subst (λ (m : List ℕ). (i : ℕ) → i < length (take cut (drop used piece)) → IsClean m box size sub (slice_index (take cut (drop used piece))) i) c.mask-mask.ensures.value
    (subst (λ (r : List (ℕ × ℕ)). (i : ℕ) → i < length (take cut (drop used piece)) → IsClean c.mask-mask.result r size sub (slice_index (take cut (drop used piece))) i) c.region-region.ensures.value
    (subst (λ (xs : List ℕ). (i : ℕ) → i < length (take cut (drop used xs)) → IsClean c.mask-mask.result c.region-region.result size sub (slice_index (take cut (drop used xs))) i) c.deref.ensures.value c.in_default.ensures)) in
    let clean : (i : ℕ) → i < n → IsClean mask box size sub (slice_index (take cut (drop used piece))) i =
    subst (λ (m : ℕ). (i : ℕ) → i < m → IsClean mask box size sub (slice_index (take cut (drop used piece))) i) (length-slice piece used n cut cut_is room) here in
    let way : IsOnTheWay contents piece used n c.loop-k.next (c.args.stretch.end - c.loop-k.next) =
    subst (λ (m : ℕ). IsOnTheWay contents piece used m c.loop-k.next (c.args.stretch.end - c.loop-k.next)) c.requires.unit c.in_ok-look_ahead.ensures.way in
    let more : (c.loop-k.k + 1) * n ≡ c.loop-k.k * n + n = grind arith in
    record {
      next = omega (arith, more, c.loop-k.invariant.next);
      clean = run_clean mask box size (c.args.block * 2 ^ c.args.header.now.block_bits) sub c.loop-k.k (2 ^ c.args.run.bits) n cut c.args.at c.loop-k.next used piece c.requires.some c.requires.run run.first
          c.loop-k.invariant.next room cut_is contents c.in_ok-look_ahead.ensures.way.same c.loop-k.invariant.clean clean;
      way = way_behind contents piece used n c.loop-k.next c.args.stretch.end way room (omega (arith, run.behind, c.requires.more));
      asked = λ before is. asked_next before (g.R.Reader.asked c.look_ahead.new.reader) piece used n c.loop-k.next c.args.stretch.there room
          (c.in_ok-look_ahead.ensures.asked before (c.loop-k.invariant.asked before is));
      pieces = reads_both (g.R.Reader.reads c.args.reader.now) (g.R.Reader.reads c.loop-k.reader) (g.R.Reader.reads c.look_ahead.new.reader)
          (g.R.Reader.asked c.args.reader.now) (g.R.Reader.asked c.loop-k.reader) (g.R.Reader.asked c.look_ahead.new.reader)
          (read_to c.args.at c.args.piece.now.bytes.items c.args.piece.now.used) (read_to c.loop-k.next c.loop-k.piece.bytes.items c.loop-k.piece.used) (read_to (c.loop-k.next + n) piece (used + n))
          c.loop-k.invariant.pieces
          (reads_wider (g.R.Reader.reads c.loop-k.reader) (g.R.Reader.reads c.look_ahead.new.reader) (g.R.Reader.asked c.loop-k.reader) (g.R.Reader.asked c.look_ahead.new.reader)
          (read_to c.loop-k.next c.loop-k.piece.bytes.items c.loop-k.piece.used) (read_to c.loop-k.next piece used) (read_to c.loop-k.next c.loop-k.piece.bytes.items c.loop-k.piece.used) (read_to (c.loop-k.next + n) piece (used + n))
          (omega (arith, room)) c.in_ok-look_ahead.ensures.pieces);
      quiet = c.in_ok-look_ahead.ensures.quiet ∙ c.loop-k.invariant.quiet;
    }

pub returns-clause-found : goal.returns-clause-found
returns-clause-found g c =
    let end = runs_end c.args.header.now.block_bits c.args.run.bits c.address_count-runs.result c.loop-k.k c.args.run.size c.args.run.bytes c.args.at c.loop-k.next
    c.requires.bits (c.address_count-runs.ensures.value ∙ ap (λ n. 2 ^ (n - c.args.run.bits)) c.bits_per_block.ensures.value) (omega (arith, c.loop-k-test.false, c.loop-k.auto.k-end)) c.requires.run c.loop-k.invariant.next in
    clean_whole (g.L.Leaf.contents c.args.leaf.now) c.args.header.now.mask c.args.header.now.box c.args.run.size (c.args.block * 2 ^ c.args.header.now.block_bits) c.args.at
    (c.loop-k.k * c.args.run.bytes) (c.args.run.size * 2 ^ c.args.header.now.block_bits) end.0 c.loop-k.invariant.clean

pub returns-clause-way : goal.returns-clause-way
returns-clause-way g c =
    let end = runs_end c.args.header.now.block_bits c.args.run.bits c.address_count-runs.result c.loop-k.k c.args.run.size c.args.run.bytes c.args.at c.loop-k.next
    c.requires.bits (c.address_count-runs.ensures.value ∙ ap (λ n. 2 ^ (n - c.args.run.bits)) c.bits_per_block.ensures.value) (omega (arith, c.loop-k-test.false, c.loop-k.auto.k-end)) c.requires.run c.loop-k.invariant.next in
    subst (λ (at : ℕ). IsOnTheWay (g.L.Leaf.contents c.args.leaf.now) c.loop-k.piece.bytes.items c.loop-k.piece.used c.args.run.bytes at (c.args.stretch.end - at)) end.1 c.loop-k.invariant.way

pub returns-clause-asked : goal.returns-clause-asked
returns-clause-asked g c =
    let end = runs_end c.args.header.now.block_bits c.args.run.bits c.address_count-runs.result c.loop-k.k c.args.run.size c.args.run.bytes c.args.at c.loop-k.next
    c.requires.bits (c.address_count-runs.ensures.value ∙ ap (λ n. 2 ^ (n - c.args.run.bits)) c.bits_per_block.ensures.value) (omega (arith, c.loop-k-test.false, c.loop-k.auto.k-end)) c.requires.run c.loop-k.invariant.next in
    λ before is. subst (λ (at : ℕ). AskedUpTo before (g.R.Reader.asked c.loop-k.reader) c.loop-k.piece.bytes.items c.loop-k.piece.used at c.args.stretch.there) end.1 (c.loop-k.invariant.asked before is)

pub returns-clause-pieces : goal.returns-clause-pieces
returns-clause-pieces g c =
    let end = runs_end c.args.header.now.block_bits c.args.run.bits c.address_count-runs.result c.loop-k.k c.args.run.size c.args.run.bytes c.args.at c.loop-k.next
    c.requires.bits (c.address_count-runs.ensures.value ∙ ap (λ n. 2 ^ (n - c.args.run.bits)) c.bits_per_block.ensures.value) (omega (arith, c.loop-k-test.false, c.loop-k.auto.k-end)) c.requires.run c.loop-k.invariant.next in
    subst (λ (at : ℕ). ReadsOn g.R.Reader.reads g.R.Reader.asked c.args.reader.now c.loop-k.reader (read_to c.args.at c.args.piece.now.bytes.items c.args.piece.now.used) (read_to at c.loop-k.piece.bytes.items c.loop-k.piece.used)) end.1 c.loop-k.invariant.pieces
