use Rattle.std.proofs.Common.{◌≡◌, ℕ, ◌+◌, ◌-◌, ◌*◌, ◌^◌, ◌<◌, min, length, refl, sym, ap, ◌∙◌, subst, arith}
use Rattle.std.proofs.lemmas.List.{length-map}
use Rattle.idx_outside.specs.Cause.{AskedFor}
use Rattle.idx_fields.specs.Field.{sample_bytes}
use Rattle.idx_layout.specs.OfHeader.{placing_of}
use Rattle.idx_layout.specs.Placing.{block_bytes, present_blocks}
use Rattle.idx_check.specs.Piece.{AskedUpTo, IsOnTheWay}
use Rattle.idx_check.proofs.FieldLemmas.{AreSeen, agrees_nowhere, block_agrees, block_differs, bytes_of_block, next_block, seen_all, seen_first, size_of, whole_runs}
use Rattle.idx_check.proofs.NatLemmas.{some_bytes}
use Rattle.idx_check.proofs.PieceLemmas.{asked_begins, asked_ends, way_begins, way_ends}
use Rattle.idx_check.specs.Pieces.{ReadsOn, read_to}
use Rattle.idx_check.proofs.PiecesLemmas.{reads_both, reads_none, reads_wider}
use Rattle.idx_check.proofs.TableLemmas.{agrees_to, if_none, if_some}
use Rattle.idx_check.proofs.blocks.wrong_in_field.Goals as goal

pub loop-block-init : goal.loop-block-init
loop-block-init g c =
    let bytes : c.run_of-run.result.size * 2 ^ c.args.header.now.block_bits ≡ block_bytes (placing_of c.args.header.now) c.args.field =
    bytes_of_block c.args.header.now c.args.field c.run_of-run.result.size c.requires.field c.run_of-run.ensures.size in
    let left : c.args.end - c.args.at ≡ block_bytes (placing_of c.args.header.now) c.args.field * length (present_blocks (placing_of c.args.header.now) c.args.file) = omega (arith, c.requires.ends) in
    let some : 0 < c.run_of-run.result.bytes = some_bytes c.run_of-run.result.size c.run_of-run.result.bits c.run_of-run.result.bytes c.run_of-run.ensures.some c.run_of-run.ensures.bytes in
    record {
      seen = seen_first (placing_of c.args.header.now) c.args.file c.args.field c.into_iter-block-iterator.result c.args.at (c.into_iter-block-iterator.ensures.into_iter_gives ∙ c.file_blocks-block-items.ensures.value);
      agree = agrees_nowhere (g.L.Leaf.contents c.args.leaf.now) (placing_of c.args.header.now) c.args.file c.args.at;
      way = way_begins (g.L.Leaf.contents c.args.leaf.now) c.args.piece.now.bytes.items c.args.piece.now.used c.run_of-run.result.bytes c.args.at (c.args.end - c.args.at) c.requires.fresh
          (whole_runs (block_bytes (placing_of c.args.header.now) c.args.field) c.args.header.now.block_bits c.run_of-run.result.bits c.run_of-run.result.size c.run_of-run.result.bytes
          (length (present_blocks (placing_of c.args.header.now) c.args.file)) (c.args.end - c.args.at) c.run_of-run.ensures.bits c.run_of-run.ensures.bytes (sym bytes) left) some;
      pieces = reads_none (g.R.Reader.reads c.args.reader.now) (g.R.Reader.reads c.args.reader.now) (g.R.Reader.asked c.args.reader.now) (g.R.Reader.asked c.args.reader.now)
          c.args.at (read_to c.args.at c.args.piece.now.bytes.items c.args.piece.now.used) refl refl (omega (arith, c.requires.fresh));
      asked = λ before is. asked_begins before (g.R.Reader.asked c.args.reader.now) c.args.piece.now.bytes.items c.args.piece.now.used c.args.at c.args.there c.requires.fresh is;
      quiet = refl;
    }

pub wrong_in_block-requires-clause-exists : goal.wrong_in_block-requires-clause-exists
wrong_in_block-requires-clause-exists g c =
    let next = next_block c.args.header.now c.args.file c.args.field c.in-Some.block c.loop-block.block-iterator c.next.new.self c.args.at c.loop-block.next c.args.end (c.run_of-run.result.size * 2 ^ c.args.header.now.block_bits)
    c.requires.valid c.requires.field c.requires.begins c.requires.ends (bytes_of_block c.args.header.now c.args.field c.run_of-run.result.size c.requires.field c.run_of-run.ensures.size)
    c.loop-block.invariant.seen c.in-Some.ensures.steps in
    next.exists

pub wrong_in_block-requires-clause-more : goal.wrong_in_block-requires-clause-more
wrong_in_block-requires-clause-more g c =
    let next = next_block c.args.header.now c.args.file c.args.field c.in-Some.block c.loop-block.block-iterator c.next.new.self c.args.at c.loop-block.next c.args.end (c.run_of-run.result.size * 2 ^ c.args.header.now.block_bits)
    c.requires.valid c.requires.field c.requires.begins c.requires.ends (bytes_of_block c.args.header.now c.args.field c.run_of-run.result.size c.requires.field c.run_of-run.ensures.size)
    c.loop-block.invariant.seen c.in-Some.ensures.steps in
    next.fits

pub overflow_add-result : goal.overflow_add-result
overflow_add-result g c =
    let next = next_block c.args.header.now c.args.file c.args.field c.in-Some.block c.loop-block.block-iterator c.next.new.self c.args.at c.loop-block.next c.args.end (c.run_of-run.result.size * 2 ^ c.args.header.now.block_bits)
    c.requires.valid c.requires.field c.requires.begins c.requires.ends (bytes_of_block c.args.header.now c.args.field c.run_of-run.result.size c.requires.field c.run_of-run.ensures.size)
    c.loop-block.invariant.seen c.in-Some.ensures.steps in
    let place : c.in-Some-found.place < c.run_of-run.result.size * 2 ^ c.args.header.now.block_bits =
    if_some c.in_ok-found.found c.in-Some-found.place (λ p. p < c.run_of-run.result.size * 2 ^ c.args.header.now.block_bits) c.in-Some-found.is c.in_ok-found.ensures.within in
    omega (arith, next.fits, place, c.ranges.end.fits)

pub returns-in-Some-found-clause-found : goal.returns-in-Some-found-clause-found
returns-in-Some-found-clause-found g c =
    let next = next_block c.args.header.now c.args.file c.args.field c.in-Some.block c.loop-block.block-iterator c.next.new.self c.args.at c.loop-block.next c.args.end (c.run_of-run.result.size * 2 ^ c.args.header.now.block_bits)
    c.requires.valid c.requires.field c.requires.begins c.requires.ends (bytes_of_block c.args.header.now c.args.field c.run_of-run.result.size c.requires.field c.run_of-run.ensures.size)
    c.loop-block.invariant.seen c.in-Some.ensures.steps in
    block_differs (placing_of c.args.header.now) c.args.file c.args.field c.in-Some.block c.run_of-run.result.size (c.run_of-run.result.size * 2 ^ c.args.header.now.block_bits) c.loop-block.next
    (size_of c.args.header.now c.args.field c.run_of-run.result.size c.requires.field c.run_of-run.ensures.size)
    (bytes_of_block c.args.header.now c.args.field c.run_of-run.result.size c.requires.field c.run_of-run.ensures.size) next.offset
    (subst (λ (n : ℕ). c.args.field < n) (sym (length-map c.args.header.now.fields sample_bytes)) c.requires.field) next.from next.to next.present (g.L.Leaf.contents c.args.leaf.now)
    c.args.at c.args.end c.in-Some-found.place c.in_ok-found.found c.in-Some-found.is next.after next.fits c.loop-block.invariant.agree c.in_ok-found.ensures.found

pub overflow_add-next : goal.overflow_add-next
overflow_add-next g c =
    let next = next_block c.args.header.now c.args.file c.args.field c.in-Some.block c.loop-block.block-iterator c.next.new.self c.args.at c.loop-block.next c.args.end (c.run_of-run.result.size * 2 ^ c.args.header.now.block_bits)
    c.requires.valid c.requires.field c.requires.begins c.requires.ends (bytes_of_block c.args.header.now c.args.field c.run_of-run.result.size c.requires.field c.run_of-run.ensures.size)
    c.loop-block.invariant.seen c.in-Some.ensures.steps in
    let bytes : c.run_of-run.result.size * 2 ^ c.args.header.now.block_bits ≡ c.block_bytes-next.result = ap (λ s. s * 2 ^ c.args.header.now.block_bits) c.run_of-run.ensures.size ∙ sym c.block_bytes-next.ensures.value in
    omega (arith, next.fits, bytes, c.ranges.end.fits)

pub returns-in-Some-found-clause-pieces : goal.returns-in-Some-found-clause-pieces
returns-in-Some-found-clause-pieces g c =
    let reads = g.R.Reader.reads in
    let asked = g.R.Reader.asked in
    reads_both (reads c.args.reader.now) (reads c.loop-block.reader) (reads c.wrong_in_block.new.reader) (asked c.args.reader.now) (asked c.loop-block.reader) (asked c.wrong_in_block.new.reader)
    c.args.at (read_to c.loop-block.next c.loop-block.piece.bytes.items c.loop-block.piece.used) c.args.end c.loop-block.invariant.pieces
    (if_some c.in_ok-found.found c.in-Some-found.place (λ _. ReadsOn reads asked c.loop-block.reader c.wrong_in_block.new.reader (read_to c.loop-block.next c.loop-block.piece.bytes.items c.loop-block.piece.used) c.args.end)
    c.in-Some-found.is c.in_ok-found.ensures.ended)

pub loop-block-preserved : goal.loop-block-preserved
loop-block-preserved g c =
    let next = next_block c.args.header.now c.args.file c.args.field c.in-Some.block c.loop-block.block-iterator c.next.new.self c.args.at c.loop-block.next c.args.end (c.run_of-run.result.size * 2 ^ c.args.header.now.block_bits)
    c.requires.valid c.requires.field c.requires.begins c.requires.ends (bytes_of_block c.args.header.now c.args.field c.run_of-run.result.size c.requires.field c.run_of-run.ensures.size)
    c.loop-block.invariant.seen c.in-Some.ensures.steps in
    let l = placing_of c.args.header.now in
    let contents = g.L.Leaf.contents c.args.leaf.now in
    let n : ℕ = c.run_of-run.result.size * 2 ^ c.args.header.now.block_bits in
    let bytes : n ≡ c.block_bytes-next.result = ap (λ s. s * 2 ^ c.args.header.now.block_bits) c.run_of-run.ensures.size ∙ sym c.block_bytes-next.ensures.value in
    let place : c.loop-block.next + n ≡ c.loop-block.next + c.block_bytes-next.result = ap (λ k. c.loop-block.next + k) bytes in
    record {
      seen = subst (λ (at : ℕ). AreSeen l c.args.file c.args.field c.next.new.self c.args.at at) place next.seen;
      agree = agrees_to contents l c.args.file c.args.at (c.loop-block.next + n) (c.loop-block.next + c.block_bytes-next.result) place
          (block_agrees (placing_of c.args.header.now) c.args.file c.args.field c.in-Some.block c.run_of-run.result.size (c.run_of-run.result.size * 2 ^ c.args.header.now.block_bits) c.loop-block.next
          (size_of c.args.header.now c.args.field c.run_of-run.result.size c.requires.field c.run_of-run.ensures.size)
          (bytes_of_block c.args.header.now c.args.field c.run_of-run.result.size c.requires.field c.run_of-run.ensures.size) next.offset
          (subst (λ (n : ℕ). c.args.field < n) (sym (length-map c.args.header.now.fields sample_bytes)) c.requires.field) next.from next.to next.present (g.L.Leaf.contents c.args.leaf.now)
          c.args.at c.in_ok-found.found c.in_default.is c.loop-block.invariant.agree c.in_ok-found.ensures.found);
      way = subst (λ (at : ℕ). IsOnTheWay contents c.wrong_in_block.new.piece.bytes.items c.wrong_in_block.new.piece.used c.run_of-run.result.bytes at (c.args.end - at)) place
          (if_none c.in_ok-found.found c.in_default.is c.in_ok-found.ensures.way);
      asked = λ before is. subst (λ (at : ℕ). AskedUpTo before (g.R.Reader.asked c.wrong_in_block.new.reader) c.wrong_in_block.new.piece.bytes.items c.wrong_in_block.new.piece.used at c.args.there) place
          (if_none c.in_ok-found.found c.in_default.is (c.in_ok-found.ensures.asked before (c.loop-block.invariant.asked before is)));
      pieces = subst (λ (at : ℕ). ReadsOn g.R.Reader.reads g.R.Reader.asked c.args.reader.now c.wrong_in_block.new.reader c.args.at (read_to at c.wrong_in_block.new.piece.bytes.items c.wrong_in_block.new.piece.used)) place
          (reads_both (g.R.Reader.reads c.args.reader.now) (g.R.Reader.reads c.loop-block.reader) (g.R.Reader.reads c.wrong_in_block.new.reader)
          (g.R.Reader.asked c.args.reader.now) (g.R.Reader.asked c.loop-block.reader) (g.R.Reader.asked c.wrong_in_block.new.reader)
          c.args.at (read_to c.loop-block.next c.loop-block.piece.bytes.items c.loop-block.piece.used) (read_to (c.loop-block.next + n) c.wrong_in_block.new.piece.bytes.items c.wrong_in_block.new.piece.used)
          c.loop-block.invariant.pieces (if_none c.in_ok-found.found c.in_default.is c.in_ok-found.ensures.pieces));
      quiet = c.in_ok-found.ensures.quiet ∙ c.loop-block.invariant.quiet;
    }

pub returns-clause-found : goal.returns-clause-found
returns-clause-found g c =
    let end = seen_all (placing_of c.args.header.now) c.args.file c.args.field c.loop-block.block-iterator c.args.at c.loop-block.next c.args.end c.loop-block.invariant.seen c.in-None.ensures.steps.0 c.requires.ends in
    agrees_to (g.L.Leaf.contents c.args.leaf.now) (placing_of c.args.header.now) c.args.file c.args.at c.loop-block.next c.args.end end c.loop-block.invariant.agree

pub returns-clause-fresh : goal.returns-clause-fresh
returns-clause-fresh g c =
    let end = seen_all (placing_of c.args.header.now) c.args.file c.args.field c.loop-block.block-iterator c.args.at c.loop-block.next c.args.end c.loop-block.invariant.seen c.in-None.ensures.steps.0 c.requires.ends in
    way_ends (g.L.Leaf.contents c.args.leaf.now) c.loop-block.piece.bytes.items c.loop-block.piece.used c.run_of-run.result.bytes c.loop-block.next (c.args.end - c.loop-block.next) c.loop-block.invariant.way (omega (arith, end))

pub returns-clause-asked : goal.returns-clause-asked
returns-clause-asked g c =
    let end = seen_all (placing_of c.args.header.now) c.args.file c.args.field c.loop-block.block-iterator c.args.at c.loop-block.next c.args.end c.loop-block.invariant.seen c.in-None.ensures.steps.0 c.requires.ends in
    let fresh = way_ends (g.L.Leaf.contents c.args.leaf.now) c.loop-block.piece.bytes.items c.loop-block.piece.used c.run_of-run.result.bytes c.loop-block.next (c.args.end - c.loop-block.next) c.loop-block.invariant.way (omega (arith, end)) in
    λ before is. subst (λ (n : ℕ). AskedFor before (g.R.Reader.asked c.loop-block.reader) (min n c.args.there)) end
    (asked_ends before (g.R.Reader.asked c.loop-block.reader) c.loop-block.piece.bytes.items c.loop-block.piece.used c.loop-block.next c.args.there fresh (c.loop-block.invariant.asked before is))

pub returns-clause-pieces : goal.returns-clause-pieces
returns-clause-pieces g c =
    let reads = g.R.Reader.reads in
    let asked = g.R.Reader.asked in
    let end = seen_all (placing_of c.args.header.now) c.args.file c.args.field c.loop-block.block-iterator c.args.at c.loop-block.next c.args.end c.loop-block.invariant.seen c.in-None.ensures.steps.0 c.requires.ends in
    let fresh = way_ends (g.L.Leaf.contents c.args.leaf.now) c.loop-block.piece.bytes.items c.loop-block.piece.used c.run_of-run.result.bytes c.loop-block.next (c.args.end - c.loop-block.next) c.loop-block.invariant.way (omega (arith, end)) in
    reads_wider (reads c.args.reader.now) (reads c.loop-block.reader) (asked c.args.reader.now) (asked c.loop-block.reader) c.args.at (read_to c.loop-block.next c.loop-block.piece.bytes.items c.loop-block.piece.used) c.args.at c.args.end
    (omega (arith, end, fresh)) c.loop-block.invariant.pieces
