use Rattle.std.proofs.Common.{◌≡◌, ◌+◌, ◌++◌, [], ℕ, List, length, sym, ap, ◌∙◌, arith}
use Rattle.std.specs.List.{flat_map, range_with_len}
use Rattle.idx_header.specs.Header.{sample_bytes_of}
use Rattle.idx_pieces.specs.Joined.{bytes_before, field_bytes, place_count}
use Rattle.idx_pieces.proofs.JoinSamples.{before-more}
use Rattle.idx_pieces.proofs.JoinSteps.{range_step, room_for}
use Rattle.idx_pieces.proofs.joined.joined.Goals as goal

pub returns-clause-bytes : goal.returns-clause-bytes
returns-clause-bytes c =
    let h = c.args.header.now in
    let f : ℕ → List ℕ = λ (field : ℕ). field_bytes c.args.piece.now c.args.parcels.now (place_count h c.args.piece.now) (bytes_before h field) (sample_bytes_of h field) in
    let all : c.loop-field.field ≡ length h.fields = omega (arith, c.field_count-field-end.ensures.count) in
    c.loop-field.invariant.bytes ∙ ap (λ (k : ℕ). flat_map f (range_with_len 0 k)) all

pub loop-field-preserved : goal.loop-field-preserved
loop-field-preserved c =
    let h = c.args.header.now in
    let piece = c.args.piece.now in
    let parcels = c.args.parcels.now in
    let f : ℕ → List ℕ = λ (field : ℕ). field_bytes piece parcels (place_count h piece) (bytes_before h field) (sample_bytes_of h field) in
    let field : ℕ = c.loop-field.field in
    let more : c.join_field.new.bytes ≡ c.loop-field.bytes ++ f field =
    c.in_ok-join_field.ensures
    ∙ ap (λ (k : ℕ). c.loop-field.bytes ++ field_bytes piece parcels k c.loop-field.before c.sample_bytes-size.result) c.place_count-places.ensures.count
    ∙ ap (λ (k : ℕ). c.loop-field.bytes ++ field_bytes piece parcels (place_count h piece) k c.sample_bytes-size.result) c.loop-field.invariant.before
    ∙ ap (λ (k : ℕ). c.loop-field.bytes ++ field_bytes piece parcels (place_count h piece) (bytes_before h field) k) c.sample_bytes-size.ensures.value in
    record {
      bytes = range_step f [] c.loop-field.bytes c.join_field.new.bytes field more c.loop-field.invariant.bytes;
      before = ap (λ (k : ℕ). k + c.sample_bytes-size.result) c.loop-field.invariant.before
          ∙ ap (λ (k : ℕ). bytes_before h field + k) c.sample_bytes-size.ensures.value ∙ sym (before-more h field);
      small = omega (arith, c.loop-field.invariant.small, c.sample_bytes-size.ensures.few);
    }

pub join_field-requires-clause-room : goal.join_field-requires-clause-room
join_field-requires-clause-room c =
    room_for c.args.header.now c.args.parcels.now c.loop-field.field c.loop-field.before c.sample_bytes-size.result (omega (arith, c.field_count-field-end.ensures.count))
    c.loop-field.invariant.before c.sample_bytes-size.ensures.value c.requires.whole
