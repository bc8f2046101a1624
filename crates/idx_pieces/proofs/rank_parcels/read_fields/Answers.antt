use Rattle.std.proofs.Common.{◌≡◌, ℕ, ◌+◌, ◌-◌, ◌*◌, ◌<◌, List, length, map, sum, Option, All, refl, sym, ap, ◌∙◌, subst, arith}
use Rattle.idx_fields.specs.Field.{sample_bytes}
use Rattle.idx_geom.specs.Region.{points}
use Rattle.idx_header.specs.Header.{HeaderValue}
use Rattle.idx_pieces.specs.RawReads.{AsksAtMost}
use Rattle.idx_pieces.specs.Reading.{HoldsUpTo, IsReady, bytes_before}
use Rattle.idx_pieces.specs.declared.filling.Filling.{Filling}
use Rattle.idx_pieces.proofs.FieldLemmas.{EndsBelow-same, BeginsFrom-same, all-from, asks-none, asks-weaker}
use Rattle.idx_pieces.proofs.FieldsLemmas.{field-fits, same-headings, start-more, all-next, asks-field, bytes-le}
use Rattle.idx_pieces.proofs.rank_parcels.read_fields.Goals as goal

pub fields-init : goal.fields-init
fields-init g c = record {
  start = omega arith;
  ready = c.requires.ready;
  first = c.requires.first;
  headings = refl;
  held = c.requires.held;
  contents = refl;
  quiet = refl;
  asked = λ low all le. asks-none (g.V.Source.asked c.args.raw.now) _;
}

pub read_field-requires : goal.read_field-requires
read_field-requires g c = record {
  field = omega (arith, c.fields-test.true, c.field_count-field-end.ensures.count);
  start = c.fields.invariant.start;
  ready = c.fields.invariant.ready;
  ends = EndsBelow-same c.args.header.now.box c.args.end c.args.parts.now.items c.fields.parts.items c.fields.invariant.headings c.requires.ends;
  end = c.requires.end;
  window = omega (arith, c.requires.window, c.fields.auto.window);
  small = c.requires.small;
  volume = λ raw known. c.requires.volume raw (sym c.fields.invariant.contents ∙ known);
}

pub fields-preserved : goal.fields-preserved
fields-preserved g c =
    let h : HeaderValue = c.args.header.now in
    let told : Option (List ℕ) = g.V.Source.contents c.args.raw.now in
    let field : ℕ = c.fields.field in
    let lt : field < length h.fields = omega (arith, c.fields-test.true, c.fields.auto.field-end, c.field_count-field-end.ensures.count) in
    let xs : List Filling = c.read_field.new.parts.items in
    let ys : List Filling = c.rewind_all.new.parts.items in
    let held : All (HoldsUpTo h told field) xs =
    subst (λ (o : Option (List ℕ)). All (HoldsUpTo h o field) xs) c.fields.invariant.contents
    (c.in_ok-read_field.ensures.held (subst (λ (o : Option (List ℕ)). All (HoldsUpTo h o field) c.fields.parts.items) (sym c.fields.invariant.contents) c.fields.invariant.held)) in
    record {
      start = start-more h field c.fields.start c.count-points.result c.sample_bytes.result lt c.fields.invariant.start
          (c.count-points.ensures.count ∙ ap (λ (b : List (ℕ × ℕ)). length (points b)) c.region-extent.ensures.value) c.sample_bytes.ensures.value;
      ready = subst (λ (b : List (ℕ × ℕ)). All (IsReady b 0) ys) c.region-extent.ensures.value c.rewind_all.ensures.ready;
      first = c.rewind_all.ensures.first;
      headings = same-headings xs ys c.rewind_all.ensures.parcels ∙ c.in_ok-read_field.ensures.headings ∙ c.fields.invariant.headings;
      held = all-next h told field xs ys lt c.in_ok-read_field.ensures.ready c.in_ok-read_field.ensures.done c.rewind_all.ensures.parcels c.rewind_all.ensures.first held;
      contents = c.in_ok-read_field.ensures.raw.contents ∙ c.fields.invariant.contents;
      quiet = c.in_ok-read_field.ensures.raw.quiet ∙ c.fields.invariant.quiet;
      asked = λ low all le.
          asks-field (g.V.Source.asked c.args.raw.now) (g.V.Source.asked c.fields.raw) (g.V.Source.asked c.read_field.new.raw) h field (c.args.end - low) lt (c.fields.invariant.asked low all le)
          (c.read_field.ensures.asked low
          (all-from h.box 0 low c.fields.parts.items c.fields.invariant.ready (BeginsFrom-same h.box low c.args.parts.now.items c.fields.parts.items c.fields.invariant.headings all)) le);
    }

pub returns-in_err-read_field-clause-asked : goal.returns-in_err-read_field-clause-asked
returns-in_err-read_field-clause-asked g c = λ low all le.
    let h : HeaderValue = c.args.header.now in
    let field : ℕ = c.fields.field in
    let lt : field < length h.fields = omega (arith, c.fields-test.true, c.fields.auto.field-end, c.field_count-field-end.ensures.count) in
    let more : AsksAtMost (g.V.Source.asked c.args.raw.now) (g.V.Source.asked c.read_field.new.raw) ((c.args.end - low) * bytes_before h (field + 1)) =
    asks-field (g.V.Source.asked c.args.raw.now) (g.V.Source.asked c.fields.raw) (g.V.Source.asked c.read_field.new.raw) h field (c.args.end - low) lt (c.fields.invariant.asked low all le)
    (c.read_field.ensures.asked low
    (all-from h.box 0 low c.fields.parts.items c.fields.invariant.ready (BeginsFrom-same h.box low c.args.parts.now.items c.fields.parts.items c.fields.invariant.headings all)) le) in
    asks-weaker (g.V.Source.asked c.args.raw.now) (g.V.Source.asked c.read_field.new.raw) ((c.args.end - low) * bytes_before h (field + 1)) ((c.args.end - low) * sum (map sample_bytes h.fields))
    (bytes-le h (field + 1) (c.args.end - low)) more

pub returns-clause-asked : goal.returns-clause-asked
returns-clause-asked g c = λ low all le.
    asks-weaker (g.V.Source.asked c.args.raw.now) (g.V.Source.asked c.fields.raw) ((c.args.end - low) * bytes_before c.args.header.now c.fields.field) ((c.args.end - low) * sum (map sample_bytes c.args.header.now.fields))
    (bytes-le c.args.header.now c.fields.field (c.args.end - low)) (c.fields.invariant.asked low all le)

pub overflow_mul-start : goal.overflow_mul-start
overflow_mul-start g c =
    let lt : c.fields.field < length c.args.header.now.fields = omega (arith, c.fields-test.true, c.fields.auto.field-end, c.field_count-field-end.ensures.count) in
    let fits = field-fits c.args.header.now c.fields.field c.fields.start c.count-points.result c.sample_bytes.result lt c.fields.invariant.start
    (c.count-points.ensures.count ∙ ap (λ (b : List (ℕ × ℕ)). length (points b)) c.region-extent.ensures.value) c.sample_bytes.ensures.value in
    omega (arith, fits, c.requires.small)

pub overflow_add-start : goal.overflow_add-start
overflow_add-start g c =
    let lt : c.fields.field < length c.args.header.now.fields = omega (arith, c.fields-test.true, c.fields.auto.field-end, c.field_count-field-end.ensures.count) in
    let fits = field-fits c.args.header.now c.fields.field c.fields.start c.count-points.result c.sample_bytes.result lt c.fields.invariant.start
    (c.count-points.ensures.count ∙ ap (λ (b : List (ℕ × ℕ)). length (points b)) c.region-extent.ensures.value) c.sample_bytes.ensures.value in
    omega (arith, fits, c.requires.small)

pub rewind_all-requires : goal.rewind_all-requires
rewind_all-requires g c = record {
  ready = subst (λ (b : List (ℕ × ℕ)). All (IsReady b 0) c.read_field.new.parts.items) (sym c.region-extent.ensures.value) c.in_ok-read_field.ensures.ready;
}

pub returns-clause-held : goal.returns-clause-held
returns-clause-held g c =
    let all : c.fields.field ≡ length c.args.header.now.fields = omega (arith, c.fields-test.false, c.fields.auto.field-end, c.field_count-field-end.ensures.count) in
    subst (λ n. All (HoldsUpTo c.args.header.now (g.V.Source.contents c.args.raw.now) n) c.fields.parts.items) all c.fields.invariant.held
