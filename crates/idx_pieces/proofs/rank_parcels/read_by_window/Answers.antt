use Rattle.std.proofs.Common.{ℕ, ◌≤◌, List, length, All, refl, sym, ap, subst, arith, rules}
use Rattle.idx_geom.specs.Region.{points}
use Rattle.idx_header.specs.Header.{HeaderValue}
use Rattle.idx_pieces.specs.Reading.{EndsBelow, IsReady}
use Rattle.idx_pieces.proofs.FieldLemmas.{asks-none}
use Rattle.idx_pieces.proofs.RankReadLemmas.{parcels-are, parcels-full, asks-between}
use Rattle.idx_pieces.proofs.rank_parcels.read_by_window.Goals as goal

pub begin_all-requires-clause-inside : goal.begin_all-requires-clause-inside
begin_all-requires-clause-inside g c = c.requires.inside

pub begin_all-requires-clause-axes : goal.begin_all-requires-clause-axes
begin_all-requires-clause-axes g c = c.requires.axes

pub returns-in_default-clause-raw : goal.returns-in_default-clause-raw
returns-in_default-clause-raw g c = record { contents = refl; count = omega arith; once = omega arith; quiet = tt; refused = refl }

pub returns-in_default-clause-asked : goal.returns-in_default-clause-asked
returns-in_default-clause-asked g c = λ first end le between. asks-none (g.V.Source.asked c.args.raw.now) _

pub returns-in_default-from_elem-clause-raw : goal.returns-in_default-from_elem-clause-raw
returns-in_default-from_elem-clause-raw g c = record { contents = refl; count = omega arith; once = omega arith; quiet = tt; refused = refl }

pub returns-in_default-from_elem-clause-asked : goal.returns-in_default-from_elem-clause-asked
returns-in_default-from_elem-clause-asked g c = λ first end le between. asks-none (g.V.Source.asked c.args.raw.now) _

pub end_place-end-requires : goal.end_place-end-requires
end_place-end-requires g c = subst (λ (b : List (ℕ × ℕ)). All (IsReady b 0) c.in-Ok.parts.items) (sym c.region.ensures.value) c.in-Ok.ensures.ready

pub prove-unreachable-requires : goal.prove-unreachable-requires
prove-unreachable-requires g c = omega (arith, c.if-prove.true, c.volume_bytes.ensures.few)

pub unreachable-prove : goal.unreachable-prove
unreachable-prove g c = c.prove-unreachable.result

pub read_fields-requires-clause-ready : goal.read_fields-requires-clause-ready
read_fields-requires-clause-ready g c = c.in-Ok.ensures.ready

pub read_fields-requires-clause-first : goal.read_fields-requires-clause-first
read_fields-requires-clause-first g c = c.in-Ok.ensures.first

pub read_fields-requires-clause-held : goal.read_fields-requires-clause-held
read_fields-requires-clause-held g c = c.in-Ok.ensures.held (g.V.Source.contents c.args.raw.now)

pub read_fields-requires-clause-ends : goal.read_fields-requires-clause-ends
read_fields-requires-clause-ends g c =
    subst (λ (b : List (ℕ × ℕ)). All (EndsBelow b c.end_place-end.result) c.in-Ok.parts.items) c.region.ensures.value c.end_place-end.ensures.ends

pub read_fields-requires-clause-end : goal.read_fields-requires-clause-end
read_fields-requires-clause-end g c =
    omega (arith, c.end_place-end.ensures.within, ap (λ (b : List (ℕ × ℕ)). length (points b)) c.region.ensures.value)

pub read_fields-requires-clause-window : goal.read_fields-requires-clause-window
read_fields-requires-clause-window g c = omega (arith, c.deref_mut.ensures.len, c.in-Ok-from_elem.ensures.len, c.requires.room)

pub read_fields-requires-clause-small : goal.read_fields-requires-clause-small
read_fields-requires-clause-small g c = omega (arith, c.volume_bytes.ensures.value, c.volume_bytes.ensures.few)

pub read_fields-requires-clause-volume : goal.read_fields-requires-clause-volume
read_fields-requires-clause-volume g c = c.requires.volume

pub returns-in_err-read_fields-clause-parcels : goal.returns-in_err-read_fields-clause-parcels
returns-in_err-read_fields-clause-parcels g c = search rules

pub returns-in_err-read_fields-clause-full : goal.returns-in_err-read_fields-clause-full
returns-in_err-read_fields-clause-full g c = search rules

pub returns-in_err-read_fields-clause-asked : goal.returns-in_err-read_fields-clause-asked
returns-in_err-read_fields-clause-asked g c = λ first end le between.
    let h : HeaderValue = c.args.header.now in
    asks-between (g.V.Source.asked c.args.raw.now) (g.V.Source.asked c.read_fields.new.raw) h c.args.rank c.args.region.now c.args.pieces.now.items c.in-Ok.parts.items c.end_place-end.result first end
    c.in-Ok.ensures.headings
    (subst (λ (b : List (ℕ × ℕ)). (e : ℕ) → All (EndsBelow b e) c.in-Ok.parts.items → c.end_place-end.result ≤ e) c.region.ensures.value c.end_place-end.ensures.least)
    c.read_fields.ensures.asked between

pub returns-in-Ok-finished-clause-parcels : goal.returns-in-Ok-finished-clause-parcels
returns-in-Ok-finished-clause-parcels g c =
    parcels-are c.args.rank c.args.region.now c.args.pieces.now.items c.in-Ok.parts.items c.read_fields.new.parts.items c.in-Ok-finished.parcels.items
    c.in-Ok.ensures.headings c.in_ok-read_fields.ensures.headings c.in-Ok-finished.ensures

pub returns-in-Ok-finished-clause-full : goal.returns-in-Ok-finished-clause-full
returns-in-Ok-finished-clause-full g c =
    parcels-full c.args.header.now (g.V.Source.contents c.args.raw.now) c.read_fields.new.parts.items c.in-Ok-finished.parcels.items
    c.in_ok-read_fields.ensures.first c.in_ok-read_fields.ensures.held c.in-Ok-finished.ensures

pub returns-in-Ok-finished-clause-raw : goal.returns-in-Ok-finished-clause-raw
returns-in-Ok-finished-clause-raw g c = record {
  contents = c.in_ok-read_fields.ensures.raw.contents;
  count = c.in_ok-read_fields.ensures.raw.count;
  once = c.in_ok-read_fields.ensures.raw.once;
  quiet = c.in_ok-read_fields.ensures.raw.quiet;
  refused = tt;
}

pub returns-in-Ok-finished-clause-asked : goal.returns-in-Ok-finished-clause-asked
returns-in-Ok-finished-clause-asked g c = λ first end le between.
    let h : HeaderValue = c.args.header.now in
    asks-between (g.V.Source.asked c.args.raw.now) (g.V.Source.asked c.read_fields.new.raw) h c.args.rank c.args.region.now c.args.pieces.now.items c.in-Ok.parts.items c.end_place-end.result first end
    c.in-Ok.ensures.headings
    (subst (λ (b : List (ℕ × ℕ)). (e : ℕ) → All (EndsBelow b e) c.in-Ok.parts.items → c.end_place-end.result ≤ e) c.region.ensures.value c.end_place-end.ensures.least)
    c.read_fields.ensures.asked between

pub returns-clause-raw : goal.returns-clause-raw
returns-clause-raw g c = record {
  contents = c.in_ok-read_fields.ensures.raw.contents;
  count = c.in_ok-read_fields.ensures.raw.count;
  once = c.in_ok-read_fields.ensures.raw.once;
  quiet = tt;
  refused = c.in_ok-read_fields.ensures.raw.quiet;
}

pub returns-clause-asked : goal.returns-clause-asked
returns-clause-asked g c = λ first end le between.
    let h : HeaderValue = c.args.header.now in
    asks-between (g.V.Source.asked c.args.raw.now) (g.V.Source.asked c.read_fields.new.raw) h c.args.rank c.args.region.now c.args.pieces.now.items c.in-Ok.parts.items c.end_place-end.result first end
    c.in-Ok.ensures.headings
    (subst (λ (b : List (ℕ × ℕ)). (e : ℕ) → All (EndsBelow b e) c.in-Ok.parts.items → c.end_place-end.result ≤ e) c.region.ensures.value c.end_place-end.ensures.least)
    c.read_fields.ensures.asked between
