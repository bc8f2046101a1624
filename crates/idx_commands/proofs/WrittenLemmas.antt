-- Answers over a step's files are those out of the samples that were written.
use Rattle.std.proofs.Common.{◌≡◌, ℕ, ◌<◌, List, [], Some, length, map, refl, sym, ap, ◌∙◌, subst, arith, zero-add}
use Rattle.std.specs.Prelude.{slice_get}
use Rattle.std.proofs.lemmas.List.{length-map}
use Rattle.std.proofs.lemmas.List.FromFn.{get_or-map-range_with_len, length-map-range_with_len}
use Rattle.std.proofs.lemmas.Option.{slice_get_within, slice_get-get_or}
use Rattle.std.proofs.Math.ListN.{get_or}
use Rattle.idx_geom.specs.Region.{points}
use Rattle.idx_geom.specs.Volume.{IsVolume}
use Rattle.idx_hz.specs.Answer.{answer}
use Rattle.idx_outside.specs.declared.mem_file.MemFile.{MemFile}
use Rattle.idx_fields.specs.Field.{sample_bytes}
use Rattle.idx_header.specs.Header.{HeaderValue, IsHeader}
use Rattle.idx_header.specs.Revisions.{IsRevisionOf}
use Rattle.idx_rowmajor.specs.declared.layout.Layout.{Layout}
use Rattle.idx_layout.specs.Content.{field_in, volume_in}
use Rattle.idx_layout.specs.Placing.{Placing}
use Rattle.idx_layout.specs.OfHeader.{placing_of}
use Rattle.idx_edition.specs.Stored.{HasFiles, stored_block}
use Rattle.idx_edition.proofs.BackLemmas.{stored_back, volume_count}
use Rattle.idx_plan.specs.Answer.{answer_of}
use Rattle.idx_plan.specs.declared.ask.Ask.{Ask}

inner : {X : Type 0} (x y : X) → Some x ≡ Some y → x ≡ y
inner x y e = cc

-- a field of the volume that blocks make
one_field : (l : Placing) (content : ℕ → ℕ → List ℕ) (field : ℕ) (samples : List (List ℕ)) → slice_get (volume_in l content) field ≡ Some samples → field_in l content field ≡ samples
one_field l content field samples here =
    inner (field_in l content field) samples
    (sym (slice_get-get_or (volume_in l content) field [] within
    ∙ ap (λ (s : List (List ℕ)). Some s) (get_or-map-range_with_len (field_in l content) 0 (length l.sizes) field field [] (omega (arith, within, many)) (zero-add field)))
    ∙ here)
  where
    within : field < length (volume_in l content)
    within = slice_get_within (volume_in l content) field samples here

    many : length (volume_in l content) ≡ length l.sizes
    many = length-map-range_with_len (field_in l content) 0 (length l.sizes)

pub written_answer : (layout : Layout) (h revised : HeaderValue) (ask : Ask) (volume : List (List (List ℕ))) (samples : List (List ℕ)) (files : List MemFile) → IsRevisionOf h revised → IsHeader revised →
    IsVolume (placing_of h).sizes (length (points h.box)) volume → slice_get volume ask.field ≡ Some samples → HasFiles layout revised ask.time volume files →
    answer_of h ask (stored_block revised ask.time files) ≡ answer h.mask h.box samples ask.region ask.lo ask.hi
written_answer layout h revised ask volume samples files revision is fills at has =
    ap (λ (s : List (List ℕ)). answer h.mask h.box s ask.region ask.lo ask.hi) (one_field (placing_of h) content ask.field samples (ap (λ v. slice_get v ask.field) back ∙ at))
  where
    content : ℕ → ℕ → List ℕ
    content = stored_block revised ask.time files

    same : placing_of revised ≡ placing_of h
    same = ap placing_of revision.same

    box : points revised.box ≡ points h.box
    box = ap (λ (r : HeaderValue). points r.box) revision.same

    back : volume_in (placing_of h) content ≡ volume
    back =
        ap (λ (l : Placing). volume_in l content) (sym same)
        ∙ stored_back layout revised ask.time volume files is
        (subst (λ (l : Placing). IsVolume l.sizes (length (points revised.box)) volume) (sym same) (subst (λ (ps : List (List ℕ)). IsVolume (placing_of h).sizes (length ps) volume) (sym box) fills))
        has

pub layouts_answer : (layout other : Layout) (h revised : HeaderValue) (ask : Ask) (volume : List (List (List ℕ))) (files others : List MemFile) → IsRevisionOf h revised → IsHeader revised →
    IsVolume (placing_of h).sizes (length (points h.box)) volume → ask.field < length h.fields → HasFiles layout revised ask.time volume files → HasFiles other revised ask.time volume others →
    answer_of h ask (stored_block revised ask.time files) ≡ answer_of h ask (stored_block revised ask.time others)
layouts_answer layout other h revised ask volume files others revision is fills within has have =
    written_answer layout h revised ask volume samples files revision is fills at has ∙ sym (written_answer other h revised ask volume samples others revision is fills at have)
  where
    samples : List (List ℕ)
    samples = get_or volume ask.field []

    at : slice_get volume ask.field ≡ Some samples
    at = slice_get-get_or volume ask.field [] (omega (arith, within, volume_count (placing_of h).sizes (length (points h.box)) volume fills, length-map h.fields sample_bytes))
