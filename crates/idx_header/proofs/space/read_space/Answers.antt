use Rattle.std.proofs.Common.{◌≡◌, ◌∙◌, ℕ, List, Some, true, false, length, sym, ap, subst}
use Rattle.idx_text.specs.declared.section.Section.{Section}
use Rattle.idx_hz.specs.Mask.{NamesAxes}
use Rattle.idx_hz.specs.MaskText.{mask_of}
use Rattle.idx_header.specs.declared.key.Key.TheVariants as keys
use Rattle.idx_header.specs.declared.header_kind.HeaderKind.TheVariants as kinds
use Rattle.idx_header.specs.Box.{box_of, fits_from, pairs_of}
use Rattle.idx_header.specs.Keys.{section_at}
use Rattle.idx_header.proofs.BoxLemmas.{fault_outside, fault_none, read_as}
use Rattle.idx_header.proofs.space.read_space.Goals as goal

-- what was read of both sections
record IsRead (sections : List Section) (pairs : List (ℕ × ℕ)) (mask : List ℕ) : Type 0 where
  pub has_pairs : pairs_of (section_at keys.Box sections).value ≡ Some pairs
  pub has_mask : mask_of (section_at keys.Bits sections).value ≡ Some mask
  pub named : NamesAxes mask (length pairs)

is_read : (ss : List Section) (box bits : Section) (box_text bits_text : List ℕ) (pairs : List (ℕ × ℕ)) (mask : List ℕ) (axes : ℕ) →
    box ≡ section_at keys.Box ss → bits ≡ section_at keys.Bits ss → box_text ≡ box.value → bits_text ≡ bits.value →
    pairs_of box_text ≡ Some pairs → mask_of bits_text ≡ Some mask → NamesAxes mask axes → axes ≡ length pairs → IsRead ss pairs mask
is_read ss box bits box_text bits_text pairs mask axes b m bt mt has_pairs has_mask named count =
    record {
      has_pairs = ap (λ (s : Section). pairs_of s.value) (sym b) ∙ ap pairs_of (sym bt) ∙ has_pairs;
      has_mask = ap (λ (s : Section). mask_of s.value) (sym m) ∙ ap mask_of (sym mt) ∙ has_mask;
      named = subst (NamesAxes mask) count named;
    }

pub returns-then-not-fits-clause-err : goal.returns-then-not-fits-clause-err
returns-then-not-fits-clause-err c =
    let ss : List Section = c.args.sections.now in
    let pairs : List (ℕ × ℕ) = c.in-Some.pairs.items in
    let mask : List ℕ = c.in-Some-read_mask.mask in
    let read : IsRead ss pairs mask = is_read ss c.standing-section.result.now c.standing-bits.result.now c.as_slice.result.now c.as_slice-2.result.now pairs mask c.len.result
    c.standing-section.ensures c.standing-bits.ensures c.as_slice.ensures c.as_slice-2.ensures
    c.in-Some.ensures.some.0 c.in-Some-read_mask.ensures.some.0 c.in-Some-read_mask.ensures.some.2 c.len.ensures.value in
    let outside : fits_from 0 pairs mask ≡ false = ap (λ ps. fits_from 0 ps mask) (sym c.as_slice-3.ensures.value) ∙ sym c.fits.ensures ∙ c.if-not-fits.true in
    fault_outside (section_at keys.Box ss) (section_at keys.Bits ss) pairs read.has_pairs mask read.has_mask read.named outside
    ∙ ap (λ (s : Section). Some (record { line = s.line; kind = kinds.BoxOutsideMask })) (sym c.standing-section.ensures)
    ∙ ap Some (sym c.on-then-not-fits.ensures)

pub returns-clause-ok : goal.returns-clause-ok
returns-clause-ok c =
    let ss : List Section = c.args.sections.now in
    let pairs : List (ℕ × ℕ) = c.in-Some.pairs.items in
    let mask : List ℕ = c.in-Some-read_mask.mask in
    let read : IsRead ss pairs mask = is_read ss c.standing-section.result.now c.standing-bits.result.now c.as_slice.result.now c.as_slice-2.result.now pairs mask c.len.result
    c.standing-section.ensures c.standing-bits.ensures c.as_slice.ensures c.as_slice-2.ensures
    c.in-Some.ensures.some.0 c.in-Some-read_mask.ensures.some.0 c.in-Some-read_mask.ensures.some.2 c.len.ensures.value in
    let inside : fits_from 0 pairs mask ≡ true = ap (λ ps. fits_from 0 ps mask) (sym c.as_slice-3.ensures.value) ∙ sym c.fits.ensures ∙ c.if-not-fits.false in
    let same = read_as (section_at keys.Box ss) (section_at keys.Bits ss) pairs mask read.has_pairs read.has_mask in (
      fault_none (section_at keys.Box ss) (section_at keys.Bits ss) pairs read.has_pairs mask read.has_mask read.named inside,
      same.0,
      c.region_in-region.ensures.value ∙ ap (λ ps. box_of ps mask) c.as_slice-4.ensures.value ∙ same.1,
    )
