use Rattle.std.proofs.Common.{◌≡◌, ℕ, ap, ◌∙◌, arith}
use Rattle.std.specs.List.{slice_index}
use Rattle.idx_geom.specs.Region.{place_of, point_of}
use Rattle.idx_pieces.specs.Cursor.{coordinate, bounds_at}
use Rattle.idx_pieces.proofs.CursorLemmas.{point-found, within_box}
use Rattle.idx_pieces.proofs.cursor.Cursor.at.Goals as goal

pub overflow_sub-result-4 : goal.overflow_sub-result-4
overflow_sub-result-4 c =
    let ends = within_box c.args.extent.now c.args.region.now 0 c.requires.part (omega (arith, c.requires.part.valid.axes.0)) in
    let r : c.bounds-lo.result ≡ bounds_at c.args.region.now 0 = c.bounds-lo.ensures.value in
    let e : c.bounds-first.result ≡ bounds_at c.args.extent.now 0 = c.bounds-first.ensures.value in
    omega (arith, ends.0, ends.1, ap (λ (b : ℕ × ℕ). b.0) r, ap (λ (b : ℕ × ℕ). b.1) r, ap (λ (b : ℕ × ℕ). b.0) e, ap (λ (b : ℕ × ℕ). b.1) e)

pub rank_of-requires : goal.rank_of-requires
rank_of-requires c = c.requires.part.inside _ c.point_at-p.ensures.inside

pub returns-clause-cursor : goal.returns-clause-cursor
returns-clause-cursor c =
    let box = c.args.extent.now in
    let region = c.args.region.now in
    let ends = within_box box region 0 c.requires.part (omega (arith, c.requires.part.valid.axes.0)) in
    let r : c.bounds-lo.result ≡ bounds_at region 0 = c.bounds-lo.ensures.value in
    let e : c.bounds-first.result ≡ bounds_at box 0 = c.bounds-first.ensures.value in
    let r' : c.bounds.result ≡ bounds_at region 1 = c.bounds.ensures.value in
    let r0 : c.bounds-lo.result.0 ≡ (bounds_at region 0).0 = ap (λ (b : ℕ × ℕ). b.0) r in
    let r1 : c.bounds-lo.result.1 ≡ (bounds_at region 0).1 = ap (λ (b : ℕ × ℕ). b.1) r in
    let e0 : c.bounds-first.result.0 ≡ (bounds_at box 0).0 = ap (λ (b : ℕ × ℕ). b.0) e in
    let e1 : c.bounds-first.result.1 ≡ (bounds_at box 0).1 = ap (λ (b : ℕ × ℕ). b.1) e in
    let s1 : c.bounds.result.1 ≡ (bounds_at region 1).1 = ap (λ (b : ℕ × ℕ). b.1) r' in
    let p : c.point_at-p.result ≡ point_of region c.args.number = point-found region c.args.number c.point_at-p.result c.point_at-p.ensures.point in
    let x : c.get.result ≡ coordinate region c.args.number 0 = c.get.ensures.value ∙ ap (λ q. slice_index q 0) p in
    let y : c.get-2.result ≡ coordinate region c.args.number 1 = c.get-2.ensures.value ∙ ap (λ q. slice_index q 1) p in
    record {
      part = c.requires.part;
      within = omega (arith, c.requires.within);
      width = omega (arith, r0, r1, c.bounds-lo.ensures.ordered);
      gap = omega (arith, r0, r1, e0, e1, ends.0, ends.1, c.bounds-lo.ensures.ordered);
      at = λ lt. record {
        place = c.rank_of.ensures.place ∙ ap (place_of box) p;
        left = omega (arith, r1, x);
        rows = omega (arith, s1, y);
      };
    }
