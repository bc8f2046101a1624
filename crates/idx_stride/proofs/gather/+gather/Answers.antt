use Rattle.std.proofs.Common.{◌≡◌, ℕ, ◌+◌, ◌-◌, ◌*◌, ◌≤◌, ◌<◌, false, List, [], ◌∷◌, ◌++◌, length, take, get_or, sym, ap, ◌∙◌, arith, rules}
use Rattle.std.specs.List.{flat_map, range_with_len, list_any}
use Rattle.idx_stride.specs.Counts.{has_fine_coordinate}
use Rattle.std.proofs.lemmas.List.Elements.{All-take}
use Rattle.idx_stride.specs.declared.axis.Axis.{Axis}
use Rattle.idx_stride.specs.Places.{samples_at}
use Rattle.idx_stride.specs.Strides.{IsAxis}
use Rattle.idx_stride.specs.Written.{WritesAt, gathered}
use Rattle.idx_stride.proofs.CountLemmas.{offsets-all_coarse, all_coarse}
use Rattle.idx_stride.proofs.LayerLemmas.{layer, take-last, gathered-layers, reach-layer, layer_fits}
use Rattle.idx_stride.proofs.RangeLemmas.{flat_map-range_more}
use Rattle.idx_stride.proofs.WrittenLemmas.{WritesAt-nil, WritesAt-more, WritesAt-same, WritesAt-is}
use Rattle.idx_stride.proofs.gather.+gather.Goals.{then-some_fine, else-some_fine+else-not-coarse_here}
use Rattle.idx_stride.proofs.gather.+gather.Goals as goal

-- the slowest axis, and the others
abbrev last_of : List Axis → Axis
last_of axes = get_or axes (length axes - 1) (record { step = 0; count = 0; phase = 0; ratio = 0 })

abbrev others_of : List Axis → List Axis
others_of axes = take (length axes - 1) axes

whole_of : (axes : List Axis) → 1 ≤ length axes → others_of axes ++ last_of axes ∷ [] ≡ axes
whole_of axes some = take-last axes (record { step = 0; count = 0; phase = 0; ratio = 0 }) some

pub overflow_mul-first : goal.overflow_mul-first
overflow_mul-first g t c =
    let axes : List Axis = c.args.axes.now in
    omega (arith, c.requires.read, reach-layer axes (others_of axes) (last_of axes) (whole_of axes (omega (arith, c.in-len1-up.len_at_least))) c.loop-k.k c.loop-k-test.true)

pub overflow_add-first : goal.overflow_add-first
overflow_add-first g t c =
    let axes : List Axis = c.args.axes.now in
    omega (arith, c.requires.read, reach-layer axes (others_of axes) (last_of axes) (whole_of axes (omega (arith, c.in-len1-up.len_at_least))) c.loop-k.k c.loop-k-test.true)

pub gather-next-requires : goal.gather-next-requires
gather-next-requires g t c κs within =
    let axes : List Axis = c.args.axes.now in
    let whole : others_of axes ++ last_of axes ∷ [] ≡ axes = whole_of axes (omega (arith, c.in-len1-up.len_at_least)) in
    let size : ℕ = g.S.Sample.bytes c.args.sample in
    let here : gathered size c.args.window.now (c.args.base + c.loop-k.k * (last_of axes).step) c.stays_coarse-coarse_here.result
    (others_of axes) ≡ layer size c.args.window.now c.args.base c.args.coarse (others_of axes) (last_of axes) c.loop-k.k =
    ap (λ b. gathered size c.args.window.now (c.args.base + c.loop-k.k * (last_of axes).step) b (others_of axes)) c.stays_coarse-coarse_here.ensures in
    let fits : c.loop-k.next + length (layer size c.args.window.now c.args.base c.args.coarse (others_of axes) (last_of axes) c.loop-k.k) ≤ length c.args.out.now =
    layer_fits axes (others_of axes) (last_of axes) whole size c.args.window.now c.args.base c.args.coarse c.loop-k.k c.args.at c.loop-k.next
    (length c.args.out.now) c.loop-k-test.true c.loop-k.invariant.next_place c.requires.write in (
      search rules,
      (
        within,
        (
          All-take IsAxis (length axes - 1) axes c.requires.axes,
          (
            All-take (λ (a : Axis). 1 < a.count) (length axes - 1) axes c.requires.wide,
            (
              c.requires.some,
              (
                c.requires.few,
                (
                  omega (arith, c.requires.read, reach-layer axes (others_of axes) (last_of axes) whole c.loop-k.k c.loop-k-test.true),
                  omega (arith, fits, ap length here),
                ),
              ),
            ),
          ),
        ),
      ),
    )

pub loop-k-init : goal.loop-k-init
loop-k-init g t c = WritesAt-nil c.args.at c.args.out.now

pub loop-k-preserved : goal.loop-k-preserved
loop-k-preserved g t c =
    let axes : List Axis = c.args.axes.now in
    let whole : others_of axes ++ last_of axes ∷ [] ≡ axes = whole_of axes (omega (arith, c.in-len1-up.len_at_least)) in
    let size : ℕ = g.S.Sample.bytes c.args.sample in
    let k : ℕ = c.loop-k.k in
    let F : ℕ → List ℕ = layer size c.args.window.now c.args.base c.args.coarse (others_of axes) (last_of axes) in
    let before : List ℕ = flat_map F (range_with_len 0 k) in
    let here : gathered size c.args.window.now (c.args.base + k * (last_of axes).step) c.stays_coarse-coarse_here.result (others_of axes) ≡ F k =
    ap (λ b. gathered size c.args.window.now (c.args.base + k * (last_of axes).step) b (others_of axes)) c.stays_coarse-coarse_here.ensures in
    let fits : c.loop-k.next + length (F k) ≤ length c.args.out.now =
    layer_fits axes (others_of axes) (last_of axes) whole size c.args.window.now c.args.base c.args.coarse k c.args.at c.loop-k.next
    (length c.args.out.now) c.loop-k-test.true c.loop-k.invariant.next_place c.requires.write in
    let written_here : WritesAt c.loop-k.next c.if-some_fine.next (F k) c.loop-k.out c.if-some_fine.out =
    elim c.if-some_fine.branch [
      | then-some_fine w ↦
          WritesAt-is c.loop-k.next w.gather-next.result c.if-some_fine.next
          (gathered size c.args.window.now (c.args.base + k * (last_of axes).step) c.stays_coarse-coarse_here.result (others_of axes))
          (F k) c.loop-k.out w.gather-next.new.out c.if-some_fine.out w.gather-next.ensures here w.next-is w.out-is
      | else-some_fine+else-not-coarse_here w ↦
          let no_fine : list_any has_fine_coordinate (others_of axes) ≡ false = sym c.has_fine-some_fine.ensures ∙ w.if-some_fine.false in
          let none : F k ≡ [] =
          sym here
          ∙ ap (λ b. gathered size c.args.window.now (c.args.base + k * (last_of axes).step) b (others_of axes)) w.if-not-coarse_here.false
          ∙ ap (samples_at size c.args.window.now) (offsets-all_coarse (c.args.base + k * (last_of axes).step) (others_of axes) (all_coarse (others_of axes) no_fine)) in
          WritesAt-is c.loop-k.next c.loop-k.next c.if-some_fine.next [] (F k) c.loop-k.out c.loop-k.out c.if-some_fine.out (WritesAt-nil c.loop-k.next c.loop-k.out) (sym none) w.next-is w.out-is
    ] in
    WritesAt-same c.args.at c.if-some_fine.next (before ++ F k) (flat_map F (range_with_len 0 (k + 1))) c.args.out.now c.if-some_fine.out (sym (flat_map-range_more F k))
    (WritesAt-more c.args.at c.loop-k.next c.if-some_fine.next before (F k) c.args.out.now c.loop-k.out c.if-some_fine.out c.loop-k.invariant written_here
    (omega (arith, written_here.next_place, fits)))

pub returns-after-loop-k : goal.returns-after-loop-k
returns-after-loop-k g t c =
    let axes : List Axis = c.args.axes.now in
    let whole : others_of axes ++ last_of axes ∷ [] ≡ axes = whole_of axes (omega (arith, c.in-len1-up.len_at_least)) in
    let size : ℕ = g.S.Sample.bytes c.args.sample in
    let F : ℕ → List ℕ = layer size c.args.window.now c.args.base c.args.coarse (others_of axes) (last_of axes) in
    let all : c.loop-k.k ≡ (last_of axes).count = omega arith in
    WritesAt-same c.args.at c.loop-k.next (flat_map F (range_with_len 0 c.loop-k.k)) (gathered size c.args.window.now c.args.base c.args.coarse axes) c.args.out.now c.loop-k.out
    (ap (λ m. flat_map F (range_with_len 0 m)) all ∙ sym (gathered-layers axes (others_of axes) (last_of axes) whole size c.args.window.now c.args.base c.args.coarse))
    c.loop-k.invariant
