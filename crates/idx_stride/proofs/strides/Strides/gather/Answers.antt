use Rattle.std.proofs.Common.{◌≡◌, ◌-◌, ◌*◌, length, sym, ap, ◌∙◌, arith}
use Rattle.idx_stride.specs.Compact.{IsCompact}
use Rattle.idx_stride.specs.Places.{samples_at}
use Rattle.idx_stride.specs.Strides.{Walk, offsets_of}
use Rattle.idx_stride.specs.Written.{gathered}
use Rattle.idx_stride.proofs.WindowLemmas.{samples-windowed, length-gathered}
use Rattle.idx_stride.proofs.strides.Strides.gather.Goals as goal

pub fill-requires-clause-room : goal.fill-requires-clause-room
fill-requires-clause-room c =
    let w : Walk = c.args.self.now in
    let v : Walk = c.compact-walk.result in
    let h : IsCompact w v = c.compact-walk.ensures in
    let base : c.first.result - c.args.at ≡ v.base - c.args.at = omega (arith, c.first.ensures.base, h.base) in
    let long : length (gathered v.size c.args.window.now (v.base - c.args.at) v.coarse v.axes) ≡ length (offsets_of v) * v.size =
    length-gathered v.size c.args.window.now c.args.at v.base v.coarse v.axes (omega (arith, c.requires.first, h.base)) (omega (arith, c.requires.end, h.end)) in
    let same : length (offsets_of w) * w.size ≡ length (offsets_of v) * v.size = λ i. length (sym h.places i) * sym h.size i in
    c.requires.room ∙ same ∙ sym long ∙ ap (λ b. length (gathered v.size c.args.window.now b v.coarse v.axes)) (sym base)

pub returns : goal.returns
returns c = λ bytes part.
    let w : Walk = c.args.self.now in
    let v : Walk = c.compact-walk.result in
    let h : IsCompact w v = c.compact-walk.ensures in
    let base : c.first.result - c.args.at ≡ v.base - c.args.at = omega (arith, c.first.ensures.base, h.base) in
    c.fill.ensures
    ∙ ap (λ b. gathered v.size c.args.window.now b v.coarse v.axes) base
    ∙ samples-windowed v.size bytes c.args.window.now c.args.at (length c.args.window.now) v.base v.coarse v.axes part (omega (arith, c.requires.first, h.base)) (omega (arith, c.requires.end, h.end))
    ∙ (λ i. samples_at (h.size i) bytes (h.places i))
