use Rattle.std.proofs.Common.{◌≡◌, ℕ, ◌+◌, ◌-◌, ◌*◌, List, ◌++◌, length, drop, Option, sym, ◌∙◌, subst, arith, rules, length-take-le}
use borrow.Rule.Slice.PartMut.{put_mid}
use Rattle.idx_stride.specs.Parts.{AreHalves}
use Rattle.idx_stride.specs.Strides.{Walk, offsets_of}
use Rattle.idx_raw.specs.Reads.{AreSamples, FitsIn}
use Rattle.idx_raw.proofs.ReadLemmas.{OnOk-weaker, AreSamples-halves, FitsIn-part, length_behind, put_behind, halves_room}
use Rattle.idx_raw.proofs.read.+read_part.Goals as goal

pub read_part-requires-in-Some : goal.read_part-requires-in-Some
read_part-requires-in-Some g t c κs within =
    let w : Walk = c.args.strides.now in
    let front : Walk = c.in-Some.halves.0 in
    let behind : Walk = c.in-Some.halves.1 in
    let h : AreHalves w front behind = c.in-Some.ensures.halves in
    let n : ℕ = c.count-in-Some.result * c.size.result in
    let size : n ≡ length (offsets_of front) * front.size = λ i. c.count-in-Some.ensures.count i * c.size.ensures.bytes i in
    let room : n + length (offsets_of behind) * behind.size ≡ length c.args.out.now = halves_room w front behind (length c.args.out.now) n h c.requires.room size in
    let read : length c.read_part.new.out ≡ n = c.read_part.auto.out ∙ length-take-le n c.args.out.now (omega arith) in (
      search rules,
      (
        within,
        (
          omega (arith, room, length_behind n c.read_part.new.out c.args.out.now read (omega arith)),
          (
            subst (λ (o : Option (List ℕ)). FitsIn o behind) (sym c.in_ok-read_part-in-Some.ensures.contents) (FitsIn-part (g.V.Source.contents c.args.raw.now) w behind h.second_part c.requires.within),
            omega (arith, c.requires.window, h.second_part.size, c.read_part.auto.window),
          ),
        ),
      ),
    )

pub returns-in_ok-read_part-in-Some-clause-read : goal.returns-in_ok-read_part-in-Some-clause-read
returns-in_ok-read_part-in-Some-clause-read g t c =
    let w : Walk = c.args.strides.now in
    let front : Walk = c.in-Some.halves.0 in
    let behind : Walk = c.in-Some.halves.1 in
    let h : AreHalves w front behind = c.in-Some.ensures.halves in
    let n : ℕ = c.count-in-Some.result * c.size.result in
    let contents : Option (List ℕ) = g.V.Source.contents c.args.raw.now in
    let one : List ℕ = c.read_part.new.out in
    let two : List ℕ = c.read_part-in-Some.new.out in
    let size : n ≡ length (offsets_of front) * front.size = λ i. c.count-in-Some.ensures.count i * c.size.ensures.bytes i in
    let room : n + length (offsets_of behind) * behind.size ≡ length c.args.out.now = halves_room w front behind (length c.args.out.now) n h c.requires.room size in
    let read : length one ≡ n = c.read_part.auto.out ∙ length-take-le n c.args.out.now (omega arith) in
    let first : AreSamples contents front one = c.in_ok-read_part-in-Some.ensures.read in
    let whole : put_mid n (length (one ++ drop n c.args.out.now) - n) (one ++ drop n c.args.out.now) two ≡ one ++ two = put_behind n one (drop n c.args.out.now) two read in
    OnOk-weaker c.read_part-in-Some.result
    (AreSamples (g.V.Source.contents c.read_part.new.raw) behind two)
    (AreSamples contents w (put_mid n (length (one ++ drop n c.args.out.now) - n) (one ++ drop n c.args.out.now) two))
    (λ second.
    subst (λ (out : List ℕ). AreSamples contents w out) (sym whole)
    (AreSamples-halves contents w front behind one two h first
    (subst (λ (o : Option (List ℕ)). AreSamples o behind two) c.in_ok-read_part-in-Some.ensures.contents second)))
    c.read_part-in-Some.ensures.read
