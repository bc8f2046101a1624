-- Block 0, level by level.
use Rattle.std.proofs.Common.{◌≡◌, ℕ, ◌+◌, ◌*◌, ◌^◌, ◌≤◌, List, [], ◌++◌, length, take, drop, sym, ap, ◌∙◌, arith, append-nil}
use Rattle.std.specs.List.{flat_map, range_with_len}
use borrow.Rule.Slice.PartMut.{put_mid}
use Rattle.std.proofs.lemmas.Slice.{take-put_mid}
use Rattle.std.proofs.lemmas.Grind.{flat_map-append}
use Rattle.std.proofs.Math.Seq.{take-append_seam}
use Rattle.idx_layout.proofs.ListLemmas.{range-split}
use Rattle.idx_lanes.proofs.LevelLemmas.{double}

-- one level more
pub level-more : (want : ℕ → List ℕ) (size level filled n : ℕ) (old piece : List ℕ) → filled ≡ size * 2 ^ level → n ≡ filled → length piece ≡ filled → filled ≤ length old →
    take filled old ≡ flat_map want (range_with_len 0 (2 ^ level)) →
    piece ≡ flat_map want (range_with_len (1 * 2 ^ level) (2 ^ level)) → take (filled * 2) (put_mid filled n old piece) ≡ flat_map want (range_with_len 0 (2 ^ (level + 1)))
level-more want size level filled n old piece front same long room before is =
    let m : ℕ = 2 ^ level in
    let twice : filled * 2 ≡ filled + length piece = omega (arith, long) in
    let one : 1 * m ≡ 0 + m = omega arith in
    take-put_mid filled n old piece (filled * 2) twice room
    ∙ (λ i. before i ++ is i)
    ∙ ap (λ a. flat_map want (range_with_len 0 m) ++ flat_map want (range_with_len a m)) one
    ∙ sym (flat_map-append want (range_with_len 0 m) (range_with_len (0 + m) m))
    ∙ ap (flat_map want) (sym (range-split 0 m m))
    ∙ ap (λ k. flat_map want (range_with_len 0 k)) (sym (double level))

-- a block of one address
pub level-none : (want : ℕ → List ℕ) (size : ℕ) (old piece : List ℕ) → length piece ≡ size → piece ≡ want 0 → take size (piece ++ drop size old) ≡ want 0 ++ []
level-none want size old piece long is =
    ap (λ n. take n (piece ++ drop size old)) (sym long) ∙ take-append_seam piece (drop size old) ∙ is ∙ sym (append-nil (want 0))
