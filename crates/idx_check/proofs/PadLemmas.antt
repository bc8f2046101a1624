-- Bytes that are read into the front of a buffer whose rest is zeros.
use Rattle.std.proofs.Common.{◌≡◌, ℕ, zero, suc, ◌+◌, ◌-◌, ◌<◌, ◌≤◌, min, List, ◌++◌, length, take, drop, refl, sym, ap, ◌∙◌, ⊎_elim, arith}
use Rattle.std.specs.Prelude.{IfSome, Option, None, Some, replicate, slice_index}
use borrow.Rule.Slice.PartMut.{put_mid}
use Rattle.std.proofs.lemmas.Bool.{cases_lt}
use Rattle.std.proofs.lemmas.List.{length-append, get_or-append_right, get_or-drop, get_or-take, get_or_append_left, get_or_past, length-replicate, length-take}
use Rattle.idx_check.specs.Piece.{HasLength}

-- a byte of the rest
rest_zero : (into fill : List ℕ) (standing n i : ℕ) → standing ≤ length into → fill ≡ replicate n 0 → n ≡ length into - standing → standing ≤ i → i < length into →
    slice_index (put_mid standing (length into - standing) into fill) i ≡ 0
rest_zero into fill standing n i few is count from to =
    let front : length (take standing into) ≡ standing = length-take standing into ∙ omega (arith, few) in
    let size : length fill ≡ n = ap length is ∙ length-replicate n 0 in
    get_or-append_right (take standing into) _ standing i 0 front from
    ∙ get_or_append_left fill _ 0 (i - standing) (omega (arith, size, count, from, to))
    ∙ ap (λ xs. slice_index xs (i - standing)) is
    ∙ zero_of n (i - standing)
  where
    zero_of : (n i : ℕ) → slice_index (replicate n 0) i ≡ 0
    zero_of zero i = refl
    zero_of (suc n) zero = refl
    zero_of (suc n) (suc i) = zero_of n i

-- the part in front of what was written
pub front_length : (into fill : List ℕ) (standing : ℕ) → standing ≤ length into → length (take standing (put_mid standing (length into - standing) into fill)) ≡ standing
front_length into fill standing few =
    let front : length (take standing into) ≡ standing = length-take standing into ∙ omega (arith, few) in
    length-take standing (put_mid standing (length into - standing) into fill)
    ∙ ap (min standing) (length-append (take standing into) _) ∙ omega (arith, front)

-- nothing of the file stands there
pub padded_none : (contents : Option (List ℕ)) (into fill : List ℕ) (at there standing n : ℕ) → HasLength contents there → standing ≡ min (there - at) (length into) → standing ≡ 0 →
    fill ≡ replicate n 0 → n ≡ length into - standing →
    IfSome contents (λ bytes. (i : ℕ) → i < length into → slice_index (put_mid standing (length into - standing) into fill) i ≡ slice_index bytes (at + i))
padded_none None into fill at there standing n size is none zeros count = tt
padded_none (Some bytes) into fill at there standing n size is none zeros count = λ i within.
    rest_zero into fill standing n i (omega (arith, none)) zeros count (omega (arith, none)) within ∙ sym (get_or_past bytes (at + i) 0 (omega (arith, size, is, none, within)))

-- the front was read
pub padded_read : (contents : Option (List ℕ)) (into fill read : List ℕ) (at there standing n m : ℕ) → HasLength contents there → standing ≡ min (there - at) (length into) →
    fill ≡ replicate n 0 → n ≡ length into - standing → m ≡ standing → length read ≡ standing → IfSome contents (λ bytes. read ≡ take m (drop at bytes)) →
    IfSome contents (λ bytes. (i : ℕ) → i < length into → slice_index (read ++ drop standing (put_mid standing (length into - standing) into fill)) i ≡ slice_index bytes (at + i))
padded_read None into fill read at there standing n m size is zeros count same long taken = tt
padded_read (Some bytes) into fill read at there standing n m size is zeros count same long taken = λ i within. ⊎_elim
    (λ (less : i < standing).
    get_or_append_left read _ 0 i (omega (arith, long, less)) ∙ ap (λ xs. slice_index xs i) taken ∙ get_or-take m (drop at bytes) i 0 (omega (arith, same, less)) ∙ get_or-drop at bytes i 0)
    (λ (more : standing ≤ i).
    let there_is : standing + (i - standing) ≡ i = omega (arith, more) in
    get_or-append_right read _ standing i 0 long more
    ∙ get_or-drop standing (put_mid standing (length into - standing) into fill) (i - standing) 0
    ∙ ap (slice_index (put_mid standing (length into - standing) into fill)) there_is
    ∙ rest_zero into fill standing n i (omega (arith, is)) zeros count more within
    ∙ sym (get_or_past bytes (at + i) 0 (omega (arith, size, is, more, within))))
    (cases_lt i standing)
