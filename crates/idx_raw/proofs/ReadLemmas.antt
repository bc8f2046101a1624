-- The samples that reads give, part by part.
use Rattle.std.proofs.Common.{◌≡◌, ℕ, ◌+◌, ◌-◌, ◌*◌, ◌<◌, ◌≤◌, List, [], ◌∷◌, ◌++◌, length, take, drop, get_or, Option, Some, None, IfSome, Result, Ok, Err, OnOk, sym, ap, ◌∙◌, subst, arith, refl, All, length-append, length-take-le, length-drop, append-nil}
use Rattle.std.proofs.lemmas.List.{drop-drop}
use Rattle.std.proofs.Math.Seq.{take-append_seam, drop-length}
use borrow.Rule.Slice.PartMut.{put_mid}
use Rattle.std.proofs.lemmas.List.FromFn.{get_or-map-range_with_len, length-map-range_with_len}
use Rattle.idx_stride.specs.Parts.{AreHalves, IsPart}
use Rattle.idx_stride.specs.Places.{progression, samples_at}
use Rattle.idx_stride.specs.Strides.{Walk, offsets_of, end_of, reach}
use Rattle.idx_stride.proofs.BoundLemmas.{IsAmong, offsets-among}
use Rattle.idx_stride.proofs.DenseLemmas.{samples_at-dense}
use Rattle.idx_stride.proofs.SamplesLemmas.{samples_at-append}
use Rattle.idx_raw.specs.Reads.{AreSamples, FitsIn}

pub OnOk-weaker : {T E : Type 0} (r : Result T E) (P Q : Type 0) → (P → Q) → OnOk r P → OnOk r Q
OnOk-weaker (Ok x) P Q f h = f h
OnOk-weaker (Err e) P Q f h = tt

empty : {X : Type 0} (xs : List X) → length xs ≡ 0 → xs ≡ []
empty [] h = refl
empty (x ∷ xs) h = cc

-- a walk with no sample
pub AreSamples-none : (contents : Option (List ℕ)) (w : Walk) (out : List ℕ) → length (offsets_of w) ≡ 0 → length out ≡ length (offsets_of w) * w.size → AreSamples contents w out
AreSamples-none contents w out none room =
    let no_bytes : length out ≡ 0 = room ∙ ap (λ n. n * w.size) none ∙ omega arith in
    let same : (bytes : List ℕ) → out ≡ samples_at w.size bytes (offsets_of w) = λ bytes.
    empty out no_bytes ∙ sym (ap (samples_at w.size bytes) (empty (offsets_of w) none)) in
    elim contents as (λ o. AreSamples o w out) [ None ↦ tt | Some bytes ↦ same bytes ]

-- samples that are one piece lie within the walk
pub dense_end : (w : Walk) (n : ℕ) → offsets_of w ≡ progression w.base w.size n → 0 < n → w.base + n * w.size ≤ end_of w
dense_end w n dense some =
    let among : All (IsAmong w.base (w.base + reach w.axes)) (progression w.base w.size n) =
    subst (λ (os : List ℕ). All (IsAmong w.base (w.base + reach w.axes)) os) dense (offsets-among w.base w.coarse w.axes) in
    let f : ℕ → ℕ = λ k. w.base + k * w.size in
    let m : ℕ = n - 1 in
    let long : length (progression w.base w.size n) ≡ n = length-map-range_with_len f 0 n in
    let last : get_or (progression w.base w.size n) m 0 ≡ f m = get_or-map-range_with_len f 0 n m m 0 (omega arith) (omega arith) in
    let count : n ≡ m + 1 = omega arith in
    let bytes : n * w.size ≡ (m + 1) * w.size = ap (λ k. k * w.size) count in
    omega (arith, (among m 0 (omega arith)).1, last)

pub AreSamples-dense : (contents : Option (List ℕ)) (w : Walk) (first room : ℕ) (new : List ℕ) → offsets_of w ≡ progression w.base w.size (length (offsets_of w)) → first ≡ w.base → room ≡ length (offsets_of w) * w.size → IfSome contents (λ bytes. new ≡ take room (drop first bytes)) → AreSamples contents w new
AreSamples-dense contents w first room new dense base long read =
    let F : Option (List ℕ) → Type 0 = λ o. IfSome o (λ bytes. new ≡ take room (drop first bytes)) → AreSamples o w new in
    let by_contents : F contents = elim contents as (λ o. F o) [
      | None ↦ (λ h. tt)
      | Some bytes ↦ (λ h.
          h
          ∙ (λ i. take (long i) (drop (base i) bytes))
          ∙ sym (ap (samples_at w.size bytes) dense ∙ samples_at-dense w.size bytes w.base (length (offsets_of w))))
    ] in
    by_contents read

pub AreSamples-gathered : (contents : Option (List ℕ)) (w : Walk) (at : ℕ) (window new : List ℕ) → IfSome contents (λ bytes. window ≡ take (length window) (drop at bytes)) → ((bytes : List ℕ) → window ≡ take (length window) (drop at bytes) → new ≡ samples_at w.size bytes (offsets_of w)) → AreSamples contents w new
AreSamples-gathered contents w at window new read gather =
    let F : Option (List ℕ) → Type 0 = λ o. IfSome o (λ bytes. window ≡ take (length window) (drop at bytes)) → AreSamples o w new in
    let by_contents : F contents = elim contents as (λ o. F o) [ None ↦ (λ h. tt) | Some bytes ↦ (λ h. gather bytes h) ] in
    by_contents read

-- the samples of two halves, one behind the other
pub AreSamples-halves : (contents : Option (List ℕ)) (w a b : Walk) (x y : List ℕ) → AreHalves w a b → AreSamples contents a x → AreSamples contents b y → AreSamples contents w (x ++ y)
AreSamples-halves contents w a b x y h first second =
    let F : Option (List ℕ) → Type 0 = λ o. AreSamples o a x → AreSamples o b y → AreSamples o w (x ++ y) in
    let by_contents : F contents = elim contents as (λ o. F o) [
      | None ↦ (λ p q. tt)
      | Some bytes ↦ (λ p q.
          (λ i. (p ∙ ap (λ s. samples_at s bytes (offsets_of a)) h.first_part.size) i ++ (q ∙ ap (λ s. samples_at s bytes (offsets_of b)) h.second_part.size) i)
          ∙ sym (samples_at-append w.size bytes (offsets_of a) (offsets_of b))
          ∙ ap (samples_at w.size bytes) (sym h.places))
    ] in
    by_contents first second

pub FitsIn-part : (contents : Option (List ℕ)) (w p : Walk) → IsPart w p → FitsIn contents w → FitsIn contents p
FitsIn-part contents w p h whole = λ bytes known. omega (arith, whole bytes known, h.within)

-- the room behind a part that was read
pub length_behind : (n : ℕ) (front out : List ℕ) → length front ≡ n → n ≤ length out → n + length (take (length (front ++ drop n out) - n) (drop n (front ++ drop n out))) ≡ length out
length_behind n front out same fits =
    let whole : List ℕ = front ++ drop n out in
    omega (arith, length-take-le (length whole - n) (drop n whole) (omega (arith, length-drop n whole)), length-append front (drop n out), length-drop n out)

-- what is read behind it stands behind it
pub put_behind : (n : ℕ) (front rest behind : List ℕ) → length front ≡ n → put_mid n (length (front ++ rest) - n) (front ++ rest) behind ≡ front ++ behind
put_behind n front rest behind same =
    let whole : List ℕ = front ++ rest in
    let before : take n whole ≡ front = ap (λ m. take m whole) (sym same) ∙ take-append_seam front rest in
    let none : drop (length whole - n) (drop n whole) ≡ [] =
    drop-drop (length whole - n) n whole ∙ ap (λ m. drop m whole) (let all : n + (length whole - n) ≡ length whole = omega (arith, length-append front rest) in all) ∙ drop-length whole in
    (λ i. before i ++ (behind ++ none i)) ∙ ap (λ t. front ++ t) (append-nil behind)

-- the room of two halves
pub halves_room : (w a b : Walk) (room n : ℕ) → AreHalves w a b → room ≡ length (offsets_of w) * w.size → n ≡ length (offsets_of a) * a.size → n + length (offsets_of b) * b.size ≡ room
halves_room w a b room n h long front =
    let parts : length (offsets_of w) * w.size ≡ (length (offsets_of a) + length (offsets_of b)) * w.size = ap (λ k. k * w.size) (ap length h.places ∙ length-append (offsets_of a) (offsets_of b)) in
    let one : length (offsets_of a) * a.size ≡ length (offsets_of a) * w.size = ap (λ s. length (offsets_of a) * s) h.first_part.size in
    let two : length (offsets_of b) * b.size ≡ length (offsets_of b) * w.size = ap (λ s. length (offsets_of b) * s) h.second_part.size in
    omega arith
