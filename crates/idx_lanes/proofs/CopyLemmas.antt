-- Copies make places right, and keep right what is.
use Rattle.std.proofs.Common.{◌≡◌, ◌≢◌, ℕ, zero, suc, ◌+◌, ◌-◌, ◌*◌, ◌<◌, ◌≤◌, List, [], ◌∷◌, ◌++◌, length, get_or, take, drop, refl, sym, ap, ◌∙◌, subst, inl, inr, arith, append_assoc, length-append, length-take-le, length-drop, take-append-drop}
use Rattle.std.specs.Prelude.{All}
use Rattle.std.specs.List.{flat_map, range_with_len}
use Rattle.std.proofs.lemmas.Bool.{cases_lt, cases_eq}
use Rattle.std.proofs.lemmas.List.{drop-drop, drop-take}
use Rattle.std.proofs.lemmas.List.Elements.{All-head, All-tail}
use Rattle.std.proofs.Math.Nat.{mul-le-mul_right, mul-le-mul_left}
use Rattle.std.proofs.Math.Seq.{take-append_seam, drop-append_seam, drop-append-add, take-take, take-length}
use borrow.Rule.Slice.PartMut.{put_mid}
use Rattle.idx_lanes.specs.Written.{written}
use Rattle.idx_lanes.specs.Spread.{part_after}
use Rattle.idx_lanes.specs.declared.lane.Lane.{Lane}
use Rattle.idx_lanes.specs.Copies.{EachCopy, HasCoordinate, IsRight, IsWithin, AreMade}

-- ---- a block is what its places hold

times : (k size : ℕ) → size + k * size ≡ suc k * size
times k size = grind arith

-- a list is the places that it holds, one behind the other
pub all-right : (want : ℕ → List ℕ) (size n first : ℕ) (bytes : List ℕ) → length bytes ≡ n * size → ((o : ℕ) → o < n → take size (drop (o * size) bytes) ≡ want (first + o)) →
    bytes ≡ flat_map want (range_with_len first n)
all-right want size zero first [] long right = refl
all-right want size zero first (b ∷ bytes) long right = absurd (omega (arith, long))
all-right want size (suc n) first bytes long right =
    let none : 0 ≡ 0 * size = omega arith in
    let same : first + 0 ≡ first = omega arith in
    let front : take size bytes ≡ want first = ap (λ n. take size (drop n bytes)) none ∙ right 0 (omega arith) ∙ ap want same in
    let rest : length (drop size bytes) ≡ n * size = omega (arith, length-drop size bytes, long, times n size) in
    sym (take-append-drop size bytes)
    ∙ ap (λ t. t ++ drop size bytes) front
    ∙ ap (λ t. want first ++ t) (all-right want size n (first + 1) (drop size bytes) rest (λ o h.
    let moved : first + suc o ≡ first + 1 + o = omega arith in
    ap (take size) (drop-drop (o * size) size bytes ∙ ap (λ at. drop at bytes) (times o size)) ∙ right (suc o) (omega arith) ∙ ap want moved))

-- ---- one sample is written

-- the place itself
right-here : (size place : ℕ) (piece old : List ℕ) → length piece ≡ size → (place + 1) * size ≤ length old → take size (drop (place * size) (written (place * size) piece old)) ≡ piece
right-here size place piece old long room =
    let at : ℕ = place * size in
    let more : (place + 1) * size ≡ at + size = grind arith in
    let front : length (take at old) ≡ at = length-take-le at old (omega (arith, room, more)) in
    let rest : List ℕ = drop (at + length piece) old in
    ap (λ n. take size (drop n (written at piece old))) (sym front)
    ∙ ap (take size) (drop-append_seam (take at old) (piece ++ rest))
    ∙ ap (λ n. take n (piece ++ rest)) (sym long)
    ∙ take-append_seam piece rest

-- what stands before a place, and behind it
take-drop-prefix : (size at end : ℕ) (xs ys : List ℕ) → at + size ≤ end → take end xs ≡ take end ys → take size (drop at xs) ≡ take size (drop at ys)
take-drop-prefix size at end xs ys within same = cut xs ∙ ap (λ t. take size (drop at t)) same ∙ sym (cut ys)
  where
    cut : (zs : List ℕ) → take size (drop at zs) ≡ take size (drop at (take end zs))
    cut zs =
        let split : at + (end - at) ≡ end = omega arith in
        let less : size ≤ end - at = omega arith in
        sym (ap (λ n. take size (drop at (take n zs))) (sym split)
        ∙ ap (take size) (drop-take at (end - at) zs)
        ∙ take-take size (end - at) (drop at zs) less)

take-written : (at : ℕ) (piece old : List ℕ) → at ≤ length old → take at (written at piece old) ≡ take at old
take-written at piece old fits =
    let front : length (take at old) ≡ at = length-take-le at old fits in
    let rest : List ℕ = piece ++ drop (at + length piece) old in
    ap (λ n. take n (take at old ++ rest)) (sym front) ∙ take-append_seam (take at old) rest

drop-written : (at n : ℕ) (piece old : List ℕ) → at + length piece ≤ n → at + length piece ≤ length old → drop n (written at piece old) ≡ drop n old
drop-written at n piece old behind fits =
    let m : ℕ = n - (at + length piece) in
    let front : length (take at old ++ piece) ≡ at + length piece = omega (arith, length-append (take at old) piece, length-take-le at old (omega (arith, fits))) in
    let split : n ≡ length (take at old ++ piece) + m = omega (arith, front, behind) in
    let same : (at + length piece) + m ≡ n = omega (arith, behind) in
    ap (drop n) (sym (append_assoc (take at old) piece (drop (at + length piece) old)))
    ∙ ap (λ k. drop k ((take at old ++ piece) ++ drop (at + length piece) old)) split
    ∙ drop-append-add (take at old ++ piece) (drop (at + length piece) old) m
    ∙ drop-drop m (at + length piece) old
    ∙ ap (λ k. drop k old) same

-- another place
right-other : (size place o : ℕ) (piece old : List ℕ) → length piece ≡ size → (place + 1) * size ≤ length old → o ≢ place →
    take size (drop (o * size) (written (place * size) piece old)) ≡ take size (drop (o * size) old)
right-other size place o piece old long room apart =
    let more : (place + 1) * size ≡ place * size + size = grind arith in
    let one_more : (o + 1) * size ≡ o * size + size = grind arith in
    elim (cases_lt o place) [
      | inl less ↦
          let le : o + 1 ≤ place = omega arith in
          take-drop-prefix size (o * size) (place * size) (written (place * size) piece old) old
          (omega (arith, one_more, mul-le-mul_right size le))
          (take-written (place * size) piece old (omega (arith, room, more)))
      | inr ge ↦
          let le : place + 1 ≤ o = omega (arith, ge, apart) in
          ap (take size) (drop-written (place * size) (o * size) piece old (omega (arith, long, more, mul-le-mul_right size le)) (omega (arith, long, room, more)))
    ]

-- what was right stays so, where what is written is right
pub kept-written : (want : ℕ → List ℕ) (size place : ℕ) (piece old : List ℕ) → length piece ≡ size → (place + 1) * size ≤ length old → piece ≡ want place → (o : ℕ) →
    IsRight want size old o → IsRight want size (written (place * size) piece old) o
kept-written want size place piece old long room right o h =
    elim (cases_eq o place) [
      | inl same ↦
          ap (λ n. take size (drop (n * size) (written (place * size) piece old))) same
          ∙ right-here size place piece old long room ∙ right ∙ ap want (sym same)
      | inr apart ↦ right-other size place o piece old long room apart ∙ h
    ]

pub placed-written : (want : ℕ → List ℕ) (size place : ℕ) (piece old : List ℕ) → length piece ≡ size → (place + 1) * size ≤ length old → piece ≡ want place →
    IsRight want size (written (place * size) piece old) place
placed-written want size place piece old long room right = right-here size place piece old long room ∙ right

-- ---- copies along lanes

-- of each copy, what follows from what holds of each
pub each-implied : (P Q : ℕ → ℕ → Type 0) → ((f o : ℕ) → P f o → Q f o) → (lanes : List Lane) (from place : ℕ) → EachCopy P lanes from place → EachCopy Q lanes from place
each-implied P Q implies [] from place h = implies from place h
each-implied P Q implies (lane ∷ faster) from place h =
    λ k lt. each-implied P Q implies faster (from + k * lane.step) (place + part_after lane.bits lane.first k) (h k lt)

-- lanes that have coordinates have a copy, which begins no earlier and goes no lower
pub some_copy : (P : ℕ → ℕ → Type 0) (lanes : List Lane) (from place : ℕ) → All HasCoordinate lanes → EachCopy P lanes from place → (f : ℕ) × (o : ℕ) × P f o × (from ≤ f) × (place ≤ o)
some_copy P [] from place some h = (from, place, h, omega arith, omega arith)
some_copy P (lane ∷ faster) from place some h =
    let first : 0 < lane.count = All-head HasCoordinate lane faster some in
    let found = some_copy P faster (from + 0 * lane.step) (place + part_after lane.bits lane.first 0) (All-tail HasCoordinate lane faster some) (h 0 first) in
    (found.0, found.1, found.2, omega (arith, found.3), omega (arith, found.4))

-- ---- the places of a block, one after another

-- a part of a list that is written over
pub put_mid-written : (at n : ℕ) (old piece : List ℕ) → length piece ≡ n → put_mid at n old piece ≡ written at piece old
put_mid-written at n old piece long =
    ap (λ t. take at old ++ (piece ++ t)) (drop-drop n at old ∙ ap (λ k. drop (at + k) old) (sym long))

-- one place more
pub right-next : (want : ℕ → List ℕ) (size k n : ℕ) (piece old : List ℕ) → length piece ≡ size → n ≡ size → (k + 1) * size ≤ length old → piece ≡ want k →
    ((o : ℕ) → o < k → IsRight want size old o) → (o : ℕ) → o < k + 1 → IsRight want size (put_mid (k * size) n old piece) o
right-next want size k n piece old long same room right before o within =
    let here : put_mid (k * size) n old piece ≡ written (k * size) piece old = put_mid-written (k * size) n old piece (long ∙ sym same) in
    ap (λ t. take size (drop (o * size) t)) here
    ∙ elim (cases_lt o k) [
      | inl less ↦ kept-written want size k piece old long room right o (before o less)
      | inr ge ↦
          let last : o ≡ k = omega arith in
          ap (λ i. take size (drop (i * size) (written (k * size) piece old))) last
          ∙ placed-written want size k piece old long room right ∙ ap want (sym last)
    ]

pub length-part : (at n size : ℕ) (xs : List ℕ) → n ≡ size → at + size ≤ length xs → length (take n (drop at xs)) ≡ size
length-part at n size xs same fits =
    length-take-le n (drop at xs) (omega (arith, same, fits, length-drop at xs)) ∙ same

-- ---- copies along a lane, one coordinate after another

-- the copies at the first coordinates of a lane are made, and what was right stays so
pub record AreSoFar (want : ℕ → List ℕ) (size : ℕ) (lane : Lane) (faster : List Lane) (from place count : ℕ) (old new : List ℕ) : Type 0 where
  pub kept : (o : ℕ) → IsRight want size old o → IsRight want size new o
  pub placed : (k : ℕ) → k < count → EachCopy (λ f o. IsRight want size new o) faster (from + k * lane.step) (place + part_after lane.bits lane.first k)

pub so_far-none : (want : ℕ → List ℕ) (size : ℕ) (lane : Lane) (faster : List Lane) (from place : ℕ) (old : List ℕ) → AreSoFar want size lane faster from place 0 old old
so_far-none want size lane faster from place old = record { kept = λ o h. h; placed = λ k lt. absurd (omega arith) }

-- those at one coordinate more
pub so_far-more : (want : ℕ → List ℕ) (size : ℕ) (lane : Lane) (faster : List Lane) (from place count : ℕ) (old mid new : List ℕ) →
    AreSoFar want size lane faster from place count old mid →
    AreMade want size faster (from + count * lane.step) (place + part_after lane.bits lane.first count) mid new →
    AreSoFar want size lane faster from place (count + 1) old new
so_far-more want size lane faster from place count old mid new before one = record {
  kept = λ o h. one.kept o (before.kept o h);
  placed = λ k lt. elim (cases_lt k count) [
    | inl less ↦ each-implied (λ f o. IsRight want size mid o) (λ f o. IsRight want size new o) (λ f o. one.kept o) faster (from + k * lane.step) (place + part_after lane.bits lane.first k)
        (before.placed k less)
    | inr ge ↦
        let last : count ≡ k = omega (arith, lt) in
        subst (λ (n : ℕ). EachCopy (λ f o. IsRight want size new o) faster (from + n * lane.step) (place + part_after lane.bits lane.first n)) last one.placed
  ];
}

-- those at all of them
pub so_far-all : (want : ℕ → List ℕ) (size : ℕ) (lane : Lane) (faster : List Lane) (from place count : ℕ) (old new : List ℕ) → lane.count ≤ count →
    AreSoFar want size lane faster from place count old new → AreMade want size (lane ∷ faster) from place old new
so_far-all want size lane faster from place count old new all made = record {
  kept = made.kept;
  placed = λ k lt. made.placed k (omega (arith, lt));
}

-- one sample is copied
pub copy-made : (want : ℕ → List ℕ) (size from place at : ℕ) (raw old new : List ℕ) → from + size ≤ length raw → (place + 1) * size ≤ length old → at ≡ place * size →
    new ≡ written at (take size (drop from raw)) old → take size (drop from raw) ≡ want place → AreMade want size [] from place old new
copy-made want size from place at raw old new read room same is right =
    let piece : List ℕ = take size (drop from raw) in
    let long : length piece ≡ size = length-take-le size (drop from raw) (omega (arith, read, length-drop from raw)) in
    let here : new ≡ written (place * size) piece old = is ∙ ap (λ n. written n piece old) same in
    record {
      kept = λ o h. ap (λ t. take size (drop (o * size) t)) here ∙ kept-written want size place piece old long room right o h;
      placed = ap (λ t. take size (drop (place * size) t)) here ∙ placed-written want size place piece old long room right;
    }

-- ---- the slowest lane, and the others

abbrev pub no_lane : Lane
no_lane = record { step = 0; count = 0; bits = 0; first = 0 }

abbrev pub slowest_of : List Lane → Lane
slowest_of lanes = get_or lanes 0 no_lane

abbrev pub faster_of : List Lane → List Lane
faster_of lanes = take (length lanes - 1) (drop 1 lanes)

pub lanes-are : (lanes : List Lane) → 1 ≤ length lanes → slowest_of lanes ∷ faster_of lanes ≡ lanes
lanes-are [] some = absurd (omega arith)
lanes-are (lane ∷ lanes) some =
    let count : length (lane ∷ lanes) - 1 ≡ length lanes = omega arith in
    ap (λ n. lane ∷ take n lanes) count ∙ ap (λ ls. lane ∷ ls) (take-length lanes)

pub one_lane-is : (lanes : List Lane) → 1 ≤ length lanes → length lanes < 2 → slowest_of lanes ∷ [] ≡ lanes
one_lane-is [] some few = absurd (omega arith)
one_lane-is (lane ∷ []) some few = refl
one_lane-is (lane ∷ (other ∷ lanes)) some few = absurd (omega arith)

pub two_lanes-are : (lanes : List Lane) → 2 ≤ length lanes → length lanes < 3 → get_or lanes 0 no_lane ∷ (get_or lanes 1 no_lane ∷ []) ≡ lanes
two_lanes-are [] some few = absurd (omega arith)
two_lanes-are (lane ∷ []) some few = absurd (omega arith)
two_lanes-are (lane ∷ (other ∷ [])) some few = refl
two_lanes-are (lane ∷ (other ∷ (more ∷ lanes))) some few = absurd (omega arith)

pub no_lane-is : (lanes : List Lane) → length lanes < 1 → [] ≡ lanes
no_lane-is [] few = refl
no_lane-is (lane ∷ lanes) few = absurd (omega arith)

-- where each copy is within the raw samples and the block, so are the byte and the place that they begin at
pub begins_within : (size : ℕ) (raw block : List ℕ) (lanes : List Lane) (from place : ℕ) → 1 ≤ size → All HasCoordinate lanes → EachCopy (IsWithin size raw block) lanes from place →
    (from ≤ length raw) × (place < length block)
begins_within size raw block lanes from place some counts within =
    let found = some_copy (IsWithin size raw block) lanes from place counts within in
    let wide : (found.1 + 1) * 1 ≤ (found.1 + 1) * size = mul-le-mul_left (found.1 + 1) some in
    (omega (arith, found.2, found.3), omega (arith, found.2, found.4, wide))

-- the copies along the other lanes, at one coordinate of the slowest
module _ (P : ℕ → ℕ → Type 0) (lanes : List Lane) (from place k part : ℕ) (some : 1 ≤ length lanes) (within : k < (slowest_of lanes).count)
    (at : part ≡ part_after (slowest_of lanes).bits (slowest_of lanes).first k) (each : EachCopy P lanes from place) where
  pub each-faster : EachCopy P (faster_of lanes) (from + k * (slowest_of lanes).step) (place + part)
  each-faster =
      let whole : EachCopy P (slowest_of lanes ∷ faster_of lanes) from place = subst (λ (ls : List Lane). EachCopy P ls from place) (sym (lanes-are lanes some)) each in
      subst (λ (n : ℕ). EachCopy P (faster_of lanes) (from + k * (slowest_of lanes).step) (place + n)) (sym at) (whole k within)

pub All-faster : (P : Lane → Type 0) (lanes : List Lane) → 1 ≤ length lanes → All P lanes → All P (faster_of lanes)
All-faster P lanes some all =
    let whole : All P (slowest_of lanes ∷ faster_of lanes) = subst (λ (ls : List Lane). All P ls) (sym (lanes-are lanes some)) all in
    All-tail P (slowest_of lanes) (faster_of lanes) whole
