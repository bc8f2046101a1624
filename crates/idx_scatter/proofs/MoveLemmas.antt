-- Moves make places right, and keep right what is.
use Rattle.std.proofs.Common.{◌≡◌, ℕ, ◌+◌, ◌*◌, ◌<◌, ◌≤◌, List, [], ◌∷◌, length, take, drop, sym, ap, ◌∙◌, subst, inl, inr, arith, length-drop}
use Rattle.std.specs.Prelude.{All}
use Rattle.std.proofs.lemmas.Bool.{cases_lt}
use Rattle.std.proofs.lemmas.List.{length-take-le}
use Rattle.std.proofs.lemmas.List.Elements.{All-head, All-tail}
use Rattle.std.proofs.Math.Nat.{mul-le-mul_left}
use Rattle.idx_lanes.specs.Written.{written}
use Rattle.idx_lanes.specs.Spread.{part_after}
use Rattle.idx_lanes.specs.declared.lane.Lane.{Lane}
use Rattle.idx_lanes.specs.Copies.{HasCoordinate, IsRight}
use Rattle.idx_lanes.proofs.CopyLemmas.{faster_of, kept-written, lanes-are, placed-written, slowest_of}
use Rattle.idx_scatter.specs.Legs.{AllFit, EachMove, Fits, leg_of, place_by, tally_at}
use Rattle.idx_scatter.specs.Scatter.{sample_of}
use Rattle.idx_scatter.specs.Moves.{AreApart, AreMoved, IsRoom, IsSpot, IsWanted}
use Rattle.idx_scatter.specs.declared.leg.Leg.{Leg}
use Rattle.idx_scatter.specs.declared.tally.Tally.{Tally}

-- a sample has a byte
pub one_is : (n size : ℕ) → 1 ≤ size → n + 1 ≤ (n + 1) * size
one_is n size some =
    let wide : (n + 1) * 1 ≤ (n + 1) * size = mul-le-mul_left (n + 1) some in
    omega (arith, wide)

pub add_one : (n size : ℕ) → (n + 1) * size ≡ n * size + size
add_one n size = grind arith

-- a sample makes the place right that it goes to, and what was right stays so
pub record IsMade (want : ℕ → List ℕ) (size to : ℕ) (old new : List ℕ) : Type 0 where
  pub kept : (o : ℕ) → IsRight want size old o → IsRight want size new o
  pub placed : IsRight want size new to

pub sample-made : (want : ℕ → List ℕ) (size place to from at : ℕ) (samples old new : List ℕ) → (to + 1) * size ≤ length old → (place + 1) * size ≤ length samples → from ≡ place * size →
    at ≡ to * size →
    new ≡ written at (take size (drop from samples)) old → sample_of size samples place ≡ want to → IsMade want size to old new
sample-made want size place to from at samples old new room there from_is at_is is right =
    let piece : List ℕ = sample_of size samples place in
    let more : (place + 1) * size ≡ place * size + size = grind arith in
    let long : length piece ≡ size = length-take-le size (drop (place * size) samples) (omega (arith, there, more, length-drop (place * size) samples)) in
    let here : new ≡ written (to * size) piece old =
    is ∙ ap (λ n. written at (take size (drop n samples)) old) from_is ∙ ap (λ n. written n piece old) at_is in
    record {
      kept = λ q h. ap (λ t. take size (drop (q * size) t)) here ∙ kept-written want size to piece old long room right q h;
      placed = ap (λ t. take size (drop (to * size) t)) here ∙ placed-written want size to piece old long room right;
    }

-- one sample is moved
pub move-made : (want : ℕ → List ℕ) (size place from to : ℕ) (legs : List Leg) (tally : Tally) (samples old new : List ℕ) → (place_by tally + 1) * size ≤ length old →
    (place + 1) * size ≤ length samples → from ≡ place * size → to ≡ place_by tally * size →
    new ≡ written to (take size (drop from samples)) old → IsWanted want size samples place tally → AreMoved want size legs [] place tally old new
move-made want size place from to legs tally samples old new room there from_is to_is is right =
    let made = sample-made want size place (place_by tally) from to samples old new room there from_is to_is is right in
    record { kept = made.kept; placed = made.placed }

-- ---- moves along lanes

-- of each move, what follows from what holds of each
pub moves-implied : (P Q : ℕ → Tally → Type 0) → ((o : ℕ) (t : Tally) → P o t → Q o t) → (legs : List Leg) (lanes : List Lane) (place : ℕ) (rows : Tally) → EachMove P legs lanes place rows →
    EachMove Q legs lanes place rows
moves-implied P Q implies legs [] place rows h = implies place rows h
moves-implied P Q implies legs (lane ∷ faster) place rows h =
    λ k lt. moves-implied P Q implies legs faster (place + part_after lane.bits lane.first k) (tally_at (leg_of legs faster) rows k) (h k lt)

-- lanes that have coordinates have a move, which comes from no lower place
some_move : (P : ℕ → Tally → Type 0) (legs : List Leg) (lanes : List Lane) (place : ℕ) (rows : Tally) → All HasCoordinate lanes → EachMove P legs lanes place rows →
    (o : ℕ) × (t : Tally) × P o t × (place ≤ o)
some_move P legs [] place rows some h = (place, rows, h, omega arith)
some_move P legs (lane ∷ faster) place rows some h =
    let first : 0 < lane.count = All-head HasCoordinate lane faster some in
    let found = some_move P legs faster (place + part_after lane.bits lane.first 0) (tally_at (leg_of legs faster) rows 0) (All-tail HasCoordinate lane faster some) (h 0 first) in
    (found.0, found.1, found.2, omega (arith, found.3))

-- where each move is there, so is the place that the first one begins at
pub begins_there : (size : ℕ) (samples into : List ℕ) (legs : List Leg) (lanes : List Lane) (place : ℕ) (rows : Tally) → 1 ≤ size → All HasCoordinate lanes →
    EachMove (IsRoom size samples into) legs lanes place rows → place < length samples
begins_there size samples into legs lanes place rows some counts within =
    let found = some_move (IsRoom size samples into) legs lanes place rows counts within in
    omega (arith, found.2.read, found.3, one_is found.0 size some)

-- the moves along the other lanes, at one coordinate of the slowest
pub moves-faster : (P : ℕ → Tally → Type 0) (legs : List Leg) (lanes : List Lane) (place k part : ℕ) (rows : Tally) → 1 ≤ length lanes → k < (slowest_of lanes).count →
    part ≡ part_after (slowest_of lanes).bits (slowest_of lanes).first k →
    EachMove P legs lanes place rows → EachMove P legs (faster_of lanes) (place + part) (tally_at (leg_of legs (faster_of lanes)) rows k)
moves-faster P legs lanes place k part rows some within at each =
    let whole : EachMove P legs (slowest_of lanes ∷ faster_of lanes) place rows = subst (λ (ls : List Lane). EachMove P legs ls place rows) (sym (lanes-are lanes some)) each in
    subst (λ (n : ℕ). EachMove P legs (faster_of lanes) (place + n) (tally_at (leg_of legs (faster_of lanes)) rows k)) (sym at) (whole k within)

pub fits-faster : (legs : List Leg) (lanes : List Lane) (k : ℕ) (rows : Tally) → 1 ≤ length lanes → k < (slowest_of lanes).count → AllFit legs lanes rows →
    Fits (leg_of legs (faster_of lanes)) rows k × AllFit legs (faster_of lanes) (tally_at (leg_of legs (faster_of lanes)) rows k)
fits-faster legs lanes k rows some within fits =
    let whole : AllFit legs (slowest_of lanes ∷ faster_of lanes) rows = subst (λ (ls : List Lane). AllFit legs ls rows) (sym (lanes-are lanes some)) fits in
    whole k within

-- ---- samples that lie equally far apart

pub apart-none : (want : ℕ → List ℕ) (size first more : ℕ) (old : List ℕ) → AreApart want size 0 first more old old
apart-none want size first more old = record { kept = λ o h. h; placed = λ k lt. absurd (omega arith) }

-- one more of them
pub apart-more : (want : ℕ → List ℕ) (size count first more : ℕ) (old mid new : List ℕ) → AreApart want size count first more old mid → IsMade want size (first + count * more) mid new →
    AreApart want size (count + 1) first more old new
apart-more want size count first more old mid new before one = record {
  kept = λ o h. one.kept o (before.kept o h);
  placed = λ k lt. elim (cases_lt k count) [
    | inl less ↦ one.kept (first + k * more) (before.placed k less)
    | inr ge ↦
        let last : count ≡ k = omega (arith, lt) in
        subst (λ (n : ℕ). IsRight want size new (first + n * more)) last one.placed
  ];
}

-- a lane whose points lie so in the answer is moved
pub apart-moved : (want : ℕ → List ℕ) (size : ℕ) (legs : List Leg) (lane : Lane) (place : ℕ) (rows : Tally) (first more : ℕ) (old new : List ℕ) →
    ((k : ℕ) → k < lane.count → place_by (tally_at (leg_of legs []) rows k) ≡ first + k * more) → AreApart want size lane.count first more old new →
    AreMoved want size legs (lane ∷ []) place rows old new
apart-moved want size legs lane place rows first more old new even made = record {
  kept = made.kept;
  placed = λ k lt. subst (λ (o : ℕ). IsRight want size new o) (sym (even k lt)) (made.placed k lt);
}

-- where each move along it is there, so are its places, and where each sample is what is to be there, so is that at its places
pub spots-there : (size : ℕ) (samples into : List ℕ) (legs : List Leg) (lane : Lane) (place : ℕ) (rows : Tally) (first more : ℕ) →
    ((k : ℕ) → k < lane.count → place_by (tally_at (leg_of legs []) rows k) ≡ first + k * more) → EachMove (IsRoom size samples into) legs (lane ∷ []) place rows →
    (k : ℕ) → k < lane.count → IsSpot size samples into (place + part_after lane.bits lane.first k) (first + k * more)
spots-there size samples into legs lane place rows first more even within k lt =
    let fits = within k lt in
    record { room = subst (λ (o : ℕ). (o + 1) * size ≤ length into) (even k lt) fits.room; read = fits.read }

pub spots-wanted : (want : ℕ → List ℕ) (size : ℕ) (samples : List ℕ) (legs : List Leg) (lane : Lane) (place : ℕ) (rows : Tally) (first more : ℕ) →
    ((k : ℕ) → k < lane.count → place_by (tally_at (leg_of legs []) rows k) ≡ first + k * more) → EachMove (IsWanted want size samples) legs (lane ∷ []) place rows →
    (k : ℕ) → k < lane.count → sample_of size samples (place + part_after lane.bits lane.first k) ≡ want (first + k * more)
spots-wanted want size samples legs lane place rows first more even right k lt = right k lt ∙ ap want (even k lt)

-- the moves at the first coordinates of a lane are made, and what was right stays so
pub record AreSoFar (want : ℕ → List ℕ) (size : ℕ) (legs : List Leg) (lane : Lane) (faster : List Lane) (place : ℕ) (rows : Tally) (count : ℕ) (old new : List ℕ) : Type 0 where
  pub kept : (o : ℕ) → IsRight want size old o → IsRight want size new o
  pub placed : (k : ℕ) → k < count → EachMove (λ place tally. IsRight want size new (place_by tally)) legs faster (place + part_after lane.bits lane.first k) (tally_at (leg_of legs faster) rows k)

pub so_far-none : (want : ℕ → List ℕ) (size : ℕ) (legs : List Leg) (lane : Lane) (faster : List Lane) (place : ℕ) (rows : Tally) (old : List ℕ) →
    AreSoFar want size legs lane faster place rows 0 old old
so_far-none want size legs lane faster place rows old = record { kept = λ o h. h; placed = λ k lt. absurd (omega arith) }

-- those at one coordinate more
pub so_far-more : (want : ℕ → List ℕ) (size : ℕ) (legs : List Leg) (lane : Lane) (faster : List Lane) (place : ℕ) (rows : Tally) (count : ℕ) (old mid new : List ℕ) →
    AreSoFar want size legs lane faster place rows count old mid →
    AreMoved want size legs faster (place + part_after lane.bits lane.first count) (tally_at (leg_of legs faster) rows count) mid new →
    AreSoFar want size legs lane faster place rows (count + 1) old new
so_far-more want size legs lane faster place rows count old mid new before one = record {
  kept = λ o h. one.kept o (before.kept o h);
  placed = λ k lt. elim (cases_lt k count) [
    | inl less ↦
        moves-implied (λ place tally. IsRight want size mid (place_by tally)) (λ place tally. IsRight want size new (place_by tally)) (λ place tally. one.kept (place_by tally)) legs faster
        (place + part_after lane.bits lane.first k) (tally_at (leg_of legs faster) rows k) (before.placed k less)
    | inr ge ↦
        let last : count ≡ k = omega (arith, lt) in
        subst (λ (n : ℕ). EachMove (λ place tally. IsRight want size new (place_by tally)) legs faster (place + part_after lane.bits lane.first n)
        (tally_at (leg_of legs faster) rows n)) last one.placed
  ];
}

-- those at all of them
pub so_far-all : (want : ℕ → List ℕ) (size : ℕ) (legs : List Leg) (lane : Lane) (faster : List Lane) (place : ℕ) (rows : Tally) (count : ℕ) (old new : List ℕ) → lane.count ≤ count →
    AreSoFar want size legs lane faster place rows count old new → AreMoved want size legs (lane ∷ faster) place rows old new
so_far-all want size legs lane faster place rows count old new all made = record {
  kept = made.kept;
  placed = λ k lt. made.placed k (omega (arith, lt));
}
