-- Eight samples of one byte that are written at once.
use Rattle.std.proofs.Common.{◌≡◌, ℕ, suc, ◌+◌, ◌*◌, ◌<◌, ◌≤◌, List, [], ◌∷◌, ◌++◌, length, get_or, take, drop, refl, sym, ap, ◌∙◌, subst, arith, append_assoc, length-append, length-take-le, length-drop, take-append-drop}
use Rattle.std.proofs.lemmas.List.{drop-drop, drop_more}
use Rattle.std.proofs.Math.Seq.{take-append_seam, drop-append_seam}
use Rattle.std.specs.Prelude.{All}
use Rattle.std.proofs.lemmas.List.Elements.{All-cons, All-head, All-nil, All-tail}
use Rattle.idx_lanes.specs.declared.lane.Lane.{Lane}
use Rattle.idx_lanes.specs.Written.{written}
use Rattle.idx_lanes.specs.Spread.{part_after}
use Rattle.idx_lanes.specs.Copies.{AreMade, EachCopy, HasCoordinate, IsRight, IsWanted, IsWithin}
use Rattle.idx_lanes.proofs.CopyLemmas.{begins_within, each-implied, faster_of, kept-written, lanes-are, placed-written, put_mid-written, slowest_of}
use borrow.Rule.Slice.PartMut.{put_mid}
use Rattle.idx_block.specs.Tiles.{pair_of, tile_lanes}
use Rattle.idx_block.proofs.TilesLemmas.{both, moved}

-- a list of one byte more is written by writing that byte, and then the others
written-more : (place x : ℕ) (rest old : List ℕ) → place + suc (length rest) ≤ length old →
    written place (x ∷ rest) old ≡ written (place + 1) rest (written place (x ∷ []) old)
written-more place x rest old room =
    let once : List ℕ = written place (x ∷ []) old in
    let n : ℕ = length rest in
    let behind : List ℕ = drop (place + 1) old in
    let front : length (take place old) ≡ place = length-take-le place old (omega (arith, room)) in
    let front_one : length (take place old ++ (x ∷ [])) ≡ place + 1 = omega (arith, length-append (take place old) (x ∷ []), front) in
    let once_is : once ≡ (take place old ++ (x ∷ [])) ++ behind = sym (append_assoc (take place old) (x ∷ []) behind) in
    let head : take (place + 1) once ≡ take place old ++ (x ∷ []) =
    ap (take (place + 1)) once_is ∙ ap (λ k. take k ((take place old ++ (x ∷ [])) ++ behind)) (sym front_one) ∙ take-append_seam (take place old ++ (x ∷ [])) behind in
    let tail : drop (place + 1) once ≡ behind =
    ap (drop (place + 1)) once_is ∙ ap (λ k. drop k ((take place old ++ (x ∷ [])) ++ behind)) (sym front_one) ∙ drop-append_seam (take place old ++ (x ∷ [])) behind in
    let whole : drop (place + 1 + n) once ≡ drop (place + suc n) old =
    sym (drop-drop n (place + 1) once) ∙ ap (drop n) tail ∙ drop-drop n (place + 1) old ∙ ap (λ k. drop k old) (omega arith) in
    sym (append_assoc (take place old) (x ∷ []) (rest ++ drop (place + suc n) old))
    ∙ ap (λ t. t ++ (rest ++ drop (place + suc n) old)) (sym head)
    ∙ ap (λ t. take (place + 1) once ++ (rest ++ t)) (sym whole)

-- each byte of a piece is what its place is to hold
abbrev IsWantedFrom : (ℕ → List ℕ) → ℕ → List ℕ → Type 0
IsWantedFrom want place [] = place ≡ place
IsWantedFrom want place (x ∷ rest) = (x ∷ [] ≡ want place) × IsWantedFrom want (place + 1) rest

-- each of so many places is right
abbrev AreRightFrom : (ℕ → List ℕ) → List ℕ → ℕ → List ℕ → Type 0
AreRightFrom want new place [] = place ≡ place
AreRightFrom want new place (x ∷ rest) = IsRight want 1 new place × AreRightFrom want new (place + 1) rest

length-written : (place : ℕ) (piece old : List ℕ) → place + length piece ≤ length old → length (written place piece old) ≡ length old
length-written place piece old room =
    omega (arith, length-append (take place old) (piece ++ drop (place + length piece) old), length-append piece (drop (place + length piece) old), length-drop (place + length piece) old, length-take-le place old (omega (arith, room)))

piece-made : (want : ℕ → List ℕ) (place : ℕ) (piece old : List ℕ) → place + length piece ≤ length old → IsWantedFrom want place piece →
    ((o : ℕ) → IsRight want 1 old o → IsRight want 1 (written place piece old) o) × AreRightFrom want (written place piece old) place piece
piece-made want place [] old room right =
    let same : written place [] old ≡ old = ap (λ n. take place old ++ drop n old) (omega arith) ∙ take-append-drop place old in
    (λ o h. ap (λ t. take 1 (drop (o * 1) t)) same ∙ h, refl)
piece-made want place (x ∷ rest) old room right =
    let at : place * 1 ≡ place = omega arith in
    let one : (place + 1) * 1 ≤ length old = omega (arith, room) in
    let once : List ℕ = written place (x ∷ []) old in
    let first_is : written (place * 1) (x ∷ []) old ≡ once = ap (λ n. written n (x ∷ []) old) at in
    let more : written place (x ∷ rest) old ≡ written (place + 1) rest once = written-more place x rest old room in
    let long : length once ≡ length old = length-written place (x ∷ []) old (omega (arith, room)) in
    let others = piece-made want (place + 1) rest once (omega (arith, room, long)) right.1 in
    let keep : (o : ℕ) → IsRight want 1 once o → IsRight want 1 (written place (x ∷ rest) old) o = λ o h. ap (λ t. take 1 (drop (o * 1) t)) more ∙ others.0 o h in (
      λ o h. keep o (ap (λ t. take 1 (drop (o * 1) t)) (sym first_is) ∙ kept-written want 1 place (x ∷ []) old refl one right.0 o h),
      (
        keep place (ap (λ t. take 1 (drop (place * 1) t)) (sym first_is) ∙ placed-written want 1 place (x ∷ []) old refl one right.0),
        subst (λ (t : List ℕ). AreRightFrom want t (place + 1) rest) (sym more) others.1,
      ),
    )

-- the eight bytes of a tile
abbrev pub tile_bytes : List ℕ → ℕ → ℕ → ℕ → ℕ → List ℕ
tile_bytes raw from one two four =
    get_or raw from 0 ∷ (get_or raw (from + one) 0 ∷ (get_or raw (from + two) 0 ∷ (get_or raw (from + two + one) 0
    ∷ (get_or raw (from + four) 0 ∷ (get_or raw (from + four + one) 0 ∷ (get_or raw (from + four + two) 0 ∷ (get_or raw (from + four + two + one) 0 ∷ [])))))))

pub one_is : part_after 1 0 1 ≡ 1
one_is = refl

pub two_is : part_after 2 0 1 ≡ 2
two_is = refl

pub four_is : part_after 4 0 1 ≡ 4
four_is = refl

module _ (want : ℕ → List ℕ) (raw old : List ℕ) (one two four from place : ℕ) (within : EachCopy (IsWithin 1 raw old) (tile_lanes one two four) from place)
    (right : EachCopy (IsWanted want 1 raw) (tile_lanes one two four) from place) where
  byte : (i j k : ℕ) → i < 2 → j < 2 → k < 2 → (g q : ℕ) → from + i * four + j * two + k * one ≡ g → place + part_after 4 0 i + part_after 2 0 j + part_after 1 0 k ≡ q →
      get_or raw g 0 ∷ [] ≡ want q
  byte i j k i_lt j_lt k_lt g q at there =
      let f : ℕ = from + i * four + j * two + k * one in
      let fits = (within i i_lt j j_lt k k_lt).0 in
      let short : f < length raw = omega (arith, fits) in
      let read : take 1 (drop f raw) ≡ get_or raw f 0 ∷ [] = ap (take 1) (drop_more raw f 0 short) in
      ap (λ n. get_or raw n 0 ∷ []) (sym at) ∙ sym read ∙ right i i_lt j j_lt k k_lt ∙ ap want there

  bytes-wanted : IsWantedFrom want place (tile_bytes raw from one two four)
  bytes-wanted =
      let z : 0 < 2 = omega arith in
      let u : 1 < 2 = omega arith in (
        byte 0 0 0 z z z from place (omega arith) (omega arith),
        (
          byte 0 0 1 z z u (from + one) (place + 1) (omega arith) (omega (arith, one_is)),
          (
            byte 0 1 0 z u z (from + two) (place + 1 + 1) (omega arith) (omega (arith, two_is)),
            (
              byte 0 1 1 z u u (from + two + one) (place + 1 + 1 + 1) (omega arith) (omega (arith, two_is, one_is)),
              (
                byte 1 0 0 u z z (from + four) (place + 1 + 1 + 1 + 1) (omega arith) (omega (arith, four_is)),
                (
                  byte 1 0 1 u z u (from + four + one) (place + 1 + 1 + 1 + 1 + 1) (omega arith) (omega (arith, four_is, one_is)),
                  (
                    byte 1 1 0 u u z (from + four + two) (place + 1 + 1 + 1 + 1 + 1 + 1) (omega arith) (omega (arith, four_is, two_is)),
                    (
                      byte 1 1 1 u u u (from + four + two + one) (place + 1 + 1 + 1 + 1 + 1 + 1 + 1) (omega arith) (omega (arith, four_is, two_is, one_is)),
                      refl,
                    ),
                  ),
                ),
              ),
            ),
          ),
        ),
      )

  -- a tile that is written is made
  pub tile-made : (n : ℕ) (piece : List ℕ) → piece ≡ tile_bytes raw from one two four → n ≡ 8 → AreMade want 1 (tile_lanes one two four) from place old (put_mid place n old piece)
  tile-made n piece is eight =
      let u : 1 < 2 = omega arith in
      let last = (within 1 u 1 u 1 u).1 in
      let long : length piece ≡ 8 = ap length is in
      let room : place + length piece ≤ length old = omega (arith, long, last, four_is, two_is, one_is) in
      let new : List ℕ = written place piece old in
      let here : put_mid place n old piece ≡ new = put_mid-written place n old piece (omega (arith, long, eight)) in
      let wanted : IsWantedFrom want place piece = subst (λ (t : List ℕ). IsWantedFrom want place t) (sym is) bytes-wanted in
      let made = piece-made want place piece old room wanted in
      let all : AreRightFrom want new place (tile_bytes raw from one two four) = subst (λ (t : List ℕ). AreRightFrom want new place t) is made.1 in
      let to : (o q : ℕ) → o ≡ q → IsRight want 1 new o → IsRight want 1 new q = λ (o : ℕ) (q : ℕ) (same : o ≡ q) (h : IsRight want 1 new o). subst (λ (m : ℕ). IsRight want 1 new m) same h in
      let placed : EachCopy (λ f o. IsRight want 1 new o) (tile_lanes one two four) from place =
      both (λ i. (j : ℕ) → j < 2 → (k : ℕ) → k < 2 → IsRight want 1 new (place + part_after 4 0 i + part_after 2 0 j + part_after 1 0 k))
      (both (λ j. (k : ℕ) → k < 2 → IsRight want 1 new (place + part_after 4 0 0 + part_after 2 0 j + part_after 1 0 k))
      (both (λ k. IsRight want 1 new (place + part_after 4 0 0 + part_after 2 0 0 + part_after 1 0 k))
      (to place (place + part_after 4 0 0 + part_after 2 0 0 + part_after 1 0 0) (omega arith) all.0)
      (to (place + 1) (place + part_after 4 0 0 + part_after 2 0 0 + part_after 1 0 1) (omega (arith, one_is)) all.1.0))
      (both (λ k. IsRight want 1 new (place + part_after 4 0 0 + part_after 2 0 1 + part_after 1 0 k))
      (to (place + 1 + 1) (place + part_after 4 0 0 + part_after 2 0 1 + part_after 1 0 0) (omega (arith, two_is)) all.1.1.0)
      (to (place + 1 + 1 + 1) (place + part_after 4 0 0 + part_after 2 0 1 + part_after 1 0 1) (omega (arith, two_is, one_is)) all.1.1.1.0)))
      (both (λ j. (k : ℕ) → k < 2 → IsRight want 1 new (place + part_after 4 0 1 + part_after 2 0 j + part_after 1 0 k))
      (both (λ k. IsRight want 1 new (place + part_after 4 0 1 + part_after 2 0 0 + part_after 1 0 k))
      (to (place + 1 + 1 + 1 + 1) (place + part_after 4 0 1 + part_after 2 0 0 + part_after 1 0 0) (omega (arith, four_is)) all.1.1.1.1.0)
      (to (place + 1 + 1 + 1 + 1 + 1) (place + part_after 4 0 1 + part_after 2 0 0 + part_after 1 0 1) (omega (arith, four_is, one_is)) all.1.1.1.1.1.0))
      (both (λ k. IsRight want 1 new (place + part_after 4 0 1 + part_after 2 0 1 + part_after 1 0 k))
      (to (place + 1 + 1 + 1 + 1 + 1 + 1) (place + part_after 4 0 1 + part_after 2 0 1 + part_after 1 0 0) (omega (arith, four_is, two_is)) all.1.1.1.1.1.1.0)
      (to (place + 1 + 1 + 1 + 1 + 1 + 1 + 1) (place + part_after 4 0 1 + part_after 2 0 1 + part_after 1 0 1) (omega (arith, four_is, two_is, one_is)) all.1.1.1.1.1.1.1.0))) in
      subst (λ (t : List ℕ). AreMade want 1 (tile_lanes one two four) from place old t) (sym here) (record { kept = made.0; placed = placed })

-- ---- the lanes of a tile

pub tile-coordinates : (one two four : ℕ) → All HasCoordinate (tile_lanes one two four)
tile-coordinates one two four =
    All-cons HasCoordinate (pair_of four 4) (pair_of two 2 ∷ (pair_of one 1 ∷ [])) (omega arith)
    (All-cons HasCoordinate (pair_of two 2) (pair_of one 1 ∷ []) (omega arith) (All-cons HasCoordinate (pair_of one 1) [] (omega arith) (All-nil HasCoordinate)))

-- and those of others in front of them
pub coordinates-with_tile : (lanes : List Lane) (one two four : ℕ) → All HasCoordinate lanes → All HasCoordinate (lanes ++ tile_lanes one two four)
coordinates-with_tile [] one two four all = tile-coordinates one two four
coordinates-with_tile (lane ∷ lanes) one two four all =
    All-cons HasCoordinate lane (lanes ++ tile_lanes one two four) (All-head HasCoordinate lane lanes all) (coordinates-with_tile lanes one two four (All-tail HasCoordinate lane lanes all))

-- the copies along the others, at one coordinate of the slowest
pub each-faster_tiles : (P : ℕ → ℕ → Type 0) (lanes tile : List Lane) (from place k part : ℕ) → 1 ≤ length lanes → k < (slowest_of lanes).count →
    part ≡ part_after (slowest_of lanes).bits (slowest_of lanes).first k → EachCopy P (lanes ++ tile) from place →
    EachCopy P (faster_of lanes ++ tile) (from + k * (slowest_of lanes).step) (place + part)
each-faster_tiles P lanes tile from place k part some within at each =
    let whole : EachCopy P ((slowest_of lanes ∷ faster_of lanes) ++ tile) from place =
    subst (λ (ls : List Lane). EachCopy P (ls ++ tile) from place) (sym (lanes-are lanes some)) each in
    subst (λ (n : ℕ). EachCopy P (faster_of lanes ++ tile) (from + k * (slowest_of lanes).step) (place + n)) (sym at) (whole k within)

-- ---- two copies, or two of several

pub pair-first : (P : ℕ → ℕ → Type 0) (lanes : List Lane) (step bit from place : ℕ) → EachCopy P (pair_of step bit ∷ lanes) from place → EachCopy P lanes from place
pair-first P lanes step bit from place each =
    moved (EachCopy P lanes) (from + 0 * step) from (place + part_after bit 0 0) place (omega arith) (omega arith) (each 0 (omega arith))

pub pair-second : (P : ℕ → ℕ → Type 0) (lanes : List Lane) (step bit from place : ℕ) → part_after bit 0 1 ≡ bit → EachCopy P (pair_of step bit ∷ lanes) from place →
    EachCopy P lanes (from + step) (place + bit)
pair-second P lanes step bit from place one each =
    moved (EachCopy P lanes) (from + 1 * step) (from + step) (place + part_after bit 0 1) (place + bit) (omega arith) (omega (arith, one)) (each 1 (omega arith))

pub pair-made : (want : ℕ → List ℕ) (size : ℕ) (lanes : List Lane) (step bit from place : ℕ) (old mid new : List ℕ) → part_after bit 0 1 ≡ bit →
    AreMade want size lanes from place old mid → AreMade want size lanes (from + step) (place + bit) mid new → AreMade want size (pair_of step bit ∷ lanes) from place old new
pair-made want size lanes step bit from place old mid new one first second = record {
  kept = λ o h. second.kept o (first.kept o h);
  placed = both (λ k. EachCopy (λ f o. IsRight want size new o) lanes (from + k * step) (place + part_after bit 0 k))
      (moved (EachCopy (λ f o. IsRight want size new o) lanes) from (from + 0 * step) place (place + part_after bit 0 0) (omega arith) (omega arith)
      (each-implied (λ f o. IsRight want size mid o) (λ f o. IsRight want size new o) (λ f o. second.kept o) lanes from place first.placed))
      (moved (EachCopy (λ f o. IsRight want size new o) lanes) (from + step) (from + 1 * step) (place + bit) (place + part_after bit 0 1) (omega arith) (omega (arith, one)) second.placed);
}

-- half a tile begins within the block
pub half-begins_within : (size : ℕ) (raw block : List ℕ) (one two from place : ℕ) → 1 ≤ size →
    EachCopy (IsWithin size raw block) (pair_of two 2 ∷ (pair_of one 1 ∷ [])) from place → place < length block
half-begins_within size raw block one two from place some within =
    let begins = begins_within size raw block (pair_of two 2 ∷ (pair_of one 1 ∷ [])) from place some
    (All-cons HasCoordinate (pair_of two 2) (pair_of one 1 ∷ []) (omega arith) (All-cons HasCoordinate (pair_of one 1) [] (omega arith) (All-nil HasCoordinate))) within in
    begins.1
