-- Pieces that are written one behind the other.
use Rattle.std.proofs.Common.{◌≡◌, ℕ, ◌+◌, ◌≤◌, List, [], ◌++◌, length, take, drop, sym, ap, ◌∙◌, arith, append_assoc, length-append, length-take-le, length-drop, take-append-drop, append-nil}
use Rattle.std.proofs.lemmas.List.{drop-drop}
use Rattle.std.proofs.Math.Seq.{take-append_seam, drop-append-add, drop-length}
use Rattle.idx_lanes.specs.Written.{written}
use Rattle.idx_stride.specs.Written.{WritesAt}

pub written-nil : (at : ℕ) (list : List ℕ) → written at [] list ≡ list
written-nil at list = ap (λ n. take at list ++ drop n list) (omega arith) ∙ take-append-drop at list

pub length-written : (at : ℕ) (piece list : List ℕ) → at + length piece ≤ length list → length (written at piece list) ≡ length list
length-written at piece list fits =
    omega (
      arith,
      length-append (take at list) (piece ++ drop (at + length piece) list),
      length-append piece (drop (at + length piece) list),
      length-take-le at list (omega arith),
      length-drop (at + length piece) list,
    )

-- a piece behind the one before
pub written-written : (at : ℕ) (first second list : List ℕ) (next : ℕ) → next ≡ at + length first → next + length second ≤ length list →
    written next second (written at first list) ≡ written at (first ++ second) list
written-written at first second list next same fits =
    let front : List ℕ = take at list in
    let rest : List ℕ = drop (at + length first) list in
    let n : ℕ = length second in
    let long : length (front ++ first) ≡ next = omega (arith, length-append front first, length-take-le at list (omega arith)) in
    let whole : written at first list ≡ (front ++ first) ++ rest = sym (append_assoc front first rest) in
    let before : take next (written at first list) ≡ front ++ first =
    ap (take next) whole ∙ ap (λ m. take m ((front ++ first) ++ rest)) (sym long) ∙ take-append_seam (front ++ first) rest in
    let behind : drop (next + n) (written at first list) ≡ drop (at + length (first ++ second)) list =
    ap (drop (next + n)) whole
    ∙ ap (λ m. drop (m + n) ((front ++ first) ++ rest)) (sym long)
    ∙ drop-append-add (front ++ first) rest n
    ∙ drop-drop n (at + length first) list
    ∙ ap (λ m. drop m list) (omega (arith, length-append first second)) in
    (λ i. before i ++ (second ++ behind i))
    ∙ append_assoc front first (second ++ drop (at + length (first ++ second)) list)
    ∙ ap (λ t. front ++ t) (sym (append_assoc first second (drop (at + length (first ++ second)) list)))

-- the whole list written over
pub written_whole : (piece list : List ℕ) → length list ≡ length piece → written 0 piece list ≡ piece
written_whole piece list same =
    ap (λ n. piece ++ drop n list) (let n : 0 + length piece ≡ length list = omega arith in n) ∙ ap (λ t. piece ++ t) (drop-length list) ∙ append-nil piece

-- nothing is written
pub WritesAt-nil : (at : ℕ) (list : List ℕ) → WritesAt at at [] list list
WritesAt-nil at list = record { next_place = omega arith; list = sym (written-nil at list) }

-- one piece behind the other
pub WritesAt-more : (at next last : ℕ) (first second old mid new : List ℕ) → WritesAt at next first old mid → WritesAt next last second mid new → last ≤ length old →
    WritesAt at last (first ++ second) old new
WritesAt-more at next last first second old mid new one two fits = record {
  next_place = omega (arith, one.next_place, two.next_place, length-append first second);
  list = two.list ∙ ap (written next second) one.list ∙ written-written at first second old next one.next_place (omega (arith, two.next_place));
}

-- the same piece by another name
pub WritesAt-same : (at next : ℕ) (piece other old new : List ℕ) → piece ≡ other → WritesAt at next piece old new → WritesAt at next other old new
WritesAt-same at next piece other old new same h = record {
  next_place = h.next_place ∙ ap (λ p. at + length p) same;
  list = h.list ∙ ap (λ p. written at p old) same;
}

-- the same by other names of what there is afterwards
pub WritesAt-is : (at next last : ℕ) (piece other old new end : List ℕ) → WritesAt at next piece old new → piece ≡ other → last ≡ next → end ≡ new → WritesAt at last other old end
WritesAt-is at next last piece other old new end h same same_last same_end = record {
  next_place = same_last ∙ h.next_place ∙ ap (λ p. at + length p) same;
  list = same_end ∙ h.list ∙ ap (λ p. written at p old) same;
}
