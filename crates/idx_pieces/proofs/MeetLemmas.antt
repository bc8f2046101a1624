-- Which pieces a region meets, piece by piece.
use Rattle.std.proofs.Common.{◌≡◌, ℕ, ◌+◌, ◌<◌, ◌≤◌, Bool, true, false, ◌&&◌, cond, leb, List, [], ◌∷◌, ◌++◌, length, take, drop, get_or, refl, sym, ap, ◌∙◌, arith, append-nil, length-append}
use Rattle.std.specs.List.{list_all}
use Rattle.std.proofs.lemmas.Bool.{leb-true, le-leb, false≢true}
use Rattle.std.proofs.lemmas.List.{take_more, take-append-drop}
use Rattle.std.proofs.lemmas.List.Elements.{All-cons, All-nil, filter-append}
use Rattle.idx_geom.specs.Region.{HaveCommonPoint, LiesIn, common_bounds, lower_ends}
use Rattle.idx_geom.proofs.EndsLemmas.{IsOrdered}
use Rattle.idx_geom.proofs.LiesInLemmas.{LiesIn-common_bounds, LiesIn-lower_ends, both_from_common_bounds}
use Rattle.idx_pieces.specs.Parcels.{MeetsSome, meeting}
use Rattle.idx_pieces.specs.Ranks.{meets}
use Rattle.idx_pieces.specs.declared.piece.Piece.{Piece}

ordered-from_point : (bs : List (ℕ × ℕ)) (p : List ℕ) → LiesIn bs p → list_all (λ b. leb b.0 b.1) bs ≡ true
ordered-from_point [] p h = refl
ordered-from_point (b ∷ bs) [] h = absurd h
ordered-from_point (b ∷ bs) (x ∷ xs) h = rw (le-leb b.0 b.1 (omega (arith, h.0, h.1))) (ordered-from_point bs xs h.2)

ordered-from_test : (bs : List (ℕ × ℕ)) → list_all (λ b. leb b.0 b.1) bs ≡ true → IsOrdered bs
ordered-from_test [] h = All-nil (λ (b : ℕ × ℕ). b.0 ≤ b.1)
ordered-from_test (b ∷ bs) h =
    let F : Bool → Type 0 = λ t. t ≡ leb b.0 b.1 → (t && list_all (λ (c : ℕ × ℕ). leb c.0 c.1) bs) ≡ true → IsOrdered (b ∷ bs) in
    let by_test : F (leb b.0 b.1) = elim (leb b.0 b.1) as (λ t. F t) [
      | true ↦ (λ e rest. All-cons (λ (c : ℕ × ℕ). c.0 ≤ c.1) b bs (leb-true b.0 b.1 (sym e)) (ordered-from_test bs rest))
      | false ↦ (λ e rest. absurd (false≢true rest))
    ] in
    by_test refl h

pub meets-from_point : (r s : List (ℕ × ℕ)) → HaveCommonPoint r s → meets r s ≡ true
meets-from_point r s h = ordered-from_point (common_bounds r s) h.0 (LiesIn-common_bounds r s h.0 h.1.0 h.1.1)

point-from_meets : (r s : List (ℕ × ℕ)) → length r ≡ length s → meets r s ≡ true → HaveCommonPoint r s
point-from_meets r s same h =
    let common : List (ℕ × ℕ) = common_bounds r s in
    (lower_ends common, both_from_common_bounds r s (lower_ends common) same (LiesIn-lower_ends common (ordered-from_test common h)))

pub misses-from_none : (r s : List (ℕ × ℕ)) → length r ≡ length s → (HaveCommonPoint r s → ⊥) → meets r s ≡ false
misses-from_none r s same none =
    let F : Bool → Type 0 = λ t. t ≡ meets r s → t ≡ false in
    let by_test : F (meets r s) = elim (meets r s) as (λ t. F t) [
      | true ↦ (λ e. absurd (none (point-from_meets r s same (sym e))))
      | false ↦ (λ e. refl)
    ] in
    by_test refl

-- one piece more
meeting-one : (region : List (ℕ × ℕ)) (pieces : List Piece) (i : ℕ) (p : Piece) → i < length pieces → p ≡ get_or pieces i p →
    meeting region (take (i + 1) pieces) ≡ meeting region (take i pieces) ++ cond (meets region p.region) (p ∷ []) []
meeting-one region pieces i p lt at =
    ap (meeting region) (take_more pieces i p lt ∙ ap (λ q. take i pieces ++ q ∷ []) (sym at))
    ∙ filter-append (λ (q : Piece). meets region q.region) (take i pieces) (p ∷ [])

pub meeting-more : (region : List (ℕ × ℕ)) (pieces : List Piece) (i : ℕ) (p : Piece) → i < length pieces → p ≡ get_or pieces i p → meets region p.region ≡ true →
    meeting region (take (i + 1) pieces) ≡ meeting region (take i pieces) ++ p ∷ []
meeting-more region pieces i p lt at met =
    meeting-one region pieces i p lt at ∙ ap (λ t. meeting region (take i pieces) ++ cond t (p ∷ []) []) met

pub meeting-skip : (region : List (ℕ × ℕ)) (pieces : List Piece) (i : ℕ) (p : Piece) → i < length pieces → p ≡ get_or pieces i p → meets region p.region ≡ false →
    meeting region (take (i + 1) pieces) ≡ meeting region (take i pieces)
meeting-skip region pieces i p lt at missed =
    meeting-one region pieces i p lt at ∙ ap (λ t. meeting region (take i pieces) ++ cond t (p ∷ []) []) missed ∙ append-nil (meeting region (take i pieces))

-- a piece that is met is some
pub meets-one : (region : List (ℕ × ℕ)) (pieces : List Piece) (i : ℕ) (p : Piece) → i < length pieces → p ≡ get_or pieces i p → HaveCommonPoint region p.region →
    MeetsSome region pieces
meets-one region pieces i p lt at met none =
    let front : List Piece = meeting region (take (i + 1) pieces) in
    let back : List Piece = meeting region (drop (i + 1) pieces) in
    let parts : meeting region pieces ≡ front ++ back =
    sym (ap (meeting region) (take-append-drop (i + 1) pieces))
    ∙ filter-append (λ (q : Piece). meets region q.region) (take (i + 1) pieces) (drop (i + 1) pieces) in
    let more : front ≡ meeting region (take i pieces) ++ p ∷ [] = meeting-more region pieces i p lt at (meets-from_point region p.region met) in
    absurd (omega (arith, ap length none, ap length parts, length-append front back, ap length more, length-append (meeting region (take i pieces)) (p ∷ [])))
