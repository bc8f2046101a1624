-- What is known of loads.
use Rattle.std.proofs.Common.{◌≡◌, ℕ, suc, ◌+◌, ◌-◌, ◌<◌, List, [], ◌∷◌, ◌++◌, map, refl, sym, ap, ◌∙◌, arith, Some, None}
use Rattle.std.specs.Prelude.{All, reverse}
use Rattle.std.specs.List.{range_with_len}
use Rattle.idx_header.specs.Header.{HeaderValue}
use Rattle.idx_pieces.specs.Parcels.{IsFull}
use Rattle.idx_pieces.specs.Pieces.{IsPiece}
use Rattle.idx_pieces.specs.Refusals.{why_not}
use Rattle.idx_pieces.specs.Samples.{raw_sample}
use Rattle.idx_pieces.specs.declared.piece.Piece.{Piece}
use Rattle.idx_ranks.specs.Loads.{HoldsLoad, IsLoad}
use Rattle.idx_ranks.specs.declared.load.Load.{Load}
use Rattle.idx_ranks.proofs.ListLemmas.{All-through, map_itself, reverse_push}

pub loads_are : (h : HeaderValue) (pieces : List Piece) (loads : List Load) → map (λ (load : Load). load.piece) loads ≡ pieces → All (IsPiece h) pieces →
    All (λ (load : Load). why_not h load.piece load.parcels ≡ None) loads → All (λ (load : Load). All (IsFull h None) load.parcels) loads → All (IsLoad h) loads
loads_are h pieces loads same are legal full k d lt = record {
  piece = All-through (IsPiece h) (λ (load : Load). load.piece) (λ (p : Piece). p) loads pieces (same ∙ sym (map_itself pieces)) are k d lt;
  legal = legal k d lt;
  whole = λ j e within. (full k d lt j e within).many;
}

pub loads_hold : (h : HeaderValue) (bytes : List ℕ) (loads : List Load) → All (λ (load : Load). All (IsFull h (Some bytes)) load.parcels) loads →
    All (HoldsLoad h (raw_sample h bytes)) loads
loads_hold h bytes loads full k d lt j e within = (full k d lt j e within).samples

-- one more load, from behind
pub one_more : (pieces rest : List Piece) (piece : Piece) (loads more : List Load) (load : Load) → pieces ≡ rest ++ piece ∷ [] → load.piece ≡ piece → more ≡ loads ++ load ∷ [] →
    rest ++ map (λ (l : Load). l.piece) (reverse more) ≡ pieces ++ map (λ (l : Load). l.piece) (reverse loads)
one_more pieces rest piece loads more load split is pushed =
    let back : reverse more ≡ load ∷ reverse loads = ap reverse pushed ∙ reverse_push loads load in
    ap (λ (xs : List Load). rest ++ map (λ (l : Load). l.piece) xs) back
    ∙ ap (λ (p : Piece). rest ++ p ∷ map (λ (l : Load). l.piece) (reverse loads)) is
    ∙ sym (ap (λ (ps : List Piece). ps ++ map (λ (l : Load). l.piece) (reverse loads)) split ∙ moved rest)
  where
    moved : (xs : List Piece) → (xs ++ piece ∷ []) ++ map (λ (l : Load). l.piece) (reverse loads) ≡ xs ++ piece ∷ map (λ (l : Load). l.piece) (reverse loads)
    moved [] = refl
    moved (x ∷ xs) = ap (λ (rest : List Piece). x ∷ rest) (moved xs)

-- one rank more in front
pub rank_in_front : (count taken next rank : ℕ) → taken < count → next ≡ taken + 1 → rank ≡ count - 1 - taken →
    rank ∷ range_with_len (count - taken) taken ≡ range_with_len (count - next) next
rank_in_front count taken next rank lt step at =
    let first : rank ≡ count - next = omega arith in
    let second : count - taken ≡ rank + 1 = omega arith in
    let more : next ≡ suc taken = omega arith in
    ap (λ (n : ℕ). rank ∷ range_with_len n taken) second
    ∙ ap (λ (n : ℕ). n ∷ range_with_len (n + 1) taken) first
    ∙ ap (λ (n : ℕ). range_with_len (count - next) n) (sym more)
