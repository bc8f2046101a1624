-- Pieces as they are made.
use Rattle.std.proofs.Common.{◌≡◌, ℕ, ◌-◌, ◌^◌, ◌<◌, true, List, length, get_or, sym, ap, ◌∙◌, subst}
use Rattle.std.specs.Prelude.{filter}
use Rattle.std.specs.List.{range_with_len}
use Rattle.std.proofs.lemmas.List.{length-map}
use Rattle.std.proofs.lemmas.List.FromFn.{length-range_with_len}
use Rattle.idx_geom.proofs.LiesInLemmas.{length-common_bounds}
use Rattle.idx_header.specs.Header.{HeaderValue}
use Rattle.idx_pieces.specs.Pieces.{has_piece, piece_at, piece_region}
use Rattle.idx_pieces.specs.Ranks.{ranks_in}
use Rattle.idx_pieces.specs.declared.piece.Piece.{Piece}
use Rattle.idx_pieces.proofs.IdLemmas.{id_below, id_passes}
use Rattle.idx_pieces.proofs.PieceLemmas.{front_box}

pub length-piece_region : (mask : List ℕ) (box : List (ℕ × ℕ)) (e id : ℕ) → length (piece_region mask box e id) ≡ length box
length-piece_region mask box e id =
    length-common_bounds box (front_box mask e id (length box)) (sym (length-map (range_with_len 0 (length box)) _ ∙ length-range_with_len 0 (length box)))

-- the region of a piece of a header
pub region_made : (h : HeaderValue) (mask : List ℕ) (box region : List (ℕ × ℕ)) (e id : ℕ) → mask ≡ h.mask → box ≡ h.box →
    region ≡ piece_region mask box e id → region ≡ piece_region h.mask h.box e id
region_made h mask box region e id m b is =
    is ∙ ap (λ (xs : List ℕ). piece_region xs box e id) m ∙ ap (λ (r : List (ℕ × ℕ)). piece_region h.mask r e id) b

pub piece_made : (h : HeaderValue) (mask : List ℕ) (box region : List (ℕ × ℕ)) (ranks : List ℕ) (e n id : ℕ) → mask ≡ h.mask → box ≡ h.box →
    region ≡ piece_region mask box e id → ranks ≡ ranks_in box n region →
    ◌≡◌ {A = Piece} (record { id = id; region = region; ranks = ranks; of_ranks = n }) (piece_at h e n id)
piece_made h mask box region ranks e n id m b is these =
    let there : region ≡ piece_region h.mask h.box e id = region_made h mask box region e id m b is in
    let known : ranks ≡ ranks_in h.box n (piece_region h.mask h.box e id) =
    these ∙ ap (λ (r : List (ℕ × ℕ)). ranks_in r n region) b ∙ ap (λ (r : List (ℕ × ℕ)). ranks_in h.box n r) there in
    let first : ◌≡◌ {A = Piece} (record { id = id; region = region; ranks = ranks; of_ranks = n }) (record { id = id; region = piece_region h.mask h.box e id; ranks = ranks; of_ranks = n }) =
    λ i. record { id = id; region = there i; ranks = ranks; of_ranks = n } in
    first ∙ (λ i. record { id = id; region = piece_region h.mask h.box e id; ranks = known i; of_ranks = n })

-- what is known of an id
pub record IsKnownId (h : HeaderValue) (e id : ℕ) : Type 0 where
  pub small : id < 2 ^ (length h.mask - e)
  pub some : has_piece h.mask h.box e id ≡ true

pub ids_made : (h : HeaderValue) (mask : List ℕ) (box : List (ℕ × ℕ)) (e : ℕ) (ws : List ℕ) → mask ≡ h.mask → box ≡ h.box →
    ws ≡ filter (has_piece mask box e) (range_with_len 0 (2 ^ (length mask - e))) →
    ws ≡ filter (has_piece h.mask h.box e) (range_with_len 0 (2 ^ (length h.mask - e)))
ids_made h mask box e ws m b is =
    is ∙ ap (λ (xs : List ℕ). filter (has_piece xs box e) (range_with_len 0 (2 ^ (length xs - e)))) m
    ∙ ap (λ (r : List (ℕ × ℕ)). filter (has_piece h.mask r e) (range_with_len 0 (2 ^ (length h.mask - e)))) b

pub id_known : (h : HeaderValue) (e k : ℕ) (ws : List ℕ) →
    ws ≡ filter (has_piece h.mask h.box e) (range_with_len 0 (2 ^ (length h.mask - e))) → k < length ws → IsKnownId h e (get_or ws k 0)
id_known h e k ws is inside =
    subst (λ (xs : List ℕ). k < length xs → IsKnownId h e (get_or xs k 0)) (sym is)
    (λ at. record {
      small = id_below h.mask h.box e (2 ^ (length h.mask - e)) k 0 at;
      some = id_passes h.mask h.box e (2 ^ (length h.mask - e)) k 0 at;
    })
    inside
