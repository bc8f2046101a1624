-- The shipment for a file, among those of a piece.
use Rattle.std.proofs.Common.{rules, ◌≡◌, ℕ, suc, ◌+◌, ◌<◌, Bool, true, false, cond, not, List, [], ◌∷◌, length, map, refl, sym, ap, ◌∙◌, subst, arith, Some, None}
use Rattle.std.specs.Prelude.{◌==◌, ◌||◌, Contains, IsSome, position}
use Rattle.std.specs.List.{list_any, position_or_len}
use Rattle.std.proofs.lemmas.Bool.{lt-ltb}
use Rattle.idx_header.specs.Header.{HeaderValue, IsHeader}
use Rattle.idx_layout.specs.OfHeader.{placing_of}
use Rattle.idx_layout.specs.Placing.{file_numbers}
use Rattle.idx_pieces.specs.declared.filled.Filled.{Filled}
use Rattle.idx_pieces.specs.declared.shipment.Shipment.{Shipment}
use Rattle.idx_ship.specs.Shipments.{AreShipments}
use Rattle.idx_dock.specs.Dock.{reaches}
use Rattle.idx_aggregate.proofs.FileLemmas.{begins_at, reaches_files}
use Rattle.idx_aggregate.proofs.ShipLemmas.{any_file}

-- there is one for each file in which the piece has a point
pub is_among : (h : HeaderValue) (filled : Filled) (made : List Shipment) (file : ℕ) → IsHeader h → Contains (file_numbers (placing_of h)) file →
    reaches h filled.piece.region file ≡ true → AreShipments h filled made → list_any (λ s. s.file == file) made ≡ true
is_among h filled made file valid among some are =
    let begins = begins_at h file among in
    any_file file made ∙ ap (list_any (λ f. f == file)) are.files
    ∙ sym (reaches_files h filled.piece.region file begins.0 valid begins.1) ∙ some

place_below : (file : ℕ) (made : List Shipment) → list_any (λ s. s.file == file) made ≡ true → position_or_len (λ s. s.file == file) made < length made
place_below file [] some = absurd (let wrong : false ≡ true = some in cc)
place_below file (s ∷ made) some = by_test (s.file == file) some (place_below file made)
  where
    by_test : (b : Bool) → (b || list_any (λ s. s.file == file) made) ≡ true → (list_any (λ s. s.file == file) made ≡ true → position_or_len (λ s. s.file == file) made < length made) →
        cond (not b) (1 + position_or_len (λ s. s.file == file) made) 0 < suc (length made)
    by_test true some more = omega arith
    by_test false some more = omega (arith, more some)

-- where some shipment is for a file, its place is found
pub place_found : (file : ℕ) (made : List Shipment) → list_any (λ s. s.file == file) made ≡ true → IsSome (position (λ s. s.file == file) made)
place_found file made some =
    subst (λ b. IsSome (cond b (Some (position_or_len (λ s. s.file == file) made)) None))
    (sym (lt-ltb (position_or_len (λ s. s.file == file) made) (length made) (place_below file made some))) (search rules)
