-- Rows and tables that were written are read back.
use Rattle.std.proofs.Common.{◌≡◌, ℕ, ◌+◌, List, [], ◌∷◌, ◌++◌, length, map, take, drop, refl, sym, ap, ◌∙◌, arith, append_assoc, append-nil, length-append, zero-add}
use Rattle.std.proofs.Math.Seq.{take-append_seam, drop-append_seam}
use Rattle.std.proofs.lemmas.List.{drop-drop}
use Rattle.std.proofs.lemmas.List.FromFn.{map-range_with_len_more}
use Rattle.std.proofs.lemmas.List.Elements.{All-head, All-tail}
use Rattle.std.specs.Prelude.{All}
use Rattle.std.specs.List.{flat_map, range_with_len}
use Rattle.idx_table.specs.declared.row.Row.{Row}
use Rattle.idx_table.specs.Row.{IsRow, row_of, row_bytes}
use Rattle.idx_table.specs.Table.{table_bytes, row_at, rows_of}

pub length-row_bytes : (row : Row) → length (row_bytes row) ≡ 40
length-row_bytes row = refl

pub row_of-row_bytes : (row : Row) (rest : List ℕ) → IsRow row → row_of (row_bytes row ++ rest) ≡ row
row_of-row_bytes row rest h = grind arith

-- the rows from number a on, where the file goes on with them there
rows_from : (front rest : List ℕ) (rows : List Row) (a : ℕ) → drop (table_bytes a) front ≡ flat_map row_bytes rows ++ rest → All IsRow rows → map (row_at front) (range_with_len a (length rows)) ≡ rows
rows_from front rest [] a e h = refl
rows_from front rest (row ∷ rows) a e h =
    let behind : List ℕ = flat_map row_bytes rows ++ rest in
    let split : drop (table_bytes a) front ≡ row_bytes row ++ behind = e ∙ append_assoc (row_bytes row) (flat_map row_bytes rows) rest in
    let here : row_at front a ≡ row =
    ap (λ (bytes : List ℕ). row_of (take 40 bytes)) split
    ∙ ap row_of (take-append_seam (row_bytes row) behind ∙ sym (append-nil (row_bytes row)))
    ∙ row_of-row_bytes row [] (All-head IsRow row rows h) in
    let next : drop (table_bytes (a + 1)) front ≡ behind =
    ap (λ (n : ℕ). drop n front) (more a) ∙ sym (drop-drop 40 (table_bytes a) front)
    ∙ ap (drop 40) split ∙ drop-append_seam (row_bytes row) behind in
    ap (λ (first : Row). first ∷ map (row_at front) (range_with_len (a + 1) (length rows))) here
    ∙ ap (λ (others : List Row). row ∷ others) (rows_from front rest rows (a + 1) next (All-tail IsRow row rows h))
  where
    more : (a : ℕ) → table_bytes (a + 1) ≡ table_bytes a + 40
    more a = omega arith

-- the rows of a table behind its head of forty bytes
pub rows_of-written : (head rest : List ℕ) (rows : List Row) → length head ≡ 40 → All IsRow rows → rows_of (head ++ flat_map row_bytes rows ++ rest) (length rows) ≡ rows
rows_of-written head rest rows size h =
    let front : List ℕ = head ++ flat_map row_bytes rows ++ rest in
    let behind : List ℕ = flat_map row_bytes rows ++ rest in
    rows_from front rest rows 0
    (ap (λ (n : ℕ). drop n front) (sym size) ∙ ap (drop (length head)) (append_assoc head (flat_map row_bytes rows) rest) ∙ drop-append_seam head behind)
    h

-- how many bytes the rows have
pub length-written : (rows : List Row) → 40 + length (flat_map row_bytes rows) ≡ table_bytes (length rows)
length-written [] = refl
length-written (row ∷ rows) =
    let more : 40 + length (flat_map row_bytes rows) ≡ table_bytes (length rows) = length-written rows in
    let behind = length-append (row_bytes row) (flat_map row_bytes rows) in
    omega (arith, more, behind, length-row_bytes row)

-- one more row
pub rows_of-more : (front : List ℕ) (i : ℕ) (items new : List Row) (row : Row) → items ≡ rows_of front i → row ≡ row_at front i → new ≡ items ++ row ∷ [] → new ≡ rows_of front (i + 1)
rows_of-more front i items new row is here pushed =
    pushed ∙ ap (λ (rows : List Row). rows ++ row ∷ []) is ∙ ap (λ (row : Row). rows_of front i ++ row ∷ []) here
    ∙ sym (map-range_with_len_more (row_at front) 0 i i (zero-add i))
