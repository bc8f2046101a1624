-- The table stands in the first bytes of a file, and its rows are right where none is faulty.
use Rattle.std.proofs.Common.{◌≡◌, ℕ, zero, suc, ◌+◌, ◌-◌, ◌*◌, ◌/◌, ◌<◌, ◌≤◌, Bool, true, false, cond, min, List, ◌∷◌, length, map, take, drop, Some, None, refl, sym, ap, ◌∙◌, arith, add-zero, zero-add}
use Rattle.std.specs.Prelude.{Option, nat_lt, not, slice_get, slice_index, ◌||◌, ◌==◌}
use Rattle.std.specs.Option.{option_map}
use Rattle.std.specs.List.{cons_option, filter_map, range_with_len}
use Rattle.std.proofs.Math.Nat.{mul-div_cancel_left}
use Rattle.std.proofs.lemmas.Bool.{eqb-true, ltb-false}
use Rattle.std.proofs.lemmas.List.{drop-take, take-take}
use Rattle.std.proofs.lemmas.List.FromFn.{get_or-map-range_with_len, length-map-range_with_len}
use Rattle.std.proofs.lemmas.Option.{slice_get_within, get_or_from_slice_get}
use Rattle.idx_table.specs.Row.{row_of}
use Rattle.idx_table.specs.Table.{table_bytes, row_at, rows_of, field_of, is_raw, fault_in, fault_at, fault_of_row, kind_of_row, first_fault}
use Rattle.idx_table.specs.declared.row.Row.{Row}
use Rattle.idx_table.specs.declared.table_fault.TableFault.{TableFault}
use Rattle.idx_table.specs.declared.table_fault.TableKind.{TableKind}
use Rattle.idx_table.specs.declared.table_fault.TableKind.TheVariants.{CutShort, Compressed, WrongSize, OutsideFile}
use Rattle.idx_table.proofs.FaultLemmas.{none-first_fault, is_whole, kind_of_row-whole}
use Rattle.idx_edition.specs.Tables.{EndWithin, IsTable}

-- a row that stands whole in the first bytes
row_at-front : (bytes : List ℕ) (m i : ℕ) → table_bytes (i + 1) ≤ m → row_at (take m bytes) i ≡ row_at bytes i
row_at-front bytes m i whole =
    let start : ℕ = table_bytes i in
    let cut : m ≡ start + (m - start) = omega arith in
    ap (λ n. row_of (take 40 (drop start (take n bytes)))) cut
    ∙ ap (λ b. row_of (take 40 b)) (drop-take start (m - start) bytes)
    ∙ ap row_of (take-take 40 (m - start) (drop start bytes) (omega arith))

-- what is wrong with a row, by the first bytes
kind-front : (bytes : List ℕ) (rows : ℕ) (lengths : List ℕ) (len m i : ℕ) → m ≡ min (table_bytes rows) len → i < rows →
    kind_of_row (take m bytes) rows lengths len i ≡ kind_of_row bytes rows lengths len i
kind-front bytes rows lengths len m i is h = by_test (nat_lt len (table_bytes (i + 1))) refl
  where
    of_row : Row → Option TableKind
    of_row row = fault_in rows (slice_index lengths (field_of rows (length lengths) i)) len row

    by_test : (b : Bool) → nat_lt len (table_bytes (i + 1)) ≡ b → kind_of_row (take m bytes) rows lengths len i ≡ kind_of_row bytes rows lengths len i
    by_test true e =
        ap (λ (b : Bool). cond b (Some CutShort) (of_row (row_at (take m bytes) i))) e
        ∙ ap (λ (b : Bool). cond b (Some CutShort) (of_row (row_at bytes i))) (sym e)
    by_test false e =
        let whole : table_bytes (i + 1) ≤ len = ltb-false len (table_bytes (i + 1)) e in
        ap (λ row. cond (nat_lt len (table_bytes (i + 1))) (Some CutShort) (of_row row)) (row_at-front bytes m i (omega (arith, is, whole)))

-- functions that agree on a range
filter_map-agree : {X : Type 0} (f g : ℕ → Option X) (a n : ℕ) → ((k : ℕ) → k < n → f (a + k) ≡ g (a + k)) → filter_map f (range_with_len a n) ≡ filter_map g (range_with_len a n)
filter_map-agree f g a zero same = refl
filter_map-agree f g a (suc n) same =
    let here : f a ≡ g a = ap f (sym (add-zero a)) ∙ same 0 (omega arith) ∙ ap g (add-zero a) in
    let moved = λ (k : ℕ). let e : a + 1 + k ≡ a + suc k = omega arith in e in
    ap (λ o. cons_option o (filter_map f (range_with_len (a + 1) n))) here
    ∙ ap (cons_option (g a)) (filter_map-agree f g (a + 1) n (λ k h. ap f (moved k) ∙ same (suc k) (omega arith) ∙ ap g (sym (moved k))))

map-agree : {X : Type 0} (f g : ℕ → X) (a n : ℕ) → ((k : ℕ) → k < n → f (a + k) ≡ g (a + k)) → map f (range_with_len a n) ≡ map g (range_with_len a n)
map-agree f g a zero same = refl
map-agree f g a (suc n) same =
    let here : f a ≡ g a = ap f (sym (add-zero a)) ∙ same 0 (omega arith) ∙ ap g (add-zero a) in
    let moved = λ (k : ℕ). let e : a + 1 + k ≡ a + suc k = omega arith in e in
    ap (λ x. x ∷ map f (range_with_len (a + 1) n)) here
    ∙ ap (λ xs. g a ∷ xs) (map-agree f g (a + 1) n (λ k h. ap f (moved k) ∙ same (suc k) (omega arith) ∙ ap g (sym (moved k))))

-- the first fault, by the first bytes
pub first_fault-front : (bytes : List ℕ) (rows : ℕ) (lengths : List ℕ) (len m : ℕ) → m ≡ min (table_bytes rows) len →
    first_fault (take m bytes) rows lengths len ≡ first_fault bytes rows lengths len
first_fault-front bytes rows lengths len m is =
    ap (λ (faults : List TableFault). slice_get faults 0)
    (filter_map-agree (fault_of_row (take m bytes) rows lengths len) (fault_of_row bytes rows lengths len) 0 rows (λ k h.
    ap (option_map (fault_at (0 + k))) (kind-front bytes rows lengths len m (0 + k) is (omega arith))))

-- where no row is faulty the whole table stands in the file
table_within : (front : List ℕ) (rows : ℕ) (lengths : List ℕ) (len : ℕ) → 1 ≤ rows → first_fault front rows lengths len ≡ None → table_bytes rows ≤ len
table_within front rows lengths len some none =
    let last = is_whole front rows lengths len (rows - 1) (none-first_fault front rows lengths len none (rows - 1) (omega arith)) in
    let count : rows - 1 + 1 ≡ rows = omega arith in
    omega (arith, last, count)

-- the rows of a table without a fault, by the first bytes
pub rows_of-front : (bytes : List ℕ) (rows : ℕ) (lengths : List ℕ) (len m : ℕ) → m ≡ min (table_bytes rows) len → 1 ≤ rows →
    first_fault (take m bytes) rows lengths len ≡ None → rows_of (take m bytes) rows ≡ rows_of bytes rows
rows_of-front bytes rows lengths len m is some none =
    let whole = table_within (take m bytes) rows lengths len some none in
    map-agree (row_at (take m bytes)) (row_at bytes) 0 rows (λ k h. row_at-front bytes m (0 + k) (omega (arith, is, whole)))

-- a row that is not faulty and has a block has one of the field's length, which ends inside the file
record IsRight (rows size len : ℕ) (row : Row) : Type 0 where
  same : row.size ≡ size
  ends : row.offset + row.size ≤ len

right_row : (rows size len : ℕ) (row : Row) → fault_in rows size len row ≡ None → 0 < row.size → IsRight rows size len row
right_row rows size len row none some =
    by_tests (row.size == 0) (not (is_raw row.flags)) (nat_lt row.size size) (nat_lt size row.size) (nat_lt row.offset (table_bytes rows)) (nat_lt len (row.offset + row.size)) refl refl refl refl none
  where
    by_tests : (absent flagged less more before behind : Bool) → (row.size == 0) ≡ absent → nat_lt row.size size ≡ less → nat_lt size row.size ≡ more →
        nat_lt len (row.offset + row.size) ≡ behind →
        cond absent None (cond flagged (Some Compressed) (cond (less || more) (Some WrongSize) (cond (before || behind) (Some OutsideFile) None))) ≡ None → IsRight rows size len row
    by_tests true flagged less more before behind a b c d e = absurd (omega (arith, eqb-true row.size 0 a, some))
    by_tests false true less more before behind a b c d e = let wrong : Some Compressed ≡ None = e in absurd (cc)
    by_tests false false true more before behind a b c d e = let wrong : Some WrongSize ≡ None = e in absurd (cc)
    by_tests false false false true before behind a b c d e = let wrong : Some WrongSize ≡ None = e in absurd (cc)
    by_tests false false false false true behind a b c d e = let wrong : Some OutsideFile ≡ None = e in absurd (cc)
    by_tests false false false false false true a b c d e = let wrong : Some OutsideFile ≡ None = e in absurd (cc)
    by_tests false false false false false false a b c d e = record {
      same = omega (arith, ltb-false row.size size b, ltb-false size row.size c);
      ends = ltb-false len (row.offset + row.size) d;
    }

-- the rows of a table without a fault are right
pub rows-right : (front : List ℕ) (fields per_file : ℕ) (lengths : List ℕ) (len : ℕ) → 1 ≤ fields → length lengths ≡ fields →
    first_fault front (fields * per_file) lengths len ≡ None →
    IsTable lengths per_file (rows_of front (fields * per_file)) × EndWithin (rows_of front (fields * per_file)) len
rows-right front fields per_file lengths len some count none = (
  record {
    count = length-map-range_with_len (row_at front) 0 rows ∙ ap (λ n. n * per_file) (sym count);
    sizes = λ i row at there. (right i row at there).same;
  },
  record { ends = λ i row at there. (right i row at there).ends },
)
  where
    rows : ℕ
    rows = fields * per_file

    right : (i : ℕ) (row : Row) → slice_get (rows_of front rows) i ≡ Some row → 0 < row.size → IsRight rows (slice_index lengths (i / per_file)) len row
    right i row at there =
        let within : i < rows = omega (arith, slice_get_within (rows_of front rows) i row at, length-map-range_with_len (row_at front) 0 rows) in
        let is : row_at front i ≡ row = sym (get_or-map-range_with_len (row_at front) 0 rows i i row within (zero-add i)) ∙ get_or_from_slice_get (rows_of front rows) i row row at in
        let sound = none-first_fault front rows lengths len none i within in
        let field : field_of rows (length lengths) i ≡ i / per_file =
        ap (λ n. i / (rows / n)) count ∙ ap (λ n. i / n) (mul-div_cancel_left per_file {n = fields} some) in
        right_row rows (slice_index lengths (i / per_file)) len row
        (ap (λ n. fault_in rows (slice_index lengths n) len row) (sym field)
        ∙ ap (fault_in rows (slice_index lengths (field_of rows (length lengths) i)) len) (sym is)
        ∙ sym (kind_of_row-whole front rows lengths len i (is_whole front rows lengths len i sound)) ∙ sound) there
