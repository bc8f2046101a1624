-- The first answer of numbers that are asked in their order, and the first fault of a table.
use Rattle.std.proofs.Common.{◌≡◌, ℕ, zero, suc, ◌+◌, ◌<◌, ◌≤◌, List, Option, Some, None, refl, sym, ap, ◌∙◌, arith, add-zero, zero-add}
use Rattle.std.specs.Prelude.{◌*◌, Bool, true, false, nat_lt, length, slice_get, slice_index}
use Rattle.std.proofs.lemmas.Bool.{lt-ltb, le-ltb, ltb-true, ltb-false}
use Rattle.std.specs.Option.{option_map}
use Rattle.std.specs.List.{filter_map, cons_option, range_with_len}
use Rattle.idx_table.specs.declared.table_fault.TableFault.{TableFault}
use Rattle.idx_table.specs.declared.table_fault.TableKind.{TableKind}
use Rattle.idx_table.specs.declared.table_fault.TableKind.TheVariants.{CutShort}
use Rattle.idx_table.specs.Table.{table_bytes, row_at, field_of, fault_in, fault_at, kind_of_row, fault_of_row, first_fault, IsFirstFault}

abbrev first : {X : Type 0} → (ℕ → Option X) → ℕ → ℕ → Option X
first f a n = slice_get (filter_map f (range_with_len a n)) 0

-- the number i from a on is the first that has an answer
record IsFirst {X : Type 0} (f : ℕ → Option X) (a n : ℕ) (x : X) (i : ℕ) : Type 0 where
  within : i < n
  here : f (a + i) ≡ Some x
  before : (k : ℕ) → k < i → f (a + k) ≡ None

moved : (a k : ℕ) → a + 1 + k ≡ a + suc k
moved a k = omega arith

-- where no number has an answer there is none
first-none : {X : Type 0} (f : ℕ → Option X) (a n : ℕ) → ((k : ℕ) → k < n → f (a + k) ≡ None) → first f a n ≡ None
first-none f a zero none = refl
first-none f a (suc n) none =
    let here : f a ≡ None = ap f (sym (add-zero a)) ∙ none 0 (omega arith) in
    ap (λ o. slice_get (cons_option o (filter_map f (range_with_len (a + 1) n))) 0) here
    ∙ first-none f (a + 1) n (λ k h. ap f (moved a k) ∙ none (suc k) (omega arith))

-- the answer of the first number that has one
first-here : {X : Type 0} (f : ℕ → Option X) (a n i : ℕ) (x : X) → IsFirst f a n x i → first f a n ≡ Some x
first-here f a zero i x h = absurd (omega arith)
first-here f a (suc n) zero x h =
    ap (λ o. slice_get (cons_option o (filter_map f (range_with_len (a + 1) n))) 0) (ap f (sym (add-zero a)) ∙ h.here)
first-here f a (suc n) (suc i) x h =
    let none : f a ≡ None = ap f (sym (add-zero a)) ∙ h.before 0 (omega arith) in
    ap (λ o. slice_get (cons_option o (filter_map f (range_with_len (a + 1) n))) 0) none
    ∙ first-here f (a + 1) n i x (record {
      within = omega (arith, h.within);
      here = ap f (moved a i) ∙ h.here;
      before = λ k less. ap f (moved a k) ∙ h.before (suc k) (omega arith);
    })

-- where there is no answer no number has one
none-first : {X : Type 0} (f : ℕ → Option X) (a n : ℕ) → first f a n ≡ None → (k : ℕ) → k < n → f (a + k) ≡ None
none-first f a zero e k h = absurd (omega arith)
none-first {X = X} f a (suc n) e k h = by_answer (λ e. none-first f (a + 1) n e) (f a) refl k h
  where
    rest : Option X → Option X
    rest o = slice_get (cons_option o (filter_map f (range_with_len (a + 1) n))) 0

    by_answer : (first f (a + 1) n ≡ None → (k : ℕ) → k < n → f (a + 1 + k) ≡ None) → (o : Option X) → f a ≡ o → (k : ℕ) → k < suc n → f (a + k) ≡ None
    by_answer more (Some x) is k h = let wrong : Some x ≡ None = ap rest (sym is) ∙ e in cc
    by_answer more None is zero h = ap f (add-zero a) ∙ is
    by_answer more None is (suc k) h = ap f (sym (moved a k)) ∙ more (ap rest (sym is) ∙ e) k (omega arith)

-- where there is an answer it is that of the first number that has one
first-is : {X : Type 0} (f : ℕ → Option X) (a n : ℕ) (x : X) → first f a n ≡ Some x → (i : ℕ) × IsFirst f a n x i
first-is f a zero x e = let wrong : None ≡ Some x = e in cc
first-is {X = X} f a (suc n) x e = by_answer (λ e. first-is f (a + 1) n x e) (f a) refl
  where
    rest : Option X → Option X
    rest o = slice_get (cons_option o (filter_map f (range_with_len (a + 1) n))) 0

    before_next : f a ≡ None → (i : ℕ) → IsFirst f (a + 1) n x i → (k : ℕ) → k < suc i → f (a + k) ≡ None
    before_next is i h zero less = ap f (add-zero a) ∙ is
    before_next is i h (suc k) less = ap f (sym (moved a k)) ∙ h.before k (omega arith)

    by_answer : (first f (a + 1) n ≡ Some x → (i : ℕ) × IsFirst f (a + 1) n x i) → (o : Option X) → f a ≡ o → (i : ℕ) × IsFirst f a (suc n) x i
    by_answer more (Some y) is =
        let same : Some y ≡ Some x = ap rest (sym is) ∙ e in (
          0,
          record {
            within = omega arith;
            here = ap f (add-zero a) ∙ is ∙ same;
            before = λ k less. absurd (omega arith);
          },
        )
    by_answer more None is =
        let next : (i : ℕ) × IsFirst f (a + 1) n x i = more (ap rest (sym is) ∙ e) in (
          suc next.0,
          record {
            within = omega (arith, next.1.within);
            here = ap f (sym (moved a next.0)) ∙ next.1.here;
            before = before_next is next.0 next.1;
          },
        )

-- where no row is faulty there is no first fault
pub first_fault-none : (front : List ℕ) (rows : ℕ) (blocks : List ℕ) (len : ℕ) → ((i : ℕ) → i < rows → kind_of_row front rows blocks len i ≡ None) → first_fault front rows blocks len ≡ None
first_fault-none front rows blocks len none =
    first-none (fault_of_row front rows blocks len) 0 rows (λ k h.
    ap (fault_of_row front rows blocks len) (zero-add k) ∙ ap (option_map (fault_at k)) (none k h))

no_kind : (i : ℕ) (o : Option TableKind) → option_map (fault_at i) o ≡ None → o ≡ None
no_kind i None e = refl
no_kind i (Some kind) e = cc

kind_is : (i : ℕ) (o : Option TableKind) (fault : TableFault) → option_map (fault_at i) o ≡ Some fault → (fault.row ≡ i) × (o ≡ Some fault.kind)
kind_is i None fault e = let wrong : None ≡ Some fault = e in cc
kind_is i (Some kind) fault e =
    let same : fault_at i kind ≡ fault = cc in (ap (λ (f : TableFault). f.row) (sym same), ap (λ (f : TableFault). Some f.kind) same)

-- where there is no first fault no row is faulty
pub none-first_fault : (front : List ℕ) (rows : ℕ) (blocks : List ℕ) (len : ℕ) → first_fault front rows blocks len ≡ None → (i : ℕ) → i < rows → kind_of_row front rows blocks len i ≡ None
none-first_fault front rows blocks len e i h =
    no_kind i (kind_of_row front rows blocks len i)
    (ap (fault_of_row front rows blocks len) (sym (zero-add i)) ∙ none-first (fault_of_row front rows blocks len) 0 rows e i h)

-- the first fault is that of a row before which no row is faulty
pub first_fault-some : (front : List ℕ) (rows : ℕ) (blocks : List ℕ) (len : ℕ) (fault : TableFault) → IsFirstFault front rows blocks len fault → first_fault front rows blocks len ≡ Some fault
first_fault-some front rows blocks len fault h =
    first-here (fault_of_row front rows blocks len) 0 rows fault.row fault (record {
      within = h.exists;
      here = ap (fault_of_row front rows blocks len) (zero-add fault.row) ∙ ap (option_map (fault_at fault.row)) h.kind;
      before = λ k less. ap (fault_of_row front rows blocks len) (zero-add k) ∙ ap (option_map (fault_at k)) (h.before k less);
    })

-- the first fault is such a one
pub some-first_fault : (front : List ℕ) (rows : ℕ) (blocks : List ℕ) (len : ℕ) (fault : TableFault) → first_fault front rows blocks len ≡ Some fault → IsFirstFault front rows blocks len fault
some-first_fault front rows blocks len fault e =
    let f : ℕ → Option TableFault = fault_of_row front rows blocks len in
    let at : (i : ℕ) × IsFirst f 0 rows fault i = first-is f 0 rows fault e in
    let is : (fault.row ≡ at.0) × (kind_of_row front rows blocks len at.0 ≡ Some fault.kind) =
    kind_is at.0 (kind_of_row front rows blocks len at.0) fault (ap f (sym (zero-add at.0)) ∙ at.1.here) in
    record {
      exists = omega (arith, is.0, at.1.within);
      kind = ap (kind_of_row front rows blocks len) is.0 ∙ is.1;
      before = λ k less. no_kind k (kind_of_row front rows blocks len k) (ap f (sym (zero-add k)) ∙ at.1.before k (omega (arith, is.0)));
    }

-- a row of which some byte stands at or past the file's end
pub kind_of_row-cut : (front : List ℕ) (rows : ℕ) (blocks : List ℕ) (len i : ℕ) → len < table_bytes (i + 1) → kind_of_row front rows blocks len i ≡ Some CutShort
kind_of_row-cut front rows blocks len i h = rw (lt-ltb len (40 + 40 * (i + 1)) h) refl

-- a row that stands in the file whole
pub kind_of_row-whole : (front : List ℕ) (rows : ℕ) (blocks : List ℕ) (len i : ℕ) → table_bytes (i + 1) ≤ len →
    kind_of_row front rows blocks len i ≡ fault_in rows (slice_index blocks (field_of rows (length blocks) i)) len
    (row_at front i)
kind_of_row-whole front rows blocks len i h = rw (le-ltb len (40 + 40 * (i + 1)) h) refl

-- a row that is not faulty stands in the file whole
pub is_whole : (front : List ℕ) (rows : ℕ) (blocks : List ℕ) (len i : ℕ) → kind_of_row front rows blocks len i ≡ None → table_bytes (i + 1) ≤ len
is_whole front rows blocks len i e = by_test (nat_lt len (table_bytes (i + 1))) refl
  where
    by_test : (b : Bool) → nat_lt len (table_bytes (i + 1)) ≡ b → table_bytes (i + 1) ≤ len
    by_test true is =
        let cut : kind_of_row front rows blocks len i ≡ Some CutShort = kind_of_row-cut front rows blocks len i (ltb-true len (table_bytes (i + 1)) is) in
        let wrong : Some CutShort ≡ None = sym cut ∙ e in absurd (cc)
    by_test false is = ltb-false len (table_bytes (i + 1)) is

-- what is not something is nothing
pub is_none : {X : Type 0} (o : Option X) → ((x : X) → o ≡ Some x → ⊥) → o ≡ None
is_none None none = refl
is_none (Some x) none = absurd (none x refl)
