-- Tests of the items of a list.
use Rattle.std.proofs.Common.{◌≡◌, ℕ, zero, suc, ◌+◌, ◌<◌, ◌≤◌, Bool, true, false, cond, List, [], ◌∷◌, ◌++◌, length, length-append, append-nil, add-zero, zero-add, ◌-◌, Some, None, refl, sym, ap, ◌∙◌, arith}
use Rattle.std.specs.Prelude.{filter, slice_get, nat_lt, ◌||◌}
use mir.Val.{bool_byte}
use Rattle.std.specs.List.{list_any, range_with_len}
use Rattle.std.proofs.lemmas.List.Elements.{filter-append}

-- two tests that hold together are one
pub same_tests : (a b : Bool) → (a ≡ true → b ≡ true) → (b ≡ true → a ≡ true) → a ≡ b
same_tests true b f g = sym (f refl)
same_tests false true f g = g refl
same_tests false false f g = refl

-- an item that passes the test is found
pub list_any-slice_get : {X : Type 0} (test : X → Bool) (xs : List X) (k : ℕ) (x : X) → slice_get xs k ≡ Some x → test x ≡ true → list_any test xs ≡ true
list_any-slice_get test [] k x e passes = let wrong : None ≡ Some x = e in cc
list_any-slice_get test (y ∷ ys) zero x e passes =
    let same : y ≡ x = cc in ap (λ b. b || list_any test ys) (ap test same ∙ passes)
list_any-slice_get test (y ∷ ys) (suc k) x e passes = with_rest (test y) (list_any-slice_get test ys k x e passes)
  where
    with_rest : (b : Bool) → list_any test ys ≡ true → (b || list_any test ys) ≡ true
    with_rest true rest = refl
    with_rest false rest = rest

-- some item passes the test where one is found
pub passing : {X : Type 0} (test : X → Bool) (xs : List X) → list_any test xs ≡ true → (k : ℕ) × (x : X) × (slice_get xs k ≡ Some x) × (test x ≡ true)
passing test [] e = absurd (wrong e)
  where
    wrong : false ≡ true → ⊥
    wrong e = cc
passing {X = X} test (y ∷ ys) e = by_test (λ rest. passing test ys rest) (test y) refl
  where
    by_test : (list_any test ys ≡ true → (k : ℕ) × (x : X) × (slice_get ys k ≡ Some x) × (test x ≡ true)) →
        (b : Bool) → test y ≡ b → (k : ℕ) × (x : X) × (slice_get (y ∷ ys) k ≡ Some x) × (test x ≡ true)
    by_test more true is = (0, y, refl, is)
    by_test more false is =
        let next = more (sym (ap (λ b. b || list_any test ys) is) ∙ e) in (suc next.0, next.1, next.2, next.3)

-- some item passes the test where their number is not 0
pub counted : {X : Type 0} (test : X → Bool) (xs : List X) → nat_lt 0 (length (filter test xs)) ≡ list_any test xs
counted test [] = refl
counted test (y ∷ ys) = by_test (test y) (counted test ys)
  where
    by_test : (b : Bool) → nat_lt 0 (length (filter test ys)) ≡ list_any test ys → nat_lt 0 (length (cond b (y ∷ filter test ys) (filter test ys))) ≡ (b || list_any test ys)
    by_test true rest = grind arith
    by_test false rest = rest

-- a range cut in two
pub range-split : (a m n : ℕ) → range_with_len a (m + n) ≡ range_with_len a m ++ range_with_len (a + m) n
range-split a zero n = ap (λ b. range_with_len b (0 + n)) (sym (add-zero a)) ∙ ap (λ k. range_with_len (a + 0) k) (zero-add n)
range-split a (suc m) n =
    let cut : suc m + n ≡ suc (m + n) = omega arith in
    let moved : a + 1 + m ≡ a + suc m = omega arith in
    ap (range_with_len a) cut ∙ ap (λ xs. a ∷ xs) (range-split (a + 1) m n ∙ ap (λ b. range_with_len (a + 1) m ++ range_with_len b n) moved)

pub range_with_len-more : (a n : ℕ) → range_with_len a (n + 1) ≡ range_with_len a n ++ (a + n) ∷ []
range_with_len-more a n = range-split a n 1

-- how many numbers of a range pass a test, with one number more
pub count_more : (test : ℕ → Bool) (a n : ℕ) → length (filter test (range_with_len a (n + 1))) ≡ length (filter test (range_with_len a n)) + cond (test (a + n)) 1 0
count_more test a n =
    let split : range_with_len a (n + 1) ≡ range_with_len a n ++ (a + n) ∷ [] = range_with_len-more a n in
    ap (λ xs. length (filter test xs)) split ∙ ap length (filter-append test (range_with_len a n) ((a + n) ∷ []))
    ∙ length-append (filter test (range_with_len a n)) (filter test ((a + n) ∷ [])) ∙ ap (λ k. length (filter test (range_with_len a n)) + k) (one (test (a + n)))
  where
    one : (b : Bool) → length (cond b ((a + n) ∷ []) []) ≡ cond b 1 0
    one true = refl
    one false = refl

pub count-le : (test : ℕ → Bool) (a n : ℕ) → length (filter test (range_with_len a n)) ≤ n
count-le test a zero = omega arith
count-le test a (suc n) = by_test (test a) (count-le test (a + 1) n)
  where
    by_test : (b : Bool) → length (filter test (range_with_len (a + 1) n)) ≤ n → length (cond b (a ∷ filter test (range_with_len (a + 1) n)) (filter test (range_with_len (a + 1) n))) ≤ suc n
    by_test true h = omega arith
    by_test false h = omega arith

-- numbers that do not pass the test count for nothing
pub count-none : (test : ℕ → Bool) (a n : ℕ) → ((k : ℕ) → a ≤ k → k < a + n → test k ≡ false) → filter test (range_with_len a n) ≡ []
count-none test a zero none = refl
count-none test a (suc n) none =
    ap (λ b. cond b (a ∷ filter test (range_with_len (a + 1) n)) (filter test (range_with_len (a + 1) n))) (none a (omega arith) (omega arith))
    ∙ count-none test (a + 1) n (λ k from to. none k (omega arith) (omega arith))

-- numbers at the end of a range that do not pass the test can be left out
pub filter-end : (test : ℕ → Bool) (a m n : ℕ) → m ≤ n → ((k : ℕ) → a + m ≤ k → k < a + n → test k ≡ false) → filter test (range_with_len a m) ≡ filter test (range_with_len a n)
filter-end test a m n less none =
    let cut : m + (n - m) ≡ n = omega arith in
    let rest : filter test (range_with_len (a + m) (n - m)) ≡ [] = count-none test (a + m) (n - m) (λ k from to. none k from (omega arith)) in
    sym (ap (λ k. filter test (range_with_len a k)) (sym cut)
    ∙ ap (filter test) (range-split a m (n - m))
    ∙ filter-append test (range_with_len a m) (range_with_len (a + m) (n - m))
    ∙ ap (λ xs. filter test (range_with_len a m) ++ xs) rest
    ∙ append-nil (filter test (range_with_len a m)))

pub count-end : (test : ℕ → Bool) (a m n : ℕ) → m ≤ n → ((k : ℕ) → a + m ≤ k → k < a + n → test k ≡ false) → length (filter test (range_with_len a m)) ≡ length (filter test (range_with_len a n))
count-end test a m n less none = ap length (filter-end test a m n less none)

-- one number more of a range from a to b
pub count_step : (test : ℕ → Bool) (a b count bit : ℕ) (found : Bool) → a ≤ b →
    count ≡ length (filter test (range_with_len a (b - a))) → bit ≡ bool_byte found → found ≡ test b →
    count + bit ≡ length (filter test (range_with_len a (b + 1 - a)))
count_step test a b count bit found from is byte same =
    let here : a + (b - a) ≡ b = omega arith in
    let next : b - a + 1 ≡ b + 1 - a = omega arith in
    let tested : found ≡ test (a + (b - a)) = same ∙ ap test (sym here) in
    let one : bit ≡ cond (test (a + (b - a))) 1 0 = byte ∙ byte_of found ∙ ap (λ (t : Bool). cond t 1 0) tested in
    let more : length (filter test (range_with_len a (b - a + 1))) ≡ length (filter test (range_with_len a (b - a))) + cond (test (a + (b - a))) 1 0 = count_more test a (b - a) in
    omega (arith, is, one, more, ap (λ n. length (filter test (range_with_len a n))) next)
  where
    byte_of : (b : Bool) → bool_byte b ≡ cond b 1 0
    byte_of true = refl
    byte_of false = refl

pub bool_byte-le : (b : Bool) → bool_byte b ≤ 1
bool_byte-le true = omega arith
bool_byte-le false = omega arith
