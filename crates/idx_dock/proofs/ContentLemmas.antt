-- The blocks of a field, one behind the other, and the fields.
use Rattle.std.proofs.Common.{◌≡◌, ℕ, zero, suc, ◌+◌, ◌-◌, ◌*◌, ◌^◌, ◌<◌, ◌≤◌, Bool, true, false, cond, List, [], ◌∷◌, ◌++◌, length, get_or, refl, sym, ap, ◌∙◌, subst, arith, inl, inr}
use Rattle.std.specs.Prelude.{◌⊎◌, All, IfOk, Result, Ok, Err, filter, replicate}
use Rattle.std.specs.List.{AllByRecursion, range_with_len}
use Rattle.std.proofs.Math.Nat.{mul-le-mul_right, mul-le-mul}
use Rattle.std.proofs.Math.Pow.{pow_mono}
use Rattle.std.proofs.lemmas.List.{length-replicate}
use Rattle.std.proofs.lemmas.List.Elements.{All-head, All-tail}
use Rattle.idx_header.specs.Header.{HeaderValue, IsHeader, block_count}
use Rattle.idx_header.proofs.BoundLemmas.{few_blocks}
use Rattle.idx_layout.specs.Placing.{is_present, present_blocks}
use Rattle.idx_layout.specs.OfHeader.{placing_of}
use Rattle.idx_layout.proofs.RowLemmas.{absent_behind}
use Rattle.idx_pieces.specs.declared.run.Run.{Run}
use Rattle.idx_pieces.specs.Runs.{IsRun}
use Rattle.idx_dock.specs.declared.awaited.Awaited.{Awaited}
use Rattle.idx_dock.specs.Content.{runs_in}
use Rattle.idx_dock.specs.Next.{ArePassed, IsOneOf, end_of, runs_of}
use Rattle.idx_dock.proofs.NextLemmas.{ArePassed-behind}
use Rattle.std.proofs.lemmas.Bool.{cases_lt}

-- the numbers rise from one on
abbrev pub RiseFrom : ℕ → List ℕ → Type 0
RiseFrom low [] = Unit {0}
RiseFrom low (b ∷ bs) = (low ≤ b) × RiseFrom (b + 1) bs

pub RiseFrom-lower : (low more : ℕ) (bs : List ℕ) → low ≤ more → RiseFrom more bs → RiseFrom low bs
RiseFrom-lower low more [] le rise = tt
RiseFrom-lower low more (b ∷ bs) le rise = (omega (arith, rise.0), rise.1)

pub RiseFrom-filter : (p : ℕ → Bool) (a n : ℕ) → RiseFrom a (filter p (range_with_len a n))
RiseFrom-filter p a zero = tt
RiseFrom-filter p a (suc n) = by_test (p a) (RiseFrom-filter p (a + 1) n)
  where
    rest : List ℕ
    rest = filter p (range_with_len (a + 1) n)

    by_test : (b : Bool) → RiseFrom (a + 1) rest → RiseFrom a (cond b (a ∷ rest) rest)
    by_test true rise = (omega arith, rise)
    by_test false rise = RiseFrom-lower a (a + 1) rest (omega arith) rise

-- a present block exists
present_exists : (h : HeaderValue) (block : ℕ) → IsHeader h → is_present (placing_of h) block ≡ true → block < block_count h
present_exists h block is here =
    elim (cases_lt block (block_count h)) [
      | inl less ↦ less
      | inr past ↦ let wrong : true ≡ false = sym here ∙ absent_behind h block is past in absurd (cc)
    ]

blocks_exist : (h : HeaderValue) (a n : ℕ) → IsHeader h → AllByRecursion (λ block. block < block_count h) (filter (is_present (placing_of h)) (range_with_len a n))
blocks_exist h a zero is = tt
blocks_exist h a (suc n) is = by_test (is_present (placing_of h) a) refl (blocks_exist h (a + 1) n is)
  where
    rest : List ℕ
    rest = filter (is_present (placing_of h)) (range_with_len (a + 1) n)

    by_test : (b : Bool) → is_present (placing_of h) a ≡ b → AllByRecursion (λ block. block < block_count h) rest → AllByRecursion (λ block. block < block_count h) (cond b (a ∷ rest) rest)
    by_test true here more = (present_exists h a is here, more)
    by_test false here more = more

-- the blocks that are left exist and rise, and no run that was passed has a sample in them
pub record AreAhead (h : HeaderValue) (field : ℕ) (awaited : List Awaited) (counts blocks : List ℕ) : Type 0 where
  pub low : ℕ
  pub rise : RiseFrom low blocks
  pub exist : AllByRecursion (λ block. block < block_count h) blocks
  pub passed : ArePassed h field (low * 2 ^ h.block_bits) awaited counts

get_or-zeros : (n k : ℕ) → get_or {A = ℕ} (replicate {A = ℕ} n 0) k 0 ≡ 0
get_or-zeros zero k = refl
get_or-zeros (suc n) zero = refl
get_or-zeros (suc n) (suc k) = get_or-zeros n k

pub ahead_all : (h : HeaderValue) (file field n : ℕ) (awaited : List Awaited) (counts blocks : List ℕ) → IsHeader h → n ≡ length awaited → counts ≡ replicate n 0 →
    blocks ≡ present_blocks (placing_of h) file → AreAhead h field awaited counts blocks
ahead_all h file field n awaited counts blocks is many none all =
    subst (λ bs. AreAhead h field awaited counts bs) (sym all) (subst (λ cs. AreAhead h field awaited cs (present_blocks (placing_of h) file)) (sym none) (record {
      low = file;
      rise = RiseFrom-filter (is_present (placing_of h)) file h.blocks_per_file;
      exist = blocks_exist h file h.blocks_per_file is;
      passed = record {
        many = length-replicate n 0 ∙ many;
        each = λ i d within k e less inside. absurd (omega (arith, less, get_or-zeros n i));
      };
    }))

pub ahead_passed : (h : HeaderValue) (field : ℕ) (awaited : List Awaited) (counts blocks rest : List ℕ) (block : ℕ) → blocks ≡ block ∷ rest → AreAhead h field awaited counts blocks →
    (block < block_count h) × ArePassed h field (block * 2 ^ h.block_bits) awaited counts
ahead_passed h field awaited counts blocks rest block first ahead =
    let exist = subst (AllByRecursion (λ block. block < block_count h)) first ahead.exist in
    let rise = subst (RiseFrom ahead.low) first ahead.rise in
    (exist.0, ArePassed-behind h field (ahead.low * 2 ^ h.block_bits) (block * 2 ^ h.block_bits) awaited counts (mul-le-mul_right (2 ^ h.block_bits) rise.0) ahead.passed)

pub ahead_next : (h : HeaderValue) (field : ℕ) (awaited : List Awaited) (counts after blocks rest : List ℕ) (block : ℕ) → blocks ≡ block ∷ rest → AreAhead h field awaited counts blocks →
    ArePassed h field ((block + 1) * 2 ^ h.block_bits) awaited after → AreAhead h field awaited after rest
ahead_next h field awaited counts after blocks rest block first ahead passed = record {
  low = block + 1;
  rise = (subst (RiseFrom ahead.low) first ahead.rise).1;
  exist = (subst (AllByRecursion (λ block. block < block_count h)) first ahead.exist).1;
  passed = passed;
}

-- the addresses of a block are numbers
pub block_ends : (h : HeaderValue) (block samples : ℕ) → IsHeader h → block < block_count h → samples ≤ 2 ^ 20 → block * samples + samples ≤ 2 ^ 45
block_ends h block samples is exists few =
    let count = few_blocks (length h.mask) h.block_bits is.bits_most in
    let below : block ≤ 2 ^ 24 = omega arith in
    let product : block * samples ≤ 2 ^ 24 * 2 ^ 20 = mul-le-mul below few in
    omega arith

-- so are those of a run
pub run_ends : (h : HeaderValue) (file : ℕ) (run : Run) → IsHeader h → file < block_count h → IsRun h file run → end_of h run ≤ 2 ^ 50
run_ends h file run is exists are =
    let count = few_blocks (length h.mask) h.block_bits is.bits_most in
    let blocks : h.blocks_per_file ≤ 65536 = is.blocks_few in
    let front : file + h.blocks_per_file ≤ 2 ^ 25 = omega arith in
    let bits : 2 ^ h.block_bits ≤ 2 ^ 20 = pow_mono is.bits_few in
    let product : (file + h.blocks_per_file) * 2 ^ h.block_bits ≤ 2 ^ 25 * 2 ^ 20 = mul-le-mul front bits in
    let last : end_of h run ≤ (file + h.blocks_per_file) * 2 ^ h.block_bits = are.to in
    omega arith

pub range_step : (field end : ℕ) → field < end → range_with_len field (end - field) ≡ field ∷ range_with_len (field + 1) (end - (field + 1))
range_step field end less = let count : end - field ≡ suc (end - (field + 1)) = omega arith in ap (range_with_len field) count

-- what holds of each run of each piece holds of one of them
pub one_of : (P : Run → Type 0) (runs : List Run) (r : Run) → All P runs → IsOneOf runs r → P r
one_of P [] r all here = absurd here
one_of P (q ∷ runs) r all (inl same) = subst P same (All-head P q runs all)
one_of P (q ∷ runs) r all (inr more) = one_of P runs r (All-tail P q runs all) more

pub IsOneOf-split : (xs ys : List Run) (r : Run) → IsOneOf (xs ++ ys) r → IsOneOf xs r ⊎ IsOneOf ys r
IsOneOf-split [] ys r here = inr here
IsOneOf-split (x ∷ xs) ys r (inl same) = inl (inl same)
IsOneOf-split (x ∷ xs) ys r (inr more) =
    elim (IsOneOf-split xs ys r more) [ inl front ↦ inl (inr front) | inr back ↦ inr back ]

pub one_of_all : (P : Run → Type 0) (awaited : List Awaited) (r : Run) → All (λ a. All P (runs_of a)) awaited → IsOneOf (runs_in awaited) r → P r
one_of_all P [] r all here = absurd here
one_of_all P (a ∷ others) r all here =
    by_place (one_of_all P others r (All-tail (λ a. All P (runs_of a)) a others all)) (IsOneOf-split (runs_of a) (runs_in others) r here)
  where
    by_place : (IsOneOf (runs_in others) r → P r) → IsOneOf (runs_of a) r ⊎ IsOneOf (runs_in others) r → P r
    by_place more (inl front) = one_of P (runs_of a) r (All-head (λ a. All P (runs_of a)) a others all) front
    by_place more (inr back) = more back

pub IfOk-from : {T E : Type 0} (result : Result T E) (P Q : T → Type 0) → ((x : T) → P x → Q x) → IfOk result P → IfOk result Q
IfOk-from (Ok x) P Q f p = f x p
IfOk-from (Err e) P Q f p = tt

pub IfOk-two : {T E : Type 0} (result : Result T E) (P Q R : T → Type 0) → ((x : T) → P x → Q x → R x) → IfOk result P → IfOk result Q → IfOk result R
IfOk-two (Ok x) P Q R f p q = f x p q
IfOk-two (Err e) P Q R f p q = tt
