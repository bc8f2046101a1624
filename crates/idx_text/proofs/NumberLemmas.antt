-- The digits of a number: they have room, and are read back.
use Rattle.std.proofs.Common.{◌≡◌, Bool, true, ℕ, ◌+◌, ◌*◌, ◌^◌, ◌<◌, ◌≤◌, ◌-◌, ◌/◌, ◌%◌, nat_le, List, [], ◌∷◌, ◌++◌, length, fold, Some, refl, ap, ◌∙◌, arith, lit<}
use Rattle.std.proofs.Math.Nat.{pow-le-pow_right}
use Rattle.std.proofs.lemmas.Bool.Decides.{nat_tests}
use Rattle.std.proofs.lemmas.Fmt.{decimal_by_steps, decimal_nonempty, length-decimal-le}
use Rattle.std.proofs.lemmas.List.Folds.{list_all-append}
use Rattle.std.specs.Fmt.{decimal}
use Rattle.std.specs.List.{list_all}
use Rattle.idx_text.specs.Number.{is_digit, decimal_of, number_of}

-- a number of fewer than 19 digits has room for one more
pub one_more_digit : (value i : ℕ) → value < 10 ^ i → i < 19 → 10 * value + 9 < 2 ^ 64
one_more_digit value i below few =
    let most : 10 ^ i ≤ 10 ^ 18 = pow-le-pow_right (lit< tt) {i = i} {j = 18} (omega arith) in
    omega arith

-- one more digit behind others
all_push : (p : ℕ → Bool) (ds : List ℕ) (d : ℕ) → list_all p ds ≡ true → p d ≡ true → list_all p (ds ++ d ∷ []) ≡ true
all_push p ds d all here = rw (list_all-append p ds (d ∷ []), all, here) refl

fold_push : (ds : List ℕ) (d n : ℕ) → fold (λ n b. 10 * n + (b - 48)) n (ds ++ d ∷ []) ≡ 10 * fold (λ n b. 10 * n + (b - 48)) n ds + (d - 48)
fold_push [] d n = refl
fold_push (e ∷ es) d n = fold_push es d (10 * n + (e - 48))

digit : (n : ℕ) → n < 10 → is_digit (48 + n) ≡ true
digit n small = grind (arith, nat_tests)

-- the bytes are digits, and stand for this number
pub record Spells (n : ℕ) (ds : List ℕ) : Type 0 where
  pub digits : list_all is_digit ds ≡ true
  pub value : decimal_of ds ≡ n

pub spelled : (n : ℕ) → n < 2 ^ 64 → Spells n (decimal n)
spelled = decimal_by_steps Spells one more
  where
    one : (n : ℕ) → n < 10 → Spells n ((48 + n) ∷ [])
    one n small = record { digits = all_push is_digit [] (48 + n) refl (digit n small); value = omega arith }

    more : (n : ℕ) (ds : List ℕ) → 10 ≤ n → Spells (n / 10) ds → Spells n (ds ++ ((48 + n % 10) ∷ []))
    more n ds large front = record {
      digits = all_push is_digit ds (48 + n % 10) front.digits (digit (n % 10) (omega arith));
      value = fold_push ds (48 + n % 10) 0 ∙ (let v = front.value in omega arith);
    }

spelled_back : (n : ℕ) (ds : List ℕ) → 0 < length ds → length ds ≤ 19 → Spells n ds → number_of ds ≡ Some n
unfolding number_of
spelled_back n ds some few spells =
    let one : nat_le 1 (length ds) ≡ true = grind (arith, nat_tests) in
    let most : nat_le (length ds) 19 ≡ true = grind (arith, nat_tests) in
    rw (one, most, spells.digits) (ap Some spells.value)

pub reads_back : (n : ℕ) → n < 10 ^ 19 → number_of (decimal n) ≡ Some n
reads_back n small =
    let large : n < 2 ^ 64 = omega arith in
    spelled_back n (decimal n) (decimal_nonempty n large) (length-decimal-le 19 n (omega arith) small large) (spelled n large)
