-- Fronts of lists, and inputs with bytes in front.
use Rattle.std.proofs.Common.{◌≡◌, ℕ, ◌+◌, ◌-◌, ◌≤◌, Bool, true, false, ◌||◌, ◌&&◌, List, [], ◌++◌, length, take, drop, Option, Some, None, refl, sym, ap, ◌∙◌, arith, inl, inr, append_assoc, append-nil}
use Rattle.std.specs.List.{copy_within, slice_range}
use Rattle.std.proofs.Math.Seq.{take-add, take-append-add, take-paste}
use Rattle.std.proofs.lemmas.Bool.{cases_lt}
use Rattle.std.proofs.lemmas.List.{take-append-drop, take-append-le, drop-append-le, take-take, take_all, take_at, length-take, length-drop}
use Rattle.idx_outside.specs.Input.{behind}
use Rattle.idx_http.specs.Heads.{window}

-- ---- fronts

-- behind the front of a list stands some front of what follows
pub take-append_some : (n : ℕ) (xs ys : List ℕ) → (t : List ℕ) × (take n (xs ++ ys) ≡ take n xs ++ t)
take-append_some n xs ys =
    elim (cases_lt (length xs) n) [
      | inl longer ↦ (
        take (n - length xs) ys,
        ap (λ k. take k (xs ++ ys)) (omega arith) ∙ take-append-add xs ys (n - length xs)
            ∙ ap (λ (t : List ℕ). t ++ take (n - length xs) ys) (sym (take_all n xs (omega arith))),
      )
      | inr within ↦ ([], take-append-le n xs ys within ∙ sym (append-nil (take n xs)))
    ]

pub window_more : (s more : List ℕ) → (t : List ℕ) × (window (s ++ more) ≡ window s ++ t)
unfolding window
window_more s more = take-append_some 8192 s more

pub window_full : (s more : List ℕ) → 8192 ≤ length s → window (s ++ more) ≡ window s
unfolding window
window_full s more full = take-append-le 8192 s more full

pub window_short : (s : List ℕ) → length s ≤ 8192 → window s ≡ s
unfolding window
window_short s short = take_all 8192 s short

pub length-window : (s : List ℕ) → (length (window s) ≤ length s) × (length (window s) ≤ 8192)
unfolding window
length-window s = (omega (arith, length-take 8192 s), omega (arith, length-take 8192 s))

-- a range within a front is one of the whole
pub slice_range-take : (n a b : ℕ) (s : List ℕ) → a ≤ b → b ≤ length (take n s) → slice_range (take n s) a b ≡ slice_range s a b
slice_range-take n a b s ordered within =
    let front = take n s in
    let enough : b - a ≤ length (drop a front) = omega (arith, length-drop a front) in
    sym (ap (λ (t : List ℕ). take (b - a) (drop a t)) (sym (take-append-drop n s))
    ∙ ap (take (b - a)) (drop-append-le a front (drop n s) (omega arith))
    ∙ take-append-le (b - a) (drop a front) (drop n s) enough)

pub slice_range-window : (a b : ℕ) (s : List ℕ) → a ≤ b → b ≤ length (window s) → slice_range (window s) a b ≡ slice_range s a b
unfolding window
slice_range-window a b s = slice_range-take 8192 a b s

-- the window of a front that is kept
pub window_of_kept : (buffer : List ℕ) (len n : ℕ) → len ≤ length buffer → (len ≤ 8192 → n ≡ len) → (8192 ≤ len → n ≡ 8192)
    → take n buffer ≡ window (take len buffer)
unfolding window
window_of_kept buffer len n inside short long =
    elim (cases_lt 8192 len) [
      | inl more ↦ ap (λ k. take k buffer) (long (omega arith)) ∙ sym (take-take 8192 len buffer (omega arith))
      | inr few ↦
          ap (λ k. take k buffer) (short few)
          ∙ sym (take_all 8192 (take len buffer) (omega (arith, length-take len buffer)))
    ]

-- the first bytes of a buffer after a move to the front
pub take-copy_within : (xs : List ℕ) (len count : ℕ) → len ≤ length xs → count ≤ length (take len xs)
    → take (len - count) (copy_within xs count len 0) ≡ drop count (take len xs)
take-copy_within xs len count inside few =
    let some : len - count ≤ length (drop count xs) = omega (arith, length-drop count xs) in
    let less : count ≤ len = omega (arith, length-take len xs) in
    let pasted : take (0 + (len - count)) (copy_within xs count len 0) ≡ take 0 xs ++ take (len - count) (drop count xs) =
    take-paste xs 0 (drop count xs) (len - count) (omega arith) some in
    ap (λ k. take k (copy_within xs count len 0)) (omega arith) ∙ pasted ∙ take-drop_front xs len count less inside
  where
    take-drop_front : (xs : List ℕ) (len count : ℕ) → count ≤ len → len ≤ length xs → take (len - count) (drop count xs) ≡ drop count (take len xs)
    take-drop_front xs len count less inside =
        let front = take len xs in
        let long : length (drop count front) ≡ len - count = omega (arith, length-drop count front, length-take len xs) in
        ap (λ (t : List ℕ). take (len - count) (drop count t)) (sym (take-append-drop len xs))
        ∙ ap (take (len - count)) (drop-append-le count front (drop len xs) (omega (arith, length-take len xs)))
        ∙ take_at (drop count front) (drop len xs) (len - count) long

-- ---- inputs

pub behind-append : (p q : List ℕ) (c : Option (List ℕ)) → behind (p ++ q) c ≡ behind p (behind q c)
behind-append p q None = refl
behind-append p q (Some bytes) = ap Some (append_assoc p q bytes)

-- the bytes that a read put behind those that are kept
pub filled : (buffer after : List ℕ) (len n : ℕ) (old new : Option (List ℕ)) → take len after ≡ take len buffer
    → old ≡ behind (take n (drop len after)) new → behind (take (len + n) after) new ≡ behind (take len buffer) old
filled buffer after len n old new front given =
    ap (λ (t : List ℕ). behind t new) (take-add len n after)
    ∙ behind-append (take len after) (take n (drop len after)) new
    ∙ (λ i. behind (front i) (sym given i))

-- ---- tests

pub or_true : (a A X : Bool) → a ≡ A → a ≡ true → a ≡ (A || X)
or_true a true X e is = is
or_true a false X e is = absurd (cc)

pub or_false : (a A X r : Bool) → a ≡ A → a ≡ false → r ≡ X → r ≡ (A || X)
or_false a true X r e is same = absurd (cc)
or_false a false X r e is same = same

pub and_true : (a A r X : Bool) → a ≡ A → a ≡ true → r ≡ X → r ≡ (A && X)
and_true a true r X e is same = same
and_true a false r X e is same = absurd (cc)

pub and_false : (a A X : Bool) → a ≡ A → a ≡ false → a ≡ (A && X)
and_false a true X e is = absurd (cc)
and_false a false X e is = e
