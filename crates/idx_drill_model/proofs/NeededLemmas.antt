-- The blocks that a question of a drill needs: those of the addresses of its level, each of which the box has.
use Rattle.std.proofs.Common.{◌≡◌, ℕ, zero, suc, ◌+◌, ◌-◌, ◌*◌, ◌/◌, ◌^◌, ◌<◌, ◌≤◌, Bool, true, false, cond, ◌&&◌, eqb, leb, List, [], ◌∷◌, ◌++◌, length, filter, refl, sym, ap, ◌∙◌, subst, ⊎_elim, arith}
use Rattle.std.specs.List.{range_with_len}
use Rattle.std.proofs.Math.Nat.{div-eq_of_lt, mul-le-mul_right, pow-suc, zero-div}
use Rattle.std.proofs.Math.Pow.{pow_mono, pow-lt}
use Rattle.std.proofs.lemmas.Bool.{and_from, and_parts, cases_lt, cond-false, cond-true, eq-eqb, eqb-true, false_from_ne_true, le-leb, leb-true, lt-leb}
use Rattle.std.proofs.lemmas.List.Elements.{filter-append}
use Rattle.std.proofs.lemmas.Nat.{div_below, le-div, pow-add, pow_pos, shl-shr}
use Rattle.idx_hz.specs.Address.{hz_address, level}
use Rattle.idx_hz.specs.Answer.{has_level}
use Rattle.idx_hz.proofs.AddressLaws.{level_iff_range, level_iff_zero}
use Rattle.idx_hz.proofs.BlockLemmas.{block_zero_iff_level}
use Rattle.idx_header.specs.Header.{block_count}
use Rattle.idx_layout.proofs.ListLemmas.{count-none, filter-end, range-split}
use Rattle.idx_layout.proofs.PresentLemmas.{any_point, point_found}
use Rattle.idx_plan.specs.Needed.{is_needed, needed}
use Rattle.idx_drill_model.specs.Drill.{drill_ask, drill_bits, drill_box, drill_depth, drill_header, drill_mask}
use Rattle.idx_drill_model.specs.Blocks.{blocks_at, blocks_below}
use Rattle.idx_drill_model.proofs.BoxLemmas.{bits-within, length-mask, point-at}

-- ---- the addresses of a level

has-one : (mask p : List ℕ) (l : ℕ) → level mask p ≡ l → has_level mask l l p ≡ true
has-one mask p l is = and_from (leb l (level mask p)) (leb (level mask p) l) (le-leb l (level mask p) (omega arith)) (le-leb (level mask p) l (omega arith))

one-has : (mask p : List ℕ) (l : ℕ) → has_level mask l l p ≡ true → level mask p ≡ l
one-has mask p l e =
    let ends = and_parts (leb l (level mask p)) (leb (level mask p) l) e in
    omega (arith, leb-true l (level mask p) ends.0, leb-true (level mask p) l ends.1)

range-of : (mask p : List ℕ) (l : ℕ) → level mask p ≡ suc l → (2 ^ l ≤ hz_address mask p) × (hz_address mask p < 2 ^ l * 2)
range-of mask p l is =
    let last : suc l - 1 ≡ l = omega arith in
    let range = (level_iff_range mask p (suc l) (omega arith)).0 is in
    (subst (λ k. 2 ^ k ≤ hz_address mask p) last range.0, subst (λ k. hz_address mask p < k) (pow-suc 2 l) range.1)

level-of : (mask p : List ℕ) (l : ℕ) → 2 ^ l ≤ hz_address mask p → hz_address mask p < 2 ^ l * 2 → level mask p ≡ suc l
level-of mask p l from to =
    let last : suc l - 1 ≡ l = omega arith in
    (level_iff_range mask p (suc l) (omega arith)).1
    (subst (λ k. 2 ^ k ≤ hz_address mask p) (sym last) from, subst (λ k. hz_address mask p < k) (sym (pow-suc 2 l)) to)

-- ---- which blocks a level needs

module _ (n l : ℕ) where
  -- the block of an address of the level
  needs : (address block : ℕ) → address < 2 ^ length (drill_mask n) → ((p : List ℕ) → hz_address (drill_mask n) p ≡ address → level (drill_mask n) p ≡ l) → address / 2 ^ drill_bits n ≡ block → is_needed (drill_header n) (drill_ask n l) block ≡ true
  needs address block small of_level in_block =
      let at = point-at n address small in
      any_point (drill_box n) (λ p. has_level (drill_mask n) l l p && eqb (hz_address (drill_mask n) p / 2 ^ drill_bits n) block) at.0 at.1
      (and_from (has_level (drill_mask n) l l at.0) (eqb (hz_address (drill_mask n) at.0 / 2 ^ drill_bits n) block)
      (has-one (drill_mask n) at.0 l (of_level at.0 at.2))
      (eq-eqb (hz_address (drill_mask n) at.0 / 2 ^ drill_bits n) block (ap (λ a. a / 2 ^ drill_bits n) at.2 ∙ in_block)))

  -- and no block without one
  needs-not : (block : ℕ) → ((p : List ℕ) → level (drill_mask n) p ≡ l → hz_address (drill_mask n) p / 2 ^ drill_bits n ≡ block → ⊥) → is_needed (drill_header n) (drill_ask n l) block ≡ false
  needs-not block none = false_from_ne_true (is_needed (drill_header n) (drill_ask n l) block) (λ e.
      let at = point_found (drill_box n) (λ p. has_level (drill_mask n) l l p && eqb (hz_address (drill_mask n) p / 2 ^ drill_bits n) block) e in
      let parts = and_parts (has_level (drill_mask n) l l at.0) (eqb (hz_address (drill_mask n) at.0 / 2 ^ drill_bits n) block) at.2 in
      none at.0 (one-has (drill_mask n) at.0 l parts.0) (eqb-true (hz_address (drill_mask n) at.0 / 2 ^ drill_bits n) block parts.1))

-- ---- the coarse levels

coarse-first : (n l : ℕ) → l ≤ drill_bits n → is_needed (drill_header n) (drill_ask n l) 0 ≡ true
coarse-first n zero coarse =
    needs n 0 0 0 (pow_pos (length (drill_mask n))) (λ p is. (level_iff_zero (drill_mask n) p).1 is) (zero-div (2 ^ drill_bits n))
coarse-first n (suc l) coarse =
    let small : 2 ^ l < 2 ^ drill_bits n = pow-lt coarse in
    let whole : 2 ^ drill_bits n ≤ 2 ^ length (drill_mask n) = pow_mono (bits-within n) in
    let some : 0 < 2 ^ l = pow_pos l in
    needs n (suc l) (2 ^ l) 0 (omega (arith, small, whole)) (λ p is. level-of (drill_mask n) p l (omega arith) (omega arith)) (div-eq_of_lt small)

coarse-others : (n l block : ℕ) → l ≤ drill_bits n → 1 ≤ block → is_needed (drill_header n) (drill_ask n l) block ≡ false
coarse-others n l block coarse later = needs-not n l block (λ p is in_block.
    let first : hz_address (drill_mask n) p / 2 ^ drill_bits n ≡ 0 = (block_zero_iff_level (drill_mask n) p (drill_bits n)).1 (omega arith) in
    omega (arith, first, in_block, later))

-- ---- the fine levels

module _ (n k : ℕ) (fine : drill_bits n ≤ k) where
  -- a level's first address, in blocks
  in-blocks : 2 ^ k ≡ 2 ^ (k - drill_bits n) * 2 ^ drill_bits n
  in-blocks = let cut : k ≡ k - drill_bits n + drill_bits n = omega arith in ap (λ m. 2 ^ m) cut ∙ pow-add 2 (k - drill_bits n) (drill_bits n)

  fine-needs : (block : ℕ) → suc k ≤ length (drill_mask n) → 2 ^ (k - drill_bits n) ≤ block → block < 2 ^ (k - drill_bits n) + 2 ^ (k - drill_bits n) → is_needed (drill_header n) (drill_ask n (suc k)) block ≡ true
  fine-needs block deepest from to =
      let low : 2 ^ (k - drill_bits n) * 2 ^ drill_bits n ≤ block * 2 ^ drill_bits n = mul-le-mul_right (2 ^ drill_bits n) from in
      let high : (block + 1) * 2 ^ drill_bits n ≤ (2 ^ (k - drill_bits n) + 2 ^ (k - drill_bits n)) * 2 ^ drill_bits n = mul-le-mul_right (2 ^ drill_bits n) (omega arith) in
      let some : 0 < 2 ^ drill_bits n = pow_pos (drill_bits n) in
      let first : 2 ^ k ≤ block * 2 ^ drill_bits n = omega (arith, in-blocks, low) in
      let last : block * 2 ^ drill_bits n < 2 ^ k * 2 = omega (arith, in-blocks, high, some) in
      let whole : 2 ^ k * 2 ≤ 2 ^ length (drill_mask n) = subst (λ m. m ≤ 2 ^ length (drill_mask n)) (pow-suc 2 k) (pow_mono deepest) in
      needs n (suc k) (block * 2 ^ drill_bits n) block (omega (arith, last, whole))
      (λ p is. level-of (drill_mask n) p k (omega (arith, is, first)) (omega (arith, is, last))) (shl-shr block (drill_bits n))

  fine-before : (block : ℕ) → block < 2 ^ (k - drill_bits n) → is_needed (drill_header n) (drill_ask n (suc k)) block ≡ false
  fine-before block before = needs-not n (suc k) block (λ p is in_block.
      let from : 2 ^ (k - drill_bits n) ≤ hz_address (drill_mask n) p / 2 ^ drill_bits n =
      le-div (2 ^ (k - drill_bits n)) (hz_address (drill_mask n) p) (2 ^ drill_bits n) (pow_pos (drill_bits n)) (omega (arith, in-blocks, (range-of (drill_mask n) p k is).0)) in
      omega (arith, from, in_block, before))

  fine-past : (block : ℕ) → 2 ^ (k - drill_bits n) + 2 ^ (k - drill_bits n) ≤ block → is_needed (drill_header n) (drill_ask n (suc k)) block ≡ false
  fine-past block past = needs-not n (suc k) block (λ p is in_block.
      let to : hz_address (drill_mask n) p / 2 ^ drill_bits n < 2 ^ (k - drill_bits n) + 2 ^ (k - drill_bits n) =
      div_below (hz_address (drill_mask n) p) (2 ^ drill_bits n) (2 ^ (k - drill_bits n) + 2 ^ (k - drill_bits n)) (pow_pos (drill_bits n)) (omega (arith, in-blocks, (range-of (drill_mask n) p k is).1)) in
      omega (arith, to, in_block, past))

-- ---- all blocks of a level

-- numbers that all pass the test are kept
filter-whole : (test : ℕ → Bool) (a m : ℕ) → ((k : ℕ) → a ≤ k → k < a + m → test k ≡ true) → filter test (range_with_len a m) ≡ range_with_len a m
filter-whole test a zero all = refl
filter-whole test a (suc m) all =
    ap (λ b. cond b (a ∷ filter test (range_with_len (a + 1) m)) (filter test (range_with_len (a + 1) m))) (all a (omega arith) (omega arith))
    ∙ ap (λ t. a ∷ t) (filter-whole test (a + 1) m (λ k from to. all k (omega arith) (omega arith)))

-- of a range the numbers of its part that alone pass the test
filter-middle : (test : ℕ → Bool) (a m end : ℕ) → a + m ≤ end → ((k : ℕ) → k < a → test k ≡ false) → ((k : ℕ) → a ≤ k → k < a + m → test k ≡ true) → ((k : ℕ) → a + m ≤ k → test k ≡ false) → filter test (range_with_len 0 end) ≡ range_with_len a m
filter-middle test a m end within before here past =
    let cut : end ≡ a + (end - a) = omega arith in
    let start : 0 + a ≡ a = omega arith in
    ap (λ k. filter test (range_with_len 0 k)) cut
    ∙ ap (filter test) (range-split 0 a (end - a))
    ∙ filter-append test (range_with_len 0 a) (range_with_len (0 + a) (end - a))
    ∙ ap (λ t. t ++ filter test (range_with_len (0 + a) (end - a))) (count-none test 0 a (λ k from to. before k (omega arith)))
    ∙ ap (λ s. filter test (range_with_len s (end - a))) start
    ∙ sym (filter-end test a m (end - a) (omega arith) (λ k from to. past k from))
    ∙ filter-whole test a m here

needed-coarse : (n l : ℕ) → l ≤ drill_bits n → needed (drill_header n) (drill_ask n l) ≡ 0 ∷ []
needed-coarse n l coarse =
    filter-middle (is_needed (drill_header n) (drill_ask n l)) 0 1 (block_count (drill_header n)) (pow_pos (length (drill_mask n) - drill_bits n))
    (λ k before. absurd (omega arith))
    (λ k from to. let zero_is : 0 ≡ k = omega arith in subst (λ b. is_needed (drill_header n) (drill_ask n l) b ≡ true) zero_is (coarse-first n l coarse))
    (λ k past. coarse-others n l k coarse (omega arith))

needed-fine : (n k : ℕ) → drill_bits n ≤ k → suc k ≤ drill_depth n → needed (drill_header n) (drill_ask n (suc k)) ≡ range_with_len (2 ^ (k - drill_bits n)) (2 ^ (k - drill_bits n))
needed-fine n k fine deepest =
    let digits : suc k ≤ length (drill_mask n) = omega (arith, length-mask n) in
    let behind : suc (k - drill_bits n) ≤ length (drill_mask n) - drill_bits n = omega (arith, digits) in
    let double : 2 ^ suc (k - drill_bits n) ≡ 2 ^ (k - drill_bits n) * 2 = pow-suc 2 (k - drill_bits n) in
    let within : 2 ^ suc (k - drill_bits n) ≤ block_count (drill_header n) = pow_mono behind in
    filter-middle (is_needed (drill_header n) (drill_ask n (suc k))) (2 ^ (k - drill_bits n)) (2 ^ (k - drill_bits n)) (block_count (drill_header n)) (omega (arith, double, within))
    (fine-before n k fine)
    (λ block from to. fine-needs n k fine block digits from to)
    (fine-past n k fine)

-- a level needs these blocks
pub needed-is : (n l : ℕ) → l ≤ drill_depth n → needed (drill_header n) (drill_ask n l) ≡ blocks_at n l
needed-is n l deepest = ⊎_elim
    (λ (fine : drill_bits n < l). by_fine l fine deepest)
    (λ (coarse : l ≤ drill_bits n). needed-coarse n l coarse ∙ sym (cond-true (leb l (drill_bits n)) (0 ∷ []) (range_with_len (blocks_below n l) (blocks_below n l)) (le-leb l (drill_bits n) coarse)))
    (cases_lt (drill_bits n) l)
  where
    by_fine : (l : ℕ) → drill_bits n < l → l ≤ drill_depth n → needed (drill_header n) (drill_ask n l) ≡ blocks_at n l
    by_fine zero fine deepest = absurd (omega arith)
    by_fine (suc k) fine deepest =
        needed-fine n k (omega arith) deepest
        ∙ sym (cond-false (leb (suc k) (drill_bits n)) (0 ∷ []) (range_with_len (2 ^ (k - drill_bits n)) (2 ^ (k - drill_bits n))) (lt-leb (suc k) (drill_bits n) fine))
