-- A question of a drill has one round, and the new blocks of all levels are all blocks.
use Rattle.std.proofs.Common.{◌≡◌, ℕ, zero, suc, ◌+◌, ◌-◌, ◌*◌, ◌/◌, ◌^◌, ◌<◌, ◌≤◌, leb, List, [], ◌∷◌, length, map, take, drop, refl, sym, ap, ◌∙◌, ⊎_elim, arith}
use Rattle.std.specs.List.{range_with_len, sum_by}
use Rattle.std.proofs.Math.Nat.{le-max_right, pow-suc}
use Rattle.std.proofs.Math.Pow.{pow_mono}
use Rattle.std.proofs.lemmas.Bool.{cases_lt, cond-false, cond-true, le-leb, lt-leb}
use Rattle.std.proofs.lemmas.List.{length-map, take_all}
use Rattle.std.proofs.lemmas.List.FromFn.{length-range_with_len}
use Rattle.std.proofs.lemmas.Nat.{div_below, le-div, pow_pos}
use Rattle.idx_hall.specs.declared.key.Key.{Key}
use Rattle.idx_header.specs.Header.{block_bytes, block_count}
use Rattle.idx_layout.proofs.HeaderLemmas.{sum-more}
use Rattle.idx_plan.specs.Needed.{needed_keys}
use Rattle.idx_plan.specs.Rounds.{cut_at, cut_count, cut_into, rounds, width_for}
use Rattle.idx_core_model.specs.Layers.{setting_of}
use Rattle.idx_drill_model.specs.Drill.{drill_ask, drill_bits, drill_depth, drill_header}
use Rattle.idx_drill_model.specs.Blocks.{blocks_at, blocks_below, drill_key, new_blocks}
use Rattle.idx_drill_model.proofs.BoxLemmas.{length-mask}
use Rattle.idx_drill_model.proofs.NeededLemmas.{needed-is}

-- ---- how many blocks a level needs

length-fine : (n l : ℕ) → drill_bits n < l → length (blocks_at n l) ≡ blocks_below n l
length-fine n l fine =
    ap length (cond-false (leb l (drill_bits n)) (0 ∷ []) (range_with_len (blocks_below n l) (blocks_below n l)) (lt-leb l (drill_bits n) fine))
    ∙ length-range_with_len (blocks_below n l) (blocks_below n l)

length-coarse : (n l : ℕ) → l ≤ drill_bits n → length (blocks_at n l) ≡ 1
length-coarse n l coarse = ap length (cond-true (leb l (drill_bits n)) (0 ∷ []) (range_with_len (blocks_below n l) (blocks_below n l)) (le-leb l (drill_bits n) coarse))

few-below : (n l : ℕ) → n ≤ 8 → l ≤ drill_depth n → blocks_below n l ≤ 4096
few-below n zero small deepest = omega arith
few-below n (suc l) small deepest =
    let exponent : l - drill_bits n ≤ 12 = omega arith in
    let power : 2 ^ (l - drill_bits n) ≤ 2 ^ 12 = pow_mono exponent in
    omega (arith, power)

pub few-blocks : (n l : ℕ) → n ≤ 8 → l ≤ drill_depth n → length (blocks_at n l) ≤ 4096
few-blocks n l small deepest = ⊎_elim
    (λ (fine : drill_bits n < l). omega (arith, length-fine n l fine, few-below n l small deepest))
    (λ (coarse : l ≤ drill_bits n). omega (arith, length-coarse n l coarse))
    (cases_lt (drill_bits n) l)

-- ---- one round

one-cut : (width many : ℕ) → 1 ≤ width → many ≤ width → cut_count width many ≡ 1
one-cut width many some few =
    let below : (many + (width - 1)) / width < 2 = div_below (many + (width - 1)) width 2 some (omega arith) in
    omega (arith, below)

cut-once : (width : ℕ) (keys : List Key) → 1 ≤ width → length keys ≤ width → cut_into width keys ≡ keys ∷ []
cut-once width keys some few =
    let none : 0 * width ≡ 0 = omega arith in
    ap (λ many. map (cut_at width keys) (range_with_len 0 many)) (one-cut width (length keys) some few)
    ∙ ap (λ (k : ℕ). take width (drop k keys) ∷ []) none
    ∙ ap (λ (ks : List Key). ks ∷ []) (take_all width keys few)

wide : (n : ℕ) → 4096 ≤ width_for (drill_header n) 0
wide n =
    let few : drill_bits n ≤ 12 = omega arith in
    let most : 2 ^ drill_bits n ≤ 2 ^ 12 = pow_mono few in
    let some : 0 < block_bytes (drill_header n) 0 = omega (arith, pow_pos (drill_bits n)) in
    let fits : 4096 * block_bytes (drill_header n) 0 ≤ 2 ^ 26 = omega (arith, most) in
    let part : 4096 ≤ 2 ^ 26 / block_bytes (drill_header n) 0 = le-div 4096 (2 ^ 26) (block_bytes (drill_header n) 0) some fits in
    omega (arith, part, le-max_right 1 (2 ^ 26 / block_bytes (drill_header n) 0))

pub keys-are : (n l : ℕ) → l ≤ drill_depth n → needed_keys (drill_header n) (drill_ask n l) ≡ map drill_key (blocks_at n l)
keys-are n l deepest = ap (map drill_key) (needed-is n l deepest)

pub one-round : (n l : ℕ) → n ≤ 8 → l ≤ drill_depth n → rounds (drill_header n) (drill_ask n l) ≡ map drill_key (blocks_at n l) ∷ []
one-round n l small deepest =
    let few : length (map drill_key (blocks_at n l)) ≤ width_for (drill_header n) 0 =
    omega (arith, length-map (blocks_at n l) drill_key, few-blocks n l small deepest, wide n) in
    ap (cut_into (width_for (drill_header n) 0)) (keys-are n l deepest)
    ∙ cut-once (width_for (drill_header n) 0) (map drill_key (blocks_at n l)) (omega (arith, wide n)) few

same-blocks : (blocks : List ℕ) → map (λ (key : Key). key.block) (map drill_key blocks) ≡ blocks
same-blocks [] = refl
same-blocks (block ∷ blocks) = ap (λ bs. block ∷ bs) (same-blocks blocks)

-- the same, by the numbers of the blocks
pub round-blocks : (n l : ℕ) → n ≤ 8 → l ≤ drill_depth n → map (λ (keys : List Key). map (λ (key : Key). key.block) keys) (rounds (drill_header n) (drill_ask n l)) ≡ blocks_at n l ∷ []
round-blocks n l small deepest =
    ap (map (λ (keys : List Key). map (λ (key : Key). key.block) keys)) (one-round n l small deepest)
    ∙ ap (λ (bs : List ℕ). bs ∷ []) (same-blocks (blocks_at n l))

-- and as the events of a dataset look for them
pub setting-rounds : (n l e ranks : ℕ) → n ≤ 8 → l ≤ drill_depth n → (setting_of (drill_header n) e ranks).rounds (drill_ask n l) ≡ blocks_at n l ∷ []
unfolding setting_of
setting-rounds n l e ranks small deepest = round-blocks n l small deepest

-- ---- the new blocks of all levels

pub new-coarse : (n l : ℕ) → suc l ≤ drill_bits n → new_blocks n (suc l) ≡ []
new-coarse n l coarse = cond-true (leb (suc l) (drill_bits n)) [] (range_with_len (2 ^ (l - drill_bits n)) (2 ^ (l - drill_bits n))) (le-leb (suc l) (drill_bits n) coarse)

pub new-fine : (n l : ℕ) → drill_bits n < suc l → new_blocks n (suc l) ≡ range_with_len (2 ^ (l - drill_bits n)) (2 ^ (l - drill_bits n))
new-fine n l fine = cond-false (leb (suc l) (drill_bits n)) [] (range_with_len (2 ^ (l - drill_bits n)) (2 ^ (l - drill_bits n))) (lt-leb (suc l) (drill_bits n) fine)

-- the new blocks of a level come behind those of the levels below it
pub more-below : (n l : ℕ) → blocks_below n l + length (new_blocks n l) ≡ blocks_below n (l + 1)
more-below n zero = let none : 0 - drill_bits n ≡ 0 = omega arith in ap (λ k. 2 ^ k) (sym none)
more-below n (suc l) = ⊎_elim
    (λ (fine : drill_bits n < suc l).
    let count : length (new_blocks n (suc l)) ≡ 2 ^ (l - drill_bits n) = ap length (new-fine n l fine) ∙ length-range_with_len (2 ^ (l - drill_bits n)) (2 ^ (l - drill_bits n)) in
    let next : suc l - drill_bits n ≡ suc (l - drill_bits n) = omega arith in
    let double : 2 ^ (suc l - drill_bits n) ≡ 2 ^ (l - drill_bits n) * 2 = ap (λ k. 2 ^ k) next ∙ pow-suc 2 (l - drill_bits n) in
    above (omega (arith, count, double)))
    (λ (coarse : suc l ≤ drill_bits n).
    let count : length (new_blocks n (suc l)) ≡ 0 = ap length (new-coarse n l coarse) in
    let same : l - drill_bits n ≡ suc l - drill_bits n = omega arith in
    above (omega (arith, count, ap (λ k. 2 ^ k) same)))
    (cases_lt (drill_bits n) (suc l))
  where
    above : blocks_below n (suc l) + length (new_blocks n (suc l)) ≡ 2 ^ (suc l - drill_bits n) → blocks_below n (suc l) + length (new_blocks n (suc l)) ≡ blocks_below n (suc l + 1)
    above is = let next : suc (suc l) ≡ suc l + 1 = omega arith in is ∙ ap (blocks_below n) next

pub sum-below : (n l : ℕ) → sum_by (λ k. length (new_blocks n k)) (range_with_len 0 l) ≡ blocks_below n l
sum-below n zero = refl
sum-below n (suc l) =
    let next : suc l ≡ l + 1 = omega arith in
    ap (λ k. sum_by (λ k. length (new_blocks n k)) (range_with_len 0 k)) next
    ∙ sum-more (λ k. length (new_blocks n k)) l
    ∙ ap (λ s. s + length (new_blocks n l)) (sum-below n l)
    ∙ more-below n l
    ∙ ap (blocks_below n) (sym next)

pub sum-all : (n : ℕ) → sum_by (λ k. length (new_blocks n k)) (range_with_len 0 (drill_depth n + 1)) ≡ block_count (drill_header n)
sum-all n =
    let next : drill_depth n + 1 ≡ suc (drill_depth n) = omega arith in
    sum-below n (drill_depth n + 1) ∙ ap (blocks_below n) next ∙ ap (λ m. 2 ^ (m - drill_bits n)) (sym (length-mask n))

pub count-is : (n : ℕ) → block_count (drill_header n) ≡ 2 ^ (drill_depth n - drill_bits n)
count-is n = ap (λ m. 2 ^ (m - drill_bits n)) (length-mask n)
