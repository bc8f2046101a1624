-- The blocks that a question needs: block 0 by a count of coarse points, and of the others those of its levels that have a
-- point of the region.
use Rattle.std.proofs.Common.{◌≡◌, ℕ, suc, ◌-◌, ◌/◌, ◌^◌, ◌<◌, ◌≤◌, false, ◌&&◌, eqb, leb, [], ◌∷◌, ◌++◌, length, map, filter, sym, ap, ◌∙◌, arith}
use Rattle.std.specs.Prelude.{min, nat_lt}
use Rattle.std.specs.List.{range_with_len}
use Rattle.std.proofs.Math.Pow.{pow_mono}
use Rattle.std.proofs.lemmas.Bool.Decides.{nat_tests}
use Rattle.std.proofs.lemmas.List.{map-append}
use Rattle.std.proofs.lemmas.List.Elements.{filter-append}
use Rattle.std.proofs.lemmas.Nat.{pow_pos}
use Rattle.idx_geom.specs.Region.{points}
use Rattle.idx_hz.specs.Address.{level, hz_address}
use Rattle.idx_hz.specs.Answer.{has_level}
use Rattle.idx_header.specs.Header.{HeaderValue, block_count}
use Rattle.idx_layout.specs.Placing.{has_point_in}
use Rattle.idx_layout.proofs.ListLemmas.{counted}
use Rattle.idx_plan.specs.declared.ask.Ask.{Ask}
use Rattle.idx_plan.specs.Needed.{is_needed, needed, needed_keys, key_of}
use Rattle.idx_plan.proofs.ListLemmas.{list_any-agree, list_any-and, list_any-none, filter-range-agree, filter-part}
use Rattle.idx_plan.proofs.BlockLemmas.{is_between, test_in_block, test_in_first_block}

-- ---- block 0

-- a level that is at most `bits` too
coarse_levels : (lo hi bits n : ℕ) → (leb lo n && leb n hi && leb n bits) ≡ (leb lo n && leb n (min hi bits))
coarse_levels lo hi bits n = grind (arith, nat_tests)

-- it is needed where some point has one of the levels that are at most `bits`
pub is_needed-first : (h : HeaderValue) (ask : Ask) (lo hi : ℕ) → lo ≡ ask.lo → hi ≡ min ask.hi h.block_bits → nat_lt 0 (length (filter (has_level h.mask lo hi) (points ask.region))) ≡ is_needed h ask 0
is_needed-first h ask lo hi low high =
    counted (has_level h.mask lo hi) (points ask.region)
    ∙ sym (list_any-agree (λ p. has_level h.mask ask.lo ask.hi p && eqb (hz_address h.mask p / 2 ^ h.block_bits) 0) (has_level h.mask lo hi)
    (λ p. test_in_first_block h.mask p h.block_bits ask.lo ask.hi
    ∙ coarse_levels ask.lo ask.hi h.block_bits (level h.mask p)
    ∙ (λ i. leb (sym low i) (level h.mask p) && leb (level h.mask p) (sym high i))) (points ask.region))

-- and not where all levels are finer
pub is_needed-finer : (h : HeaderValue) (ask : Ask) → h.block_bits < ask.lo → is_needed h ask 0 ≡ false
is_needed-finer h ask finer = list_any-none _
    (λ p. test_in_first_block h.mask p h.block_bits ask.lo ask.hi ∙ none (level h.mask p)) (points ask.region)
  where
    none : (n : ℕ) → (leb ask.lo n && leb n ask.hi && leb n h.block_bits) ≡ false
    none n = grind (arith, nat_tests)

-- ---- the other blocks

-- they are needed where they are of its levels and have a point of the region
is_needed-later : (h : HeaderValue) (ask : Ask) (block : ℕ) → 1 ≤ block → is_needed h ask block ≡ (is_between h.block_bits ask.lo ask.hi block && has_point_in h.mask ask.region h.block_bits block)
is_needed-later h ask block later =
    list_any-agree _ (λ p. is_between h.block_bits ask.lo ask.hi block && eqb (hz_address h.mask p / 2 ^ h.block_bits) block)
    (λ p. test_in_block h.mask p h.block_bits ask.lo ask.hi block later) (points ask.region)
    ∙ list_any-and (is_between h.block_bits ask.lo ask.hi block) (λ p. eqb (hz_address h.mask p / 2 ^ h.block_bits) block) (points ask.region)

pub needed-later : (h : HeaderValue) (ask : Ask) → ask.lo ≤ ask.hi → ask.hi ≤ length h.mask → filter (has_point_in h.mask ask.region h.block_bits) (range_with_len (2 ^ (ask.lo - 1 - h.block_bits)) (2 ^ (ask.hi - h.block_bits) - 2 ^ (ask.lo - 1 - h.block_bits))) ≡ filter (is_needed h ask) (range_with_len 1 (block_count h - 1))
needed-later h ask ordered deepest =
    let first : ℕ = 2 ^ (ask.lo - 1 - h.block_bits) in
    let end : ℕ = 2 ^ (ask.hi - h.block_bits) in
    let some : 1 ≤ first = pow_pos (ask.lo - 1 - h.block_bits) in
    let rising : first ≤ end = pow_mono (omega arith) in
    let within : end ≤ block_count h = pow_mono (omega arith) in
    sym (filter-range-agree (is_needed h ask) (λ k. is_between h.block_bits ask.lo ask.hi k && has_point_in h.mask ask.region h.block_bits k) 1 (block_count h - 1)
    (λ k from to. is_needed-later h ask k from)
    ∙ filter-part (has_point_in h.mask ask.region h.block_bits) 1 (block_count h - 1) first end some rising (omega (arith, within, some, rising)))

-- ---- all blocks

pub needed-split : (h : HeaderValue) (ask : Ask) → filter (is_needed h ask) (0 ∷ []) ++ filter (is_needed h ask) (range_with_len 1 (block_count h - 1)) ≡ needed h ask
needed-split h ask =
    let some : 0 < block_count h = pow_pos (length h.mask - h.block_bits) in
    let next : suc (block_count h - 1) ≡ block_count h = omega arith in
    sym (filter-append (is_needed h ask) (0 ∷ []) (range_with_len 1 (block_count h - 1)))
    ∙ ap (λ n. filter (is_needed h ask) (range_with_len 0 n)) next

pub needed_keys-split : (h : HeaderValue) (ask : Ask) → map (key_of ask) (filter (is_needed h ask) (0 ∷ [])) ++ map (key_of ask) (filter (is_needed h ask) (range_with_len 1 (block_count h - 1))) ≡ needed_keys h ask
needed_keys-split h ask =
    sym (map-append (key_of ask) (filter (is_needed h ask) (0 ∷ [])) (filter (is_needed h ask) (range_with_len 1 (block_count h - 1))))
    ∙ ap (map (key_of ask)) (needed-split h ask)
