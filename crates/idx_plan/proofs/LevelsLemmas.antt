-- The keys of the blocks from 1 on, level after level.
use Rattle.std.proofs.Common.{◌≡◌, ℕ, suc, ◌+◌, ◌-◌, ◌*◌, ◌^◌, ◌<◌, ◌≤◌, Bool, List, [], ◌++◌, length, get_or, map, filter, refl, sym, ap, ◌∙◌, subst, append_assoc, arith}
use Rattle.std.specs.Prelude.{Option}
use Rattle.std.specs.List.{range_with_len}
use Rattle.std.proofs.Math.Nat.{pow-suc}
use Rattle.std.proofs.Math.Pow.{pow_mono}
use Rattle.std.proofs.lemmas.List.{map-append}
use Rattle.std.proofs.lemmas.List.Elements.{filter-append}
use Rattle.idx_geom.specs.Region.{upper_ends}
use Rattle.idx_hz.specs.Mask.{HasAddress, IsMask}
use Rattle.idx_hz.proofs.LevelLemmas.{stride_of_digit}
use Rattle.idx_hz.proofs.RegionLemmas.{HasAddress-from_end}
use Rattle.idx_hall.specs.declared.key.Key.{Key}
use Rattle.idx_header.specs.Header.{HeaderValue, IsHeader, block_count}
use Rattle.idx_layout.specs.Placing.{has_point_in}
use Rattle.idx_layout.proofs.ListLemmas.{range-split}
use Rattle.idx_plan.specs.declared.ask.Ask.{Ask}
use Rattle.idx_plan.specs.declared.branch.Branch.{Branch}
use Rattle.idx_plan.specs.declared.part.Part.{Part}
use Rattle.idx_plan.specs.Answerable.{IsAnswerable}
use Rattle.idx_plan.specs.Branches.{IsBranch, branch_keys, level_of}
use Rattle.idx_plan.specs.Needed.{is_needed, key_of}
use Rattle.idx_plan.specs.Parts.{AreCounts, IsPartOf}
use Rattle.idx_plan.proofs.NeededLemmas.{needed-later}

-- the keys of the blocks, from the first that is asked for on and before those of a level, that have a point of the region
abbrev pub keys_before : List ℕ → Ask → ℕ → ℕ → List Key
keys_before mask ask bits level =
    map (key_of ask) (filter (has_point_in mask ask.region bits)
    (range_with_len (2 ^ (ask.lo - 1 - bits)) (2 ^ (level - 1 - bits) - 2 ^ (ask.lo - 1 - bits))))

-- there are none before the first level
pub none_before : (mask : List ℕ) (ask : Ask) (bits level : ℕ) → level - 1 - bits ≡ ask.lo - 1 - bits → keys_before mask ask bits level ≡ []
none_before mask ask bits level is =
    let first : ℕ = 2 ^ (ask.lo - 1 - bits) in
    let empty : 2 ^ (level - 1 - bits) - first ≡ 0 = omega (arith, ap (λ n. 2 ^ n) is) in
    ap (λ n. map (key_of ask) (filter (has_point_in mask ask.region bits) (range_with_len first n))) empty

-- a level more
pub level_more : (mask : List ℕ) (ask : Ask) (bits level : ℕ) (b : Branch) → b ≡ record { bits = bits; digits = 0; height = level - 1 - bits; number = 1 } → bits < level → ask.lo ≤ level →
    keys_before mask ask bits level ++ branch_keys mask ask b ≡ keys_before mask ask bits (level + 1)
level_more mask ask bits level b is later from =
    let first : ℕ = 2 ^ (ask.lo - 1 - bits) in
    let h : ℕ = level - 1 - bits in
    let test : ℕ → Bool = has_point_in mask ask.region bits in
    let le : ask.lo - 1 - bits ≤ h = omega arith in
    let rising : first ≤ 2 ^ h = pow_mono le in
    let next : level + 1 - 1 - bits ≡ suc h = omega arith in
    let double : 2 ^ (level + 1 - 1 - bits) ≡ 2 ^ h * 2 = ap (λ n. 2 ^ n) next ∙ pow-suc 2 h in
    let whole : 2 ^ (level + 1 - 1 - bits) - first ≡ 2 ^ h - first + 2 ^ h = omega (arith, double, rising) in
    let start : first + (2 ^ h - first) ≡ 1 * 2 ^ h = omega (arith, rising) in
    ap (λ xs. keys_before mask ask bits level ++ xs) (ap (branch_keys mask ask) is)
    ∙ sym (map-append (key_of ask) (filter test (range_with_len first (2 ^ h - first))) (filter test (range_with_len (1 * 2 ^ h) (2 ^ h))))
    ∙ ap (map (key_of ask))
    (ap (λ a. filter test (range_with_len first (2 ^ h - first)) ++ filter test (range_with_len a (2 ^ h))) (sym start)
    ∙ sym (filter-append test (range_with_len first (2 ^ h - first)) (range_with_len (first + (2 ^ h - first)) (2 ^ h)))
    ∙ ap (filter test) (sym (range-split first (2 ^ h - first) (2 ^ h)) ∙ ap (range_with_len first) (sym whole)))

pub keys_more : (mask : List ℕ) (ask : Ask) (bits level : ℕ) (b : Branch) (old keys new : List Key) → b ≡ record { bits = bits; digits = 0; height = level - 1 - bits; number = 1 } → bits < level → ask.lo ≤ level →
    keys ≡ old ++ keys_before mask ask bits level → new ≡ keys ++ branch_keys mask ask b → new ≡ old ++ keys_before mask ask bits (level + 1)
keys_more mask ask bits level b old keys new is later from before more =
    more ∙ ap (λ xs. xs ++ branch_keys mask ask b) before ∙ append_assoc old (keys_before mask ask bits level) (branch_keys mask ask b)
    ∙ ap (λ xs. old ++ xs) (level_more mask ask bits level b is later from)

-- all of them are the blocks that the question needs
pub all_levels_before : (h : HeaderValue) (ask : Ask) (mask : List ℕ) (bits level : ℕ) → mask ≡ h.mask → bits ≡ h.block_bits → ask.lo ≤ ask.hi → ask.hi ≤ length h.mask → level - 1 - bits ≡ ask.hi - bits →
    keys_before mask ask bits level ≡ map (key_of ask) (filter (is_needed h ask) (range_with_len 1 (block_count h - 1)))
all_levels_before h ask mask bits level m b ordered deepest is =
    ap (λ n. map (key_of ask) (filter (has_point_in mask ask.region bits) (range_with_len (2 ^ (ask.lo - 1 - bits)) (2 ^ n - 2 ^ (ask.lo - 1 - bits))))) is
    ∙ (λ i. map (key_of ask) (filter (has_point_in (m i) ask.region (b i)) (range_with_len (2 ^ (ask.lo - 1 - b i)) (2 ^ (ask.hi - b i) - 2 ^ (ask.lo - 1 - b i)))))
    ∙ ap (map (key_of ask)) (needed-later h ask ordered deepest)

-- where no level is finer than those of block 0 there are none
pub no_later : (h : HeaderValue) (ask : Ask) (bits : ℕ) → bits ≡ h.block_bits → IsAnswerable h ask → ask.hi ≤ bits → map (key_of ask) (filter (is_needed h ask) (range_with_len 1 (block_count h - 1))) ≡ []
no_later h ask bits b is coarse =
    let ordered : ask.lo ≤ ask.hi = is.ordered in
    let none : bits + 1 - 1 - bits ≡ ask.lo - 1 - bits = omega arith in
    sym (all_levels_before h ask h.mask bits (bits + 1) refl b is.ordered is.deepest (omega arith)) ∙ none_before h.mask ask bits (bits + 1) none

-- ---- the branch of a level

pub branch_of_level : (mask : List ℕ) (region : List (ℕ × ℕ)) (bits level : ℕ) (b : Branch) (part : Option Part) → b ≡ record { bits = bits; digits = 0; height = level - 1 - bits; number = 1 } → bits < level → level ≤ length mask →
    IsPartOf mask region level 0 1 part → IsBranch mask b × IsPartOf mask region (level_of b) b.digits b.number part
branch_of_level mask region bits level b part is later within root =
    let top : Branch = record { bits = bits; digits = 0; height = level - 1 - bits; number = 1 } in
    let same : level ≡ level_of top = omega arith in
    let branch : IsBranch mask top = record { from = omega arith; to = omega arith; within = omega arith } in
    subst (λ (x : Branch). IsBranch mask x × IsPartOf mask region (level_of x) x.digits x.number part) (sym is)
    (branch, subst (λ (n : ℕ). IsPartOf mask region n 0 1 part) same root)

-- each point of the region has an address
pub region_address : (h : HeaderValue) (ask : Ask) (mask : List ℕ) → mask ≡ h.mask → IsHeader h → IsAnswerable h ask → IsMask mask × HasAddress mask (upper_ends ask.region)
region_address h ask mask is valid answerable =
    subst (λ (m : List ℕ). IsMask m × HasAddress m (upper_ends ask.region)) (sym is)
    (valid.mask, HasAddress-from_end h.mask h.box (upper_ends ask.region) valid.covered answerable.upper)

-- a level's own digit is one of those that are counted
pub counted_digit : (mask counts : List ℕ) (level axis : ℕ) → 1 ≤ level → level ≤ length mask → axis ≡ get_or mask (level - 1) 0 → axis < 5 → AreCounts mask (level - 1) counts → 1 ≤ get_or counts axis 0
counted_digit mask counts level axis some deepest names small counted =
    omega (arith, counted.each axis small, stride_of_digit mask (level - 1) axis (omega arith) (sym names))
