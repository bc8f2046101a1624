-- The blocks of a branch by the part of its points that a region has.
use Rattle.std.proofs.Common.{◌≡◌, ◌≢◌, ℕ, suc, ◌+◌, ◌-◌, ◌*◌, ◌/◌, ◌^◌, ◌<◌, ◌≤◌, Bool, true, false, cond, List, [], ◌∷◌, ◌++◌, length, get_or, map, filter, refl, sym, ap, ◌∙◌, subst, append_assoc, append-nil, None, arith, eq-eqb, eqb-true}
use Rattle.std.specs.List.{range_with_len}
use Rattle.std.specs.Prelude.{Option}
use Rattle.std.proofs.Math.Nat.{pow-suc}
use Rattle.std.proofs.Math.Pow.{pow_mono}
use Rattle.std.proofs.lemmas.Nat.{div-mul-add, pow-add}
use Rattle.std.proofs.lemmas.List.{ext_get_or, length-map, map-append}
use Rattle.std.proofs.lemmas.List.Elements.{filter-append}
use Rattle.std.proofs.lemmas.List.FromFn.{get_or-map-range_with_len, length-map-range_with_len}
use Rattle.idx_geom.specs.Region.{LiesIn, upper_ends}
use Rattle.idx_geom.proofs.LiesInLemmas.{length_from_LiesIn}
use Rattle.idx_hz.specs.Mask.{HasAddress, NamesAxes}
use Rattle.idx_hz.specs.Address.{hz_address, level, z_address}
use Rattle.idx_hz.specs.Stride.{stride}
use Rattle.idx_hz.proofs.BlockLemmas.{block-at_level, level_at-from_block}
use Rattle.idx_hz.proofs.RegionLemmas.{HasAddress-from_end}
use Rattle.idx_hz.proofs.ZLemmas.{z_address-lt}
use Rattle.idx_hall.specs.declared.key.Key.{Key}
use Rattle.idx_grid.specs.Grid.{IsOnAxis}
use Rattle.idx_grid.specs.LevelGrid.{first_of, first_on, strides}
use Rattle.idx_grid.proofs.LevelGridLemmas.{IsOnAxes-at_axis, IsOnAxes-from_axes, get_or-first_of, get_or-strides, length-first_of, length-strides, on_grid_at_iff}
use Rattle.idx_layout.specs.Placing.{has_point_in}
use Rattle.idx_layout.proofs.ListLemmas.{count-none, range-split}
use Rattle.idx_layout.proofs.PresentLemmas.{any_point, point_found}
use Rattle.idx_layout.proofs.RunLemmas.{run_absent}
use Rattle.idx_plan.specs.declared.ask.Ask.{Ask}
use Rattle.idx_plan.specs.declared.branch.Branch.{Branch}
use Rattle.idx_plan.specs.declared.part.Part.{Part}
use Rattle.idx_plan.specs.Branches.{IsBranch, branch_keys, level_of}
use Rattle.idx_plan.specs.Needed.{key_of}
use Rattle.idx_plan.specs.Parts.{AreIn, Begins, IsPart, IsPartOf, coordinate_on, point_on}
use Rattle.idx_plan.proofs.NumberLemmas.{first_below, get_or-point_on, length-point_on}
use Rattle.idx_plan.proofs.PartLemmas.{IsStep}

-- ---- the points of a level

-- a point with numbers that the region has is of the level
pub level-point_on : (mask : List ℕ) (region : List (ℕ × ℕ)) (h : ℕ) (ns : List ℕ) → HasAddress mask (upper_ends region) → h ≤ length mask → length ns ≡ length region → LiesIn region (point_on mask h ns) → level mask (point_on mask h ns) ≡ h
level-point_on mask region h ns address deepest size inside =
    let p : List ℕ = point_on mask h ns in
    let axes : length p ≡ length ns = length-point_on mask h ns in
    let has : HasAddress mask p = HasAddress-from_end mask region p address inside in
    (on_grid_at_iff mask p (first_of mask h (length p)) (strides mask (h - 1) (length p)) h has.named deepest refl refl).1
    (IsOnAxes-from_axes (first_of mask h (length p)) (strides mask (h - 1) (length p)) p (length-first_of mask h (length p)) (length-strides mask (h - 1) (length p))
    (λ a within.
    let there : a < length ns = omega (arith, within, axes) in
    (get_or ns a 0, get_or-point_on mask h ns a there ∙ (λ i. sym (get_or-first_of mask h (length p) a within) i + get_or ns a 0 * sym (get_or-strides mask (h - 1) (length p) a within) i))))

-- each point of the level has numbers
pub point_on-numbers_of : (mask : List ℕ) (h : ℕ) (p : List ℕ) → HasAddress mask p → 1 ≤ h → h ≤ length mask → level mask p ≡ h →
    (ns : List ℕ) × (length ns ≡ length p) × (point_on mask h ns ≡ p)
point_on-numbers_of mask h p has some deepest is =
    let f : ℕ → ℕ = λ a. get_or p a 0 / stride mask (h - 1) a in
    let ns : List ℕ = map f (range_with_len 0 (length p)) in
    let size : length ns ≡ length p = length-map-range_with_len f 0 (length p) in
    let on = (on_grid_at_iff mask p (first_of mask h (length p)) (strides mask (h - 1) (length p)) h has.named deepest refl refl).0 is in (
      ns,
      size,
      ext_get_or 0 (point_on mask h ns) p (length-point_on mask h ns ∙ size)
          (λ a within.
          let there : a < length ns = omega (arith, within, length-point_on mask h ns) in
          let axis : a < length p = omega (arith, there, size) in
          let here : IsOnAxis (get_or (first_of mask h (length p)) a 0) (get_or (strides mask (h - 1) (length p)) a 0) (get_or p a 0) = IsOnAxes-at_axis (first_of mask h (length p)) (strides mask (h - 1) (length p)) p on a axis in
          get_or-point_on mask h ns a there ∙ ap (coordinate_on mask h a) (get_or-map-range_with_len f 0 (length p) a a 0 axis (omega arith))
          ∙ whole (first_on mask h a) (stride mask (h - 1) a) (get_or p a 0) here.0 (first_below mask h a some deepest)
          (here.1 ∙ (λ i. get_or-first_of mask h (length p) a axis i + here.0 * get_or-strides mask (h - 1) (length p) a axis i))),
    )
  where
    whole : (first step x k : ℕ) → first < step → x ≡ first + k * step → first + x / step * step ≡ x
    whole first step x k small at =
        let turn : x ≡ k * step + first = omega (arith, at) in
        let quotient : x / step ≡ k = ap (λ n. n / step) turn ∙ div-mul-add k step first small in
        ap (λ n. first + n * step) quotient ∙ sym at

-- ---- branches

-- the level of a branch's blocks, by the digits behind
pub at_level : (mask p : List ℕ) (b : Branch) → level mask p ≡ level_of b → hz_address mask p / 2 ^ (b.bits + b.height) ≡ 2 ^ b.digits + z_address mask p / 2 ^ (length mask - b.digits)
at_level mask p b is =
    let same : level_of b ≡ suc (b.bits + b.height + b.digits) = omega arith in
    block-at_level (length mask) (z_address mask p) (b.bits + b.height) b.digits (z_address-lt mask p) (is ∙ same)

-- a branch without a point of the region
pub absent_branch : (mask : List ℕ) (region : List (ℕ × ℕ)) (b : Branch) → HasAddress mask (upper_ends region) → IsBranch mask b →
    ((ns : List ℕ) → length ns ≡ length region → Begins mask region (level_of b) b.digits b.number ns → ⊥) →
    has_point_in mask region (b.bits + b.height) b.number ≡ false
absent_branch mask region b address branch none = by_test (has_point_in mask region (b.bits + b.height) b.number) refl
  where
    by_test : (t : Bool) → has_point_in mask region (b.bits + b.height) b.number ≡ t → has_point_in mask region (b.bits + b.height) b.number ≡ false
    by_test false e = e
    by_test true e =
        let at = point_found region _ e in
        let p : List ℕ = at.0 in
        let block : hz_address mask p / 2 ^ (b.bits + b.height) ≡ b.number = eqb-true (hz_address mask p / 2 ^ (b.bits + b.height)) b.number at.2 in
        let same : level_of b ≡ suc (b.bits + b.height + b.digits) = omega arith in
        let next : b.digits + 1 ≡ suc b.digits = omega arith in
        let to : b.number < 2 ^ suc b.digits = subst (λ (n : ℕ). b.number < 2 ^ n) next branch.to in
        let is : level mask p ≡ level_of b = level_at-from_block (length mask) (z_address mask p) (b.bits + b.height) b.digits b.number (z_address-lt mask p) branch.from to block ∙ sym same in
        let has : HasAddress mask p = HasAddress-from_end mask region p address at.1 in
        let numbers = point_on-numbers_of mask (level_of b) p has (omega arith) branch.within is in
        absurd (none numbers.0 (numbers.1 ∙ length_from_LiesIn region p at.1) (record {
          inside = subst (LiesIn region) (sym (numbers.2)) at.1;
          front = ap (λ (q : List ℕ). 2 ^ b.digits + z_address mask q / 2 ^ (length mask - b.digits)) (numbers.2) ∙ sym (at_level mask p b is) ∙ block;
        }))

-- has no keys
pub no_keys : (mask : List ℕ) (ask : Ask) (b : Branch) → HasAddress mask (upper_ends ask.region) → IsBranch mask b →
    ((ns : List ℕ) → length ns ≡ length ask.region → Begins mask ask.region (level_of b) b.digits b.number ns → ⊥) → branch_keys mask ask b ≡ []
no_keys mask ask b address branch none =
    let next : (b.number + 1) * 2 ^ b.height ≡ b.number * 2 ^ b.height + 2 ^ b.height = grind arith in
    ap (map (key_of ask)) (count-none (has_point_in mask ask.region b.bits) (b.number * 2 ^ b.height) (2 ^ b.height)
    (λ k low high. run_absent mask ask.region b.bits b.height b.number (absent_branch mask ask.region b address branch none) k low (omega (arith, high, next))))

-- a branch of one block that has a point of the region
pub one_key : (mask : List ℕ) (ask : Ask) (b : Branch) (part : Part) → HasAddress mask (upper_ends ask.region) → IsBranch mask b → b.height ≡ 0 →
    IsPart mask ask.region (level_of b) b.digits b.number part → branch_keys mask ask b ≡ key_of ask b.number ∷ []
one_key mask ask b part address branch leaf is =
    let region : List (ℕ × ℕ) = ask.region in
    let f : ℕ → ℕ = λ a. get_or part.first a 0 in
    let ns : List ℕ = map f (range_with_len 0 (length region)) in
    let size : length ns ≡ length region = length-map-range_with_len f 0 (length region) in
    let within : AreIn part ns = λ a there.
    let axis : a < length region = omega (arith, there, size) in
    let same : get_or ns a 0 ≡ get_or part.first a 0 = get_or-map-range_with_len f 0 (length region) a a 0 axis (omega arith) in
    let some : get_or part.first a 0 < get_or part.end a 0 = (is.spans a axis).some in
    (omega (arith, same), omega (arith, same, some)) in
    let begins : Begins mask region (level_of b) b.digits b.number ns = (is.numbers ns size).1 within in
    let p : List ℕ = point_on mask (level_of b) ns in
    let none : b.bits + b.height ≡ b.bits = omega arith in
    let at : level mask p ≡ level_of b = level-point_on mask region (level_of b) ns address branch.within size begins.inside in
    let block : hz_address mask p / 2 ^ b.bits ≡ b.number = ap (λ n. hz_address mask p / 2 ^ n) (sym none) ∙ at_level mask p b at ∙ begins.front in
    let has : has_point_in mask region b.bits b.number ≡ true = any_point region _ p begins.inside (eq-eqb (hz_address mask p / 2 ^ b.bits) b.number block) in
    let one : 2 ^ b.height ≡ 1 = ap (λ n. 2 ^ n) leaf in
    let here : b.number * 1 ≡ b.number = omega arith in
    ap (λ n. map (key_of ask) (filter (has_point_in mask region b.bits) (range_with_len (b.number * n) n))) one
    ∙ ap (λ n. map (key_of ask) (filter (has_point_in mask region b.bits) (range_with_len n 1))) here
    ∙ ap (λ t. map (key_of ask) (cond t (b.number ∷ []) [])) has

-- ---- the halves of a branch

abbrev pub half_branch : Branch → ℕ → Branch
half_branch b bit = record { bits = b.bits; digits = b.digits + 1; height = b.height - 1; number = 2 * b.number + bit }

pub IsBranch-half : (mask : List ℕ) (b : Branch) (bit : ℕ) → IsBranch mask b → 1 ≤ b.height → bit < 2 → IsBranch mask (half_branch b bit)
IsBranch-half mask b bit is some small =
    let lower : 2 ^ (b.digits + 1) ≡ 2 ^ b.digits * 2 ^ 1 = pow-add 2 b.digits 1 in
    let upper : 2 ^ (b.digits + 1 + 1) ≡ 2 ^ (b.digits + 1) * 2 ^ 1 = pow-add 2 (b.digits + 1) 1 in
    record {
      from = omega (arith, lower, is.from);
      to = omega (arith, upper, is.to);
      within = omega (arith, is.within);
    }

pub level-half : (b : Branch) (bit : ℕ) → 1 ≤ b.height → level_of (half_branch b bit) ≡ level_of b
level-half b bit some = omega arith

-- the keys of so many halves
abbrev pub halves_before : List ℕ → Ask → Branch → ℕ → List Key
halves_before mask ask b bit =
    map (key_of ask) (filter (has_point_in mask ask.region b.bits) (range_with_len (b.number * 2 ^ b.height) (bit * 2 ^ (b.height - 1))))

-- a half more
pub halves_more : (mask : List ℕ) (ask : Ask) (b : Branch) (bit : ℕ) → b.height ≢ 0 → halves_before mask ask b bit ++ branch_keys mask ask (half_branch b bit) ≡ halves_before mask ask b (bit + 1)
halves_more mask ask b bit some =
    let n : ℕ = 2 ^ (b.height - 1) in
    let start : ℕ = b.number * 2 ^ b.height in
    let test : ℕ → Bool = has_point_in mask ask.region b.bits in
    let next : suc (b.height - 1) ≡ b.height = omega (arith, some) in
    let double : 2 ^ b.height ≡ n * 2 = ap (λ m. 2 ^ m) (sym next) ∙ pow-suc 2 (b.height - 1) in
    let begins : start + bit * n ≡ (2 * b.number + bit) * n = ap (λ m. b.number * m + bit * n) double ∙ moved b.number bit n in
    let whole : bit * n + n ≡ (bit + 1) * n = grind arith in
    sym (map-append (key_of ask) (filter test (range_with_len start (bit * n))) (filter test (range_with_len ((2 * b.number + bit) * n) n)))
    ∙ ap (map (key_of ask))
    (ap (λ a. filter test (range_with_len start (bit * n)) ++ filter test (range_with_len a n)) (sym begins)
    ∙ sym (filter-append test (range_with_len start (bit * n)) (range_with_len (start + bit * n) n))
    ∙ ap (filter test) (sym (range-split start (bit * n) n) ∙ ap (range_with_len start) whole))
  where
    moved : (x y n : ℕ) → x * (n * 2) + y * n ≡ (2 * x + y) * n
    moved x y n = grind arith

-- both have its keys
pub halves_all : (mask : List ℕ) (ask : Ask) (b : Branch) (bit : ℕ) → b.height ≢ 0 → bit ≡ 2 → halves_before mask ask b bit ≡ branch_keys mask ask b
halves_all mask ask b bit some two =
    let next : suc (b.height - 1) ≡ b.height = omega (arith, some) in
    let double : bit * 2 ^ (b.height - 1) ≡ 2 ^ b.height = ap (λ m. m * 2 ^ (b.height - 1)) two ∙ omega arith ∙ sym (pow-suc 2 (b.height - 1)) ∙ ap (λ m. 2 ^ m) next in
    ap (λ m. map (key_of ask) (filter (has_point_in mask ask.region b.bits) (range_with_len (b.number * 2 ^ b.height) m))) double

-- ---- a step down

-- the number of a branch is small
pub branch_small : (mask : List ℕ) (b : Branch) → length mask ≤ 40 → IsBranch mask b → b.number ≤ 2 ^ 41
branch_small mask b few is =
    let le : b.digits + 1 ≤ 41 = omega (arith, is.within) in
    let power : 2 ^ (b.digits + 1) ≤ 2 ^ 41 = pow_mono le in
    omega (arith, is.to, power)

-- the next digit of a branch
pub step_of : (mask : List ℕ) (region : List (ℕ × ℕ)) (b : Branch) (axis bit : ℕ) → HasAddress mask (upper_ends region) → IsBranch mask b → b.height ≢ 0 →
    axis ≡ get_or mask (b.digits + 1 - 1) 0 → bit < 2 → IsStep mask region (level_of b) b.digits axis bit
step_of mask region b axis bit address is some names small =
    let here : b.digits + 1 - 1 ≡ b.digits = omega arith in
    record {
      named = subst (λ (n : ℕ). NamesAxes mask n) (length-map region (λ (c : ℕ × ℕ). c.1)) address.named;
      before = omega (arith, some);
      deepest = is.within;
      names = names ∙ ap (λ n. get_or mask n 0) here;
      small = small;
    }

-- a half of a branch has a half of its part
pub half_of_branch : (mask : List ℕ) (region : List (ℕ × ℕ)) (b h : Branch) (bit : ℕ) (half : Option Part) → h ≡ half_branch b bit → b.height ≢ 0 → bit < 2 → IsBranch mask b →
    IsPartOf mask region (level_of b) (b.digits + 1) (2 * b.number + bit) half → IsBranch mask h × IsPartOf mask region (level_of h) h.digits h.number half
half_of_branch mask region b h bit half is some small branch part =
    let height : 1 ≤ b.height = omega (arith, some) in
    subst (λ (x : Branch). IsBranch mask x × IsPartOf mask region (level_of x) x.digits x.number half) (sym is) (
      IsBranch-half mask b bit branch height small,
      subst (λ (n : ℕ). IsPartOf mask region n (b.digits + 1) (2 * b.number + bit) half) (sym (level-half b bit height)) part,
    )

-- and the keys so far, where it has none
pub none_added : (mask : List ℕ) (ask : Ask) (b : Branch) (old : List Key) → HasAddress mask (upper_ends ask.region) → IsBranch mask b →
    ((ns : List ℕ) → length ns ≡ length ask.region → Begins mask ask.region (level_of b) b.digits b.number ns → ⊥) → old ≡ old ++ branch_keys mask ask b
none_added mask ask b old address branch none =
    sym (ap (λ (keys : List Key). old ++ keys) (no_keys mask ask b address branch none) ∙ append-nil old)

-- the keys so far, and those of one half more behind them
pub half_added : (mask : List ℕ) (ask : Ask) (b half : Branch) (bit next : ℕ) (old keys new : List Key) → b.height ≢ 0 → half ≡ half_branch b bit → next ≡ bit + 1 →
    keys ≡ old ++ halves_before mask ask b bit → new ≡ keys ++ branch_keys mask ask half → new ≡ old ++ halves_before mask ask b next
half_added mask ask b half bit next old keys new some is following before more =
    more ∙ ap (λ (xs : List Key). xs ++ branch_keys mask ask half) before
    ∙ append_assoc old (halves_before mask ask b bit) (branch_keys mask ask half)
    ∙ ap (λ (xs : List Key). old ++ xs) (ap (λ (h : Branch). halves_before mask ask b bit ++ branch_keys mask ask h) is ∙ halves_more mask ask b bit some ∙ ap (halves_before mask ask b) (sym following))

-- a half without a point adds none
pub no_half : (mask : List ℕ) (ask : Ask) (b : Branch) (bit next : ℕ) (old keys : List Key) → HasAddress mask (upper_ends ask.region) → IsBranch mask b → b.height ≢ 0 → bit < 2 → next ≡ bit + 1 →
    IsPartOf mask ask.region (level_of b) (b.digits + 1) (2 * b.number + bit) None →
    keys ≡ old ++ halves_before mask ask b bit → keys ≡ old ++ halves_before mask ask b next
no_half mask ask b bit next old keys address branch some small following none before =
    let h : Branch = half_branch b bit in
    let both = half_of_branch mask ask.region b h bit None refl some small branch none in
    half_added mask ask b h bit next old keys keys some refl following before (none_added mask ask h keys address both.0 both.1)

-- and the keys of both are those of the branch
pub both_added : (mask : List ℕ) (ask : Ask) (b : Branch) (bit : ℕ) (old keys : List Key) → b.height ≢ 0 → bit ≡ 2 → keys ≡ old ++ halves_before mask ask b bit → keys ≡ old ++ branch_keys mask ask b
both_added mask ask b bit old keys some two before = before ∙ ap (λ (xs : List Key). old ++ xs) (halves_all mask ask b bit some two)

-- the keys so far, and that of its one block behind them
pub key_added : (mask : List ℕ) (ask : Ask) (b : Branch) (part : Part) (old new : List Key) (key : Key) → HasAddress mask (upper_ends ask.region) → IsBranch mask b → b.height ≡ 0 →
    IsPart mask ask.region (level_of b) b.digits b.number part → key ≡ key_of ask b.number → new ≡ old ++ key ∷ [] → new ≡ old ++ branch_keys mask ask b
key_added mask ask b part old new key address branch leaf is key_is more =
    more ∙ ap (λ (k : Key). old ++ k ∷ []) key_is ∙ ap (λ (keys : List Key). old ++ keys) (sym (one_key mask ask b part address branch leaf is))
