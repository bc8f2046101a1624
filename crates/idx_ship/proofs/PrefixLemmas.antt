-- Where the addresses are of points whose Z addresses begin with given digits.
use Rattle.std.proofs.Common.{◌≡◌, ◌↔◌, ◌⊎◌, inl, inr, ℕ, suc, ◌+◌, ◌-◌, ◌*◌, ◌/◌, ◌%◌, ◌^◌, ◌<◌, ◌≤◌, Bool, true, false, List, [], ◌++◌, length, refl, sym, ap, subst, ◌∙◌, arith, eq-eqb, eqb-true, append-nil}
use Rattle.std.specs.Prelude.{filter, ◌==◌}
use Rattle.std.specs.List.{range_with_len}
use Rattle.std.proofs.Math.Nat.{div-add-mod', div-div-eq-div-mul, mod-lt}
use Rattle.std.proofs.lemmas.Bool.{cases_lt}
use Rattle.std.proofs.lemmas.Nat.{div_below, mul-le, pow-add, pow_pos}
use Rattle.std.proofs.lemmas.List.Elements.{filter-append}
use Rattle.idx_geom.specs.Region.{HoldsAll, IsRegion, LiesIn, lower_ends, upper_ends}
use Rattle.idx_geom.proofs.LiesInLemmas.{LiesIn-lower_ends}
use Rattle.idx_hz.specs.Mask.{HasAddress, NamesAxes}
use Rattle.idx_hz.specs.Address.{hz_address, level_at, z_address}
use Rattle.idx_hz.proofs.AddressLaws.{hz_address-onto}
use Rattle.idx_hz.proofs.BlockLemmas.{block-at_level, block_iff_prefix}
use Rattle.idx_hz.proofs.HzLemmas.{level_at-from_range}
use Rattle.idx_hz.proofs.RegionLemmas.{HasAddress-from_end}
use Rattle.idx_hz.proofs.ZLemmas.{z_address-lt}
use Rattle.idx_grid.specs.Block.{HasPrefix}
use Rattle.idx_layout.proofs.ListLemmas.{count-none, range-split}
use Rattle.idx_layout.proofs.PresentLemmas.{any_point, point_found}
use Rattle.idx_lanes.proofs.LevelLemmas.{double}
use Rattle.idx_pieces.specs.Runs.{has_address}
use Rattle.idx_ship.specs.Spans.{IsNarrower, IsOnly, IsPrefix, block_addresses, span_addresses}
use Rattle.idx_ship.specs.declared.prefix.Prefix.{Prefix}
use Rattle.idx_ship.specs.declared.span.Span.{Span}
use Rattle.idx_ship.proofs.CutLemmas.{block_fits, block_of, whole_block}

-- ---- numbers

at_least : (number c top r front : ℕ) → r < c → number * c + r ≡ top * c + front → top ≤ number
at_least number c top r front less same = either (cases_lt number top)
  where
    either : (number < top) ⊎ (top ≤ number) → top ≤ number
    either (inr le) = le
    either (inl lt) =
        let d : ℕ = top - (number + 1) in
        let is : top ≡ number + 1 + d = omega (arith, lt) in
        let product : (number + 1 + d) * c ≡ number * c + c + d * c = grind arith in
        absurd (omega (arith, less, same, ap (λ n. n * c) is, product))

below_twice : (number c top r front : ℕ) → number * c + r ≡ top * c + front → front < top * c → number + 1 ≤ top + top
below_twice number c top r front same less = either (cases_lt number (top + top))
  where
    either : (number < top + top) ⊎ (top + top ≤ number) → number + 1 ≤ top + top
    either (inl lt) = omega (arith, lt)
    either (inr le) =
        let d : ℕ = number - (top + top) in
        let is : number ≡ top + top + d = omega (arith, le) in
        let product : (top + top + d) * c ≡ top * c + top * c + d * c = grind arith in
        absurd (omega (arith, less, same, ap (λ n. n * c) is, product))

-- what a power of two is the product of
parts_of : (n k : ℕ) → k ≤ n → 2 ^ n ≡ 2 ^ (n - k) * 2 ^ k
parts_of n k le =
    let is : n ≡ n - k + k = omega (arith, le) in
    ap (λ x. 2 ^ x) is ∙ pow-add 2 (n - k) k

-- ---- the digits in front

-- the lower end has an address
pub lower_has : (mask : List ℕ) (region : List (ℕ × ℕ)) → HasAddress mask (upper_ends region) → IsRegion region → HasAddress mask (lower_ends region)
lower_has mask region address is = HasAddress-from_end mask region (lower_ends region) address (LiesIn-lower_ends region is.ordered)

-- the digits in front of an address
pub front_below : (digits behind z : ℕ) → behind ≤ digits → z < 2 ^ digits → z / 2 ^ behind < 2 ^ (digits - behind)
front_below digits behind z le small = div_below z (2 ^ behind) (2 ^ (digits - behind)) (pow_pos behind) (subst (λ n. z < n) (parts_of digits behind le) small)

pub prefix_from : (mask : List ℕ) (region box : List (ℕ × ℕ)) (axes digits front : ℕ) (whole : Bool) → axes ≡ length region → digits ≤ length mask → front < 2 ^ digits →
    ((p : List ℕ) → LiesIn box p ↔ HasPrefix mask axes digits front p) → HoldsAll box region → (whole ≡ true → HoldsAll region box) → IsPrefix mask region (record { digits = digits; front = front; whole = whole })
prefix_from mask region box axes digits front whole same within small is holds held = record {
  within = within;
  small = small;
  each = λ p inside. ((is p).0 (holds p inside)).prefix;
  whole = λ all p has. held all p ((is p).1 (subst (λ n. HasPrefix mask n digits front p) (sym same) has));
}

pub prefix_none : (mask : List ℕ) (region : List (ℕ × ℕ)) → IsPrefix mask region (record { digits = 0; front = 0; whole = false })
prefix_none mask region = record {
  within = omega arith;
  small = omega arith;
  each = λ p inside.
      let all : length mask - 0 ≡ length mask = omega arith in
      ap (λ n. z_address mask p / 2 ^ n) all ∙ block_of (z_address mask p) 0 (2 ^ length mask) (omega arith) (omega (arith, z_address-lt mask p));
  whole = λ all p has. let wrong : false ≡ true = all in absurd (cc);
}

-- ---- a part of a block

-- a part of a block in which all addresses are that the points of a region have there
pub record IsPart (mask : List ℕ) (region : List (ℕ × ℕ)) (bits number : ℕ) (span : Span) : Type 0 where
  pub within : span.bits ≤ bits
  pub exists : span.number < 2 ^ (length mask - span.bits)
  pub same : block_addresses mask region bits number ≡ block_addresses mask region span.bits span.number

module _ (mask : List ℕ) (region : List (ℕ × ℕ)) (prefix : Prefix) (bits number : ℕ) (begins : IsPrefix mask region prefix) (some : bits ≤ length mask) (there : number < 2 ^ (length mask - bits)) where
  -- the first address of a block of the lowest digits behind a front lies in a level, with all others
  level_of : (more a : ℕ) → more ≤ bits → more ≤ prefix.digits → (2 ^ prefix.digits + prefix.front) / 2 ^ more ≡ number → number * 2 ^ bits ≤ a → a < number * 2 ^ bits + 2 ^ bits →
      (2 ^ (bits - more + prefix.digits) ≤ a) × (a < 2 ^ suc (bits - more + prefix.digits))
  level_of more a few among outer low high =
      let c : ℕ = 2 ^ more in
      let m : ℕ = 2 ^ (bits - more) in
      let top : ℕ = 2 ^ (prefix.digits - more) in
      let inner : ℕ = 2 ^ prefix.digits + prefix.front in
      let size : 2 ^ bits ≡ m * c = parts_of bits more few in
      let front : 2 ^ prefix.digits ≡ top * c = parts_of prefix.digits more among in
      let split : number * c + inner % c ≡ inner = ap (λ n. n * c + inner % c) (sym outer) ∙ div-add-mod' inner c in
      let whole : number * c + inner % c ≡ top * c + prefix.front = split ∙ ap (λ n. n + prefix.front) front in
      let least : top ≤ number = at_least number c top (inner % c) prefix.front (mod-lt inner (pow_pos more)) whole in
      let most : number + 1 ≤ top + top = below_twice number c top (inner % c) prefix.front whole (subst (λ n. prefix.front < n) front begins.small) in
      let power : 2 ^ (bits - more + prefix.digits) ≡ m * 2 ^ prefix.digits = pow-add 2 (bits - more) prefix.digits in
      let level : 2 ^ (bits - more + prefix.digits) ≡ top * (m * c) = power ∙ ap (λ n. m * n) front ∙ (let turned : m * (top * c) ≡ top * (m * c) = grind arith in turned) in
      let next : suc (bits - more + prefix.digits) ≡ bits - more + prefix.digits + 1 = omega arith in
      let twice : 2 ^ suc (bits - more + prefix.digits) ≡ 2 ^ (bits - more + prefix.digits) + 2 ^ (bits - more + prefix.digits) = ap (λ n. 2 ^ n) next ∙ double (bits - more + prefix.digits) in
      let up : top * (m * c) ≤ number * (m * c) = mul-le top (m * c) number (m * c) least (omega arith) in
      let down : (number + 1) * (m * c) ≤ (top + top) * (m * c) = mul-le (number + 1) (m * c) (top + top) (m * c) most (omega arith) in
      let one : (number + 1) * (m * c) ≡ number * (m * c) + m * c = grind arith in
      let two : (top + top) * (m * c) ≡ top * (m * c) + top * (m * c) = grind arith in
      let low' : number * (m * c) ≤ a = subst (λ n. number * n ≤ a) size low in
      let high' : a < number * (m * c) + m * c = subst (λ n. a < number * n + n) size high in
      (omega (arith, level, up, low'), omega (arith, twice, level, down, one, two, high'))

  -- an address that a point of the region has is in the part
  in_part : (more a : ℕ) → more ≤ bits → more ≤ prefix.digits → (2 ^ prefix.digits + prefix.front) / 2 ^ more ≡ number → number * 2 ^ bits ≤ a → a < number * 2 ^ bits + 2 ^ bits →
      has_address mask region a ≡ true → a / 2 ^ (bits - more) ≡ 2 ^ prefix.digits + prefix.front
  in_part more a few among outer low high has =
      let at = point_found region (λ p. hz_address mask p == a) has in
      let same : hz_address mask at.0 ≡ a = eqb-true (hz_address mask at.0) a at.2 in
      let z : ℕ = z_address mask at.0 in
      let small : z < 2 ^ length mask = z_address-lt mask at.0 in
      let range = level_of more a few among outer low high in
      let level : level_at (length mask) z ≡ suc (bits - more + prefix.digits) =
      level_at-from_range (length mask) z (bits - more + prefix.digits) small
      (subst (λ n. 2 ^ (bits - more + prefix.digits) ≤ n) (sym same) range.0) (subst (λ n. n < 2 ^ suc (bits - more + prefix.digits)) (sym same) range.1) in
      ap (λ n. n / 2 ^ (bits - more)) (sym same) ∙ block-at_level (length mask) z (bits - more) prefix.digits small level
      ∙ ap (λ n. 2 ^ prefix.digits + n) (begins.each at.0 at.1)

  narrowed : (more : ℕ) → more ≤ bits → more ≤ prefix.digits → (2 ^ prefix.digits + prefix.front) / 2 ^ more ≡ number →
      block_addresses mask region bits number ≡ block_addresses mask region (bits - more) (2 ^ prefix.digits + prefix.front)
  narrowed more few among outer =
      let c : ℕ = 2 ^ more in
      let m : ℕ = 2 ^ (bits - more) in
      let inner : ℕ = 2 ^ prefix.digits + prefix.front in
      let r : ℕ = inner % c in
      let rest : ℕ = c - (r + 1) in
      let test : ℕ → Bool = has_address mask region in
      let first : ℕ = number * 2 ^ bits in
      let split : number * c + r ≡ inner = ap (λ n. n * c + r) (sym outer) ∙ div-add-mod' inner c in
      let less : r < c = mod-lt inner (pow_pos more) in
      let cs : c ≡ r + 1 + rest = omega (arith, less) in
      let size : 2 ^ bits ≡ m * c = parts_of bits more few in
      let sum : m * (r + 1 + rest) ≡ r * m + (m + rest * m) = grind arith in
      let count : 2 ^ bits ≡ r * m + (m + rest * m) = size ∙ ap (λ n. m * n) cs ∙ sum in
      let turned : number * (m * c) + r * m ≡ (number * c + r) * m = grind arith in
      let start : first + r * m ≡ inner * m = ap (λ n. number * n + r * m) size ∙ turned ∙ ap (λ n. n * m) split in
      let in_it : (a : ℕ) → first ≤ a → a < first + 2 ^ bits → test a ≡ true → (inner * m ≤ a) × (a < inner * m + m) =
      λ a low high has.
      let is : a / m ≡ inner = in_part more a few among outer low high has in
      let whole : inner * m + a % m ≡ a = ap (λ n. n * m + a % m) (sym is) ∙ div-add-mod' a m in
      let small : a % m < m = mod-lt a (pow_pos (bits - more)) in
      (omega (arith, whole), omega (arith, whole, small)) in
      let before : filter test (range_with_len first (r * m)) ≡ [] =
      count-none test first (r * m) (λ a low high. none a (λ has. let found = in_it a low (omega (arith, high, count)) has in omega (arith, found.0, high, start))) in
      let behind : filter test (range_with_len (inner * m + m) (rest * m)) ≡ [] =
      count-none test (inner * m + m) (rest * m) (λ a low high. none a (λ has.
      let found = in_it a (omega (arith, low, start)) (omega (arith, high, count, start)) has in omega (arith, found.1, low))) in
      ap (λ n. filter test (range_with_len first n)) count
      ∙ ap (filter test) (range-split first (r * m) (m + rest * m))
      ∙ filter-append test (range_with_len first (r * m)) (range_with_len (first + r * m) (m + rest * m))
      ∙ ap (λ xs. xs ++ filter test (range_with_len (first + r * m) (m + rest * m))) before
      ∙ ap (λ a. filter test (range_with_len a (m + rest * m))) start
      ∙ ap (filter test) (range-split (inner * m) m (rest * m))
      ∙ filter-append test (range_with_len (inner * m) m) (range_with_len (inner * m + m) (rest * m))
      ∙ ap (λ xs. filter test (range_with_len (inner * m) m) ++ xs) behind
      ∙ append-nil (filter test (range_with_len (inner * m) m))
    where
      none : (a : ℕ) → (has_address mask region a ≡ true → ⊥) → has_address mask region a ≡ false
      none a refuted = by_test (has_address mask region a) refl
        where
          by_test : (b : Bool) → has_address mask region a ≡ b → has_address mask region a ≡ false
          by_test true is = absurd (refuted is)
          by_test false is = is

  -- and the part exists
  narrowed_there : (more : ℕ) → more ≤ bits → (2 ^ prefix.digits + prefix.front) / 2 ^ more ≡ number → 2 ^ prefix.digits + prefix.front < 2 ^ (length mask - (bits - more))
  narrowed_there more few outer =
      let c : ℕ = 2 ^ more in
      let inner : ℕ = 2 ^ prefix.digits + prefix.front in
      let split : number * c + inner % c ≡ inner = ap (λ n. n * c + inner % c) (sym outer) ∙ div-add-mod' inner c in
      let less : inner % c < c = mod-lt inner (pow_pos more) in
      let deeper : length mask - (bits - more) ≡ length mask - bits + more = omega (arith, few, some) in
      let power : 2 ^ (length mask - (bits - more)) ≡ 2 ^ (length mask - bits) * c = ap (λ n. 2 ^ n) deeper ∙ pow-add 2 (length mask - bits) more in
      let le : (number + 1) * c ≤ 2 ^ (length mask - bits) * c = mul-le (number + 1) c (2 ^ (length mask - bits)) c (omega (arith, there)) (omega arith) in
      let one : (number + 1) * c ≡ number * c + c = grind arith in
      omega (arith, split, less, power, le, one)

  pub part_of : (span : Span) → IsNarrower prefix bits number span → IsPart mask region bits number span
  part_of span is =
      let outer : (2 ^ prefix.digits + prefix.front) / 2 ^ is.more ≡ number = ap (λ n. n / 2 ^ is.more) (sym is.is) ∙ is.outer in
      record {
        within = omega (arith, is.left);
        exists = subst (λ n. span.number < 2 ^ (length mask - n)) (sym is.left) (subst (λ n. n < 2 ^ (length mask - (bits - is.more))) (sym is.is) (narrowed_there is.more is.within outer));
        same = narrowed is.more is.within is.among outer ∙ sym (λ i. block_addresses mask region (is.left i) (is.is i));
      }

  -- all of its addresses are those of points, where all points with the digits lie in the region
  pub part_whole : (span : Span) → IsNarrower prefix bits number span → NamesAxes mask (length region) → prefix.whole ≡ true → block_addresses mask region bits number ≡ span_addresses span
  part_whole span is named whole =
      let part = part_of span is in
      let fits : span.number * 2 ^ span.bits + 2 ^ span.bits ≤ 2 ^ length mask = block_fits (length mask) span.bits span.number (omega (arith, part.within, some)) part.exists in
      part.same
      ∙ whole_block mask region span.bits span.number (λ a low high.
      let found = hz_address-onto mask (length region) a named (omega (arith, high, fits)) in
      let z : ℕ = z_address mask found.0 in
      let small : z < 2 ^ length mask = z_address-lt mask found.0 in
      let block : hz_address mask found.0 / 2 ^ span.bits ≡ span.number = ap (λ n. n / 2 ^ span.bits) found.3 ∙ block_of a span.number (2 ^ span.bits) low high in
      let next : 2 ^ suc prefix.digits ≡ 2 ^ prefix.digits + 2 ^ prefix.digits = (let one : suc prefix.digits ≡ prefix.digits + 1 = omega arith in ap (λ n. 2 ^ n) one) ∙ double prefix.digits in
      let front : z / 2 ^ (length mask - prefix.digits) ≡ span.number - 2 ^ prefix.digits =
      ((block_iff_prefix (length mask) z span.bits prefix.digits span.number small (omega (arith, is.is)) (omega (arith, is.is, next, begins.small))).0 block).1 in
      let same : span.number - 2 ^ prefix.digits ≡ prefix.front = omega (arith, is.is) in
      let inside : LiesIn region found.0 = begins.whole whole found.0 (record { size = found.1; has = found.2; prefix = front ∙ same }) in
      any_point region (λ p. hz_address mask p == a) found.0 inside (eq-eqb (hz_address mask found.0) a found.3))

  -- ---- the one address of a block

  -- the first address of the block lies in a level, with all others
  coarse_level : (address a : ℕ) (is : IsOnly prefix bits number address) → number * 2 ^ bits ≤ a → a < number * 2 ^ bits + 2 ^ bits →
      (2 ^ (prefix.digits - is.less) ≤ a) × (a < 2 ^ suc (prefix.digits - is.less))
  coarse_level address a is low high =
      let height : ℕ = prefix.digits - is.less in
      let c : ℕ = 2 ^ bits in
      let top : ℕ = 2 ^ (height - bits) in
      let front : ℕ = prefix.front / 2 ^ is.less in
      let few : bits ≤ height = omega (arith, is.deep) in
      let power : 2 ^ height ≡ top * c = parts_of height bits few in
      let split : number * c + address % c ≡ address = ap (λ n. n * c + address % c) (sym is.outer) ∙ div-add-mod' address c in
      let whole : number * c + address % c ≡ top * c + front = split ∙ is.is ∙ ap (λ n. n + front) power in
      let small : front < 2 ^ height = front_below prefix.digits is.less prefix.front (omega (arith, is.deep)) begins.small in
      let least : top ≤ number = at_least number c top (address % c) front (mod-lt address (pow_pos bits)) whole in
      let most : number + 1 ≤ top + top = below_twice number c top (address % c) front whole (subst (λ n. front < n) power small) in
      let next : suc height ≡ height + 1 = omega arith in
      let twice : 2 ^ suc height ≡ 2 ^ height + 2 ^ height = ap (λ n. 2 ^ n) next ∙ double height in
      let up : top * c ≤ number * c = mul-le top c number c least (omega arith) in
      let down : (number + 1) * c ≤ (top + top) * c = mul-le (number + 1) c (top + top) c most (omega arith) in
      let one : (number + 1) * c ≡ number * c + c = grind arith in
      let two : (top + top) * c ≡ top * c + top * c = grind arith in
      (omega (arith, power, up, low), omega (arith, twice, power, down, one, two, high))

  -- an address that a point of the region has is this one
  only_this : (address a : ℕ) → IsOnly prefix bits number address → number * 2 ^ bits ≤ a → a < number * 2 ^ bits + 2 ^ bits → has_address mask region a ≡ true → a ≡ address
  only_this address a is low high has =
      let at = point_found region (λ p. hz_address mask p == a) has in
      let same : hz_address mask at.0 ≡ a = eqb-true (hz_address mask at.0) a at.2 in
      let z : ℕ = z_address mask at.0 in
      let height : ℕ = prefix.digits - is.less in
      let small : z < 2 ^ length mask = z_address-lt mask at.0 in
      let range = coarse_level address a is low high in
      let level : level_at (length mask) z ≡ suc height =
      level_at-from_range (length mask) z height small (subst (λ n. 2 ^ height ≤ n) (sym same) range.0) (subst (λ n. n < 2 ^ suc height) (sym same) range.1) in
      let behind : length mask - height ≡ length mask - prefix.digits + is.less = omega (arith, is.deep, begins.within) in
      let cut : z / 2 ^ (length mask - height) ≡ prefix.front / 2 ^ is.less =
      ap (λ n. z / 2 ^ n) behind ∙ ap (λ n. z / n) (pow-add 2 (length mask - prefix.digits) is.less) ∙ sym (div-div-eq-div-mul z (2 ^ (length mask - prefix.digits)) (2 ^ is.less))
      ∙ ap (λ n. n / 2 ^ is.less) (begins.each at.0 at.1) in
      let zero_more : height ≡ 0 + height = omega arith in
      let one : hz_address mask at.0 / 2 ^ 0 ≡ 2 ^ height + z / 2 ^ (length mask - height) = block-at_level (length mask) z 0 height small (level ∙ ap suc zero_more) in
      let whole : hz_address mask at.0 / 2 ^ 0 ≡ hz_address mask at.0 = omega arith in
      sym same ∙ sym whole ∙ one ∙ ap (λ n. 2 ^ height + n) cut ∙ sym is.is

  pub part_one : (address : ℕ) → IsOnly prefix bits number address → IsPart mask region bits number (record { bits = 0; number = address })
  part_one address is =
      let c : ℕ = 2 ^ bits in
      let first : ℕ = number * 2 ^ bits in
      let r : ℕ = address - first in
      let rest : ℕ = 2 ^ bits - (r + 1) in
      let test : ℕ → Bool = has_address mask region in
      let split : number * c + address % c ≡ address = ap (λ n. n * c + address % c) (sym is.outer) ∙ div-add-mod' address c in
      let small : address % c < c = mod-lt address (pow_pos bits) in
      let count : 2 ^ bits ≡ r + (1 + rest) = omega (arith, split, small) in
      let start : first + r ≡ address = omega (arith, split) in
      let fits : first + 2 ^ bits ≤ 2 ^ length mask = block_fits (length mask) bits number some there in
      let before : filter test (range_with_len first r) ≡ [] =
      count-none test first r (λ a low high. refute a (λ has. let found = only_this address a is low (omega (arith, high, count)) has in omega (arith, found, high, start))) in
      let behind : filter test (range_with_len (address + 1) rest) ≡ [] =
      count-none test (address + 1) rest (λ a low high. refute a (λ has. let found = only_this address a is (omega (arith, low, start)) (omega (arith, high, count, start)) has in omega (arith, found, low))) in
      let all : length mask - 0 ≡ length mask = omega arith in
      let at : address * 2 ^ 0 ≡ address = omega arith in
      record {
        within = omega arith;
        exists = subst (λ n. address < 2 ^ n) (sym all) (omega (arith, fits, split, small));
        same = ap (λ n. filter test (range_with_len first n)) count
            ∙ ap (filter test) (range-split first r (1 + rest))
            ∙ filter-append test (range_with_len first r) (range_with_len (first + r) (1 + rest))
            ∙ ap (λ xs. xs ++ filter test (range_with_len (first + r) (1 + rest))) before
            ∙ ap (λ a. filter test (range_with_len a (1 + rest))) start
            ∙ ap (filter test) (range-split address 1 rest)
            ∙ filter-append test (range_with_len address 1) (range_with_len (address + 1) rest)
            ∙ ap (λ xs. filter test (range_with_len address 1) ++ xs) behind
            ∙ append-nil (filter test (range_with_len address 1))
            ∙ ap (λ a. filter test (range_with_len a 1)) (sym at);
      }
    where
      refute : (a : ℕ) → (has_address mask region a ≡ true → ⊥) → has_address mask region a ≡ false
      refute a refuted = by_test (has_address mask region a) refl
        where
          by_test : (b : Bool) → has_address mask region a ≡ b → has_address mask region a ≡ false
          by_test true is = absurd (refuted is)
          by_test false is = is
