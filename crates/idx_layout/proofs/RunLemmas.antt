-- Runs of blocks, which are blocks of more addresses.
use Rattle.std.proofs.Common.{◌≡◌, ℕ, zero, suc, ◌+◌, ◌-◌, ◌*◌, ◌/◌, ◌%◌, ◌^◌, ◌<◌, ◌≤◌, Bool, true, false, List, length, refl, sym, ap, ◌∙◌, arith, subst, eq-eqb, eqb-true, lit≤}
use Rattle.std.proofs.Math.Nat.{div-div-eq-div-mul, div-lt_iff_lt-mul, mod-lt, mul-le-mul_right}
use Rattle.std.proofs.lemmas.Nat.{div-add-mod'}
use Rattle.std.proofs.lemmas.Nat.{pow-add, pow_pos}
use Rattle.std.proofs.Math.Pow.{pow_mono}
use Rattle.idx_geom.specs.Region.{LiesIn}
use Rattle.idx_hz.specs.Address.{hz_address}
use Rattle.idx_layout.specs.Placing.{has_point_in}
use Rattle.idx_layout.specs.Runs.{NoneBetween}
use Rattle.idx_layout.proofs.PresentLemmas.{any_point, point_found}

-- a number below the end of a run and not before it
quotient : (b c k : ℕ) → c * 2 ^ k ≤ b → b < (c + 1) * 2 ^ k → b / 2 ^ k ≡ c
quotient b c k low high = by_distance (c - b / 2 ^ k) refl
  where
    below : b / 2 ^ k < c + 1
    below = (div-lt_iff_lt-mul {k = 2 ^ k} {x = b} {y = c + 1} (pow_pos k)).1 high

    by_distance : (d : ℕ) → c - b / 2 ^ k ≡ d → b / 2 ^ k ≡ c
    by_distance zero e = omega (arith, e, below)
    by_distance (suc d) e =
        let less : b < c * 2 ^ k = (div-lt_iff_lt-mul {k = 2 ^ k} {x = b} {y = c} (pow_pos k)).0 (omega (arith, e)) in
        absurd (omega (arith, less, low))

-- the block of more addresses in which a point of a block lies
pub wider : (mask : List ℕ) (region : List (ℕ × ℕ)) (bits k block : ℕ) → has_point_in mask region bits block ≡ true → has_point_in mask region (bits + k) (block / 2 ^ k) ≡ true
wider mask region bits k block e =
    let at = point_found region _ e in
    let address : hz_address mask at.0 / 2 ^ bits ≡ block = eqb-true (hz_address mask at.0 / 2 ^ bits) block at.2 in
    let more : hz_address mask at.0 / 2 ^ (bits + k) ≡ block / 2 ^ k =
    ap (λ n. hz_address mask at.0 / n) (pow-add 2 bits k) ∙ sym (div-div-eq-div-mul (hz_address mask at.0) (2 ^ bits) (2 ^ k)) ∙ ap (λ n. n / 2 ^ k) address in
    any_point region _ at.0 at.1 (eq-eqb (hz_address mask at.0 / 2 ^ (bits + k)) (block / 2 ^ k) more)

-- a run without a point has no block with one
pub run_absent : (mask : List ℕ) (region : List (ℕ × ℕ)) (bits k c : ℕ) → has_point_in mask region (bits + k) c ≡ false → NoneBetween mask region bits (c * 2 ^ k) ((c + 1) * 2 ^ k)
run_absent mask region bits k c absent block low high = by_test (has_point_in mask region bits block) refl
  where
    wrong : true ≡ false → ⊥
    wrong e = cc

    by_test : (t : Bool) → has_point_in mask region bits block ≡ t → has_point_in mask region bits block ≡ false
    by_test false e = e
    by_test true e =
        let same : has_point_in mask region (bits + k) (block / 2 ^ k) ≡ has_point_in mask region (bits + k) c = ap (has_point_in mask region (bits + k)) (quotient block c k low high) in
        absurd (wrong (sym (wider mask region bits k block e) ∙ same ∙ absent))

-- of a run with a point one of its halves has one
pub other_half : (mask : List ℕ) (region : List (ℕ × ℕ)) (bits c : ℕ) → has_point_in mask region (bits + 1) c ≡ true →
    has_point_in mask region bits (c * 2) ≡ false → has_point_in mask region bits (c * 2 + 1) ≡ true
other_half mask region bits c e absent =
    let at = point_found region _ e in
    let q : ℕ = hz_address mask at.0 / 2 ^ bits in
    let address : hz_address mask at.0 / 2 ^ (bits + 1) ≡ c = eqb-true (hz_address mask at.0 / 2 ^ (bits + 1)) c at.2 in
    let half : q / 2 ≡ c = div-div-eq-div-mul (hz_address mask at.0) (2 ^ bits) (2 ^ 1) ∙ ap (λ n. hz_address mask at.0 / n) (sym (pow-add 2 bits 1)) ∙ address in
    let rest : q % 2 < 2 = mod-lt q (lit≤ tt) in
    let whole : c * 2 + q % 2 ≡ q = ap (λ n. n * 2 + q % 2) (sym half) ∙ div-add-mod' q 2 in
    by_rest at.0 at.1 (q % 2) rest (sym whole)
  where
    wrong : true ≡ false → ⊥
    wrong x = cc

    by_rest : (p : List ℕ) → LiesIn region p → (r : ℕ) → r < 2 → hz_address mask p / 2 ^ bits ≡ c * 2 + r → has_point_in mask region bits (c * 2 + 1) ≡ true
    by_rest p inside zero small is =
        let first : has_point_in mask region bits (c * 2) ≡ true = any_point region _ p inside (eq-eqb (hz_address mask p / 2 ^ bits) (c * 2) (omega (arith, is))) in
        absurd (wrong (sym first ∙ absent))
    by_rest p inside (suc r) small is = any_point region _ p inside (eq-eqb (hz_address mask p / 2 ^ bits) (c * 2 + 1) (omega (arith, is, small)))

-- ---- from a run to the first of its blocks
pub record Descends (mask : List ℕ) (region : List (ℕ × ℕ)) (bits first height number : ℕ) : Type 0 where
  pub within : bits + height ≤ length mask
  pub exists : number < 2 ^ (length mask - (bits + height))
  pub point : has_point_in mask region (bits + height) number ≡ true
  pub from : first ≤ number * 2 ^ height
  pub before : NoneBetween mask region bits first (number * 2 ^ height)

doubled : (number height : ℕ) → number * 2 * 2 ^ height ≡ number * 2 ^ (height + 1)
doubled number height = moved number (2 ^ height) ∙ ap (λ n. number * n) (sym (pow-add 2 height 1))
  where
    moved : (n x : ℕ) → n * 2 * x ≡ n * (x * 2)
    moved n x = grind arith

-- the halves of a run are there
pub halves_exist : (mask : List ℕ) (bits height number : ℕ) → bits + (height + 1) ≤ length mask →
    number < 2 ^ (length mask - (bits + (height + 1))) → number * 2 + 1 < 2 ^ (length mask - (bits + height))
halves_exist mask bits height number within exists =
    let more : length mask - (bits + height) ≡ length mask - (bits + (height + 1)) + 1 = omega arith in
    let twice : 2 ^ (length mask - (bits + height)) ≡ 2 ^ (length mask - (bits + (height + 1))) * 2 ^ 1 = ap (λ n. 2 ^ n) more ∙ pow-add 2 (length mask - (bits + (height + 1))) 1 in
    omega (arith, twice, exists)

pub first_half : (mask : List ℕ) (region : List (ℕ × ℕ)) (bits first height number : ℕ) →
    Descends mask region bits first (height + 1) number →
    has_point_in mask region (bits + height) (number * 2) ≡ true → Descends mask region bits first height (number * 2)
first_half mask region bits first height number is has = record {
  within = omega (arith, is.within);
  exists = omega (arith, halves_exist mask bits height number is.within is.exists);
  point = has;
  from = omega (arith, is.from, doubled number height);
  before = λ block low high. is.before block low (omega (arith, high, doubled number height));
}

pub second_half : (mask : List ℕ) (region : List (ℕ × ℕ)) (bits first height number : ℕ) →
    Descends mask region bits first (height + 1) number →
    has_point_in mask region (bits + height) (number * 2) ≡ false →
    Descends mask region bits first height (number * 2 + 1)
second_half mask region bits first height number is absent =
    let x : ℕ = 2 ^ height in
    let start : (number * 2 + 1) * x ≡ number * 2 * x + x = one_more (number * 2) x in
    let same : bits + (height + 1) ≡ bits + height + 1 = omega arith in
    record {
      within = omega (arith, is.within);
      exists = halves_exist mask bits height number is.within is.exists;
      point = other_half mask region (bits + height) number (ap (λ n. has_point_in mask region n number) (sym same) ∙ is.point) absent;
      from = omega (arith, is.from, doubled number height, start);
      before = λ block low high. none block low high (block + 1 - number * 2 * x) refl;
    }
  where
    one_more : (n x : ℕ) → (n + 1) * x ≡ n * x + x
    one_more n x = grind arith

    none : (block : ℕ) → first ≤ block → block < (number * 2 + 1) * 2 ^ height → (d : ℕ) → block + 1 - number * 2 * 2 ^ height ≡ d → has_point_in mask region bits block ≡ false
    none block low high zero e = is.before block low (omega (arith, e, doubled number height))
    none block low high (suc d) e = run_absent mask region bits height (number * 2) absent block (omega (arith, e)) high

-- the same with the height that is left
pub one_lower : (mask : List ℕ) (region : List (ℕ × ℕ)) (bits first height number : ℕ) → 1 ≤ height →
    Descends mask region bits first height number → Descends mask region bits first (height - 1 + 1) number
one_lower mask region bits first height number some is = subst (λ (h : ℕ). Descends mask region bits first h number) same is
  where
    same : height ≡ height - 1 + 1
    same = omega arith

pub small_halves : (mask : List ℕ) (region : List (ℕ × ℕ)) (bits first height number : ℕ) → length mask ≤ 40 → Descends mask region bits first (height + 1) number → number * 2 + 1 < 2 ^ 40
small_halves mask region bits first height number few is =
    let digits : length mask - (bits + height) ≤ 40 = omega arith in
    let most : 2 ^ (length mask - (bits + height)) ≤ 2 ^ 40 = pow_mono digits in
    omega (arith, most, halves_exist mask bits height number is.within is.exists)

-- ---- from one run to the next
pub behind_begins : (number height : ℕ) → (number + 1) % 2 ≡ 0 → (number + 1) / 2 * 2 ^ (height + 1) ≡ number * 2 ^ height + 2 ^ height
behind_begins number height even =
    let half : (number + 1) / 2 * 2 ≡ number + 1 = omega (arith, div-add-mod' (number + 1) 2, even) in
    sym (doubled ((number + 1) / 2) height) ∙ ap (λ n. n * 2 ^ height) half ∙ one_more number (2 ^ height)
  where
    one_more : (n x : ℕ) → (n + 1) * x ≡ n * x + x
    one_more n x = grind arith

-- none before a run and none in it are none before the next
pub none_before_next : (mask : List ℕ) (region : List (ℕ × ℕ)) (bits from height number end : ℕ) →
    NoneBetween mask region bits from (number * 2 ^ height) →
    has_point_in mask region (bits + height) number ≡ false → end ≡ number * 2 ^ height + 2 ^ height →
    NoneBetween mask region bits from end
none_before_next mask region bits from height number end before absent is block low high = by_distance (block + 1 - number * 2 ^ height) refl
  where
    one_more : (n x : ℕ) → (n + 1) * x ≡ n * x + x
    one_more n x = grind arith

    by_distance : (d : ℕ) → block + 1 - number * 2 ^ height ≡ d → has_point_in mask region bits block ≡ false
    by_distance zero e = before block low (omega (arith, e))
    by_distance (suc d) e = run_absent mask region bits height number absent block (omega (arith, e)) (omega (arith, high, is, one_more number (2 ^ height)))

-- a run that is there begins before the end of all blocks, and one that is not behind it
pub begins_within : (number height digits : ℕ) → height ≤ digits → number < 2 ^ (digits - height) → number * 2 ^ height + 2 ^ height ≤ 2 ^ digits
begins_within number height digits within exists =
    let whole : 2 ^ digits ≡ 2 ^ (digits - height) * 2 ^ height = ap (λ n. 2 ^ n) cut ∙ pow-add 2 (digits - height) height in
    let most : (number + 1) * 2 ^ height ≤ 2 ^ (digits - height) * 2 ^ height = mul-le-mul_right (2 ^ height) (omega (arith, exists)) in
    omega (arith, whole, most, one_more number (2 ^ height))
  where
    cut : digits ≡ digits - height + height
    cut = omega arith

    one_more : (n x : ℕ) → (n + 1) * x ≡ n * x + x
    one_more n x = grind arith

pub begins_past : (number height digits : ℕ) → height ≤ digits → 2 ^ (digits - height) ≤ number → 2 ^ digits ≤ number * 2 ^ height
begins_past number height digits within past =
    let whole : 2 ^ digits ≡ 2 ^ (digits - height) * 2 ^ height = ap (λ n. 2 ^ n) cut ∙ pow-add 2 (digits - height) height in
    let most : 2 ^ (digits - height) * 2 ^ height ≤ number * 2 ^ height = mul-le-mul_right (2 ^ height) past in
    omega (arith, whole, most)
  where
    cut : digits ≡ digits - height + height
    cut = omega arith

-- none up to a block and none from it on
pub none_joined : (mask : List ℕ) (region : List (ℕ × ℕ)) (bits from middle end : ℕ) →
    NoneBetween mask region bits from middle → NoneBetween mask region bits middle end →
    NoneBetween mask region bits from end
none_joined mask region bits from middle end before behind block low high = by_distance (block + 1 - middle) refl
  where
    by_distance : (d : ℕ) → block + 1 - middle ≡ d → has_point_in mask region bits block ≡ false
    by_distance zero e = before block low (omega (arith, e))
    by_distance (suc d) e = behind block (omega (arith, e)) high
