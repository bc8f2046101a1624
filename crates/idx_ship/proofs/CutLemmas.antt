-- The addresses that the points of a region have in a block, and in its halves.
use Rattle.std.proofs.Common.{◌≡◌, ◌↔◌, ℕ, zero, suc, ◌+◌, ◌-◌, ◌*◌, ◌/◌, ◌^◌, ◌<◌, ◌≤◌, Bool, true, false, cond, List, [], ◌∷◌, ◌++◌, length, refl, sym, ap, subst, ◌∙◌, arith, eq-eqb, eqb-true, append_assoc, append-nil}
use Rattle.std.specs.Prelude.{filter, ◌==◌}
use Rattle.std.specs.List.{range_with_len}
use Rattle.std.proofs.Math.Pow.{pow_mono}
use Rattle.std.proofs.lemmas.Nat.{div-mul-add, pow-add}
use Rattle.std.proofs.lemmas.List.Elements.{filter-append, All-append, All-cons, All-nil}
use Rattle.std.proofs.lemmas.List.Concat.{flat_map-append}
use Rattle.idx_geom.specs.Region.{HoldsAll, LiesIn}
use Rattle.idx_hz.specs.Mask.{NamesAxes}
use Rattle.idx_hz.specs.Address.{hz_address}
use Rattle.idx_hz.proofs.AddressLaws.{hz_address-onto}
use Rattle.idx_grid.specs.Grid.{LiesOn}
use Rattle.idx_grid.specs.declared.grid.Grid.{Grid}
use Rattle.idx_grid.specs.Block.{IsInBlock}
use Rattle.idx_layout.specs.Placing.{has_point_in}
use Rattle.idx_layout.proofs.ListLemmas.{count-none, range-split}
use Rattle.idx_layout.proofs.PresentLemmas.{any_point, point_found}
use Rattle.idx_lanes.proofs.LevelLemmas.{double}
use Rattle.idx_pieces.specs.Runs.{has_address}
use Rattle.idx_ship.specs.Spans.{AreAdded, IsSpan, all_addresses, block_addresses, span_addresses}
use Rattle.idx_ship.specs.declared.span.Span.{Span}

-- the block of an address
pub block_of : (a block n : ℕ) → block * n ≤ a → a < block * n + n → a / n ≡ block
block_of a block n low high =
    let rest : ℕ = a - block * n in
    let whole : a ≡ block * n + rest = omega arith in
    ap (λ m. m / n) whole ∙ div-mul-add block n rest (omega arith)

pub filter_all : (test : ℕ → Bool) (a n : ℕ) → ((k : ℕ) → a ≤ k → k < a + n → test k ≡ true) → filter test (range_with_len a n) ≡ range_with_len a n
filter_all test a zero all = refl
filter_all test a (suc n) all =
    ap (λ b. cond b (a ∷ filter test (range_with_len (a + 1) n)) (filter test (range_with_len (a + 1) n))) (all a (omega arith) (omega arith))
    ∙ ap (λ xs. a ∷ xs) (filter_all test (a + 1) n (λ k from to. all k (omega arith) (omega arith)))

-- an address that a point of a region has is in a block with such a point
pub in_present : (mask : List ℕ) (region : List (ℕ × ℕ)) (bits block a : ℕ) → has_address mask region a ≡ true → a / 2 ^ bits ≡ block → has_point_in mask region bits block ≡ true
in_present mask region bits block a has is =
    let at = point_found region (λ p. hz_address mask p == a) has in
    let address : hz_address mask at.0 ≡ a = eqb-true (hz_address mask at.0) a at.2 in
    any_point region (λ p. hz_address mask p / 2 ^ bits == block) at.0 at.1 (eq-eqb (hz_address mask at.0 / 2 ^ bits) block (ap (λ n. n / 2 ^ bits) address ∙ is))

-- a block without a point has no address
pub absent_block : (mask : List ℕ) (region : List (ℕ × ℕ)) (bits block : ℕ) → has_point_in mask region bits block ≡ false → block_addresses mask region bits block ≡ []
absent_block mask region bits block none =
    count-none (has_address mask region) (block * 2 ^ bits) (2 ^ bits) (λ a low high. not_there a low high (has_address mask region a) refl)
  where
    not_there : (a : ℕ) → block * 2 ^ bits ≤ a → a < block * 2 ^ bits + 2 ^ bits → (b : Bool) → has_address mask region a ≡ b → has_address mask region a ≡ false
    not_there a low high false e = e
    not_there a low high true e =
        let wrong : true ≡ false = sym (in_present mask region bits block a e (block_of a block (2 ^ bits) low high)) ∙ none in absurd (cc)

-- a block in which each address has a point
pub whole_block : (mask : List ℕ) (region : List (ℕ × ℕ)) (bits block : ℕ) → ((a : ℕ) → block * 2 ^ bits ≤ a → a < block * 2 ^ bits + 2 ^ bits → has_address mask region a ≡ true) →
    block_addresses mask region bits block ≡ range_with_len (block * 2 ^ bits) (2 ^ bits)
whole_block mask region bits block all = filter_all (has_address mask region) (block * 2 ^ bits) (2 ^ bits) all

-- so is one whose box lies in the region
pub held_block : (mask : List ℕ) (region box : List (ℕ × ℕ)) (grid : Grid) (axes bits block : ℕ) → NamesAxes mask axes →
    ((p : List ℕ) → IsInBlock mask axes bits block p ↔ (LiesIn box p × LiesOn grid p)) → HoldsAll region box → block * 2 ^ bits + 2 ^ bits ≤ 2 ^ length mask →
    block_addresses mask region bits block ≡ range_with_len (block * 2 ^ bits) (2 ^ bits)
held_block mask region box grid axes bits block named is holds exists =
    whole_block mask region bits block (λ a low high.
    let found = hz_address-onto mask axes a named (omega arith) in
    let inside : IsInBlock mask axes bits block found.0 =
    record { size = found.1; has = found.2; address = ap (λ n. n / 2 ^ bits) found.3 ∙ block_of a block (2 ^ bits) low high } in
    any_point region (λ p. hz_address mask p == a) found.0 (holds found.0 ((is found.0).0 inside).0) (eq-eqb (hz_address mask found.0) a found.3))

-- and one of one address that has a point
pub one_block : (mask : List ℕ) (region : List (ℕ × ℕ)) (bits block : ℕ) → bits ≡ 0 → has_point_in mask region bits block ≡ true →
    block_addresses mask region bits block ≡ range_with_len (block * 2 ^ bits) (2 ^ bits)
one_block mask region bits block none some =
    let one : 2 ^ bits ≡ 1 = ap (λ n. 2 ^ n) none in
    let at = point_found region (λ p. hz_address mask p / 2 ^ bits == block) some in
    let address : hz_address mask at.0 / 2 ^ bits ≡ block = eqb-true (hz_address mask at.0 / 2 ^ bits) block at.2 in
    let same : hz_address mask at.0 / 1 ≡ block = subst (λ n. hz_address mask at.0 / n ≡ block) one address in
    whole_block mask region bits block (λ a low high.
    let low' : block * 1 ≤ a = subst (λ n. block * n ≤ a) one low in
    let high' : a < block * 1 + 1 = subst (λ n. a < block * n + n) one high in
    any_point region (λ p. hz_address mask p == a) at.0 at.1 (eq-eqb (hz_address mask at.0) a (omega (arith, same, low', high'))))

twice : (bits : ℕ) → 1 ≤ bits → 2 ^ bits ≡ 2 ^ (bits - 1) + 2 ^ (bits - 1)
twice bits some =
    let next : bits ≡ bits - 1 + 1 = omega arith in
    ap (λ n. 2 ^ n) next ∙ double (bits - 1)

-- a block is its halves
pub halves : (mask : List ℕ) (region : List (ℕ × ℕ)) (bits number : ℕ) → 1 ≤ bits →
    block_addresses mask region bits number ≡ block_addresses mask region (bits - 1) (2 * number) ++ block_addresses mask region (bits - 1) (2 * number + 1)
halves mask region bits number some =
    let n : ℕ = 2 ^ (bits - 1) in
    let test : ℕ → Bool = has_address mask region in
    let first : number * (n + n) ≡ 2 * number * n = grind arith in
    let second : 2 * number * n + n ≡ (2 * number + 1) * n = grind arith in
    ap (λ m. filter test (range_with_len (number * m) m)) (twice bits some)
    ∙ ap (λ a. filter test (range_with_len a (n + n))) first
    ∙ ap (filter test) (range-split (2 * number * n) n n)
    ∙ filter-append test (range_with_len (2 * number * n) n) (range_with_len (2 * number * n + n) n)
    ∙ ap (λ a. filter test (range_with_len (2 * number * n) n) ++ filter test (range_with_len a n)) second

-- and the halves exist
pub halves_exist : (digits bits number : ℕ) → 1 ≤ bits → bits ≤ digits → digits ≤ 40 → number < 2 ^ (digits - bits) → (2 * number + 1 < 2 ^ (digits - (bits - 1))) × (2 * number + 1 < 2 ^ 42)
halves_exist digits bits number some within few exists =
    let deeper : digits - (bits - 1) ≡ digits - bits + 1 = omega arith in
    let more : 2 ^ (digits - (bits - 1)) ≡ 2 ^ (digits - bits) + 2 ^ (digits - bits) = ap (λ n. 2 ^ n) deeper ∙ double (digits - bits) in
    let le : digits - bits ≤ 40 = omega arith in
    let most : 2 ^ (digits - bits) ≤ 2 ^ 40 = pow_mono le in
    (omega (arith, more, exists), omega (arith, most, exists))

-- the addresses of a block are below the mask's size
pub block_fits : (digits bits block : ℕ) → bits ≤ digits → block < 2 ^ (digits - bits) → block * 2 ^ bits + 2 ^ bits ≤ 2 ^ digits
block_fits digits bits block within exists =
    let parts : digits ≡ digits - bits + bits = omega arith in
    let whole : 2 ^ digits ≡ 2 ^ (digits - bits) * 2 ^ bits = ap (λ n. 2 ^ n) parts ∙ pow-add 2 (digits - bits) bits in
    let rest : ℕ = 2 ^ (digits - bits) - (block + 1) in
    let split : 2 ^ (digits - bits) ≡ block + 1 + rest = omega arith in
    let product : (block + 1 + rest) * 2 ^ bits ≡ block * 2 ^ bits + 2 ^ bits + rest * 2 ^ bits = grind arith in
    omega (arith, whole, ap (λ m. m * 2 ^ bits) split, product)

-- ---- spans that are added
pub added_none : (mask : List ℕ) (more : List ℕ) (spans : List Span) → more ≡ [] → AreAdded mask more spans spans
added_none mask more spans none = record { addresses = sym (ap (λ xs. all_addresses spans ++ xs) none ∙ append-nil (all_addresses spans)); each = λ h. h }

pub added_one : (mask : List ℕ) (more : List ℕ) (spans : List Span) (span : Span) → more ≡ span_addresses span → IsSpan mask span → AreAdded mask more spans (spans ++ span ∷ [])
added_one mask more spans span is one = record {
  addresses = flat_map-append span_addresses spans (span ∷ []) ∙ ap (λ xs. all_addresses spans ++ xs) (append-nil (span_addresses span) ∙ sym is);
  each = λ h. All-append (IsSpan mask) spans (span ∷ []) h (All-cons (IsSpan mask) span [] one (All-nil (IsSpan mask)));
}

pub added_both : (mask first second more : List ℕ) (old mid new : List Span) → more ≡ first ++ second → AreAdded mask first old mid → AreAdded mask second mid new → AreAdded mask more old new
added_both mask first second more old mid new is before behind = record {
  addresses = behind.addresses ∙ ap (λ xs. xs ++ second) before.addresses ∙ append_assoc (all_addresses old) first second ∙ ap (λ xs. all_addresses old ++ xs) (sym is);
  each = λ h. behind.each (before.each h);
}
