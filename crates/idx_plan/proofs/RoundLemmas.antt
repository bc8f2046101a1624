-- Keys that are cut into rounds.
use Rattle.std.proofs.Common.{◌≡◌, ℕ, zero, suc, ◌+◌, ◌-◌, ◌*◌, ◌/◌, ◌<◌, ◌≤◌, List, [], ◌∷◌, ◌++◌, length, map, take, drop, sym, ap, ◌∙◌, arith, All}
use Rattle.std.specs.Prelude.{max}
use Rattle.std.specs.List.{flat_map, range_with_len}
use Rattle.std.proofs.lemmas.List.{append-nil, length-take, take_all}
use Rattle.std.proofs.lemmas.List.Elements.{All-cons, All-nil}
use Rattle.std.proofs.lemmas.List.FromFn.{map-range_with_len_more}
use Rattle.std.proofs.lemmas.Grind.{flat_map-append}
use Rattle.std.proofs.Math.Nat.{le-max_right, lt-div-mul-add, mul-le-mul_right}
use Rattle.std.proofs.Math.Seq.{take-add}
use Rattle.idx_header.specs.Header.{HeaderValue}
use Rattle.idx_hall.specs.declared.key.Key.{Key}
use Rattle.idx_plan.specs.Needed.{needed_keys}
use Rattle.idx_plan.specs.Rounds.{cut_at, cut_count, cut_into, rounds, width_for}
use Rattle.idx_plan.specs.declared.ask.Ask.{Ask}

-- all items stand in the lists
pub cut-covers : (width many : ℕ) → 1 ≤ width → many ≤ cut_count width many * width
cut-covers width many some =
    let q : ℕ = (many + (width - 1)) / width in
    let below : many + (width - 1) < q * width + width = lt-div-mul-add some in
    let most : q * width ≤ max 1 q * width = mul-le-mul_right width (le-max_right 1 q) in
    omega (arith, below, most, some)

-- the first lists, joined, are the first items
pub joined-cut : (width : ℕ) (keys : List Key) (n : ℕ) → flat_map (λ (ks : List Key). ks) (map (cut_at width keys) (range_with_len 0 n)) ≡ take (n * width) keys
joined-cut width keys zero = let none : 0 ≡ 0 * width = omega arith in ap (λ n. take n keys) none
joined-cut width keys (suc n) =
    let next : suc n ≡ n + 1 = omega arith in
    let more : n * width + width ≡ suc n * width = omega arith in
    ap (λ m. flat_map (λ (ks : List Key). ks) (map (cut_at width keys) (range_with_len 0 m))) next
    ∙ ap (flat_map (λ (ks : List Key). ks)) (map-range_with_len_more (cut_at width keys) 0 n n (omega arith))
    ∙ flat_map-append (λ (ks : List Key). ks) (map (cut_at width keys) (range_with_len 0 n)) (cut_at width keys n ∷ [])
    ∙ (λ i. joined-cut width keys n i ++ append-nil (cut_at width keys n) i)
    ∙ sym (take-add (n * width) width keys)
    ∙ ap (λ m. take m keys) more

-- all lists, joined, are the items
pub joined-all : (width : ℕ) (keys : List Key) → 1 ≤ width → flat_map (λ (ks : List Key). ks) (cut_into width keys) ≡ keys
joined-all width keys some = joined-cut width keys (cut_count width (length keys)) ∙ take_all (cut_count width (length keys) * width) keys (cut-covers width (length keys) some)

-- no list has more items than that
few-cut : (width : ℕ) (keys : List Key) (numbers : List ℕ) → All (λ (ks : List Key). length ks ≤ width) (map (cut_at width keys) numbers)
few-cut width keys [] = All-nil (λ (ks : List Key). length ks ≤ width)
few-cut width keys (n ∷ numbers) =
    let few : length (cut_at width keys n) ≤ width = omega (arith, length-take width (drop (n * width) keys)) in
    All-cons (λ (ks : List Key). length ks ≤ width) (cut_at width keys n) (map (cut_at width keys) numbers) few (few-cut width keys numbers)

-- the same of a question's rounds
pub rounds-joined : (h : HeaderValue) (ask : Ask) → flat_map (λ (ks : List Key). ks) (rounds h ask) ≡ needed_keys h ask
rounds-joined h ask = joined-all (width_for h ask.field) (needed_keys h ask) (omega arith)

pub rounds-few : (h : HeaderValue) (ask : Ask) → All (λ (ks : List Key). length ks ≤ width_for h ask.field) (rounds h ask)
rounds-few h ask = few-cut (width_for h ask.field) (needed_keys h ask) (range_with_len 0 (cut_count (width_for h ask.field) (length (needed_keys h ask))))
