-- What is true of a plan that was made.
use Rattle.std.proofs.Common.{◌≡◌, ℕ, ◌-◌, ◌*◌, ◌^◌, ◌<◌, ◌≤◌, List, length, filter, sym, ap, ◌∙◌, subst, arith}
use Rattle.std.specs.Prelude.{All}
use Rattle.std.specs.List.{range_with_len}
use Rattle.std.proofs.lemmas.List.Elements.{All-filter, All-map}
use Rattle.std.proofs.Math.Nat.{mul_comm}
use Rattle.idx_geom.specs.Region.{LiesIn, upper_ends}
use Rattle.idx_hz.specs.Mask.{HasAddress, IsMask}
use Rattle.idx_hz.proofs.RegionLemmas.{HasAddress-from_end}
use Rattle.idx_header.specs.Header.{HeaderValue, IsHeader, block_count}
use Rattle.idx_stride.proofs.RangeLemmas.{All-range}
use Rattle.idx_scatter.specs.Asked.{Asked, asked_points}
use Rattle.idx_hall.specs.declared.key.Key.{Key}
use Rattle.idx_plan.specs.declared.ask.Ask.{Ask}
use Rattle.idx_plan.specs.Needed.{answer_samples, is_needed, key_of, max_answer, needed_keys}
use Rattle.idx_plan.specs.Plan.{IsPlan, PlanValue, asked_of}

-- the blocks of the keys exist
keys-exist : (h : HeaderValue) (ask : Ask) → All (λ (key : Key). key.block < block_count h) (needed_keys h ask)
keys-exist h ask =
    All-map (λ (key : Key). key.block < block_count h) (key_of ask) (filter (is_needed h ask) (range_with_len 0 (block_count h)))
    (All-filter (is_needed h ask) (λ block. block < block_count h) (range_with_len 0 (block_count h))
    (All-range (λ block. block < block_count h) 0 (block_count h) (λ k from below. omega (arith, below))))

pub plan-is : (h : HeaderValue) (ask : Ask) (plan : PlanValue) → IsHeader h → LiesIn h.box (upper_ends ask.region) → plan.asked ≡ asked_of h ask → plan.samples ≡ answer_samples h ask → plan.bytes ≡ plan.samples * plan.size →
    plan.bytes ≤ max_answer → plan.keys ≡ needed_keys h ask → plan.bits ≡ h.block_bits → 1 ≤ plan.size → plan.size ≤ 64 → IsPlan plan
plan-is h ask plan valid upper asked samples bytes few keys bits some_bytes few_bytes = record {
  few = few;
  whole = bytes ∙ ap (λ n. n * plan.size) samples ∙ mul_comm (answer_samples h ask) plan.size ∙ ap (λ (a : Asked). plan.size * length (asked_points a)) (sym asked);
  mask = subst (λ (a : Asked). IsMask a.mask) (sym asked) valid.mask;
  address = subst (λ (a : Asked). HasAddress a.mask (upper_ends a.region)) (sym asked) (HasAddress-from_end h.mask h.box (upper_ends ask.region) valid.covered upper);
  bits = omega (arith, bits, valid.bits_within, ap (λ (a : Asked). length a.mask) asked);
  few_bits = omega (arith, bits, valid.bits_few);
  some_bytes = some_bytes;
  few_bytes = few_bytes;
  exist =
      let count : block_count h ≡ 2 ^ (length plan.asked.mask - plan.bits) = sym ((λ i. 2 ^ (length (asked i).mask - bits i))) in
      subst (λ (n : ℕ). All (λ (key : Key). key.block < n) plan.keys) count
      (subst (λ (ks : List Key). All (λ (key : Key). key.block < block_count h) ks) (sym keys) (keys-exist h ask));
}
