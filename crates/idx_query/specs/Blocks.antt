-- The blocks that an answer is copied from.
use Rattle.std.specs.Prelude.{◌≡◌, ℕ, Bool, ◌/◌, ◌%◌, ◌^◌, not, List, length, map, filter, Contains, slice_get, Some}
use Rattle.idx_hall.specs.declared.key.Key.{Key}
use Rattle.idx_hz.specs.Address.{hz_address}
use Rattle.idx_header.specs.Header.{HeaderValue, sample_bytes_of}
use Rattle.idx_scatter.specs.Asked.{asked_points}
use Rattle.idx_scatter.specs.Scatter.{sample_of}
use Rattle.idx_plan.specs.Needed.{answer_bytes, needed_keys}
use Rattle.idx_plan.specs.Plan.{PlanValue, asked_of}
use Rattle.idx_plan.specs.declared.ask.Ask.{Ask}

-- how many of some blocks are lacking, by a test of which are there
abbrev pub lacking : (ℕ → Bool) → List ℕ → ℕ
lacking has blocks = length (filter (λ block. not (has block)) blocks)

-- what is true of the plan of a question
pub record IsPlanOf (h : HeaderValue) (ask : Ask) (plan : PlanValue) : Type 0 where
  pub bytes : plan.bytes ≡ answer_bytes h ask
  pub keys : plan.keys ≡ needed_keys h ask
  pub asked : plan.asked ≡ asked_of h ask
  pub bits : plan.bits ≡ h.block_bits
  pub size : plan.size ≡ sample_bytes_of h ask.field

-- the numbers of the blocks of some keys
abbrev pub blocks_of : List Key → List ℕ
blocks_of keys = map (λ key. key.block) keys

-- Of the points that are asked for, those whose blocks are among these have their samples at their places. `stored` are the
-- bytes of each block.
abbrev pub AreCopied : PlanValue → (ℕ → List ℕ) → List ℕ → List ℕ → Type 0
AreCopied plan stored blocks out = (place : ℕ) (p : List ℕ) → slice_get (asked_points plan.asked) place ≡ Some p →
    Contains blocks (hz_address plan.asked.mask p / 2 ^ plan.bits) →
    sample_of plan.size out place ≡
    sample_of plan.size (stored (hz_address plan.asked.mask p / 2 ^ plan.bits)) (hz_address plan.asked.mask p % 2 ^ plan.bits)
