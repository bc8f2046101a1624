-- A plan by its values.
use Rattle.std.specs.Prelude.{◌≡◌, ℕ, ◌-◌, ◌*◌, ◌<◌, ◌≤◌, ◌^◌, List, length, All}
use Rattle.idx_geom.specs.Region.{upper_ends}
use Rattle.idx_hz.specs.Mask.{HasAddress, IsMask}
use Rattle.idx_header.specs.Header.{HeaderValue}
use Rattle.idx_scatter.specs.Asked.{Asked, asked_points}
use Rattle.idx_hall.specs.declared.key.Key.{Key}
use Rattle.idx_plan.specs.declared.ask.Ask.{Ask}
use Rattle.idx_plan.specs.Needed.{max_answer}

-- how many samples and bytes the answer has, the keys of the blocks that hold a sample of it, rising, which points are asked
-- for, how many bits the place of a sample in its block has, and how many bytes a sample
pub record PlanValue : Type 0 where
  pub samples : ℕ
  pub bytes : ℕ
  pub keys : List Key
  pub asked : Asked
  pub bits : ℕ
  pub size : ℕ

-- what is true of each plan
pub record IsPlan (plan : PlanValue) : Type 0 where
  pub few : plan.bytes ≤ max_answer
  pub whole : plan.bytes ≡ plan.size * length (asked_points plan.asked)
  pub mask : IsMask plan.asked.mask
  pub address : HasAddress plan.asked.mask (upper_ends plan.asked.region)
  pub bits : plan.bits ≤ length plan.asked.mask
  pub few_bits : plan.bits ≤ 20
  pub some_bytes : 1 ≤ plan.size
  pub few_bytes : plan.size ≤ 64
  pub exist : All (λ key. key.block < 2 ^ (length plan.asked.mask - plan.bits)) plan.keys

-- the points that a question asks for
abbrev pub asked_of : HeaderValue → Ask → Asked
asked_of h ask = record { mask = h.mask; region = ask.region; lo = ask.lo; hi = ask.hi }
