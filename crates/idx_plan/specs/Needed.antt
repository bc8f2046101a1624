-- What a question needs: why it has no plan, how large its answer is, and the blocks that hold a sample of it.
use Rattle.std.specs.Prelude.{ℕ, Bool, ◌+◌, ◌*◌, ◌/◌, ◌^◌, ◌==◌, ◌&&◌, ◌||◌, nat_lt, if◌then◌else◌, List, ◌∷◌, length, map, filter, Option, Some, None}
use Rattle.std.specs.List.{list_any, range_with_len}
use Rattle.idx_geom.specs.Region.{points}
use Rattle.idx_hz.specs.Address.{hz_address}
use Rattle.idx_hz.specs.Answer.{has_level}
use Rattle.idx_header.specs.Header.{HeaderValue, block_count, sample_bytes_of}
use Rattle.idx_hall.specs.declared.key.Key.{Key}
use Rattle.idx_plan.specs.declared.ask.Ask.{Ask}
use Rattle.idx_plan.specs.declared.plan_fault.PlanFault.{PlanFault}
use Rattle.idx_plan.specs.declared.plan_fault.PlanFault.TheVariants.{OutsideVolume, BadLevels, TooLarge}

-- how many bytes an answer may have
abbrev pub max_answer : ℕ
max_answer = 2 ^ 28

-- the least axis, from one on, on which a region leaves a box, if there is one
abbrev pub outside_axis : ℕ → List (ℕ × ℕ) → List (ℕ × ℕ) → Option ℕ
outside_axis axis (r ∷ region) (b ∷ box) =
    if nat_lt r.0 b.0 || nat_lt b.1 r.1 then Some axis else outside_axis (axis + 1) region box
outside_axis axis _ _ = None

-- a point is asked for by its level
abbrev pub is_asked : HeaderValue → Ask → List ℕ → Bool
is_asked h ask p = has_level h.mask ask.lo ask.hi p

-- how many samples the answer has
abbrev pub answer_samples : HeaderValue → Ask → ℕ
answer_samples h ask = length (filter (is_asked h ask) (points ask.region))

-- how many bytes the answer has
abbrev pub answer_bytes : HeaderValue → Ask → ℕ
answer_bytes h ask = answer_samples h ask * sample_bytes_of h ask.field

-- a block holds the address of a point that is asked for
abbrev pub is_needed : HeaderValue → Ask → ℕ → Bool
is_needed h ask block =
    list_any (λ p. is_asked h ask p && (hz_address h.mask p / 2 ^ h.block_bits == block)) (points ask.region)

-- the needed blocks, rising
abbrev pub needed : HeaderValue → Ask → List ℕ
needed h ask = filter (is_needed h ask) (range_with_len 0 (block_count h))

-- the key of a block that is asked for
abbrev pub key_of : Ask → ℕ → Key
key_of ask block = record { time = ask.time; field = ask.field; block = block }

-- the keys of the needed blocks, rising
abbrev pub needed_keys : HeaderValue → Ask → List Key
needed_keys h ask = map (key_of ask) (needed h ask)

-- why a question whose region does not leave the box has no plan, if it has none
abbrev pub fault_inside : HeaderValue → Ask → Option PlanFault
fault_inside h ask =
    if nat_lt ask.hi ask.lo || nat_lt (length h.mask) ask.hi then Some (BadLevels ask.lo ask.hi (length h.mask))
    else if nat_lt max_answer (answer_bytes h ask) then Some (TooLarge (answer_bytes h ask))
    else None

-- why a question has no plan, want of memory apart, if it has none
abbrev pub fault_by_axis : HeaderValue → Ask → Option ℕ → Option PlanFault
fault_by_axis h ask (Some axis) = Some (OutsideVolume axis)
fault_by_axis h ask None = fault_inside h ask

abbrev pub plan_fault : HeaderValue → Ask → Option PlanFault
plan_fault h ask = fault_by_axis h ask (outside_axis 0 ask.region h.box)
