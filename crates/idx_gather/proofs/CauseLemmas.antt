-- What the ranks answer is a cause of gathering's refusal.
use Rattle.std.proofs.Common.{◌≡◌, ℕ, zero, suc, ◌<◌, ◌≤◌, List, [], ◌∷◌, length, take, refl, ap, ◌∙◌, arith}
use Rattle.std.specs.Prelude.{Option, slice_index}
use Rattle.idx_header.specs.Header.{HeaderValue}
use Rattle.idx_ranks.specs.Faults.{IsRefusedBy}
use Rattle.idx_ranks.specs.declared.ranks_fault.RanksFault.{RanksFault}
use Rattle.idx_ranks.specs.declared.ranks_fault.RanksFault.TheVariants as ranks
use Rattle.idx_gather.specs.Causes.{fault_of_ranks}
use Rattle.idx_gather.specs.Gather.{HasVolume, IsCaused}

-- the first ones of two lists that are the same by their numbers
take_same : (n : ℕ) (xs ys : List ℕ) → length ys ≡ length xs → n ≤ length xs → ((i : ℕ) → i < n → slice_index ys i ≡ slice_index xs i) → take n ys ≡ take n xs
take_same zero xs ys many within each = refl
take_same (suc n) [] ys many within each = absurd (omega arith)
take_same (suc n) (x ∷ xs) [] many within each = absurd (omega (arith, many))
take_same (suc n) (x ∷ xs) (y ∷ ys) many within each =
    let rest : length ys ≡ length xs = omega (arith, many) in
    let first : y ≡ x = each zero (omega arith) in
    ap (λ z. z ∷ take n ys) first ∙ ap (λ zs. x ∷ zs) (take_same n xs ys rest (omega (arith, within)) (λ i below. each (suc i) (omega (arith, below))))

pub ranks_caused : (h : HeaderValue) (raw : Option (List ℕ)) (before after : List ℕ) (count : ℕ) (fault : RanksFault) → HasVolume h raw → length after ≡ length before →
    IsRefusedBy before after fault → IsCaused h raw before after count count (fault_of_ranks fault)
ranks_caused h raw before after count (ranks.RawFault rank faults) has many least = (
  record {
    within = least.within;
    count_is = least.is;
    rose = least.rose;
    lesser = take_same rank before after many (omega (arith, least.within)) least.least;
  },
  refl,
)
ranks_caused h raw before after count ranks.NoMemory has many same = (has, same, refl)
