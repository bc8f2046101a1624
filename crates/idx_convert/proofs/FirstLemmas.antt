-- What gathering by the first raw volumes says of all of them, where the rest are as they were.
use Rattle.std.proofs.Common.{◌≡◌, ℕ, ◌+◌, ◌<◌, ◌≤◌, List, [], ◌∷◌, ◌++◌, Option, None, length, map, drop, slice_index, slice_index_or, inl, inr, refl, sym, ap, subst, ◌∙◌, arith}
use Rattle.std.proofs.lemmas.Bool.{cases_lt}
use Rattle.std.proofs.lemmas.List.{drop_at, get_or_append_left, get_or-append_right, length-append, length-map, map-append, take-append-le}
use Rattle.std.specs.Prelude.{◌⊎◌, IfErr, Result, Ok, Err}
use Rattle.idx_outside.specs.Cause.{MeetsOnce, NeverFalls, Rose}
use Rattle.idx_outside.specs.Counts.{EachMeetsOnce}
use Rattle.idx_outside.specs.Objects.{SameContents, contents_at}
use Rattle.idx_header.specs.Header.{HeaderValue}
use Rattle.idx_gather.specs.declared.gather_fault.GatherFault.{GatherFault}
use Rattle.idx_gather.specs.declared.gather_fault.GatherFault.TheVariants.{RawWrongSize, RawFault, StoreFault, NoMemory}
use Rattle.idx_gather.specs.Gather.{HaveSame, IsCaused, IsRankFault, NoneFalls}

-- some counts before and after, of which the rest stay
module _ (before after rest : List ℕ) (number : length after ≡ length before) where
  first_after : (i : ℕ) → i < length before → slice_index (after ++ rest) i ≡ slice_index after i
  first_after i less = get_or_append_left after rest 0 i (omega (arith, number))

  first_before : (i : ℕ) → i < length before → slice_index (before ++ rest) i ≡ slice_index before i
  first_before i less = get_or_append_left before rest 0 i less

  rest_same : (i : ℕ) → length before ≤ i → slice_index (after ++ rest) i ≡ slice_index (before ++ rest) i
  rest_same i more =
      get_or-append_right after rest (length before) i 0 number more
      ∙ sym (get_or-append_right before rest (length before) i 0 refl more)

  none_falls : NoneFalls before after → NoneFalls (before ++ rest) (after ++ rest)
  none_falls (same, each) = (length-append after rest ∙ ap (λ n. n + length rest) number ∙ sym (length-append before rest), λ i within. by i (cases_lt i (length before)))
    where
      by : (i : ℕ) → (i < length before) ⊎ (length before ≤ i) → NeverFalls (slice_index (before ++ rest) i) (slice_index (after ++ rest) i)
      by i (inl less) = omega (arith, first_after i less, first_before i less, each i less)
      by i (inr more) = omega (arith, rest_same i more)

  each_met : EachMeetsOnce before after → EachMeetsOnce (before ++ rest) (after ++ rest)
  each_met each i = by (cases_lt i (length before))
    where
      by : (i < length before) ⊎ (length before ≤ i) → MeetsOnce (slice_index (before ++ rest) i) (slice_index (after ++ rest) i)
      by (inl less) = omega (arith, first_after i less, first_before i less, each i)
      by (inr more) = omega (arith, rest_same i more)

  rank_fault : (rank faults : ℕ) → IsRankFault before after rank faults → IsRankFault (before ++ rest) (after ++ rest) rank faults
  rank_fault rank faults f =
      record {
        within = omega (arith, f.within, length-append before rest);
        count_is = f.count_is ∙ sym (first_after rank f.within);
        rose = subst (λ n. Rose (slice_index (before ++ rest) rank) n) (sym (first_after rank f.within))
            (subst (λ n. Rose n (slice_index after rank)) (sym (first_before rank f.within)) f.rose);
        lesser = take-append-le rank after rest (omega (arith, f.within, number)) ∙ f.lesser
            ∙ sym (take-append-le rank before rest (omega (arith, f.within)));
      }

  caused : (h : HeaderValue) (raw : Option (List ℕ)) (old new : ℕ) (fault : GatherFault) →
      IsCaused h raw before after old new fault → IsCaused h raw (before ++ rest) (after ++ rest) old new fault
  caused h raw old new (RawWrongSize want found) c = (c.0, c.1, c.2, ap (λ counts. counts ++ rest) c.3, c.4)
  caused h raw old new (RawFault rank faults) c = (rank_fault rank faults c.0, c.1)
  caused h raw old new (StoreFault faults) c = (c.0, c.1, c.2, ap (λ counts. counts ++ rest) c.3)
  caused h raw old new NoMemory c = (c.0, ap (λ counts. counts ++ rest) c.1, c.2)

-- Of the raw volumes, before and after, these are the first, and the rest are as they were.
pub record Parted {V : Type 0} (old new first after rest : List V) : Type 0 where
  pub was : old ≡ first ++ rest
  pub is : new ≡ after ++ rest
  pub number : length after ≡ length first
  pub some : 0 < length first

first_contents : {V : Type 0} (contents : V → Option (List ℕ)) (first rest : List V) → 0 < length first →
    contents_at contents (first ++ rest) 0 ≡ contents_at contents first 0
first_contents contents [] rest some = absurd (omega (arith, some))
first_contents contents (raw ∷ first) rest some = refl

-- what is so of all is so of the first
pub first_alike : {V : Type 0} (contents : V → Option (List ℕ)) (old first rest : List V) → old ≡ first ++ rest → 0 < length first →
    HaveSame contents old → HaveSame contents first
first_alike contents old first rest was some same = λ i within.
    let here : HaveSame contents (first ++ rest) = subst (HaveSame contents) was same in
    sym (at i within) ∙ here i (omega (arith, within, length-append first rest)) ∙ first_contents contents first rest some
  where
    at : (i : ℕ) → i < length first → contents_at contents (first ++ rest) i ≡ contents_at contents first i
    at i within =
        ap (λ all. slice_index_or all i None) (map-append contents first rest)
        ∙ get_or_append_left (map contents first) (map contents rest) None i (omega (arith, within, length-map first contents))

module _ {V : Type 0} (old new first after rest : List V) (parted : Parted old new first after rest) where
  pub contents_first : (contents : V → Option (List ℕ)) → contents_at contents first 0 ≡ contents_at contents old 0
  contents_first contents =
      sym (first_contents contents first rest parted.some) ∙ ap (λ all. contents_at contents all 0) (sym parted.was)

  abbrev old_is : {T : Type 0} (count : V → T) → Type 0
  old_is count = map count old ≡ map count first ++ map count rest

  was_counts : {T : Type 0} (count : V → T) → old_is count
  was_counts count = ap (map count) parted.was ∙ map-append count first rest

  now_counts : {T : Type 0} (count : V → T) → map count new ≡ map count after ++ map count rest
  now_counts count = ap (map count) parted.is ∙ map-append count after rest

  numbers : (count : V → ℕ) → length (map count after) ≡ length (map count first)
  numbers count = length-map after count ∙ parted.number ∙ sym (length-map first count)

  -- what stays of each of the first stays of all
  pub same_all : {T : Type 0} (count : V → T) → map count after ≡ map count first → map count new ≡ map count old
  same_all count same = now_counts count ∙ ap (λ counts. counts ++ map count rest) same ∙ sym (was_counts count)

  pub none_falls_all : (count : V → ℕ) → NoneFalls (map count first) (map count after) → NoneFalls (map count old) (map count new)
  none_falls_all count each =
      subst (λ before. NoneFalls before (map count new)) (sym (was_counts count))
      (subst (λ now. NoneFalls (map count first ++ map count rest) now) (sym (now_counts count))
      (none_falls (map count first) (map count after) (map count rest) (numbers count) each))

  pub each_met_all : (count : V → ℕ) → EachMeetsOnce (map count first) (map count after) → EachMeetsOnce (map count old) (map count new)
  each_met_all count each =
      subst (λ before. EachMeetsOnce before (map count new)) (sym (was_counts count))
      (subst (λ now. EachMeetsOnce (map count first ++ map count rest) now) (sym (now_counts count))
      (each_met (map count first) (map count after) (map count rest) (numbers count) each))

  pub caused_all : (contents : V → Option (List ℕ)) (count : V → ℕ) (h : HeaderValue) (before now : ℕ) {T : Type 0} (result : Result T GatherFault) →
      IfErr result (IsCaused h (contents_at contents first 0) (map count first) (map count after) before now) →
      IfErr result (IsCaused h (contents_at contents old 0) (map count old) (map count new) before now)
  caused_all contents count h before now (Ok done) c = tt
  caused_all contents count h before now (Err fault) c =
      subst (λ raw. IsCaused h raw (map count old) (map count new) before now fault) (contents_first contents)
      (subst (λ counts. IsCaused h (contents_at contents first 0) counts (map count new) before now fault) (sym (was_counts count))
      (subst (λ counts. IsCaused h (contents_at contents first 0) (map count first ++ map count rest) counts before now fault) (sym (now_counts count))
      (caused (map count first) (map count after) (map count rest) (numbers count) h (contents_at contents first 0) before now fault c)))

  pub idle_all : (n : ℕ) → n ≡ length first → drop n new ≡ drop n old
  idle_all n is =
      ap (drop n) parted.is ∙ drop_at after rest n (omega (arith, is, parted.number))
      ∙ sym (ap (drop n) parted.was ∙ drop_at first rest n (sym is))

-- where the contents of the first stay, they are as many
pub as_many : {V : Type 0} (contents : V → Option (List ℕ)) (first after : List V) → SameContents contents first after → length after ≡ length first
as_many contents first after same = sym (length-map after contents) ∙ ap length same ∙ length-map first contents
