-- A permutation of bits is split into two that take themselves back, cycle by cycle.
use Rattle.std.proofs.Common.{◌≡◌, ◌≢◌, ℕ, zero, suc, ◌+◌, ◌<◌, ◌≤◌, ◌⊎◌, List, length, get_or, refl, sym, ap, ◌∙◌, inl, inr, ⊎_elim, arith, subst}
use Rattle.std.proofs.Math.ListN.{set}
use Rattle.std.proofs.lemmas.Bool.{cases_eq, cases_lt}
use Rattle.std.proofs.lemmas.List.{get_or-set_same, get_or-set_other, get_or-replicate, length-set}
use Rattle.std.specs.Prelude.{replicate}
use Rattle.idx_rowmajor.specs.Bits.{ArePlaces}
use Rattle.idx_rowmajor.specs.Involutions.{AreInvolutions, IsSplitAt, AreSplit, ArePaired}
use Rattle.idx_rowmajor.specs.Targets.{AreInverse}
use Rattle.idx_rowmajor.proofs.CycleLemmas.{steps, AreBack, AreBack-other, steps-lt, same_behind, same_across, round_of, early, one_before}

pub ArePaired-set : (a b : ℕ) (old : List ℕ) → length old ≡ 20 → a < 20 → b < 20 → ArePaired a b old (set (set old a b) b a)
ArePaired-set a b old room small_a small_b =
    let long : length (set old a b) ≡ 20 = length-set old a b ∙ room in
    record {
      first = ⊎_elim
          (λ (same : a ≡ b). ap (λ n. get_or (set (set old a b) b a) n 0) same ∙ get_or-set_same (set old a b) b a 0 (omega arith) ∙ same)
          (λ (other : a ≢ b). get_or-set_other (set old a b) b a a 0 (λ e. other e) ∙ get_or-set_same old a b 0 (omega arith))
          (cases_eq a b);
      second = get_or-set_same (set old a b) b a 0 (omega arith);
      others = λ i off_a off_b. get_or-set_other (set old a b) b i a 0 off_b ∙ get_or-set_other old a i b 0 off_a;
    }

pub AreBack-places : (bits : ℕ) (targets inverse : List ℕ) → ArePlaces bits targets → AreInverse bits targets inverse → AreBack bits (λ i. get_or targets i 0) (λ i. get_or inverse i 0)
AreBack-places bits targets inverse are back = record {
  into = are.within;
  back_into = λ i inside. let at = are.onto i inside in subst (λ k. k < bits) (sym (ap (λ k. get_or inverse k 0) (sym at.2) ∙ back at.0 at.1)) at.1;
  back = back;
  forth = λ i inside. let at = are.onto i inside in ap (λ k. get_or targets k 0) (ap (λ k. get_or inverse k 0) (sym at.2) ∙ back at.0 at.1) ∙ at.2;
}

-- ---- pairs of places

-- one list of pairs: what stands at a place ahead is the place as far behind, and the other way round
pub record ArePairs (count : ℕ) (a d : ℕ → ℕ) (list : List ℕ) : Type 0 where
  pub ahead : (k : ℕ) → k < count → get_or list (a k) 0 ≡ d k
  pub behind : (k : ℕ) → k < count → get_or list (d k) 0 ≡ a k

-- one pair more, where equal places have equal partners
ArePairs-more : (count : ℕ) (a d : ℕ → ℕ) (old new : List ℕ) → ((i j : ℕ) → a i ≡ a j → d i ≡ d j) → ((i j : ℕ) → d i ≡ d j → a i ≡ a j) → ((i j : ℕ) → a i ≡ d j → d i ≡ a j) →
    ArePaired (a count) (d count) old new → ArePairs count a d old → ArePairs (count + 1) a d new
ArePairs-more count a d old new same_a same_d across paired pairs = record {
  ahead = λ k below. ⊎_elim
      (λ (at : a k ≡ a count). ap (λ n. get_or new n 0) at ∙ paired.first ∙ sym (same_a k count at))
      (λ (off : a k ≢ a count). ⊎_elim
      (λ (at : a k ≡ d count). ap (λ n. get_or new n 0) at ∙ paired.second ∙ sym (across k count at))
      (λ (away : a k ≢ d count). paired.others (a k) off away ∙ pairs.ahead k (earlier k below (λ same. off (ap a same))))
      (cases_eq (a k) (d count)))
      (cases_eq (a k) (a count));
  behind = λ k below. ⊎_elim
      (λ (at : d k ≡ d count). ap (λ n. get_or new n 0) at ∙ paired.second ∙ sym (same_d k count at))
      (λ (off : d k ≢ d count). ⊎_elim
      (λ (at : d k ≡ a count). ap (λ n. get_or new n 0) at ∙ paired.first ∙ across count k (sym at))
      (λ (away : d k ≢ a count). paired.others (d k) away off ∙ pairs.behind k (earlier k below (λ same. off (ap d same))))
      (cases_eq (d k) (a count)))
      (cases_eq (d k) (d count));
}
  where
    earlier : (k : ℕ) → k < count + 1 → k ≢ count → k < count
    earlier k below off = omega arith

-- ---- the walk along a cycle and against it

-- the place so many steps away
abbrev pub on_way : List ℕ → ℕ → ℕ → ℕ
on_way places start k = steps (λ i. get_or places i 0) k start

-- a number is no place on the way
abbrev pub IsAway : List ℕ → List ℕ → ℕ → ℕ → Type 0
IsAway targets inverse start i = (k : ℕ) → (i ≢ on_way targets start k) × (i ≢ on_way inverse start k)

-- so many pairs are made; the places ahead and behind are those of the next one
pub record IsWalked (count start front rear : ℕ) (targets inverse inner outer first second : List ℕ) : Type 0 where
  pub first_room : length first ≡ 20
  pub second_room : length second ≡ 20
  pub ahead : front ≡ on_way targets start count
  pub behind : rear ≡ on_way inverse start count
  pub first_pairs : ArePairs count (on_way targets start) (on_way inverse start) first
  pub second_pairs : ArePairs count (λ k. on_way targets start (suc k)) (on_way inverse start) second
  pub first_others : (i : ℕ) → IsAway targets inverse start i → get_or first i 0 ≡ get_or inner i 0
  pub second_others : (i : ℕ) → IsAway targets inverse start i → get_or second i 0 ≡ get_or outer i 0

pub IsWalked-none : (start : ℕ) (targets inverse inner outer : List ℕ) → length inner ≡ 20 → length outer ≡ 20 → IsWalked 0 start start start targets inverse inner outer inner outer
IsWalked-none start targets inverse inner outer room room' = record {
  first_room = room;
  second_room = room';
  ahead = refl;
  behind = refl;
  first_pairs = record { ahead = λ k none. absurd (omega arith); behind = λ k none. absurd (omega arith) };
  second_pairs = record { ahead = λ k none. absurd (omega arith); behind = λ k none. absurd (omega arith) };
  first_others = λ i off. refl;
  second_others = λ i off. refl;
}

module _ (bits start : ℕ) (targets inverse : List ℕ) (few : bits ≤ 20) (small : start < bits) (are : ArePlaces bits targets) (back : AreInverse bits targets inverse) where
  maps : AreBack bits (λ i. get_or targets i 0) (λ i. get_or inverse i 0)
  maps = AreBack-places bits targets inverse are back

  others : AreBack bits (λ i. get_or inverse i 0) (λ i. get_or targets i 0)
  others = AreBack-other bits (λ i. get_or targets i 0) (λ i. get_or inverse i 0) maps

  ahead-lt : (k : ℕ) → on_way targets start k < bits
  ahead-lt k = steps-lt bits (λ i. get_or targets i 0) (λ i. get_or inverse i 0) maps k start small

  behind-lt : (k : ℕ) → on_way inverse start k < bits
  behind-lt k = steps-lt bits (λ i. get_or inverse i 0) (λ i. get_or targets i 0) others k start small

  same_a : (i j : ℕ) → on_way targets start i ≡ on_way targets start j → on_way inverse start i ≡ on_way inverse start j
  same_a i j = same_behind bits (λ i. get_or targets i 0) (λ i. get_or inverse i 0) maps i j start small

  same_d : (i j : ℕ) → on_way inverse start i ≡ on_way inverse start j → on_way targets start i ≡ on_way targets start j
  same_d i j = same_behind bits (λ i. get_or inverse i 0) (λ i. get_or targets i 0) others i j start small

  across : (i j : ℕ) → on_way targets start i ≡ on_way inverse start j → on_way inverse start i ≡ on_way targets start j
  across i j = same_across bits (λ i. get_or targets i 0) (λ i. get_or inverse i 0) maps i j start small

  back_one : (k : ℕ) → get_or inverse (on_way targets start (suc k)) 0 ≡ on_way targets start k
  back_one k = maps.back (on_way targets start k) (ahead-lt k)

  forth_one : (k : ℕ) → get_or targets (on_way inverse start (suc k)) 0 ≡ on_way inverse start k
  forth_one k = maps.forth (on_way inverse start k) (behind-lt k)

  -- the same one step further ahead
  next_a : (i j : ℕ) → on_way targets start (suc i) ≡ on_way targets start (suc j) → on_way inverse start i ≡ on_way inverse start j
  next_a i j same = same_a i j (sym (back_one i) ∙ ap (λ n. get_or inverse n 0) same ∙ back_one j)

  next_d : (i j : ℕ) → on_way inverse start i ≡ on_way inverse start j → on_way targets start (suc i) ≡ on_way targets start (suc j)
  next_d i j same = ap (λ n. get_or targets n 0) (same_d i j same)

  next_across : (i j : ℕ) → on_way targets start (suc i) ≡ on_way inverse start j → on_way inverse start i ≡ on_way targets start (suc j)
  next_across i j same = sym (forth_one i) ∙ ap (λ n. get_or targets n 0) (across (suc i) j same)

  -- one pair more in each list
  pub IsWalked-more : (count front rear next : ℕ) (inner outer first second first' second' : List ℕ) → IsWalked count start front rear targets inverse inner outer first second →
      next ≡ get_or targets front 0 → length first' ≡ 20 → length second' ≡ 20 → ArePaired front rear first first' → ArePaired next rear second second' →
      IsWalked (count + 1) start next (get_or inverse rear 0) targets inverse inner outer first' second'
  IsWalked-more count front rear next inner outer first second first' second' walked is room room' paired paired' =
      let one : count + 1 ≡ suc count = omega arith in
      let step : next ≡ on_way targets start (suc count) = is ∙ ap (λ n. get_or targets n 0) walked.ahead in
      let pair : ArePaired (on_way targets start count) (on_way inverse start count) first first' =
      subst (λ n. ArePaired (on_way targets start count) n first first') walked.behind (subst (λ n. ArePaired n rear first first') walked.ahead paired) in
      let pair' : ArePaired (on_way targets start (suc count)) (on_way inverse start count) second second' =
      subst (λ n. ArePaired (on_way targets start (suc count)) n second second') walked.behind (subst (λ n. ArePaired n rear second second') step paired') in
      record {
        first_room = room;
        second_room = room';
        ahead = step ∙ ap (on_way targets start) (sym one);
        behind = ap (λ n. get_or inverse n 0) walked.behind ∙ ap (on_way inverse start) (sym one);
        first_pairs = ArePairs-more count (on_way targets start) (on_way inverse start) first first' same_a same_d across pair walked.first_pairs;
        second_pairs = ArePairs-more count (λ k. on_way targets start (suc k)) (on_way inverse start) second second' next_a next_d next_across pair' walked.second_pairs;
        first_others = λ i off. pair.others i (off count).0 (off count).1 ∙ walked.first_others i off;
        second_others = λ i off. pair'.others i (off (suc count)).0 (off count).1 ∙ walked.second_others i off;
      }

  pub front-lt : (count front rear : ℕ) (inner outer first second : List ℕ) → IsWalked count start front rear targets inverse inner outer first second → (front < 20) × (rear < 20)
  front-lt count front rear inner outer first second walked =
      let a : on_way targets start count < bits = ahead-lt count in
      let d : on_way inverse start count < bits = behind-lt count in
      (omega (arith, walked.ahead), omega (arith, walked.behind))

  pub next-lt : (count front rear : ℕ) (inner outer first second : List ℕ) → IsWalked count start front rear targets inverse inner outer first second → get_or targets front 0 < 20
  next-lt count front rear inner outer first second walked =
      let a : on_way targets start (suc count) < bits = ahead-lt (suc count) in
      omega (arith, ap (λ n. get_or targets n 0) walked.ahead)

  -- ---- at the end of the walk

  module _ (inner outer : List ℕ) (before : AreSplit bits targets inverse inner outer) (none : get_or inner start 0 ≡ 20) where
    -- no place on the way was taken before
    free_ahead : (k : ℕ) → get_or inner (on_way targets start k) 0 ≡ 20
    free_ahead zero = none
    free_ahead (suc k) = ⊎_elim
        (λ (free : get_or inner (on_way targets start (suc k)) 0 ≡ 20). free)
        (λ (taken : get_or inner (on_way targets start (suc k)) 0 ≢ 20).
        absurd ((before.each (on_way targets start (suc k)) (ahead-lt (suc k)) taken).last_has (ap (λ n. get_or inner n 0) (back_one k) ∙ free_ahead k)))
        (cases_eq (get_or inner (on_way targets start (suc k)) 0) 20)

    free_behind : (k : ℕ) → get_or inner (on_way inverse start k) 0 ≡ 20
    free_behind zero = none
    free_behind (suc k) = ⊎_elim
        (λ (free : get_or inner (on_way inverse start (suc k)) 0 ≡ 20). free)
        (λ (taken : get_or inner (on_way inverse start (suc k)) 0 ≢ 20).
        absurd ((before.each (on_way inverse start (suc k)) (behind-lt (suc k)) taken).next_has (ap (λ n. get_or inner n 0) (forth_one k) ∙ free_behind k)))
        (cases_eq (get_or inner (on_way inverse start (suc k)) 0) 20)

    away : (i : ℕ) → get_or inner i 0 ≢ 20 → IsAway targets inverse start i
    away i taken k = (λ at. taken (ap (λ n. get_or inner n 0) at ∙ free_ahead k), λ at. taken (ap (λ n. get_or inner n 0) at ∙ free_behind k))

    module _ (front rear : ℕ) (first second : List ℕ) (walked : IsWalked bits start front rear targets inverse inner outer first second) where
      -- the pairs of all places on the way
      all_first : (i : ℕ) → (get_or first (on_way targets start i) 0 ≡ on_way inverse start i) × (get_or first (on_way inverse start i) 0 ≡ on_way targets start i)
      all_first i =
          let round = round_of bits (λ i. get_or targets i 0) (λ i. get_or inverse i 0) maps start small in
          let at = early (λ i. get_or targets i 0) (λ i. get_or inverse i 0) start bits round.0 round.1 i in
          let within : at.0 < bits = omega (arith, at.1, round.1.few) in (
            ap (λ n. get_or first n 0) at.2 ∙ walked.first_pairs.ahead at.0 within ∙ sym at.3,
            ap (λ n. get_or first n 0) at.3 ∙ walked.first_pairs.behind at.0 within ∙ sym at.2,
          )

      all_second : (i : ℕ) → (get_or second (on_way targets start (suc i)) 0 ≡ on_way inverse start i) × (get_or second (on_way inverse start i) 0 ≡ on_way targets start (suc i))
      all_second i =
          let round = round_of bits (λ i. get_or targets i 0) (λ i. get_or inverse i 0) maps start small in
          let at = early (λ i. get_or targets i 0) (λ i. get_or inverse i 0) start bits round.0 round.1 i in
          let within : at.0 < bits = omega (arith, at.1, round.1.few) in
          let next : on_way targets start (suc i) ≡ on_way targets start (suc at.0) = ap (λ n. get_or targets n 0) at.2 in (
            ap (λ n. get_or second n 0) next ∙ walked.second_pairs.ahead at.0 within ∙ sym at.3,
            ap (λ n. get_or second n 0) at.3 ∙ walked.second_pairs.behind at.0 within ∙ sym next,
          )

      has_ahead : (i : ℕ) → get_or first (on_way targets start i) 0 ≢ 20
      has_ahead i same = let low : on_way inverse start i < bits = behind-lt i in omega (arith, (all_first i).0)

      has_behind : (i : ℕ) → get_or first (on_way inverse start i) 0 ≢ 20
      has_behind i same = let low : on_way targets start i < bits = ahead-lt i in omega (arith, (all_first i).1)

      split_ahead : (k : ℕ) → IsSplitAt bits targets inverse first second (on_way targets start (suc k))
      split_ahead k = record {
        first_in = subst (λ n. n < bits) (sym (all_first (suc k)).0) (behind-lt (suc k));
        first_back = ap (λ n. get_or first n 0) (all_first (suc k)).0 ∙ (all_first (suc k)).1;
        second_in = subst (λ n. n < bits) (sym (all_second k).0) (behind-lt k);
        second_back = ap (λ n. get_or second n 0) (all_second k).0 ∙ (all_second k).1;
        second_has = λ same. has_behind k (sym (ap (λ n. get_or first n 0) (all_second k).0) ∙ same);
        both = ap (λ n. get_or second n 0) (all_first (suc k)).0 ∙ (all_second (suc k)).1;
        next_has = has_ahead (suc (suc k));
        last_has = λ same. has_ahead k (sym (ap (λ n. get_or first n 0) (back_one k)) ∙ same);
      }

      split_behind : (k : ℕ) → IsSplitAt bits targets inverse first second (on_way inverse start (suc k))
      split_behind k = record {
        first_in = subst (λ n. n < bits) (sym (all_first (suc k)).1) (ahead-lt (suc k));
        first_back = ap (λ n. get_or first n 0) (all_first (suc k)).1 ∙ (all_first (suc k)).0;
        second_in = subst (λ n. n < bits) (sym (all_second (suc k)).1) (ahead-lt (suc (suc k)));
        second_back = ap (λ n. get_or second n 0) (all_second (suc k)).1 ∙ (all_second (suc k)).0;
        second_has = λ same. has_ahead (suc (suc k)) (sym (ap (λ n. get_or first n 0) (all_second (suc k)).1) ∙ same);
        both = ap (λ n. get_or second n 0) (all_first (suc k)).1 ∙ (all_second k).0 ∙ sym (forth_one k);
        next_has = λ same. has_behind k (sym (ap (λ n. get_or first n 0) (forth_one k)) ∙ same);
        last_has = has_behind (suc (suc k));
      }

      -- what was there before stays
      kept : (i : ℕ) → get_or inner i 0 ≢ 20 → (get_or first i 0 ≡ get_or inner i 0) × (get_or second i 0 ≡ get_or outer i 0)
      kept i taken = (walked.first_others i (away i taken), walked.second_others i (away i taken))

      kept_has : (i : ℕ) → get_or inner i 0 ≢ 20 → get_or first i 0 ≢ 20
      kept_has i taken same = taken (sym (kept i taken).0 ∙ same)

      split_other : (i : ℕ) → i < bits → get_or inner i 0 ≢ 20 → IsSplitAt bits targets inverse first second i
      split_other i inside taken =
          let was : IsSplitAt bits targets inverse inner outer i = before.each i inside taken in
          let a : ℕ = get_or inner i 0 in
          let b : ℕ = get_or outer i 0 in
          let has_a : get_or inner a 0 ≢ 20 = λ same. omega (arith, was.first_back) in
          let here : get_or first i 0 ≡ a = (kept i taken).0 in
          let here' : get_or second i 0 ≡ b = (kept i taken).1 in
          record {
            first_in = subst (λ n. n < bits) (sym here) was.first_in;
            first_back = ap (λ n. get_or first n 0) here ∙ (kept a has_a).0 ∙ was.first_back;
            second_in = subst (λ n. n < bits) (sym here') was.second_in;
            second_back = ap (λ n. get_or second n 0) here' ∙ (kept b was.second_has).1 ∙ was.second_back;
            second_has = λ same. kept_has b was.second_has (sym (ap (λ n. get_or first n 0) here') ∙ same);
            both = ap (λ n. get_or second n 0) here ∙ (kept a has_a).1 ∙ was.both;
            next_has = kept_has (get_or targets i 0) was.next_has;
            last_has = kept_has (get_or inverse i 0) was.last_has;
          }

      split_on_way : (i k : ℕ) → (i ≡ on_way targets start k) ⊎ (i ≡ on_way inverse start k) → IsSplitAt bits targets inverse first second i
      split_on_way i k at =
          let round = round_of bits (λ i. get_or targets i 0) (λ i. get_or inverse i 0) maps start small in
          let one = one_before (λ i. get_or targets i 0) (λ i. get_or inverse i 0) start bits round.0 round.1 k in
          ⊎_elim
          (λ (is : i ≡ on_way targets start k). subst (IsSplitAt bits targets inverse first second) (sym (is ∙ one.1)) (split_ahead one.0))
          (λ (is : i ≡ on_way inverse start k). subst (IsSplitAt bits targets inverse first second) (sym (is ∙ one.2)) (split_behind one.0))
          at

      -- a number is one of the first places on the way, or none of them
      found_within : (i n : ℕ) → ((k : ℕ) × (k < n) × ((i ≡ on_way targets start k) ⊎ (i ≡ on_way inverse start k))) ⊎ ((k : ℕ) → k < n → (i ≢ on_way targets start k) × (i ≢ on_way inverse start k))
      found_within i zero = inr (λ k none. absurd (omega arith))
      found_within i (suc n) = ⊎_elim
          (λ (found : (k : ℕ) × (k < n) × ((i ≡ on_way targets start k) ⊎ (i ≡ on_way inverse start k))). inl (found.0, omega (arith, found.1), found.2))
          (λ (off : (k : ℕ) → k < n → (i ≢ on_way targets start k) × (i ≢ on_way inverse start k)). ⊎_elim
          (λ (at : i ≡ on_way targets start n). inl (n, omega arith, inl at))
          (λ (off_a : i ≢ on_way targets start n). ⊎_elim
          (λ (at : i ≡ on_way inverse start n). inl (n, omega arith, inr at))
          (λ (off_d : i ≢ on_way inverse start n). inr (λ k below. ⊎_elim
          (λ (less : k < n). off k less)
          (λ (most : n ≤ k).
          let same : n ≡ k = omega arith in
          subst (λ m. (i ≢ on_way targets start m) × (i ≢ on_way inverse start m)) same (off_a, off_d))
          (cases_lt k n)))
          (cases_eq i (on_way inverse start n)))
          (cases_eq i (on_way targets start n)))
          (found_within i n)

      away_all : (i : ℕ) → ((k : ℕ) → k < bits → (i ≢ on_way targets start k) × (i ≢ on_way inverse start k)) → IsAway targets inverse start i
      away_all i off k =
          let round = round_of bits (λ i. get_or targets i 0) (λ i. get_or inverse i 0) maps start small in
          let at = early (λ i. get_or targets i 0) (λ i. get_or inverse i 0) start bits round.0 round.1 k in
          let within : at.0 < bits = omega (arith, at.1, round.1.few) in
          (λ same. (off at.0 within).0 (same ∙ at.2), λ same. (off at.0 within).1 (same ∙ at.3))

      pub AreSplit-walked : AreSplit bits targets inverse first second
      AreSplit-walked = record {
        first_room = walked.first_room;
        second_room = walked.second_room;
        each = λ i inside taken. ⊎_elim
            (λ (found : (k : ℕ) × (k < bits) × ((i ≡ on_way targets start k) ⊎ (i ≡ on_way inverse start k))). split_on_way i found.0 found.2)
            (λ (off : (k : ℕ) → k < bits → (i ≢ on_way targets start k) × (i ≢ on_way inverse start k)).
            split_other i inside (λ same. taken (walked.first_others i (away_all i off) ∙ same)))
            (found_within i bits);
      }

      pub has_start : get_or first start 0 ≢ 20
      has_start = has_ahead 0

      pub has_others : (i : ℕ) → i < bits → get_or inner i 0 ≢ 20 → get_or first i 0 ≢ 20
      has_others i inside taken = kept_has i taken

-- ---- all cycles

-- no bit has a place at the beginning
pub AreSplit-none : (bits : ℕ) (targets inverse inner outer : List ℕ) → length inner ≡ 20 → length outer ≡ 20 → ((i : ℕ) → i < 20 → get_or inner i 0 ≡ 20) → bits ≤ 20 → AreSplit bits targets inverse inner outer
AreSplit-none bits targets inverse inner outer room room' none few = record {
  first_room = room;
  second_room = room';
  each = λ i inside taken. absurd (taken (none i (omega arith)));
}

-- each bit has its places at the end
pub AreInvolutions-all : (bits : ℕ) (targets inverse inner outer : List ℕ) → AreSplit bits targets inverse inner outer → ((i : ℕ) → i < bits → get_or inner i 0 ≢ 20) → AreInvolutions bits targets inner outer
AreInvolutions-all bits targets inverse inner outer split all = record {
  first = λ i inside. let at = split.each i inside (all i inside) in (at.first_in, at.first_back);
  second = λ i inside. let at = split.each i inside (all i inside) in (at.second_in, at.second_back);
  both = λ i inside. (split.each i inside (all i inside)).both;
}

-- the bits before one have their places
pub record AreSplitTo (bits start : ℕ) (targets inverse inner outer : List ℕ) : Type 0 where
  pub split : AreSplit bits targets inverse inner outer
  pub all : (i : ℕ) → i < start → i < bits → get_or inner i 0 ≢ 20

pub AreSplitTo-none : (bits : ℕ) (targets inverse : List ℕ) → bits ≤ 20 → AreSplitTo bits 0 targets inverse (replicate 20 20) (replicate 20 20)
AreSplitTo-none bits targets inverse few = record {
  split = AreSplit-none bits targets inverse (replicate 20 20) (replicate 20 20) refl refl (λ i inside. get_or-replicate 20 i 20 0 inside) few;
  all = λ i none inside. absurd (omega arith);
}

-- so has the next one, where it had some before
pub AreSplitTo-kept : (bits start : ℕ) (targets inverse inner outer : List ℕ) → get_or inner start 0 ≢ 20 → AreSplitTo bits start targets inverse inner outer → AreSplitTo bits (start + 1) targets inverse inner outer
AreSplitTo-kept bits start targets inverse inner outer taken to = record {
  split = to.split;
  all = λ i below inside. ⊎_elim
      (λ (less : i < start). to.all i less inside)
      (λ (most : start ≤ i). let same : start ≡ i = omega arith in subst (λ n. get_or inner n 0 ≢ 20) same taken)
      (cases_lt i start);
}

-- or gets them now
pub AreSplitTo-more : (bits start : ℕ) (targets inverse inner outer first second : List ℕ) → get_or first start 0 ≢ 20 → AreSplit bits targets inverse first second →
    ((i : ℕ) → i < bits → get_or inner i 0 ≢ 20 → get_or first i 0 ≢ 20) → AreSplitTo bits start targets inverse inner outer → AreSplitTo bits (start + 1) targets inverse first second
AreSplitTo-more bits start targets inverse inner outer first second taken split keeps to =
    AreSplitTo-kept bits start targets inverse first second taken (record { split = split; all = λ i below inside. keeps i inside (to.all i below inside) })
