-- Parts, and their halves.
use Rattle.std.proofs.Common.{◌≡◌, ◌≢◌, ℕ, suc, ◌+◌, ◌-◌, ◌*◌, ◌/◌, ◌^◌, ◌<◌, ◌≤◌, ◌↔◌, List, length, get_or, set, drop, sym, ap, ◌∙◌, subst, ⊎_elim, arith}
use Rattle.std.specs.Int.{bit_at}
use Rattle.std.proofs.lemmas.Bool.{cases_eq}
use Rattle.std.proofs.lemmas.Nat.Bits.{bit_at-lt}
use Rattle.std.proofs.lemmas.List.{get_or-set_same, get_or-set_other}
use Rattle.std.proofs.lemmas.List.Elements.{All-get_or}
use Rattle.idx_hz.specs.Mask.{NamesAxes, bit_count}
use Rattle.idx_hz.specs.Address.{z_address}
use Rattle.idx_hz.proofs.LevelLemmas.{stride_of_digit, stride_of_other}
use Rattle.idx_plan.specs.declared.part.Part.{Part}
use Rattle.idx_plan.specs.Parts.{AreIn, Begins, IsFrom, IsPart, IsSpan, point_on}
use Rattle.idx_plan.proofs.NumberLemmas.{fewer_behind, more_front, number_bit}

-- ---- a half by its arrays

-- a half of a part: the numbers whose highest digit that is left on an axis is `bit`
pub record IsHalf (part : Part) (axis bit : ℕ) (half : Part) : Type 0 where
  pub numbers : (n : ℕ) → IsFrom (get_or half.first axis 0) (get_or half.end axis 0) n
      ↔ (IsFrom (get_or part.first axis 0) (get_or part.end axis 0) n × (bit_at n (get_or part.left axis 0 - 1) ≡ bit))
  pub span : IsSpan (get_or half.first axis 0) (get_or half.end axis 0) (get_or half.left axis 0)
  pub left : get_or half.left axis 0 ≡ get_or part.left axis 0 - 1
  pub others : (other : ℕ) → other ≢ axis → (get_or half.first other 0 ≡ get_or part.first other 0)
      × (get_or half.end other 0 ≡ get_or part.end other 0) × (get_or half.left other 0 ≡ get_or part.left other 0)

pub half_made : (part half : Part) (axis bit first end left : ℕ) → axis < length part.first → axis < length part.end → axis < length part.left →
    half.first ≡ set part.first axis first → half.end ≡ set part.end axis end → half.left ≡ set part.left axis left → left ≡ get_or part.left axis 0 - 1 → IsSpan first end left →
    ((n : ℕ) → IsFrom first end n ↔ (IsFrom (get_or part.first axis 0) (get_or part.end axis 0) n × (bit_at n (get_or part.left axis 0 - 1) ≡ bit))) → IsHalf part axis bit half
half_made part half axis bit first end left f e l firsts ends lefts less span numbers =
    let first_is : get_or half.first axis 0 ≡ first = ap (λ (xs : List ℕ). get_or xs axis 0) firsts ∙ get_or-set_same part.first axis first 0 f in
    let end_is : get_or half.end axis 0 ≡ end = ap (λ (xs : List ℕ). get_or xs axis 0) ends ∙ get_or-set_same part.end axis end 0 e in
    let left_is : get_or half.left axis 0 ≡ left = ap (λ (xs : List ℕ). get_or xs axis 0) lefts ∙ get_or-set_same part.left axis left 0 l in
    record {
      numbers = λ n. subst (λ (b : ℕ). IsFrom b (get_or half.end axis 0) n ↔ (IsFrom (get_or part.first axis 0) (get_or part.end axis 0) n × (bit_at n (get_or part.left axis 0 - 1) ≡ bit))) (sym first_is)
          (subst (λ (b : ℕ). IsFrom first b n ↔ (IsFrom (get_or part.first axis 0) (get_or part.end axis 0) n × (bit_at n (get_or part.left axis 0 - 1) ≡ bit))) (sym end_is) (numbers n));
      span = subst (λ (b : ℕ). IsSpan b (get_or half.end axis 0) (get_or half.left axis 0)) (sym first_is)
          (subst (λ (b : ℕ). IsSpan first b (get_or half.left axis 0)) (sym end_is) (subst (λ (b : ℕ). IsSpan first end b) (sym left_is) span));
      left = left_is ∙ less;
      others = λ other differs. (
        ap (λ (xs : List ℕ). get_or xs other 0) firsts ∙ get_or-set_other part.first axis other first 0 differs,
        ap (λ (xs : List ℕ). get_or xs other 0) ends ∙ get_or-set_other part.end axis other end 0 differs,
        ap (λ (xs : List ℕ). get_or xs other 0) lefts ∙ get_or-set_other part.left axis other left 0 differs,
      );
    }

-- ---- the part of a half

-- some numbers lie in a half where they lie in the part and have the bit
half_iff : (part half : Part) (axis bit : ℕ) (ns : List ℕ) → axis < length ns → IsHalf part axis bit half → AreIn half ns ↔ (AreIn part ns × (bit_at (get_or ns axis 0) (get_or part.left axis 0 - 1) ≡ bit))
half_iff part half axis bit ns inside is = (
  λ h. (
    λ a within. ⊎_elim
        (λ (same : a ≡ axis). subst (λ (x : ℕ). IsFrom (get_or part.first x 0) (get_or part.end x 0) (get_or ns x 0)) (sym same) ((is.numbers (get_or ns axis 0)).0 (h axis inside)).0)
        (λ (other : a ≢ axis). let as' = is.others a other in omega_pair a (h a within).0 (h a within).1 as'.0 as'.1)
        (cases_eq a axis),
    ((is.numbers (get_or ns axis 0)).0 (h axis inside)).1,
  ),
  λ both a within. ⊎_elim
      (λ (same : a ≡ axis). subst (λ (x : ℕ). IsFrom (get_or half.first x 0) (get_or half.end x 0) (get_or ns x 0)) (sym same) ((is.numbers (get_or ns axis 0)).1 (both.0 axis inside, both.1)))
      (λ (other : a ≢ axis). let as' = is.others a other in back a (both.0 a within).0 (both.0 a within).1 as'.0 as'.1)
      (cases_eq a axis),
)
  where
    omega_pair : (a : ℕ) → get_or half.first a 0 ≤ get_or ns a 0 → get_or ns a 0 < get_or half.end a 0 → get_or half.first a 0 ≡ get_or part.first a 0 → get_or half.end a 0 ≡ get_or part.end a 0 → IsFrom (get_or part.first a 0) (get_or part.end a 0) (get_or ns a 0)
    omega_pair a low high f e = (omega arith, omega arith)

    back : (a : ℕ) → get_or part.first a 0 ≤ get_or ns a 0 → get_or ns a 0 < get_or part.end a 0 → get_or half.first a 0 ≡ get_or part.first a 0 → get_or half.end a 0 ≡ get_or part.end a 0 → IsFrom (get_or half.first a 0) (get_or half.end a 0) (get_or ns a 0)
    back a low high f e = (omega arith, omega arith)

-- what a part's halves are asked for
pub record IsStep (mask : List ℕ) (region : List (ℕ × ℕ)) (level digits axis bit : ℕ) : Type 0 where
  pub named : NamesAxes mask (length region)
  pub before : digits < level - 1
  pub deepest : level ≤ length mask
  pub names : axis ≡ get_or mask digits 0
  pub small : bit < 2

axis_there : (mask : List ℕ) (region : List (ℕ × ℕ)) (level digits axis bit : ℕ) → IsStep mask region level digits axis bit → get_or mask digits 0 < length region
axis_there mask region level digits axis bit step =
    let before : digits < level - 1 = step.before in
    let deepest : level ≤ length mask = step.deepest in
    All-get_or (λ d. d < length region) mask digits 0 (omega arith) step.named

-- of the points that begin with one digit more
longer : (mask : List ℕ) (region : List (ℕ × ℕ)) (level digits number : ℕ) (part : Part) (axis bit : ℕ) (ns : List ℕ) → length ns ≡ length region → IsStep mask region level digits axis bit →
    IsPart mask region level digits number part →
    Begins mask region level (digits + 1) (2 * number + bit) ns ↔ (AreIn part ns × (bit_at (get_or ns axis 0) (get_or part.left axis 0 - 1) ≡ bit))
longer mask region level digits number part axis bit ns size step is =
    let there : get_or mask digits 0 < length region = axis_there mask region level digits axis bit step in
    let here : get_or mask digits 0 < length ns = omega (arith, there, size) in
    let same : axis ≡ get_or mask digits 0 = step.names in
    let deepest : level ≤ length mask = step.deepest in
    let before : digits < level - 1 = step.before in
    let z : ℕ = z_address mask (point_on mask level ns) in
    let low : bit_at z (length mask - suc digits) < 2 = bit_at-lt z (length mask - suc digits) in
    let small : bit < 2 = step.small in
    let front = more_front z (length mask) digits (omega arith) in
    let read : bit_at z (length mask - suc digits) ≡ bit_at (get_or ns axis 0) (get_or part.left axis 0 - 1) =
    (number_bit mask level ns digits (get_or part.left (get_or mask digits 0) 0) before deepest here (is.left (get_or mask digits 0) there)).1
    ∙ ap (λ a. bit_at (get_or ns a 0) (get_or part.left a 0 - 1)) (sym same) in (
      λ begins.
          let whole : 2 ^ (digits + 1) + z / 2 ^ (length mask - (digits + 1)) ≡ 2 * number + bit = begins.front in
          let parts = split (2 ^ digits + z / 2 ^ (length mask - digits)) number (bit_at z (length mask - suc digits)) bit low small (sym front ∙ whole) in
          ((is.numbers ns size).0 (record { inside = begins.inside; front = parts.0 }), sym read ∙ parts.1),
      λ both.
          let begins : Begins mask region level digits number ns = (is.numbers ns size).1 both.0 in
          record {
            inside = begins.inside;
            front = front ∙ (λ i. 2 * begins.front i + (read ∙ both.1) i);
          },
    )
  where
    split : (x y b c : ℕ) → b < 2 → c < 2 → 2 * x + b ≡ 2 * y + c → (x ≡ y) × (b ≡ c)
    split x y b c low small e = (omega arith, omega arith)

-- what there is of a half
pub half_part : (mask : List ℕ) (region : List (ℕ × ℕ)) (level digits number : ℕ) (part : Part) (axis bit : ℕ) (half : Part) → IsStep mask region level digits axis bit →
    IsPart mask region level digits number part → IsHalf part axis bit half → IsPart mask region level (digits + 1) (2 * number + bit) half
half_part mask region level digits number part axis bit half step is of =
    let there : get_or mask digits 0 < length region = axis_there mask region level digits axis bit step in
    let same : axis ≡ get_or mask digits 0 = step.names in
    let inside : axis < length region = omega (arith, there, same) in
    let deepest : level ≤ length mask = step.deepest in
    let before : digits < level - 1 = step.before in
    let within : digits < length mask = omega arith in
    let next : suc digits ≡ digits + 1 = omega arith in
    record {
      numbers = λ ns size.
          let first = longer mask region level digits number part axis bit ns size step is in
          let second = half_iff part half axis bit ns (omega (arith, inside, size)) of in
          (λ b. second.1 (first.0 b), λ h. first.1 (second.0 h));
      spans = λ a axes. ⊎_elim
          (λ (e : a ≡ axis). subst (λ (x : ℕ). IsSpan (get_or half.first x 0) (get_or half.end x 0) (get_or half.left x 0)) (sym e) of.span)
          (λ (other : a ≢ axis). kept a (of.others a other).0 (of.others a other).1 (of.others a other).2 (is.spans a axes))
          (cases_eq a axis);
      left = λ a axes. ⊎_elim
          (λ (e : a ≡ axis). subst (λ (x : ℕ). get_or half.left x 0 + bit_count x (drop (level - 1) mask) ≡ bit_count x (drop (digits + 1) mask)) (sym e)
          (let more : bit_count axis (drop digits mask) ≡ suc (bit_count axis (drop (suc digits) mask)) = stride_of_digit mask digits axis within (sym same) in
          let old : get_or part.left axis 0 + bit_count axis (drop (level - 1) mask) ≡ bit_count axis (drop digits mask) = is.left axis inside in
          let behind : bit_count axis (drop (level - 1) mask) ≤ bit_count axis (drop (suc digits) mask) = fewer_behind mask axis (suc digits) (level - 1) (omega arith) in
          let less : get_or half.left axis 0 ≡ get_or part.left axis 0 - 1 = of.left in
          let count : get_or half.left axis 0 + bit_count axis (drop (level - 1) mask) ≡ bit_count axis (drop (suc digits) mask) = omega (arith, more, old, behind, less) in
          count ∙ ap (λ n. bit_count axis (drop n mask)) next))
          (λ (other : a ≢ axis).
          ap (λ n. n + bit_count a (drop (level - 1) mask)) (of.others a other).2 ∙ is.left a axes
          ∙ stride_of_other mask digits a within (λ e. other (sym (same ∙ e)))
          ∙ ap (λ n. bit_count a (drop n mask)) next)
          (cases_eq a axis);
    }
  where
    kept : (a : ℕ) → get_or half.first a 0 ≡ get_or part.first a 0 → get_or half.end a 0 ≡ get_or part.end a 0 → get_or half.left a 0 ≡ get_or part.left a 0 →
        IsSpan (get_or part.first a 0) (get_or part.end a 0) (get_or part.left a 0) → IsSpan (get_or half.first a 0) (get_or half.end a 0) (get_or half.left a 0)
    kept a f e l span = subst (λ (x : ℕ). IsSpan x (get_or half.end a 0) (get_or half.left a 0)) (sym f) (subst (λ (x : ℕ). IsSpan (get_or part.first a 0) x (get_or half.left a 0)) (sym e) (subst (λ (x : ℕ). IsSpan (get_or part.first a 0) (get_or part.end a 0) x) (sym l) span))

-- a half without numbers has no point
pub empty_half : (mask : List ℕ) (region : List (ℕ × ℕ)) (level digits number : ℕ) (part : Part) (axis bit first end : ℕ) → IsStep mask region level digits axis bit →
    IsPart mask region level digits number part → end ≤ first →
    ((n : ℕ) → IsFrom first end n ↔ (IsFrom (get_or part.first axis 0) (get_or part.end axis 0) n × (bit_at n (get_or part.left axis 0 - 1) ≡ bit))) →
    (ns : List ℕ) → length ns ≡ length region → Begins mask region level (digits + 1) (2 * number + bit) ns → ⊥
empty_half mask region level digits number part axis bit first end step is empty numbers ns size begins =
    let there : get_or mask digits 0 < length region = axis_there mask region level digits axis bit step in
    let same : axis ≡ get_or mask digits 0 = step.names in
    let both = (longer mask region level digits number part axis bit ns size step is).0 begins in
    let from = (numbers (get_or ns axis 0)).1 (both.0 axis (omega (arith, there, same, size)), both.1) in
    let low : first ≤ get_or ns axis 0 = from.0 in
    let high : get_or ns axis 0 < end = from.1 in
    omega arith

-- a half may be asked for
pub step_span : (mask : List ℕ) (region : List (ℕ × ℕ)) (level digits number : ℕ) (part : Part) (axis bit : ℕ) → IsStep mask region level digits axis bit → IsPart mask region level digits number part →
    IsSpan (get_or part.first axis 0) (get_or part.end axis 0) (get_or part.left axis 0) × (1 ≤ get_or part.left axis 0)
step_span mask region level digits number part axis bit step is =
    let there : get_or mask digits 0 < length region = axis_there mask region level digits axis bit step in
    let same : axis ≡ get_or mask digits 0 = step.names in
    let inside : axis < length region = omega (arith, there, same) in
    let deepest : level ≤ length mask = step.deepest in
    let before : digits < level - 1 = step.before in
    let more : bit_count axis (drop digits mask) ≡ suc (bit_count axis (drop (suc digits) mask)) = stride_of_digit mask digits axis (omega arith) (sym same) in
    let behind : bit_count axis (drop (level - 1) mask) ≤ bit_count axis (drop (suc digits) mask) = fewer_behind mask axis (suc digits) (level - 1) (omega arith) in
    (is.spans axis inside, omega (arith, more, behind, is.left axis inside))
