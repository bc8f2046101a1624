-- The rounds of a question by its plan.
use Rattle.std.proofs.Common.{◌≡◌, ℕ, ◌+◌, ◌-◌, ◌*◌, ◌/◌, ◌<◌, ◌≤◌, Bool, true, List, [], ◌∷◌, zero, suc, length, map, take, drop, get_or, refl, sym, ap, ◌∙◌, subst, ◌++◌, ◌⊎◌, inl, inr, zero-add, arith}
use Rattle.std.specs.Prelude.{max, min}
use Rattle.std.proofs.lemmas.Bool.{cases_lt}
use Rattle.std.specs.List.{range_with_len}
use Rattle.std.proofs.lemmas.List.{get_or-map, length-drop, length-map, take_all}
use Rattle.std.proofs.lemmas.List.FromFn.{get_or-map-range_with_len, length-map-range_with_len}
use Rattle.idx_header.specs.Header.{HeaderValue}
use Rattle.idx_hall.specs.declared.key.Key.{Key}
use Rattle.idx_plan.specs.Needed.{key_of, needed, needed_keys}
use Rattle.idx_plan.specs.Rounds.{cut_at, cut_count, cut_into, rounds, width_for}
use Rattle.idx_plan.specs.declared.ask.Ask.{Ask}
use Rattle.idx_events.specs.Queries.{round_blocks, round_keys}
use Rattle.idx_core_model.specs.Layers.{setting_of}
use Rattle.idx_core_layers.specs.Division.{DivisionValue, layers_of}
use Rattle.idx_core_asks.specs.Asked.{AskedValue, IsPlanned, block_numbers}

-- the keys of a question are those of the blocks that they name
abbrev AreKeysOf : Ask → List Key → Type 0
AreKeysOf ask keys = map (key_of ask) (block_numbers keys) ≡ keys

named-again : (ask : Ask) (blocks : List ℕ) → AreKeysOf ask (map (key_of ask) blocks)
named-again ask [] = refl
named-again ask (b ∷ blocks) = ap (λ l. key_of ask b ∷ l) (named-again ask blocks)

keys-drop : (ask : Ask) (n : ℕ) (keys : List Key) → AreKeysOf ask keys → AreKeysOf ask (drop n keys)
keys-drop ask zero keys are = are
keys-drop ask (suc n) [] are = refl
keys-drop ask (suc n) (k ∷ keys) are = keys-drop ask n keys (ap (λ l. drop 1 l) are)

keys-take : (ask : Ask) (n : ℕ) (keys : List Key) → AreKeysOf ask keys → AreKeysOf ask (take n keys)
keys-take ask zero keys are = refl
keys-take ask (suc n) [] are = refl
keys-take ask (suc n) (k ∷ keys) are = ap (λ l. take 1 l ++ map (key_of ask) (block_numbers (take n keys))) are ∙ ap (λ l. k ∷ l) (keys-take ask n keys (ap (λ l. drop 1 l) are))

max-swap : (n : ℕ) → max n 1 ≡ max 1 n
max-swap n = omega arith

take-nil : (n : ℕ) → take {A = Key} n [] ≡ []
take-nil zero = refl
take-nil (suc n) = refl

drop_past : (n : ℕ) (ks : List Key) → length ks ≤ n → drop n ks ≡ []
drop_past zero [] le = refl
drop_past zero (k ∷ ks) le = absurd (omega (arith, le))
drop_past (suc n) [] le = refl
drop_past (suc n) (k ∷ ks) le = drop_past n ks (omega (arith, le))

-- as many as there are, of a list that has no more
take-few : (keys : List Key) (width many : ℕ) → many ≡ min width (length keys) → take many keys ≡ take width keys
take-few keys width many is = by_room (cases_lt (length keys) width)
  where
    by_room : (length keys < width) ⊎ (width ≤ length keys) → take many keys ≡ take width keys
    by_room (inl short) = take_all many keys (omega (arith, is, short)) ∙ sym (take_all width keys (omega (arith, short)))
    by_room (inr long) = ap (λ n. take n keys) {x = many} {y = width} (omega (arith, is, long))

-- a part of some keys, from the place of a round on
pub cut-is : (keys : List Key) (ended width from to : ℕ) → length keys ≤ 18446744073709551615 → from ≡ min (min (ended * width) 18446744073709551615) (length keys) →
    to ≡ min (min (from + width) 18446744073709551615) (length keys) → take (to - from) (drop from keys) ≡ cut_at width keys ended
cut-is keys ended width from to few from_is to_is = by_place (cases_lt (length keys) (ended * width))
  where
    by_place : (length keys < ended * width) ⊎ (ended * width ≤ length keys) → take (to - from) (drop from keys) ≡ cut_at width keys ended
    by_place (inl past) =
        ap (λ l. take (to - from) l) (drop_past from keys (omega (arith, from_is, past, few))) ∙ take-nil (to - from)
        ∙ sym (ap (λ l. take width l) (drop_past (ended * width) keys (omega (arith, past))) ∙ take-nil width)
    by_place (inr inside) =
        let at : from ≡ ended * width = omega (arith, from_is, inside, few) in
        take-few (drop from keys) width (to - from) (omega (arith, to_is, at, inside, few, length-drop from keys))
        ∙ ap (λ n. take width (drop n keys)) at

module _ (d : DivisionValue) (x : AskedValue) (is : IsPlanned d x) where
  -- how many rounds there are
  pub count-is : length ((layers_of d).rounds x.query.ask) ≡ cut_count (width_for d.header x.query.ask.field) (length x.plan.keys)
  unfolding setting_of
  count-is =
      length-map (rounds d.header x.query.ask) (λ (keys : List Key). map (λ (key : Key). key.block) keys)
      ∙ length-map-range_with_len (cut_at (width_for d.header x.query.ask.field) (needed_keys d.header x.query.ask)) 0 (cut_count (width_for d.header x.query.ask.field) (length (needed_keys d.header x.query.ask)))
      ∙ ap (λ keys. cut_count (width_for d.header x.query.ask.field) (length keys)) (sym is.plan.keys)

  -- the same out of what the code computes
  pub count-made : (keys : List Key) (h : HeaderValue) (field width result : ℕ) → keys ≡ x.plan.keys → h ≡ d.header → field ≡ x.query.ask.field → width ≡ width_for h field →
      result ≡ max ((length keys + (width - 1)) / width) 1 → result ≡ length ((layers_of d).rounds x.query.ask)
  count-made keys h field width result keys_is h_is field_is width_is made =
      let same : width ≡ width_for d.header x.query.ask.field = width_is ∙ ap (λ (k : HeaderValue). width_for k field) h_is ∙ ap (width_for d.header) field_is in
      made ∙ max-swap ((length keys + (width - 1)) / width) ∙ ap (λ ks. cut_count width (length ks)) keys_is ∙ ap (λ w. cut_count w (length x.plan.keys)) same ∙ sym count-is

  -- the blocks of a round are those of its keys
  blocks-at : (i : ℕ) → i < length ((layers_of d).rounds x.query.ask) → get_or ((layers_of d).rounds x.query.ask) i [] ≡ block_numbers (cut_at (width_for d.header x.query.ask.field) x.plan.keys i)
  unfolding setting_of
  blocks-at i within =
      let there : i < length (rounds d.header x.query.ask) = omega (arith, within, length-map (rounds d.header x.query.ask) (λ (keys : List Key). map (λ (key : Key). key.block) keys)) in
      let many : i < cut_count (width_for d.header x.query.ask.field) (length (needed_keys d.header x.query.ask)) = omega (
        arith,
        there,
        length-map-range_with_len (cut_at (width_for d.header x.query.ask.field) (needed_keys d.header x.query.ask)) 0 (cut_count (width_for d.header x.query.ask.field) (length (needed_keys d.header x.query.ask))),
      ) in
      get_or-map (λ (keys : List Key). map (λ (key : Key). key.block) keys) (rounds d.header x.query.ask) i [] [] there
      ∙ ap (λ (keys : List Key). map (λ (key : Key). key.block) keys)
      (get_or-map-range_with_len (cut_at (width_for d.header x.query.ask.field) (needed_keys d.header x.query.ask)) 0 (cut_count (width_for d.header x.query.ask.field) (length (needed_keys d.header x.query.ask))) i i [] many (zero-add i)
      ∙ ap (λ keys. cut_at (width_for d.header x.query.ask.field) keys i) (sym is.plan.keys))

  -- the keys of the round that is next
  pub keys-are : x.query.ended < length ((layers_of d).rounds x.query.ask) → round_keys (layers_of d) x.query ≡ cut_at (width_for d.header x.query.ask.field) x.plan.keys x.query.ended
  keys-are left =
      ap (map (key_of x.query.ask)) (blocks-at x.query.ended left)
      ∙ keys-take x.query.ask (width_for d.header x.query.ask.field) (drop (x.query.ended * width_for d.header x.query.ask.field) x.plan.keys)
      (keys-drop x.query.ask (x.query.ended * width_for d.header x.query.ask.field) x.plan.keys
      (subst (AreKeysOf x.query.ask) (sym is.plan.keys) (named-again x.query.ask (needed d.header x.query.ask))))
