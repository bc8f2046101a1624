-- The blocks that a question holds, found by their numbers, and the answer out of them.
use Rattle.std.proofs.Common.{◌≡◌, ℕ, ◌*◌, ◌^◌, ◌<◌, ◌≤◌, Bool, true, false, cond, nat_eq, List, [], ◌∷◌, ◌++◌, length, take, drop, get_or, Option, Some, None, refl, sym, ap, ◌∙◌, subst, arith, append-nil}
use Rattle.std.specs.Prelude.{find, slice_get}
use Rattle.std.specs.Option.{option_map, option_map_or}
use Rattle.std.specs.Map.{lookup}
use Rattle.std.proofs.lemmas.List.{length-drop, nil_from_length, take_all}
use Rattle.std.proofs.lemmas.Option.{get_or_from_slice_get}
use Rattle.idx_hall.specs.declared.key.Key.{Key}
use Rattle.idx_plan.specs.Plan.{PlanValue}
use Rattle.idx_plan.specs.declared.ask.Ask.{Ask}
use Rattle.idx_plan.specs.Answer.{answer_of}
use Rattle.idx_query.specs.Blocks.{AreCopied, blocks_of}
use Rattle.idx_query.proofs.AnswerLemmas.{answer-is}
use Rattle.idx_query.proofs.CopyLemmas.{key-stands}
use Rattle.idx_core_model.specs.Layers.{held_block, setting_of}
use Rattle.idx_core_layers.specs.Division.{DivisionValue, layers_of}
use Rattle.idx_core_asks.specs.Asked.{AreWhole, AskedValue, IsPlanned}

found-first : (number : ℕ) (held : List (ℕ × List ℕ)) → lookup (nat_eq number) held ≡ option_map (λ p. p.1) (find (λ p. nat_eq number p.0) held)
found-first number [] = refl
found-first number (p ∷ held) = elim (nat_eq number p.0) as (λ b. cond b (Some p.1) (lookup (nat_eq number) held) ≡ option_map (λ (q : ℕ × List ℕ). q.1) (cond b (Some p) (find (λ q. nat_eq number q.0) held))) [
  | true ↦ refl
  | false ↦ found-first number held
]

held-is : (number : ℕ) (held : List (ℕ × List ℕ)) (o : Option (ℕ × List ℕ)) → find (λ p. nat_eq number p.0) held ≡ o → held_block held number ≡ option_map_or (λ bytes. bytes) (option_map (λ (p : ℕ × List ℕ). p.1) o) []
held-is number held o found = ap (λ q. option_map_or (λ bytes. bytes) q []) (found-first number held ∙ ap (option_map (λ (p : ℕ × List ℕ). p.1)) found)

abbrev pub key_in : List Key → ℕ → Key
key_in keys i = get_or keys i (record { time = 0; field = 0; block = 0 })

module _ (plan : PlanValue) (held : List (ℕ × List ℕ)) (keys : List Key) (are : keys ≡ plan.keys) (whole : AreWhole plan held) (i : ℕ) (within : i < length plan.keys) where
  long : length (held_block held (key_in keys i).block) ≡ plan.size * 2 ^ plan.bits
  long = ap (λ ks. length (held_block held (key_in ks i).block)) are ∙ whole i (record { time = 0; field = 0; block = 0 }) within

  pub nothing-missing : 0 < plan.size * 2 ^ plan.bits → find (λ p. nat_eq (key_in keys i).block p.0) held ≡ None → ⊥
  nothing-missing some none = omega (arith, some, sym long ∙ ap length (held-is (key_in keys i).block held None none))

  pub whole-one : (block : ℕ × List ℕ) → find (λ p. nat_eq (key_in keys i).block p.0) held ≡ Some block → length block.1 ≡ plan.size * 2 ^ plan.bits
  whole-one block found = sym (ap length (held-is (key_in keys i).block held (Some block) found)) ∙ long

  pub held-one : (block : ℕ × List ℕ) → find (λ p. nat_eq (key_in keys i).block p.0) held ≡ Some block → (k : Key) → slice_get plan.keys i ≡ Some k → block.1 ≡ held_block held k.block
  held-one block found k at =
      sym (held-is (key_in keys i).block held (Some block) found)
      ∙ ap (λ (ks : List Key). held_block held (key_in ks i).block) are
      ∙ ap (λ (j : Key). held_block held j.block) (get_or_from_slice_get plan.keys i k (record { time = 0; field = 0; block = 0 }) at)

-- a list that was written over by one of its length
pub overwritten-whole : (old new : List ℕ) → length new ≡ length old → take (length old) (new ++ drop (length new) old) ≡ new
overwritten-whole old new same =
    ap (λ l. take (length old) (new ++ l)) (nil_from_length (drop (length new) old) (omega (arith, length-drop (length new) old, same)))
    ∙ ap (take (length old)) (append-nil new) ∙ take_all (length old) new (omega (arith, same))

-- the answer out of the blocks that are held
pub answer-made : (d : DivisionValue) (x : AskedValue) → IsPlanned d x → x.plan.bits ≤ length x.plan.asked.mask → (out : List ℕ) → length out ≡ x.plan.bytes →
    AreCopied x.plan (held_block x.query.kept) (blocks_of x.plan.keys) out → out ≡ (layers_of d).put_together x.query.ask x.query.kept
unfolding setting_of
answer-made d x is within out whole copied =
    answer-is (Some (λ field. held_block x.query.kept)) d.header x.query.ask x.plan out is.can.field is.can.axes is.can.plan within is.plan whole copied
