-- The laws hold of the small dataset, so that they can be met.
use Rattle.std.proofs.Common.{◌≡◌, ℕ, zero, suc, ◌<◌, ◌⊎◌, inl, true, false, nat_eq, ◌||◌, cond, List, [], ◌∷◌, ◌++◌, map, length, slice_index, refl, sym, ap, ◌∙◌, arith, Some}
use Rattle.std.specs.List.{AllByRecursion, IsDistinct}
use Rattle.std.specs.Option.{option_map_or}
use Rattle.std.specs.Map.{lookup}
use Rattle.std.proofs.lemmas.Bool.{eqb-true, false≢true}
use Rattle.idx_events.specs.Lists.{has}
use Rattle.idx_hall.specs.Posts.{bytes_at}
use Rattle.idx_events.specs.Setting.{SettingOk, step_files}
use Rattle.idx_events.specs.Tiny.{tiny, held_at}

apart-files : IsDistinct nat_eq (0 ∷ 1 ∷ [])
unfolding IsDistinct
apart-files = ((refl, tt), (tt, tt))

covered-files : (file : ℕ) → AllByRecursion (λ address. (has (tiny.piece_at address) (tiny.pieces_in file) ≡ true) ⊎ ((raw : List ℕ) (field : ℕ) → tiny.sample raw field address ≡ tiny.zero field)) (tiny.addresses file)
covered-files zero = (inl refl, (inl refl, tt))
covered-files (suc zero) = (inl refl, (inl refl, tt))
covered-files (suc (suc n)) = tt

held-bytes : (f : ℕ → List ℕ) (b : ℕ) (held : List (ℕ × List ℕ)) → AllByRecursion (λ pair. pair.1 ≡ f pair.0) held → has b (map (λ pair. pair.0) held) ≡ true → held_at held b ≡ f b
held-bytes f b [] each h = absurd (false≢true h)
held-bytes f b (p ∷ held) each h = (elim (nat_eq b p.0) as (λ c. nat_eq b p.0 ≡ c → (c || has b (map (λ (q : ℕ × List ℕ). q.0) held)) ≡ true → option_map_or (λ bytes. bytes) (cond c (Some p.1) (lookup (nat_eq b) held)) [] ≡ f b) [
  | true ↦ λ e k. each.0 ∙ ap f (sym (eqb-true b p.0 e))
  | false ↦ λ e k. held-bytes f b held each.1 k
]) refl h

block-lengths : (time revision : ℕ) (raw : List ℕ) (field block : ℕ) → field < 1 → block < 2 → length (bytes_at (tiny.stored time revision (step_files tiny time revision raw)) field block) ≡ slice_index (2 ∷ []) field
block-lengths time revision raw zero zero f b = refl
block-lengths time revision raw zero (suc zero) f b = refl
block-lengths time revision raw zero (suc (suc n)) f b = absurd (omega arith)
block-lengths time revision raw (suc n) block f b = absurd (omega arith)

pub tiny-laws : SettingOk tiny
tiny-laws = record {
  apart = apart-files;
  covered = covered-files;
  some_rounds = λ ask. omega arith;
  field = λ ask valid. let zero_field = eqb-true ask.field 0 valid in omega arith;
  blocks = λ ask valid. ((omega arith, tt), ((omega arith, tt), tt));
  lengths = λ time revision raw field block step valid. block-lengths time revision raw field block;
  answers = λ time revision raw ask held valid_step valid_raw valid_ask each due.
      let bytes : ℕ → List ℕ = λ b. bytes_at (tiny.stored time revision (step_files tiny time revision raw)) ask.field b in
      ap (λ l. l ++ held_at held 1) (held-bytes bytes 0 held each (due 0)) ∙ ap (λ l. bytes 0 ++ l) (held-bytes bytes 1 held each (due 1))
      ∙ ap (λ f. bytes_at (tiny.stored time revision (step_files tiny time revision raw)) f 0 ++ bytes_at (tiny.stored time revision (step_files tiny time revision raw)) f 1) (eqb-true ask.field 0 valid_ask);
}
