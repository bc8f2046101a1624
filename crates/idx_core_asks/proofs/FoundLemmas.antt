-- One key more of a look, by what was found of it.
use Rattle.std.proofs.Common.{◌≡◌, ℕ, ◌+◌, ◌<◌, Bool, true, false, not, List, [], ◌∷◌, ◌++◌, length, take, get_or, map, Option, Some, None, is_some, refl, sym, ap, ◌∙◌, subst, arith, append_assoc}
use Rattle.std.specs.Prelude.{option_copied, slice_get}
use Rattle.std.specs.Option.{option_map}
use Rattle.std.proofs.lemmas.Option.{get_or_from_slice_get}
use Rattle.std.proofs.lemmas.List.{get_or-map, length-map}
use Rattle.idx_hall.specs.declared.key.Key.{Key}
use Rattle.idx_events.specs.Queries.{hits, misses}
use Rattle.idx_core_asks.specs.Asked.{block_numbers}
use Rattle.idx_core_asks.proofs.NotedLemmas.{hits-more, hits-same, missed-more, missed-same}

no_key : Key
no_key = record { time = 0; field = 0; block = 0 }

module _ (keys : List Key) (found : List (Option (List ℕ))) (i : ℕ) (o : Option (List ℕ)) (each : length found ≡ length keys) (within : i < length keys) (there : Some o ≡ slice_get found i) where
  at : o ≡ get_or found i o
  at = sym (get_or_from_slice_get found i o o (sym there))

  few : i < length (block_numbers keys)
  few = omega (arith, within, length-map keys (λ (key : Key). key.block))

  same : length found ≡ length (block_numbers keys)
  same = each ∙ sym (length-map keys (λ (key : Key). key.block))

  number : get_or (block_numbers keys) i 0 ≡ (get_or keys i (record { time = 0; field = 0; block = 0 })).block
  number = get_or-map (λ (key : Key). key.block) keys i (record { time = 0; field = 0; block = 0 }) 0 within

  -- the blocks that were found so far, with this one
  pub hit-next : (start old new : List (ℕ × List ℕ)) (y bytes : List ℕ) → o ≡ Some y → bytes ≡ y → old ≡ start ++ hits (take i (block_numbers keys)) (take i found) →
      new ≡ old ++ ((get_or keys i (record { time = 0; field = 0; block = 0 })).block, bytes) ∷ [] → new ≡ start ++ hits (take (i + 1) (block_numbers keys)) (take (i + 1) found)
  hit-next start old new y bytes some is before after =
      after ∙ ap (λ b. old ++ ((get_or keys i (record { time = 0; field = 0; block = 0 })).block, b) ∷ []) is
      ∙ ap (λ n. old ++ (n, y) ∷ []) (sym number)
      ∙ ap (λ l. l ++ (get_or (block_numbers keys) i 0, y) ∷ []) before
      ∙ append_assoc start (hits (take i (block_numbers keys)) (take i found)) ((get_or (block_numbers keys) i 0, y) ∷ [])
      ∙ ap (λ l. start ++ l) (sym (hits-more (block_numbers keys) found i o same few at y some))

  -- or as they were
  pub hit-none : (start old : List (ℕ × List ℕ)) → o ≡ None → old ≡ start ++ hits (take i (block_numbers keys)) (take i found) → old ≡ start ++ hits (take (i + 1) (block_numbers keys)) (take (i + 1) found)
  hit-none start old none before = before ∙ ap (λ l. start ++ l) (sym (hits-same (block_numbers keys) found i o same few at none))

  -- the blocks that were not found so far, with this one
  pub miss-next : (old new : List ℕ) → is_some o ≡ false → old ≡ misses (take i (block_numbers keys)) (take i found) → new ≡ old ++ (get_or keys i (record { time = 0; field = 0; block = 0 })).block ∷ [] →
      new ≡ misses (take (i + 1) (block_numbers keys)) (take (i + 1) found)
  miss-next old new none before after =
      after ∙ ap (λ n. old ++ n ∷ []) (sym number) ∙ ap (λ l. l ++ get_or (block_numbers keys) i 0 ∷ []) before
      ∙ sym (missed-more (block_numbers keys) found i o same few at none)

  pub miss-none : (old : List ℕ) → is_some o ≡ true → old ≡ misses (take i (block_numbers keys)) (take i found) → old ≡ misses (take (i + 1) (block_numbers keys)) (take (i + 1) found)
  miss-none old some before = before ∙ sym (missed-same (block_numbers keys) found i o same few at some)
