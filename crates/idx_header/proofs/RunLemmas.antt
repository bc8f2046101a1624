-- The first four runs of bytes of a text, part by part.
use Rattle.std.proofs.Common.{◌≡◌, ℕ, ◌+◌, ◌<◌, ◌≤◌, List, [], ◌∷◌, ◌++◌, length, take, filter, get_or, refl, sym, ap, ◌∙◌, arith}
use Rattle.std.proofs.lemmas.Grind.{common_steps}
use Rattle.std.proofs.lemmas.List.{take_more, take-append-le}
use Rattle.std.proofs.lemmas.List.Elements.{filter-append}
use Rattle.idx_text.specs.Numbers.{has_bytes}

-- the first four runs of these parts
abbrev pub four : List (List ℕ) → List (List ℕ)
four parts = take 4 (filter has_bytes parts)

module _ (parts : List (List ℕ)) (at : ℕ) (run : List ℕ) (inside : at < length parts) (here : run ≡ get_or parts at run) where
  next : filter has_bytes (take (at + 1) parts) ≡ filter has_bytes (take at parts) ++ filter has_bytes (run ∷ [])
  next = ap (filter has_bytes) (take_more parts at run inside) ∙ filter-append has_bytes (take at parts) (get_or parts at run ∷ [])
      ∙ ap (λ r. filter has_bytes (take at parts) ++ filter has_bytes (r ∷ [])) (sym here)

  pub four-empty : length run ≡ 0 → four (take (at + 1) parts) ≡ four (take at parts)
  four-empty none = ap (take 4) (next ∙ dropped run (filter has_bytes (take at parts)) none)
    where
      dropped : (r : List ℕ) (xs : List (List ℕ)) → length r ≡ 0 → xs ++ filter has_bytes (r ∷ []) ≡ xs
      dropped [] xs e = grind (arith, common_steps)
      dropped (b ∷ bs) xs e = absurd (omega arith)

  some-run : (r : List ℕ) → 0 < length r → filter has_bytes (r ∷ []) ≡ r ∷ []
  some-run [] h = absurd (omega arith)
  some-run (b ∷ bs) h = refl

  pub four-full : length (four (take at parts)) ≡ 4 → four (take (at + 1) parts) ≡ four (take at parts)
  four-full full =
      let xs : List (List ℕ) = filter has_bytes (take at parts) in
      ap (take 4) next ∙ take-append-le 4 xs (filter has_bytes (run ∷ [])) (long xs full)
    where
      long : (xs : List (List ℕ)) → length (take 4 xs) ≡ 4 → 4 ≤ length xs
      long [] e = absurd (omega arith)
      long (a ∷ []) e = absurd (omega arith)
      long (a ∷ b ∷ []) e = absurd (omega arith)
      long (a ∷ b ∷ c ∷ []) e = absurd (omega arith)
      long (a ∷ b ∷ c ∷ d ∷ xs) e = omega arith

  pub four-push : 0 < length run → length (four (take at parts)) < 4 → four (take (at + 1) parts) ≡ four (take at parts) ++ run ∷ []
  four-push some room =
      let xs : List (List ℕ) = filter has_bytes (take at parts) in
      ap (take 4) (next ∙ ap (λ r. xs ++ r) (some-run run some)) ∙ pushed xs room
    where
      pushed : (xs : List (List ℕ)) → length (take 4 xs) < 4 → take 4 (xs ++ run ∷ []) ≡ take 4 xs ++ run ∷ []
      pushed [] h = refl
      pushed (a ∷ []) h = refl
      pushed (a ∷ b ∷ []) h = refl
      pushed (a ∷ b ∷ c ∷ []) h = refl
      pushed (a ∷ b ∷ c ∷ d ∷ xs) h = absurd (omega arith)
