-- A list that stands in front of a list of so many copies.
use Rattle.std.proofs.Common.{◌≡◌, ℕ, ◌-◌, ◌≤◌, List, ◌++◌, length, take, drop, replicate, ◌∙◌, arith, length-append, length-drop}
use Rattle.std.proofs.lemmas.List.{drop-replicate, length-replicate}
use Rattle.std.proofs.Math.Seq.{take-append_seam, drop-append_seam}

module _ {X : Type 0} (xs : List X) (n : ℕ) (x : X) (fits : length xs ≤ n) where
  pub front_stored : take (length xs) (xs ++ drop (length xs) (replicate n x)) ≡ xs
  front_stored = take-append_seam xs (drop (length xs) (replicate n x))

  pub rest_stored : drop (length xs) (xs ++ drop (length xs) (replicate n x)) ≡ replicate (n - length xs) x
  rest_stored = drop-append_seam xs (drop (length xs) (replicate n x)) ∙ drop-replicate (length xs) n x

  pub length_stored : length (xs ++ drop (length xs) (replicate n x)) ≡ n
  length_stored = omega (arith, length-append xs (drop (length xs) (replicate n x)), length-drop (length xs) (replicate n x), length-replicate n x)
