-- A seek to a place, and then a read.
use Rattle.std.specs.Prelude.{◌≡◌, ℕ, ◌<◌, List, ◌++◌, length, take, drop, Option, Some, None, IfSome}
use Rattle.std.proofs.Common.{arith, ap, sym, subst, ◌∙◌, length-append, length-drop}
use Rattle.std.proofs.Math.Seq.{take-append_seam}
use Rattle.std.specs.Io.KnownBytes.{Consumes, Keeps}
use Rattle.idx_real.specs.Placed.{known_bytes, StandsAt}

-- What a list begins with from a place on stands there.
pub StandsAt-front : (bytes : List ℕ) (at : ℕ) (piece rest : List ℕ) → drop at bytes ≡ piece ++ rest → 0 < length piece → StandsAt bytes at piece
StandsAt-front bytes at piece rest begins some = record {
  within = omega (arith, length-drop at bytes, length-append piece rest, ap length begins);
  same = sym (take-append_seam piece rest) ∙ sym (ap (take (length piece)) begins);
}

-- What was read from all that is left stands at the place from which it was left.
read_front : (bytes : List ℕ) (at : ℕ) (left rest : Option (List ℕ)) (piece : List ℕ) → left ≡ Some (drop at bytes) → Consumes left rest piece → 0 < length piece → StandsAt bytes at piece
read_front bytes at left None piece is consumed some = absurd (subst (λ l. Consumes l None piece) is consumed)
read_front bytes at left (Some ys) piece is consumed some = StandsAt-front bytes at piece ys (subst (λ l. Consumes l (Some ys) piece) is consumed) some

-- A file was sought to a place, and then the piece was read.
pub StandsAt-read : (place place' : Option ℕ) (bytes bytes' left left' : Option (List ℕ)) (at n : ℕ) (piece : List ℕ) →
    ((from : ℕ) (known : List ℕ) → place' ≡ Some from → bytes' ≡ Some known → left ≡ Some (drop from known)) →
    IfSome place (λ _. (n ≡ at) × (place' ≡ Some n)) → Keeps bytes bytes' → Consumes left left' piece → 0 < length piece →
    IfSome (known_bytes place bytes) (λ known. StandsAt known at piece)
StandsAt-read None place' bytes bytes' left left' at n piece law moved kept read some = tt
StandsAt-read (Some was) place' None bytes' left left' at n piece law moved kept read some = tt
StandsAt-read (Some was) place' (Some known) None left left' at n piece law moved kept read some = absurd kept
StandsAt-read (Some was) place' (Some known) (Some same) left left' at n piece law moved kept read some =
    let now_at : place' ≡ Some at = moved.1 ∙ ap Some moved.0 in
    let still : Some same ≡ Some known = ap Some kept in
    read_front known at left left' piece (law at known now_at still) read some
