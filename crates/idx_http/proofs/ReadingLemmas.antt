-- When a link is read.
use Rattle.std.proofs.Common.{◌≡◌, ℕ, List, [], ◌∷◌, ◌++◌, Option, Some, None, sym, ap, ◌∙◌, append_assoc, append-nil}
use Rattle.std.proofs.lemmas.List.Elements.{All-nil, All-push}
use Rattle.idx_outside.specs.Input.{Reading, reading_of, read_once_more, behind}
use Rattle.idx_http.specs.Read.{IsWanting, FindsFront, ReadsFronts}

-- nothing was read
pub read_none : (input written : Option (List ℕ)) (readings : Option (List Reading)) → ReadsFronts input written readings readings
read_none None written readings = tt
read_none (Some s) None readings = tt
read_none (Some s) (Some w) None = tt
read_none (Some s) (Some w) (Some old) = ([], ap Some (sym (append-nil old)), All-nil (FindsFront s w))

inner : {A : Type 0} {a b : A} → Some a ≡ Some b → a ≡ b
inner e = cc

finds : (s w kept bytes v : List ℕ) → Some (kept ++ bytes) ≡ Some s → Some v ≡ Some w → IsWanting kept → FindsFront s w (reading_of bytes v)
finds s w kept bytes v input same wanting = record { kept = kept; split = sym (inner input); wanting = wanting; same = inner same }

-- once more, at what only begins a head
pub read_more : (input written : Option (List ℕ)) (old mid : Option (List Reading)) (kept : List ℕ) (come now : Option (List ℕ)) → behind kept come ≡ input
    → now ≡ written → IsWanting kept → ReadsFronts input written old mid → ReadsFronts input written old (read_once_more mid come now)
read_more None written old mid kept come now input same wanting reads = tt
read_more (Some s) None old mid kept come now input same wanting reads = tt
read_more (Some s) (Some w) None mid kept come now input same wanting reads = tt
read_more (Some s) (Some w) (Some old) mid kept None now input same wanting reads = absurd (cc)
read_more (Some s) (Some w) (Some old) mid kept (Some bytes) None input same wanting reads = absurd (cc)
read_more (Some s) (Some w) (Some old) mid kept (Some bytes) (Some v) input same wanting (more, is, all) =
    let reading = reading_of bytes v in (
      more ++ reading ∷ [],
      ap (λ (m : Option (List Reading)). read_once_more m (Some bytes) (Some v)) is ∙ ap Some (append_assoc old more (reading ∷ [])),
      All-push (FindsFront s w) more reading all (finds s w kept bytes v input same wanting),
    )
