-- What a door tells: the links that it gives and takes back.
use Rattle.std.specs.Prelude.{◌≡◌, List, [], ◌∷◌, ◌++◌, Option, Some, None}
use Rattle.std.specs.Option.{ForSome}
use Rattle.idx_outside.specs.declared.served.Served.{Served}

-- The links still to come, those that were handed out, each as it was then, and those that came back, each as it was
-- then, with its entries.
pub record DoorTold (L : Type 0) : Type 0 where
  pub coming : List L
  pub handed : List L
  pub finished : List (L × List Served)

-- the same of its three lists
abbrev pub door_told : {L : Type 0} → List L → List L → List (L × List Served) → DoorTold L
door_told coming handed finished = record { coming = coming; handed = handed; finished = finished }

-- The next link was handed out; or none is to come, and nothing was. What is not known stays unknown.
abbrev pub Accepts : {L : Type 0} → Option (DoorTold L) → Option L → Option (DoorTold L) → Type 0
Accepts {L} old None new = (new ≡ old) × ForSome old (λ t. t.coming ≡ [])
Accepts {L} None (Some link) new = new ≡ None
Accepts {L} (Some t) (Some link) new =
    (rest : List L) × (t.coming ≡ link ∷ rest) × (new ≡ Some (door_told rest (t.handed ++ link ∷ []) t.finished))

-- after this link came back with these entries
abbrev pub finishing : {L : Type 0} → L → List Served → Option (DoorTold L) → Option (DoorTold L)
finishing link served None = None
finishing link served (Some t) = Some (door_told t.coming t.handed (t.finished ++ (link, served) ∷ []))
