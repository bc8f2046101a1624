-- What is answered on the links of a door, one after another.
use Rattle.std.specs.Prelude.{◌≡◌, ◌⊎◌, ℕ, ◌+◌, ◌-◌, ◌^◌, ◌≤◌, Bool, true, false, List, [], ◌∷◌, ◌++◌, length, map, min, sum_by, Option, Some, None}
use Rattle.std.specs.List.{list_any}
use Rattle.std.specs.Option.{ForSome}
use Rattle.idx_outside.specs.Cause.{MeetsOnce, NeverFalls, Rose}
use Rattle.idx_outside.specs.Doors.{DoorTold, door_told}
use Rattle.idx_outside.specs.Input.{Reading}
use Rattle.idx_outside.specs.declared.served.Served.{Served}
use Rattle.idx_session.specs.Entry.{State}
use Rattle.idx_session.specs.Session.{EndCounts}
use Rattle.idx_session.specs.declared.link_end.LinkEnd.{LinkEnd}
use Rattle.idx_session.specs.declared.link_end.LinkEnd.TheVariants as E
use Rattle.idx_serve.specs.Links.{IsServed, lost_heads}
use Rattle.idx_serve.specs.declared.door.ServeEnd.{ServeEnd}
use Rattle.idx_serve.specs.declared.door.ServeEnd.TheVariants as S
use Rattle.idx_serve.specs.declared.site.Site.{Site}

-- What links tell: what is still to come, what was written, when they were read, and how many faults were counted.
pub record LinkTells (L : Type 0) : Type 0 where
  pub incoming : L → Option (List ℕ)
  pub written : L → Option (List ℕ)
  pub readings : L → Option (List Reading)
  pub faults : L → ℕ

-- the same, by the ghost members of their trait
abbrev pub link_tells : {L : Type 0} → (L → Option (List ℕ)) → (L → Option (List ℕ)) → (L → Option (List Reading)) → (L → ℕ) → LinkTells L
link_tells incoming written readings faults =
    record { incoming = incoming; written = written; readings = readings; faults = faults }

-- A link as it was handed out and as it came back, the entries of what was answered on it, and how it ended.
pub record Visit (L : Type 0) : Type 0 where
  pub link : L
  pub back : L
  pub served : List Served
  pub end : LinkEnd

-- the link that came back, with its entries
abbrev pub finished : {L : Type 0} → Visit L → L × List Served
finished v = (v.back, v.served)

-- the link was served, from the state before to the one afterwards
pub record IsVisit {L : Type 0} (tell : LinkTells L) (tells : Bool) (site : Site) (before after : State) (v : Visit L) : Type 0 where
  pub served : IsServed tells site before after (tell.incoming v.link) (tell.written v.link) (tell.written v.back) (tell.readings v.link) (tell.readings v.back) [] v.served v.end
  pub count : NeverFalls (tell.faults v.link) (tell.faults v.back)
  pub once : MeetsOnce (tell.faults v.link) (tell.faults v.back)
  pub counts : EndCounts (tell.faults v.link) (tell.faults v.back) v.end

-- The links were served one after another, each from the state that the one before it left.
abbrev pub AreVisits : {L : Type 0} → LinkTells L → Bool → Site → State → List (Visit L) → State → Type 0
AreVisits tell tells site before [] after = after ≡ before
AreVisits tell tells site before (v ∷ visits) after =
    (mid : State) × IsVisit tell tells site before mid v × AreVisits tell tells site mid visits after

-- there was no memory for a head of the link that ended so
abbrev pub is_starving : LinkEnd → Bool
is_starving E.NoMemory = true
is_starving end = false

abbrev pub is_starved : {L : Type 0} → Visit L → Bool
is_starved v = is_starving v.end

-- The door handed out the links of these visits, in order, and no other, and they came back in that order.
abbrev pub CameBack : {L : Type 0} → List (Visit L) → Option (DoorTold L) → Option (DoorTold L) → Type 0
CameBack visits None new = new ≡ None
CameBack visits (Some old) new =
    (rest : List _) × (old.coming ≡ map (λ v. v.link) visits ++ rest)
    × (new ≡ Some (door_told rest (old.handed ++ map (λ v. v.link) visits) (old.finished ++ map finished visits)))

-- a count that stands still at the end of its type
abbrev pub capped : ℕ → ℕ
capped n = min n (2 ^ 64 - 1)

-- how many heads of a link were taken up: those that have entries, and the one that got no reply for want of memory
abbrev pub heads_of : {L : Type 0} → Visit L → ℕ
heads_of v = length v.served + lost_heads v.end

-- What came of a door: the visits of its links, how many there were, and how many entries they have. The reader counted one fault at
-- most for each head that was taken up.
pub record AtDoor {L : Type 0} (tell : LinkTells L) (tells : Bool) (site : Site) (before after : State) (old new : Option (DoorTold L)) (links replies : ℕ) (starved : Bool) : Type 0 where
  pub visits : List (Visit L)
  pub served : AreVisits tell tells site before visits after
  pub came : CameBack visits old new
  pub links_are : links ≡ length visits
  pub replies_are : replies ≡ capped (sum_by (λ v. length v.served) visits)
  pub starved_is : starved ≡ list_any is_starved visits
  pub once : after.faults ≤ before.faults + sum_by heads_of visits

-- The door is through: no link is left and no fault was counted, or it failed.
abbrev pub IsThrough : {L : Type 0} → Option (DoorTold L) → ℕ → ℕ → Type 0
IsThrough told before after = (ForSome told (λ t. t.coming ≡ []) × (after ≡ before)) ⊎ Rose before after

-- How serving a door ends, by what it tells afterwards, by its counts before and afterwards, by how many links there were, and by
-- whether there was no memory for some head: no link is left and no fault was counted, or the door failed. Want of memory for some
-- head goes before both; it is also what is said where there were as many links as can be counted.
abbrev pub IsEnd : {L : Type 0} → Option (DoorTold L) → ℕ → ℕ → ℕ → Bool → ServeEnd → Type 0
IsEnd told before after links starved S.Done = ForSome told (λ t. t.coming ≡ []) × (after ≡ before) × (starved ≡ false)
IsEnd told before after links starved (S.DoorFault faults) = Rose before after × (faults ≡ after) × (starved ≡ false)
IsEnd told before after links starved S.NoMemory =
    ((starved ≡ true) × IsThrough told before after) ⊎ ((links ≡ 2 ^ 64 - 1) × (after ≡ before))
