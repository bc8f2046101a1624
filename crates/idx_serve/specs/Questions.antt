-- What is asked of a site.
use Rattle.std.specs.Prelude.{◌≡◌, Bool, true, false, ◌||◌, Ok}
use Rattle.idx_http.specs.declared.head.Head.{Head}
use Rattle.idx_plan.specs.declared.ask.Ask.{Ask}
use Rattle.idx_request.specs.Faults.{IsRead}
use Rattle.idx_session.specs.declared.asked.Asked.{Asked}
use Rattle.idx_session.specs.declared.asked.Asked.TheVariants as A
use Rattle.idx_serve.specs.declared.site.Site.{Site}

-- a head of which this holds
abbrev pub IsHead : Asked → (Head → Type 0) → Type 0
IsHead (A.Head head) P = P head
IsHead A.Bad P = ⊥
IsHead A.TooBig P = ⊥

-- a head with which no body comes and whose method is GET
pub record IsGet (head : Head) : Type 0 where
  pub body : head.body ≡ false
  pub get : head.get ≡ true

-- a head whose target asks this
pub record Asks (site : Site) (ask : Ask) (head : Head) : Type 0 where
  pub plain : IsGet head
  pub read : IsRead site.header site.name head.target (Ok ask)

-- this is asked
abbrev pub IsQuestion : Site → Asked → Ask → Type 0
IsQuestion site asked ask = IsHead asked (Asks site ask)

-- a head asks that its reply be the last one
abbrev pub asks_close : Asked → Bool
asks_close (A.Head head) = head.close
asks_close A.Bad = false
asks_close A.TooBig = false

-- a reply is the last one: the link has no more, or its head asks for it
abbrev pub closing : Bool → Asked → Bool
closing last asked = last || asks_close asked
