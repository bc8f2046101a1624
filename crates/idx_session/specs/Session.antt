-- What is answered on a link.
use Rattle.std.specs.Prelude.{◌≡◌, ◌⊎◌, ℕ, ◌+◌, ◌≤◌, Bool, true, false, ◌==◌, List, [], ◌∷◌, ◌++◌, length, map, All, Option, Some, None, IfSome, Result, Ok, Err, ⊤}
use Rattle.std.specs.List.{flat_map}
use Rattle.idx_outside.specs.Cause.{Rose}
use Rattle.idx_outside.specs.Contents.{appended, AppendsPrefix}
use Rattle.idx_outside.specs.Input.{Reading}
use Rattle.idx_outside.specs.declared.served.Served.{Served}
use Rattle.httparse.specs.Grammar.{RequestHead}
use Rattle.idx_http.specs.Heads.{Next, NextHead, whole, ended, cut}
use Rattle.idx_http.specs.Read.{IsWanting}
use Rattle.idx_session.specs.declared.asked.Asked.{Asked}
use Rattle.idx_session.specs.declared.link_end.LinkEnd.{LinkEnd}
use Rattle.idx_session.specs.declared.link_end.LinkEnd.TheVariants as E
use Rattle.idx_session.specs.declared.one.Step.{Step}
use Rattle.idx_session.specs.declared.one.Step.TheVariants as S
use Rattle.idx_session.specs.Entry.{Answers, Lost, Entry, Mark, mark_after, served_of, IsAsked, left_of}

-- the reply to so many heads before it is the last one
abbrev pub is_last : ℕ → Bool
is_last before = before == 65535

-- Each reply may follow the mark of the one before it, the first one the mark given. `before` heads stood before them.
-- The reply to the last head closes, and an entry that closes is the last one.
abbrev pub Follows : Answers → Mark → ℕ → List Entry → Type 0
Follows answers mark before [] = Unit {0}
Follows answers mark before (e ∷ entries) =
    answers mark e.asked (is_last before) e.reply × (is_last before ≡ true → e.reply.closes ≡ true)
    × (e.reply.closes ≡ true → entries ≡ []) × Follows answers e.reply.mark (before + 1) entries

-- The input s spells what these entries were asked, in order, and then goes on with `rest`.
abbrev pub Spells : List ℕ → List Entry → List ℕ → Type 0
Spells s [] rest = rest ≡ s
Spells s (e ∷ entries) rest = (a : Next) × NextHead s a × IsAsked a e.asked × Spells (left_of a s) entries rest

-- the bytes of the replies, one after another
abbrev pub joined : List Entry → List ℕ
joined entries = flat_map (λ e. e.reply.bytes) entries

-- the last entry closes
abbrev pub LastCloses : List Entry → Type 0
LastCloses entries = (front : List Entry) × (e : Entry) × (entries ≡ front ++ e ∷ []) × (e.reply.closes ≡ true)

-- how the link ended, where `rest` of its input was not taken
abbrev pub EndsAs : List Entry → List ℕ → LinkEnd → Type 0
EndsAs entries rest E.Closed = LastCloses entries ⊎ NextHead rest ended
EndsAs entries rest (E.CutOff kept) = NextHead rest (cut kept)
EndsAs entries rest (E.LinkFault faults) = Unit {0}
EndsAs entries rest E.NoMemory = Unit {0}

-- Every reply but the last is whole: the front's replies were written, and a prefix of the last one.
pub record WrittenShort (old new : Option (List ℕ)) (entries : List Entry) : Type 0 where
  pub front : List Entry
  pub last : List Entry
  pub split : entries ≡ front ++ last
  pub one : length last ≤ 1
  pub prefix : AppendsPrefix (appended old (joined front)) new (joined last)

-- what was written by the end
abbrev pub WrittenAs : Option (List ℕ) → Option (List ℕ) → List Entry → LinkEnd → Type 0
WrittenAs old new entries E.Closed = new ≡ appended old (joined entries)
WrittenAs old new entries (E.CutOff kept) = new ≡ appended old (joined entries)
WrittenAs old new entries (E.LinkFault faults) = WrittenShort old new entries
WrittenAs old new entries E.NoMemory = new ≡ appended old (joined entries)

-- What is known at the end, by what was known after the last entry: no more, but for want of memory.
abbrev pub KnownAs : Lost → Mark → Mark → LinkEnd → Type 0
KnownAs lost last known E.Closed = known ≡ last
KnownAs lost last known (E.CutOff kept) = known ≡ last
KnownAs lost last known (E.LinkFault faults) = known ≡ last
KnownAs lost last known E.NoMemory = (known ≡ last) ⊎ lost last known

-- the reply to the entry does not close
abbrev pub IsOpen : Entry → Type 0
IsOpen e = e.reply.closes ≡ false

-- The reading was made in its turn: when what had come of the input s behind the heads of the first entries only began a head,
-- when behind w the replies to these heads had been written, all of them and nothing else, and when none of these replies closed.
pub record InTurn (s w : List ℕ) (entries : List Entry) (reading : Reading) : Type 0 where
  pub front : List Entry
  pub more : List Entry
  pub split : entries ≡ front ++ more
  pub kept : List ℕ
  pub spells : Spells s front (kept ++ reading.coming)
  pub wanting : IsWanting kept
  pub written : reading.written ≡ w ++ joined front
  pub going : All IsOpen front

-- Each reading was made in its turn, where the input, what was written before and the readings are known.
abbrev pub ReadInTurn : List Entry → Option (List ℕ) → Option (List ℕ) → Option (List Reading) → Option (List Reading) → Type 0
ReadInTurn entries (Some s) (Some w) (Some old) new = (more : List Reading) × (new ≡ Some (old ++ more)) × All (InTurn s w entries) more
ReadInTurn entries (Some s) (Some w) None new = ⊤
ReadInTurn entries (Some s) None old new = ⊤
ReadInTurn entries None w old new = ⊤

-- What was answered on a link: the new entries, each a right reply to what it was asked, what was written of them, what is
-- known at the end, how they follow from the input, where that is known, and when the link was read.
pub record Session (answers : Answers) (lost : Lost) (mark known : Mark) (input written_old written_new : Option (List ℕ)) (readings_old readings_new : Option (List Reading)) (served_old served_new : List Served) (end : LinkEnd) : Type 0 where
  pub entries : List Entry
  pub noted : served_new ≡ served_old ++ map served_of entries
  pub follows : Follows answers mark 0 entries
  pub written : WrittenAs written_old written_new entries end
  pub marked : KnownAs lost (mark_after mark entries) known end
  pub spelt : IfSome input (λ s. (rest : List ℕ) × Spells s entries rest × EndsAs entries rest end)
  pub timely : ReadInTurn entries input written_old readings_old readings_new

-- a new entry for what was asked, as the step says
pub record IsEntry (answers : Answers) (mark_old mark_new : Mark) (asked : Asked) (last : Bool) (served_old served_new : List Served) (e : Entry) : Type 0 where
  pub asks : e.asked ≡ asked
  pub answered : answers mark_old asked last e.reply
  pub closes : last ≡ true → e.reply.closes ≡ true
  pub known : e.reply.mark ≡ mark_new
  pub noted : served_new ≡ served_old ++ served_of e ∷ []

-- what one step did to the entries and to the link
abbrev pub IsStep : Answers → Lost → Mark → Mark → Asked → Bool → List Served → List Served → Option (List ℕ) → Option (List ℕ) → Step → Type 0
IsStep answers lost mark_old mark_new asked last served_old served_new old new S.Open =
    (e : Entry) × IsEntry answers mark_old mark_new asked last served_old served_new e × (last ≡ false) × (e.reply.closes ≡ false) × (new ≡ appended old e.reply.bytes)
IsStep answers lost mark_old mark_new asked last served_old served_new old new S.Closing =
    (e : Entry) × IsEntry answers mark_old mark_new asked last served_old served_new e × (e.reply.closes ≡ true) × (new ≡ appended old e.reply.bytes)
IsStep answers lost mark_old mark_new asked last served_old served_new old new (S.Fault faults) =
    (e : Entry) × IsEntry answers mark_old mark_new asked last served_old served_new e × AppendsPrefix old new e.reply.bytes
IsStep answers lost mark_old mark_new asked last served_old served_new old new S.NoMemory =
    (served_new ≡ served_old) × (new ≡ old) × ((mark_new ≡ mark_old) ⊎ lost mark_old mark_new)

-- the count rose exactly as the step says
abbrev pub StepCounts : ℕ → ℕ → Step → Type 0
StepCounts old new S.Open = new ≡ old
StepCounts old new S.Closing = new ≡ old
StepCounts old new (S.Fault faults) = Rose old new × (faults ≡ new)
StepCounts old new S.NoMemory = new ≡ old

-- the count rose exactly as the end says
abbrev pub EndCounts : ℕ → ℕ → LinkEnd → Type 0
EndCounts old new E.Closed = new ≡ old
EndCounts old new (E.CutOff kept) = new ≡ old
EndCounts old new (E.LinkFault faults) = Rose old new × (faults ≡ new)
EndCounts old new E.NoMemory = new ≡ old

-- what asks next in an input s, of which `left` is left, or how the link ends where nothing does; only a head takes memory
abbrev pub IsNext : List ℕ → Option (List ℕ) → Result Asked LinkEnd → Type 0
IsNext s left (Ok asked) = (a : Next) × NextHead s a × IsAsked a asked × (left ≡ Some (left_of a s))
IsNext s left (Err E.Closed) = NextHead s ended
IsNext s left (Err (E.CutOff kept)) = NextHead s (cut kept)
IsNext s left (Err (E.LinkFault faults)) = Unit {0}
IsNext s left (Err E.NoMemory) = (h : RequestHead) × NextHead s (whole h)
