-- What is answered on a link, head after head.
use Rattle.std.proofs.Common.{IfSome, ◌≡◌, ◌⊎◌, ℕ, ◌+◌, Bool, true, false, List, [], ◌∷◌, ◌++◌, length, map, Option, Some, None, Ok, Err, refl, sym, ap, subst, ◌∙◌, arith, inl, inr, append_assoc, append-nil, length-append}
use Rattle.std.proofs.lemmas.List.{map-append}
use Rattle.std.specs.List.{All}
use Rattle.std.proofs.lemmas.List.Elements.{All-append, All-head, All-tail, All-push, All-nil, All-weaker}
use Rattle.std.proofs.lemmas.Grind.{flat_map-append}
use Rattle.idx_outside.specs.Contents.{appended, AppendsPrefix}
use Rattle.idx_outside.specs.Input.{Reading, behind}
use Rattle.idx_outside.specs.declared.served.Served.{Served}
use Rattle.idx_http.specs.Heads.{Next, NextHead}
use Rattle.idx_http.specs.Read.{FindsFront, ReadsFronts}
use Rattle.idx_session.specs.declared.asked.Asked.{Asked}
use Rattle.idx_session.specs.declared.link_end.LinkEnd.{LinkEnd}
use Rattle.idx_session.specs.declared.link_end.LinkEnd.TheVariants as E
use Rattle.idx_session.specs.Entry.{Answers, Lost, Entry, Mark, mark_after, served_of, IsAsked, left_of}
use Rattle.idx_session.specs.Session.{IsNext, is_last, Follows, Spells, joined, EndsAs, WrittenAs, KnownAs, Session, IsEntry, InTurn, IsOpen, ReadInTurn}

-- the input, where it is known, spells these entries up to what is still to come
abbrev pub SpellsUpTo : Option (List ℕ) → Option (List ℕ) → List Entry → Type 0
SpellsUpTo input left entries = IfSome input (λ s. (rest : List ℕ) × (left ≡ Some rest) × Spells s entries rest)

-- between two heads: so many were answered, and no reply closes
pub record SoFar (answers : Answers) (mark known : Mark) (input left written_old written_new : Option (List ℕ)) (readings_old readings_new : Option (List Reading)) (served_old served_new : List Served) (count : ℕ) : Type 0 where
  pub entries : List Entry
  pub number : length entries ≡ count
  pub marked : mark_after mark entries ≡ known
  pub noted : served_new ≡ served_old ++ map served_of entries
  pub follows : Follows answers mark 0 entries
  pub written : written_new ≡ appended written_old (joined entries)
  pub going : All IsOpen entries
  pub spelt : SpellsUpTo input left entries
  pub timely : ReadInTurn entries input written_old readings_old readings_new

-- ---- when the link was read

-- what was read only at the front of what is left was read in turn
finds_in_turn : (s w rest : List ℕ) (entries : List Entry) → All IsOpen entries → Spells s entries rest → (reading : Reading) → FindsFront rest (w ++ joined entries) reading
    → InTurn s w entries reading
finds_in_turn s w rest entries going spells reading f = record {
  front = entries;
  more = [];
  split = sym (append-nil entries);
  kept = f.kept;
  spells = subst (Spells s entries) f.split spells;
  wanting = f.wanting;
  written = f.same;
  going = going;
}

timely_read : (input left wo wn : Option (List ℕ)) (ro rn rm : Option (List Reading)) (entries : List Entry) → All IsOpen entries → SpellsUpTo input left entries
    → wn ≡ appended wo (joined entries) → ReadInTurn entries input wo ro rn → ReadsFronts left wn rn rm → ReadInTurn entries input wo ro rm
timely_read None left wo wn ro rn rm entries going spelt wrote timely reads = tt
timely_read (Some s) left None wn ro rn rm entries going spelt wrote timely reads = tt
timely_read (Some s) left (Some w) wn None rn rm entries going spelt wrote timely reads = tt
timely_read (Some s) left (Some w) wn (Some old) rn rm entries going (rest, is, spells) wrote (more, was, all) reads =
    let known : ReadsFronts (Some rest) (Some (w ++ joined entries)) (Some (old ++ more)) rm =
    subst (λ (o : Option (List ℕ)). ReadsFronts o (Some (w ++ joined entries)) (Some (old ++ more)) rm) is
    (subst (λ (o : Option (List ℕ)). ReadsFronts left o (Some (old ++ more)) rm) wrote (subst (λ (o : Option (List Reading)). ReadsFronts left wn o rm) was reads)) in (
      more ++ known.0,
      known.1 ∙ ap Some (append_assoc old more known.0),
      All-append (InTurn s w entries) more known.0 all
          (All-weaker (FindsFront rest (w ++ joined entries)) (InTurn s w entries) (finds_in_turn s w rest entries going spells) known.0 known.2),
    )

-- what was read in turn stays so when more is answered
in_turn_more : (s w : List ℕ) (entries last : List Entry) (reading : Reading) → InTurn s w entries reading → InTurn s w (entries ++ last) reading
in_turn_more s w entries last reading t = record {
  front = t.front;
  more = t.more ++ last;
  split = ap (λ (l : List Entry). l ++ last) t.split ∙ append_assoc t.front t.more last;
  kept = t.kept;
  spells = t.spells;
  wanting = t.wanting;
  written = t.written;
  going = t.going;
}

timely_push : (input wo : Option (List ℕ)) (ro rn : Option (List Reading)) (entries last : List Entry) → ReadInTurn entries input wo ro rn
    → ReadInTurn (entries ++ last) input wo ro rn
timely_push None wo ro rn entries last timely = tt
timely_push (Some s) None ro rn entries last timely = tt
timely_push (Some s) (Some w) None rn entries last timely = tt
timely_push (Some s) (Some w) (Some old) rn entries last (more, was, all) =
    (more, was, All-weaker (InTurn s w entries) (InTurn s w (entries ++ last)) (in_turn_more s w entries last) more all)

timely_none : (input wo : Option (List ℕ)) (ro : Option (List Reading)) → ReadInTurn [] input wo ro ro
timely_none None wo ro = tt
timely_none (Some s) None ro = tt
timely_none (Some s) (Some w) None = tt
timely_none (Some s) (Some w) (Some old) = ([], ap Some (sym (append-nil old)), All-nil (InTurn s w []))

-- the link was read, and then nothing was written, nothing noted and nothing read
pub so_far_read : {answers : Answers} {mark known : Mark} {input left wo wn wm : Option (List ℕ)} {ro rn rm rk : Option (List Reading)} {so sn sm : List Served} {count : ℕ}
    → wm ≡ wn → sm ≡ sn → ReadsFronts left wn rn rm → rk ≡ rm → SoFar answers mark known input left wo wn ro rn so sn count
    → SoFar answers mark known input left wo wm ro rk so sm count
so_far_read {input = input} {left = left} {wo = wo} {wn = wn} {ro = ro} {rn = rn} {rm = rm} same noted reads still f = record {
  entries = f.entries;
  number = f.number;
  marked = f.marked;
  noted = noted ∙ f.noted;
  follows = f.follows;
  written = same ∙ f.written;
  going = f.going;
  spelt = f.spelt;
  timely = subst (ReadInTurn f.entries input wo ro) (sym still) (timely_read input left wo wn ro rn rm f.entries f.going f.spelt f.written f.timely reads);
}

-- ---- more entries

-- one more right reply behind those that do not close
Follows_push : (answers : Answers) (mark : Mark) (before : ℕ) (entries : List Entry) (e : Entry) → All IsOpen entries → Follows answers mark before entries
    → answers (mark_after mark entries) e.asked (is_last (before + length entries)) e.reply → (is_last (before + length entries) ≡ true → e.reply.closes ≡ true)
    → Follows answers mark before (entries ++ e ∷ [])
Follows_push answers mark before [] e going follows answered closes =
    let same : before + 0 ≡ before = omega arith in
    (subst (λ n. answers mark e.asked (is_last n) e.reply) same answered, subst (λ n. is_last n ≡ true → e.reply.closes ≡ true) same closes, (λ closes. refl), tt)
Follows_push answers mark before (f ∷ entries) e going (gave, ends, last, follows) answered closes =
    let count : before + length (f ∷ entries) ≡ (before + 1) + length entries = omega arith in (
      gave,
      ends,
      (λ closing. absurd (open_apart closing (All-head IsOpen f entries going))),
      Follows_push answers f.reply.mark (before + 1) entries e (All-tail IsOpen f entries going) follows
          (subst (λ n. answers (mark_after f.reply.mark entries) e.asked (is_last n) e.reply) count answered)
          (subst (λ n. is_last n ≡ true → e.reply.closes ≡ true) count closes),
    )
  where
    open_apart : {b : Bool} → b ≡ true → b ≡ false → ⊥
    open_apart p q = cc

-- what was asked behind what was asked before
Spells_push : (s : List ℕ) (entries : List Entry) (rest : List ℕ) (e : Entry) (a : Next) → Spells s entries rest → NextHead rest a → IsAsked a e.asked
    → Spells s (entries ++ e ∷ []) (left_of a rest)
Spells_push s [] rest e a spells next asks = (a, subst (λ (t : List ℕ). NextHead t a) spells next, asks, ap (left_of a) spells)
Spells_push s (f ∷ entries) rest e a (b, first, asked, spells) next asks = (b, first, asked, Spells_push (left_of b s) entries rest e a spells next asks)

-- ---- one more head

-- what asks next, in an input that may be unknown
abbrev pub AsksNext : Option (List ℕ) → Option (List ℕ) → Asked → Type 0
AsksNext left after asked = IfSome left (λ s. IsNext s after (Ok asked))

spelt_push : (input left after : Option (List ℕ)) (entries : List Entry) (e : Entry) → SpellsUpTo input left entries → AsksNext left after e.asked
    → SpellsUpTo input after (entries ++ e ∷ [])
spelt_push None left after entries e spelt asks = tt
spelt_push (Some s) left after entries e (rest, is, spells) asks =
    let next : IsNext rest after (Ok e.asked) = subst (λ (o : Option (List ℕ)). AsksNext o after e.asked) is asks in
    (left_of next.0 rest, next.3, Spells_push s entries rest e next.0 spells next.1 next.2)

noted_push : (old new more : List Served) (entries : List Entry) (e : Entry) → new ≡ old ++ map served_of entries → more ≡ new ++ served_of e ∷ []
    → more ≡ old ++ map served_of (entries ++ e ∷ [])
noted_push old new more entries e noted again =
    again ∙ ap (λ (t : List Served). t ++ served_of e ∷ []) noted ∙ append_assoc old (map served_of entries) (served_of e ∷ [])
    ∙ ap (λ (t : List Served). old ++ t) (sym (map-append served_of entries (e ∷ [])))

joined_push : (entries : List Entry) (e : Entry) → joined (entries ++ e ∷ []) ≡ joined entries ++ e.reply.bytes
joined_push entries e =
    flat_map-append (λ (x : Entry). x.reply.bytes) entries (e ∷ []) ∙ ap (λ (t : List ℕ). joined entries ++ t) (append-nil e.reply.bytes)

appended_twice : (c : Option (List ℕ)) (p q : List ℕ) → appended (appended c p) q ≡ appended c (p ++ q)
appended_twice None p q = refl
appended_twice (Some bytes) p q = ap Some (append_assoc bytes p q)

written_push : (old new more : Option (List ℕ)) (entries : List Entry) (e : Entry) → new ≡ appended old (joined entries) → more ≡ appended new e.reply.bytes
    → more ≡ appended old (joined (entries ++ e ∷ []))
written_push old new more entries e written again =
    again ∙ ap (λ c. appended c e.reply.bytes) written ∙ appended_twice old (joined entries) e.reply.bytes ∙ ap (appended old) (sym (joined_push entries e))

mark_push : (mark : Mark) (entries : List Entry) (e : Entry) → mark_after mark (entries ++ e ∷ []) ≡ e.reply.mark
mark_push mark [] e = refl
mark_push mark (f ∷ entries) e = mark_push f.reply.mark entries e

-- what one more entry stands on
pub record More (answers : Answers) (mark known later : Mark) (input left after written_old written_new : Option (List ℕ)) (readings_old readings_new : Option (List Reading)) (served_old served_new served_more : List Served) (count : ℕ) (asked : Asked) (e : Entry) : Type 0 where
  pub so_far : SoFar answers mark known input left written_old written_new readings_old readings_new served_old served_new count
  pub asks : AsksNext left after asked
  pub entry : IsEntry answers known later asked (is_last count) served_new served_more e

more_follows : {answers : Answers} {mark known later : Mark} {input left after wo wn : Option (List ℕ)} {ro rn : Option (List Reading)} {so sn sm : List Served} {count : ℕ} {asked : Asked} {e : Entry}
    → (m : More answers mark known later input left after wo wn ro rn so sn sm count asked e) → Follows answers mark 0 (m.so_far.entries ++ e ∷ [])
more_follows {answers} {mark} {known} {count} {asked} {e} m =
    let entries = m.so_far.entries in
    let n : 0 + length entries ≡ count = omega (arith, m.so_far.number) in
    let answered : answers (mark_after mark entries) e.asked (is_last count) e.reply =
    subst (λ k. answers k e.asked (is_last count) e.reply) (sym m.so_far.marked) (subst (λ a. answers known a (is_last count) e.reply) (sym m.entry.asks) m.entry.answered) in
    Follows_push answers mark 0 entries e m.so_far.going m.so_far.follows (subst (λ k. answers (mark_after mark entries) e.asked (is_last k) e.reply) (sym n) answered)
    (subst (λ k. is_last k ≡ true → e.reply.closes ≡ true) (sym n) m.entry.closes)

more_spelt : {answers : Answers} {mark known later : Mark} {input left after wo wn : Option (List ℕ)} {ro rn : Option (List Reading)} {so sn sm : List Served} {count : ℕ} {asked : Asked} {e : Entry}
    → (m : More answers mark known later input left after wo wn ro rn so sn sm count asked e) → SpellsUpTo input after (m.so_far.entries ++ e ∷ [])
more_spelt {input} {left} {after} {e} m = spelt_push input left after m.so_far.entries e m.so_far.spelt (subst (AsksNext left after) (sym m.entry.asks) m.asks)

more_marked : {answers : Answers} {mark known later : Mark} {input left after wo wn : Option (List ℕ)} {ro rn : Option (List Reading)} {so sn sm : List Served} {count : ℕ} {asked : Asked} {e : Entry}
    → (m : More answers mark known later input left after wo wn ro rn so sn sm count asked e) → mark_after mark (m.so_far.entries ++ e ∷ []) ≡ later
more_marked {mark} {e} m = mark_push mark m.so_far.entries e ∙ m.entry.known

more_timely : {answers : Answers} {mark known later : Mark} {input left after wo wn : Option (List ℕ)} {ro rn : Option (List Reading)} {so sn sm : List Served} {count : ℕ} {asked : Asked} {e : Entry}
    → (m : More answers mark known later input left after wo wn ro rn so sn sm count asked e) → ReadInTurn (m.so_far.entries ++ e ∷ []) input wo ro rn
more_timely {input = input} {wo = wo} {ro = ro} {rn = rn} {e = e} m = timely_push input wo ro rn m.so_far.entries (e ∷ []) m.so_far.timely

-- it does not close, and the loop goes on
pub more_open : {answers : Answers} {mark known later : Mark} {input left after wo wn : Option (List ℕ)} {ro rn : Option (List Reading)} {so sn sm : List Served} {count : ℕ} {asked : Asked} {e : Entry}
    → More answers mark known later input left after wo wn ro rn so sn sm count asked e → (wm : Option (List ℕ)) → e.reply.closes ≡ false → wm ≡ appended wn e.reply.bytes
    → SoFar answers mark later input after wo wm ro rn so sm (count + 1)
more_open {wo} {wn} {so} {sn} {sm} {e} m wm open' wrote = record {
  entries = m.so_far.entries ++ e ∷ [];
  number = omega (arith, length-append m.so_far.entries (e ∷ []), m.so_far.number);
  marked = more_marked m;
  noted = noted_push so sn sm m.so_far.entries e m.so_far.noted m.entry.noted;
  follows = more_follows m;
  written = written_push wo wn wm m.so_far.entries e m.so_far.written wrote;
  going = All-push IsOpen m.so_far.entries e m.so_far.going open';
  spelt = more_spelt m;
  timely = more_timely m;
}

spelt_end : (input left : Option (List ℕ)) (entries : List Entry) (end : LinkEnd) → ((rest : List ℕ) → left ≡ Some rest → EndsAs entries rest end)
    → SpellsUpTo input left entries → IfSome input (λ s. (rest : List ℕ) × Spells s entries rest × EndsAs entries rest end)
spelt_end None left entries end ends spelt = tt
spelt_end (Some s) left entries end ends (rest, is, spells) = (rest, spells, ends rest is)

-- it closes
pub more_closing : {answers : Answers} {lost : Lost} {mark known later : Mark} {input left after wo wn : Option (List ℕ)} {ro rn : Option (List Reading)} {so sn sm : List Served} {count : ℕ} {asked : Asked} {e : Entry}
    → More answers mark known later input left after wo wn ro rn so sn sm count asked e → (wm : Option (List ℕ)) → e.reply.closes ≡ true → wm ≡ appended wn e.reply.bytes
    → Session answers lost mark later input wo wm ro rn so sm E.Closed
more_closing {input} {after} {wo} {wn} {so} {sn} {sm} {e} m wm closes wrote = record {
  entries = m.so_far.entries ++ e ∷ [];
  noted = noted_push so sn sm m.so_far.entries e m.so_far.noted m.entry.noted;
  follows = more_follows m;
  written = written_push wo wn wm m.so_far.entries e m.so_far.written wrote;
  marked = sym (more_marked m);
  spelt = spelt_end input after (m.so_far.entries ++ e ∷ []) E.Closed (λ rest is. inl (m.so_far.entries, e, refl, closes)) (more_spelt m);
  timely = more_timely m;
}

-- the link failed while it was written
pub more_fault : {answers : Answers} {lost : Lost} {mark known later : Mark} {input left after wo wn : Option (List ℕ)} {ro rn : Option (List Reading)} {so sn sm : List Served} {count : ℕ} {asked : Asked} {e : Entry}
    → More answers mark known later input left after wo wn ro rn so sn sm count asked e → (wm : Option (List ℕ)) (faults : ℕ) → AppendsPrefix wn wm e.reply.bytes
    → Session answers lost mark later input wo wm ro rn so sm (E.LinkFault faults)
more_fault {input} {after} {wo} {wn} {so} {sn} {sm} {e} m wm faults wrote = record {
  entries = m.so_far.entries ++ e ∷ [];
  noted = noted_push so sn sm m.so_far.entries e m.so_far.noted m.entry.noted;
  follows = more_follows m;
  written = record {
    front = m.so_far.entries;
    last = e ∷ [];
    split = refl;
    one = omega arith;
    prefix = subst (λ (t : List ℕ). AppendsPrefix (appended wo (joined m.so_far.entries)) wm t) (sym (append-nil e.reply.bytes))
        (subst (λ c. AppendsPrefix c wm e.reply.bytes) m.so_far.written wrote);
  };
  marked = sym (more_marked m);
  spelt = spelt_end input after (m.so_far.entries ++ e ∷ []) (E.LinkFault faults) (λ rest is. tt) (more_spelt m);
  timely = more_timely m;
}

-- ---- no more heads

whole_written : (old new : Option (List ℕ)) (entries : List Entry) (end : LinkEnd) → new ≡ appended old (joined entries) → WrittenAs old new entries end
whole_written old new entries E.Closed written = written
whole_written old new entries (E.CutOff kept) written = written
whole_written old new entries (E.LinkFault faults) written = record {
  front = entries;
  last = [];
  split = sym (append-nil entries);
  one = omega arith;
  prefix = record { count = 0; within = omega arith; written = written ∙ appended_nil (appended old (joined entries)) };
}
  where
    appended_nil : (c : Option (List ℕ)) → c ≡ appended c []
    appended_nil None = refl
    appended_nil (Some bytes) = ap Some (sym (append-nil bytes))
whole_written old new entries E.NoMemory written = written

known_as : (lost : Lost) (last known : Mark) (end : LinkEnd) → known ≡ last → KnownAs lost last known end
known_as lost last known E.Closed same = same
known_as lost last known (E.CutOff kept) same = same
known_as lost last known (E.LinkFault faults) same = same
known_as lost last known E.NoMemory same = inl same

ends_as : (entries : List Entry) (rest : List ℕ) (after : Option (List ℕ)) (end : LinkEnd) → IsNext rest after (Err end) → EndsAs entries rest end
ends_as entries rest after E.Closed next = inr next
ends_as entries rest after (E.CutOff kept) next = next
ends_as entries rest after (E.LinkFault faults) next = tt
ends_as entries rest after E.NoMemory next = tt

-- nothing asks next
pub none_next : {answers : Answers} {lost : Lost} {mark known : Mark} {input left wo wn : Option (List ℕ)} {ro rn : Option (List Reading)} {so sn : List Served} {count : ℕ}
    → (after : Option (List ℕ)) (end : LinkEnd) → SoFar answers mark known input left wo wn ro rn so sn count → IfSome left (λ s. IsNext s after (Err end))
    → Session answers lost mark known input wo wn ro rn so sn end
none_next {lost} {mark} {known} {input} {left} {wo} {wn} after end f next = record {
  entries = f.entries;
  noted = f.noted;
  follows = f.follows;
  written = whole_written wo wn f.entries end f.written;
  marked = known_as lost (mark_after mark f.entries) known end (sym f.marked);
  spelt = spelt_end input left f.entries end
      (λ rest is. ends_as f.entries rest after end (subst (λ (o : Option (List ℕ)). IfSome o (λ s. IsNext s after (Err end))) is next)) f.spelt;
  timely = f.timely;
}

-- memory was refused
pub no_memory : {answers : Answers} {lost : Lost} {mark known later : Mark} {input left wo wn : Option (List ℕ)} {ro rn : Option (List Reading)} {so sn : List Served} {count : ℕ}
    → SoFar answers mark known input left wo wn ro rn so sn count → (later ≡ known) ⊎ lost known later → Session answers lost mark later input wo wn ro rn so sn E.NoMemory
no_memory {lost} {mark} {later} {input} {left} f left_as = record {
  entries = f.entries;
  noted = f.noted;
  follows = f.follows;
  written = f.written;
  marked = subst (λ k. (later ≡ k) ⊎ lost k later) (sym f.marked) left_as;
  spelt = spelt_end input left f.entries E.NoMemory (λ rest is. tt) f.spelt;
  timely = f.timely;
}

-- before the first head, with nothing kept
pub none_yet : (answers : Answers) (mark : Mark) (kept : List ℕ) (input written : Option (List ℕ)) (readings : Option (List Reading)) (served : List Served) → kept ≡ []
    → SoFar answers mark mark input (behind kept input) written written readings readings served served 0
none_yet answers mark kept input written readings served none = record {
  entries = [];
  number = refl;
  marked = refl;
  noted = sym (append-nil served);
  follows = tt;
  written = appended_nil written;
  going = All-nil IsOpen;
  spelt = spelt_none input;
  timely = timely_none input written readings;
}
  where
    appended_nil : (c : Option (List ℕ)) → c ≡ appended c []
    appended_nil None = refl
    appended_nil (Some bytes) = ap Some (sym (append-nil bytes))

    spelt_none : (input : Option (List ℕ)) → SpellsUpTo input (behind kept input) []
    spelt_none None = tt
    spelt_none (Some s) = (s, ap (λ k. Some (k ++ s)) none, refl)
