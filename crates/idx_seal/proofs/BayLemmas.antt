-- What one call after another does to a bay.
use Rattle.std.proofs.Common.{◌≡◌, ◌≢◌, ℕ, zero, suc, ◌+◌, ◌-◌, ◌≤◌, List, Option, Some, None, Result, Ok, Err, refl, sym, subst, ◌∙◌, arith}
use Rattle.std.specs.Result.{IsErrAnd}
use Rattle.idx_outside.specs.Cause.{MeetsOnce, NeverFalls, Rose}
use Rattle.idx_outside.specs.declared.bay_call.BayCall.{BayCall}
use Rattle.idx_outside.specs.declared.bay_call.BayCall.TheVariants as calls
use Rattle.idx_outside.specs.declared.bay_fault.BayFault.{BayFault}
use Rattle.idx_outside.specs.declared.bay_fault.BayFault.TheVariants.{NoMemory, Outage}
use Rattle.idx_outside.specs.declared.mem_file.MemFile.{MemFile}
use Rattle.idx_seal.specs.Bay.{Answers, GivesUp, Keeps}
use Rattle.idx_seal.specs.Rows.{MeetsOnceOrRow, most_at_once}

pub rose_then : (a b c : ℕ) → Rose a b → NeverFalls b c → Rose a c
rose_then a b c rose up = grind arith

pub then_rose : (a b c : ℕ) → NeverFalls a b → Rose b c → Rose a c
then_rose a b c up rose = grind arith

-- some fault may be counted
pub some_at_once : (failed : Option BayCall) (workers : ℕ) → 1 ≤ workers → 1 ≤ most_at_once failed workers
some_at_once None workers some = omega arith
some_at_once (Some calls.Header) workers some = omega arith
some_at_once (Some calls.SetHeader) workers some = omega arith
some_at_once (Some calls.HasStep) workers some = omega arith
some_at_once (Some calls.BeginStep) workers some = omega arith
some_at_once (Some calls.Create) workers some = omega arith
some_at_once (Some calls.Leaf) workers some = omega arith
some_at_once (Some calls.Commit) workers some = omega arith
some_at_once (Some calls.Retire) workers some = some

-- what was met once was met once or by a row
pub row_of_once : (failed : Option BayCall) (workers old new : ℕ) → 1 ≤ workers → MeetsOnce old new → MeetsOnceOrRow failed workers old new
row_of_once failed workers old new some once = omega (arith, once, some_at_once failed workers some)

-- where drafts were given up, no more than there are workers
pub row_of_retire : (failed : Option BayCall) (workers old new : ℕ) → failed ≡ Some calls.Retire → new ≤ old + workers → MeetsOnceOrRow failed workers old new
row_of_retire failed workers old new is few = subst (λ call. MeetsOnceOrRow call workers old new) (sym is) few

-- nothing was given up
pub gives_none : (before : ℕ) (failed : Option BayCall) → GivesUp 0 before before failed failed
gives_none before failed = record {
  rose = λ some. absurd (omega (arith, some));
  call = λ some. absurd (omega (arith, some));
  same = λ none. refl;
  unfailed = λ none. refl;
}

-- drafts were given up, and then others
pub gives_both : (a b before middle after : ℕ) (f g h : Option BayCall) → GivesUp a before middle f g → GivesUp b middle after g h →
    NeverFalls before middle → NeverFalls middle after → GivesUp (a + b) before after f h
gives_both a zero before middle after f g h first then up more = record {
  rose = λ some. rose_then before middle after (first.rose (omega (arith, some))) more;
  call = λ some. then.unfailed refl ∙ first.call (omega (arith, some));
  same = λ none. then.same refl ∙ first.same (omega (arith, none));
  unfailed = λ none. then.unfailed refl ∙ first.unfailed (omega (arith, none));
}
gives_both a (suc b) before middle after f g h first then up more = record {
  rose = λ some. then_rose before middle after up (then.rose (omega arith));
  call = λ some. then.call (omega arith);
  same = λ none. absurd (omega (arith, none));
  unfailed = λ none. absurd (omega (arith, none));
}

-- the first of the drafts that are left was given up
pub gives_next : (total left one rest before middle after : ℕ) (f g h : Option BayCall) → left ≡ one + rest → left ≤ total →
    GivesUp (total - left) before middle f g → GivesUp one middle after g h → NeverFalls before middle → NeverFalls middle after →
    GivesUp (total - rest) before after f h
gives_next total left one rest before middle after f g h parts within first then up more =
    let sum : (total - left) + one ≡ total - rest = omega arith in
    subst (λ n. GivesUp n before after f h) sum (gives_both (total - left) one before middle after f g h first then up more)

-- a refusal, behind which the count and the call stayed
pub refused_then : (fault : BayFault) (before middle after : ℕ) (f g h : Option BayCall) → Answers {T = Unit {0}} (Err fault) before middle f g →
    after ≡ middle → h ≡ g → Answers {T = Unit {0}} (Err fault) before after f h
refused_then fault before middle after f g h answers same unfailed =
    subst (λ n. Answers {T = Unit {0}} (Err fault) before n f h) (sym same) (subst (λ call. Answers {T = Unit {0}} (Err fault) before middle f call) (sym unfailed) answers)

-- a refusal is handed on, before which the count and the call had stayed
pub handed_on : {T : Type 0} (r : Result T BayFault) (fault : BayFault) (start before after : ℕ) (first f h : Option BayCall) →
    IsErrAnd r (λ other. other ≡ fault) → Answers {T = Unit {0}} (Err fault) before after f h → before ≡ start → f ≡ first → Answers r start after first h
handed_on (Ok value) fault start before after first f h gives answers same unfailed = absurd gives
handed_on (Err other) fault start before after first f h gives answers same unfailed =
    subst (λ e. Answers {T = Unit {0}} (Err e) start after first h) (sym gives)
    (subst (λ n. Answers {T = Unit {0}} (Err fault) n after first h) same (subst (λ call. Answers {T = Unit {0}} (Err fault) before after call h) unfailed answers))

-- at any answer but a fault that was counted, the call stayed
pub call_stays : {T : Type 0} (r : Result T BayFault) (before after : ℕ) (f h : Option BayCall) → Answers r before after f h → r ≢ Err Outage → h ≡ f
call_stays (Ok value) before after f h answers other = answers.1
call_stays (Err NoMemory) before after f h answers other = answers.1
call_stays (Err Outage) before after f h answers other = absurd (other refl)

module _ {S : Type 0} (header : S → Option (List ℕ)) (files : S → Option (List MemFile)) (begun : S → Option (List ℕ)) (admits : S → List ℕ → Type 0) (faults : S → ℕ) where
  pub keeps_none : (bay : S) → Keeps header files begun admits faults bay bay
  keeps_none bay = record { header_same = refl; files_same = refl; begun_same = refl; still = λ path admitted. admitted; count = omega arith }

  pub keeps_then : (old middle new : S) → Keeps header files begun admits faults old middle → Keeps header files begun admits faults middle new → Keeps header files begun admits faults old new
  keeps_then old middle new first then = record {
    header_same = then.header_same ∙ first.header_same;
    files_same = then.files_same ∙ first.files_same;
    begun_same = then.begun_same ∙ first.begun_same;
    still = λ path admitted. then.still path (first.still path admitted);
    count = omega (arith, first.count, then.count);
  }
