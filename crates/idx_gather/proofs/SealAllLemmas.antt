-- What a refusal within a window says of the whole.
use Rattle.std.proofs.Common.{◌≡◌, ℕ, List, drop, sym, ap, subst, ◌∙◌, arith, inl, inr}
use Rattle.std.specs.Prelude.{IfErr, slice_index, Option, Result, Ok, Err}
use Rattle.std.specs.Result.{IsErrAnd}
use Rattle.idx_outside.specs.Cause.{Rose}
use Rattle.idx_outside.specs.Counts.{EachMeetsOnce}
use Rattle.idx_outside.specs.declared.bay_call.BayCall.{BayCall}
use Rattle.idx_outside.specs.declared.mem_file.MemFile.{MemFile}
use Rattle.idx_header.specs.Header.{HeaderValue}
use Rattle.idx_pieces.specs.Ranks.{rank_count}
use Rattle.idx_gather.specs.Gather.{HasVolume, IsCaused, IsStoreFault, LeavesFailed}
use Rattle.idx_gather.specs.declared.gather_fault.GatherFault.{GatherFault}
use Rattle.idx_gather.specs.declared.gather_fault.GatherFault.TheVariants.{RawWrongSize, RawFault, StoreFault, NoMemory}

pub on_fault : {T E : Type 0} (r : Result T E) (x : E) (P : E → Type 0) → IsErrAnd r (λ y. y ≡ x) → P x → IfErr r P
on_fault (Ok v) x P gives holds = absurd gives
on_fault (Err y) x P gives holds = subst P (sym gives) holds

-- a cause within a window is one of the whole
pub caused_again : (h g : HeaderValue) (told raw : Option (List ℕ)) (start before after : List ℕ) (first last : ℕ) (fault : GatherFault) → g ≡ h → raw ≡ told → before ≡ start → last ≡ first →
    HasVolume h told → ((count : ℕ) → HasVolume g raw → IsCaused g raw before after count count fault) → IsCaused h told start after first last fault
caused_again h g told raw start before after first last fault header same starts counts has cause =
    let right : HasVolume g raw = subst (λ (o : Option (List ℕ)). HasVolume g o) (sym same) (subst (λ (x : HeaderValue). HasVolume x told) (sym header) has) in
    subst (λ (n : ℕ). IsCaused h told start after first n fault) (sym counts)
    (subst (λ (xs : List ℕ). IsCaused h told xs after first first fault) starts
    (subst (λ (o : Option (List ℕ)). IsCaused h o before after first first fault) same
    (subst (λ (x : HeaderValue). IsCaused x raw before after first first fault) header (cause first right))))

-- and so is one of the store
pub store_caused : (h : HeaderValue) (told : Option (List ℕ)) (start after : List ℕ) (first mid last : ℕ) (fault : GatherFault) → HasVolume h told → after ≡ start → mid ≡ first →
    IsStoreFault mid last fault → IsCaused h told start after first last fault
store_caused h told start after first mid last (RawWrongSize want found) has same at why = absurd why
store_caused h told start after first mid last (RawFault rank faults) has same at why = absurd why
store_caused h told start after first mid last (StoreFault faults) has same at why = (has, why.0, subst (λ (n : ℕ). Rose n last) at why.1, same)
store_caused h told start after first mid last NoMemory has same at why = (has, same, why ∙ at)

-- no count rises where it stays 0
none_rose : Rose 0 0 → ⊥
none_rose (inl less) = omega (arith, less)
none_rose (inr last) = omega (arith, last.0)

-- the store did not refuse where its count is as before, whatever it is
pub none_failed : {T : Type 0} (r : Result T GatherFault) (fault : GatherFault) (h : HeaderValue) (told : Option (List ℕ)) (start raws : List ℕ) (old new : Option (List MemFile)) (before after : Option BayCall) →
    IsErrAnd r (λ y. y ≡ fault) → IsCaused h told start raws 0 0 fault → after ≡ before → LeavesFailed old new before after r
none_failed (Ok v) fault h told start raws old new before after gives caused same = same
none_failed (Err (RawWrongSize want found)) fault h told start raws old new before after gives caused same = same
none_failed (Err (RawFault rank faults)) fault h told start raws old new before after gives caused same = same
none_failed (Err (StoreFault faults)) fault h told start raws old new before after gives caused same =
    let own : IsCaused h told start raws 0 0 (StoreFault faults) = subst (IsCaused h told start raws 0 0) (sym gives) caused in
    absurd (none_rose own.2)
none_failed (Err NoMemory) fault h told start raws old new before after gives caused same = same

-- those that are idle in a window are so in the whole
pub idle_again : {V : Type 0} (h g : HeaderValue) (n m : ℕ) (start before after : List V) → g ≡ h → m ≡ n → drop (rank_count g.box m) after ≡ drop (rank_count g.box m) before →
    drop (rank_count h.box n) before ≡ drop (rank_count h.box n) start → drop (rank_count h.box n) after ≡ drop (rank_count h.box n) start
idle_again h g n m start before after header number within first =
    subst (λ (k : ℕ). drop (rank_count h.box k) after ≡ drop (rank_count h.box k) before) number
    (subst (λ (x : HeaderValue). drop (rank_count x.box m) after ≡ drop (rank_count x.box m) before) header within)
    ∙ first

-- a cause that goes by what equals these
pub caused_moved : (h g : HeaderValue) (told raw : Option (List ℕ)) (start before after : List ℕ) (first mid last : ℕ) (fault : GatherFault) → g ≡ h → raw ≡ told → before ≡ start → mid ≡ first →
    IsCaused g raw before after mid last fault → IsCaused h told start after first last fault
caused_moved h g told raw start before after first mid last fault header same starts counts cause =
    subst (λ (n : ℕ). IsCaused h told start after n last fault) counts
    (subst (λ (xs : List ℕ). IsCaused h told xs after mid last fault) starts
    (subst (λ (o : Option (List ℕ)). IsCaused h o before after mid last fault) same
    (subst (λ (x : HeaderValue). IsCaused x raw before after mid last fault) header cause)))

-- where no count has changed, none has met a fault
pub none_met : (old new : List ℕ) → new ≡ old → EachMeetsOnce old new
none_met old new same = λ i. let own : slice_index new i ≡ slice_index old i = ap (λ (xs : List ℕ). slice_index xs i) same in omega (arith, own)

-- faults are met once where no count had changed before
pub each_again : (old middle new : List ℕ) → middle ≡ old → EachMeetsOnce middle new → EachMeetsOnce old new
each_again old middle new same once = subst (λ (xs : List ℕ). EachMeetsOnce xs new) same once

-- nor where none changes behind
pub each_still : (old middle new : List ℕ) → new ≡ middle → EachMeetsOnce old middle → EachMeetsOnce old new
each_still old middle new same once = subst (λ (xs : List ℕ). EachMeetsOnce old xs) (sym same) once
