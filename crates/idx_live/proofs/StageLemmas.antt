-- What a stage says that comes behind others, and what it says for the whole.
use Rattle.std.proofs.Common.{◌≡◌, ◌≢◌, ℕ, List, Option, Result, Ok, Err, subst, ◌∙◌, arith}
use Rattle.idx_outside.specs.declared.bay_call.BayCall.{BayCall}
use Rattle.idx_outside.specs.declared.mem_file.MemFile.{MemFile}
use Rattle.idx_header.specs.Header.{HeaderValue}
use Rattle.idx_gather.specs.Gather.{HasVolume}
use Rattle.idx_convert.specs.Known.{Known}
use Rattle.idx_live.specs.Live.{HasLeft, IsCause, IsReady, OnlyLooks}
use Rattle.idx_live.specs.Stages.{seen_by}
use Rattle.idx_live.specs.declared.live_fault.LiveFault.{LiveFault}
use Rattle.idx_live.specs.declared.live_fault.LiveFault.TheVariants as faults

module _ {B : Type 0} (header : B → Option (List ℕ)) (files : B → Option (List MemFile)) (begun : B → Option (List ℕ)) (changes : B → ℕ)
    (failed : B → Option BayCall) (admits : B → List ℕ → Type 0) (faults_of : B → ℕ) where
  -- the cause behind a stage that left the bay as it was
  pub cause_behind : (time before after : ℕ) (k : Known) (old mid new : B) (fault : LiveFault) → header mid ≡ header old → files mid ≡ files old →
      failed mid ≡ failed old → faults_of mid ≡ faults_of old →
      IsCause time (seen_by header files failed faults_of mid new k) before after fault → IsCause time (seen_by header files failed faults_of old new k) before after fault
  cause_behind time before after k old mid new fault h f c n cause =
      subst (λ x. IsCause time (record k { header = x; files = files old; failed = failed old; failed_after = failed new; bay_before = faults_of old; bay_after = faults_of new }) before after fault) h
      (subst (λ x. IsCause time (record k { header = header mid; files = x; failed = failed old; failed_after = failed new; bay_before = faults_of old; bay_after = faults_of new }) before after fault) f
      (subst (λ x. IsCause time (record k { header = header mid; files = files mid; failed = x; failed_after = failed new; bay_before = faults_of old; bay_after = faults_of new }) before after fault) c
      (subst (λ x. IsCause time (record k { header = header mid; files = files mid; failed = failed mid; failed_after = failed new; bay_before = x; bay_after = faults_of new }) before after fault) n cause)))

  -- what is left behind two stages, of which the first answered no fault
  pub looks_behind : (T U : Type 0) (old mid new : B) (value : T) (second : Result U LiveFault) →
      OnlyLooks header files begun changes failed admits faults_of old mid (Ok value) → OnlyLooks header files begun changes failed admits faults_of mid new second →
      OnlyLooks header files begun changes failed admits faults_of old new second
  looks_behind T U old mid new value second one two =
      let none : ◌≢◌ {A = Result T LiveFault} (Ok value) (Err faults.StoreFault) = λ e. cc in
      record {
        header_same = two.header_same ∙ one.header_same;
        files_same = two.files_same ∙ one.files_same;
        begun_same = two.begun_same ∙ one.begun_same;
        admits_still = λ path is. two.admits_still path (one.admits_still path is);
        unchanged = λ other. two.unchanged other ∙ one.unchanged none;
        unfailed = λ other. two.unfailed other ∙ one.unfailed none;
        quiet = λ other. two.quiet other ∙ one.quiet none;
        count = let a = one.count in let b = two.count in omega arith;
        once = let a = one.quiet none in let b = two.once in omega arith;
      }

-- what is ready is so still where as much is known of the committed files and of the raw volume
pub ready_still : (h : HeaderValue) (time : ℕ) (k other : Known) → other.files ≡ k.files → other.raw ≡ k.raw → IsReady h time other → IsReady h time k
ready_still h time k other files raw ready = record {
  may_write = ready.may_write;
  left = subst (HasLeft h time) files ready.left;
  size = subst (HasVolume h) raw ready.size;
}
