-- Why a question has no answer, and how many reads were made.
use Rattle.std.proofs.Common.{◌≡◌, inl, inr, ℕ, ◌+◌, ◌≤◌, length, None, Ok, Err, IfSome, sym, ap, subst, arith}
use Rattle.std.specs.Prelude.{IfErr, IsErrAnd, OnErr, Result}
use Rattle.idx_outside.specs.Calls.{last_failed}
use Rattle.idx_outside.specs.Cause.{MadeReads}
use Rattle.idx_outside.specs.declared.bay_call.BayCall.TheVariants as calls
use Rattle.idx_header.specs.Header.{HeaderValue}
use Rattle.idx_header.specs.HeaderOf.{header_of}
use Rattle.idx_header.specs.OfBay.{IsFaultOf, IsRefusal, asked_quietly}
use Rattle.idx_header.specs.declared.header_refusal.HeaderRefusal.{HeaderRefusal}
use Rattle.idx_header.specs.declared.header_refusal.HeaderRefusal.TheVariants as headers
use Rattle.idx_plan.specs.Needed.{needed, plan_fault}
use Rattle.idx_plan.specs.QuestionValue.{QuestionValue}
use Rattle.idx_plan.specs.declared.ask.Ask.{Ask}
use Rattle.idx_edition.specs.Loaded.{IsBayQuiet}
use Rattle.idx_edition.specs.Newest.{IsNewest, ReadsNewest}
use Rattle.idx_edition.specs.Reads.{most_reads}
use Rattle.idx_query.specs.Reads.{ReadsAtMost}
use Rattle.idx_query.specs.Steps.{IsStoreFault}
use Rattle.idx_query.specs.declared.query_fault.QueryFault.{QueryFault}
use Rattle.idx_query.specs.declared.query_fault.QueryFault.TheVariants as queries
use Rattle.idx_extract.specs.Extract.{HasPlan, IsAsk, IsCause, IsCauseUnder, Known, ReadsFew, ReadsFewUnder}
use Rattle.idx_extract.specs.Stages.{fault_of_header, fault_of_query}
use Rattle.idx_extract.proofs.StoredLemmas.{both_made}

-- ---- causes

-- a header that is refused
pub header_cause : (T : Type 0) (q : QuestionValue) (k : Known) (refusal : HeaderRefusal) → IsRefusal IsFaultOf k.header k.counts.bay_before k.counts.bay_after refusal →
    k.counts.failed_after ≡ last_failed calls.Header (asked_quietly {T = T} (Err refusal)) k.counts.failed_before → k.counts.reader_after ≡ k.counts.reader_before → IsCause q k (fault_of_header refusal)
header_cause T q k (headers.Fault line kind) refused failed same = (refused.0, refused.1)
header_cause T q k headers.Outage refused failed same = inl (record { rose = refused; call = failed; reader = same })
header_cause T q k headers.NoMemory refused failed same = tt

module _ (h : HeaderValue) (q : QuestionValue) (k : Known) where
  -- blocks that are not copied
  pub query_cause : (fault : QueryFault) → HasPlan q h → IsBayQuiet k.counts → IsStoreFault k.counts.reader_before k.counts.reader_after fault → IsCauseUnder h q k (fault_of_query fault)
  query_cause (queries.Plan fault) plan quiet cause = absurd cause
  query_cause (queries.NotPublished board) plan quiet cause = absurd cause
  query_cause (queries.StoreFault count) plan quiet cause = (plan, inr (record { rose = cause.1; bay = quiet }))
  query_cause queries.NoMemory plan quiet cause = tt

-- ---- reads

module _ (h : HeaderValue) (q : QuestionValue) (k : Known) (ask : Ask) (asked : IsAsk h q ask) (sound : plan_fault h ask ≡ None) where
  -- those of the files alone
  pub few_of_files : (time : ℕ) → time ≡ q.time → ReadsNewest h time k.files k.reads_before k.reads_after → ReadsFewUnder h q k
  few_of_files time is (inl same) = inl same
  few_of_files time is (inr (revised, (newest, files))) =
      inr (
        ask,
        (
          asked,
          (
            sound,
            (
              revised,
              (
                subst (λ t. IsNewest h t k.files revised) is newest,
                record {
                  reads = files.reads;
                  few = (let same = ap (λ t. most_reads revised t k.files) is in omega (arith, files.few, same));
                  made = files.made;
                },
              ),
            ),
          ),
        ),
      )

  -- those of all files, and some of the blocks
  pub few_of_blocks : (revised : HeaderValue) (time mid count : ℕ) → time ≡ q.time → IsNewest h time k.files revised → count ≤ most_reads revised time k.files → MadeReads k.reads_before mid count →
      ReadsAtMost mid k.reads_after (length (needed h ask)) → ReadsFewUnder h q k
  few_of_blocks revised time mid count is newest few first blocks =
      inr (
        ask,
        (
          asked,
          (
            sound,
            (
              revised,
              (
                subst (λ t. IsNewest h t k.files revised) is newest,
                record {
                  reads = count + blocks.reads;
                  few = (let same = ap (λ t. most_reads revised t k.files) is in omega (arith, few, blocks.few, same));
                  made = both_made k.reads_before mid k.reads_after count blocks.reads first blocks.made;
                },
              ),
            ),
          ),
        ),
      )

-- what is few under a header of the text is few
pub few_of_text : (h : HeaderValue) (q : QuestionValue) (k : Known) → IfSome k.header (λ text. header_of text ≡ Ok h) → ReadsFewUnder h q k → ReadsFew q k
few_of_text h q k reads few = inr (h, (reads, few))

-- ---- what is said of a refusal

-- where the fault is this one, and this holds of it
pub err_is : {T E : Type 0} (r : Result T E) (x : E) (P : E → Type 0) → IsErrAnd r (λ y. y ≡ x) → P x → IfErr r P
err_is (Ok v) x P gives holds = absurd gives
err_is (Err y) x P gives holds = subst P (sym gives) holds

pub on_err : {T E : Type 0} (r : Result T E) (P : Type 0) → P → OnErr r P
on_err (Ok v) P holds = tt
on_err (Err y) P holds = holds

pub on_err_following : {T E : Type 0} (P Q : Type 0) (r : Result T E) → OnErr r P → (P → Q) → OnErr r Q
on_err_following P Q (Ok v) said next = tt
on_err_following P Q (Err y) said next = next said
