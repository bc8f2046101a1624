-- Reads of the blocks of an answer, where it is refused.
use Rattle.std.proofs.Common.{◌≡◌, inl, inr, ℕ, ◌+◌, ◌%◌, ◌^◌, ◌<◌, Bool, List, drop, length, refl, sym, ap, subst, ◌∙◌, arith}
use Rattle.std.specs.Prelude.{Option, Result, Ok, Err, IfErr, OnErr}
use Rattle.std.specs.Result.{IsErrAnd}
use Rattle.std.proofs.lemmas.List.{length-map, length-take}
use Rattle.idx_outside.specs.declared.blocks.Fetched.{Fetched}
use Rattle.idx_outside.specs.declared.blocks.Fetched.TheVariants as ways
use Rattle.idx_header.specs.Header.{HeaderValue}
use Rattle.idx_hall.specs.declared.key.Key.{Key}
use Rattle.idx_plan.specs.Needed.{key_of, needed, needed_keys}
use Rattle.idx_plan.specs.Plan.{PlanValue}
use Rattle.idx_plan.specs.declared.ask.Ask.{Ask}
use Rattle.idx_query.specs.Reads.{ReadsAtMost, ReadsOnce}
use Rattle.idx_query.specs.Steps.{AreDone, LoadingValue, part_of}
use Rattle.idx_query.specs.declared.report.Report.{Report}

-- what is so is so of an error
pub on_err : {T E : Type 0} (result : Result T E) (P : Type 0) → P → OnErr result P
on_err (Ok x) P holds = tt
on_err (Err fault) P holds = holds

-- what holds of the error that is answered
pub err_is : {T E : Type 0} (r : Result T E) (x : E) (P : E → Type 0) → IsErrAnd r (λ y. y ≡ x) → P x → IfErr r P
err_is (Ok v) x P gives holds = absurd gives
err_is (Err y) x P gives holds = subst P (sym gives) holds

-- none was made
pub no_reads : (count most : ℕ) → ReadsAtMost count count most
no_reads count most = record { reads = 0; few = omega arith; made = omega arith }

-- a block came by one read, or by none
pub fetched_once : (before after : ℕ) (fetched : Fetched) → (fetched ≡ ways.Absent → after ≡ before) → (fetched ≡ ways.Read → after ≡ (before + 1) % 2 ^ 64) → ReadsOnce before after
fetched_once before after ways.Absent none one = inl (none refl)
fetched_once before after ways.Read none one = inr (one refl)

-- behind the first keys at most one read more was made
pub reads_till : (plan : PlanValue) (field : ℕ) (has : ℕ → Bool) (stored : Option (ℕ → ℕ → List ℕ)) (found : List (Option (List ℕ))) (i before mid after : ℕ) (old new : LoadingValue) (report : Report) (start out : List ℕ) →
    AreDone plan field has stored found i before mid old new report start out → i < length plan.keys → ReadsOnce mid after → ReadsAtMost before after (length plan.keys)
reads_till plan field has stored found i before mid after old new report start out done within (inl same) =
    record { reads = report.reads; few = omega (arith, done.hits, done.all, within); made = ap (λ n. n % 2 ^ 64) same ∙ done.reads }
reads_till plan field has stored found i before mid after old new report start out done within (inr one) =
    record { reads = report.reads + 1; few = omega (arith, done.hits, done.all, within); made = omega (arith, one, done.reads) }

-- there are as many keys as needed blocks
pub reads_needed : (h : HeaderValue) (ask : Ask) (keys : List Key) (before after : ℕ) → keys ≡ needed_keys h ask → ReadsAtMost before after (length keys) →
    ReadsAtMost before after (length (needed h ask))
reads_needed h ask keys before after are =
    subst (ReadsAtMost before after) (ap (λ (ks : List Key). length ks) are ∙ length-map (needed h ask) (key_of ask))

-- a part has no more keys than it was made with
pub reads_of_part : (plan part : PlanValue) (first many before after : ℕ) → part ≡ part_of plan first many → ReadsAtMost before after (length part.keys) → ReadsAtMost before after many
reads_of_part plan part first many before after is read = record {
  reads = read.reads;
  few = omega (arith, read.few, ap (λ (p : PlanValue). length p.keys) is, length-take many (drop first plan.keys));
  made = read.made;
}
