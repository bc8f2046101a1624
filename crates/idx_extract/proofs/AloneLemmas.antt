-- An answer out of a hall of its own: the one post is the step's, and nothing is cached.
use Rattle.std.proofs.Common.{◌≡◌, ℕ, zero, suc, ◌+◌, ◌<◌, ◌≤◌, Bool, false, List, [], ◌∷◌, ◌++◌, length, sym, ap, ◌∙◌, subst, arith, Some, None, Option}
use Rattle.std.specs.Prelude.{Err, IfErr, IfOk, IfSome, Ok, OnOk, Result, option_map, slice_get}
use Rattle.std.proofs.lemmas.Option.{same_Some, slice_get_within}
use Rattle.idx_outside.specs.Shape.{Shape}
use Rattle.idx_header.specs.Header.{HeaderValue, block_count}
use Rattle.idx_layout.specs.Shape.{shape_of}
use Rattle.idx_hall.specs.declared.key.Key.{Key}
use Rattle.idx_hall.specs.Posts.{Lacks, Post, bytes_at, has_at, post_of, table_of}
use Rattle.idx_hall.specs.Hall.{HallValue, hall}
use Rattle.idx_cache.specs.Cached.{cached}
use Rattle.idx_turn.proofs.BeginsLemmas.{begins_at}
use Rattle.idx_plan.specs.Answer.{answer_of}
use Rattle.idx_plan.specs.Needed.{needed, plan_fault}
use Rattle.idx_plan.specs.declared.ask.Ask.{Ask}
use Rattle.idx_query.specs.Answered.{IsAnswered, IsDone}
use Rattle.idx_query.specs.Blocks.{blocks_of, lacking}
use Rattle.idx_query.specs.Fault.{IsCaused}
use Rattle.idx_query.specs.Steps.{IsStoreFault}
use Rattle.idx_query.specs.declared.query_fault.QueryFault.{QueryFault}
use Rattle.idx_query.specs.declared.query_fault.QueryFault.TheVariants as faults
use Rattle.idx_query.specs.declared.report.Report.{Report}
use Rattle.idx_query.proofs.AnswerLemmas.{blocks-key_of, has_field}
use Rattle.idx_query.proofs.FillLemmas.{lacking-agree}
use Rattle.idx_query.proofs.FreshLemmas.{fresh-missing}
use Rattle.idx_query.proofs.PostLemmas.{entry-table, same_answer}
use Rattle.idx_extract.proofs.StoredLemmas.{needed-exist}

-- the one post of a board
only_post : (p q : Post) (board : List Post) (n : ℕ) → board ≡ p ∷ [] → slice_get board n ≡ Some q → q ≡ p
only_post p q board n one at = here n (subst (λ (b : List Post). slice_get b n ≡ Some q) one at)
  where
    here : (n : ℕ) → slice_get (p ∷ []) n ≡ Some q → q ≡ p
    here zero h = sym (same_Some p q h)
    here (suc n) h = let past : n < 0 = slice_get_within [] n q h in absurd (omega (arith, past))

module _ (h : HeaderValue) (ask : Ask) (s : Shape) (time : ℕ) (has : ℕ → ℕ → Bool) (stored : Option (ℕ → ℕ → List ℕ)) (seen : List Post)
    (shaped : s ≡ shape_of h) (field : ask.field < length h.fields) (one : seen ≡ post_of s time has stored ∷ []) where
  there : ask.field < length s.lengths
  there = has_field h s ask.field shaped field

  -- the answer is out of the step's blocks
  pub alone-answer : (seen_before : List Post) (before after : List ℕ) (report : Report) → h.block_bits ≤ length h.mask → IsAnswered h ask seen_before seen before after report → IfSome stored (λ f. after ≡ before ++ answer_of h ask f)
  alone-answer seen_before before after report within answered =
      by_stored stored (subst (λ (p : Post). IfSome p.stored (λ t. after ≡ before ++ answer_of h ask (bytes_at t)))
      (only_post (post_of s time has stored) answered.post seen report.post one (begins_at report.post answered.post answered.is.at answered.until)) answered.answer)
    where
      by_stored : (o : Option (ℕ → ℕ → List ℕ)) → IfSome (option_map (table_of s) o) (λ t. after ≡ before ++ answer_of h ask (bytes_at t)) → IfSome o (λ f. after ≡ before ++ answer_of h ask f)
      by_stored None known = tt
      by_stored (Some f) known =
          known ∙ ap (λ (l : List ℕ). before ++ l) (same_answer h ask (bytes_at (table_of s f)) f within
          (λ block exists. entry-table [] s f ask.field block there (subst (λ (x : Shape). block < x.blocks) (sym shaped) exists)))

  -- no block was cached
  pub alone-once : (seen_before : List Post) (before after : List ℕ) (mid : Option HallValue) (held_before held_after : ℕ) (report : Report) (shape : Shape) (board : List Post) (room : ℕ)
      → IsAnswered h ask seen_before seen before after report → IsDone h ask (hall shape board (cached [] room)) mid held_before held_after report → report.reads + report.absent ≡ length (needed h ask)
  alone-once seen_before before after mid held_before held_after report shape board room answered done =
      omega (arith, done.hits, ap (λ (ks : List Key). length ks) (fresh-missing h ask shape board room mid held_before held_after report done), answered.all)

  pub alone-absent : (mid : Option HallValue) (held_before held_after : ℕ) (report : Report) (board : List Post) (room : ℕ) → board ≡ seen
      → IsDone h ask (hall s board (cached [] room)) mid held_before held_after report → report.absent ≡ lacking (has ask.field) (needed h ask)
  alone-absent mid held_before held_after report board room is_board done =
      done.absent ∙ ap (λ ks. lacking (has_at done.post ask.field) (blocks_of ks)) (fresh-missing h ask s board room mid held_before held_after report done)
      ∙ ap (lacking (has_at done.post ask.field)) (blocks-key_of ask (needed h ask))
      ∙ lacking-agree (has_at done.post ask.field) (has ask.field) (λ b. b < block_count h)
      (λ b exists. ap (λ (p : Post). has_at p ask.field b) (only_post (post_of s time has stored) done.post board report.post (is_board ∙ one) done.is.at)
      ∙ entry-table false s has ask.field b there (subst (λ (x : Shape). b < x.blocks) (sym shaped) exists))
      (needed h ask) (needed-exist h ask)

-- what is refused where the question has a plan and its step is on the board
pub alone-cause : (h : HeaderValue) (ask : Ask) (p : Post) (seen : List Post) (before after : ℕ) → plan_fault h ask ≡ None → seen ≡ p ∷ [] → p.time ≡ ask.time → (fault : QueryFault) → IsCaused h ask seen before after fault → IsStoreFault before after fault
alone-cause h ask p seen before after sound one time (faults.Plan fault) cause = absurd (no_plan (sym sound ∙ cause.0))
  where
    no_plan : {A : Type 0} {x : A} → None ≡ Some x → ⊥
    no_plan {A} {x} e = let past : 0 < 0 = slice_get_within [] 0 x e in omega (arith, past)
alone-cause h ask p seen before after sound one time (faults.NotPublished board) cause =
    absurd (subst (λ (b : List Post). Lacks ask.time b) one cause.1 0 p (omega arith) time)
alone-cause h ask p seen before after sound one time (faults.StoreFault count) cause = (cause.2, cause.3)
alone-cause h ask p seen before after sound one time faults.NoMemory cause = cause

-- ---- what is said of an answer

pub ok-following : {A B : Type 0} (P Q : A → Type 0) (r : Result A B) → IfOk r P → ((x : A) → P x → Q x) → IfOk r Q
ok-following P Q (Ok x) said next = next x said
ok-following P Q (Err e) said next = tt

pub on-following : {A B : Type 0} (P : A → Type 0) (X : Type 0) (r : Result A B) → IfOk r P → ((x : A) → P x → X) → OnOk r X
on-following P X (Ok x) said next = next x said
on-following P X (Err e) said next = tt

pub err-following : {A B : Type 0} (P Q : B → Type 0) (r : Result A B) → IfErr r P → ((e : B) → P e → Q e) → IfErr r Q
err-following P Q (Ok x) said next = tt
err-following P Q (Err e) said next = next e said

pub both : {A B : Type 0} {P Q R : A → Type 0} (r : Result A B) → IfOk r P → IfOk r Q → ((x : A) → P x → Q x → R x) → IfOk r R
both (Ok x) first second next = next x first second
both (Err e) first second next = tt
