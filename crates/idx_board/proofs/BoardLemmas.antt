-- One step more.
use Rattle.std.proofs.Common.{inl, inr, ◌≡◌, ◌⊎◌, ℕ, ◌+◌, ◌-◌, ◌%◌, ◌^◌, ◌<◌, List, [], ◌∷◌, ◌++◌, sym, ap, ◌∙◌, arith, subst, Option, Some, None, IfSome}
use Rattle.std.specs.Prelude.{All, slice_get}
use Rattle.std.specs.List.{cons_option, filter_map, range_with_len}
use Rattle.std.proofs.lemmas.List.Elements.{filter_map-append, All-push, All-weaker}
use Rattle.std.proofs.lemmas.List.Sums.{sum_by-append}
use Rattle.std.proofs.Math.Nat.{add-mod-mod}
use Rattle.idx_outside.specs.Cause.{MadeReads}
use Rattle.idx_outside.specs.declared.mem_file.MemFile.{MemFile}
use Rattle.idx_header.specs.Header.{HeaderValue}
use Rattle.idx_hall.specs.Posts.{Post}
use Rattle.idx_edition.specs.Loaded.{Counts, IsCause}
use Rattle.idx_edition.specs.declared.load_fault.LoadFault.{LoadFault}
use Rattle.idx_edition.specs.declared.load_fault.LoadFault.TheVariants as F
use Rattle.idx_board.specs.Standing.{IsBoardCause, IsStepAdded, bad_at, first_bad_row, post_at, reads_at, reads_of, step_numbers}
use Rattle.idx_board.proofs.RangeLemmas.{range_at, range_more}

-- what is kept of the numbers up to one
kept_at : {A : Type 0} (f : ℕ → Option A) (a n many : ℕ) (x : A) → n < many → filter_map f (range_with_len a n) ≡ [] → f (a + n) ≡ Some x
    → slice_get (filter_map f (range_with_len a many)) 0 ≡ Some x
kept_at f a n many x below none here =
    let rest = range_with_len ((a + n) + 1) (many - n - 1) in
    ap (λ l. slice_get l 0)
    (ap (filter_map f) (range_at a n many below) ∙ filter_map-append f (range_with_len a n) ((a + n) ∷ rest) ∙ (λ i. none i ++ cons_option (here i) (filter_map f rest)))

-- a faulty row of the step at hand is the first of all
pub cause_on : (h : HeaderValue) (known now : Option (List MemFile)) (c d : Counts) (fault : LoadFault) (a n many : ℕ) → n < many → range_with_len a many ≡ step_numbers h → now ≡ known → d ≡ c
    → IfSome known (λ files. filter_map (bad_at h files) (range_with_len a n) ≡ [])
    → IsCause (λ bad. IfSome now (λ files. bad_at h files (a + n) ≡ Some bad)) d fault → IsBoardCause h known c fault
cause_on h known now c d fault a n many below numbers same counted none cause = by fault (subst (λ e. IsCause (λ bad. IfSome now (λ files. bad_at h files (a + n) ≡ Some bad)) e fault) counted cause)
  where
    bad_by : (o : Option (List MemFile)) (bad : LoadFault) → IfSome o (λ files. filter_map (bad_at h files) (range_with_len a n) ≡ [])
        → IfSome o (λ files. bad_at h files (a + n) ≡ Some bad) → IfSome o (λ files. first_bad_row h files ≡ Some bad)
    bad_by None bad none here = tt
    bad_by (Some files) bad none here =
        subst (λ l. slice_get (filter_map (bad_at h files) l) 0 ≡ Some bad) numbers (kept_at (bad_at h files) a n many bad below none here)

    is_bad : (bad : LoadFault) → IfSome now (λ files. bad_at h files (a + n) ≡ Some bad) → IfSome known (λ files. first_bad_row h files ≡ Some bad)
    is_bad bad here = bad_by known bad none (subst (λ o. IfSome o (λ files. bad_at h files (a + n) ≡ Some bad)) same here)

    by : (f : LoadFault) → IsCause (λ bad. IfSome now (λ files. bad_at h files (a + n) ≡ Some bad)) c f → IsBoardCause h known c f
    by (F.BadTable file row kind) (bad, quiet, reader) = (is_bad (F.BadTable file row kind) bad, quiet, reader)
    by (F.StoreFault faults) cause = cause
    by F.NoMemory cause = cause

-- the posts of one step more
pub board_on : (h : HeaderValue) (known now : Option (List MemFile)) (a n : ℕ) (before after : List Post) → now ≡ known
    → IfSome known (λ files. before ≡ filter_map (post_at h files) (range_with_len a n)) → IsStepAdded h (a + n) now before after
    → IfSome known (λ files. after ≡ filter_map (post_at h files) (range_with_len a (n + 1)))
board_on h None now a n before after same board added = tt
board_on h (Some files) now a n before after same board added =
    let more : after ≡ before ++ filter_map (post_at h files) ((a + n) ∷ []) =
    subst (λ o. IfSome o (λ f. after ≡ before ++ filter_map (post_at h f) ((a + n) ∷ []))) same added.post in
    more ∙ ap (λ (l : List Post). l ++ filter_map (post_at h files) ((a + n) ∷ [])) board
    ∙ sym (filter_map-append (post_at h files) (range_with_len a n) ((a + n) ∷ [])) ∙ ap (filter_map (post_at h files)) (sym (range_more a n))

-- the times of one step more
pub times_on : (h : HeaderValue) (known : Option (List MemFile)) (a n : ℕ) (before after : List Post) → All (λ p. p.time < a + n) before → IsStepAdded h (a + n) known before after
    → All (λ p. p.time < a + (n + 1)) after
times_on h known a n before after below added = by added.times
  where
    later : All (λ p. p.time < a + (n + 1)) before
    later = All-weaker (λ (p : Post). p.time < a + n) (λ p. p.time < a + (n + 1)) (λ p under. omega (arith, under)) before below

    by : (after ≡ before) ⊎ ((p : Post) × (p.time ≡ a + n) × (after ≡ before ++ p ∷ [])) → All (λ p. p.time < a + (n + 1)) after
    by (inl same) = subst (All (λ p. p.time < a + (n + 1))) (sym same) later
    by (inr (p, time, is)) = subst (All (λ p. p.time < a + (n + 1))) (sym is) (All-push (λ p. p.time < a + (n + 1)) before p later (omega (arith, time)))

-- no faulty row in one step more
pub sound_on : (h : HeaderValue) (known now : Option (List MemFile)) (a n : ℕ) → now ≡ known → IfSome known (λ files. filter_map (bad_at h files) (range_with_len a n) ≡ [])
    → IfSome now (λ files. bad_at h files (a + n) ≡ None) → IfSome known (λ files. filter_map (bad_at h files) (range_with_len a (n + 1)) ≡ [])
sound_on h None now a n same none sound = tt
sound_on h (Some files) now a n same none sound =
    let here : bad_at h files (a + n) ≡ None = subst (λ o. IfSome o (λ f. bad_at h f (a + n) ≡ None)) same sound in
    ap (filter_map (bad_at h files)) (range_more a n) ∙ filter_map-append (bad_at h files) (range_with_len a n) ((a + n) ∷ []) ∙ (λ i. none i ++ cons_option (here i) [])

-- reads after reads
made_on : (before between after n m : ℕ) → MadeReads before between n → MadeReads between after m → MadeReads before after (n + m)
made_on before between after n m first second =
    let turned : between + m ≡ m + between = omega arith in
    let moved : m + (before + n) ≡ before + (n + m) = omega arith in
    second ∙ ap (λ x. x % 2 ^ 64) turned ∙ sym (add-mod-mod m between (2 ^ 64)) ∙ ap (λ x. (m + x) % 2 ^ 64) first
    ∙ add-mod-mod m (before + n) (2 ^ 64) ∙ ap (λ x. x % 2 ^ 64) moved

-- the reads of one step more
pub reads_on : (h : HeaderValue) (known now : Option (List MemFile)) (a n before between after : ℕ) → now ≡ known
    → IfSome known (λ files. MadeReads before between (reads_of h files (range_with_len a n))) → IfSome now (λ files. MadeReads between after (reads_at h files (a + n)))
    → IfSome known (λ files. MadeReads before after (reads_of h files (range_with_len a (n + 1))))
reads_on h None now a n before between after same made more = tt
reads_on h (Some files) now a n before between after same made more =
    let here : MadeReads between after (reads_at h files (a + n)) = subst (λ o. IfSome o (λ f. MadeReads between after (reads_at h f (a + n)))) same more in
    let sums : reads_of h files (range_with_len a n) + reads_at h files (a + n) ≡ reads_of h files (range_with_len a (n + 1)) =
    omega (arith, sum_by-append (reads_at h files) (range_with_len a n) ((a + n) ∷ []), ap (reads_of h files) (range_more a n)) in
    subst (MadeReads before after) sums (made_on before between after (reads_of h files (range_with_len a n)) (reads_at h files (a + n)) made here)
