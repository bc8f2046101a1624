-- The post of an edition is that of its step.
use Rattle.std.proofs.Common.{◌≡◌, ◌≢◌, ℕ, zero, suc, ◌+◌, ◌<◌, Bool, List, [], ◌∷◌, ◌++◌, length, map, refl, sym, ap, subst, ◌∙◌, arith, inl, inr, Option, Some, None, IfSome, append-nil}
use Rattle.std.specs.Prelude.{Result, Ok, Err, OnOk}
use Rattle.idx_edition.specs.declared.load_fault.LoadFault.{LoadFault}
use Rattle.std.specs.List.{cons_option, filter_map, range_with_len}
use Rattle.std.specs.Option.{ForSome, option_map, option_map_or}
use Rattle.idx_outside.specs.Shape.{Shape}
use Rattle.idx_outside.specs.declared.mem_file.MemFile.{MemFile}
use Rattle.idx_header.specs.Header.{HeaderValue, HasTime}
use Rattle.idx_header.specs.Revisions.{IsRevisionOf}
use Rattle.idx_layout.specs.Shape.{shape_of}
use Rattle.idx_hall.specs.Posts.{Post, post_of, table_of}
use Rattle.idx_edition.specs.Loaded.{HoldsStored, OfBlocks}
use Rattle.idx_edition.specs.Newest.{IsNewest}
use Rattle.idx_edition.specs.Stored.{IsAbsent, StandsAs, first_bad, found_files, has_block, stored_block}
use Rattle.idx_board.specs.Standing.{IsStepAdded, bad_at, post_at, reads_at, step_post}

map_same : {A : Type 0} (f g : ℕ → A) (a n : ℕ) → ((i : ℕ) → i < n → f (a + i) ≡ g (a + i)) → map f (range_with_len a n) ≡ map g (range_with_len a n)
map_same f g a zero same = refl
map_same f g a (suc n) same =
    let first : f a ≡ g a = subst (λ k. f k ≡ g k) (omega arith) (same 0 (omega arith)) in
    λ i. first i ∷ map_same f g (a + 1) n (λ j below. subst (λ k. f k ≡ g k) (omega arith) (same (j + 1) (omega (arith, below)))) i

-- tables of what agrees on each block are one
pub table_same : {A : Type 0} (s : Shape) (f g : ℕ → ℕ → A) → OfBlocks s (λ field block. f field block ≡ g field block) → table_of s f ≡ table_of s g
table_same s f g same =
    map_same (λ field. map (f field) (range_with_len 0 s.blocks)) (λ field. map (g field) (range_with_len 0 s.blocks)) 0 (length s.lengths)
    (λ field there. map_same (f (0 + field)) (g (0 + field)) 0 s.blocks (λ block exists. same (0 + field) (0 + block) (omega (arith, there)) (omega (arith, exists))))

-- the post of what holds the stored blocks
pub post_same : (h : HeaderValue) (step time : ℕ) (files : List MemFile) (shape : Shape) (has : ℕ → ℕ → Bool) (stored : Option (ℕ → ℕ → List ℕ)) (leaves : List (List ℕ × Option (List ℕ)))
    → time ≡ step → shape ≡ shape_of h → HoldsStored h step files shape has stored leaves → post_of (shape_of h) time has stored ≡ step_post files step h
post_same h step time files shape has stored leaves same is holds = by stored holds.content holds.known
  where
    has_is : table_of (shape_of h) has ≡ table_of (shape_of h) (has_block h step files)
    has_is = table_same (shape_of h) has (has_block h step files) (subst (λ s. OfBlocks s (λ field block. has field block ≡ has_block h step files field block)) is holds.has_blocks)

    by : (o : Option (ℕ → ℕ → List ℕ)) → ForSome o (λ f. OfBlocks shape (λ field block. f field block ≡ stored_block h step files field block)) → o ≢ None
        → post_of (shape_of h) time has o ≡ step_post files step h
    by None content known = absurd (known refl)
    by (Some f) content known =
        let bytes : table_of (shape_of h) f ≡ table_of (shape_of h) (stored_block h step files) =
        table_same (shape_of h) f (stored_block h step files) (subst (λ s. OfBlocks s (λ field block. f field block ≡ stored_block h step files field block)) is (content f refl)) in
        (λ i. record { time = same i; has = has_is i; stored = Some (bytes i) })

-- ---- a step that stands as this header

-- the header at a revision has the shape of the header
pub same_shape : (h revised : HeaderValue) → IsRevisionOf h revised → shape_of revised ≡ shape_of h
same_shape h revised is = ap shape_of is.same

pub bad_of : (h revised : HeaderValue) (step : ℕ) (files : List MemFile) → StandsAs h step files revised → bad_at h files step ≡ first_bad revised step files
bad_of h revised step files stands = ap (λ (o : Option HeaderValue). option_map_or (λ r. first_bad r step files) o None) stands.1

pub reads_of_step : (h revised : HeaderValue) (step : ℕ) (files : List MemFile) → StandsAs h step files revised → reads_at h files step ≡ length (found_files revised step files)
reads_of_step h revised step files stands = ap (λ (o : Option HeaderValue). option_map_or (λ r. length (found_files r step files)) o 0) stands.1

post_is : (h revised : HeaderValue) (step : ℕ) (files : List MemFile) → StandsAs h step files revised → post_at h files step ≡ Some (step_post files step revised)
post_is h revised step files stands = ap (option_map (step_post files step)) stands.1

one : (f : ℕ → Option Post) (step : ℕ) (p : Post) → f step ≡ Some p → filter_map f (step ∷ []) ≡ p ∷ []
one f step p is = ap (λ (o : Option Post). cons_option o []) is

none : (f : ℕ → Option Post) (step : ℕ) → f step ≡ None → filter_map f (step ∷ []) ≡ []
none f step is = ap (λ (o : Option Post). cons_option o []) is

-- a step that stands was published
pub step_added : (h : HeaderValue) (step : ℕ) (known : Option (List MemFile)) (before after : List Post) (p : Post) → p.time ≡ step → after ≡ before ++ p ∷ []
    → IfSome known (λ files. post_at h files step ≡ Some p) → IsStepAdded h step known before after
step_added h step known before after p time is stands = record { times = inr (p, time, is); post = by known stands }
  where
    by : (o : Option (List MemFile)) → IfSome o (λ files. post_at h files step ≡ Some p) → IfSome o (λ files. after ≡ before ++ filter_map (post_at h files) (step ∷ []))
    by None stands = tt
    by (Some files) stands = is ∙ ap (λ (ps : List Post). before ++ ps) (sym (one (post_at h files) step p stands))

-- a step that does not stand was not
pub step_lacking : (h : HeaderValue) (step : ℕ) (known : Option (List MemFile)) (before : List Post) → HasTime h step → IfSome known (IsAbsent h step)
    → IsStepAdded h step known before before
step_lacking h step known before has lacks = record { times = inl refl; post = by known lacks }
  where
    by : (o : Option (List MemFile)) → IfSome o (IsAbsent h step) → IfSome o (λ files. before ≡ before ++ filter_map (post_at h files) (step ∷ []))
    by None lacks = tt
    by (Some files) lacks =
        sym (append-nil before) ∙ ap (λ (ps : List Post). before ++ ps) (sym (none (post_at h files) step (ap (option_map (step_post files step)) (lacks has))))

-- the post of an edition that was loaded, where the committed files are known
pub facts : (h revised : HeaderValue) (step time : ℕ) (known : Option (List MemFile)) (shape : Shape) (has : ℕ → ℕ → Bool) (stored : Option (ℕ → ℕ → List ℕ)) (leaves : List (List ℕ × Option (List ℕ)))
    → time ≡ step → shape ≡ shape_of h → IsNewest h step known revised → IfSome known (λ files. HoldsStored revised step files shape has stored leaves)
    → IfSome known (λ files. post_at h files step ≡ Some (post_of (shape_of h) time has stored))
facts h revised step time known shape has stored leaves same is newest holds = by known newest.stands holds
  where
    own : shape_of revised ≡ shape_of h
    own = same_shape h revised newest.revision

    by : (o : Option (List MemFile)) → IfSome o (λ files. StandsAs h step files revised) → IfSome o (λ files. HoldsStored revised step files shape has stored leaves)
        → IfSome o (λ files. post_at h files step ≡ Some (post_of (shape_of h) time has stored))
    by None stands holds = tt
    by (Some files) stands holds =
        post_is h revised step files stands ∙ ap Some (sym (post_same revised step time files shape has stored leaves same (is ∙ sym own) holds))
        ∙ ap (λ (s : Shape). Some (post_of s time has stored)) own

-- an edition that was added is its step
pub published : {E : Type 0} (time : E → ℕ) (has : E → ℕ → ℕ → Bool) (stored : E → Option (ℕ → ℕ → List ℕ)) (h : HeaderValue) (step : ℕ) (known : Option (List MemFile)) (before after : List Post)
    (result : Result (Unit {0}) LoadFault) (s : Shape) (added e : E) → added ≡ e → time e ≡ step → s ≡ shape_of h
    → IfSome known (λ files. post_at h files step ≡ Some (post_of (shape_of h) (time e) (has e) (stored e)))
    → OnOk result (after ≡ before ++ post_of s (time added) (has added) (stored added) ∷ []) → OnOk result (IsStepAdded h step known before after)
published time has stored h step known before after (Err fault) s added e one same is facts gone = tt
published time has stored h step known before after (Ok u) s added e one same is facts gone =
    step_added h step known before after (post_of (shape_of h) (time e) (has e) (stored e)) same
    (gone ∙ (λ i. before ++ post_of (is i) (time (one i)) (has (one i)) (stored (one i)) ∷ [])) facts

-- nothing is not something
pub not_some : (o : Option ℕ) (n : ℕ) → o ≡ None → o ≡ Some n → ⊥
not_some o n none some = (let wrong : Some n ≡ None = sym some ∙ none in cc)
