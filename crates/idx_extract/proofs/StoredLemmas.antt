-- The answer out of an edition is the one out of what the committed files store, and its reads are those that this takes.
use Rattle.std.proofs.Common.{◌≡◌, ◌≢◌, ℕ, suc, ◌+◌, ◌%◌, ◌^◌, ◌<◌, ◌≤◌, Bool, cond, not, List, [], ◌∷◌, ◌++◌, length, filter, Option, Some, None, refl, sym, ap, ◌∙◌, subst, IfSome, arith}
use Rattle.std.specs.Prelude.{All}
use Rattle.std.specs.Option.{ForSome}
use Rattle.std.specs.List.{range_with_len}
use Rattle.std.proofs.Math.Nat.{add-mod-mod}
use Rattle.std.proofs.lemmas.List.{length-map}
use Rattle.std.proofs.lemmas.List.Elements.{All-filter}
use Rattle.std.proofs.lemmas.List.Filters.{length-filter_both}
use Rattle.idx_outside.specs.Cause.{MadeReads}
use Rattle.idx_outside.specs.Files.{entry_shown, known_with}
use Rattle.idx_outside.specs.Shape.{Shape}
use Rattle.idx_outside.specs.declared.mem_file.MemFile.{MemFile}
use Rattle.idx_header.specs.Header.{HeaderValue, block_count}
use Rattle.idx_header.specs.Revisions.{IsRevisionOf}
use Rattle.idx_stride.proofs.RangeLemmas.{All-range}
use Rattle.idx_layout.specs.Shape.{shape_of}
use Rattle.idx_plan.specs.Answer.{answer_of}
use Rattle.idx_plan.specs.Needed.{is_needed, needed}
use Rattle.idx_plan.specs.declared.ask.Ask.{Ask}
use Rattle.idx_edition.specs.Loaded.{HoldsStored, OfBlocks}
use Rattle.idx_edition.specs.Newest.{IsNewest}
use Rattle.idx_edition.specs.Stored.{StandsAs, found_files, has_block, stored_block}
use Rattle.idx_query.specs.Blocks.{lacking}
use Rattle.idx_query.specs.declared.report.Report.{Report}
use Rattle.idx_query.proofs.AnswerLemmas.{has_field}
use Rattle.idx_query.proofs.PostLemmas.{same_answer}
use Rattle.idx_extract.specs.Extract.{IsAnswer}

-- ---- the reads

kept : (f g : ℕ → Bool) (n : ℕ) → ((k : ℕ) → k < n → f k ≡ g k) → (xs : List ℕ) → All (λ k. k < n) xs → filter f xs ≡ filter g xs
kept f g n same [] all = refl
kept f g n same (x ∷ xs) all =
    let first : f x ≡ g x = same x (all 0 0 (omega arith)) in
    let rest : filter f xs ≡ filter g xs = kept f g n same xs (λ k d within. all (suc k) d (omega (arith, within))) in
    λ i. cond (first i) (x ∷ rest i) (rest i)

-- the needed blocks exist
pub needed-exist : (h : HeaderValue) (ask : Ask) → All (λ block. block < block_count h) (needed h ask)
needed-exist h ask =
    All-filter (is_needed h ask) (λ block. block < block_count h) (range_with_len 0 (block_count h))
    (All-range (λ block. block < block_count h) 0 (block_count h) (λ k from below. omega (arith, below)))

-- the blocks that are not lacking came by a read each
there : (h : HeaderValue) (ask : Ask) (has those : ℕ → Bool) (reads absent : ℕ) → ((block : ℕ) → block < block_count h → has block ≡ those block) →
    reads + absent ≡ length (needed h ask) → absent ≡ lacking has (needed h ask) → reads ≡ length (filter those (needed h ask))
there h ask has those reads absent same all lack =
    let both = length-filter_both has (λ block. not (has block)) (λ block. refl) (needed h ask) in
    let few : reads ≡ length (filter has (needed h ask)) = omega (arith, all, lack, both) in
    few ∙ ap length (kept has those (block_count h) same (needed h ask) (needed-exist h ask))

-- reads after reads
pub both_made : (before between after n m : ℕ) → MadeReads before between n → MadeReads between after m → MadeReads before after (n + m)
both_made before between after n m first second =
    let turned : between + m ≡ m + between = omega arith in
    let moved : m + (before + n) ≡ before + (n + m) = omega arith in
    second ∙ ap (λ x. x % 2 ^ 64) turned ∙ sym (add-mod-mod m between (2 ^ 64)) ∙ ap (λ x. (m + x) % 2 ^ 64) first
    ∙ add-mod-mod m (before + n) (2 ^ 64) ∙ ap (λ x. x % 2 ^ 64) moved

-- ---- the answer

module _ (h revised : HeaderValue) (own : IsRevisionOf h revised) (ask : Ask) (files : List MemFile) (shape : Shape) (has : ℕ → ℕ → Bool) (stored : Option (ℕ → ℕ → List ℕ))
    (leaves : List (List ℕ × Option (List ℕ))) (holds : HoldsStored revised ask.time files shape has stored leaves) (is : shape ≡ shape_of h)
    (field : ask.field < length h.fields) (within : h.block_bits ≤ length h.mask) where
  in_shape : ask.field < length shape.lengths
  in_shape = has_field h shape ask.field is field

  in_blocks : (block : ℕ) → block < block_count h → block < shape.blocks
  in_blocks block = subst (λ (s : Shape). block < s.blocks) (sym is)

  answered : (known : Option (ℕ → ℕ → List ℕ)) → known ≢ None → ForSome known (λ stored. OfBlocks shape (λ field block. stored field block ≡ stored_block revised ask.time files field block)) →
      (bytes : List ℕ) → IfSome known (λ stored. bytes ≡ answer_of h ask stored) → bytes ≡ answer_of h ask (stored_block revised ask.time files)
  answered None some content bytes given = absurd (some refl)
  answered (Some s) some content bytes given =
      given ∙ same_answer h ask s (stored_block revised ask.time files) within (λ block below. content s refl ask.field block in_shape (in_blocks block below))

  pub is_answer : (once : Report) (before between after : ℕ) (bytes : List ℕ) → StandsAs h ask.time files revised → MadeReads before between (length leaves) → MadeReads between after once.reads →
      once.reads + once.absent ≡ length (needed h ask) → once.absent ≡ lacking (has ask.field) (needed h ask) → IfSome stored (λ stored. bytes ≡ answer_of h ask stored) →
      IsAnswer h ask files before after bytes
  is_answer once before between after bytes stands first second all lack given =
      let count : length leaves ≡ length (found_files revised ask.time files) =
      ap length holds.same_files ∙ length-map (found_files revised ask.time files) (entry_shown (known_with (Some files))) in
      let same_needed : needed revised ask ≡ needed h ask = ap (λ x. needed x ask) own.same in
      let came : once.reads ≡ length (filter (has_block revised ask.time files ask.field) (needed revised ask)) =
      there h ask (has ask.field) (has_block revised ask.time files ask.field) once.reads once.absent
      (λ block below. holds.has_blocks ask.field block in_shape (in_blocks block below)) all lack
      ∙ ap (λ (blocks : List ℕ). length (filter (has_block revised ask.time files ask.field) blocks)) (sym same_needed) in
      record {
        revised = revised;
        stands = stands;
        tables = holds.sound;
        answer = answered stored holds.known holds.content bytes given;
        reads = subst (λ n. MadeReads before after n) (λ i. count i + came i) (both_made before between after (length leaves) once.reads first second);
      }

-- the same where the committed files are known
pub is_answer_known : (known : Option (List MemFile)) (h revised : HeaderValue) (ask : Ask) (step : ℕ) (shape : Shape) (has : ℕ → ℕ → Bool) (stored : Option (ℕ → ℕ → List ℕ))
    (leaves : List (List ℕ × Option (List ℕ))) (count : ℕ) (once : Report) (before between after : ℕ) (old new : List ℕ) →
    step ≡ ask.time → IfSome known (λ files. HoldsStored revised step files shape has stored leaves) → IsNewest h step known revised →
    shape ≡ shape_of h → ask.field < length h.fields → h.block_bits ≤ length h.mask → count ≡ length leaves →
    MadeReads before between count → MadeReads between after once.reads →
    once.reads + once.absent ≡ length (needed h ask) → once.absent ≡ lacking (has ask.field) (needed h ask) →
    old ≡ [] → IfSome stored (λ stored. new ≡ old ++ answer_of h ask stored) → IfSome known (λ files. IsAnswer h ask files before after new)
is_answer_known known h revised ask step shape has stored leaves count once before between after old new time holds newest is field within many first second all lack empty given = by known holds newest.stands
  where
    by : (o : Option (List MemFile)) → IfSome o (λ files. HoldsStored revised step files shape has stored leaves) → IfSome o (λ files. StandsAs h step files revised) →
        IfSome o (λ files. IsAnswer h ask files before after new)
    by None holds stands = tt
    by (Some files) holds stands =
        is_answer h revised newest.revision ask files shape has stored leaves
        (subst (λ t. HoldsStored revised t files shape has stored leaves) time holds) is field within once before between after new
        (subst (λ t. StandsAs h t files revised) time stands) (subst (MadeReads before between) many first) second all lack
        (subst (λ (o : List ℕ). IfSome stored (λ stored. new ≡ o ++ answer_of h ask stored)) empty given)
