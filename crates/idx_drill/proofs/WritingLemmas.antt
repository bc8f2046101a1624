-- The step of a drill: no raw volume counts a fault or has another length, exactly its files are written, and its post answers
-- each question as the volume does.
use Rattle.std.proofs.Common.{◌≡◌, ℕ, zero, suc, ◌+◌, ◌-◌, ◌*◌, ◌/◌, ◌^◌, ◌<◌, ◌≤◌, Bool, true, false, List, [], ◌∷◌, length, map, drop, get_or, All, Option, Some, None, refl, sym, ap, ◌∙◌, subst, ⊎_elim, zero-add, arith}
use Rattle.std.specs.Prelude.{IfSome, slice_index, slice_index_or, sum, sum_by, ◌==◌}
use Rattle.std.specs.List.{range_with_len}
use Rattle.std.proofs.Math.Pow.{pow_mono}
use Rattle.std.proofs.Math.Nat.{mul-div_cancel, mul-le-mul}
use Rattle.std.proofs.lemmas.Bool.{eq-eqb}
use Rattle.std.proofs.lemmas.List.{get_or-map, length-map}
use Rattle.std.proofs.lemmas.List.FromFn.{get_or-map-range_with_len}
use Rattle.std.proofs.lemmas.List.Sums.{sum-map, sum_by-cons, sum_by-le}
use Rattle.std.proofs.lemmas.Nat.{mul-add-lt, pow-add, pow_pos}
use Rattle.idx_outside.specs.Cause.{Rose}
use Rattle.idx_outside.specs.Files.{files_of}
use Rattle.idx_outside.specs.Objects.{contents_at}
use Rattle.idx_outside.specs.Shape.{Shape}
use Rattle.idx_outside.specs.declared.mem_file.MemFile.{MemFile}
use Rattle.idx_memory.specs.Memory.{SourceBytes}
use Rattle.idx_geom.specs.Region.{points}
use Rattle.idx_geom.specs.Volume.{IsVolume}
use Rattle.idx_geom.proofs.VolumeLemmas.{IsVolume-volume_of}
use Rattle.idx_hz.specs.Address.{hz_address}
use Rattle.idx_hz.specs.Answer.{answer}
use Rattle.idx_fields.specs.Field.{sample_bytes}
use Rattle.idx_header.specs.Header.{HasTime, HeaderValue, IsHeader, block_count, volume_bytes}
use Rattle.idx_header.specs.Names.{step_folder}
use Rattle.idx_layout.specs.Content.{field_in}
use Rattle.idx_layout.specs.Files.{file_bytes}
use Rattle.idx_layout.specs.OfHeader.{placing_of}
use Rattle.idx_layout.specs.Placing.{Placing, block_bytes, file_numbers, is_present, present_blocks}
use Rattle.idx_layout.specs.Placing as placings
use Rattle.idx_layout.specs.Shape.{shape_of}
use Rattle.idx_layout.specs.Step.{step_files, volume_of_raw}
use Rattle.idx_rowmajor.specs.declared.layout.Layout.TheVariants.{Hz}
use Rattle.idx_layout.proofs.FileLemmas.{length-file_bytes}
use Rattle.idx_layout.proofs.HeaderLemmas.{few_present}
use Rattle.idx_layout.proofs.ListLemmas.{count-le}
use Rattle.idx_layout.proofs.OffsetLemmas.{length_of_file-sums}
use Rattle.idx_layout.proofs.PresentLemmas.{any_point}
use Rattle.idx_edition.specs.Loaded.{HoldsStored}
use Rattle.idx_edition.specs.Stored.{stored_block}
use Rattle.idx_edition.proofs.BackLemmas.{stored_back}
use Rattle.idx_edition.proofs.OwnLemmas.{own_files}
use Rattle.idx_hall.specs.Posts.{bytes_at, has_at, post_of, table_of}
use Rattle.idx_plan.specs.Answer.{answer_of}
use Rattle.idx_plan.specs.declared.ask.Ask.{Ask}
use Rattle.idx_query.proofs.PostLemmas.{entry-table, same_answer}
use Rattle.idx_gather.specs.Gather.{HasPresent, HaveSame, HoldsAdded, IsCaused, IsRankFault, SomeStepAdded}
use Rattle.idx_gather.specs.declared.gather_fault.GatherFault.{GatherFault}
use Rattle.idx_gather.specs.declared.gather_fault.GatherFault.TheVariants.{RawFault, RawWrongSize}
use Rattle.idx_core_model.specs.Headline.{CanBeAsked}
use Rattle.idx_core_model.specs.Layers.{answer_of_raw}
use Rattle.idx_drill_model.specs.Drill.{drill_bits, drill_box, drill_depth, drill_header, drill_mask, drill_volume}
use Rattle.idx_drill_model.proofs.BoxLemmas.{bits-within, point-at}
use Rattle.idx_drill_model.proofs.HeaderLemmas.{header-is}
use Rattle.idx_drill_model.proofs.RoundLemmas.{count-is}
use Rattle.idx_drill_model.proofs.TakenLemmas.{length-volume}
use Rattle.idx_drill.specs.Drilled.{drill_files}
use Rattle.idx_drill.specs.Runs.{IsDrillPost}

-- ---- the raw volumes

some-raw : SourceBytes
some-raw = record { bytes = []; asked = 0 }

-- each of the raw volumes tells the bytes that all of them have
pub told-at : (bytes : List ℕ) (raws : List SourceBytes) → All (λ raw. raw.bytes ≡ bytes) raws → (i : ℕ) → i < length raws → contents_at (λ (raw : SourceBytes). Some raw.bytes) raws i ≡ Some bytes
told-at bytes raws all i within =
    get_or-map (λ (raw : SourceBytes). Some raw.bytes) raws i some-raw None within ∙ ap Some (all i some-raw within)

pub alike : (bytes : List ℕ) (raws : List SourceBytes) → All (λ raw. raw.bytes ≡ bytes) raws → HaveSame (λ (raw : SourceBytes). Some raw.bytes) raws
alike bytes raws all = λ i within. told-at bytes raws all i within ∙ sym (told-at bytes raws all 0 (omega arith))

-- none of them counts a fault
zero-at : (raws : List SourceBytes) (i : ℕ) → slice_index (map (λ (raw : SourceBytes). 0) raws) i ≡ 0
zero-at [] i = refl
zero-at (raw ∷ raws) zero = refl
zero-at (raw ∷ raws) (suc i) = zero-at raws i

same-rise : Rose 0 0 → ⊥
same-rise rose = ⊎_elim (λ (less : 0 < 0). omega (arith, less)) (λ (end : (0 ≡ 2 ^ 64 - 1) × (0 ≡ 2 ^ 64 - 1)). omega (arith, end.0)) rose

no-rank-fault : (raws after : List SourceBytes) (rank faults : ℕ) → IsRankFault (map (λ (raw : SourceBytes). 0) raws) (map (λ (raw : SourceBytes). 0) after) rank faults → ⊥
no-rank-fault raws after rank faults is = same-rise (subst (λ k. Rose k 0) (zero-at raws rank) (subst (λ k. Rose (slice_index (map (λ (raw : SourceBytes). 0) raws) rank) k) (zero-at after rank) is.rose))

pub no-raw-fault : (h : HeaderValue) (raw : Option (List ℕ)) (raws raws_after : List SourceBytes) (before after rank faults : ℕ) (fault : GatherFault) → fault ≡ RawFault rank faults →
    IsCaused h raw (map (λ (raw : SourceBytes). 0) raws) (map (λ (raw : SourceBytes). 0) raws_after) before after fault → ⊥
no-raw-fault h raw raws raws_after before after rank faults fault is caused =
    no-rank-fault raws raws_after rank faults
    (subst (IsCaused h raw (map (λ (raw : SourceBytes). 0) raws) (map (λ (raw : SourceBytes). 0) raws_after) before after) is caused).0

-- nor has another length
wrong-size : (n want found : ℕ) (raws_before raws_after : List ℕ) (before after : ℕ) → IsCaused (drill_header n) (Some (drill_volume n)) raws_before raws_after before after (RawWrongSize want found) → ⊥
wrong-size n want found raws_before raws_after before after caused = caused.1 (caused.2 ∙ length-volume n ∙ sym caused.0)

pub no-wrong-size : (n want found : ℕ) (h : HeaderValue) (raw : Option (List ℕ)) (raws_before raws_after : List ℕ) (before after : ℕ) (fault : GatherFault) → h ≡ drill_header n → raw ≡ Some (drill_volume n) →
    fault ≡ RawWrongSize want found → IsCaused h raw raws_before raws_after before after fault → ⊥
no-wrong-size n want found h raw raws_before raws_after before after fault header told is caused =
    wrong-size n want found raws_before raws_after before after
    (subst (λ x. IsCaused x (Some (drill_volume n)) raws_before raws_after before after (RawWrongSize want found)) header
    (subst (λ x. IsCaused h x raws_before raws_after before after (RawWrongSize want found)) told
    (subst (IsCaused h raw raws_before raws_after before after) is caused)))

-- ---- the files

pub folder-of : (n : ℕ) → (folder : List ℕ) × (step_folder (drill_header n) 0 ≡ Some folder)
unfolding step_folder
folder-of n = (_, refl)

some-same : {X : Type 0} (x y : X) → ◌≡◌ {A = Option X} (Some x) (Some y) → x ≡ y
some-same x y e = cc

-- the files that were added to none are those of the volume
pub files-are : (n : ℕ) (raw : Option (List ℕ)) (files : List MemFile) → raw ≡ Some (drill_volume n) → SomeStepAdded (drill_header n) 0 raw (Some []) (Some files) →
    (folder : List ℕ) × (files ≡ files_of folder (drill_files n))
files-are n raw files told added =
    let same : added.0 ≡ drill_volume n = subst (λ o. IfSome o (λ known. added.0 ≡ known)) told added.1.1 in
    let stands : Some files ≡ Some (files_of (folder-of n).0 (step_files Hz (drill_header n) (volume_of_raw (drill_header n) added.0) 0)) =
    subst (λ o. IfSome o (λ folder. Some files ≡ Some (files_of folder (step_files Hz (drill_header n) (volume_of_raw (drill_header n) added.0) 0)))) (folder-of n).1 added.1.2 in (
      (folder-of n).0,
      some-same files _ stands ∙ ap (λ raw. files_of (folder-of n).0 (step_files Hz (drill_header n) (volume_of_raw (drill_header n) raw) 0)) same,
    )

pub written-are : (n : ℕ) (h : HeaderValue) (raw : Option (List ℕ)) (old new : List MemFile) → h ≡ drill_header n → raw ≡ Some (drill_volume n) → old ≡ [] → SomeStepAdded h 0 raw (Some old) (Some new) →
    (folder : List ℕ) × (new ≡ files_of folder (drill_files n))
written-are n h raw old new header told none added =
    files-are n raw new told
    (subst (λ x. SomeStepAdded x 0 raw (Some []) (Some new)) header
    (subst (λ x. SomeStepAdded h 0 raw (Some x) (Some new)) none added))

-- ---- how many files, and how many bytes

sum_by-mapped : {A B : Type 0} (f : B → ℕ) (g : A → B) (xs : List A) → sum_by f (map g xs) ≡ sum_by (λ x. f (g x)) xs
sum_by-mapped f g [] = refl
sum_by-mapped f g (x ∷ xs) =
    sum_by-cons f (g x) (map g xs) ∙ ap (λ s. f (g x) + s) (sum_by-mapped f g xs) ∙ sym (sum_by-cons (λ y. f (g y)) x xs)

pub files-bytes : (folder : List ℕ) (files : List (List ℕ × List ℕ)) → sum_by (λ (file : MemFile). length file.bytes) (files_of folder files) ≡ sum (map (λ (file : List ℕ × List ℕ). length file.1) files)
files-bytes folder files =
    sum_by-mapped (λ (file : MemFile). length file.bytes) _ files ∙ sym (sum-map (λ (file : List ℕ × List ℕ). length file.1) files)

blocks-few : (n : ℕ) → n ≤ 8 → block_count (drill_header n) ≤ 4096
blocks-few n small =
    let exponent : drill_depth n - drill_bits n ≤ 12 = omega arith in
    let power : 2 ^ (drill_depth n - drill_bits n) ≤ 2 ^ 12 = pow_mono exponent in
    omega (arith, power, count-is n)

numbers-within : (l : Placing) → length (file_numbers l) ≤ placings.block_count l
numbers-within l = count-le _ 0 (placings.block_count l)

numbers-few : (n : ℕ) → n ≤ 8 → length (file_numbers (placing_of (drill_header n))) ≤ 4096
numbers-few n small = omega (arith, numbers-within (placing_of (drill_header n)), blocks-few n small)

volume-is : (h : HeaderValue) (raw : List ℕ) → length raw ≡ volume_bytes h → IsVolume (placing_of h).sizes (length (points h.box)) (volume_of_raw h raw)
volume-is h raw whole = IsVolume-volume_of (map sample_bytes h.fields) (length (points h.box)) raw (omega (arith, whole))

file-few : (n k : ℕ) → n ≤ 8 → length (file_bytes Hz (placing_of (drill_header n)) (volume_of_raw (drill_header n) (drill_volume n)) k) ≤ 2 ^ 15
file-few n k small =
    let l : Placing = placing_of (drill_header n) in
    let few : drill_bits n ≤ 12 = omega arith in
    let power : 2 ^ drill_bits n ≤ 2 ^ 12 = pow_mono few in
    let blocks : length (present_blocks l k) ≤ 4 = few_present l k in
    let one : sum_by (block_bytes l) (range_with_len 0 (length l.sizes)) ≤ 2 ^ 12 = omega (arith, power) in
    let all : sum_by (block_bytes l) (range_with_len 0 (length l.sizes)) * length (present_blocks l k) ≤ 2 ^ 12 * 4 = mul-le-mul one blocks in
    omega (arith, length-file_bytes Hz l (volume_of_raw (drill_header n) (drill_volume n)) k (volume-is (drill_header n) (drill_volume n) (length-volume n)), length_of_file-sums l k, all)

-- sums of terms that are no larger
sum-few : (f : ℕ → ℕ) (most : ℕ) (xs : List ℕ) → ((k : ℕ) → f k ≤ most) → sum_by f xs ≤ length xs * most
sum-few f most xs few = sum_by-le f most xs (λ k d within. few (get_or xs k d))

pub bytes-few : (n : ℕ) → n ≤ 8 → sum (map (λ (file : List ℕ × List ℕ). length file.1) (drill_files n)) < 2 ^ 64
bytes-few n small =
    let l : Placing = placing_of (drill_header n) in
    let size : ℕ → ℕ = λ k. length (file_bytes Hz l (volume_of_raw (drill_header n) (drill_volume n)) k) in
    let same : sum (map (λ (file : List ℕ × List ℕ). length file.1) (drill_files n)) ≡ sum_by size (file_numbers l) =
    sum-map (λ (file : List ℕ × List ℕ). length file.1) (drill_files n) ∙ sum_by-mapped (λ (file : List ℕ × List ℕ). length file.1) _ (file_numbers l) in
    let most : sum_by size (file_numbers l) ≤ length (file_numbers l) * 2 ^ 15 = sum-few size (2 ^ 15) (file_numbers l) (λ k. file-few n k small) in
    omega (arith, same, most, numbers-few n small)

-- ---- the post

-- the answer out of the files of a step that one rank wrote, which stand alone, is that out of the volume
own-answer : (h : HeaderValue) (t : ℕ) (raw folder : List ℕ) (ask : Ask) → IsHeader h → HasTime h t → length raw ≡ volume_bytes h → ask.field < length h.fields →
    answer_of h ask (stored_block h t (files_of folder (step_files Hz h (volume_of_raw h raw) t))) ≡ answer_of_raw h raw ask
own-answer h t raw folder ask is time whole within =
    let files : List MemFile = files_of folder (step_files Hz h (volume_of_raw h raw) t) in
    let in_sizes : ask.field < length (placing_of h).sizes = omega (arith, within, length-map h.fields sample_bytes) in
    ap (λ (samples : List (List ℕ)). answer h.mask h.box samples ask.region ask.lo ask.hi)
    (sym (get_or-map-range_with_len (field_in (placing_of h) (stored_block h t files)) 0 (length (placing_of h).sizes) ask.field ask.field [] in_sizes (zero-add ask.field)))
    ∙ ap (λ (volume : List (List (List ℕ))). answer h.mask h.box (slice_index_or volume ask.field []) ask.region ask.lo ask.hi)
    (stored_back Hz h t (volume_of_raw h raw) files is (volume-is h raw whole) (own_files Hz h t (volume_of_raw h raw) folder is time))

-- each block of a drill has a point of its box
each-present : (n block : ℕ) → block < block_count (drill_header n) → is_present (placing_of (drill_header n)) block ≡ true
each-present n block exists =
    let bits : ℕ = drill_bits n in
    let some : 0 < 2 ^ bits = pow_pos bits in
    let split : length (drill_mask n) ≡ (length (drill_mask n) - bits) + bits = omega (arith, bits-within n) in
    let below : block * 2 ^ bits + 0 < 2 ^ bits * 2 ^ (length (drill_mask n) - bits) = mul-add-lt block (2 ^ bits) 0 (2 ^ (length (drill_mask n) - bits)) exists some in
    let all : 2 ^ length (drill_mask n) ≡ 2 ^ (length (drill_mask n) - bits) * 2 ^ bits = ap (λ k. 2 ^ k) split ∙ pow-add 2 (length (drill_mask n) - bits) bits in
    let at = point-at n (block * 2 ^ bits) (omega (arith, below, all)) in
    let same : hz_address (drill_mask n) at.0 / 2 ^ bits ≡ block = ap (λ a. a / 2 ^ bits) at.2 ∙ mul-div_cancel block some in
    any_point (drill_box n) (λ p. hz_address (drill_mask n) p / 2 ^ bits == block) at.0 at.1 (eq-eqb (hz_address (drill_mask n) at.0 / 2 ^ bits) block same)

pub post-is : (n : ℕ) (folder : List ℕ) (files : List MemFile) (shape : Shape) (has : ℕ → ℕ → Bool) (stored : Option (ℕ → ℕ → List ℕ)) (leaves : List (List ℕ × Option (List ℕ))) → 1 ≤ n → n ≤ 8 →
    files ≡ files_of folder (drill_files n) → shape ≡ shape_of (drill_header n) → HasPresent (drill_header n) has → HoldsStored (drill_header n) 0 files shape has stored leaves →
    IsDrillPost n (post_of (shape_of (drill_header n)) 0 has stored)
post-is n folder files shape has None leaves some few are shaped present holds = absurd (holds.known refl)
post-is n folder files shape has (Some f) leaves some few are shaped present holds =
    record { stored = table_of (shape_of (drill_header n)) f; told = refl; answers = answers; has = there }
  where
    header : IsHeader (drill_header n)
    header = header-is n some few

    same : (field block : ℕ) → field < length (shape_of (drill_header n)).lengths → block < (shape_of (drill_header n)).blocks →
        f field block ≡ stored_block (drill_header n) 0 (files_of folder (drill_files n)) field block
    same field block within exists =
        holds.content f refl field block (subst (λ (s : Shape). field < length s.lengths) (sym shaped) within) (subst (λ (s : Shape). block < s.blocks) (sym shaped) exists)
        ∙ ap (λ (fs : List MemFile). stored_block (drill_header n) 0 fs field block) are

    answers : (ask : Ask) → CanBeAsked (drill_header n) ask → answer_of (drill_header n) ask (bytes_at (table_of (shape_of (drill_header n)) f)) ≡ answer_of_raw (drill_header n) (drill_volume n) ask
    answers ask can =
        same_answer (drill_header n) ask (bytes_at (table_of (shape_of (drill_header n)) f)) (stored_block (drill_header n) 0 (files_of folder (drill_files n))) (bits-within n)
        (λ block exists.
        entry-table [] (shape_of (drill_header n)) f ask.field block can.field exists
        ∙ same ask.field block can.field exists)
        ∙ own-answer (drill_header n) 0 (drill_volume n) folder ask header (omega arith, omega arith) (length-volume n) can.field

    there : (block : ℕ) → block < block_count (drill_header n) → has_at (post_of (shape_of (drill_header n)) 0 has (Some f)) 0 block ≡ true
    there block exists =
        entry-table false (shape_of (drill_header n)) has 0 block (omega arith) exists
        ∙ present 0 block (omega arith) exists
        ∙ each-present n block exists

pub edition-is : (n : ℕ) (h : HeaderValue) (old new : List MemFile) (shape : Shape) (has : ℕ → ℕ → Bool) (stored : Option (ℕ → ℕ → List ℕ)) (leaves : List (List ℕ × Option (List ℕ))) → 1 ≤ n → n ≤ 8 →
    h ≡ drill_header n → old ≡ [] → (folder : List ℕ) × (new ≡ files_of folder (drill_files n)) → shape ≡ shape_of h → HasPresent h has → HoldsAdded h 0 (Some old) (Some new) shape has stored leaves →
    IsDrillPost n (post_of (shape_of h) 0 has stored)
edition-is n h old new shape has stored leaves some few header none files shaped present holds =
    subst (λ x. IsDrillPost n (post_of (shape_of x) 0 has stored)) (sym header)
    (post-is n files.0 new shape has stored leaves some few files.1
    (subst (λ x. shape ≡ shape_of x) header shaped)
    (subst (λ x. HasPresent x has) header present)
    (subst (λ x. HoldsStored x 0 new shape has stored leaves) header
    (subst (λ (x : List MemFile). HoldsStored h 0 (drop (length x) new) shape has stored leaves) none (holds.own old refl new refl))))
