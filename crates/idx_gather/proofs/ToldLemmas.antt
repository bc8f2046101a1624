-- Sealed files that are those of the step of some volume, as far as they tell their bytes.
use Rattle.std.proofs.Common.{◌≡◌, ℕ, zero, suc, ◌<◌, true, false, List, [], ◌∷◌, ◌++◌, length, map, take, refl, sym, ap, subst, ◌∙◌, arith, Option, Some, None}
use Rattle.std.proofs.Props.{props}
use Rattle.std.specs.Prelude.{IfSome, replicate, slice_get}
use Rattle.std.specs.List.{AllZip}
use Rattle.std.specs.Option.{is_some}
use Rattle.std.proofs.lemmas.List.{length-map, length-replicate, take_all}
use Rattle.std.proofs.lemmas.List.Elements.{All-cons, All-head, All-nil, All-tail}
use Rattle.idx_outside.specs.Files.{AllLieIn, LiesIn, entry_shown, known_files, known_with, shown}
use Rattle.idx_outside.specs.declared.mem_file.MemFile.{MemFile}
use Rattle.idx_header.specs.Header.{HeaderValue, IsHeader, volume_bytes}
use Rattle.idx_header.specs.Names.{file_name}
use Rattle.idx_rowmajor.specs.declared.layout.Layout.{Layout}
use Rattle.idx_layout.specs.Files.{file_bytes}
use Rattle.idx_layout.specs.OfHeader.{placing_of}
use Rattle.idx_layout.specs.Placing.{file_numbers}
use Rattle.idx_layout.specs.Step.{step_file, step_files, volume_of_raw}
use Rattle.idx_edition.specs.Loaded.{AreWritten}
use Rattle.idx_volumes.proofs.JoinLemmas.{raw_is}
use Rattle.idx_gather.specs.States.{AreAllFiles, AreFilesSoFar, IsStepOf, TellAs, TellsFile}
use Rattle.idx_gather.proofs.EditionLemmas.{is_volume}
use Rattle.idx_gather.proofs.SomeFileLemmas.{some_step_file}

-- ---- lists whose elements are related place by place

pub zip_append : {X Y : Type 0} (R : X → Y → Type 0) (xs more : List X) (ys others : List Y) → AllZip R xs ys → AllZip R more others → AllZip R (xs ++ more) (ys ++ others)
zip_append R [] more [] others first last = last
zip_append R [] more (y ∷ ys) others first last = absurd first
zip_append R (x ∷ xs) more [] others first last = absurd first
zip_append R (x ∷ xs) more (y ∷ ys) others first last = (first.0, zip_append R xs more ys others first.1 last)

pub zip_count : {X Y : Type 0} (R : X → Y → Type 0) (xs : List X) (ys : List Y) → AllZip R xs ys → length ys ≡ length xs
zip_count R [] [] all = refl
zip_count R [] (y ∷ ys) all = absurd all
zip_count R (x ∷ xs) [] all = absurd all
zip_count R (x ∷ xs) (y ∷ ys) all = ap (λ n. suc n) (zip_count R xs ys all.1)

-- ---- what is told

-- what is known of files is told of them
pub told_known : (known : Option (List MemFile)) (files : List (List ℕ × List ℕ)) → AllZip TellsFile (known_files known files) files
told_known known [] = tt
told_known known (file ∷ files) = ((refl, by_known known), told_known known files)
  where
    by_known : (o : Option (List MemFile)) → IfSome (known_with o file.1) (λ bytes. bytes ≡ file.1)
    by_known None = tt
    by_known (Some committed) = refl

-- one leaf that tells its bytes as the committed files are known is the file
same_leaf : (path name bytes : List ℕ) (known : Option (List MemFile)) (told : Option (List ℕ)) → path ≡ name → is_some told ≡ is_some known → IfSome told (λ own. own ≡ bytes) →
    ◌≡◌ {A = List ℕ × Option (List ℕ)} (path, told) (name, known_with known bytes)
same_leaf path name bytes None None same tell is = λ i. (same i, None)
same_leaf path name bytes None (Some own) same tell is = let wrong : true ≡ false = tell in absurd (cc)
same_leaf path name bytes (Some committed) None same tell is = let wrong : false ≡ true = tell in absurd (cc)
same_leaf path name bytes (Some committed) (Some own) same tell is = λ i. (same i, Some (is i))

-- so are all
pub known_told : (known : Option (List MemFile)) (leaves : List (List ℕ × Option (List ℕ))) (files : List (List ℕ × List ℕ)) → TellAs known leaves → AllZip TellsFile leaves files →
    leaves ≡ known_files known files
known_told known [] [] tell all = refl
known_told known [] (file ∷ files) tell all = absurd all
known_told known (leaf ∷ leaves) [] tell all = absurd all
known_told known (leaf ∷ leaves) (file ∷ files) tell all =
    let own : is_some leaf.1 ≡ is_some known = All-head (λ (l : List ℕ × Option (List ℕ)). is_some l.1 ≡ is_some known) leaf leaves tell in
    ap (λ (l : List ℕ × Option (List ℕ)). l ∷ leaves) (same_leaf leaf.0 file.0 file.1 known leaf.1 all.0.0 own all.0.1)
    ∙ ap (λ ls. entry_shown (known_with known) file ∷ ls)
    (known_told known leaves files (All-tail (λ (l : List ℕ × Option (List ℕ)). is_some l.1 ≡ is_some known) leaf leaves tell) all.1)

-- ---- no file yet, and all files

pub none_so_far : (layout : Layout) (h : HeaderValue) (step : ℕ) (files : List ℕ) → AreFilesSoFar layout h step files []
none_so_far layout h step files =
    let bytes : List ℕ = replicate (volume_bytes h) 0 in
    record { volume = volume_of_raw h bytes; is = is_volume h bytes (length-replicate (volume_bytes h) 0); tell = tt }

pub all_files : (layout : Layout) (h : HeaderValue) (step : ℕ) (files : List ℕ) (sealed : List (List ℕ × Option (List ℕ))) → files ≡ file_numbers (placing_of h) → length sealed ≡ length files →
    AreFilesSoFar layout h step files sealed → AreAllFiles layout h step sealed
all_files layout h step files sealed numbers all so_far = record {
  volume = so_far.volume;
  is = so_far.is;
  tell = subst (λ (fs : List ℕ). AllZip TellsFile sealed (map (step_file layout h so_far.volume step) fs))
      (ap (λ n. take n files) all ∙ take_all (length files) files (omega arith) ∙ numbers) so_far.tell;
}

-- ---- the step

-- they are as the writer lays out
pub paths_told : (layout : Layout) (h : HeaderValue) (step : ℕ) (v : List (List (List ℕ))) (leaves : List (List ℕ × Option (List ℕ))) (numbers : List ℕ) → AllZip TellsFile leaves (map (step_file layout h v step) numbers) →
    map (λ leaf. leaf.0) leaves ≡ map (file_name h step) numbers
paths_told layout h step v [] [] all = refl
paths_told layout h step v [] (n ∷ numbers) all = absurd all
paths_told layout h step v (leaf ∷ leaves) [] all = absurd all
paths_told layout h step v (leaf ∷ leaves) (n ∷ numbers) all =
    ap (λ path. path ∷ map (λ (l : List ℕ × Option (List ℕ)). l.0) leaves) all.0.0 ∙ ap (λ paths. file_name h step n ∷ paths) (paths_told layout h step v leaves numbers all.1)

bytes_told : (layout : Layout) (h : HeaderValue) (step : ℕ) (v : List (List (List ℕ))) (leaves : List (List ℕ × Option (List ℕ))) (numbers : List ℕ) → AllZip TellsFile leaves (map (step_file layout h v step) numbers) →
    (i file : ℕ) (path bytes : List ℕ) → slice_get numbers i ≡ Some file → slice_get leaves i ≡ Some (path, Some bytes) → bytes ≡ file_bytes layout (placing_of h) v file
bytes_told layout h step v leaves [] all i file path bytes number at = let wrong : None ≡ Some file = number in absurd (cc)
bytes_told layout h step v [] (n ∷ numbers) all i file path bytes number at = absurd all
bytes_told layout h step v (leaf ∷ leaves) (n ∷ numbers) all zero file path bytes number at =
    let same : n ≡ file = cc in
    let both : ◌≡◌ {A = Option (List ℕ × Option (List ℕ))} (Some leaf) (Some (path, Some bytes)) = at in
    let own : ◌≡◌ {A = List ℕ × Option (List ℕ)} leaf (path, Some bytes) = cc in
    subst (λ (k : ℕ). bytes ≡ file_bytes layout (placing_of h) v k) same
    (subst (λ (l : List ℕ × Option (List ℕ)). IfSome l.1 (λ told. told ≡ file_bytes layout (placing_of h) v n)) own all.0.1)
bytes_told layout h step v (leaf ∷ leaves) (n ∷ numbers) all (suc i) file path bytes number at = bytes_told layout h step v leaves numbers all.1 i file path bytes number at

pub written_told : (layout : Layout) (h : HeaderValue) (step : ℕ) (leaves : List (List ℕ × Option (List ℕ))) → (are : AreAllFiles layout h step leaves) → AreWritten layout h step are.volume leaves
written_told layout h step leaves are = record {
  whole = are.is;
  paths = paths_told layout h step are.volume leaves (file_numbers (placing_of h)) are.tell;
  bytes = bytes_told layout h step are.volume leaves (file_numbers (placing_of h)) are.tell;
}

-- where they tell their bytes as the committed files are known, they are those of some raw input
pub step_told : (layout : Layout) (h : HeaderValue) (step : ℕ) (known : Option (List MemFile)) (sealed : List (List ℕ × Option (List ℕ))) → AreAllFiles layout h step sealed → TellAs known sealed →
    (raw : List ℕ) × IsStepOf layout h step known sealed raw
step_told layout h step known sealed are tell =
    let some = raw_is h are.volume are.is in (
      some.0,
      record {
        whole = some.1.0;
        same = known_told known sealed (step_files layout h are.volume step) tell are.tell ∙ ap (λ v. known_files known (step_files layout h v step)) (sym some.1.1);
      },
    )

-- there is one
pub some_told : {L : Type 0} (layout : Layout) (contents : L → Option (List ℕ)) (h : HeaderValue) (step : ℕ) (leaves : List (List ℕ × L)) → IsHeader h → AreAllFiles layout h step (shown contents leaves) → 0 < length leaves
some_told layout contents h step leaves valid are =
    let many : length (step_files layout h are.volume step) ≡ length leaves = zip_count TellsFile (shown contents leaves) (step_files layout h are.volume step) are.tell ∙ length-map leaves (entry_shown contents) in
    subst (λ (n : ℕ). 0 < n) many (some_step_file layout h are.volume step valid)

-- that leaves lie in a folder has one proof at most
pub lie_fact : {L : Type 0} (folder : List ℕ) (leaves : List (List ℕ × L)) → IsProp (AllLieIn folder leaves)
lie_fact folder leaves = hlevel props

-- they lie where the files do
pub lie_told : {L : Type 0} (contents : L → Option (List ℕ)) (folder : List ℕ) (leaves : List (List ℕ × L)) (files : List (List ℕ × List ℕ)) → AllZip TellsFile (shown contents leaves) files →
    AllLieIn folder files → AllLieIn folder leaves
lie_told {L} contents folder [] [] all lie = All-nil (λ (entry : List ℕ × L). LiesIn folder entry.0)
lie_told contents folder [] (file ∷ files) all lie = absurd all
lie_told contents folder (leaf ∷ leaves) [] all lie = absurd all
lie_told {L} contents folder (leaf ∷ leaves) (file ∷ files) all lie =
    All-cons (λ (entry : List ℕ × L). LiesIn folder entry.0) leaf leaves
    (subst (LiesIn folder) (sym all.0.0) (All-head (λ (entry : List ℕ × List ℕ). LiesIn folder entry.0) file files lie))
    (lie_told contents folder leaves files all.1 (All-tail (λ (entry : List ℕ × List ℕ). LiesIn folder entry.0) file files lie))
