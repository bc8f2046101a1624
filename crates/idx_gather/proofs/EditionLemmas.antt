-- The edition of the files of a step that was added.
use Rattle.std.proofs.Common.{◌≡◌, ℕ, Bool, true, false, cond, List, [], ◌∷◌, ◌++◌, length, map, drop, Some, None, refl, sym, ap, subst, ◌∙◌}
use Rattle.std.specs.Prelude.{IfSome, Option, bytes_eq, sum}
use Rattle.std.proofs.Math.Nat.{mul_comm}
use Rattle.std.proofs.Math.Seq.{drop-append_seam}
use Rattle.idx_geom.specs.Region.{points}
use Rattle.idx_geom.specs.Volume.{IsVolume}
use Rattle.idx_geom.proofs.VolumeLemmas.{IsVolume-volume_of}
use Rattle.idx_fields.specs.Field.{sample_bytes}
use Rattle.idx_outside.specs.Files.{added, file_at, files_of, known_files}
use Rattle.idx_outside.specs.Shape.{Shape}
use Rattle.idx_outside.specs.declared.mem_file.MemFile.{MemFile}
use Rattle.idx_header.specs.Header.{HasTime, HeaderValue, IsHeader, volume_bytes}
use Rattle.idx_header.specs.Names.{file_name}
use Rattle.idx_rowmajor.specs.declared.layout.Layout.{Layout}
use Rattle.idx_layout.specs.OfHeader.{placing_of}
use Rattle.idx_layout.specs.Step.{step_files, volume_of_raw}
use Rattle.idx_edition.specs.Stored.{HasFiles}
use Rattle.idx_edition.specs.Loaded.{HoldsStored}
use Rattle.idx_edition.proofs.OwnLemmas.{own_files}
use Rattle.idx_gather.specs.Gather.{HasBlocksOf, HoldsAdded, LackPaths}

-- the volume with a raw input of the right length
pub is_volume : (h : HeaderValue) (raw : List ℕ) → length raw ≡ volume_bytes h → IsVolume (placing_of h).sizes (length (points h.box)) (volume_of_raw h raw)
is_volume h raw whole =
    IsVolume-volume_of (map sample_bytes h.fields) (length (points h.box)) raw (whole ∙ mul_comm (length (points h.box)) (sum (map sample_bytes h.fields)))

-- files behind others, none of which has the path
at_behind : (path : List ℕ) (files more : List MemFile) → file_at path files ≡ None → file_at path (files ++ more) ≡ file_at path more
at_behind path [] more none = refl
at_behind path (file ∷ files) more none = by_test (at_behind path files more) (bytes_eq file.path path) refl
  where
    by_test : (file_at path files ≡ None → file_at path (files ++ more) ≡ file_at path more) → (b : Bool) → bytes_eq file.path path ≡ b → file_at path (file ∷ (files ++ more)) ≡ file_at path more
    by_test rest true e =
        let wrong : None ≡ Some file.bytes = sym none ∙ ap (λ (b : Bool). cond b (Some file.bytes) (file_at path files)) e in absurd (cc)
    by_test rest false e =
        ap (λ (b : Bool). cond b (Some file.bytes) (file_at path (files ++ more))) e
        ∙ rest (sym (ap (λ (b : Bool). cond b (Some file.bytes) (file_at path files)) e) ∙ none)

-- An edition that holds what files store that have those of the step, whatever else they have.
pub record HoldsAny (layout : Layout) (h : HeaderValue) (step : ℕ) (volume : List (List (List ℕ))) (shape : Shape) (has : ℕ → ℕ → Bool)
    (stored : Option (ℕ → ℕ → List ℕ)) (leaves : List (List ℕ × Option (List ℕ))) : Type 0 where
  pub any : (files : List MemFile) → HasFiles layout h step volume files → leaves ≡ known_files (Some files) (step_files layout h volume step) → HoldsStored h step files shape has stored leaves

module _ (layout : Layout) (h : HeaderValue) (step : ℕ) (is : IsHeader h) (here : HasTime h step) (volume : List (List (List ℕ))) (folder : List ℕ) (shape : Shape) (has : ℕ → ℕ → Bool) (stored : Option (ℕ → ℕ → List ℕ)) (leaves : List (List ℕ × Option (List ℕ))) (holds : HoldsAny layout h step volume shape has stored leaves) where
  more : List MemFile
  more = files_of folder (step_files layout h volume step)

  holds_own : (files : List MemFile) → leaves ≡ known_files (Some files) (step_files layout h volume step) → HoldsStored h step (drop (length files) (files ++ more)) shape has stored leaves
  unfolding more
  holds_own files same =
      subst (λ fs. HoldsStored h step fs shape has stored leaves) (sym (drop-append_seam files more))
      (holds.any more (own_files layout h step volume folder is here) same)

  holds_all : (files : List MemFile) → LackPaths h step files → leaves ≡ known_files (Some files) (step_files layout h volume step) → HoldsStored h step (files ++ more) shape has stored leaves
  unfolding more
  holds_all files lack same =
      holds.any (files ++ more) (λ i file at. at_behind (file_name h step file) files more (lack file) ∙ own_files layout h step volume folder is here i file at) same

  pub holds_added : (old new : Option (List MemFile)) → leaves ≡ known_files old (step_files layout h volume step) → new ≡ added old (files_of folder (step_files layout h volume step)) →
      HoldsAdded h step old new shape has stored leaves
  unfolding more
  holds_added None new same stands = record {
    own = λ before told. let wrong : ◌≡◌ {A = Option (List MemFile)} None (Some before) = told in absurd (cc);
    all = λ before told. let wrong : ◌≡◌ {A = Option (List MemFile)} None (Some before) = told in absurd (cc);
  }
  holds_added (Some files) new same stands = record {
    own = λ before told after told'.
        let first : files ≡ before = some_same files before told in
        let last : files ++ more ≡ after = some_same (files ++ more) after (sym stands ∙ told') in
        subst (λ fs. HoldsStored h step (drop (length fs) after) shape has stored leaves) first
        (subst (λ fs. HoldsStored h step (drop (length files) fs) shape has stored leaves) last (holds_own files same));
    all = λ before told after told' lack.
        let first : files ≡ before = some_same files before told in
        let last : files ++ more ≡ after = some_same (files ++ more) after (sym stands ∙ told') in
        subst (λ fs. HoldsStored h step fs shape has stored leaves) last
        (holds_all files (subst (LackPaths h step) (sym first) lack) same);
  }
    where
      some_same : (xs ys : List MemFile) → ◌≡◌ {A = Option (List MemFile)} (Some xs) (Some ys) → xs ≡ ys
      some_same xs ys e = cc

-- what is said of the bytes of a raw volume, where these are known
pub blocks_told : (h : HeaderValue) (raw : Option (List ℕ)) (bytes : List ℕ) (stored : Option (ℕ → ℕ → List ℕ)) → IfSome raw (λ known. bytes ≡ known) → HasBlocksOf h bytes stored →
    IfSome raw (λ known. HasBlocksOf h known stored)
blocks_told h None bytes stored same has = tt
blocks_told h (Some known) bytes stored same has = subst (λ raw. HasBlocksOf h raw stored) same has
