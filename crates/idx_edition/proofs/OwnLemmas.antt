-- The files of a step that was written, alone.
use Rattle.std.proofs.Common.{◌≡◌, ℕ, zero, suc, Bool, true, false, cond, List, [], ◌∷◌, map, Some, None, refl, sym, ap, ◌∙◌}
use Rattle.std.specs.Prelude.{Option, slice_get}
use Rattle.std.specs.Str.{bytes_eq}
use Rattle.std.proofs.lemmas.Slice.Eq.{bytes_eq-Decides}
use Rattle.idx_outside.specs.Files.{file_at, files_of}
use Rattle.idx_names.specs.Template.{IsTemplate}
use Rattle.idx_names.proofs.ApartLemmas.{files_differ, steps_differ}
use Rattle.std.specs.Prelude.{IfSome}
use Rattle.idx_header.specs.declared.steps.Steps.{Steps}
use Rattle.idx_header.specs.Header.{AreSteps, HasTime, HasTimeAmong, HeaderValue, IsHeader}
use Rattle.idx_header.specs.Names.{file_name, name_with}
use Rattle.idx_rowmajor.specs.declared.layout.Layout.{Layout}
use Rattle.idx_layout.specs.Placing.{file_numbers}
use Rattle.idx_layout.specs.Files.{file_bytes}
use Rattle.idx_layout.specs.OfHeader.{placing_of}
use Rattle.idx_layout.specs.Step.{step_files}
use Rattle.idx_edition.specs.Stored.{HasFiles}

-- the file of a number among files whose paths differ
own_file : (path bytes : ℕ → List ℕ) (folder : List ℕ) (numbers : List ℕ) → ((a b : ℕ) → path a ≡ path b → a ≡ b) → (i k : ℕ) → slice_get numbers i ≡ Some k →
    file_at (path k) (files_of folder (map (λ n. (path n, bytes n)) numbers)) ≡ Some (bytes k)
own_file path bytes folder [] differ i k at = let wrong : None ≡ Some k = at in absurd (cc)
own_file path bytes folder (n ∷ numbers) differ i k at = by_test (own_file path bytes folder numbers differ) (bytes_eq (path n) (path k)) refl i at
  where
    rest : Option (List ℕ)
    rest = file_at (path k) (files_of folder (map (λ n. (path n, bytes n)) numbers))

    by_test : ((i k : ℕ) → slice_get numbers i ≡ Some k → file_at (path k) (files_of folder (map (λ n. (path n, bytes n)) numbers)) ≡ Some (bytes k)) →
        (b : Bool) → bytes_eq (path n) (path k) ≡ b → (i : ℕ) → slice_get (n ∷ numbers) i ≡ Some k → cond b (Some (bytes n)) rest ≡ Some (bytes k)
    by_test more true e i at =
        let same : path n ≡ path k = (bytes_eq-Decides (path n) (path k)).0 e in
        ap (λ m. Some (bytes m)) (differ n k same)
    by_test more false e zero at =
        let same : n ≡ k = cc in
        let wrong : false ≡ true = sym e ∙ ap (λ m. bytes_eq (path n) (path m)) (sym same) ∙ (bytes_eq-Decides (path n) (path n)).1 refl in absurd (cc)
    by_test more false e (suc i) at = more i k at

-- different files of a step have different paths
apart : (h : HeaderValue) (o : Option Steps) (s f g : ℕ) → IsTemplate h.template → IfSome o AreSteps → HasTimeAmong o s → name_with h o s f ≡ name_with h o s g → f ≡ g
apart h None s f g t is here e = files_differ h.template f g t e
apart h (Some steps) s f g t is here e = (steps_differ h.template steps.template s s h.revision h.revision f g t is.template e).2

paths_differ : (h : HeaderValue) (s f g : ℕ) → IsHeader h → HasTime h s → file_name h s f ≡ file_name h s g → f ≡ g
unfolding file_name
paths_differ h s f g is here e = apart h h.steps s f g is.template is.steps here e

pub own_files : (layout : Layout) (h : HeaderValue) (step : ℕ) (volume : List (List (List ℕ))) (folder : List ℕ) → IsHeader h → HasTime h step → HasFiles layout h step volume (files_of folder (step_files layout h volume step))
own_files layout h step volume folder is here = λ i file at.
    own_file (file_name h step) (file_bytes layout (placing_of h) volume) folder (file_numbers (placing_of h)) (λ a b e. paths_differ h step a b is here e) i file at
