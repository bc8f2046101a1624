-- A path that goes on behind a folder's name and a slash.
use Rattle.std.specs.Prelude.{◌≡◌, ◌↔◌, IsTrue, nat_eq, ℕ, ◌+◌, ◌<◌, ◌≤◌, List, [], ◌∷◌, ◌++◌, length, take, drop, slice_index_or}
use Rattle.std.proofs.Common.{arith, ap, sym, ◌∙◌, add-one, length-append, length-take}
use Rattle.std.proofs.lemmas.Grind.{common_steps}
use Rattle.std.proofs.Math.Seq.{take-suc, take-append_seam, drop-append_seam}
use Rattle.idx_outside.specs.Files.{LiesIn}

-- it is longer than the folder's name
pub LiesIn-longer : (folder path : List ℕ) → LiesIn folder path → length folder < length path
LiesIn-longer folder path h = grind (arith, ap length h, length-append folder (47 ∷ []), length-take (length folder + 1) path)

one_more : (folder path : List ℕ) → length folder < length path → take (length folder + 1) path ≡ take (length folder) path ++ slice_index_or path (length folder) 0 ∷ []
one_more folder path within = ap (λ n. take n path) (add-one (length folder)) ∙ take-suc path (length folder) 0 within

-- of its parts
pub LiesIn-of : (folder path : List ℕ) → length folder < length path → take (length folder) path ≡ folder → slice_index_or path (length folder) 0 ≡ 47 → LiesIn folder path
LiesIn-of folder path within front slash =
    one_more folder path within ∙ ap (λ xs. xs ++ slice_index_or path (length folder) 0 ∷ []) front ∙ ap (λ x. folder ++ x ∷ []) slash

pub LiesIn-front : (folder path : List ℕ) → LiesIn folder path → take (length folder) path ≡ folder
LiesIn-front folder path h =
    let within : length folder < length path = LiesIn-longer folder path h in
    let short : length (take (length folder) path) ≡ length folder = grind (arith, length-take (length folder) path) in
    let parts : take (length folder) path ++ slice_index_or path (length folder) 0 ∷ [] ≡ folder ++ 47 ∷ [] = sym (one_more folder path within) ∙ h in
    sym (take-append_seam (take (length folder) path) (slice_index_or path (length folder) 0 ∷ []))
    ∙ ap (λ n. take n (take (length folder) path ++ slice_index_or path (length folder) 0 ∷ [])) short
    ∙ ap (take (length folder)) parts ∙ take-append_seam folder (47 ∷ [])

pub LiesIn-slash : (folder path : List ℕ) → LiesIn folder path → slice_index_or path (length folder) 0 ≡ 47
LiesIn-slash folder path h =
    let within : length folder < length path = LiesIn-longer folder path h in
    let short : length (take (length folder) path) ≡ length folder = grind (arith, length-take (length folder) path) in
    let parts : take (length folder) path ++ slice_index_or path (length folder) 0 ∷ [] ≡ folder ++ 47 ∷ [] = sym (one_more folder path within) ∙ h in
    ap (λ xs. slice_index_or xs 0 0) (sym (drop-append_seam (take (length folder) path) (slice_index_or path (length folder) 0 ∷ []))
    ∙ ap (λ n. drop n (take (length folder) path ++ slice_index_or path (length folder) 0 ∷ [])) short
    ∙ ap (drop (length folder)) parts ∙ drop-append_seam folder (47 ∷ []))

-- no longer one lies in it
pub LiesIn-short : (folder path : List ℕ) → length path ≤ length folder → ¬ (LiesIn folder path)
LiesIn-short folder path short h = grind (arith, LiesIn-longer folder path h, short)

-- one with another front does not
pub LiesIn-other : (folder path : List ℕ) → ¬ (take (length folder) path ≡ folder) → ¬ (LiesIn folder path)
LiesIn-other folder path other h = other (LiesIn-front folder path h)

-- one with this front does where a slash follows
pub LiesIn-by_slash : (folder path : List ℕ) → length folder < length path → take (length folder) path ≡ folder → IsTrue (nat_eq (slice_index_or path (length folder) 0) 47) ↔ LiesIn folder path
LiesIn-by_slash folder path within front =
    (λ h. LiesIn-of folder path within front (grind (arith, common_steps, h)), λ h. grind (arith, common_steps, LiesIn-slash folder path h))

-- for `#[tactic(auto, using(..))]` on a function that looks at a path's front
pub ruleset lying = (LiesIn-short, LiesIn-other, LiesIn-by_slash)
