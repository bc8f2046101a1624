-- Revisions that stand, one after another.
use Rattle.std.proofs.Common.{◌≡◌, ℕ, zero, suc, ◌+◌, ◌-◌, ◌<◌, ◌≤◌, Bool, true, false, List, [], Option, Some, None, refl, sym, ap, ◌∙◌, subst, arith, length, get_or, ltb, true≢false}
use Rattle.std.proofs.lemmas.Bool.{ltb-true, ltb-false}
use Rattle.std.specs.Prelude.{IfSome, IsSome, ◌↔◌, option_map}
use Rattle.std.specs.Option.{unwrap_or}
use Rattle.std.specs.List.{prefix_len, range_with_len}
use Rattle.std.proofs.lemmas.List.Sums.{prefix_len-le-length, prefix_len_passes, prefix_len_stops}
use Rattle.std.proofs.lemmas.List.FromFn.{length-range_with_len, get_or-range_with_len}
use Rattle.idx_outside.specs.Files.{has_folder}
use Rattle.idx_outside.specs.declared.mem_file.MemFile.{MemFile}
use Rattle.idx_names.specs.Path as paths
use Rattle.idx_header.specs.declared.steps.Steps.{Steps}
use Rattle.idx_header.specs.Header.{HeaderValue, at_revision}
use Rattle.idx_header.specs.Names.{step_folder}
use Rattle.idx_header.specs.Revisions.{header_that_stands, last_header, next_revision, stands_at, stands_in}

neither : (a b : ℕ) → (a < b → ⊥) → (b < a → ⊥) → a ≡ b
neither a b f g = by (ltb a b) refl (ltb b a) refl
  where
    by : (c : Bool) → ltb a b ≡ c → (d : Bool) → ltb b a ≡ d → a ≡ b
    by true e d k = absurd (f (ltb-true a b e))
    by false e true k = absurd (g (ltb-true b a k))
    by false e false k = omega (arith, ltb-false a b e, ltb-false b a k)

all_places : length (range_with_len 0 256) ≡ 256
all_places = length-range_with_len 0 256

place : (r : ℕ) → r < 256 → get_or (range_with_len 0 256) r 0 ≡ r
place r low = get_or-range_with_len 0 256 r 0 low ∙ omega arith

-- the revisions below this one stand
abbrev pub StandBelow : HeaderValue → ℕ → List MemFile → ℕ → Type 0
StandBelow h step files n = (r : ℕ) → r < n → stands_at h step files r ≡ true

module _ (h : HeaderValue) (step : ℕ) (files : List MemFile) where
  pub next_few : next_revision h step files ≤ 256
  unfolding next_revision
  next_few = omega (arith, prefix_len-le-length (stands_at h step files) (range_with_len 0 256), all_places)

  pub next_below : StandBelow h step files (next_revision h step files)
  unfolding next_revision
  next_below r low =
      let few : r < 256 = omega (arith, low, prefix_len-le-length (stands_at h step files) (range_with_len 0 256), all_places) in
      ap (stands_at h step files) (sym (place r few)) ∙ prefix_len_passes (stands_at h step files) (range_with_len 0 256) r 0 low

  pub next_stops : next_revision h step files < 256 → stands_at h step files (next_revision h step files) ≡ false
  unfolding next_revision
  next_stops few =
      ap (stands_at h step files) (sym (place (prefix_len (stands_at h step files) (range_with_len 0 256)) few))
      ∙ prefix_len_stops (stands_at h step files) (range_with_len 0 256) 0 (omega (arith, few, all_places))

  -- a revision up to which all stand, and which does not stand itself, is the next one
  pub next_is : (n : ℕ) → n ≤ 256 → StandBelow h step files n → (n < 256 → stands_at h step files n ≡ false) → n ≡ next_revision h step files
  next_is n few below stops = neither n (next_revision h step files) above beyond
    where
      above : n < next_revision h step files → ⊥
      above low = absurd (true≢false (sym (next_below n low) ∙ stops (omega (arith, low, next_few))))

      beyond : next_revision h step files < n → ⊥
      beyond low = absurd (true≢false (sym (below (next_revision h step files) low) ∙ next_stops (omega (arith, low, few))))

  pub next_none : next_revision h step files ≡ 0 → stands_at h step files 0 ≡ false
  next_none none = ap (stands_at h step files) (sym none) ∙ next_stops (omega (arith, none))

  pub next_first : stands_at h step files 0 ≡ false → next_revision h step files ≡ 0
  next_first none = sym (next_is 0 (omega arith) (λ r low. absurd (omega (arith, low))) (λ few. none))

none_last : (h : HeaderValue) (n : ℕ) → last_header h n ≡ None → n ≡ 0
none_last h zero e = refl
none_last h (suc n) e = absurd (cc e)

pub stands_none : (h : HeaderValue) (step : ℕ) (files : List MemFile) → (header_that_stands h step files ≡ None) ↔ (stands_at h step files 0 ≡ false)
stands_none h step files =
    (λ e. next_none h step files (none_last h (next_revision h step files) e), λ e. ap (last_header h) (next_first h step files e))

-- the folder of a step at a revision, by the steps
folder_of : HeaderValue → ℕ → ℕ → Option Steps → Option (List ℕ)
folder_of h step r o = option_map (λ steps. paths.step_folder h.template steps.template step r) o

pub next_untimed : (h : HeaderValue) (step : ℕ) (files : List MemFile) → h.steps ≡ None → next_revision h step files ≡ 1
unfolding next_revision step_folder folder_of
next_untimed h step files e = ap (λ (o : Option Steps). prefix_len (λ r. stands_in (folder_of h step r o) files r) (range_with_len 0 256)) e

timed_by : (o : Option Steps) (f : Steps → List ℕ) (files : List MemFile) (r : ℕ) → IsSome o →
    stands_in (option_map f o) files r ≡ has_folder (unwrap_or (option_map f o) []) files
timed_by None f files r some = cc
timed_by (Some steps) f files r some = refl

pub stands_timed : (h : HeaderValue) (step r : ℕ) (files : List MemFile) → IsSome h.steps →
    stands_at h step files r ≡ has_folder (unwrap_or (step_folder (at_revision r h) step) []) files
unfolding step_folder
stands_timed h step r files some = timed_by h.steps (λ steps. paths.step_folder h.template steps.template step r) files r some

-- the same where the files may not be known
pub known_untimed : (h : HeaderValue) (step : ℕ) (known : Option (List MemFile)) → h.steps ≡ None →
    IfSome known (λ files. 1 ≡ next_revision h step files)
known_untimed h step None e = tt
known_untimed h step (Some files) e = sym (next_untimed h step files e)

pub known_start : (h : HeaderValue) (step : ℕ) (known : Option (List MemFile)) → IfSome known (λ files. StandBelow h step files 0)
known_start h step None = tt
known_start h step (Some files) = λ r low. absurd (omega (arith, low))

pub known_next : (h : HeaderValue) (step n : ℕ) (known now : Option (List MemFile)) (stands : Bool) → now ≡ known → stands ≡ false → n ≤ 256 →
    IfSome known (λ files. StandBelow h step files n) → IfSome now (λ files. stands ≡ stands_at h step files n) →
    IfSome known (λ files. n ≡ next_revision h step files)
known_next h step n known now stands same e few before here = go known before (subst (λ (o : Option (List MemFile)). IfSome o (λ files. stands ≡ stands_at h step files n)) same here)
  where
    go : (o : Option (List MemFile)) → IfSome o (λ files. StandBelow h step files n) → IfSome o (λ files. stands ≡ stands_at h step files n) →
        IfSome o (λ files. n ≡ next_revision h step files)
    go None before here = tt
    go (Some files) before here = next_is h step files n few before (λ low. sym here ∙ e)

pub known_all : (h : HeaderValue) (step n : ℕ) (known : Option (List MemFile)) → n ≡ 256 →
    IfSome known (λ files. StandBelow h step files n) → IfSome known (λ files. 256 ≡ next_revision h step files)
known_all h step n None all below = tt
known_all h step n (Some files) all below =
    sym all ∙ next_is h step files n (omega (arith, all)) below (λ low. absurd (omega (arith, all, low)))

-- the header at the only revision that stands without a time
pub own_revision : (h : HeaderValue) (n : ℕ) → n ≡ 1 → h.revision ≡ 0 → at_revision (n - 1) h ≡ h
own_revision h n one none = let at : n - 1 ≡ h.revision = omega (arith, one, none) in ap (λ r. at_revision r h) at
