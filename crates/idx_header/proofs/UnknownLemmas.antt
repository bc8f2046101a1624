-- The keys that have no effect, section by section.
use Rattle.std.proofs.Common.{◌≡◌, ℕ, ◌+◌, ◌<◌, Bool, true, false, not, cond, List, [], ◌∷◌, ◌++◌, length, map, filter, take, get_or, All, refl, sym, ap, ◌∙◌}
use Rattle.std.proofs.lemmas.List.{take_more}
use Rattle.std.proofs.lemmas.List.Elements.{All-cons, All-nil, All-head, All-tail}
use Rattle.idx_text.specs.declared.section.Section.{Section}
use Rattle.idx_text.specs.Sections.{IsTextSection}
use Rattle.idx_header.specs.declared.unknown.Unknown.{Unknown}
use Rattle.idx_header.specs.Header.{IsUnknown}
use Rattle.idx_header.specs.HeaderOf.{unknown_in}
use Rattle.idx_header.specs.Keys.{is_known, unknown_sections}

abbrev plain : Section → Unknown
plain s = record { key = s.key; value = s.value }

unknown_in-append : (ss ts : List Section) → unknown_in (ss ++ ts) ≡ unknown_in ss ++ unknown_in ts
unfolding unknown_sections
unknown_in-append [] ts = refl
unknown_in-append (s ∷ ss) ts = cases (is_known s) (unknown_in-append ss ts)
  where
    keep : Bool → List Section → List Section
    keep known more = cond (not known) (s ∷ more) more

    cases : (known : Bool) → map plain (filter (λ t. not (is_known t)) (ss ++ ts)) ≡ map plain (filter (λ t. not (is_known t)) ss) ++ map plain (filter (λ t. not (is_known t)) ts) →
        map plain (cond (not known) (s ∷ filter (λ t. not (is_known t)) (ss ++ ts)) (filter (λ t. not (is_known t)) (ss ++ ts)))
        ≡ map plain (cond (not known) (s ∷ filter (λ t. not (is_known t)) ss) (filter (λ t. not (is_known t)) ss)) ++ map plain (filter (λ t. not (is_known t)) ts)
    cases true rest = rest
    cases false rest = ap (λ t. plain s ∷ t) rest

-- one section more
pub unknown_in-more : (ss : List Section) (i : ℕ) (s : Section) → i < length ss → s ≡ get_or ss i s → unknown_in (take (i + 1) ss) ≡ unknown_in (take i ss) ++ unknown_in (s ∷ [])
unknown_in-more ss i s h is =
    ap unknown_in (take_more ss i s h) ∙ unknown_in-append (take i ss) (get_or ss i s ∷ []) ∙ ap (λ t. unknown_in (take i ss) ++ unknown_in (t ∷ [])) (sym is)

-- what is true of them
pub all_unknown : (ss : List Section) → All IsTextSection ss → All IsUnknown (unknown_in ss)
unfolding unknown_sections
all_unknown [] h = All-nil IsUnknown
all_unknown (s ∷ ss) h = cases (is_known s) refl (all_unknown ss (All-tail IsTextSection s ss h))
  where
    cases : (known : Bool) → known ≡ is_known s → All IsUnknown (map plain (filter (λ t. not (is_known t)) ss)) →
        All IsUnknown (map plain (cond (not known) (s ∷ filter (λ t. not (is_known t)) ss) (filter (λ t. not (is_known t)) ss)))
    cases true same rest = rest
    cases false same rest =
        let text = All-head IsTextSection s ss h in
        All-cons IsUnknown (plain s) _ (record { key = text.key; unknown = sym same; value = text.value; trimmed = text.trimmed }) rest
