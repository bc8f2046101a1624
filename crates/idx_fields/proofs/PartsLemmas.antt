-- The fields of the parts between two `+`, one part after another.
use Rattle.std.proofs.Common.{◌≡◌, ℕ, ◌+◌, ◌<◌, ◌≤◌, List, [], ◌∷◌, ◌++◌, length, get_or, drop, map, Option, Some, None, option_and_then, refl, sym, ap, ◌∙◌, append_assoc, append-nil}
use Rattle.std.proofs.lemmas.List.{drop_more, drop_all}
use Rattle.idx_fields.specs.Field.{Field, field_of}
use Rattle.idx_fields.specs.Fields.{all_fields}

-- the fields of these parts
abbrev pub fields_in : List (List ℕ) → Option (List Field)
fields_in parts = all_fields (map field_of parts)

-- a field before others
abbrev before : Option Field → Option (List Field) → Option (List Field)
before f rest = option_and_then (λ first. option_and_then (λ fs. Some (first ∷ fs)) rest) f

-- the fields so far, and those that are left
abbrev pub behind : List Field → Option (List Field) → Option (List Field)
behind front rest = option_and_then (λ fs. Some (front ++ fs)) rest

-- the fields so far, and those of the parts from this place on
abbrev pub with_rest : List Field → List (List ℕ) → ℕ → Option (List Field)
with_rest front parts at = behind front (fields_in (drop at parts))

behind-push : (front : List Field) (f : Field) (rest : Option (List Field)) → behind front (before (Some f) rest) ≡ behind (front ++ f ∷ []) rest
behind-push front f None = refl
behind-push front f (Some fs) = ap Some (sym (append_assoc front (f ∷ []) fs))

module _ (front : List Field) (parts : List (List ℕ)) (at : ℕ) (part : List ℕ) (inside : at < length parts) (here : part ≡ get_or parts at part) where
  next : drop at parts ≡ part ∷ drop (at + 1) parts
  next = drop_more parts at part inside ∙ ap (λ p. p ∷ drop (at + 1) parts) (sym here)

  -- a field goes to the front
  pub with_rest-push : (f : Field) → field_of part ≡ Some f → with_rest (front ++ f ∷ []) parts (at + 1) ≡ with_rest front parts at
  with_rest-push f reads =
      let rest : Option (List Field) = fields_in (drop (at + 1) parts) in
      sym (ap (behind front) (ap fields_in next ∙ ap (λ g. before g rest) reads) ∙ behind-push front f rest)

  -- where a part is no field, nothing is read
  pub with_rest-none : field_of part ≡ None → with_rest front parts at ≡ None
  with_rest-none reads =
      let rest : Option (List Field) = fields_in (drop (at + 1) parts) in
      ap (behind front) (ap fields_in next ∙ ap (λ g. before g rest) reads)

-- at the end the fields so far are all
pub with_rest-end : (front : List Field) (parts : List (List ℕ)) (at : ℕ) → length parts ≤ at → with_rest front parts at ≡ Some front
with_rest-end front parts at all =
    ap (λ left. behind front (fields_in left)) (drop_all at parts all) ∙ ap Some (append-nil front)

-- at the start all are left
pub with_rest-start : (parts : List (List ℕ)) → with_rest [] parts 0 ≡ fields_in parts
with_rest-start parts = behind-nil (fields_in parts)
  where
    behind-nil : (rest : Option (List Field)) → behind [] rest ≡ rest
    behind-nil None = refl
    behind-nil (Some fs) = refl
