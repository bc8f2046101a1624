-- The fields of a dataset as the value of its header's key gives them: separated by `+`.
use Rattle.std.specs.Prelude.{◌≡◌, ℕ, ◌≤◌, Bool, true, ◌&&◌, not, List, [], ◌∷◌, ◌++◌, length, map, All, nat_le, IsTrue, Option, Some, None, option_and_then, Result, Ok, Err, if◌then◌else◌}
use Rattle.std.specs.List.{list_any, list_all, slice_split}
use Rattle.std.specs.Str.{bytes_eq}
use Rattle.idx_fields.specs.declared.base.Base.{Base}
use Rattle.idx_fields.specs.declared.fields_fault.FieldsFault.{FieldsFault}
use Rattle.idx_fields.specs.declared.fields_fault.FieldsFault.TheVariants as faults
use Rattle.idx_fields.specs.Field.{Field, IsField, is_plus, sample_bytes, field_of, field_text}

-- all of the fields, or none where one of them is missing
abbrev pub all_fields : List (Option Field) → Option (List Field)
all_fields [] = Some []
all_fields (f ∷ fs) = option_and_then (λ first. option_and_then (λ rest. Some (first ∷ rest)) (all_fields fs)) f

-- no name stands twice
abbrev pub are_distinct : List (List ℕ) → Bool
are_distinct [] = true
are_distinct (name ∷ names) = not (list_any (bytes_eq name) names) && are_distinct names

abbrev pub names_of : List Field → List (List ℕ)
names_of fields = map (λ f. f.name) fields

-- the fields that a text lists, if each part between two `+` is one and no name stands twice
unfoldable pub listed_fields : List ℕ → Option (List Field)
listed_fields text =
    option_and_then (λ fields. if are_distinct (names_of fields) then Some fields else None)
    (all_fields (map field_of (slice_split is_plus text)))

-- at most 64 fields, and at most 64 bytes a sample
abbrev pub are_within_limits : List Field → Bool
are_within_limits fields = nat_le (length fields) 64 && list_all (λ f. nat_le (sample_bytes f) 64) fields

-- the fields, where they are within the limits
abbrev pub within_limits : Option (List Field) → Result (List Field) FieldsFault
within_limits None = Err faults.BadField
within_limits (Some fields) = if are_within_limits fields then Ok fields else Err faults.OverLimit

-- the fields of a text, or why there are none
unfoldable pub fields_of : List ℕ → Result (List Field) FieldsFault
fields_of text = within_limits (listed_fields text)

-- what is true of each list of fields that was read
pub record AreFields (fields : List Field) : Type 0 where
  pub some : 1 ≤ length fields
  pub few : length fields ≤ 64
  pub each : All IsField fields
  pub distinct : IsTrue (are_distinct (names_of fields))

-- the fields as they are written in a row, with ` + ` between
abbrev pub fields_text : List Field → List ℕ
fields_text [] = []
fields_text (f ∷ []) = field_text f
fields_text (f ∷ g ∷ fs) = field_text f ++ 32 ∷ 43 ∷ 32 ∷ fields_text (g ∷ fs)

-- further fields as they are written on lines of their own, each behind `+ `
abbrev pub further_lines : List Field → List (List ℕ)
further_lines fields = map (λ f. 43 ∷ 32 ∷ field_text f) fields

-- the lines of the fields
abbrev pub fields_lines : List Field → List (List ℕ)
fields_lines [] = []
fields_lines (f ∷ fs) = field_text f ∷ further_lines fs

-- a name and a type: what two datasets have to agree on
abbrev pub identity : Field → List ℕ × (Base × ℕ)
identity f = (f.name, (f.base, f.count))

-- names and types are equal in order; attributes do not count
abbrev pub Agree : List Field → List Field → Type 0
Agree these those = map identity these ≡ map identity those
