-- The first fault of a target, in the order of the table.
use Rattle.std.specs.Prelude.{◌≡◌, ◌⊎◌, Result, Ok, Err, ℕ, Bool, true, false, not, ◌||◌, ◌&&◌, List, [], ◌∷◌, bytes_eq, codes, length, Option, Some, None, is_some, if◌then◌else◌}
use Rattle.std.specs.List.{list_any}
use Rattle.form_urlencoded.specs.Form.{split_once}
use Rattle.idx_fields.specs.Field.{Field}
use Rattle.idx_header.specs.Header.{HeaderValue}
use Rattle.idx_plan.specs.declared.ask.Ask.{Ask}
use Rattle.idx_request.specs.declared.target_fault.TargetFault.{TargetFault}
use Rattle.idx_request.specs.declared.target_fault.TargetFault.TheVariants as F
use Rattle.idx_request.specs.Pairs.{Pair, pairs_of, is_bad_pair, has_double, values}
use Rattle.idx_request.specs.Asked.{IsAsked, IsBoxAsked, is_finest, level_asked, time_asked}

-- the first fault of two
abbrev pub first_of : Option TargetFault → Option TargetFault → Option TargetFault
first_of (Some fault) later = Some fault
first_of None later = later

-- a fault where the test holds
abbrev pub where_true : Bool → TargetFault → Option TargetFault
where_true b fault = if b then Some fault else None

-- the fault of a parameter that must stand there with this value
abbrev pub fault_of_value : List (List ℕ) → List ℕ → TargetFault → TargetFault → Option TargetFault
fault_of_value [] want missing other = Some missing
fault_of_value (value ∷ more) want missing other = if bytes_eq value want then None else Some other

-- the value, where there is one, is empty or `raw`
abbrev pub is_raw : List (List ℕ) → Bool
is_raw [] = true
is_raw (value ∷ more) = bytes_eq value [] || bytes_eq value (codes "raw")

-- the value, where there is one, is the name of a field
abbrev pub names_field : List Field → List (List ℕ) → Bool
names_field fields [] = true
names_field fields (value ∷ more) = list_any (λ field. bytes_eq field.name value) fields

-- the first fault of what is asked: the action, the dataset and the compression
abbrev pub wish_fault : List ℕ → List Pair → Option TargetFault
wish_fault name pairs =
    first_of (where_true (list_any is_bad_pair pairs) F.BadText)
    (first_of (where_true (has_double pairs) F.DoubleParameter)
    (first_of (fault_of_value (values (codes "action") pairs) (codes "boxquery") F.NoAction F.UnknownAction)
    (first_of (fault_of_value (values (codes "dataset") pairs) name F.NoDataset F.OtherDataset)
    (where_true (not (is_raw (values (codes "compression") pairs))) F.NotRaw))))

-- the first fault of the field and the step
abbrev pub step_fault : HeaderValue → List Pair → Option TargetFault
step_fault h pairs =
    first_of (where_true (not (names_field h.fields (values (codes "field") pairs))) F.UnknownField)
    (where_true (not (is_some (time_asked h (values (codes "time") pairs)))) F.BadTime)

-- the values of the levels are right
abbrev pub are_levels : HeaderValue → List Pair → Bool
are_levels h pairs =
    is_some (level_asked 0 (values (codes "fromh") pairs))
    && is_some (level_asked (length h.mask) (values (codes "toh") pairs))
    && is_finest h (values (codes "maxh") pairs)

-- the first fault of a target before its box: the target is cut at its first `?`, which is 63
abbrev pub early_fault : HeaderValue → List ℕ → List ℕ → Option TargetFault
early_fault h name target =
    first_of (where_true (not (bytes_eq (split_once 63 target).0 (codes "/mod_visus"))) F.OtherPath)
    (first_of (wish_fault name (pairs_of (split_once 63 target).1)) (step_fault h (pairs_of (split_once 63 target).1)))

-- What the box and the levels come to, where all before them is right.
abbrev pub IsReadBehind : HeaderValue → List Pair → Result Ask TargetFault → Type 0
IsReadBehind h pairs (Ok ask) = IsAsked h pairs ask
IsReadBehind h pairs (Err F.BadBox) = (r : List (ℕ × ℕ)) → ¬ IsBoxAsked h (values (codes "box") pairs) r
IsReadBehind h pairs (Err F.BadLevels) =
    ((r : List (ℕ × ℕ)) × IsBoxAsked h (values (codes "box") pairs) r) × (are_levels h pairs ≡ false)
IsReadBehind h pairs (Err F.NoMemory) = Unit {0}
IsReadBehind h pairs (Err fault) = ⊥

-- The answer by the first fault before the box: that one, unless there was no memory; where there is none, what the box and the
-- levels come to.
abbrev pub IsReadBy : HeaderValue → List Pair → Result Ask TargetFault → Option TargetFault → Type 0
IsReadBy h pairs result (Some fault) = (result ≡ Err fault) ⊎ (result ≡ Err F.NoMemory)
IsReadBy h pairs result None = IsReadBehind h pairs result

-- What a target asks, or its first fault, where there is enough memory.
abbrev pub IsRead : HeaderValue → List ℕ → List ℕ → Result Ask TargetFault → Type 0
IsRead h name target result = IsReadBy h (pairs_of (split_once 63 target).1) result (early_fault h name target)
