-- What the values of the parameters stand for. A parameter that is missing has its default.
use Rattle.std.specs.Prelude.{◌≡◌, ℕ, Bool, true, false, ◌==◌, ◌&&◌, ◌^◌, List, [], ◌∷◌, length, take, drop, nat_lt, not, Option, Some, None, ◌<◌, if◌then◌else◌, codes}
use Rattle.std.specs.List.{list_all, position_or_len}
use Rattle.idx_fields.specs.Field.{field_at}
use Rattle.idx_header.specs.Header.{HeaderValue, ends_of}
use Rattle.idx_plan.specs.declared.ask.Ask.{Ask}
use Rattle.idx_request.specs.Pairs.{Pair, values}
use Rattle.idx_text.specs.BoxText.{SpellsRegion}
use Rattle.idx_text.specs.Number.{is_digit, number_of}

-- one or more zeros, all of them
abbrev pub are_zeros : List ℕ → Bool
are_zeros [] = false
are_zeros (b ∷ bs) = (b == 48) && list_all (λ c. c == 48) bs

-- nothing, or a point with one or more zeros behind it
abbrev pub is_no_fraction : List ℕ → Bool
is_no_fraction [] = true
is_no_fraction (b ∷ bs) = (b == 46) && are_zeros bs

-- how many digits stand at the front of a text
abbrev pub digits_in_front : List ℕ → ℕ
digits_in_front text = position_or_len (λ b. not (is_digit b)) text

-- the step that a text spells, if it spells one: a number, which may have a point and zeros behind it
abbrev pub time_of : List ℕ → Option ℕ
time_of text =
    if is_no_fraction (drop (digits_in_front text) text) then number_of (take (digits_in_front text) text) else None

-- the first step of a header
abbrev pub first_step : Option (ℕ × ℕ) → ℕ
first_step None = 0
first_step (Some ends) = ends.0

-- the step that is asked for, if the value spells one
abbrev pub time_asked : HeaderValue → List (List ℕ) → Option ℕ
time_asked h [] = Some (first_step (ends_of h.steps))
time_asked h (value ∷ more) = time_of value

-- the field that is asked for
abbrev pub IsFieldAsked : HeaderValue → List (List ℕ) → ℕ → Type 0
IsFieldAsked h [] i = i ≡ 0
IsFieldAsked h (value ∷ more) i = (i < length h.fields) × ((field_at h.fields i).name ≡ value)

-- the region that is asked for, of as many axes as the dataset has
abbrev pub IsBoxAsked : HeaderValue → List (List ℕ) → List (ℕ × ℕ) → Type 0
IsBoxAsked h [] r = ⊥
IsBoxAsked h (value ∷ more) r = SpellsRegion value r × (length r ≡ length h.box)

-- a number that has at most 32 binary digits
abbrev pub small : Option ℕ → Option ℕ
small None = None
small (Some n) = if nat_lt n (2 ^ 32) then Some n else None

-- the level that is asked for, if the value spells one; without a value this one
abbrev pub level_asked : ℕ → List (List ℕ) → Option ℕ
level_asked other [] = Some other
level_asked other (value ∷ more) = small (number_of value)

-- what is spelt is this number
abbrev pub is_number : Option ℕ → ℕ → Bool
is_number None n = false
is_number (Some m) n = m == n

-- the value, where there is one, is the number of the finest level
abbrev pub is_finest : HeaderValue → List (List ℕ) → Bool
is_finest h [] = true
is_finest h (value ∷ more) = is_number (number_of value) (length h.mask)

-- the levels that are asked for
pub record AreLevelsAsked (h : HeaderValue) (pairs : List Pair) (coarsest finest : ℕ) : Type 0 where
  pub lo : level_asked 0 (values (codes "fromh") pairs) ≡ Some coarsest
  pub hi : level_asked (length h.mask) (values (codes "toh") pairs) ≡ Some finest
  pub max : is_finest h (values (codes "maxh") pairs) ≡ true

-- What the parameters ask of a dataset.
pub record IsAsked (h : HeaderValue) (pairs : List Pair) (ask : Ask) : Type 0 where
  pub time : time_asked h (values (codes "time") pairs) ≡ Some ask.time
  pub field : IsFieldAsked h (values (codes "field") pairs) ask.field
  pub region : IsBoxAsked h (values (codes "box") pairs) ask.region
  pub levels : AreLevelsAsked h pairs ask.lo ask.hi
