-- The parameters of a target: the pairs of its query, which is a form.
use Rattle.std.specs.Prelude.{ℕ, Bool, ◌||◌, ◌==◌, List, map, filter, length, nat_lt, bytes_eq, codes}
use Rattle.std.specs.List.{list_any}
use Rattle.std.specs.Str.{chars}
use Rattle.std.specs.Str.Lossy.{utf8_lossy}
use Rattle.form_urlencoded.specs.Form.{raw_pairs, decode}

-- a name and a value
abbrev pub Pair : Type 0
Pair = List ℕ × List ℕ

-- the text that a name or a value stands for; bytes that are no text come as U+FFFD
abbrev pub text_of : List ℕ → List ℕ
text_of bytes = utf8_lossy (decode bytes)

abbrev pub decoded : Pair → Pair
decoded pair = (text_of pair.0, text_of pair.1)

-- the names and values of a query, in order
abbrev pub pairs_of : List ℕ → List Pair
pairs_of query = map decoded (raw_pairs query)

-- the text has the character U+FFFD
abbrev pub is_bad : List ℕ → Bool
is_bad text = list_any (λ c. c == 65533) (chars text)

abbrev pub is_bad_pair : Pair → Bool
is_bad_pair pair = is_bad pair.0 || is_bad pair.1

-- the pairs of this name
abbrev pub named : List ℕ → List Pair → List Pair
named name pairs = filter (λ pair. bytes_eq pair.0 name) pairs

-- the values that stand under a name, in order
abbrev pub values : List ℕ → List Pair → List (List ℕ)
values name pairs = map (λ pair. pair.1) (named name pairs)

-- more than one value
abbrev pub is_double : List (List ℕ) → Bool
is_double values = nat_lt 1 (length values)

-- some parameter that is known stands twice
abbrev pub has_double : List Pair → Bool
has_double pairs =
    is_double (values (codes "action") pairs) || is_double (values (codes "dataset") pairs)
    || is_double (values (codes "time") pairs) || is_double (values (codes "field") pairs)
    || is_double (values (codes "box") pairs) || is_double (values (codes "fromh") pairs)
    || is_double (values (codes "toh") pairs) || is_double (values (codes "maxh") pairs)
    || is_double (values (codes "compression") pairs)
