-- What a server has to know of a head.
use Rattle.std.specs.Prelude.{ℕ, Bool, false, not, ◌&&◌, ◌||◌, ◌==◌, List, [], ◌∷◌, map, codes, bytes_eq}
use Rattle.std.specs.List.{list_all, list_any}
use Rattle.httparse.specs.Grammar.{RequestHead}
use Rattle.httparse.specs.Spans.{name_and_value}
use Rattle.http1.specs.Fields.{Header, is_named, has_option, elements_named}
use Rattle.idx_http.specs.declared.head.Head.{Head}

-- the names and the values of a head's fields
abbrev pub pairs_of : RequestHead → List Header
pairs_of h = map name_and_value h.fields

-- one or more zeros
abbrev pub is_zeros : List ℕ → Bool
is_zeros [] = false
is_zeros (b ∷ bytes) = list_all (λ c. c == 48) (b ∷ bytes)

-- the field says that a body follows
unfoldable pub announces : Header → Bool
announces f = is_named (codes "transfer-encoding") f || (is_named (codes "content-length") f && not (is_zeros f.1))

-- some field says that a body follows
abbrev pub has_body : List Header → Bool
has_body fields = list_any announces fields

-- some `Connection` field lists `close`
abbrev pub lists_close : List Header → Bool
lists_close fields = has_option (codes "close") (elements_named (codes "connection") fields)

-- the values of a head
abbrev pub values_of : RequestHead → Head
values_of h = record {
  get = bytes_eq h.method (codes "GET");
  body = has_body (pairs_of h);
  close = (h.minor == 0) || lists_close (pairs_of h);
  target = h.target;
}
