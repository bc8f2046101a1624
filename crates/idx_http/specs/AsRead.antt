-- What the head of a reply is, to one who reads it.
use Rattle.std.specs.Prelude.{ℕ, List, [], ◌∷◌, map, Some, codes}
use Rattle.std.specs.Fmt.{decimal}
use Rattle.httparse.specs.Grammar.{crlf, Field, IsToken, AllPass, is_value_byte, ResponseHead}
use Rattle.idx_http.specs.Reply.{reason, media_type}

-- a name and a value that may stand in a head (RFC 9110, section 5)
pub record IsExtra (extra : List ℕ × List ℕ) : Type 0 where
  pub name : IsToken extra.0
  pub value : AllPass is_value_byte extra.1

-- the field of a name and a value
abbrev pub field_of : List ℕ × List ℕ → Field
field_of extra = record { name = extra.0; raw = 32 ∷ extra.1; end = crlf }

-- the names and the values of all fields
abbrev pub fields_of : ℕ → ℕ → List (List ℕ × List ℕ) → List (List ℕ × List ℕ)
fields_of status bytes extras =
    (codes "Content-Type", media_type status) ∷ (codes "Content-Length", decimal bytes) ∷ extras

-- the head of a reply as HTTP has it
abbrev pub head_value : ℕ → ℕ → List (List ℕ × List ℕ) → ResponseHead
head_value status bytes extras =
    record {
      blank = [];
      minor = 1;
      digits = decimal status;
      reason = Some (reason status);
      line_end = crlf;
      fields = map field_of (fields_of status bytes extras);
      last = crlf;
    }
