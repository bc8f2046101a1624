-- Replies, as HTTP/1.1 writes them (RFC 9112): the line of the status, the fields, an empty line and the body.
use Rattle.std.specs.Prelude.{ℕ, Bool, ◌==◌, if◌then◌else◌, List, [], ◌∷◌, ◌++◌, length, codes, unwrap_or}
use Rattle.std.specs.Fmt.{decimal}
use Rattle.std.specs.List.{flat_map, list_any}
use Rattle.http.specs.StatusCode.{reason_phrase}

-- the statuses of replies
abbrev pub reply_statuses : List ℕ
reply_statuses = 200 ∷ 400 ∷ 404 ∷ 405 ∷ 413 ∷ 431 ∷ 500 ∷ 501 ∷ 503 ∷ []

abbrev pub is_reply_status : ℕ → Bool
is_reply_status status = list_any (λ s. status == s) reply_statuses

-- the phrase of a status, as `http` has it
unfoldable pub reason : ℕ → List ℕ
reason status = unwrap_or (reason_phrase status) []

-- what the body is
abbrev pub media_type : ℕ → List ℕ
media_type status = if status == 200 then codes "application/octet-stream" else codes "text/plain"

-- a text with the end of a line behind it
unfoldable pub line : List ℕ → List ℕ
line text = text ++ 13 ∷ 10 ∷ []

unfoldable pub status_line : ℕ → List ℕ
status_line status = line (codes "HTTP/1.1 " ++ decimal status ++ 32 ∷ reason status)

-- the line of a field, of its name and its value
unfoldable pub field_line : List ℕ → List ℕ → List ℕ
field_line name value = line (name ++ codes ": " ++ value)

-- a line for each of these fields
abbrev pub field_lines : List (List ℕ × List ℕ) → List ℕ
field_lines fields = flat_map (λ field. field_line field.0 field.1) fields

-- The head of a reply whose body has so many bytes. The extras are the fields behind the first two.
unfoldable pub reply_head : ℕ → ℕ → List (List ℕ × List ℕ) → List ℕ
reply_head status bytes extras =
    status_line status
    ++ field_line (codes "Content-Type") (media_type status)
    ++ field_line (codes "Content-Length") (decimal bytes)
    ++ field_lines extras
    ++ line []

-- a head and its body
abbrev pub reply : ℕ → List (List ℕ × List ℕ) → List ℕ → List ℕ
reply status extras body = reply_head status (length body) extras ++ body
