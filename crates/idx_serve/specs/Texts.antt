-- The bytes of replies.
use Rattle.std.specs.Prelude.{ℕ, Bool, ◌==◌, if◌then◌else◌, List, [], ◌∷◌, ◌++◌, codes}
use Rattle.std.specs.Fmt.{decimal}
use Rattle.idx_fields.specs.Field.{field_at}
use Rattle.idx_fields.specs.FieldType.{canonical_type}
use Rattle.idx_header.specs.Header.{HeaderValue}
use Rattle.idx_http.specs.Reply.{reply}
use Rattle.idx_plan.specs.Needed.{answer_samples}
use Rattle.idx_plan.specs.declared.ask.Ask.{Ask}
use Rattle.idx_serve.specs.Refusals.{status_of, text_of}
use Rattle.idx_serve.specs.declared.refusal.Refusal.{Refusal}

-- the field that says that the reply is the last one
abbrev pub close_field : Bool → List (List ℕ × List ℕ)
close_field closes = if closes then (codes "Connection", codes "close") ∷ [] else []

-- the field that says which methods there are
abbrev pub allow_field : ℕ → List (List ℕ × List ℕ)
allow_field status = if status == 405 then (codes "Allow", codes "GET") ∷ [] else []

-- the fields of a refusal behind the first two
abbrev pub refusal_fields : Refusal → Bool → List (List ℕ × List ℕ)
refusal_fields refusal closes = allow_field (status_of refusal) ++ close_field closes

-- a refusal: its text and the end of a line
abbrev pub refusal_reply : Refusal → Bool → List ℕ
refusal_reply refusal closes = reply (status_of refusal) (refusal_fields refusal closes) (text_of refusal ++ 10 ∷ [])

-- the canonical type of the field that is asked for
abbrev pub dtype_of : HeaderValue → Ask → List ℕ
dtype_of h ask = canonical_type (field_at h.fields ask.field).base (field_at h.fields ask.field).count

-- the fields of an answer out of the post of this number behind the first two
abbrev pub answer_fields : HeaderValue → Ask → ℕ → Bool → List (List ℕ × List ℕ)
answer_fields h ask post closes =
    (codes "visus-compression", codes "raw")
    ∷ (codes "visus-dtype", dtype_of h ask)
    ∷ (codes "visus-samples", decimal (answer_samples h ask))
    ∷ (codes "visus-post", decimal post)
    ∷ close_field closes

-- an answer: the samples
abbrev pub answer_reply : HeaderValue → Ask → ℕ → Bool → List ℕ → List ℕ
answer_reply h ask post closes samples = reply 200 (answer_fields h ask post closes) samples
