-- Texts that a worked value names.
use Rattle.std.specs.Prelude.{ℕ, List, [], ◌∷◌, ◌++◌, codes}
use Rattle.std.specs.List.{flat_map}

-- lines, each ended by a carriage return and a line feed
abbrev pub lines_text : List (List ℕ) → List ℕ
lines_text lines = flat_map (λ line. line ++ 13 ∷ 10 ∷ []) lines

-- the fields of an answer of four samples behind its first two
abbrev pub answer_fields : List (List ℕ × List ℕ)
answer_fields =
    (codes "visus-compression", codes "raw") ∷ (codes "visus-dtype", codes "uint8")
    ∷ (codes "visus-samples", codes "4") ∷ (codes "visus-post", codes "0") ∷ []

-- the head of that answer
abbrev pub answer_head : List ℕ
answer_head =
    lines_text (codes "HTTP/1.1 200 OK"
    ∷ codes "Content-Type: application/octet-stream"
    ∷ codes "Content-Length: 4"
    ∷ codes "visus-compression: raw"
    ∷ codes "visus-dtype: uint8"
    ∷ codes "visus-samples: 4"
    ∷ codes "visus-post: 0"
    ∷ [] ∷ [])

-- a refusal of 13 bytes
abbrev pub refusal_head : List ℕ
refusal_head =
    lines_text (codes "HTTP/1.1 404 Not Found" ∷ codes "Content-Type: text/plain" ∷ codes "Content-Length: 13" ∷ [] ∷ [])
