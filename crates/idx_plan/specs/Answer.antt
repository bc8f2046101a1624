-- The answer to a question out of the blocks of a step.
use Rattle.std.specs.Prelude.{ℕ, List}
use Rattle.idx_hz.specs.Answer.{answer}
use Rattle.idx_header.specs.Header.{HeaderValue}
use Rattle.idx_layout.specs.Content.{field_in}
use Rattle.idx_layout.specs.OfHeader.{placing_of}
use Rattle.idx_plan.specs.declared.ask.Ask.{Ask}

-- the answer: the samples, in row-major order, of the region's points whose level is asked for, of the volume that the blocks
-- make; `content` gives the bytes of the block of a field and a number
abbrev pub answer_of : HeaderValue → Ask → (ℕ → ℕ → List ℕ) → List ℕ
answer_of h ask content =
    answer h.mask h.box (field_in (placing_of h) content ask.field) ask.region ask.lo ask.hi
