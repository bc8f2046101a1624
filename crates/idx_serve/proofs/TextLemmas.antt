-- The bytes of a reply with samples.
use Rattle.std.proofs.Common.{◌≡◌, ℕ, ◌+◌, ◌-◌, ◌*◌, ◌/◌, ◌≤◌, Bool, List, [], ◌++◌, length, drop, ap, ◌∙◌, arith}
use Rattle.std.proofs.lemmas.List.{length-drop}
use Rattle.std.proofs.lemmas.Nat.{div-mul-add}
use Rattle.idx_header.specs.Header.{HeaderValue}
use Rattle.idx_http.specs.Reply.{reply_head}
use Rattle.idx_plan.specs.declared.ask.Ask.{Ask}
use Rattle.idx_serve.specs.Texts.{answer_fields, answer_reply}

-- a head that stands for so many bytes, and the samples behind the room
pub answer_is : (h : HeaderValue) (ask : Ask) (post : ℕ) (closes : Bool) (samples head : List ℕ) (room bytes : ℕ) (fields : List (List ℕ × List ℕ))
    → bytes ≡ length samples - room → fields ≡ answer_fields h ask post closes → head ≡ [] ++ reply_head 200 bytes fields
    → head ++ drop room samples ≡ answer_reply h ask post closes (drop room samples)
answer_is h ask post closes samples head room bytes fields many is head_is =
    let long : bytes ≡ length (drop room samples) = omega (arith, length-drop room samples, many) in
    ap (λ (l : List ℕ). l ++ drop room samples) (head_is ∙ (λ i. reply_head 200 (long i) (is i)))

-- so many samples of so many bytes each stand behind the room
pub samples_behind : (room n size long by : ℕ) → 1 ≤ size → long ≡ room + n * size → by ≡ size → (long - room) / by ≡ n
samples_behind room n size long by some many is =
    let rest : long - room ≡ n * size + 0 = omega (arith, many) in
    (λ i. (rest i) / (is i)) ∙ div-mul-add n size 0 (omega (arith, some))
