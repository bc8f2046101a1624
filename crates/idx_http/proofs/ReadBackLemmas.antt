-- The head of a reply is read back as HTTP has it.
use Rattle.std.proofs.Common.{◌≡◌, ℕ, ◌^◌, ◌<◌, Bool, true, false, ◌&&◌, ◌||◌, List, [], ◌∷◌, ◌++◌, length, map, All, refl, sym, ap, subst, ◌∙◌, arith, append_assoc}
use Rattle.std.proofs.lemmas.Bool.{eqb-true}
use Rattle.std.specs.Prelude.{◌==◌, codes}
use Rattle.std.specs.Char.{is_ascii_digit}
use Rattle.std.specs.Fmt.{decimal, digits}
use Rattle.std.specs.List.{flat_map, list_all, list_any}
use Rattle.std.proofs.lemmas.Bool.Decides.{nat_tests}
use Rattle.std.proofs.lemmas.List.Elements.{All-cons, All-nil, All-head, All-tail}
use Rattle.httparse.specs.Grammar.{is_token_byte, is_value_byte, AllPass, IsField, print_field, print_response, IsResponseHead, ReadsResponse}
use Rattle.idx_text.specs.Number.{is_digit}
use Rattle.idx_text.proofs.NumberLemmas.{spelled}
use Rattle.idx_http.specs.AsRead.{IsExtra, field_of, fields_of, head_value}
use Rattle.idx_http.specs.Reply.{reply_statuses, is_reply_status, reason, media_type, line, status_line, field_line, field_lines, reply_head, reply}

-- ---- the bytes

line_is : (e : List ℕ × List ℕ) → print_field (field_of e) ≡ field_line e.0 e.1
unfolding field_line line
line_is e = ap (λ (t : List ℕ). t ++ 13 ∷ 10 ∷ []) (sym (append_assoc e.0 (58 ∷ 32 ∷ []) e.1))

lines_are : (es : List (List ℕ × List ℕ)) → flat_map print_field (map field_of es) ≡ field_lines es
lines_are [] = refl
lines_are (e ∷ es) = λ i. line_is e i ++ lines_are es i

regroup : (s a b f e : List ℕ) → s ++ a ++ b ++ f ++ e ≡ s ++ ((a ++ (b ++ f)) ++ e)
regroup s a b f e =
    ap (λ (t : List ℕ). t ++ e) (append_assoc (s ++ a) b f ∙ append_assoc s a (b ++ f)) ∙ append_assoc s (a ++ (b ++ f)) e

written : (status bytes : ℕ) (extras : List (List ℕ × List ℕ)) → reply_head status bytes extras ≡ print_response (head_value status bytes extras)
unfolding reply_head status_line line print_response
written status bytes extras =
    regroup (status_line status) (field_line (codes "Content-Type") (media_type status)) (field_line (codes "Content-Length") (decimal bytes)) (field_lines extras) (13 ∷ 10 ∷ [])
    ∙ ap (λ (t : List ℕ). status_line status ++ (t ++ 13 ∷ 10 ∷ [])) (sym (lines_are (fields_of status bytes extras)))

-- ---- what may stand in a head

all_pass : (test : ℕ → Bool) (bs : List ℕ) → list_all test bs ≡ true → AllPass test bs
all_pass test [] h = All-nil (λ b. test b ≡ true)
all_pass test (b ∷ bs) h =
    let here : test b ≡ true = grind arith in
    let rest : list_all test bs ≡ true = grind arith in
    All-cons (λ c. test c ≡ true) b bs here (all_pass test bs rest)

digit_stands : (b : ℕ) → is_digit b ≡ true → is_value_byte b ≡ true
digit_stands b h = grind (arith, nat_tests)

digits_stand : (bs : List ℕ) → list_all is_digit bs ≡ true → AllPass is_value_byte bs
digits_stand [] h = All-nil (λ b. is_value_byte b ≡ true)
digits_stand (b ∷ bs) h =
    let here : is_digit b ≡ true = grind arith in
    let rest : list_all is_digit bs ≡ true = grind arith in
    All-cons (λ c. is_value_byte c ≡ true) b bs (digit_stands b here) (digits_stand bs rest)

and_left : (a b : Bool) → (a && b) ≡ true → a ≡ true
and_left true b h = refl
and_left false b h = h

and_right : (a b : Bool) → (a && b) ≡ true → b ≡ true
and_right true b h = h
and_right false b h = absurd (cc)

-- what a status gives to a head may stand there
abbrev is_sound : ℕ → Bool
is_sound status =
    (length (decimal status) == 3) && (list_all is_ascii_digit (decimal status)
    && (list_all is_value_byte (reason status) && list_all is_value_byte (media_type status)))

all_sound : list_all is_sound reply_statuses ≡ true
unfolding digits reason
all_sound = refl

pick : (test : ℕ → Bool) (n m : ℕ) (same more : Bool) → (n == m) ≡ same → test m ≡ true → (more ≡ true → test n ≡ true) → (same || more) ≡ true
    → test n ≡ true
pick test n m true more e here rest h = subst (λ (k : ℕ). test k ≡ true) (sym (eqb-true n m e)) here
pick test n m false more e here rest h = rest h

-- what holds of each of some numbers holds of one of them
one_of : (test : ℕ → Bool) (n : ℕ) (ns : List ℕ) → list_all test ns ≡ true → list_any (λ m. n == m) ns ≡ true → test n ≡ true
one_of test n [] all any = absurd (cc)
one_of test n (m ∷ ns) all any =
    let here : test m ≡ true = and_left (test m) (list_all test ns) all in
    let rest : list_all test ns ≡ true = and_right (test m) (list_all test ns) all in
    pick test n m (n == m) (list_any (λ k. n == k) ns) refl here (one_of test n ns rest) any

field_is : (e : List ℕ × List ℕ) → IsExtra e → IsField (field_of e)
field_is e is = record { name = is.name; raw = All-cons (λ b. is_value_byte b ≡ true) 32 e.1 refl is.value }

fields_are : (es : List (List ℕ × List ℕ)) → All IsExtra es → All IsField (map field_of es)
fields_are [] all = All-nil IsField
fields_are (e ∷ es) all =
    All-cons IsField (field_of e) (map field_of es) (field_is e (All-head IsExtra e es all)) (fields_are es (All-tail IsExtra e es all))

type_stands : (status : ℕ) → list_all is_value_byte (media_type status) ≡ true → IsExtra (codes "Content-Type", media_type status)
unfolding is_token_byte
type_stands status h = record {
  name = (omega arith, all_pass is_token_byte (codes "Content-Type") refl);
  value = all_pass is_value_byte (media_type status) h;
}

length_stands : (bytes : ℕ) → bytes < 2 ^ 64 → IsExtra (codes "Content-Length", decimal bytes)
unfolding is_token_byte
length_stands bytes small = record {
  name = (omega arith, all_pass is_token_byte (codes "Content-Length") refl);
  value = digits_stand (decimal bytes) (spelled bytes small).digits;
}

head_stands : (status bytes : ℕ) (extras : List (List ℕ × List ℕ)) → is_sound status ≡ true → bytes < 2 ^ 64 → All IsExtra extras
    → IsResponseHead (head_value status bytes extras)
head_stands status bytes extras sound small all =
    let three = length (decimal status) == 3 in
    let numbers = list_all is_ascii_digit (decimal status) in
    let phrase = list_all is_value_byte (reason status) in
    let type = list_all is_value_byte (media_type status) in
    let behind = and_right three (numbers && (phrase && type)) sound in
    let last = and_right numbers (phrase && type) behind in
    let type_field : List ℕ × List ℕ = (codes "Content-Type", media_type status) in
    let length_field : List ℕ × List ℕ = (codes "Content-Length", decimal bytes) in
    record {
      minor = omega arith;
      digits = (
        eqb-true (length (decimal status)) 3 (and_left three (numbers && (phrase && type)) sound),
        all_pass is_ascii_digit (decimal status) (and_left numbers (phrase && type) behind),
      );
      reason = all_pass is_value_byte (reason status) (and_left phrase type last);
      fields = fields_are (fields_of status bytes extras) (All-cons IsExtra type_field (length_field ∷ extras)
          (type_stands status (and_right phrase type last)) (All-cons IsExtra length_field extras (length_stands bytes small) all));
    }

pub read_back : (status : ℕ) (extras : List (List ℕ × List ℕ)) (body : List ℕ) → is_reply_status status ≡ true → length body < 2 ^ 64 → All IsExtra extras
    → ReadsResponse (reply status extras body) (head_value status (length body) extras) body
read_back status extras body one small all =
    let sound = one_of is_sound status reply_statuses all_sound one in
    (head_stands status (length body) extras sound small all, ap (λ (t : List ℕ). t ++ body) (written status (length body) extras))
