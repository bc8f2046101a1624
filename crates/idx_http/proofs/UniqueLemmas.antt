-- An input has one answer alone.
use Rattle.std.proofs.Common.{◌≡◌, ℕ, ◌<◌, ◌≤◌, List, [], ◌∷◌, ◌++◌, length, refl, sym, ap, subst, ◌∙◌, arith, inl, inr, length-append}
use Rattle.httparse.specs.Grammar.{RequestHead, print_blank, print_version, print_end, print_section, print_request, NeverHasRequest, MayBecomeRequest, EndsInTarget}
use Rattle.httparse.specs.Pieces.{Completes, BlankLines}
use Rattle.httparse.proofs.GrammarLemmas.{request_unique}
use Rattle.httparse.proofs.OpenLemmas.{line_blank, request_may_from_line}
use Rattle.idx_http.specs.Heads.{window, field_limit, Next, whole, bad, too_big, ended, cut, Begins, NextHead}

-- a head has at least one byte
length-print_request : (h : RequestHead) → 1 ≤ length (print_request h)
unfolding print_request
length-print_request h =
    let start = print_blank h.blank ++ h.method ++ 32 ∷ h.target ++ 32 ∷ print_version h.minor ++ print_end h.line_end in
    let front = print_blank h.blank ++ h.method in
    let next = front ++ 32 ∷ h.target in
    let last = next ++ 32 ∷ print_version h.minor in
    omega (arith, length-append front (32 ∷ h.target), length-append next (32 ∷ print_version h.minor), length-append last (print_end h.line_end), length-append start (print_section h.fields h.last))

-- no head stands in no bytes
begins_some : (s : List ℕ) (h : RequestHead) → s ≡ [] → Begins s h → ⊥
unfolding window
begins_some s h none b =
    let e : [] ≡ print_request h ++ b.rest = ap window (sym none) ∙ b.reads.1 in
    omega (arith, ap length e, length-append (print_request h) b.rest, length-print_request h)

-- some bytes make a head
some_head : MayBecomeRequest []
some_head =
    let blank : Completes BlankLines [] = record { more = []; tree = []; reads = λ rest. refl } in
    request_may_from_line (inl (line_blank blank))

closed_may : (t : List ℕ) → ¬ (EndsInTarget t) → NeverHasRequest t → MayBecomeRequest t → ⊥
closed_may t closed never (inl (more, h, reads)) = never more h [] reads
closed_may t closed never (inr ends) = closed ends

not_hopeless : (s : List ℕ) → s ≡ [] → NeverHasRequest (window s) → ¬ (EndsInTarget (window s)) → ⊥
unfolding window
not_hopeless s none never closed =
    closed_may [] (subst (λ (t : List ℕ). ¬ (EndsInTarget t)) (ap window none) closed) (subst NeverHasRequest (ap window none) never) some_head

same_head : (s : List ℕ) (h k : RequestHead) → Begins s h → Begins s k → h ≡ k
same_head s h k a b = (request_unique (window s) h k a.rest b.rest a.reads b.reads).0

few_many : (s : List ℕ) (h k : RequestHead) → Begins s h → length h.fields ≤ field_limit → Begins s k → field_limit < length k.fields → ⊥
few_many s h k a few b many = omega (arith, few, many, ap (λ (x : RequestHead). length x.fields) (same_head s h k a b))

-- a head is not any other answer
whole_apart : (s : List ℕ) (h : RequestHead) (b : Next) → NextHead s (whole h) → NextHead s b → whole h ≡ b
whole_apart s h (whole k) x y = ap whole (same_head s h k x.0 y.0)
whole_apart s h bad x y = absurd (y.none h x.0.rest x.0.reads)
whole_apart s h too_big x (inl (k, begins, many)) = absurd (few_many s h k x.0 x.1 begins many)
whole_apart s h too_big x (inr (front, full)) = absurd (front.none h x.0.rest x.0.reads)
whole_apart s h ended x y = absurd (begins_some s h y x.0)
whole_apart s h (cut kept) x y = absurd (y.0.none h x.0.rest x.0.reads)

bad_apart : (s : List ℕ) (b : Next) → ¬ (EndsInTarget (window s)) → NextHead s bad → NextHead s b → bad ≡ b
bad_apart s (whole k) closed x y = sym (whole_apart s k bad y x)
bad_apart s bad closed x y = refl
bad_apart s too_big closed x (inl (k, begins, many)) = absurd (x.none k begins.rest begins.reads)
bad_apart s too_big closed x (inr (front, full)) = absurd (closed_may (window s) closed x.never front.goes_on)
bad_apart s ended closed x y = absurd (not_hopeless s y x.never closed)
bad_apart s (cut kept) closed x y = absurd (closed_may (window s) closed x.never y.0.goes_on)

too_big_apart : (s : List ℕ) (b : Next) → ¬ (EndsInTarget (window s)) → NextHead s too_big → NextHead s b → too_big ≡ b
too_big_apart s (whole k) closed x y = sym (whole_apart s k too_big y x)
too_big_apart s bad closed x y = sym (bad_apart s too_big closed y x)
too_big_apart s too_big closed x y = refl
too_big_apart s ended closed (inl (k, begins, many)) y = absurd (begins_some s k y begins)
too_big_apart s ended closed (inr (front, full)) y = absurd (omega (arith, full, ap length y))
too_big_apart s (cut kept) closed (inl (k, begins, many)) y = absurd (y.0.none k begins.rest begins.reads)
too_big_apart s (cut kept) closed (inr (front, full)) y = absurd (omega (arith, full, y.2))

-- The answer to an input is one alone, but where the window ends inside the target.
pub NextHead_unique : (s : List ℕ) (a b : Next) → ¬ (EndsInTarget (window s)) → NextHead s a → NextHead s b → a ≡ b
NextHead_unique s (whole h) b closed x y = whole_apart s h b x y
NextHead_unique s bad b closed x y = bad_apart s b closed x y
NextHead_unique s too_big b closed x y = too_big_apart s b closed x y
NextHead_unique s ended (whole h) closed x y = sym (whole_apart s h ended y x)
NextHead_unique s ended bad closed x y = sym (bad_apart s ended closed y x)
NextHead_unique s ended too_big closed x y = sym (too_big_apart s ended closed y x)
NextHead_unique s ended ended closed x y = refl
NextHead_unique s ended (cut kept) closed x y = absurd (omega (arith, ap length x, y.1))
NextHead_unique s (cut kept) (whole h) closed x y = sym (whole_apart s h (cut kept) y x)
NextHead_unique s (cut kept) bad closed x y = sym (bad_apart s (cut kept) closed y x)
NextHead_unique s (cut kept) too_big closed x y = sym (too_big_apart s (cut kept) closed y x)
NextHead_unique s (cut kept) ended closed x y = absurd (omega (arith, ap length y, x.1))
NextHead_unique s (cut kept) (cut n) closed x y = ap cut (x.3 ∙ sym y.3)
