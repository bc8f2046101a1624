-- The piece that a text begins with, by its first bytes.
use Rattle.std.proofs.Common.{◌≡◌, ℕ, zero, suc, ◌+◌, ◌-◌, ◌<◌, ◌≤◌, Bool, true, false, List, [], ◌∷◌, ◌++◌, length, get_or, drop, Option, Some, None, IfSome, MatchOption, option_and_then, refl, sym, ap, ◌∙◌, subst, arith, append_assoc, append-nil, if◌then◌else◌}
use Rattle.std.proofs.lemmas.Bool.Decides.{nat_tests}
use Rattle.idx_names.specs.declared.mark_kind.MarkKind.{MarkKind}
use Rattle.idx_names.specs.declared.piece.Piece.{Piece}
use Rattle.idx_names.specs.declared.piece.Piece.TheVariants.{Byte, Mark}
use Rattle.idx_names.specs.Pieces.{is_plain, begins_mark, first_piece, bytes_behind, with_first, pieces_behind, pieces_of}
use Rattle.idx_names.proofs.GrammarLemmas.{MarkStands, chosen, mark_stands, letter_some}

choice_first : {A : Type 0} (a b : Bool) (x y z : A) → a ≡ true → (if a then x else if b then y else z) ≡ x
choice_first true b x y z e = refl
choice_first false b x y z e = absurd (cc e)

choice_second : {A : Type 0} (a b : Bool) (x y z : A) → a ≡ false → b ≡ true → (if a then x else if b then y else z) ≡ y
choice_second true b x y z e f = absurd (cc e)
choice_second false true x y z e f = refl
choice_second false false x y z e f = absurd (cc f)

choice_last : {A : Type 0} (a b : Bool) (x y z : A) → a ≡ false → (b ≡ true → ⊥) → (if a then x else if b then y else z) ≡ z
choice_last true b x y z e f = absurd (cc e)
choice_last false true x y z e f = absurd (f refl)
choice_last false false x y z e f = refl

pub plain_first : (kind : MarkKind) (text : List ℕ) → is_plain (get_or text 0 0) ≡ true → first_piece kind text ≡ Some (Byte (get_or text 0 0))
unfolding first_piece
plain_first kind text plain = choice_first (is_plain (get_or text 0 0)) (begins_mark kind text) _ _ _ plain

pub mark_first : (kind : MarkKind) (text : List ℕ) → is_plain (get_or text 0 0) ≡ false → MarkStands kind text →
    first_piece kind text ≡ Some (Mark (get_or text 2 0 - 48))
unfolding first_piece
mark_first kind text plain m =
    let sign = m.sign in
    let nought = m.nought in
    let least = m.least in
    let most = m.most in
    let letter = m.letter in
    let begins : begins_mark kind text ≡ true = grind (arith, nat_tests) in
    choice_second (is_plain (get_or text 0 0)) (begins_mark kind text) _ _ _ plain begins

pub none_first : (kind : MarkKind) (text : List ℕ) → is_plain (get_or text 0 0) ≡ false → (MarkStands kind text → ⊥) → first_piece kind text ≡ None
unfolding first_piece
none_first kind text plain other =
    choice_last (is_plain (get_or text 0 0)) (begins_mark kind text) _ _ _ plain (λ b. other (mark_stands kind text b))

pub empty_first : (kind : MarkKind) (text : List ℕ) → length text < 1 → first_piece kind text ≡ None
empty_first kind [] short = none_first kind [] refl (λ m. absurd (omega (arith, m.sign)))
empty_first kind (b ∷ text) short = absurd (omega arith)

-- a text of fewer than four bytes begins with no mark
pub short_first : (kind : MarkKind) (text : List ℕ) → is_plain (get_or text 0 0) ≡ false → length text < 4 → first_piece kind text ≡ None
short_first kind text plain short = none_first kind text plain (λ m. absurd (no_letter text short m))
  where
    no_letter : (text : List ℕ) → length text < 4 → MarkStands kind text → ⊥
    no_letter [] short m = absurd (omega (arith, m.sign))
    no_letter (a ∷ []) short m = absurd (omega (arith, m.nought))
    no_letter (a ∷ b ∷ []) short m = absurd (omega (arith, m.least))
    no_letter (a ∷ b ∷ d ∷ []) short m = absurd (omega (arith, m.letter, letter_some kind))
    no_letter (a ∷ b ∷ d ∷ e ∷ more) short m = absurd (omega arith)

-- only the first four bytes count
pub four_bytes : (kind : MarkKind) (text : List ℕ) → get_or text 0 0 ≡ 37 → get_or text 1 0 ≡ 48 →
    first_piece kind (37 ∷ 48 ∷ get_or text 2 0 ∷ get_or text 3 0 ∷ []) ≡ first_piece kind text
unfolding first_piece
four_bytes kind text sign nought =
    ap (λ a. first_piece kind (a ∷ 48 ∷ get_or text 2 0 ∷ get_or text 3 0 ∷ [])) (sym sign)
    ∙ ap (λ b. first_piece kind (get_or text 0 0 ∷ b ∷ get_or text 2 0 ∷ get_or text 3 0 ∷ [])) (sym nought)

-- bytes of a piece before it are passed over
pub behind_skipped : (kind : MarkKind) (text : List ℕ) (skip : ℕ) → pieces_behind kind text skip ≡ pieces_of kind (drop skip text)
unfolding pieces_behind
behind_skipped kind [] zero = refl
behind_skipped kind [] (suc skip) = refl
behind_skipped kind (b ∷ text) zero = refl
behind_skipped kind (b ∷ text) (suc skip) = behind_skipped kind text skip

-- the pieces so far, and those that are left
abbrev pub behind : List Piece → Option (List Piece) → Option (List Piece)
behind front rest = option_and_then (λ ps. Some (front ++ ps)) rest

behind_push : (front : List Piece) (p : Piece) (rest : Option (List Piece)) → behind front (with_first p rest) ≡ behind (front ++ p ∷ []) rest
behind_push front p None = refl
behind_push front p (Some ps) = ap Some (sym (append_assoc front (p ∷ []) ps))

pieces_cons : (kind : MarkKind) (b : ℕ) (text : List ℕ) (p : Piece) → first_piece kind (b ∷ text) ≡ Some p →
    pieces_of kind (b ∷ text) ≡ with_first p (pieces_behind kind text (bytes_behind p))
unfolding pieces_behind
pieces_cons kind b text p e = ap (option_and_then (λ piece. with_first piece (pieces_behind kind text (bytes_behind piece)))) e

-- one more piece goes to the front
pub one_more : (kind : MarkKind) (front : List Piece) (rest : List ℕ) (p : Piece) → 0 < length rest → first_piece kind rest ≡ Some p →
    behind front (pieces_of kind rest) ≡ behind (front ++ p ∷ []) (pieces_of kind (drop (bytes_behind p + 1) rest))
one_more kind front [] p some e = absurd (omega arith)
one_more kind front (b ∷ text) p some e =
    ap (behind front) (pieces_cons kind b text p e) ∙ behind_push front p (pieces_behind kind text (bytes_behind p))
    ∙ ap (behind (front ++ p ∷ [])) (behind_skipped kind text (bytes_behind p)) ∙ ap (λ t. behind (front ++ p ∷ []) (pieces_of kind t)) (up p)
  where
    up : (p : Piece) → drop (bytes_behind p) text ≡ drop (bytes_behind p + 1) (b ∷ text)
    up (Byte a) = refl
    up (Mark d) = refl

-- where no piece stands, nothing is read
pub no_more : (kind : MarkKind) (front : List Piece) (rest : List ℕ) → 0 < length rest → first_piece kind rest ≡ None →
    behind front (pieces_of kind rest) ≡ None
unfolding pieces_behind
no_more kind front [] some e = absurd (omega arith)
no_more kind front (b ∷ text) some e =
    ap (λ o. behind front (option_and_then (λ piece. with_first piece (pieces_behind kind text (bytes_behind piece))) o)) e

-- at the end the pieces so far are all
pub all_read : (kind : MarkKind) (front : List Piece) (rest : List ℕ) → length rest ≡ 0 → behind front (pieces_of kind rest) ≡ Some front
unfolding pieces_behind
all_read kind front [] e = ap Some (append-nil front)
all_read kind front (b ∷ rest) e = absurd (omega arith)

pub at_start : (o : Option (List Piece)) → behind [] o ≡ o
at_start None = refl
at_start (Some ps) = refl

-- a piece that was read stands in the text
pub piece_within : (kind : MarkKind) (text : List ℕ) (p : Piece) → first_piece kind text ≡ Some p → bytes_behind p + 1 ≤ length text
unfolding first_piece
piece_within kind text p e =
    chosen (λ p. bytes_behind p + 1 ≤ length text) (is_plain (get_or text 0 0)) (begins_mark kind text)
    (Byte (get_or text 0 0)) (Mark (get_or text 2 0 - 48)) p e (plain_within text) (λ b. mark_within text (mark_stands kind text b))
  where
    plain_within : (text : List ℕ) → is_plain (get_or text 0 0) ≡ true → 1 ≤ length text
    plain_within [] t = absurd (cc t)
    plain_within (b ∷ text) t = omega arith

    mark_within : (text : List ℕ) → MarkStands kind text → 4 ≤ length text
    mark_within [] m = absurd (omega (arith, m.sign))
    mark_within (a ∷ []) m = absurd (omega (arith, m.nought))
    mark_within (a ∷ b ∷ []) m = absurd (omega (arith, m.least))
    mark_within (a ∷ b ∷ d ∷ []) m = absurd (omega (arith, m.letter, letter_some kind))
    mark_within (a ∷ b ∷ d ∷ e ∷ more) m = omega arith

pub result_within : (kind : MarkKind) (text : List ℕ) (o : Option Piece) → o ≡ first_piece kind text →
    IfSome o (λ p. bytes_behind p + 1 ≤ length text)
result_within kind text None e = tt
result_within kind text (Some p) e = piece_within kind text p (sym e)

-- what is known of each choice, at the one that was made
pub got_some : {A : Type 0} (o : Option A) (a : A) (P : Type 0) (Q : A → Type 0) → o ≡ Some a → MatchOption o P Q → Q a
got_some {A} o a P Q e h = subst (λ (x : Option A). MatchOption x P Q) e h

pub got_none : {A : Type 0} (o : Option A) (P : Type 0) (Q : A → Type 0) → o ≡ None → MatchOption o P Q → P
got_none {A} o P Q e h = subst (λ (x : Option A). MatchOption x P Q) e h
