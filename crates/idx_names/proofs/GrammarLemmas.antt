-- What a text has that spells pieces: the pieces' own text, and bytes that print.
use Rattle.std.proofs.Common.{◌≡◌, ℕ, zero, suc, ◌+◌, ◌-◌, ◌≤◌, Bool, true, false, eqb, List, [], ◌∷◌, ◌++◌, get_or, drop, Option, Some, None, option_and_then, refl, sym, ap, ◌∙◌, subst, arith, if◌then◌else◌}
use Rattle.std.specs.Prelude.{slice_index}
use Rattle.std.proofs.lemmas.Option.{same_Some}
use Rattle.std.proofs.lemmas.Bool.Decides.{nat_tests}
use Rattle.std.specs.List.{AllByRecursion}
use Rattle.idx_names.specs.declared.mark_kind.MarkKind.{MarkKind}
use Rattle.idx_names.specs.declared.mark_kind.MarkKind.TheVariants.{File, Step}
use Rattle.idx_names.specs.declared.piece.Piece.{Piece}
use Rattle.idx_names.specs.declared.piece.Piece.TheVariants.{Byte, Mark}
use Rattle.idx_names.specs.Pieces.{mark_letter, most_digits, is_plain, begins_mark, first_piece, bytes_behind, with_first, pieces_behind, piece_text, pieces_text}

-- what is true of either choice is true of the one that was made
pub chosen : (P : Piece → Type 0) (a b : Bool) (x y p : Piece) → (if a then Some x else if b then Some y else None) ≡ Some p →
    (a ≡ true → P x) → (b ≡ true → P y) → P p
chosen P true b x y p e f g = subst P (same_Some _ _ e) (f refl)
chosen P false true x y p e f g = subst P (same_Some _ _ e) (g refl)
chosen P false false x y p e f g = absurd (cc e)

pub record MarkStands (kind : MarkKind) (text : List ℕ) : Type 0 where
  pub sign : get_or text 0 0 ≡ 37
  pub nought : get_or text 1 0 ≡ 48
  pub least : 49 ≤ get_or text 2 0
  pub most : get_or text 2 0 ≤ 48 + most_digits kind
  pub letter : get_or text 3 0 ≡ mark_letter kind

pub mark_stands : (kind : MarkKind) (text : List ℕ) → begins_mark kind text ≡ true → MarkStands kind text
mark_stands kind text t = record {
  sign = grind (arith, nat_tests);
  nought = grind (arith, nat_tests);
  least = grind (arith, nat_tests);
  most = grind (arith, nat_tests);
  letter = grind (arith, nat_tests);
}

-- what is true of each piece within a part
abbrev pub IsInner : MarkKind → Piece → Type 0
IsInner kind (Byte b) = is_plain b ≡ true
IsInner kind (Mark digits) = (1 ≤ digits) × (digits ≤ most_digits kind)

first-IsInner : (kind : MarkKind) (text : List ℕ) (p : Piece) → first_piece kind text ≡ Some p → IsInner kind p
unfolding first_piece
first-IsInner kind text p e =
    chosen (IsInner kind) (is_plain (slice_index text 0)) (begins_mark kind text) (Byte (slice_index text 0)) (Mark (slice_index text 2 - 48)) p e
    (λ t. t)
    (λ t. let m = mark_stands kind text t in (omega (arith, m.least), omega (arith, m.most, m.least)))

pub letter_some : (kind : MarkKind) → 1 ≤ mark_letter kind
letter_some File = omega arith
letter_some Step = omega arith

mark-text : (kind : MarkKind) (b : ℕ) (text : List ℕ) → MarkStands kind (b ∷ text) →
    37 ∷ 48 ∷ (get_or text 1 0 - 48 + 48) ∷ mark_letter kind ∷ drop 3 text ≡ b ∷ text
mark-text kind b [] m = absurd (omega (arith, m.nought))
mark-text kind b (z ∷ []) m = absurd (omega (arith, m.least))
mark-text kind b (z ∷ n ∷ []) m = absurd (omega (arith, m.letter, letter_some kind))
mark-text kind b (z ∷ n ∷ x ∷ more) m =
    let sign : 37 ≡ b = sym m.sign in
    let nought : 48 ≡ z = sym m.nought in
    let digit : n - 48 + 48 ≡ n = omega (arith, m.least) in
    let letter : mark_letter kind ≡ x = sym m.letter in
    λ i. sign i ∷ nought i ∷ digit i ∷ letter i ∷ more

-- the piece's text and what is behind it are the text
first-text : (kind : MarkKind) (b : ℕ) (text : List ℕ) (p : Piece) → first_piece kind (b ∷ text) ≡ Some p →
    piece_text kind p ++ drop (bytes_behind p) text ≡ b ∷ text
unfolding first_piece
first-text kind b text p e =
    chosen (λ p. piece_text kind p ++ drop (bytes_behind p) text ≡ b ∷ text) (is_plain b) (begins_mark kind (b ∷ text))
    (Byte b) (Mark (slice_index text 1 - 48)) p e (λ t. refl) (λ t. mark-text kind b text (mark_stands kind (b ∷ text) t))

-- a list with a first element, and what it is made of
pub record Parted {A : Type 0} (first : Option A) (rest : A → Option (List A)) (all : List A) : Type 0 where
  pub head : A
  pub tail : List A
  pub first_is : first ≡ Some head
  pub rest_is : rest head ≡ Some tail
  pub all_is : head ∷ tail ≡ all

parted_rest : {A : Type 0} (rest : A → Option (List A)) (x : A) (o : Option (List A)) (all : List A) → rest x ≡ o →
    with_first x o ≡ Some all → Parted (Some x) rest all
parted_rest rest x None all is e = absurd (cc e)
parted_rest rest x (Some xs) all is e = record { head = x; tail = xs; first_is = refl; rest_is = is; all_is = same_Some _ _ e }

pub parted : {A : Type 0} (first : Option A) (rest : A → Option (List A)) (all : List A) →
    option_and_then (λ x. with_first x (rest x)) first ≡ Some all → Parted first rest all
parted None rest all e = absurd (cc e)
parted (Some x) rest all e = parted_rest rest x (rest x) all refl e

pub pieces-IsInner : (kind : MarkKind) (text : List ℕ) (skip : ℕ) (ps : List Piece) → pieces_behind kind text skip ≡ Some ps →
    AllByRecursion (IsInner kind) ps
unfolding pieces_behind
pieces-IsInner kind [] skip ps e = subst (AllByRecursion (IsInner kind)) (same_Some _ _ e) tt
pieces-IsInner kind (b ∷ text) (suc skip) ps e = pieces-IsInner kind text skip ps e
pieces-IsInner kind (b ∷ text) zero ps e =
    let m = parted (first_piece kind (b ∷ text)) (λ p. pieces_behind kind text (bytes_behind p)) ps e in
    subst (AllByRecursion (IsInner kind)) m.all_is
    (first-IsInner kind (b ∷ text) m.head m.first_is, pieces-IsInner kind text (bytes_behind m.head) m.tail m.rest_is)

-- a text is the text of the pieces that it spells
pub pieces-text : (kind : MarkKind) (text : List ℕ) (skip : ℕ) (ps : List Piece) → pieces_behind kind text skip ≡ Some ps →
    pieces_text kind ps ≡ drop skip text
unfolding pieces_behind pieces_text
pieces-text kind [] zero ps e = ap (pieces_text kind) (sym (same_Some _ _ e))
pieces-text kind [] (suc skip) ps e = ap (pieces_text kind) (sym (same_Some _ _ e))
pieces-text kind (b ∷ text) (suc skip) ps e = pieces-text kind text skip ps e
pieces-text kind (b ∷ text) zero ps e =
    let m = parted (first_piece kind (b ∷ text)) (λ p. pieces_behind kind text (bytes_behind p)) ps e in
    ap (pieces_text kind) (sym m.all_is)
    ∙ ap (λ t. piece_text kind m.head ++ t) (pieces-text kind text (bytes_behind m.head) m.tail m.rest_is)
    ∙ first-text kind b text m.head m.first_is

-- a byte that prints, other than the `/` between two parts
abbrev pub IsNameByte : ℕ → Type 0
IsNameByte b = (33 ≤ b) × (b ≤ 126) × (eqb b 47 ≡ false)

plain_prints : (b : ℕ) → is_plain b ≡ true → IsNameByte b
plain_prints b t =
    let low : 33 ≤ b = grind (arith, nat_tests) in
    let high : b ≤ 126 = grind (arith, nat_tests) in
    let other : eqb b 47 ≡ false = grind (arith, nat_tests) in (low, high, other)

pub All-both : {A : Type 0} (P : A → Type 0) (xs ys : List A) → AllByRecursion P xs → AllByRecursion P ys → AllByRecursion P (xs ++ ys)
All-both P [] ys h k = k
All-both P (x ∷ xs) ys h k = (h.0, All-both P xs ys h.1 k)

inner_prints : (kind : MarkKind) (p : Piece) → IsInner kind p → AllByRecursion IsNameByte (piece_text kind p)
inner_prints kind (Byte b) h = (plain_prints b h, tt)
inner_prints File (Mark d) h =
    let digit : eqb (d + 48) 47 ≡ false = grind (arith, nat_tests) in
    ((omega arith, omega arith, refl), ((omega arith, omega arith, refl), ((omega arith, omega arith, digit), ((omega arith, omega arith, refl), tt))))
inner_prints Step (Mark d) h =
    let digit : eqb (d + 48) 47 ≡ false = grind (arith, nat_tests) in
    ((omega arith, omega arith, refl), ((omega arith, omega arith, refl), ((omega arith, omega arith, digit), ((omega arith, omega arith, refl), tt))))

-- the text of a part has bytes that print, and no `/`
pub part_prints : (kind : MarkKind) (ps : List Piece) → AllByRecursion (IsInner kind) ps → AllByRecursion IsNameByte (pieces_text kind ps)
unfolding pieces_text
part_prints kind [] h = tt
part_prints kind (p ∷ ps) h = All-both IsNameByte (piece_text kind p) (pieces_text kind ps) (inner_prints kind p h.0) (part_prints kind ps h.1)
