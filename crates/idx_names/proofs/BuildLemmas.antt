-- Parts one after another, and the template that they make.
use Rattle.std.proofs.Common.{◌≡◌, ℕ, ◌+◌, ◌<◌, ◌≤◌, Bool, true, false, not, cond, ◌&&◌, ◌||◌, eqb, leb, List, [], ◌∷◌, ◌++◌, length, get_or, drop, map, Option, Some, None, option_and_then, refl, sym, ap, ◌∙◌, arith, append_assoc, append-nil, if◌then◌else◌}
use Rattle.std.proofs.lemmas.Bool.Decides.{nat_tests}
use Rattle.std.proofs.lemmas.List.{drop_more, drop_all}
use Rattle.std.proofs.Math.Bool.{and-false}
use Rattle.std.specs.Cmp.Lexicographic.{pointwise}
use Rattle.std.specs.List.{filter, list_all, slice_split}
use Rattle.idx_names.specs.declared.mark_kind.MarkKind.TheVariants.{File}
use Rattle.idx_names.specs.declared.piece.Piece.{Piece}
use Rattle.idx_names.specs.declared.piece.Piece.TheVariants.{Byte}
use Rattle.idx_names.specs.Pieces.{is_dots, pieces_of, part_of, pieces_text, mark_count, has_mark, with_first}
use Rattle.idx_names.specs.Template.{TemplateValue, all_parts, parts_of, above_marks, joined_behind, from_marks, with_marks, of_parts, template_of, IsTemplate}
use Rattle.idx_names.specs.Building.{more_pieces, more_above, AreOfParts}
use Rattle.idx_names.proofs.GrammarLemmas.{pieces-text}
use Rattle.idx_names.proofs.PartLemmas.{part_pieces}
use Rattle.idx_names.proofs.TemplateLemmas.{spelled}

-- the parts of these texts
abbrev pub parts_in : List (List ℕ) → Option (List (List Piece))
parts_in texts = all_parts (map (part_of File) (filter (λ part. not (is_dots 1 part)) texts))

abbrev pub slash : ℕ → Bool
slash b = eqb b 47

pub parts_in_all : (text : List ℕ) → parts_of text ≡ parts_in (slice_split slash text)
unfolding parts_of
parts_in_all text = refl

-- the parts so far, and those that are left
abbrev pub parts_behind : List (List Piece) → Option (List (List Piece)) → Option (List (List Piece))
parts_behind front rest = option_and_then (λ ps. Some (front ++ ps)) rest

-- the parts so far, and those of the texts from this place on
abbrev pub with_rest : List (List Piece) → List (List ℕ) → ℕ → Option (List (List Piece))
with_rest front texts at = parts_behind front (parts_in (drop at texts))

-- how far the reading has come
pub record ReadSoFar (text : List ℕ) (at : ℕ) (above : List ℕ) (pieces : List Piece) : Type 0 where
  pub parts : List (List Piece)
  pub above_is : above ≡ above_marks parts
  pub pieces_is : pieces ≡ from_marks parts
  pub rest : with_rest parts (slice_split slash text) at ≡ parts_of text

behind_nil : (rest : Option (List (List Piece))) → parts_behind [] rest ≡ rest
behind_nil None = refl
behind_nil (Some ps) = refl

behind_push : (front : List (List Piece)) (p : List Piece) (rest : Option (List (List Piece))) →
    parts_behind front (with_first p rest) ≡ parts_behind (front ++ p ∷ []) rest
behind_push front p None = refl
behind_push front p (Some ps) = ap Some (sym (append_assoc front (p ∷ []) ps))

pub read_start : (text : List ℕ) (above : List ℕ) (pieces : List Piece) → above ≡ [] → pieces ≡ [] → ReadSoFar text 0 above pieces
read_start text above pieces a p = record {
  parts = [];
  above_is = a;
  pieces_is = p;
  rest = behind_nil (parts_in (slice_split slash text)) ∙ sym (parts_in_all text);
}

pub read_end : (text : List ℕ) (at : ℕ) (above : List ℕ) (pieces : List Piece) (r : ReadSoFar text at above pieces) →
    length (slice_split slash text) ≤ at → parts_of text ≡ Some r.parts
read_end text at above pieces r all =
    sym r.rest ∙ ap (λ left. parts_behind r.parts (parts_in left)) (drop_all at (slice_split slash text) all) ∙ ap Some (append-nil r.parts)

joined_push : (d : List Piece) (ds : List (List Piece)) (p : List Piece) → joined_behind d (ds ++ p ∷ []) ≡ joined_behind d ds ++ Byte 47 ∷ p
joined_push d [] p = refl
joined_push d (e ∷ ds) p = ap (λ t. d ++ Byte 47 ∷ t) (joined_push e ds p) ∙ sym (append_assoc d (Byte 47 ∷ joined_behind e ds) (Byte 47 ∷ p))

joined_some : (d : List Piece) (ds : List (List Piece)) → 1 ≤ mark_count d → 1 ≤ length (joined_behind d ds)
joined_some [] ds some = absurd (omega arith)
joined_some (q ∷ qs) [] some = omega arith
joined_some (q ∷ qs) (e ∷ ds) some = omega arith

more_of_some : (ps part : List Piece) → 1 ≤ length ps → ps ++ Byte 47 ∷ part ≡ more_pieces ps part
more_of_some [] part some = absurd (omega arith)
more_of_some (q ∷ qs) part some = refl

above_of_some : (ps part : List Piece) → 1 ≤ length ps → more_above ps part ≡ []
above_of_some [] part some = absurd (omega arith)
above_of_some (q ∷ qs) part some = refl

pub from_push : (ds : List (List Piece)) (p : List Piece) → from_marks (ds ++ p ∷ []) ≡ more_pieces (from_marks ds) p
from_push [] p = refl
from_push (d ∷ ds) p = by (has_mark d) refl (from_push ds p)
  where
    by : (b : Bool) → has_mark d ≡ b → from_marks (ds ++ p ∷ []) ≡ more_pieces (from_marks ds) p →
        (if b then joined_behind d (ds ++ p ∷ []) else from_marks (ds ++ p ∷ [])) ≡ more_pieces (if b then joined_behind d ds else from_marks ds) p
    by true is rest =
        let some : 1 ≤ mark_count d = grind (arith, nat_tests) in
        joined_push d ds p ∙ more_of_some (joined_behind d ds) p (joined_some d ds some)
    by false is rest = rest

pub above_push : (ds : List (List Piece)) (p : List Piece) → above_marks (ds ++ p ∷ []) ≡ above_marks ds ++ more_above (from_marks ds) p
above_push [] p = refl
above_push (d ∷ ds) p = by (has_mark d) refl (above_push ds p)
  where
    by : (b : Bool) → has_mark d ≡ b → above_marks (ds ++ p ∷ []) ≡ above_marks ds ++ more_above (from_marks ds) p →
        (if b then [] else pieces_text File d ++ 47 ∷ above_marks (ds ++ p ∷ []))
        ≡ (if b then [] else pieces_text File d ++ 47 ∷ above_marks ds) ++ more_above (if b then joined_behind d ds else from_marks ds) p
    by true is rest =
        let some : 1 ≤ mark_count d = grind (arith, nat_tests) in
        sym (above_of_some (joined_behind d ds) p (joined_some d ds some))
    by false is rest =
        ap (λ t. pieces_text File d ++ 47 ∷ t) rest
        ∙ sym (append_assoc (pieces_text File d) (47 ∷ above_marks ds) (more_above (from_marks ds) p))

kept : (t : List ℕ) (ts : List (List ℕ)) (b : Bool) → is_dots 1 t ≡ b →
    parts_in (t ∷ ts) ≡ all_parts (map (part_of File) (cond (not b) (t ∷ filter (λ part. not (is_dots 1 part)) ts) (filter (λ part. not (is_dots 1 part)) ts)))
kept t ts b e = ap (λ b. all_parts (map (part_of File) (cond (not b) (t ∷ filter (λ part. not (is_dots 1 part)) ts) (filter (λ part. not (is_dots 1 part)) ts)))) e

module _ (text : List ℕ) (at : ℕ) (above : List ℕ) (pieces : List Piece) (r : ReadSoFar text at above pieces)
    (part : List ℕ) (inside : at < length (slice_split slash text)) (here : part ≡ get_or (slice_split slash text) at part) where
  texts : List (List ℕ)
  texts = slice_split slash text

  next : drop at (slice_split slash text) ≡ part ∷ drop (at + 1) (slice_split slash text)
  next = drop_more (slice_split slash text) at part inside ∙ ap (λ t. t ∷ drop (at + 1) (slice_split slash text)) (sym here)

  -- a single dot is passed over
  pub read_dot : is_dots 1 part ≡ true → ReadSoFar text (at + 1) above pieces
  read_dot dot = record {
    parts = r.parts;
    above_is = r.above_is;
    pieces_is = r.pieces_is;
    rest = sym (ap (λ left. parts_behind r.parts (parts_in left)) next ∙ ap (parts_behind r.parts) (kept part (drop (at + 1) (slice_split slash text)) true dot)) ∙ r.rest;
  }

  taken : is_dots 1 part ≡ false → with_rest r.parts (slice_split slash text) at
      ≡ parts_behind r.parts (option_and_then (λ ps. with_first ps (parts_in (drop (at + 1) (slice_split slash text)))) (part_of File part))
  taken other =
      ap (λ left. parts_behind r.parts (parts_in left)) next ∙ ap (parts_behind r.parts) (kept part (drop (at + 1) (slice_split slash text)) false other)

  -- where a part is refused, nothing is read
  pub read_none : is_dots 1 part ≡ false → part_of File part ≡ None → parts_of text ≡ None
  read_none other refused =
      sym r.rest ∙ taken other
      ∙ ap (λ o. parts_behind r.parts (option_and_then (λ ps. with_first ps (parts_in (drop (at + 1) (slice_split slash text)))) o)) refused

  -- one more part
  pub read_more : (ps : List Piece) (above' : List ℕ) (pieces' : List Piece) → is_dots 1 part ≡ false → part_of File part ≡ Some ps →
      above' ≡ above ++ more_above pieces ps → pieces' ≡ more_pieces pieces ps → ReadSoFar text (at + 1) above' pieces'
  read_more ps above' pieces' other reads a p = record {
    parts = r.parts ++ ps ∷ [];
    above_is = a ∙ ap (λ t. t ++ more_above pieces ps) r.above_is ∙ ap (λ q. above_marks r.parts ++ more_above q ps) r.pieces_is ∙ sym (above_push r.parts ps);
    pieces_is = p ∙ ap (λ q. more_pieces q ps) r.pieces_is ∙ sym (from_push r.parts ps);
    rest = sym (behind_push r.parts ps (parts_in (drop (at + 1) (slice_split slash text))))
        ∙ sym (taken other ∙ ap (λ o. parts_behind r.parts (option_and_then (λ ps. with_first ps (parts_in (drop (at + 1) (slice_split slash text)))) o)) reads)
        ∙ r.rest;
  }

-- dots, compared with the text
pub is_dot_by : (text : List ℕ) → pointwise eqb text (46 ∷ []) ≡ is_dots 1 text
is_dot_by [] = refl
is_dot_by (b ∷ []) = refl
is_dot_by (b ∷ d ∷ text) =
    let long : eqb (length (b ∷ d ∷ text)) 1 ≡ false = grind (arith, nat_tests) in
    and-false (eqb b 46) ∙ sym (ap (λ t. t && list_all (λ b. eqb b 46) (b ∷ d ∷ text)) long)

pub two_dots_by : (text : List ℕ) → pointwise eqb text (46 ∷ 46 ∷ []) ≡ is_dots 2 text
two_dots_by [] = refl
two_dots_by (b ∷ []) = and-false (eqb b 46)
two_dots_by (b ∷ d ∷ []) = refl
two_dots_by (b ∷ d ∷ e ∷ text) =
    let long : eqb (length (b ∷ d ∷ e ∷ text)) 2 ≡ false = grind (arith, nat_tests) in
    ap (λ t. eqb b 46 && t) (and-false (eqb d 46)) ∙ and-false (eqb b 46)
    ∙ sym (ap (λ t. t && list_all (λ b. eqb b 46) (b ∷ d ∷ e ∷ text)) long)

pub empty_by : (text : List ℕ) → eqb (length text) 0 ≡ is_dots 0 text
empty_by [] = refl
empty_by (b ∷ text) =
    let some : eqb (length (b ∷ text)) 0 ≡ false = grind (arith, nat_tests) in
    some ∙ sym (ap (λ t. t && list_all (λ b. eqb b 46) (b ∷ text)) some)

-- what a part spells, where it is not refused
pub part_refused : (text : List ℕ) → (is_dots 0 text || is_dots 2 text) ≡ true → part_of File text ≡ None
unfolding part_of
part_refused text e = ap (λ b. if b then None else pieces_of File text) e

pub part_kept : (text : List ℕ) → (is_dots 0 text || is_dots 2 text) ≡ false → part_of File text ≡ pieces_of File text
unfolding part_of
part_kept text e = ap (λ b. if b then None else pieces_of File text) e

-- the template of the parts that were read
pub value_read : (text : List ℕ) (parts : List (List Piece)) (above : List ℕ) (pieces : List Piece) → parts_of text ≡ Some parts →
    above ≡ above_marks parts → pieces ≡ from_marks parts → with_marks (record { above = above; pieces = pieces }) ≡ template_of text
unfolding template_of of_parts
value_read text parts above pieces e a p =
    ap with_marks (λ i. record { above = a i; pieces = p i }) ∙ sym (ap (option_and_then of_parts) e)

pub none_read : (text : List ℕ) → parts_of text ≡ None → template_of text ≡ None
unfolding template_of
none_read text e = ap (option_and_then of_parts) e

pub enough_marks : (above : List ℕ) (pieces : List Piece) → 1 ≤ mark_count pieces → mark_count pieces ≤ 5 →
    with_marks (record { above = above; pieces = pieces }) ≡ Some (record { above = above; pieces = pieces })
enough_marks above pieces some few =
    let t : TemplateValue = record { above = above; pieces = pieces } in
    let test : (leb 1 (mark_count pieces) && leb (mark_count pieces) 5) ≡ true = grind (arith, nat_tests) in
    ap (λ b. if b then Some t else None) test

pub is_template : (above : List ℕ) (pieces : List Piece) → AreOfParts above pieces → 1 ≤ mark_count pieces → mark_count pieces ≤ 5 →
    IsTemplate (record { above = above; pieces = pieces })
is_template above pieces h some few =
    spelled h.text (record { above = above; pieces = pieces })
    (sym (value_read h.text h.parts above pieces h.spelled h.above_is h.pieces_is) ∙ enough_marks above pieces some few)

pub text_of_part : (part : List ℕ) (ps : List Piece) → part_of File part ≡ Some ps → pieces_text File ps ≡ part
text_of_part part ps e = pieces-text File part 0 ps (part_pieces File part ps e)
