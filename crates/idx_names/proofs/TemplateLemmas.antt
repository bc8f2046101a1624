-- Templates: what each of them is made of, and its text read again.
use Rattle.std.proofs.Common.{◌≡◌, ℕ, ◌*◌, ◌≤◌, Bool, true, false, ◌&&◌, ◌||◌, eqb, leb, List, [], ◌∷◌, ◌++◌, Option, Some, None, option_and_then, refl, sym, ap, ◌∙◌, subst, arith, if◌then◌else◌}
use Rattle.std.proofs.lemmas.Option.{same_Some}
use Rattle.std.proofs.lemmas.Bool.Decides.{nat_tests}
use Rattle.std.specs.List.{AllByRecursion}
use Rattle.idx_names.specs.declared.mark_kind.MarkKind.{MarkKind}
use Rattle.idx_names.specs.declared.mark_kind.MarkKind.TheVariants.{File}
use Rattle.idx_names.specs.declared.piece.Piece.{Piece}
use Rattle.idx_names.specs.declared.piece.Piece.TheVariants.{Byte, Mark}
use Rattle.idx_names.specs.Pieces.{is_plain, pieces_text, part_of, bits_of, mark_count, has_mark, IsPiece, IsWordByte}
use Rattle.idx_names.specs.Template.{TemplateValue, parts_of, above_marks, joined_behind, from_marks, of_parts, template_of, template_text, IsTemplate}
use Rattle.idx_names.proofs.GrammarLemmas.{IsInner, IsNameByte, All-both, part_prints}
use Rattle.idx_names.proofs.PartLemmas.{GoodPart, good-inner, parts-good, parts_again, joined_text, text_of_parts}

-- a template by its first part and the others
pub record Made (t : TemplateValue) : Type 0 where
  pub first : List Piece
  pub others : List (List Piece)
  pub good : AllByRecursion GoodPart (first ∷ others)
  pub made : of_parts (first ∷ others) ≡ Some t
  pub above : above_marks (first ∷ others) ≡ t.above
  pub pieces : from_marks (first ∷ others) ≡ t.pieces
  pub some : 1 ≤ mark_count t.pieces
  pub few : mark_count t.pieces ≤ 5

record Counted (above : List ℕ) (pieces : List Piece) (t : TemplateValue) : Type 0 where
  above_is : above ≡ t.above
  pieces_is : pieces ≡ t.pieces
  some : 1 ≤ mark_count pieces
  few : mark_count pieces ≤ 5

counted_by : (b : Bool) (above : List ℕ) (pieces : List Piece) (t : TemplateValue) →
    b ≡ (leb 1 (mark_count pieces) && leb (mark_count pieces) 5) →
    (if b then Some (record { above = above; pieces = pieces }) else None) ≡ Some t → Counted above pieces t
counted_by false above pieces t is e = absurd (cc e)
counted_by true above pieces t is e =
    let same = same_Some _ _ e in record {
      above_is = ap (λ (v : TemplateValue). v.above) same;
      pieces_is = ap (λ (v : TemplateValue). v.pieces) same;
      some = grind (arith, nat_tests);
      few = grind (arith, nat_tests);
    }

counted : (parts : List (List Piece)) (t : TemplateValue) → of_parts parts ≡ Some t → Counted (above_marks parts) (from_marks parts) t
unfolding of_parts
counted parts t e = counted_by _ (above_marks parts) (from_marks parts) t refl e

made_of : (parts : List (List Piece)) (t : TemplateValue) → AllByRecursion GoodPart parts → of_parts parts ≡ Some t →
    Counted (above_marks parts) (from_marks parts) t → Made t
made_of [] t good e c = absurd (omega (arith, c.some))
made_of (p ∷ ps) t good e c = record {
  first = p;
  others = ps;
  good = good;
  made = e;
  above = c.above_is;
  pieces = c.pieces_is;
  some = subst (λ (pieces : List Piece). 1 ≤ mark_count pieces) c.pieces_is c.some;
  few = subst (λ (pieces : List Piece). mark_count pieces ≤ 5) c.pieces_is c.few;
}

some_parts : (text : List ℕ) (t : TemplateValue) (o : Option (List (List Piece))) → parts_of text ≡ o → option_and_then of_parts o ≡ Some t → Made t
some_parts text t None is e = absurd (cc e)
some_parts text t (Some parts) is e = made_of parts t (parts-good text parts is) e (counted parts t e)

pub made_by : (text : List ℕ) (t : TemplateValue) → template_of text ≡ Some t → Made t
unfolding template_of
made_by text t e = some_parts text t (parts_of text) refl e

pub text_is : (t : TemplateValue) (m : Made t) → template_text t ≡ joined_text m.first m.others
unfolding template_text
text_is t m =
    let some : 1 ≤ mark_count (from_marks (m.first ∷ m.others)) = subst (λ (pieces : List Piece). 1 ≤ mark_count pieces) (sym m.pieces) m.some in
    ap (λ above. above ++ pieces_text File t.pieces) (sym m.above)
    ∙ ap (λ pieces. above_marks (m.first ∷ m.others) ++ pieces_text File pieces) (sym m.pieces)
    ∙ text_of_parts m.first m.others some

-- a template's text spells its parts
parts_read : (t : TemplateValue) (m : Made t) → parts_of (template_text t) ≡ Some (m.first ∷ m.others)
parts_read t m = ap parts_of (text_is t m) ∙ parts_again m.first m.others m.good

pub read_again : (t : TemplateValue) → Made t → template_of (template_text t) ≡ Some t
unfolding template_of
read_again t m = ap (option_and_then of_parts) (parts_read t m) ∙ m.made

dot_dropped : (text : List ℕ) → parts_of (46 ∷ 47 ∷ text) ≡ parts_of text
unfolding parts_of
dot_dropped text = refl

pub dot_read_again : (t : TemplateValue) → Made t → template_of (46 ∷ 47 ∷ template_text t) ≡ Some t
unfolding template_of
dot_read_again t m = ap (option_and_then of_parts) (dot_dropped (template_text t) ∙ parts_read t m) ∙ m.made

-- what a text spells is a template
pub spelled : (text : List ℕ) (t : TemplateValue) → template_of text ≡ Some t → IsTemplate t
unfolding IsTemplate
spelled text t e = read_again t (made_by text t e)

pub made : (t : TemplateValue) → IsTemplate t → Made t
unfolding IsTemplate
made t e = made_by (template_text t) t e

plain_or : (b : ℕ) → is_plain b ≡ true → (is_plain b || eqb b 47) ≡ true
plain_or b t = ap (λ a. a || eqb b 47) t

pub inner_is : (kind : MarkKind) (ps : List Piece) → AllByRecursion (IsInner kind) ps → AllByRecursion (IsPiece kind) ps
inner_is kind [] h = tt
inner_is kind (Byte b ∷ ps) h = (plain_or b h.0, inner_is kind ps h.1)
inner_is kind (Mark d ∷ ps) h = (h.0, inner_is kind ps h.1)

slash_is : IsPiece File (Byte 47)
slash_is = refl

joined_are : (p : List Piece) (ps : List (List Piece)) → AllByRecursion GoodPart (p ∷ ps) → AllByRecursion (IsPiece File) (joined_behind p ps)
joined_are p [] h = inner_is File p (good-inner p h.0)
joined_are p (next ∷ ps) h =
    All-both (IsPiece File) p (Byte 47 ∷ joined_behind next ps) (inner_is File p (good-inner p h.0)) (slash_is, joined_are next ps h.1)

marked_are : (b : Bool) (p : List Piece) (ps : List (List Piece)) → AllByRecursion GoodPart (p ∷ ps) →
    AllByRecursion (IsPiece File) (from_marks ps) → AllByRecursion (IsPiece File) (if b then joined_behind p ps else from_marks ps)
marked_are true p ps h k = joined_are p ps h
marked_are false p ps h k = k

from_are : (parts : List (List Piece)) → AllByRecursion GoodPart parts → AllByRecursion (IsPiece File) (from_marks parts)
from_are [] h = tt
from_are (p ∷ ps) h = marked_are (has_mark p) p ps h (from_are ps h.1)

pub pieces_are : (t : TemplateValue) → Made t → AllByRecursion (IsPiece File) t.pieces
pieces_are t m = subst (AllByRecursion (IsPiece File)) m.pieces (from_are (m.first ∷ m.others) m.good)

-- a mark takes at most 32 bits
bits_by_marks : (ps : List Piece) → AllByRecursion (IsPiece File) ps → bits_of ps ≤ 32 * mark_count ps
bits_by_marks [] h = omega arith
bits_by_marks (Byte b ∷ ps) h = let rest = bits_by_marks ps h.1 in omega (arith, rest)
bits_by_marks (Mark d ∷ ps) h = let rest = bits_by_marks ps h.1 in omega (arith, rest, h.0.1)

pub few_bits : (t : TemplateValue) → Made t → bits_of t.pieces ≤ 160
few_bits t m = omega (arith, bits_by_marks t.pieces (pieces_are t m), m.few)

-- all bytes of a template's text print
word_bytes : (bs : List ℕ) → AllByRecursion IsNameByte bs → AllByRecursion IsWordByte bs
word_bytes [] h = tt
word_bytes (b ∷ bs) h = ((h.0.0, h.0.1), word_bytes bs h.1)

pub part_words : (kind : MarkKind) (ps : List Piece) → AllByRecursion (IsInner kind) ps → AllByRecursion IsWordByte (pieces_text kind ps)
part_words kind ps h = word_bytes (pieces_text kind ps) (part_prints kind ps h)

joined_prints : (p : List Piece) (ps : List (List Piece)) → AllByRecursion GoodPart (p ∷ ps) → AllByRecursion IsWordByte (joined_text p ps)
joined_prints p [] h = part_words File p (good-inner p h.0)
joined_prints p (next ∷ ps) h =
    All-both IsWordByte (pieces_text File p) (47 ∷ joined_text next ps) (part_words File p (good-inner p h.0))
    ((omega arith, omega arith), joined_prints next ps h.1)

pub text_prints : (t : TemplateValue) → Made t → AllByRecursion IsWordByte (template_text t)
text_prints t m = subst (AllByRecursion IsWordByte) (sym (text_is t m)) (joined_prints m.first m.others m.good)

nothing : template_of [] ≡ None
unfolding template_of of_parts parts_of part_of
nothing = refl

nothing_spelled : (t : TemplateValue) → template_of [] ≡ Some t → ⊥
nothing_spelled t e = let none = nothing in cc

pub text_some : (t : TemplateValue) → Made t → template_text t ≡ [] → ⊥
text_some t m e = nothing_spelled t (ap template_of (sym e) ∙ read_again t m)
