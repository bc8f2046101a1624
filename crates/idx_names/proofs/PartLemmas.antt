-- Templates by their parts: what the text of a template spells.
use Rattle.std.proofs.Common.{◌≡◌, ℕ, ◌<◌, ◌≤◌, Bool, true, false, not, cond, ◌||◌, eqb, List, [], ◌∷◌, ◌++◌, length, map, Option, Some, None, option_and_then, get_or, refl, ap, ◌∙◌, subst, arith, append_assoc, if◌then◌else◌}
use Rattle.std.proofs.lemmas.Option.{same_Some}
use Rattle.std.proofs.lemmas.Grind.{flat_map-append}
use Rattle.std.proofs.lemmas.List.Elements.{All-from_recursion}
use Rattle.std.proofs.lemmas.List.Splits.{slice_split_at, slice_split_none}
use Rattle.std.specs.List.{AllByRecursion, filter, slice_split}
use Rattle.idx_names.specs.declared.mark_kind.MarkKind.{MarkKind}
use Rattle.idx_names.specs.declared.mark_kind.MarkKind.TheVariants.{File}
use Rattle.idx_names.specs.declared.piece.Piece.{Piece}
use Rattle.idx_names.specs.declared.piece.Piece.TheVariants.{Byte}
use Rattle.idx_names.specs.Pieces.{is_dots, pieces_of, part_of, piece_text, pieces_text, mark_count, has_mark, with_first}
use Rattle.idx_names.specs.Template.{all_parts, parts_of, above_marks, joined_behind, from_marks}
use Rattle.idx_names.proofs.GrammarLemmas.{IsInner, IsNameByte, part_prints, parted, pieces-IsInner, pieces-text}

-- a part's pieces that its own text spells
pub record GoodPart (ps : List Piece) : Type 0 where
  pub dot : is_dots 1 (pieces_text File ps) ≡ false
  pub reads : part_of File (pieces_text File ps) ≡ Some ps

otherwise : {A : Type 0} (b : Bool) (o : Option A) (a : A) → (if b then None else o) ≡ Some a → o ≡ Some a
otherwise true o a e = absurd (cc e)
otherwise false o a e = e

pub part_pieces : (kind : MarkKind) (part : List ℕ) (ps : List Piece) → part_of kind part ≡ Some ps → pieces_of kind part ≡ Some ps
unfolding part_of
part_pieces kind part ps e = otherwise (is_dots 0 part || is_dots 2 part) (pieces_of kind part) ps e

good_part : (part : List ℕ) (ps : List Piece) → is_dots 1 part ≡ false → part_of File part ≡ Some ps → GoodPart ps
good_part part ps dot e =
    let text : pieces_text File ps ≡ part = pieces-text File part 0 ps (part_pieces File part ps e) in
    record { dot = ap (is_dots 1) text ∙ dot; reads = ap (part_of File) text ∙ e }

good_parts : (texts : List (List ℕ)) (parts : List (List Piece)) → AllByRecursion (λ t. is_dots 1 t ≡ false) texts →
    all_parts (map (part_of File) texts) ≡ Some parts → AllByRecursion GoodPart parts
good_parts [] parts h e = subst (AllByRecursion GoodPart) (same_Some _ _ e) tt
good_parts (t ∷ ts) parts h e =
    let m = parted (part_of File t) (λ pieces. all_parts (map (part_of File) ts)) parts e in
    subst (AllByRecursion GoodPart) m.all_is (good_part t m.head h.0 m.first_is, good_parts ts m.tail h.1 m.rest_is)

kept_one : (t : List ℕ) (ts : List (List ℕ)) (b : Bool) → is_dots 1 t ≡ b → AllByRecursion (λ t. is_dots 1 t ≡ false) ts →
    AllByRecursion (λ t. is_dots 1 t ≡ false) (cond (not b) (t ∷ ts) ts)
kept_one t ts true e h = h
kept_one t ts false e h = (e, h)

kept_texts : (texts : List (List ℕ)) → AllByRecursion (λ t. is_dots 1 t ≡ false) (filter (λ part. not (is_dots 1 part)) texts)
kept_texts [] = tt
kept_texts (t ∷ ts) = kept_one t (filter (λ part. not (is_dots 1 part)) ts) (is_dots 1 t) refl (kept_texts ts)

pub parts-good : (text : List ℕ) (parts : List (List Piece)) → parts_of text ≡ Some parts → AllByRecursion GoodPart parts
unfolding parts_of
parts-good text parts e = good_parts _ parts (kept_texts (slice_split (λ b. eqb b 47) text)) e

-- all parts are read again
all_again : (parts : List (List Piece)) → AllByRecursion GoodPart parts → all_parts (map (part_of File) (map (pieces_text File) parts)) ≡ Some parts
all_again [] h = refl
all_again (p ∷ ps) h =
    ap (option_and_then (λ pieces. with_first pieces (all_parts (map (part_of File) (map (pieces_text File) ps))))) h.0.reads
    ∙ ap (with_first p) (all_again ps h.1)

kept_again : (parts : List (List Piece)) → AllByRecursion GoodPart parts →
    filter (λ part. not (is_dots 1 part)) (map (pieces_text File) parts) ≡ map (pieces_text File) parts
kept_again [] h = refl
kept_again (p ∷ ps) h =
    let rest : List (List ℕ) = filter (λ part. not (is_dots 1 part)) (map (pieces_text File) ps) in
    ap (λ b. cond (not b) (pieces_text File p ∷ rest) rest) h.0.dot ∙ ap (λ t. pieces_text File p ∷ t) (kept_again ps h.1)

pub good-inner : (ps : List Piece) → GoodPart ps → AllByRecursion (IsInner File) ps
good-inner ps g = pieces-IsInner File (pieces_text File ps) 0 ps (part_pieces File (pieces_text File ps) ps g.reads)

weaker : {A : Type 0} (P Q : A → Type 0) → ((x : A) → P x → Q x) → (xs : List A) → AllByRecursion P xs → AllByRecursion Q xs
weaker P Q f [] h = tt
weaker P Q f (x ∷ xs) h = (f x h.0, weaker P Q f xs h.1)

-- the text of a part and those behind it
abbrev pub joined_text : List Piece → List (List Piece) → List ℕ
joined_text p [] = pieces_text File p
joined_text p (next ∷ ps) = pieces_text File p ++ 47 ∷ joined_text next ps

splits_again : (p : List Piece) (ps : List (List Piece)) → AllByRecursion GoodPart (p ∷ ps) →
    slice_split (λ b. eqb b 47) (joined_text p ps) ≡ map (pieces_text File) (p ∷ ps)
splits_again p ps h = splits p ps (prints p h.0) h
  where
    prints : (p : List Piece) → GoodPart p → (k : ℕ) (d : ℕ) → k < length (pieces_text File p) → eqb (get_or (pieces_text File p) k d) 47 ≡ false
    prints p g = All-from_recursion (λ b. eqb b 47 ≡ false) (pieces_text File p)
        (weaker IsNameByte (λ b. eqb b 47 ≡ false) (λ b n. n.2) (pieces_text File p) (part_prints File p (good-inner p g)))

    splits : (p : List Piece) (ps : List (List Piece)) → ((k : ℕ) (d : ℕ) → k < length (pieces_text File p) → eqb (get_or (pieces_text File p) k d) 47 ≡ false) →
        AllByRecursion GoodPart (p ∷ ps) → slice_split (λ b. eqb b 47) (joined_text p ps) ≡ map (pieces_text File) (p ∷ ps)
    splits p [] plain h = slice_split_none (λ b. eqb b 47) (pieces_text File p) plain
    splits p (next ∷ ps) plain h =
        slice_split_at (λ b. eqb b 47) (pieces_text File p) 47 (joined_text next ps) plain refl
        ∙ ap (λ t. pieces_text File p ∷ t) (splits next ps (prints next h.1.0) h.1)

pub parts_again : (p : List Piece) (ps : List (List Piece)) → AllByRecursion GoodPart (p ∷ ps) → parts_of (joined_text p ps) ≡ Some (p ∷ ps)
unfolding parts_of
parts_again p ps h =
    ap (λ texts. all_parts (map (part_of File) (filter (λ part. not (is_dots 1 part)) texts))) (splits_again p ps h)
    ∙ ap (λ texts. all_parts (map (part_of File) texts)) (kept_again (p ∷ ps) h) ∙ all_again (p ∷ ps) h

text-joined : (p : List Piece) (ps : List (List Piece)) → pieces_text File (joined_behind p ps) ≡ joined_text p ps
unfolding pieces_text
text-joined p [] = refl
text-joined p (next ∷ ps) =
    flat_map-append (piece_text File) p (Byte 47 ∷ joined_behind next ps)
    ∙ ap (λ t. pieces_text File p ++ 47 ∷ t) (text-joined next ps)

-- the text of a template is that of its parts
pub text_of_parts : (p : List Piece) (ps : List (List Piece)) → 1 ≤ mark_count (from_marks (p ∷ ps)) →
    above_marks (p ∷ ps) ++ pieces_text File (from_marks (p ∷ ps)) ≡ joined_text p ps
text_of_parts p ps some = by_mark p ps (has_mark p) some
  where
    by_mark : (p : List Piece) (ps : List (List Piece)) (b : Bool) →
        1 ≤ mark_count (if b then joined_behind p ps else from_marks ps) →
        (if b then [] else pieces_text File p ++ 47 ∷ above_marks ps) ++ pieces_text File (if b then joined_behind p ps else from_marks ps)
        ≡ joined_text p ps
    by_mark p ps true some = text-joined p ps
    by_mark p [] false some = absurd (omega arith)
    by_mark p (next ∷ ps) false some =
        append_assoc (pieces_text File p) (47 ∷ above_marks (next ∷ ps)) (pieces_text File (from_marks (next ∷ ps)))
        ∙ ap (λ t. pieces_text File p ++ 47 ∷ t) (by_mark next ps (has_mark next) some)
