-- Time templates: what each of them is made of, and its text read again.
use Rattle.std.proofs.Common.{◌≡◌, ℕ, ◌-◌, ◌<◌, Bool, true, false, eqb, List, [], ◌∷◌, ◌++◌, length, get_or, take, Option, Some, None, option_and_then, refl, sym, ap, ◌∙◌, subst, arith, if◌then◌else◌}
use Rattle.std.proofs.lemmas.Option.{same_Some}
use Rattle.std.proofs.lemmas.Bool.{eqb-true}
use Rattle.std.proofs.lemmas.List.{get_or_push, length_push}
use Rattle.std.proofs.Math.Seq.{take-append_seam}
use Rattle.std.specs.Prelude.{slice_index}
use Rattle.std.specs.List.{AllByRecursion}
use Rattle.idx_names.specs.declared.mark_kind.MarkKind.TheVariants.{Step}
use Rattle.idx_names.specs.declared.piece.Piece.{Piece}
use Rattle.idx_names.specs.Pieces.{pieces_of, pieces_text, mark_count, IsWordByte}
use Rattle.idx_names.specs.TimeTemplate.{TimeTemplateValue, of_step_pieces, time_template_of, time_template_text, IsTimeTemplate}
use Rattle.idx_names.proofs.GrammarLemmas.{IsInner, All-both, pieces-IsInner, pieces-text}
use Rattle.idx_names.proofs.TemplateLemmas.{part_words}

-- a time template's pieces, which their own text spells
pub record MadeTime (t : TimeTemplateValue) : Type 0 where
  pub inner : AllByRecursion (IsInner Step) t.pieces
  pub reads : pieces_of Step (pieces_text Step t.pieces) ≡ Some t.pieces
  pub one : mark_count t.pieces ≡ 1
  pub made : of_step_pieces t.pieces ≡ Some t

one_by : (b : Bool) (ps : List Piece) (t : TimeTemplateValue) → (if b then Some (record { pieces = ps }) else None) ≡ Some t →
    (b ≡ true) × (ps ≡ t.pieces)
one_by false ps t e = absurd (cc e)
one_by true ps t e = (refl, ap (λ (v : TimeTemplateValue). v.pieces) (same_Some _ _ e))

made_of : (part : List ℕ) (t : TimeTemplateValue) (o : Option (List Piece)) → pieces_of Step part ≡ o →
    option_and_then of_step_pieces o ≡ Some t → MadeTime t
made_of part t None is e = absurd (cc e)
made_of part t (Some ps) is e =
    let one = one_by (eqb (mark_count ps) 1) ps t e in
    let text : pieces_text Step ps ≡ part = pieces-text Step part 0 ps is in
    record {
      inner = subst (AllByRecursion (IsInner Step)) one.1 (pieces-IsInner Step part 0 ps is);
      reads = ap (λ pieces. pieces_of Step (pieces_text Step pieces)) (sym one.1) ∙ ap (pieces_of Step) text ∙ is ∙ ap Some one.1;
      one = ap mark_count (sym one.1) ∙ eqb-true (mark_count ps) 1 one.0;
      made = ap of_step_pieces (sym one.1) ∙ e;
    }

ended : {A : Type 0} (b : Bool) (o : Option A) (a : A) → (if b then o else None) ≡ Some a → o ≡ Some a
ended true o a e = e
ended false o a e = absurd (cc e)

pub made_time_by : (text : List ℕ) (t : TimeTemplateValue) → time_template_of text ≡ Some t → MadeTime t
unfolding time_template_of
made_time_by text t e =
    made_of (take (length text - 1) text) t _ refl
    (ended (eqb (slice_index text (length text - 1)) 47) (option_and_then of_step_pieces (pieces_of Step (take (length text - 1) text))) t e)

last_byte : (bs : List ℕ) → get_or (bs ++ 47 ∷ []) (length (bs ++ 47 ∷ []) - 1) 0 ≡ 47
last_byte bs = get_or_push bs 47 0 (length (bs ++ 47 ∷ []) - 1) (omega (arith, length_push bs 47))

front_bytes : (bs : List ℕ) → take (length (bs ++ 47 ∷ []) - 1) (bs ++ 47 ∷ []) ≡ bs
front_bytes bs =
    let count : length (bs ++ 47 ∷ []) - 1 ≡ length bs = omega (arith, length_push bs 47) in
    ap (λ n. take n (bs ++ 47 ∷ [])) count ∙ take-append_seam bs (47 ∷ [])

pub time_read_again : (t : TimeTemplateValue) → MadeTime t → time_template_of (time_template_text t) ≡ Some t
unfolding time_template_of time_template_text
time_read_again t m =
    let part : List ℕ = pieces_text Step t.pieces in
    ap (λ b. if eqb b 47 then option_and_then of_step_pieces (pieces_of Step (take (length (part ++ 47 ∷ []) - 1) (part ++ 47 ∷ []))) else None) (last_byte part)
    ∙ ap (λ bs. option_and_then of_step_pieces (pieces_of Step bs)) (front_bytes part)
    ∙ ap (option_and_then of_step_pieces) m.reads ∙ m.made

pub time_spelled : (text : List ℕ) (t : TimeTemplateValue) → time_template_of text ≡ Some t → IsTimeTemplate t
unfolding IsTimeTemplate
time_spelled text t e = time_read_again t (made_time_by text t e)

pub made_time : (t : TimeTemplateValue) → IsTimeTemplate t → MadeTime t
unfolding IsTimeTemplate
made_time t e = made_time_by (time_template_text t) t e

pub time_prints : (t : TimeTemplateValue) → MadeTime t → AllByRecursion IsWordByte (time_template_text t)
unfolding time_template_text
time_prints t m =
    All-both IsWordByte (pieces_text Step t.pieces) (47 ∷ []) (part_words Step t.pieces m.inner) ((omega arith, omega arith), tt)

push_some : (bs : List ℕ) → bs ++ 47 ∷ [] ≡ [] → ⊥
push_some [] e = cc
push_some (b ∷ bs) e = cc

pub time_text_some : (t : TimeTemplateValue) → time_template_text t ≡ [] → ⊥
unfolding time_template_text
time_text_some t e = push_some (pieces_text Step t.pieces) e

-- how a time template is read
pub none_of_empty : (text : List ℕ) → length text < 1 → time_template_of text ≡ None
unfolding time_template_of
none_of_empty [] short = refl
none_of_empty (b ∷ text) short = absurd (omega arith)

not_ended : {A : Type 0} (b : ℕ) (o : Option A) → (b ≡ 47 → ⊥) → (if eqb b 47 then o else None) ≡ None
not_ended b o other = by (eqb b 47) refl
  where
    by : (t : Bool) → eqb b 47 ≡ t → (if t then o else None) ≡ None
    by true e = absurd (other (eqb-true b 47 e))
    by false e = refl

pub none_of_other : (text : List ℕ) → (get_or text (length text - 1) 0 ≡ 47 → ⊥) → time_template_of text ≡ None
unfolding time_template_of
none_of_other text other = not_ended (get_or text (length text - 1) 0) (option_and_then of_step_pieces (pieces_of Step (take (length text - 1) text))) other

pub read_of_ended : (text : List ℕ) (o : Option (List Piece)) → get_or text (length text - 1) 0 ≡ 47 →
    pieces_of Step (take (length text - 1) text) ≡ o → time_template_of text ≡ option_and_then of_step_pieces o
unfolding time_template_of
read_of_ended text o e is =
    ap (λ b. if eqb b 47 then option_and_then of_step_pieces (pieces_of Step (take (length text - 1) text)) else None) e
    ∙ ap (option_and_then of_step_pieces) is

pub pieces_again : (part : List ℕ) (ps : List Piece) → pieces_of Step part ≡ Some ps → pieces_of Step (pieces_text Step ps) ≡ Some ps
pieces_again part ps e = ap (pieces_of Step) (pieces-text Step part 0 ps e) ∙ e

pub made_one : (ps : List Piece) → pieces_of Step (pieces_text Step ps) ≡ Some ps → mark_count ps ≡ 1 →
    (of_step_pieces ps ≡ Some (record { pieces = ps })) × IsTimeTemplate (record { pieces = ps })
unfolding IsTimeTemplate
made_one ps reads one =
    let made : of_step_pieces ps ≡ Some (record { pieces = ps }) = ap (λ n. if eqb n 1 then Some (record { pieces = ps }) else None) one in
    (made, time_read_again (record { pieces = ps }) (made_of (pieces_text Step ps) (record { pieces = ps }) (Some ps) reads made))
