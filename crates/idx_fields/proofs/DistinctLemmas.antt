-- Names that are distinct, one after another.
use Rattle.std.proofs.Common.{◌≡◌, true, false, Bool, ℕ, ◌+◌, ◌<◌, ◌&&◌, ◌||◌, not, List, [], ◌∷◌, ◌++◌, length, take, drop, get_or, refl, sym, ap, ◌∙◌, arith}
use Rattle.std.proofs.lemmas.List.{take_more, map-append, take-append-drop}
use Rattle.std.proofs.lemmas.List.Folds.{list_any-append}
use Rattle.std.proofs.lemmas.Bool.Decides.{same_from_decides}
use Rattle.std.proofs.lemmas.Slice.Eq.{bytes_eq-Decides}
use Rattle.std.specs.List.{list_any}
use Rattle.std.specs.Str.{bytes_eq}
use Rattle.idx_fields.specs.Field.{Field}
use Rattle.idx_fields.specs.Fields.{are_distinct, names_of}

pub bytes_eq-flip : (xs ys : List ℕ) → bytes_eq xs ys ≡ bytes_eq ys xs
bytes_eq-flip xs ys = same_from_decides (bytes_eq xs ys) (bytes_eq ys xs) (bytes_eq-Decides xs ys) ((λ e. sym ((bytes_eq-Decides ys xs).0 e)), (λ e. (bytes_eq-Decides ys xs).1 (sym e)))

in_turn : (a b d e : Bool) → (not (a || (b || false)) && (d && not e)) ≡ ((not a && d) && not (b || e))
in_turn true b d e = refl
in_turn false true true e = refl
in_turn false true false e = refl
in_turn false false d e = refl

-- a further name is distinct where it does not stand before
pub distinct_push : (names : List (List ℕ)) (name : List ℕ) →
    are_distinct (names ++ name ∷ []) ≡ (are_distinct names && not (list_any (bytes_eq name) names))
distinct_push [] name = refl
distinct_push (n ∷ ns) name =
    rw (list_any-append (bytes_eq n) ns (name ∷ []), distinct_push ns name, bytes_eq-flip name n)
    (in_turn (list_any (bytes_eq n) ns) (bytes_eq n name) (are_distinct ns) (list_any (bytes_eq name) ns))

stays : (a b d e : Bool) → (not a && d) ≡ false → (d ≡ false → e ≡ false) → (not (a || b) && e) ≡ false
stays true b d e so next = refl
stays false true d e so next = refl
stays false false d e so next = next so

-- a list is not distinct where its front is not
pub distinct_front : (front rest : List (List ℕ)) → are_distinct front ≡ false → are_distinct (front ++ rest) ≡ false
distinct_front [] rest so = absurd (true_is_not_false so)
  where
    true_is_not_false : true ≡ false → ⊥
    true_is_not_false e = cc
distinct_front (n ∷ ns) rest so =
    rw (list_any-append (bytes_eq n) ns rest) (stays (list_any (bytes_eq n) ns) (list_any (bytes_eq n) rest) (are_distinct ns)
    (are_distinct (ns ++ rest)) so (distinct_front ns rest))

-- the names of one more field
names-more : (fields : List Field) (i : ℕ) (f : Field) → i < length fields → f ≡ get_or fields i f →
    names_of (take (i + 1) fields) ≡ names_of (take i fields) ++ f.name ∷ []
names-more fields i f inside here =
    ap names_of (take_more fields i f inside) ∙ map-append (λ (g : Field). g.name) (take i fields) (get_or fields i f ∷ [])
    ∙ ap (λ (g : Field). names_of (take i fields) ++ g.name ∷ []) (sym here)

-- a name that does not stand before, and one that does
pub distinct_more : (fields : List Field) (i : ℕ) (f : Field) → i < length fields → f ≡ get_or fields i f →
    are_distinct (names_of (take i fields)) ≡ true → list_any (bytes_eq f.name) (names_of (take i fields)) ≡ false →
    are_distinct (names_of (take (i + 1) fields)) ≡ true
distinct_more fields i f inside here before new =
    ap are_distinct (names-more fields i f inside here) ∙ distinct_push (names_of (take i fields)) f.name ∙ rw (before, new) refl

pub distinct_broken : (fields : List Field) (i : ℕ) (f : Field) → i < length fields → f ≡ get_or fields i f →
    list_any (bytes_eq f.name) (names_of (take i fields)) ≡ true → are_distinct (names_of fields) ≡ false
distinct_broken fields i f inside here again =
    let front : are_distinct (names_of (take (i + 1) fields)) ≡ false =
    ap are_distinct (names-more fields i f inside here) ∙ distinct_push (names_of (take i fields)) f.name ∙ rw again (grind arith) in
    let whole : names_of fields ≡ names_of (take (i + 1) fields) ++ names_of (drop (i + 1) fields) =
    ap names_of (sym (take-append-drop (i + 1) fields)) ∙ map-append (λ (g : Field). g.name) (take (i + 1) fields) (drop (i + 1) fields) in
    ap are_distinct whole ∙ distinct_front (names_of (take (i + 1) fields)) (names_of (drop (i + 1) fields)) front

-- which names there are with one more field
pub any_more : (fields : List Field) (i : ℕ) (f : Field) (q : List ℕ) → i < length fields → f ≡ get_or fields i f →
    list_any (bytes_eq q) (names_of (take (i + 1) fields)) ≡ (bytes_eq q f.name || list_any (bytes_eq q) (names_of (take i fields)))
any_more fields i f q inside here =
    ap (list_any (bytes_eq q)) (names-more fields i f inside here) ∙ list_any-append (bytes_eq q) (names_of (take i fields)) (f.name ∷ [])
    ∙ turned (list_any (bytes_eq q) (names_of (take i fields))) (bytes_eq q f.name)
  where
    turned : (a b : Bool) → (a || (b || false)) ≡ (b || a)
    turned true true = refl
    turned true false = refl
    turned false true = refl
    turned false false = refl
