-- Lists of fields that agree, and the names of a list that are distinct.
use Rattle.std.proofs.Common.{◌≡◌, true, false, Bool, ℕ, ◌+◌, ◌<◌, ◌≤◌, ◌&&◌, not, List, [], ◌∷◌, ◌++◌, length, map, take, get_or, refl, sym, ap, ◌∙◌, arith, subst, zero, suc, Some, ◌↔◌}
use Rattle.std.proofs.lemmas.Option.{same_Some}
use Rattle.std.proofs.lemmas.List.{take_more, take_all, map-append, get_or-map, length-map}
use Rattle.std.proofs.lemmas.List.Folds.{list_any_at}
use Rattle.std.proofs.lemmas.Slice.Eq.{bytes_eq-Decides}
use Rattle.std.specs.List.{list_any}
use Rattle.std.specs.Str.{bytes_eq}
use Rattle.idx_fields.specs.Field.{Field, field_at}
use Rattle.idx_fields.specs.Fields.{Agree, identity, are_distinct, names_of}

-- one more field that agrees
pub agree_more : (xs ys : List Field) (i : ℕ) (d e : Field) → i < length xs → i < length ys → Agree (take i xs) (take i ys) →
    identity (get_or xs i d) ≡ identity (get_or ys i e) → Agree (take (i + 1) xs) (take (i + 1) ys)
agree_more xs ys i d e inside inside' before here =
    let left : map identity (take (i + 1) xs) ≡ map identity (take i xs) ++ identity (get_or xs i d) ∷ [] =
    ap (map identity) (take_more xs i d inside) ∙ map-append identity (take i xs) (get_or xs i d ∷ []) in
    let right : map identity (take (i + 1) ys) ≡ map identity (take i ys) ++ identity (get_or ys i e) ∷ [] =
    ap (map identity) (take_more ys i e inside') ∙ map-append identity (take i ys) (get_or ys i e ∷ []) in
    cc

-- fields that agree do so at each place
pub agree_at : (xs ys : List Field) (i : ℕ) (d e : Field) → i < length xs → i < length ys → Agree xs ys →
    identity (get_or xs i d) ≡ identity (get_or ys i e)
agree_at xs ys i d e inside inside' all =
    sym (get_or-map identity xs i d (identity d) inside) ∙ ap (λ t. get_or t i (identity d)) all ∙ get_or-map identity ys i e (identity d) inside'

-- and are as many
pub agree_length : (xs ys : List Field) → Agree xs ys → length xs ≡ length ys
agree_length xs ys all = sym (length-map xs identity) ∙ ap length all ∙ length-map ys identity

pub agree_all : (xs ys : List Field) (i : ℕ) → length xs ≤ i → length ys ≤ i → Agree (take i xs) (take i ys) → Agree xs ys
agree_all xs ys i all all' front =
    ap (map identity) (sym (take_all i xs all)) ∙ front ∙ ap (map identity) (take_all i ys all')

pub and_left : (a b : Bool) → (a && b) ≡ true → a ≡ true
and_left true b e = refl
and_left false b e = cc

pub and_right : (a b : Bool) → (a && b) ≡ true → b ≡ true
and_right true b e = e
and_right false b e = cc

pub not_true : (b : Bool) → not b ≡ true → b ≡ true → ⊥
not_true true e h = cc
not_true false e h = cc

-- the first name does not stand again
not_in_rest : (f : Field) (fs : List Field) (j : ℕ) → are_distinct (names_of (f ∷ fs)) ≡ true → j < length fs →
    f.name ≡ (field_at fs j).name → ⊥
not_in_rest f fs j apart inside same =
    let names : List (List ℕ) = names_of fs in
    let within : j < length names = subst (λ (n : ℕ). j < n) (sym (length-map fs (λ (g : Field). g.name))) inside in
    let here : get_or names j [] ≡ (field_at fs j).name = get_or-map (λ (g : Field). g.name) fs j _ [] inside in
    let equal : bytes_eq f.name (get_or names j []) ≡ true = (bytes_eq-Decides f.name (get_or names j [])).1 (same ∙ sym here) in
    not_true (list_any (bytes_eq f.name) names) (and_left _ _ apart) (list_any_at (bytes_eq f.name) names j [] within equal)

-- where names are distinct, each stands at one place
pub distinct_at : (fields : List Field) (i j : ℕ) → are_distinct (names_of fields) ≡ true → i < length fields → j < length fields →
    (field_at fields i).name ≡ (field_at fields j).name → i ≡ j
distinct_at [] i j apart inside inside' same = absurd (omega arith)
distinct_at (f ∷ fs) zero zero apart inside inside' same = refl
distinct_at (f ∷ fs) zero (suc j) apart inside inside' same = absurd (not_in_rest f fs j apart (omega arith) same)
distinct_at (f ∷ fs) (suc i) zero apart inside inside' same = absurd (not_in_rest f fs i apart (omega arith) (sym same))
distinct_at (f ∷ fs) (suc i) (suc j) apart inside inside' same =
    ap suc (distinct_at fs i j (and_right _ _ apart) (omega arith) (omega arith) same)

-- a field of this name is the one that has it
pub only_one : (fields : List Field) (name : List ℕ) (j : ℕ) → are_distinct (names_of fields) ≡ true → j < length fields →
    (field_at fields j).name ≡ name → (i : ℕ) → (Some j ≡ Some i) ↔ ((i < length fields) × ((field_at fields i).name ≡ name))
only_one fields name j apart inside here i = (
  (λ e. subst (λ (k : ℕ). (k < length fields) × ((field_at fields k).name ≡ name)) (same_Some j i e) (inside, here)),
  (λ h. ap Some (distinct_at fields j i apart inside h.0 (here ∙ sym h.1))),
)
