-- Shipments, one after another, and the docks of their files.
use Rattle.std.proofs.Common.{◌≡◌, ◌≢◌, ℕ, zero, suc, ◌<◌, ◌≤◌, Bool, true, false, cond, List, [], ◌∷◌, length, get_or, set, map, refl, sym, ap, ◌∙◌, subst, arith, Some, None, eqb-true, eq-eqb, ltb-false}
use Rattle.std.specs.Prelude.{◌==◌, All, AllPairs, if◌then◌else◌, nat_lt, position}
use Rattle.std.specs.List.{position_or_len}
use Rattle.std.proofs.lemmas.Bool.{ne_eqb}
use Rattle.std.proofs.lemmas.List.{get_or-map, length-map, map-id}
use Rattle.std.proofs.lemmas.List.Elements.{All-map}
use Rattle.std.proofs.lemmas.List.Folds.{map_fixed}
use Rattle.std.proofs.lemmas.List.Quantifiers.{position-Some}
use Rattle.std.proofs.lemmas.List.Sums.{fails_before_first}
use Rattle.idx_pieces.specs.declared.shipment.Shipment.{Shipment}
use Rattle.idx_dock.specs.Dock.{DockValue, with_shipment}
use Rattle.idx_aggregate.specs.Shipping.{AreTaking, CanTake, Takes, with_one, with_shipments}
use Rattle.idx_aggregate.proofs.GainLemmas.{pairs_head, pairs_tail}

abbrev Apart : DockValue → DockValue → Type 0
Apart one other = one.file ≢ other.file

same_other : (s : Shipment) (d : DockValue) → s.file ≢ d.file → with_one s d ≡ d
same_other s d other = ap (λ b. if b then with_shipment s d else d) (ne_eqb s.file d.file other)

same_here : (s : Shipment) (d : DockValue) → s.file ≡ d.file → with_one s d ≡ with_shipment s d
same_here s d here = ap (λ b. if b then with_shipment s d else d) (eq-eqb s.file d.file here)

all_other : (s : Shipment) (docks : List DockValue) → All (λ d. s.file ≢ d.file) docks → map (with_one s) docks ≡ docks
all_other s docks other = map_fixed (with_one s) docks (λ k d within. same_other s (get_or docks k d) (other k d within))

-- a shipment that is put into the dock of its file alone
put_is_map : (s : Shipment) (docks : List DockValue) (place : ℕ) (d : DockValue) → place < length docks → (get_or docks place d).file == s.file ≡ true → AllPairs Apart docks →
    set docks place (with_shipment s (get_or docks place d)) ≡ map (with_one s) docks
put_is_map s [] place d within here apart = absurd (omega arith)
put_is_map s (x ∷ xs) zero d within here apart =
    let at : s.file ≡ x.file = sym (eqb-true x.file s.file here) in
    ap (λ y. y ∷ xs) (sym (same_here s x at))
    ∙ ap (λ ys. with_one s x ∷ ys) (sym (all_other s xs (λ k e inside same. pairs_head Apart x xs apart k e inside (sym at ∙ same))))
put_is_map s (x ∷ xs) (suc place) d within here apart =
    let at : (get_or xs place d).file ≡ s.file = eqb-true (get_or xs place d).file s.file here in
    let other : with_one s x ≡ x = same_other s x (λ same. pairs_head Apart x xs apart place d (omega arith) (sym same ∙ sym at)) in
    ap (λ y. y ∷ set xs place (with_shipment s (get_or xs place d))) (sym other)
    ∙ ap (λ ys. with_one s x ∷ ys) (put_is_map s xs place d (omega arith) here (pairs_tail Apart x xs apart))

-- the dock of its file takes it
pub taken_at : (s : Shipment) (docks : List DockValue) (place : ℕ) → Some place ≡ position (λ d. d.file == s.file) docks → All (λ d. s.file ≡ d.file → Takes s d) docks →
    (d : DockValue) → Takes s (get_or docks place d)
taken_at s docks place at takes d =
    let found = position-Some (λ (d : DockValue). d.file == s.file) docks place d (sym at) in
    takes place d found.0 (sym (eqb-true (get_or docks place d).file s.file found.1))

pub put_at : (s : Shipment) (docks new : List DockValue) (place : ℕ) → Some place ≡ position (λ d. d.file == s.file) docks → AllPairs Apart docks →
    ((d : DockValue) → new ≡ set docks place (with_shipment s (get_or docks place d))) → new ≡ map (with_one s) docks
put_at s [] new place at apart is = let wrong : Some place ≡ None = at in absurd (cc)
put_at s (x ∷ xs) new place at apart is =
    let found = position-Some (λ (d : DockValue). d.file == s.file) (x ∷ xs) place x (sym at) in
    is x ∙ put_is_map s (x ∷ xs) place x found.0 found.1 apart

-- there is no dock of its file
pub put_nowhere : (s : Shipment) (docks : List DockValue) → position (λ d. d.file == s.file) docks ≡ None → docks ≡ map (with_one s) docks
put_nowhere s docks none = sym (all_other s docks other)
  where
    at : ℕ
    at = position_or_len (λ (d : DockValue). d.file == s.file) docks

    by_test : (b : Bool) → nat_lt at (length docks) ≡ b → cond b (Some at) None ≡ None → length docks ≤ at
    by_test true is none = let wrong : Some at ≡ None = none in cc
    by_test false is none = ltb-false at (length docks) is

    other : All (λ d. s.file ≢ d.file) docks
    other k d within same =
        let past : length docks ≤ at = by_test (nat_lt at (length docks)) refl none in
        let fails : (get_or docks k d).file == s.file ≡ false = fails_before_first (λ (d : DockValue). d.file == s.file) docks k d (omega arith) in
        let wrong : true ≡ false = sym (eq-eqb (get_or docks k d).file s.file (sym same)) ∙ fails in
        cc

-- ---- one shipment after another

file_kept : (s : Shipment) (d : DockValue) → (with_one s d).file ≡ d.file
file_kept s d = by_test (s.file == d.file)
  where
    by_test : (b : Bool) → (if b then with_shipment s d else d).file ≡ d.file
    by_test true = refl
    by_test false = refl

apart_kept : (s : Shipment) (docks : List DockValue) → AllPairs Apart docks → AllPairs Apart (map (with_one s) docks)
apart_kept s docks apart = λ i j d less within same.
    let many : length (map (with_one s) docks) ≡ length docks = length-map docks (with_one s) in
    let first : (get_or (map (with_one s) docks) i d).file ≡ (get_or docks i d).file =
    ap (λ (x : DockValue). x.file) (get_or-map (with_one s) docks i d d (omega arith)) ∙ file_kept s (get_or docks i d) in
    let second : (get_or (map (with_one s) docks) j d).file ≡ (get_or docks j d).file =
    ap (λ (x : DockValue). x.file) (get_or-map (with_one s) docks j d d (omega arith)) ∙ file_kept s (get_or docks j d) in
    apart i j d less (omega arith) (sym first ∙ same ∙ second)

pub map_both : (f g : DockValue → DockValue) (docks : List DockValue) → map f (map g docks) ≡ map (λ d. f (g d)) docks
map_both f g [] = refl
map_both f g (d ∷ docks) = ap (λ ds. f (g d) ∷ ds) (map_both f g docks)

pub taking_next : (shipments rest left : List Shipment) (s : Shipment) (old docks new : List DockValue) → rest ≡ s ∷ left → new ≡ map (with_one s) docks →
    AreTaking shipments rest old docks → AreTaking shipments left old new
taking_next shipments rest left s old docks new is made taking =
    subst (AreTaking shipments left old) (sym made) (next (subst (λ rest. AreTaking shipments rest old docks) is taking))
  where
    next : AreTaking shipments (s ∷ left) old docks → AreTaking shipments left old (map (with_one s) docks)
    next t = record {
      take = All-map (CanTake left) (with_one s) docks (λ k d within. (t.take k d within).1);
      apart = apart_kept s docks t.apart;
      same = map_both (with_shipments left) (with_one s) docks ∙ t.same;
    }

-- it may be taken
pub taking_first : (shipments rest left : List Shipment) (s : Shipment) (old docks : List DockValue) → rest ≡ s ∷ left → AreTaking shipments rest old docks → All (λ d. s.file ≡ d.file → Takes s d) docks
taking_first shipments rest left s old docks is taking = first (subst (λ rest. AreTaking shipments rest old docks) is taking)
  where
    first : AreTaking shipments (s ∷ left) old docks → All (λ d. s.file ≡ d.file → Takes s d) docks
    first t = λ k d within. (t.take k d within).0

pub taking_all : (shipments rest : List Shipment) (old docks : List DockValue) → rest ≡ [] → AreTaking shipments rest old docks → docks ≡ map (with_shipments shipments) old
taking_all shipments rest old docks none taking =
    sym (map-id docks) ∙ ap (λ rest. map (with_shipments rest) docks) (sym none) ∙ taking.same
