-- A table that is looked at row by row.
use Rattle.std.proofs.Common.{◌≡◌, ℕ, zero, suc, ◌+◌, ◌<◌, ◌≤◌, List, [], ◌∷◌, length, drop, refl, sym, ap, ◌∙◌, subst, ⊎_elim, arith}
use Rattle.std.specs.Prelude.{IfNone, IfSome, Option, None, Some, replicate, slice_get, slice_index}
use Rattle.std.proofs.lemmas.Bool.{cases_lt}
use Rattle.std.proofs.lemmas.Option.{slice_get_within}
use Rattle.idx_table.specs.Row.{absent, row_bytes}
use Rattle.idx_table.specs.Table.{table_bytes}
use Rattle.idx_table.specs.declared.row.Row.{Row}
use Rattle.idx_rowmajor.specs.declared.layout.Layout.TheVariants.{Hz}
use Rattle.idx_layout.specs.Files.{row_count, rows_of_file}
use Rattle.idx_layout.specs.Placing.{Placing}
use Rattle.idx_layout.proofs.FileLemmas.{length-rows_of_file}
use Rattle.idx_check.specs.Form.{HasForm}
use Rattle.idx_check.specs.Stray.{DifferAt, IsFirstBetween}

-- ---- what of a list is left

-- so many of a list were given, and these are left
pub record IsLeft {X : Type 0} (all left : List X) (given : ℕ) : Type 0 where
  pub rest : left ≡ drop given all
  pub few : given ≤ length all

-- what the next one is
pub record IsNext {X : Type 0} (all more : List X) (given : ℕ) (x : X) : Type 0 where
  pub at : slice_get all given ≡ Some x
  pub left : IsLeft all more (given + 1)

next_of : {X : Type 0} (all : List X) (given : ℕ) (x : X) (more : List X) → x ∷ more ≡ drop given all → (slice_get all given ≡ Some x) × (more ≡ drop (suc given) all)
next_of [] zero x more e = absurd (cc)
next_of [] (suc n) x more e = absurd (cc)
next_of (y ∷ ys) zero x more e = let first : y ≡ x = cc in let rest : more ≡ ys = cc in (ap (λ z. Some z) first, rest)
next_of (y ∷ ys) (suc n) x more e = next_of ys n x more e

pub left_next : {X : Type 0} (all left more : List X) (given : ℕ) (x : X) → IsLeft all left given → left ≡ x ∷ more → IsNext all more given x
left_next all left more given x is first =
    let both = next_of all given x more (sym first ∙ is.rest) in
    let one : suc given ≡ given + 1 = omega arith in
    record { at = both.0; left = record { rest = both.1 ∙ ap (λ n. drop n all) one; few = omega (arith, slice_get_within all given x both.0) } }

pub left_first : {X : Type 0} (all left : List X) → left ≡ all → IsLeft all left 0
left_first all left same = record { rest = same; few = omega arith }

-- nothing is left
pub left_none : {X : Type 0} (all left : List X) (given : ℕ) → IsLeft all left given → left ≡ [] → given ≡ length all
left_none all left given is none = ends all given is.few (sym is.rest ∙ none)
  where
    ends : {X : Type 0} (all : List X) (given : ℕ) → given ≤ length all → drop given all ≡ [] → given ≡ length all
    ends [] zero few e = refl
    ends [] (suc n) few e = absurd (omega (arith, few))
    ends (y ∷ ys) zero few e = absurd (cc)
    ends (y ∷ ys) (suc n) few e = omega (arith, ends ys n (omega (arith, few)) e)

-- ---- rows

-- the texts agree from one place on and before another, where the wanted one has its form
abbrev pub Agrees : Placing → ℕ → List ℕ → ℕ → ℕ → Type 0
Agrees l file bytes from to =
    (wanted : List ℕ) → HasForm l file bytes wanted → (i : ℕ) → from ≤ i → i < to → slice_index bytes i ≡ slice_index wanted i

-- of the rows of a file so many were looked at, up to this place
pub record AreLooked (l : Placing) (file : ℕ) (left : List Row) (at : ℕ) : Type 0 where
  pub given : ℕ
  pub is : IsLeft (rows_of_file Hz l file) left given
  pub begins : at ≡ table_bytes given

pub looked_first : (l : Placing) (file : ℕ) (left : List Row) → left ≡ rows_of_file Hz l file → AreLooked l file left 40
looked_first l file left same = record { given = 0; is = left_first (rows_of_file Hz l file) left same; begins = refl }

pub looked_within : (l : Placing) (file : ℕ) (left more : List Row) (row : Row) (at : ℕ) → AreLooked l file left at → left ≡ row ∷ more → at + 40 ≤ table_bytes (row_count l)
looked_within l file left more row at is first =
    let next = left_next (rows_of_file Hz l file) left more is.given row is.is first in
    let few : is.given + 1 ≤ length (rows_of_file Hz l file) = next.left.few in
    omega (arith, few, length-rows_of_file Hz l file, is.begins)

pub looked_next : (l : Placing) (file : ℕ) (left more : List Row) (row : Row) (at : ℕ) → AreLooked l file left at → left ≡ row ∷ more → AreLooked l file more (at + 40)
looked_next l file left more row at is first =
    record {
      given = is.given + 1;
      is = (left_next (rows_of_file Hz l file) left more is.given row is.is first).left;
      begins = omega (arith, is.begins);
    }

pub looked_all : (l : Placing) (file : ℕ) (left : List Row) (at : ℕ) → AreLooked l file left at → left ≡ [] → at ≡ table_bytes (row_count l)
looked_all l file left at is none =
    let all = left_none (rows_of_file Hz l file) left is.given is.is none in
    omega (arith, all, length-rows_of_file Hz l file, is.begins)

-- the bytes of a row in the wanted text
pub row_wanted : (l : Placing) (file : ℕ) (bytes wanted : List ℕ) (left more : List Row) (row : Row) (at : ℕ) → HasForm l file bytes wanted → AreLooked l file left at → left ≡ row ∷ more →
    (i : ℕ) → i < 40 → slice_index wanted (at + i) ≡ slice_index (row_bytes row) i
row_wanted l file bytes wanted left more row at form is first i within =
    let next = left_next (rows_of_file Hz l file) left more is.given row is.is first in
    ap (λ n. slice_index wanted (n + i)) is.begins ∙ form.rows is.given i row next.at within

same_zeros : (n i : ℕ) → slice_index (replicate n 0) i ≡ 0
same_zeros zero i = refl
same_zeros (suc n) zero = refl
same_zeros (suc n) (suc i) = same_zeros n i

-- and those in front of the rows
pub front_wanted : (l : Placing) (file : ℕ) (bytes wanted : List ℕ) → HasForm l file bytes wanted → (i : ℕ) → i < 40 → slice_index wanted (0 + i) ≡ slice_index (row_bytes absent) i
front_wanted l file bytes wanted form i within = ap (slice_index wanted) (omega arith) ∙ form.front i within ∙ sym (zeros i)
  where
    zeros : (i : ℕ) → slice_index (row_bytes absent) i ≡ 0
    zeros i = same_zeros 40 i

-- ---- steps, where the file's bytes are known

-- a difference of a unit is one of a longer stretch, before which the texts agree
pub differ_later : (bytes wanted : List ℕ) (from at n to place : ℕ) → ((i : ℕ) → from ≤ i → i < at → slice_index bytes i ≡ slice_index wanted i) → from ≤ at → at + n ≤ to →
    DifferAt bytes wanted at (at + n) place → DifferAt bytes wanted from to place
differ_later bytes wanted from at n to place before first last differs =
    record {
      after = omega (arith, first, differs.after);
      within = omega (arith, last, differs.within);
      other = differs.other;
      before = λ i low high. ⊎_elim
          (λ (less : i < at). before i low less)
          (λ (more : at ≤ i). differs.before i more high)
          (cases_lt i at);
    }

pub agree_later : (bytes wanted : List ℕ) (from at to : ℕ) → ((i : ℕ) → from ≤ i → i < at → slice_index bytes i ≡ slice_index wanted i) →
    ((i : ℕ) → at ≤ i → i < to → slice_index bytes i ≡ slice_index wanted i) → (i : ℕ) → from ≤ i → i < to → slice_index bytes i ≡ slice_index wanted i
agree_later bytes wanted from at to before behind i low high = ⊎_elim
    (λ (less : i < at). before i low less)
    (λ (more : at ≤ i). behind i more high)
    (cases_lt i at)

-- what is found in the bytes of a text from a place on
abbrev pub UnitFound : Option (List ℕ) → List ℕ → ℕ → ℕ → Option ℕ → Type 0
UnitFound contents text at to found = IfSome contents (λ bytes. (wanted : List ℕ) →
    ((i : ℕ) → i < 40 → slice_index wanted (at + i) ≡ slice_index text i) → IsFirstBetween bytes wanted at to found)

-- the front
pub front_differs : (contents : Option (List ℕ)) (l : Placing) (file place to : ℕ) (found : Option ℕ) → found ≡ Some place → 40 ≤ to → UnitFound contents (row_bytes absent) 0 40 found →
    IfSome contents (λ bytes. (wanted : List ℕ) → HasForm l file bytes wanted → DifferAt bytes wanted 0 to place)
front_differs contents l file place to found is more unit = by_contents contents (subst (λ (o : Option ℕ). UnitFound contents (row_bytes absent) 0 40 o) is unit)
  where
    by_contents : (contents : Option (List ℕ)) → UnitFound contents (row_bytes absent) 0 40 (Some place) →
        IfSome contents (λ bytes. (wanted : List ℕ) → HasForm l file bytes wanted → DifferAt bytes wanted 0 to place)
    by_contents None unit = tt
    by_contents (Some bytes) unit = λ wanted form.
        differ_later bytes wanted 0 0 40 to place (λ i low high. absurd (omega (arith, high))) (omega arith) (omega (arith, more)) (unit wanted (front_wanted l file bytes wanted form))

pub front_agrees : (contents : Option (List ℕ)) (l : Placing) (file : ℕ) (found : Option ℕ) → found ≡ None → UnitFound contents (row_bytes absent) 0 40 found → IfSome contents (λ bytes. Agrees l file bytes 0 40)
front_agrees contents l file found is unit = by_contents contents (subst (λ (o : Option ℕ). UnitFound contents (row_bytes absent) 0 40 o) is unit)
  where
    by_contents : (contents : Option (List ℕ)) → UnitFound contents (row_bytes absent) 0 40 None → IfSome contents (λ bytes. Agrees l file bytes 0 40)
    by_contents None unit = tt
    by_contents (Some bytes) unit = λ wanted form i low high. unit wanted (front_wanted l file bytes wanted form) i low high

-- a row
module _ (l : Placing) (file : ℕ) (left more : List Row) (row : Row) (at : ℕ) (is : AreLooked l file left at) (first : left ≡ row ∷ more) where
  row_found : (contents : Option (List ℕ)) (place to : ℕ) → at + 40 ≤ to → IfSome contents (λ bytes. Agrees l file bytes 0 at) → UnitFound contents (row_bytes row) at (at + 40) (Some place) →
      IfSome contents (λ bytes. (wanted : List ℕ) → HasForm l file bytes wanted → DifferAt bytes wanted 0 to place)
  row_found None place to room before unit = tt
  row_found (Some bytes) place to room before unit = λ wanted form.
      differ_later bytes wanted 0 at 40 to place (before wanted form) (omega arith) room (unit wanted (row_wanted l file bytes wanted left more row at form is first))

  row_right : (contents : Option (List ℕ)) → IfSome contents (λ bytes. Agrees l file bytes 0 at) → UnitFound contents (row_bytes row) at (at + 40) None → IfSome contents (λ bytes. Agrees l file bytes 0 (at + 40))
  row_right None before unit = tt
  row_right (Some bytes) before unit = λ wanted form.
      agree_later bytes wanted 0 at (at + 40) (before wanted form) (unit wanted (row_wanted l file bytes wanted left more row at form is first))

  pub row_differs : (contents : Option (List ℕ)) (place to : ℕ) (found : Option ℕ) → found ≡ Some place → at + 40 ≤ to → IfSome contents (λ bytes. Agrees l file bytes 0 at) →
      UnitFound contents (row_bytes row) at (at + 40) found → IfSome contents (λ bytes. (wanted : List ℕ) → HasForm l file bytes wanted → DifferAt bytes wanted 0 to place)
  row_differs contents place to found is room before unit = row_found contents place to room before (subst (λ (o : Option ℕ). UnitFound contents (row_bytes row) at (at + 40) o) is unit)

  pub row_agrees : (contents : Option (List ℕ)) (found : Option ℕ) → found ≡ None → IfSome contents (λ bytes. Agrees l file bytes 0 at) → UnitFound contents (row_bytes row) at (at + 40) found →
      IfSome contents (λ bytes. Agrees l file bytes 0 (at + 40))
  row_agrees contents found is before unit = row_right contents before (subst (λ (o : Option ℕ). UnitFound contents (row_bytes row) at (at + 40) o) is unit)

pub agrees_to : (contents : Option (List ℕ)) (l : Placing) (file from at to : ℕ) → at ≡ to → IfSome contents (λ bytes. Agrees l file bytes from at) → IfSome contents (λ bytes. Agrees l file bytes from to)
agrees_to contents l file from at to same = subst (λ (n : ℕ). IfSome contents (λ bytes. Agrees l file bytes from at) → IfSome contents (λ bytes. Agrees l file bytes from n)) same (λ h. h)

-- what holds where nothing was found
pub if_none : {P : Type 0} (found : Option ℕ) → found ≡ None → IfNone found P → P
if_none None is holds = holds
if_none (Some x) is holds = absurd (cc)

-- and where something was
pub if_some : (found : Option ℕ) (place : ℕ) (P : ℕ → Type 0) → found ≡ Some place → IfSome found P → P place
if_some found place P is holds = subst (λ (o : Option ℕ). IfSome o P) is holds
