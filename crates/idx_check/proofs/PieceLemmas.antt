-- A piece that is looked at unit by unit.
use Rattle.std.proofs.Common.{◌≡◌, ℕ, ◌+◌, ◌-◌, ◌*◌, ◌/◌, ◌%◌, ◌^◌, ◌<◌, ◌≤◌, min, List, length, take, drop, sym, ap, ◌∙◌, subst, ⊎_elim, arith, zero-add}
use Rattle.std.specs.Prelude.{IfSome, Option, None, Some, slice_index}
use Rattle.std.proofs.Math.Nat.{add-mul-mod_self_left, mod-eq_of_lt, mod-add-div', mul-mod_left}
use Rattle.std.proofs.lemmas.Bool.{cases_lt}
use Rattle.std.proofs.lemmas.List.{get_or-drop, get_or-take, get_or_past, length-drop, length-take}
use Rattle.idx_outside.specs.Cause.{AskedFor}
use Rattle.idx_check.specs.Piece.{AskedUpTo, IsOnTheWay}
use Rattle.idx_check.specs.Stray.{DifferAt}

-- ---- multiples

-- a multiple less the number
pub one_less : (x u : ℕ) → x % u ≡ 0 → u ≤ x → (x - u) % u ≡ 0
one_less x u whole more =
    let split : x ≡ (x - u) + u * 1 = omega (arith, more) in
    sym (ap (λ n. n % u) split ∙ add-mul-mod_self_left (x - u) u 1) ∙ whole

-- a multiple that is not 0 is no less than the number
pub some_more : (x u : ℕ) → x % u ≡ 0 → 0 < x → u ≤ x
some_more x u whole some = ⊎_elim
    (λ (less : x < u). let is : x ≡ 0 = sym (mod-eq_of_lt less) ∙ whole in absurd (omega (arith, is, some)))
    (λ (more : u ≤ x). more)
    (cases_lt x u)

-- what is left of a number without its rest is a multiple
pub without_rest : (x u : ℕ) → (x - x % u) % u ≡ 0
without_rest x u =
    let parts = mod-add-div' x u in
    let is : x - x % u ≡ x / u * u = omega (arith, parts) in
    ap (λ n. n % u) is ∙ mul-mod_left (x / u) u

-- ---- bytes of a slice
pub slice_byte : (piece : List ℕ) (used n m i : ℕ) → m ≡ n → i < n → slice_index (take m (drop used piece)) i ≡ slice_index piece (used + i)
slice_byte piece used n m i same within = get_or-take m (drop used piece) i 0 (omega (arith, same, within)) ∙ get_or-drop used piece i 0

pub length-slice : (xs : List ℕ) (at n m : ℕ) → m ≡ n → at + n ≤ length xs → length (take m (drop at xs)) ≡ n
length-slice xs at n m same room = length-take m (drop at xs) ∙ ap (min m) (length-drop at xs) ∙ omega (arith, same, room)

-- where a unit differs from a text, the file differs from what has the text there
pub unit_differs : (bytes piece wanted text : List ℕ) (used at n m place : ℕ) → m ≡ n → used + n ≤ length piece →
    ((i : ℕ) → used + i < length piece → slice_index piece (used + i) ≡ slice_index bytes (at + i)) →
    ((i : ℕ) → i < n → slice_index wanted (at + i) ≡ slice_index text i) →
    DifferAt (take m (drop used piece)) text 0 n place → DifferAt bytes wanted at (at + n) (at + place)
unit_differs bytes piece wanted text used at n m place same whole ahead is differs =
    record {
      after = omega arith;
      within = omega (arith, differs.within);
      other = λ e. differs.other (slice_byte piece used n m place same differs.within ∙ ahead place (omega (arith, whole, differs.within)) ∙ e ∙ is place differs.within);
      before = λ i from to.
          let k : ℕ = i - at in
          let there : at + k ≡ i = omega (arith, from) in
          let less : k < place = omega (arith, from, to) in
          let inside : k < n = omega (arith, less, differs.within) in
          ap (slice_index bytes) (sym there) ∙ sym (ahead k (omega (arith, whole, inside))) ∙ sym (slice_byte piece used n m k same inside)
          ∙ differs.before k (omega arith) less ∙ sym (is k inside) ∙ ap (slice_index wanted) there;
    }

-- and where it does not
pub unit_same : (bytes piece wanted text : List ℕ) (used at n m : ℕ) → m ≡ n → used + n ≤ length piece →
    ((i : ℕ) → used + i < length piece → slice_index piece (used + i) ≡ slice_index bytes (at + i)) →
    ((i : ℕ) → i < n → slice_index wanted (at + i) ≡ slice_index text i) →
    ((i : ℕ) → 0 ≤ i → i < n → slice_index (take m (drop used piece)) i ≡ slice_index text i) →
    (i : ℕ) → at ≤ i → i < at + n → slice_index bytes i ≡ slice_index wanted i
unit_same bytes piece wanted text used at n m same whole ahead is equal i from to =
    let k : ℕ = i - at in
    let there : at + k ≡ i = omega (arith, from) in
    let inside : k < n = omega (arith, from, to) in
    ap (slice_index bytes) (sym there) ∙ sym (ahead k (omega (arith, whole, inside))) ∙ sym (slice_byte piece used n m k same inside)
    ∙ equal k (omega arith) inside ∙ sym (is k inside) ∙ ap (slice_index wanted) there

-- the same where the file's bytes are known
pub unit_found : (contents : Option (List ℕ)) (piece text : List ℕ) (used at n m place : ℕ) → m ≡ n → used + n ≤ length piece →
    IfSome contents (λ bytes. (i : ℕ) → used + i < length piece → slice_index piece (used + i) ≡ slice_index bytes (at + i)) →
    DifferAt (take m (drop used piece)) text 0 n place →
    IfSome contents (λ bytes. (wanted : List ℕ) → ((i : ℕ) → i < n → slice_index wanted (at + i) ≡ slice_index text i) → DifferAt bytes wanted at (at + n) (at + place))
unit_found None piece text used at n m place same whole ahead differs = tt
unit_found (Some bytes) piece text used at n m place same whole ahead differs = λ wanted is. unit_differs bytes piece wanted text used at n m place same whole ahead is differs

pub unit_right : (contents : Option (List ℕ)) (piece text : List ℕ) (used at n m : ℕ) → m ≡ n → used + n ≤ length piece →
    IfSome contents (λ bytes. (i : ℕ) → used + i < length piece → slice_index piece (used + i) ≡ slice_index bytes (at + i)) →
    ((i : ℕ) → 0 ≤ i → i < n → slice_index (take m (drop used piece)) i ≡ slice_index text i) →
    IfSome contents (λ bytes. (wanted : List ℕ) → ((i : ℕ) → i < n → slice_index wanted (at + i) ≡ slice_index text i) →
    (i : ℕ) → at ≤ i → i < at + n → slice_index bytes i ≡ slice_index wanted i)
unit_right None piece text used at n m same whole ahead equal = tt
unit_right (Some bytes) piece text used at n m same whole ahead equal = λ wanted is. unit_same bytes piece wanted text used at n m same whole ahead is equal

-- ---- on the way

ahead_behind : (contents : Option (List ℕ)) (piece : List ℕ) (used at unit : ℕ) →
    IfSome contents (λ bytes. (i : ℕ) → used + i < length piece → slice_index piece (used + i) ≡ slice_index bytes (at + i)) →
    IfSome contents (λ bytes. (i : ℕ) → used + unit + i < length piece → slice_index piece (used + unit + i) ≡ slice_index bytes (at + unit + i))
ahead_behind None piece used at unit same = tt
ahead_behind (Some bytes) piece used at unit same = λ i within.
    let left : used + unit + i ≡ used + (unit + i) = omega arith in
    let right : at + (unit + i) ≡ at + unit + i = omega arith in
    ap (slice_index piece) left ∙ same (unit + i) (omega (arith, within)) ∙ ap (slice_index bytes) right

-- a unit more was looked at
pub way_next : (contents : Option (List ℕ)) (piece : List ℕ) (used unit at left : ℕ) → IsOnTheWay contents piece used unit at left → used + unit ≤ length piece → unit ≤ left →
    IsOnTheWay contents piece (used + unit) unit (at + unit) (left - unit)
way_next contents piece used unit at left way whole more =
    let size : length piece - (used + unit) ≡ length piece - used - unit = omega arith in
    record {
      within = whole;
      same = ahead_behind contents piece used at unit way.same;
      few = omega (arith, way.few, whole);
      whole = ap (λ n. n % unit) size ∙ one_less (length piece - used) unit way.whole (omega (arith, whole));
      rest = one_less left unit way.rest more;
    }

pub asked_next : (before asked : ℕ) (piece : List ℕ) (used unit at there : ℕ) → used + unit ≤ length piece →
    AskedUpTo before asked piece used at there → AskedUpTo before asked piece (used + unit) (at + unit) there
asked_next before asked piece used unit at there whole is =
    let same : at + (length piece - used) ≡ at + unit + (length piece - (used + unit)) = omega (arith, whole) in
    is ∙ ap (λ n. (before + min n there) % 2 ^ 64) same

-- nothing is ahead
pub way_begins : (contents : Option (List ℕ)) (piece : List ℕ) (used unit at left : ℕ) → length piece ≡ used → left % unit ≡ 0 → 0 < unit → IsOnTheWay contents piece used unit at left
way_begins contents piece used unit at left none rest some =
    let zero_ahead : length piece - used ≡ 0 = omega (arith, none) in
    record {
      within = omega (arith, none);
      same = nothing contents;
      few = omega (arith, none);
      whole = ap (λ n. n % unit) zero_ahead ∙ mod-eq_of_lt some;
      rest = rest;
    }
  where
    nothing : (contents : Option (List ℕ)) → IfSome contents (λ bytes. (i : ℕ) → used + i < length piece → slice_index piece (used + i) ≡ slice_index bytes (at + i))
    nothing None = tt
    nothing (Some bytes) = λ i within. absurd (omega (arith, none, within))

pub asked_begins : (before asked : ℕ) (piece : List ℕ) (used at there : ℕ) → length piece ≡ used → AskedFor before asked (min at there) → AskedUpTo before asked piece used at there
asked_begins before asked piece used at there none is = is ∙ ap (λ n. (before + min n there) % 2 ^ 64) (omega (arith, none))

pub asked_ends : (before asked : ℕ) (piece : List ℕ) (used at there : ℕ) → length piece ≡ used → AskedUpTo before asked piece used at there → AskedFor before asked (min at there)
asked_ends before asked piece used at there none is = is ∙ ap (λ n. (before + min n there) % 2 ^ 64) (omega (arith, none))

pub asked_nothing : (asked there : ℕ) → AskedFor asked asked (min 0 there)
asked_nothing asked there = ap (λ n. n % 2 ^ 64) (omega arith)

-- at the end of a stretch nothing is ahead
pub way_ends : (contents : Option (List ℕ)) (piece : List ℕ) (used unit at left : ℕ) → IsOnTheWay contents piece used unit at left → left ≡ 0 → length piece ≡ used
way_ends contents piece used unit at left way none = omega (arith, way.within, way.few, none)

-- the same, where the stretch's end is known
pub way_behind : (contents : Option (List ℕ)) (piece : List ℕ) (used unit at end : ℕ) → IsOnTheWay contents piece used unit at (end - at) → used + unit ≤ length piece → at + unit ≤ end →
    IsOnTheWay contents piece (used + unit) unit (at + unit) (end - (at + unit))
way_behind contents piece used unit at end way whole more =
    let left : end - at - unit ≡ end - (at + unit) = omega (arith, more) in
    subst (λ (n : ℕ). IsOnTheWay contents piece (used + unit) unit (at + unit) n) left (way_next contents piece used unit at (end - at) way whole (omega (arith, more)))

-- ---- a piece that was read

read_ahead : (contents : Option (List ℕ)) (piece : List ℕ) (at count : ℕ) → length piece ≡ count →
    IfSome contents (λ bytes. (i : ℕ) → i < count → slice_index piece i ≡ slice_index bytes (at + i)) →
    IfSome contents (λ bytes. (i : ℕ) → 0 + i < length piece → slice_index piece (0 + i) ≡ slice_index bytes (at + i))
read_ahead None piece at count size same = tt
read_ahead (Some bytes) piece at count size same = λ i within. ap (slice_index piece) (zero-add i) ∙ same i (omega (arith, size, within))

pub way_read : (contents : Option (List ℕ)) (piece : List ℕ) (unit at left room count : ℕ) → left % unit ≡ 0 → count ≡ min left (room - room % unit) → length piece ≡ count →
    IfSome contents (λ bytes. (i : ℕ) → i < count → slice_index piece i ≡ slice_index bytes (at + i)) →
    IsOnTheWay contents piece 0 unit at left
way_read contents piece unit at left room count rest is size same =
    record {
      within = omega arith;
      same = read_ahead contents piece at count size same;
      few = omega (arith, size, is);
      whole = ap (λ n. n % unit) (omega (arith, size)) ∙ either;
      rest = rest;
    }
  where
    either : count % unit ≡ 0
    either = ⊎_elim
        (λ (less : left < room - room % unit). ap (λ n. n % unit) (omega (arith, is, less)) ∙ rest)
        (λ (more : room - room % unit ≤ left). ap (λ n. n % unit) (omega (arith, is, more)) ∙ without_rest room unit)
        (cases_lt left (room - room % unit))

-- ---- bytes that are read, and zeros behind them

pub bytes_padded : (bytes new old read : List ℕ) (at count there standing : ℕ) → there ≡ length bytes → standing ≡ min (there - at) count → length old ≡ count →
    read ≡ take standing (drop at bytes) → ((i : ℕ) → i < standing → slice_index new i ≡ slice_index read i) → ((i : ℕ) → standing ≤ i → i < count → slice_index new i ≡ 0) →
    (i : ℕ) → i < count → slice_index new i ≡ slice_index bytes (at + i)
bytes_padded bytes new old read at count there standing all is size taken front behind i within = ⊎_elim
    (λ (less : i < standing).
    front i less ∙ ap (λ xs. slice_index xs i) taken ∙ get_or-take standing (drop at bytes) i 0 less ∙ get_or-drop at bytes i 0)
    (λ (more : standing ≤ i). behind i more within ∙ sym (get_or_past bytes (at + i) 0 (omega (arith, all, is, more, within))))
    (cases_lt i standing)
