-- What is known has one value, and a text one header.
use Rattle.std.proofs.Common.{◌≡◌, List, [], ◌∷◌, ℕ, ◌<◌, Option, Some, None, Ok, Err, IfSome, IsSomeAnd, refl, sym, ap, ◌∙◌, length, map, get_or, slice_index_or, slice_set, arith}
use Rattle.idx_outside.specs.Objects.{faults_at}
use Rattle.idx_header.specs.declared.header_fault.HeaderFault.{HeaderFault}
use Rattle.idx_header.specs.Header.{HeaderValue}
use Rattle.idx_header.specs.HeaderOf.{header_of}

-- of what is known both things hold
pub both_hold : {T R : Type 0} (o : Option T) (P Q : T → Type 0) → ((x : T) → P x → Q x → R) → IfSome o P → IsSomeAnd o Q → R
both_hold None P Q make p q = absurd q
both_hold (Some x) P Q make p q = make x p q

-- a text has one header, and none where it is refused
pub one_header : (text : List ℕ) (g h : HeaderValue) → header_of text ≡ Ok g → header_of text ≡ Ok h → g ≡ h
one_header text g h first second = let same = sym first ∙ second in cc

pub not_refused : (text : List ℕ) (h : HeaderValue) (fault : HeaderFault) → header_of text ≡ Ok h → header_of text ≡ Err fault → ⊥
not_refused text h fault reads refused = let same = sym reads ∙ refused in cc

-- the count of the first object of a list, and of one in its place
pub first_count : {T : Type 0} (count : T → ℕ) (items : List T) (x : T) → 0 < length items → x ≡ get_or items 0 x → count x ≡ faults_at count items 0
first_count count [] x some is = absurd (omega (arith, some))
first_count count (y ∷ items) x some is = ap count is

pub placed_count : {T : Type 0} (count : T → ℕ) (items : List T) (x : T) → 0 < length items → count x ≡ faults_at count (slice_set items 0 x) 0
placed_count count [] x some = absurd (omega (arith, some))
placed_count count (y ∷ items) x some = refl

-- what the first object of a list tells, and one in its place
pub first_told : {T X : Type 0} (told : T → Option X) (items : List T) (x : T) → 0 < length items → x ≡ get_or items 0 x → told x ≡ slice_index_or (map told items) 0 None
first_told told [] x some is = absurd (omega (arith, some))
first_told told (y ∷ items) x some is = ap told is

pub placed_told : {T X : Type 0} (told : T → Option X) (items : List T) (x : T) → 0 < length items → told x ≡ slice_index_or (map told (slice_set items 0 x)) 0 None
placed_told told [] x some = absurd (omega (arith, some))
placed_told told (y ∷ items) x some = refl
