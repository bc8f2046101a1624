-- One block more of an answer.
use Rattle.std.proofs.Common.{◌≡◌, ℕ, zero, suc, ◌+◌, ◌-◌, ◌*◌, ◌/◌, ◌%◌, ◌^◌, ◌<◌, ◌≤◌, Bool, true, false, cond, eqb, List, [], ◌∷◌, ◌++◌, length, take, drop, get_or, Some, None, refl, sym, ap, ◌∙◌, subst, ⊎_elim, append_assoc, append-nil, arith}
use Rattle.std.specs.Prelude.{Contains, IfSome, Option, slice_get}
use Rattle.std.proofs.lemmas.Bool.{eqb-true, eq-eqb}
use Rattle.std.proofs.lemmas.List.{map_more, take_all}
use Rattle.std.proofs.lemmas.List.Elements.{Contains-push_cases}
use Rattle.std.proofs.lemmas.Option.{slice_get-get_or, slice_get_within}
use Rattle.idx_hall.specs.declared.key.Key.{Key}
use Rattle.std.proofs.lemmas.Nat.{div_below, pow-add, pow_pos}
use Rattle.idx_hz.specs.Address.{hz_address}
use Rattle.idx_hz.proofs.AddressLaws.{hz_address-lt}
use Rattle.idx_scatter.specs.Scatter.{IsScattered, sample_of}
use Rattle.idx_plan.specs.Plan.{PlanValue}
use Rattle.idx_query.specs.Blocks.{AreCopied, blocks_of}

-- the key at a place
abbrev pub key_at : List Key → ℕ → Key
key_at keys i = get_or keys i (record { time = 0; field = 0; block = 0 })

pub key-stands : (keys : List Key) (i : ℕ) → i < length keys → slice_get keys i ≡ Some (key_at keys i)
key-stands keys i within = slice_get-get_or keys i (record { time = 0; field = 0; block = 0 }) within

-- the blocks of the first keys, with one more
blocks-more : (keys : List Key) (i : ℕ) → i < length keys → blocks_of (take (i + 1) keys) ≡ blocks_of (take i keys) ++ (key_at keys i).block ∷ []
blocks-more keys i within = map_more (λ (key : Key). key.block) keys i (record { time = 0; field = 0; block = 0 }) within

-- ---- what is copied

-- of the blocks that are known these are copied
abbrev pub KnownCopied : Option (ℕ → ℕ → List ℕ) → PlanValue → ℕ → List ℕ → List ℕ → Type 0
KnownCopied known plan field blocks out = IfSome known (λ stored. AreCopied plan (stored field) blocks out)

-- beside those that were copied before, of the blocks that are known these are copied
abbrev pub KnownCopiedTo : Option (ℕ → ℕ → List ℕ) → PlanValue → ℕ → List ℕ → List ℕ → List ℕ → Type 0
KnownCopiedTo known plan field blocks old out = IfSome known (λ stored. (done : List ℕ) → AreCopied plan (stored field) done old → AreCopied plan (stored field) (done ++ blocks) out)

pub copied-first : (known : Option (ℕ → ℕ → List ℕ)) (plan : PlanValue) (field : ℕ) (out : List ℕ) → KnownCopiedTo known plan field (blocks_of (take 0 plan.keys)) out out
copied-first None plan field out = tt
copied-first (Some stored) plan field out = λ done so. subst (λ (bs : List ℕ). AreCopied plan (stored field) bs out) (sym (append-nil done)) so

-- what stands at the place of a point behind one block more
placed : (plan : PlanValue) (stored : ℕ → List ℕ) (blocks : List ℕ) (block : ℕ) (bytes old new : List ℕ) (place : ℕ) (p : List ℕ) → bytes ≡ stored block →
    (Contains blocks (hz_address plan.asked.mask p / 2 ^ plan.bits) → sample_of plan.size old place ≡ sample_of plan.size (stored (hz_address plan.asked.mask p / 2 ^ plan.bits)) (hz_address plan.asked.mask p % 2 ^ plan.bits)) →
    Contains (blocks ++ block ∷ []) (hz_address plan.asked.mask p / 2 ^ plan.bits) → (here : Bool) → eqb (hz_address plan.asked.mask p / 2 ^ plan.bits) block ≡ here →
    sample_of plan.size new place ≡ cond here (sample_of plan.size bytes (hz_address plan.asked.mask p % 2 ^ plan.bits)) (sample_of plan.size old place) →
    sample_of plan.size new place ≡ sample_of plan.size (stored (hz_address plan.asked.mask p / 2 ^ plan.bits)) (hz_address plan.asked.mask p % 2 ^ plan.bits)
placed plan stored blocks block bytes old new place p known before has true here put =
    let own : hz_address plan.asked.mask p / 2 ^ plan.bits ≡ block = eqb-true (hz_address plan.asked.mask p / 2 ^ plan.bits) block here in
    put ∙ ap (λ (b : List ℕ). sample_of plan.size b (hz_address plan.asked.mask p % 2 ^ plan.bits)) (known ∙ ap stored (sym own))
placed plan stored blocks block bytes old new place p known before has false here put =
    put ∙ before (⊎_elim
    (λ (among : Contains blocks (hz_address plan.asked.mask p / 2 ^ plan.bits)). among)
    (λ (own : block ≡ hz_address plan.asked.mask p / 2 ^ plan.bits). absurd (apart (sym (eq-eqb (hz_address plan.asked.mask p / 2 ^ plan.bits) block (sym own)) ∙ here)))
    (Contains-push_cases blocks block (hz_address plan.asked.mask p / 2 ^ plan.bits) has))
  where
    apart : true ≡ false → ⊥
    apart e = cc

pub copied-more : (known : Option (ℕ → ℕ → List ℕ)) (plan : PlanValue) (field i : ℕ) (bytes start old new : List ℕ) → i < length plan.keys → IsScattered plan.asked plan.bits (key_at plan.keys i).block plan.size bytes old new →
    IfSome known (λ stored. bytes ≡ stored field (key_at plan.keys i).block) → KnownCopiedTo known plan field (blocks_of (take i plan.keys)) start old → KnownCopiedTo known plan field (blocks_of (take (i + 1) plan.keys)) start new
copied-more None plan field i bytes start old new within scattered is before = tt
copied-more (Some stored) plan field i bytes start old new within scattered is before = λ done so place p at has.
    let one_more : done ++ blocks_of (take (i + 1) plan.keys) ≡ (done ++ blocks_of (take i plan.keys)) ++ (key_at plan.keys i).block ∷ [] =
    ap (λ (bs : List ℕ). done ++ bs) (blocks-more plan.keys i within) ∙ sym (append_assoc done (blocks_of (take i plan.keys)) ((key_at plan.keys i).block ∷ [])) in
    placed plan (stored field) (done ++ blocks_of (take i plan.keys)) (key_at plan.keys i).block bytes old new place p is (before done so place p at)
    (subst (λ (bs : List ℕ). Contains bs (hz_address plan.asked.mask p / 2 ^ plan.bits)) one_more has)
    (eqb (hz_address plan.asked.mask p / 2 ^ plan.bits) (key_at plan.keys i).block) refl (scattered place p at)

-- behind the last key all are copied
pub blocks-all : (keys : List Key) (i : ℕ) → length keys ≤ i → blocks_of (take i keys) ≡ blocks_of keys
blocks-all keys i past = ap blocks_of (take_all i keys past)

pub copied-all : (known : Option (ℕ → ℕ → List ℕ)) (plan : PlanValue) (field i : ℕ) (old out : List ℕ) → length plan.keys ≤ i → KnownCopiedTo known plan field (blocks_of (take i plan.keys)) old out → KnownCopiedTo known plan field (blocks_of plan.keys) old out
copied-all known plan field i old out past = subst (λ (bs : List ℕ). KnownCopiedTo known plan field bs old out) (blocks-all plan.keys i past)

-- nothing is copied yet
pub none-copied : (plan : PlanValue) (stored : ℕ → List ℕ) (out : List ℕ) → AreCopied plan stored [] out
none-copied plan stored out = λ place p at has. absurd (omega (arith, has.1))

-- ---- blocks that agree

-- the block of each address exists
pub block-exists : (mask : List ℕ) (bits : ℕ) (p : List ℕ) → bits ≤ length mask → hz_address mask p / 2 ^ bits < 2 ^ (length mask - bits)
block-exists mask bits p within =
    let split : length mask ≡ (length mask - bits) + bits = omega (arith, within) in
    let all : hz_address mask p < 2 ^ (length mask - bits) * 2 ^ bits =
    subst (λ m. hz_address mask p < m) (ap (λ m. 2 ^ m) split ∙ pow-add 2 (length mask - bits) bits) (hz_address-lt mask p) in
    div_below (hz_address mask p) (2 ^ bits) (2 ^ (length mask - bits)) (pow_pos bits) all

-- what is copied of some blocks is copied of others that agree
pub copied-agree : (plan : PlanValue) (these those : ℕ → List ℕ) (blocks out : List ℕ) → plan.bits ≤ length plan.asked.mask → ((b : ℕ) → b < 2 ^ (length plan.asked.mask - plan.bits) → these b ≡ those b) →
    AreCopied plan these blocks out → AreCopied plan those blocks out
copied-agree plan these those blocks out few same so = λ place p at has.
    so place p at has
    ∙ ap (λ (bytes : List ℕ). sample_of plan.size bytes (hz_address plan.asked.mask p % 2 ^ plan.bits)) (same (hz_address plan.asked.mask p / 2 ^ plan.bits) (block-exists plan.asked.mask plan.bits p few))

-- ---- a part of a list

at_taken : {A : Type 0} (m : ℕ) (xs : List A) (i : ℕ) (x : A) → slice_get (take m xs) i ≡ Some x → slice_get xs i ≡ Some x
at_taken zero xs i x at = absurd (omega (arith, slice_get_within [] i x at))
at_taken (suc m) [] i x at = absurd (omega (arith, slice_get_within [] i x at))
at_taken (suc m) (y ∷ xs) zero x at = at
at_taken (suc m) (y ∷ xs) (suc i) x at = at_taken m xs i x at

at_dropped : {A : Type 0} (f : ℕ) (xs : List A) (i : ℕ) (x : A) → slice_get (drop f xs) i ≡ Some x → slice_get xs (f + i) ≡ Some x
at_dropped zero xs i x at = let same : i ≡ 0 + i = omega arith in subst (λ n. slice_get xs n ≡ Some x) same at
at_dropped (suc f) [] i x at = absurd (omega (arith, slice_get_within [] i x at))
at_dropped (suc f) (y ∷ xs) i x at =
    let next : suc (f + i) ≡ suc f + i = omega arith in
    subst (λ n. slice_get (y ∷ xs) n ≡ Some x) next (at_dropped f xs i x at)

-- what a part of a list has at a place stands in the list behind its start
pub part-at : {A : Type 0} (f m : ℕ) (xs : List A) (i : ℕ) (x : A) → slice_get (take m (drop f xs)) i ≡ Some x → slice_get xs (f + i) ≡ Some x
part-at f m xs i x at = at_dropped f xs i x (at_taken m (drop f xs) i x at)
