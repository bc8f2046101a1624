-- Loads that are dealt out to workers, and what they made of them.
use Rattle.std.proofs.Common.{◌≡◌, ◌≢◌, ℕ, zero, suc, ◌+◌, ◌<◌, Bool, true, false, List, [], ◌∷◌, ◌++◌, length, get_or, set, map, refl, sym, ap, ◌∙◌, subst, arith, Ok, append_assoc, append-nil, eq-eqb}
use Rattle.std.specs.Prelude.{◌==◌, ◌||◌, All, AllPairs, Contains, IfOk, nat_eq, slice_index_or}
use Rattle.std.specs.List.{AllZip, flat_map, range_with_len}
use Rattle.std.specs.List.Sorted.{IsPermutation}
use Rattle.std.specs.Option.{is_some}
use Rattle.std.specs.Global.{Vec}
use Rattle.std.proofs.lemmas.Bool.Decides.{Decides-eqb}
use Rattle.std.proofs.lemmas.List.{get_or-map, length-map, map-id}
use Rattle.std.proofs.lemmas.List.Elements.{All-cons, All-head, All-nil, All-tail, All-weaker}
use Rattle.std.proofs.lemmas.List.Sorted.{All-permutation, IsPermutation-append_left, IsPermutation-append_right, IsPermutation-map, IsPermutation-middle, IsPermutation-push_more, IsPermutation-refl, IsPermutation-sym, IsPermutation-to_front, IsPermutation-trans}
use Rattle.std.proofs.lemmas.Map.Keys.{IsDistinct-IsPermutation}
use Rattle.std.proofs.lemmas.Map.Made.{AllPairs-from_IsDistinct, IsDistinct-from_AllPairs}
use Rattle.idx_geom.specs.Region.{HoldsAll}
use Rattle.idx_geom.proofs.RegionSteps.{HasExactly-common}
use Rattle.idx_header.specs.Header.{HeaderValue, IsHeader}
use Rattle.idx_pieces.specs.Pieces.{IsPiece, front_bounds, piece_region}
use Rattle.idx_pieces.specs.declared.piece.Piece.{Piece}
use Rattle.idx_pieces.specs.declared.shipment.Shipment.{Shipment}
use Rattle.idx_dock.specs.Dock.{DockValue}
use Rattle.idx_ranks.specs.Loads.{HoldsLoad, IsLoad}
use Rattle.idx_ranks.specs.declared.load.Load.{Load}
use Rattle.idx_aggregate.specs.Docks.{AreReady, Gain, Gains, IsReady, has_id, pieces_in}
use Rattle.idx_aggregate.specs.Shipping.{AreAllMade, AreMade, AreShipping, CanTake, with_one, with_shipments}
use Rattle.idx_aggregate.specs.Jobs.{AreDealt, AreDelivering, AreMaking, Does, IsDone, MayRun, loads_of}
use Rattle.idx_aggregate.specs.declared.job.Job.{Job}
use Rattle.idx_aggregate.proofs.AwaitedLemmas.{All-back, All-front}
use Rattle.idx_aggregate.proofs.DeliveryLemmas.{map_both}
use Rattle.idx_aggregate.proofs.GainLemmas.{none_has, shipping_all, shipping_none}
use Rattle.idx_aggregate.proofs.ShipLemmas.{can_take, shipping_next}

length-range : (a n : ℕ) → length (range_with_len a n) ≡ n
length-range a zero = refl
length-range a (suc n) = ap suc (length-range (a + 1) n)

-- a piece lies in the box
pub piece_inside : (h : HeaderValue) (piece : Piece) → IsPiece h piece → HoldsAll h.box piece.region
piece_inside h piece is =
    let front : List (ℕ × ℕ) = map (front_bounds h.mask is.e piece.id) (range_with_len 0 (length h.box)) in
    let axes : length h.box ≡ length front =
    sym (length-map (range_with_len 0 (length h.box)) (front_bounds h.mask is.e piece.id) ∙ length-range 0 (length h.box)) in
    let inside : HoldsAll h.box (piece_region h.mask h.box is.e piece.id) = λ p here. ((HasExactly-common h.box front axes p).0 here).0 in
    subst (HoldsAll h.box) (sym (ap (λ (piece : Piece). piece.region) is.is)) inside

-- ---- loads are dealt out

-- a worker without loads
both_nil : (xs ys : List Load) → xs ++ ys ≡ [] → (xs ≡ []) × (ys ≡ [])
both_nil [] ys none = (refl, none)
both_nil (x ∷ xs) ys none = let wrong : x ∷ (xs ++ ys) ≡ [] = none in absurd (cc)

all_idle : (job : Job) (jobs : List Job) → job.loads.items ≡ [] → loads_of jobs ≡ [] → loads_of (jobs ++ job ∷ []) ≡ []
all_idle job [] idle none = ap (λ xs. xs ++ []) idle
all_idle job (x ∷ jobs) idle none =
    let both = both_nil x.loads.items (loads_of jobs) none in
    ap (λ xs. xs ++ loads_of (jobs ++ job ∷ [])) both.0 ∙ all_idle job jobs idle both.1

pub idle_more : (jobs new : List Job) (job : Job) → job.loads.items ≡ [] → new ≡ jobs ++ job ∷ [] → loads_of jobs ≡ [] → loads_of new ≡ []
idle_more jobs new job idle pushed none = ap loads_of pushed ∙ all_idle job jobs idle none

-- a worker gets a load more
pub given_at : (jobs : List Job) (i : ℕ) (load : Load) (job : Job) → i < length jobs → job.loads.items ≡ (get_or jobs i job).loads.items ++ load ∷ [] →
    IsPermutation (load ∷ loads_of jobs) (loads_of (set jobs i job))
given_at [] i load job within more = absurd (omega arith)
given_at (x ∷ jobs) zero load job within more =
    let own : List Load = x.loads.items in
    subst (λ front. IsPermutation (load ∷ (own ++ loads_of jobs)) (front ++ loads_of jobs)) (sym more)
    (IsPermutation-append_left (loads_of jobs) (load ∷ own) (own ++ load ∷ []) (IsPermutation-sym (own ++ load ∷ []) (load ∷ own) (IsPermutation-to_front own load)))
given_at (x ∷ jobs) (suc i) load job within more =
    let own : List Load = x.loads.items in
    IsPermutation-trans (load ∷ (own ++ loads_of jobs)) (own ++ load ∷ loads_of jobs) (own ++ loads_of (set jobs i job))
    (IsPermutation-sym (own ++ load ∷ loads_of jobs) (load ∷ (own ++ loads_of jobs)) (IsPermutation-middle own load (loads_of jobs)))
    (IsPermutation-append_right own (load ∷ loads_of jobs) (loads_of (set jobs i job)) (given_at jobs i load job (omega arith) more))

pub dealt_none : (loads all : List Load) (jobs : List Job) → all ≡ loads → loads_of jobs ≡ [] → AreDealt loads all jobs
dealt_none loads all jobs is none = record { done = []; is = is; dealt = subst (IsPermutation []) (sym none) (IsPermutation-refl []) }

pub dealt_next : (loads rest left : List Load) (load : Load) (jobs new : List Job) → rest ≡ load ∷ left → IsPermutation (load ∷ loads_of jobs) (loads_of new) → AreDealt loads rest jobs → AreDealt loads left new
dealt_next loads rest left load jobs new is given dealt = record {
  done = dealt.done ++ load ∷ [];
  is = append_assoc dealt.done (load ∷ []) left ∙ ap (λ xs. dealt.done ++ xs) (sym is) ∙ dealt.is;
  dealt = IsPermutation-push_more dealt.done (loads_of jobs) (loads_of new) load dealt.dealt given;
}

pub dealt_all : (loads rest : List Load) (jobs : List Job) → rest ≡ [] → AreDealt loads rest jobs → IsPermutation loads (loads_of jobs)
dealt_all loads rest jobs none dealt =
    let all : dealt.done ≡ loads = sym (append-nil dealt.done) ∙ ap (λ xs. dealt.done ++ xs) (sym none) ∙ dealt.is in
    subst (λ xs. IsPermutation xs (loads_of jobs)) all dealt.dealt

pub may_run : (h : HeaderValue) (loads : List Load) (jobs : List Job) → IsPermutation loads (loads_of jobs) → All (IsLoad h) loads → All (MayRun h) jobs
may_run h loads jobs moved valid = each jobs (All-permutation (IsLoad h) loads (loads_of jobs) moved valid)
  where
    each : (jobs : List Job) → All (IsLoad h) (loads_of jobs) → All (MayRun h) jobs
    each [] all = All-nil (MayRun h)
    each (job ∷ jobs) all =
        All-cons (MayRun h) job jobs (All-front (IsLoad h) job.loads.items (loads_of jobs) all) (each jobs (All-back (IsLoad h) job.loads.items (loads_of jobs) all))

-- ---- the order of loads

abbrev Differ : ℕ → ℕ → Type 0
Differ x y = x ≢ y

abbrev Apart : Piece → Piece → Type 0
Apart one other = one.id ≢ other.id

-- numbers that differ still do in another order
numbers_moved : (xs ys : List ℕ) → IsPermutation xs ys → AllPairs Differ xs → AllPairs Differ ys
numbers_moved xs ys moved apart =
    AllPairs-from_IsDistinct {eq = nat_eq} Decides-eqb ys
    (IsDistinct-IsPermutation nat_eq flips xs ys moved (IsDistinct-from_AllPairs {eq = nat_eq} Decides-eqb xs apart))
  where
    flips : (x y : ℕ) → nat_eq x y ≡ nat_eq y x
    flips x y = grind arith

abbrev id_of : Piece → ℕ
id_of piece = piece.id

apart_moved : (pieces order : List Piece) → IsPermutation pieces order → AllPairs Apart pieces → AllPairs Apart order
apart_moved pieces order moved apart = λ i j d less within same.
    let ids : AllPairs Differ (map id_of order) =
    numbers_moved (map id_of pieces) (map id_of order) (IsPermutation-map id_of pieces order moved)
    (λ i j n less within same.
    let many : length (map id_of pieces) ≡ length pieces = length-map pieces id_of in
    apart i j d less (omega arith) (sym (get_or-map id_of pieces i d n (omega arith)) ∙ same ∙ get_or-map id_of pieces j d n (omega arith))) in
    let many : length (map id_of order) ≡ length order = length-map order id_of in
    ids i j d.id less (omega arith) (get_or-map id_of order i d d.id (omega arith) ∙ same ∙ sym (get_or-map id_of order j d d.id (omega arith)))

has_none : (id : ℕ) (pieces : List Piece) → has_id pieces id ≡ false → All (λ piece. id ≢ piece.id) pieces
has_none id [] none = All-nil (λ (piece : Piece). id ≢ piece.id)
has_none id (p ∷ pieces) none = by_test (id == p.id) refl none (has_none id pieces)
  where
    P : Piece → Type 0
    P piece = id ≢ piece.id

    by_test : (b : Bool) → (id == p.id) ≡ b → (b || has_id pieces id) ≡ false → (has_id pieces id ≡ false → All P pieces) → All P (p ∷ pieces)
    by_test true is none more = let wrong : true ≡ false = none in absurd (cc)
    by_test false is none more = All-cons P p pieces (λ same. let wrong : true ≡ false = sym (eq-eqb id p.id same) ∙ is in absurd (cc)) (more none)

-- loads in another order have the same ids
ids_moved : (loads order : List Load) → IsPermutation loads order → (id : ℕ) → has_id (pieces_in order) id ≡ has_id (pieces_in loads) id
ids_moved loads order moved id = both (has_id (pieces_in order) id) (has_id (pieces_in loads) id) refl refl
  where
    piece_of : Load → Piece
    piece_of load = load.piece

    there : IsPermutation (pieces_in loads) (pieces_in order)
    there = IsPermutation-map piece_of loads order moved

    still_none : (pieces others : List Piece) → IsPermutation pieces others → has_id pieces id ≡ false → has_id others id ≡ false
    still_none pieces others moved missing = none_has id others (All-permutation (λ (piece : Piece). id ≢ piece.id) pieces others moved (has_none id pieces missing))

    both : (b c : Bool) → has_id (pieces_in order) id ≡ b → has_id (pieces_in loads) id ≡ c → b ≡ c
    both true true is same = refl
    both false false is same = refl
    both true false is same = sym is ∙ still_none (pieces_in loads) (pieces_in order) there same
    both false true is same = sym (still_none (pieces_in order) (pieces_in loads) (IsPermutation-sym (pieces_in loads) (pieces_in order) there) is) ∙ same

-- docks that are ready for loads are so in any order
ready_moved : (h : HeaderValue) (loads order : List Load) (docks : List DockValue) → IsPermutation loads order → AreReady h (pieces_in loads) docks → AreReady h (pieces_in order) docks
ready_moved h loads order docks moved ready =
    let there : IsPermutation (pieces_in loads) (pieces_in order) = IsPermutation-map (λ (load : Load). load.piece) loads order moved in
    record {
      division = ready.division;
      is = ready.is;
      among = All-permutation (Contains ready.division) (pieces_in loads) (pieces_in order) there ready.among;
      apart = apart_moved (pieces_in loads) (pieces_in order) there ready.apart;
      each = All-weaker (IsReady h ready.division (pieces_in loads)) (IsReady h ready.division (pieces_in order)) one docks ready.each;
      files = ready.files;
    }
  where
    one : {division : List Piece} → (d : DockValue) → IsReady h division (pieces_in loads) d → IsReady h division (pieces_in order) d
    one d is = record {
      header = is.header;
      file = is.file;
      awaited = is.awaited;
      none = λ k a within due. is.none k a within (sym (ids_moved loads order moved (slice_index_or d.awaited k a).piece) ∙ due);
    }

-- what docks gain does not depend on the order of the loads
pub gain_moved : (h : HeaderValue) (loads order : List Load) (old new : List DockValue) → IsPermutation loads order → Gain h order old new → Gain h loads old new
gain_moved h loads order [] [] moved gain = tt
gain_moved h loads order [] (d ∷ new) moved gain = absurd gain
gain_moved h loads order (d ∷ old) [] moved gain = absurd gain
gain_moved h loads order (d ∷ old) (e ∷ new) moved gain = (one gain.0, gain_moved h loads order old new moved gain.1)
  where
    one : Gains h order d e → Gains h loads d e
    one is = record {
      header = is.header;
      file = is.file;
      awaited = is.awaited;
      delivered = is.delivered ∙ (λ i. map (λ a. is_some a.runs || ids_moved loads order moved a.piece i) d.awaited);
      samples = λ sample are held old. is.samples sample are (All-permutation (HoldsLoad h sample) loads order moved held) old;
    }

-- ---- the shipments of several loads

-- one load more
pub made_more : (h : HeaderValue) (loads : List Load) (load : Load) (made more : List Shipment) → AreAllMade h loads made → AreMade h load more → AreAllMade h (loads ++ load ∷ []) (made ++ more)
made_more h [] load made more all are = (more, ([], (ap (λ xs. xs ++ more) all ∙ sym (append-nil more), (are, refl))))
made_more h (x ∷ loads) load made more all are =
    (all.0, (all.1.0 ++ more, (ap (λ xs. xs ++ more) all.1.1.0 ∙ append_assoc all.0 all.1.0 more, (all.1.1.1.0, made_more h loads load all.1.0 more all.1.1.1.1 are))))

pub making_none : (h : HeaderValue) (loads : List Load) (made : List Shipment) → made ≡ [] → All (IsLoad h) loads → AreMaking h loads loads made
making_none h loads made none valid = record { done = []; is = refl; valid = valid; shipments = none }

pub making_next : (h : HeaderValue) (loads left rest : List Load) (load : Load) (made more new : List Shipment) → left ≡ load ∷ rest → AreMade h load more → new ≡ made ++ more →
    AreMaking h loads left made → AreMaking h loads rest new
making_next h loads left rest load made more new is are pushed making = record {
  done = making.done ++ load ∷ [];
  is = append_assoc making.done (load ∷ []) rest ∙ ap (λ xs. making.done ++ xs) (sym is) ∙ making.is;
  valid = All-tail (IsLoad h) load rest (subst (All (IsLoad h)) is making.valid);
  shipments = subst (AreAllMade h (making.done ++ load ∷ [])) (sym pushed) (made_more h making.done load made more making.shipments are);
}

pub making_first : (h : HeaderValue) (loads left rest : List Load) (load : Load) (made : List Shipment) → left ≡ load ∷ rest → AreMaking h loads left made → IsLoad h load
making_first h loads left rest load made is making = All-head (IsLoad h) load rest (subst (All (IsLoad h)) is making.valid)

pub making_all : (h : HeaderValue) (loads left : List Load) (made : List Shipment) → left ≡ [] → AreMaking h loads left made → AreAllMade h loads made
making_all h loads left made none making =
    subst (λ loads. AreAllMade h loads made) (sym (append-nil making.done) ∙ ap (λ xs. making.done ++ xs) (sym none) ∙ making.is) making.shipments

can_both : (first others : List Shipment) (d : DockValue) → CanTake first d → CanTake others (with_shipments first d) → CanTake (first ++ others) d
can_both [] others d one two = two
can_both (s ∷ first) others d one two = (one.0, can_both first others (with_one s d) one.1 two)

with_both : (first others : List Shipment) (d : DockValue) → with_shipments (first ++ others) d ≡ with_shipments others (with_shipments first d)
with_both [] others d = refl
with_both (s ∷ first) others d = with_both first others (with_one s d)

-- the docks take what a worker made of its loads, which then are shipped
record IsTaken (h : HeaderValue) (loads left : List Load) (made : List Shipment) (old docks : List DockValue) : Type 0 where
  can : All (CanTake made) docks
  then : AreShipping h loads left old (map (with_shipments made) docks)

taken_more : (h : HeaderValue) (loads left : List Load) (first others made : List Shipment) (old docks : List DockValue) → made ≡ first ++ others → All (CanTake first) docks →
    IsTaken h loads left others old (map (with_shipments first) docks) → IsTaken h loads left made old docks
taken_more h loads left first others made old docks is one rest =
    subst (λ made. IsTaken h loads left made old docks) (sym is) (record {
      can = λ k d within.
          let many : length (map (with_shipments first) docks) ≡ length docks = length-map docks (with_shipments first) in
          can_both first others (get_or docks k d) (one k d within) (subst (CanTake others) (get_or-map (with_shipments first) docks k d d within) (rest.can k d (omega arith)));
      then = subst (AreShipping h loads left old)
          (map_both (with_shipments others) (with_shipments first) docks ∙ sym (λ i. map (λ d. with_both first others d i) docks)) rest.then;
    })

taken_all : (h : HeaderValue) (loads hand left : List Load) (made : List Shipment) (old docks : List DockValue) → IsHeader h → AreAllMade h hand made → AreShipping h loads (hand ++ left) old docks →
    IsTaken h loads left made old docks
taken_all h loads [] left made old docks valid all shipping =
    subst (λ made. IsTaken h loads left made old docks) (sym all) (record {
      can = λ k d within. tt;
      then = subst (AreShipping h loads left old) (sym (map-id docks)) shipping;
    })
taken_all h loads (load ∷ hand) left made old docks valid all shipping =
    let first : List Shipment = all.0 in
    let others : List Shipment = all.1.0 in
    let are : AreMade h load first = all.1.1.1.0 in
    taken_more h loads left first others made old docks all.1.1.0 (can_take h load (hand ++ left) first docks valid are shipping.ready)
    (taken_all h loads hand left others old (map (with_shipments first) docks) valid all.1.1.1.1
    (shipping_next h load (hand ++ left) first docks valid are loads old shipping))

-- ---- what workers made is handed on

abbrev hands_of : List Job → List (List Load)
hands_of jobs = map (λ job. job.loads.items) jobs

all_done : (h : HeaderValue) (jobs ran : List Job) → length ran ≡ length jobs → ((i : ℕ) (d : Job) → i < length jobs → Does h (slice_index_or jobs i d) (slice_index_or ran i d)) → AllZip (IsDone h) (hands_of jobs) ran
all_done h [] [] many each = tt
all_done h [] (job ∷ ran) many each = absurd (omega arith)
all_done h (job ∷ jobs) [] many each = absurd (omega arith)
all_done h (job ∷ jobs) (new ∷ ran) many each = (each 0 job (omega arith), all_done h jobs ran (omega arith) (λ i d within. each (suc i) d (omega arith)))

pub delivering_none : (h : HeaderValue) (loads : List Load) (jobs ran all : List Job) (docks : List DockValue) → IsPermutation loads (loads_of jobs) → All (IsLoad h) loads → AreReady h (pieces_in loads) docks →
    length ran ≡ length jobs → ((i : ℕ) (d : Job) → i < length jobs → Does h (slice_index_or jobs i d) (slice_index_or ran i d)) → all ≡ ran → AreDelivering h loads all docks docks
delivering_none h loads jobs ran all docks moved valid ready many each is =
    let order : List Load = loads_of jobs in
    let flat : flat_map (λ (hand : List Load). hand) (hands_of jobs) ≡ order = hands_flat jobs in
    record {
      order = order;
      moved = moved;
      hands = hands_of jobs;
      done = subst (AllZip (IsDone h) (hands_of jobs)) (sym is) (all_done h jobs ran many each);
      shipping = subst (λ left. AreShipping h order left docks docks) (sym flat)
          (shipping_none h order docks (All-permutation (IsLoad h) loads order moved valid) (ready_moved h loads order docks moved ready));
    }
  where
    hands_flat : (jobs : List Job) → flat_map (λ (hand : List Load). hand) (hands_of jobs) ≡ loads_of jobs
    hands_flat [] = refl
    hands_flat (job ∷ jobs) = ap (λ xs. job.loads.items ++ xs) (hands_flat jobs)

-- what the first worker made can be delivered, and then it is shipped
pub record IsDeliverable (h : HeaderValue) (loads : List Load) (rest : List Job) (made : List Shipment) (old docks : List DockValue) : Type 0 where
  pub take : All (CanTake made) docks
  pub next : (new : List DockValue) → new ≡ map (with_shipments made) docks → AreDelivering h loads rest old new

pub deliverable : (h : HeaderValue) (loads : List Load) (all rest : List Job) (job : Job) (made : Vec Shipment) (old docks : List DockValue) → IsHeader h → all ≡ job ∷ rest → job.made ≡ Ok made →
    AreDelivering h loads all old docks → IsDeliverable h loads rest made.items old docks
deliverable h loads all rest job made old docks valid is given delivering =
    of_hands delivering.hands (subst (AllZip (IsDone h) delivering.hands) is delivering.done) delivering.shipping
  where
    of_hands : (hands : List (List Load)) → AllZip (IsDone h) hands (job ∷ rest) → AreShipping h delivering.order (flat_map (λ hand. hand) hands) old docks → IsDeliverable h loads rest made.items old docks
    of_hands [] done shipping = absurd done
    of_hands (hand ∷ hands) done shipping =
        let all : AreAllMade h hand made.items = subst (λ made. IfOk made (λ made. AreAllMade h hand made.items)) given done.0 in
        let taken = taken_all h delivering.order hand (flat_map (λ hand. hand) hands) made.items old docks valid all shipping in
        record {
          take = taken.can;
          next = λ new is. record {
            order = delivering.order;
            moved = delivering.moved;
            hands = hands;
            done = done.1;
            shipping = subst (AreShipping h delivering.order (flat_map (λ hand. hand) hands) old) (sym is) taken.then;
          };
        }

pub delivering_all : (h : HeaderValue) (loads : List Load) (all : List Job) (old docks : List DockValue) → all ≡ [] → AreDelivering h loads all old docks → Gain h loads old docks
delivering_all h loads all old docks none delivering =
    of_hands delivering.hands (subst (AllZip (IsDone h) delivering.hands) none delivering.done) delivering.shipping
  where
    of_hands : (hands : List (List Load)) → AllZip (IsDone h) hands [] → AreShipping h delivering.order (flat_map (λ hand. hand) hands) old docks → Gain h loads old docks
    of_hands [] done shipping = gain_moved h loads delivering.order old docks delivering.moved (shipping_all h delivering.order old docks shipping)
    of_hands (hand ∷ hands) done shipping = absurd done
