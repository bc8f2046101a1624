-- The queues of the ranks, from which the parcels of the last piece are taken.
use Rattle.std.proofs.Common.{◌≡◌, ◌≢◌, ℕ, suc, set, Option, Some, ◌+◌, ◌-◌, ◌<◌, ◌≤◌, Bool, true, false, cond, List, [], ◌∷◌, ◌++◌, length, map, take, drop, get_or, refl, sym, ap, ◌∙◌, arith, subst, ⊎_elim, eq-eqb, ne_eqb, append-nil}
use Rattle.std.specs.Prelude.{◌==◌, ◌||◌, All, Contains, IfSome}
use Rattle.std.specs.Global.{Vec}
use Rattle.std.specs.Option.{option_to_list}
use Rattle.std.specs.List.{list_any, range_with_len}
use Rattle.std.proofs.lemmas.Bool.{cases_eq}
use Rattle.std.proofs.lemmas.List.{drop_all, drop_more, get_or-map, get_or-set_other, get_or-set_same, length-append, length-map, map-append, map-set, take_all, take_more}
use Rattle.std.proofs.lemmas.List.Elements.{All-pop, All-set, Contains-get_or, filter-append}
use Rattle.idx_header.specs.Header.{HeaderValue}
use Rattle.idx_pieces.specs.Parcels.{IsFull, heading_of, meeting, parcel_heading}
use Rattle.idx_pieces.specs.Pieces.{IsPiece}
use Rattle.idx_pieces.specs.Ranks.{meets, rank_count, rank_region}
use Rattle.idx_pieces.specs.declared.parcel.Parcel.{Parcel}
use Rattle.idx_pieces.specs.declared.piece.Piece.{Piece}
use Rattle.idx_pieces.proofs.ContainsLemmas.{filter_in, range_in}
use Rattle.idx_pieces.proofs.PartLemmas.{rank_counts}
use Rattle.idx_ranks.specs.Queues.{AllFull, AreQueuesOf, AreQueuesWith, queue_at}
use Rattle.idx_ranks.proofs.ListLemmas.{Rises, any_filtered, last_same, not_behind}

pub split_last : {X : Type 0} (xs : List X) (at : ℕ) (d : X) → at + 1 ≡ length xs → xs ≡ take at xs ++ get_or xs at d ∷ []
split_last xs at d end =
    sym (take_all (at + 1) xs (omega arith)) ∙ take_more xs at d (omega arith)

any_here : (x : ℕ) (xs : List ℕ) → list_any (λ y. y == x) (x ∷ xs) ≡ true
any_here x xs = ap (λ (b : Bool). b || list_any (λ y. y == x) xs) (eq-eqb x x refl)

any_there : (x other : ℕ) (xs : List ℕ) → other ≢ x → list_any (λ y. y == x) (other ∷ xs) ≡ list_any (λ y. y == x) xs
any_there x other xs differ = ap (λ (b : Bool). b || list_any (λ y. y == x) xs) (ne_eqb other x differ)

-- a piece has a rank exactly where the rank's region meets it
any_met : (h : HeaderValue) (piece : Piece) (rank : ℕ) → IsPiece h piece → rank < rank_count h.box piece.of_ranks →
    list_any (λ r. r == rank) piece.ranks ≡ meets (rank_region h.box piece.of_ranks rank) piece.region
any_met h piece rank is among =
    subst (λ (q : Piece). list_any (λ r. r == rank) q.ranks ≡ meets (rank_region h.box piece.of_ranks rank) q.region) (sym is.is)
    (any_filtered _ (range_with_len 0 (rank_count h.box piece.of_ranks)) rank _ refl
    (λ met. filter_in _ (range_with_len 0 (rank_count h.box piece.of_ranks)) rank (range_in (rank_count h.box piece.of_ranks) rank among) met))

-- what a rank has of some pieces
abbrev Heading : Type 0
Heading = ℕ × (ℕ × List (ℕ × ℕ))

abbrev base : List (ℕ × ℕ) → ℕ → List Piece → ℕ → List Heading
base box n pieces rank = map (heading_of rank (rank_region box n rank)) (meeting (rank_region box n rank) pieces)

abbrev one : List (ℕ × ℕ) → ℕ → Piece → ℕ → Heading
one box n piece rank = heading_of rank (rank_region box n rank) piece

map_if : (f : Piece → Heading) (piece : Piece) (b : Bool) → map f (cond b (piece ∷ []) []) ≡ cond b (f piece ∷ []) []
map_if f piece true = refl
map_if f piece false = refl

base_last : (box : List (ℕ × ℕ)) (n : ℕ) (front : List Piece) (piece : Piece) (rank : ℕ) →
    base box n (front ++ piece ∷ []) rank ≡ base box n front rank ++ cond (meets (rank_region box n rank) piece.region) (one box n piece rank ∷ []) []
base_last box n front piece rank =
    let f : Piece → Heading = heading_of rank (rank_region box n rank) in
    let b : Bool = meets (rank_region box n rank) piece.region in
    ap (map f) (filter-append (λ (q : Piece). meets (rank_region box n rank) q.region) front (piece ∷ []))
    ∙ map-append f (meeting (rank_region box n rank) front) (cond b (piece ∷ []) [])
    ∙ ap (λ (rest : List Heading). base box n front rank ++ rest) (map_if f piece b)

-- before the parcels of a piece are taken
pub queues_first : (h : HeaderValue) (n : ℕ) (pieces front : List Piece) (piece : Piece) (queues : List (Vec Parcel)) →
    AreQueuesOf h.box n pieces queues → pieces ≡ front ++ piece ∷ [] → IsPiece h piece → piece.of_ranks ≡ n → AreQueuesWith h.box n front piece piece.ranks queues
queues_first h n pieces front piece queues are split is of = record {
  each = λ rank among.
      let test : list_any (λ r. r == rank) piece.ranks ≡ meets (rank_region h.box n rank) piece.region =
      subst (λ (m : ℕ). rank < rank_count h.box m → list_any (λ r. r == rank) piece.ranks ≡ meets (rank_region h.box m rank) piece.region) of (any_met h piece rank is) among in
      are.each rank among
      ∙ ap (λ (ps : List Piece). base h.box n ps rank) split
      ∙ base_last h.box n front piece rank
      ∙ ap (λ (b : Bool). base h.box n front rank ++ cond b (one h.box n piece rank ∷ []) []) (sym test);
}

-- once they are taken
pub queues_last : (box : List (ℕ × ℕ)) (n : ℕ) (front : List Piece) (piece : Piece) (ranks : List ℕ) (k : ℕ) (queues : List (Vec Parcel)) →
    AreQueuesWith box n front piece (drop k ranks) queues → length ranks ≤ k → AreQueuesOf box n front queues
queues_last box n front piece ranks k queues are past = record {
  each = λ rank among.
      are.each rank among
      ∙ ap (λ (rs : List ℕ). base box n front rank ++ cond (list_any (λ r. r == rank) rs) (one box n piece rank ∷ []) []) (drop_all k ranks past)
      ∙ append-nil (base box n front rank);
}

-- the queue of the next rank ends with its parcel
pub next_is : (box : List (ℕ × ℕ)) (n : ℕ) (front : List Piece) (piece : Piece) (ranks : List ℕ) (k rank : ℕ) (queues : List (Vec Parcel)) →
    AreQueuesWith box n front piece (drop k ranks) queues → k < length ranks → rank ≡ get_or ranks k 0 → rank < rank_count box n →
    map parcel_heading (queue_at queues rank) ≡ base box n front rank ++ one box n piece rank ∷ []
next_is box n front piece ranks k rank queues are lt at among =
    let here : drop k ranks ≡ rank ∷ drop (k + 1) ranks = drop_more ranks k 0 lt ∙ ap (λ (r : ℕ). r ∷ drop (k + 1) ranks) (sym at) in
    are.each rank among
    ∙ ap (λ (rs : List ℕ). base box n front rank ++ cond (list_any (λ r. r == rank) rs) (one box n piece rank ∷ []) []) here
    ∙ ap (λ (b : Bool). base box n front rank ++ cond b (one box n piece rank ∷ []) []) (any_here rank (drop (k + 1) ranks))

pub some_left : (box : List (ℕ × ℕ)) (n : ℕ) (front : List Piece) (piece : Piece) (ranks : List ℕ) (k rank : ℕ) (queues : List (Vec Parcel)) →
    AreQueuesWith box n front piece (drop k ranks) queues → k < length ranks → rank ≡ get_or ranks k 0 → rank < rank_count box n → 0 < length (queue_at queues rank)
some_left box n front piece ranks k rank queues are lt at among =
    let next = next_is box n front piece ranks k rank queues are lt at among in
    omega (arith, length-map (queue_at queues rank) parcel_heading, ap length next, length-append (base box n front rank) (one box n piece rank ∷ []))

-- it is taken
pub record IsTaken (box : List (ℕ × ℕ)) (n : ℕ) (front : List Piece) (piece : Piece) (rest : List ℕ) (rank : ℕ) (left : List (Vec Parcel)) (parcel : Parcel) : Type 0 where
  pub queues : AreQueuesWith box n front piece rest left
  pub heading : parcel_heading parcel ≡ heading_of rank (rank_region box n rank) piece

pub taken : (box : List (ℕ × ℕ)) (n : ℕ) (front : List Piece) (piece : Piece) (ranks : List ℕ) (k rank : ℕ) (old new : List (Vec Parcel)) (parcel : Parcel) →
    AreQueuesWith box n front piece (drop k ranks) old → Rises ranks → k < length ranks → rank ≡ get_or ranks k 0 → rank < rank_count box n →
    queue_at old rank ≡ queue_at new rank ++ parcel ∷ [] → ((i : ℕ) → i ≢ rank → queue_at new i ≡ queue_at old i) →
    IsTaken box n front piece (drop (k + 1) ranks) rank new parcel
taken box n front piece ranks k rank old new parcel are rises lt at among popped others =
    let next = next_is box n front piece ranks k rank old are lt at among in
    let split : map parcel_heading (queue_at new rank) ++ parcel_heading parcel ∷ [] ≡ base box n front rank ++ one box n piece rank ∷ [] =
    sym (ap (map parcel_heading) popped ∙ map-append parcel_heading (queue_at new rank) (parcel ∷ [])) ∙ next in
    let both = last_same (map parcel_heading (queue_at new rank)) (base box n front rank) (parcel_heading parcel) (one box n piece rank) split in
    record {
      queues = record { each = λ i inside. ⊎_elim (here both.0 i) (there i inside) (cases_eq i rank) };
      heading = both.1;
    }
  where
    none : list_any (λ r. r == rank) (drop (k + 1) ranks) ≡ false
    none = subst (λ (r : ℕ). list_any (λ y. y == r) (drop (k + 1) ranks) ≡ false) (sym at)
        (subst (λ (m : ℕ). list_any (λ y. y == get_or ranks k 0) (drop m ranks) ≡ false) step (not_behind ranks k rises lt))
      where
        step : suc k ≡ k + 1
        step = omega arith

    here : map parcel_heading (queue_at new rank) ≡ base box n front rank → (i : ℕ) → i ≡ rank →
        map parcel_heading (queue_at new i) ≡ base box n front i ++ cond (list_any (λ r. r == i) (drop (k + 1) ranks)) (one box n piece i ∷ []) []
    here left i same =
        subst (λ (j : ℕ). map parcel_heading (queue_at new j) ≡ base box n front j ++ cond (list_any (λ r. r == j) (drop (k + 1) ranks)) (one box n piece j ∷ []) []) (sym same)
        (left ∙ sym (append-nil (base box n front rank))
        ∙ ap (λ (b : Bool). base box n front rank ++ cond b (one box n piece rank ∷ []) []) (sym none))

    there : (i : ℕ) → i < rank_count box n → i ≢ rank →
        map parcel_heading (queue_at new i) ≡ base box n front i ++ cond (list_any (λ r. r == i) (drop (k + 1) ranks)) (one box n piece i ∷ []) []
    there i inside differ =
        let now : drop k ranks ≡ rank ∷ drop (k + 1) ranks = drop_more ranks k 0 lt ∙ ap (λ (r : ℕ). r ∷ drop (k + 1) ranks) (sym at) in
        ap (map parcel_heading) (others i differ)
        ∙ are.each i inside
        ∙ ap (λ (b : Bool). base box n front i ++ cond b (one box n piece i ∷ []) [])
        (ap (list_any (λ r. r == i)) now ∙ any_there i rank (drop (k + 1) ranks) (λ e. differ (sym e)))

-- a rank of a piece has a part
pub rank_within : (h : HeaderValue) (piece : Piece) (ranks : List ℕ) (n k : ℕ) → IsPiece h piece → piece.of_ranks ≡ n → ranks ≡ piece.ranks → k < length ranks →
    get_or ranks k 0 < rank_count h.box n
rank_within h piece ranks n k is of same lt =
    subst (λ (m : ℕ). get_or ranks k 0 < rank_count h.box m) of
    (rank_counts h piece (get_or ranks k 0) h.box is (subst (λ (rs : List ℕ). Contains rs (get_or ranks k 0)) same (Contains-get_or ranks k 0 lt)) refl)

-- ---- one queue

-- the queue of a rank after another one was put in its place
queue_put : (queues : List (Vec Parcel)) (rank : ℕ) (queue : Vec Parcel) → rank < length queues → queue_at (set queues rank queue) rank ≡ queue.items
queue_put queues rank queue lt =
    ap (λ (qs : List (List Parcel)). get_or qs rank []) (map-set (λ (q : Vec Parcel). q.items) queues rank queue)
    ∙ get_or-set_same (map (λ (q : Vec Parcel). q.items) queues) rank queue.items [] (omega (arith, lt, length-map queues (λ (q : Vec Parcel). q.items)))

pub queue_other : (queues : List (Vec Parcel)) (rank : ℕ) (queue : Vec Parcel) (i : ℕ) → i ≢ rank → queue_at (set queues rank queue) i ≡ queue_at queues i
queue_other queues rank queue i differ =
    ap (λ (qs : List (List Parcel)). get_or qs i []) (map-set (λ (q : Vec Parcel). q.items) queues rank queue)
    ∙ get_or-set_other (map (λ (q : Vec Parcel). q.items) queues) rank i queue.items [] differ

-- the queue of a rank, of which the last parcel was popped
pub popped : (queues : List (Vec Parcel)) (rank : ℕ) (queue left : Vec Parcel) (o : Option Parcel) (parcel : Parcel) → rank < length queues → queue ≡ get_or queues rank queue →
    queue.items ≡ left.items ++ option_to_list o → o ≡ Some parcel → queue_at queues rank ≡ queue_at (set queues rank left) rank ++ parcel ∷ []
popped queues rank queue left o parcel lt at split some =
    get_or-map (λ (q : Vec Parcel). q.items) queues rank queue [] lt
    ∙ ap (λ (q : Vec Parcel). q.items) (sym at)
    ∙ split
    ∙ ap (λ (p : Option Parcel). left.items ++ option_to_list p) some
    ∙ ap (λ (ps : List Parcel). ps ++ parcel ∷ []) (sym (queue_put queues rank left lt))

pub full_popped : (h : HeaderValue) (told : Option (List ℕ)) (queues : List (Vec Parcel)) (rank : ℕ) (queue left : Vec Parcel) (o : Option Parcel) (parcel : Parcel) → rank < length queues →
    queue ≡ get_or queues rank queue → queue.items ≡ left.items ++ option_to_list o → o ≡ Some parcel → AllFull h told queues →
    AllFull h told (set queues rank left) × IsFull h told parcel
full_popped h told queues rank queue left o parcel lt at split some all =
    let whole : All (IsFull h told) queue.items = subst (λ (q : Vec Parcel). All (IsFull h told) q.items) (sym at) (all rank queue lt) in
    let both = All-pop (IsFull h told) queue.items left.items o split whole in
    let last : IfSome (Some parcel) (IsFull h told) = subst (λ (p : Option Parcel). IfSome p (IsFull h told)) some both.1 in
    (All-set (λ (q : Vec Parcel). All (IsFull h told) q.items) queues rank left both.0 all, last)

-- ---- the last of some pieces

-- what is known of it
pub record IsLast (h : HeaderValue) (n : ℕ) (pieces : List Piece) (count : ℕ) (last : Piece) : Type 0 where
  pub is : IsPiece h last
  pub of : last.of_ranks ≡ n
  pub split : pieces ≡ take (count - 1) pieces ++ last ∷ []

pub last_known : (h : HeaderValue) (n : ℕ) (pieces : List Piece) (count : ℕ) (d : Piece) → count ≡ length pieces → 0 < count → All (IsPiece h) pieces →
    All (λ (piece : Piece). piece.of_ranks ≡ n) pieces → IsLast h n pieces count (get_or pieces (count - 1) d)
last_known h n pieces count d counted some are of = record {
  is = are (count - 1) d (omega arith);
  of = of (count - 1) d (omega arith);
  split = split_last pieces (count - 1) d (omega arith);
}

-- the headings of one parcel more
pub headings_more : (h : HeaderValue) (piece : Piece) (n : ℕ) (ranks : List ℕ) (k : ℕ) (parcels more : List Parcel) (parcel : Parcel) → piece.of_ranks ≡ n → k < length ranks →
    map parcel_heading parcels ≡ map (λ rank. heading_of rank (rank_region h.box piece.of_ranks rank) piece) (take k ranks) →
    parcel_heading parcel ≡ heading_of (get_or ranks k 0) (rank_region h.box n (get_or ranks k 0)) piece → more ≡ parcels ++ parcel ∷ [] →
    map parcel_heading more ≡ map (λ rank. heading_of rank (rank_region h.box piece.of_ranks rank) piece) (take (k + 1) ranks)
headings_more h piece n ranks k parcels more parcel of lt before heading pushed =
    let f : ℕ → Heading = λ rank. heading_of rank (rank_region h.box piece.of_ranks rank) piece in
    let here : parcel_heading parcel ≡ f (get_or ranks k 0) = heading ∙ ap (λ (m : ℕ). heading_of (get_or ranks k 0) (rank_region h.box m (get_or ranks k 0)) piece) (sym of) in
    ap (map parcel_heading) pushed
    ∙ map-append parcel_heading parcels (parcel ∷ [])
    ∙ ap (λ (xs : List Heading). xs ++ parcel_heading parcel ∷ []) before
    ∙ ap (λ (x : Heading). map f (take k ranks) ++ x ∷ []) here
    ∙ sym (ap (map f) (take_more ranks k 0 lt) ∙ map-append f (take k ranks) (get_or ranks k 0 ∷ []))
