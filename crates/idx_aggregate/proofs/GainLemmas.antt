-- What docks gain by some loads and then by others.
use Rattle.std.proofs.Common.{◌≡◌, ◌≢◌, ℕ, suc, Bool, true, false, List, [], ◌∷◌, ◌++◌, length, map, refl, sym, ap, ◌∙◌, subst, arith, Option, Some, None, eqb-true, append_assoc, append-nil}
use Rattle.std.specs.Prelude.{◌==◌, ◌||◌, All, AllPairs, Contains, slice_index_or}
use Rattle.std.specs.List.{AllZip}
use Rattle.std.specs.Option.{is_some}
use Rattle.std.proofs.lemmas.Bool.{ne_eqb}
use Rattle.std.proofs.lemmas.List.{map-append}
use Rattle.std.proofs.lemmas.List.Elements.{All-cons, All-head, All-nil, All-tail, AllZip-get_or, length_all_zip}
use Rattle.std.proofs.lemmas.List.Folds.{list_any-append}
use Rattle.idx_header.specs.Header.{HeaderValue}
use Rattle.idx_layout.specs.Placing.{file_numbers}
use Rattle.idx_layout.specs.OfHeader.{placing_of}
use Rattle.idx_pieces.specs.declared.piece.Piece.{Piece}
use Rattle.idx_pieces.specs.declared.run.Run.{Run}
use Rattle.idx_dock.specs.declared.awaited.Awaited.{Awaited}
use Rattle.idx_dock.specs.Dock.{DockValue, awaited_of, reaching, undelivered}
use Rattle.idx_ranks.specs.Loads.{HoldsLoad, IsLoad}
use Rattle.idx_ranks.specs.declared.load.Load.{Load}
use Rattle.idx_aggregate.specs.Docks.{AreReady, Gain, Gains, IsReady, has_id, pieces_in}
use Rattle.idx_aggregate.specs.Shipping.{AreShipping}
use Rattle.idx_aggregate.proofs.AwaitedLemmas.{All-back, All-front}

-- ---- lists

zip_more : {X : Type 0} (R S T : X → X → Type 0) → ((x y z : X) → R x y → S y z → T x z) → (xs ys zs : List X) → AllZip R xs ys → AllZip S ys zs → AllZip T xs zs
zip_more R S T both [] [] [] r s = tt
zip_more R S T both [] [] (z ∷ zs) r s = absurd s
zip_more R S T both [] (y ∷ ys) zs r s = absurd r
zip_more R S T both (x ∷ xs) [] zs r s = absurd r
zip_more R S T both (x ∷ xs) (y ∷ ys) [] r s = absurd s
zip_more R S T both (x ∷ xs) (y ∷ ys) (z ∷ zs) r s = (both x y z r.0 s.0, zip_more R S T both xs ys zs r.1 s.1)

All-zip : {X : Type 0} (P Q : X → Type 0) (R : X → X → Type 0) → ((x y : X) → P x → R x y → Q y) → (xs ys : List X) → All P xs → AllZip R xs ys → All Q ys
All-zip P Q R step [] [] all r = All-nil Q
All-zip P Q R step [] (y ∷ ys) all r = absurd r
All-zip P Q R step (x ∷ xs) [] all r = absurd r
All-zip P Q R step (x ∷ xs) (y ∷ ys) all r = All-cons Q y ys (step x y (All-head P x xs all) r.0) (All-zip P Q R step xs ys (All-tail P x xs all) r.1)

pub zip_map : {X : Type 0} (P : X → Type 0) (R : X → X → Type 0) (f : X → X) → ((x : X) → P x → R x (f x)) → (xs : List X) → All P xs → AllZip R xs (map f xs)
zip_map P R f step [] all = tt
zip_map P R f step (x ∷ xs) all = (step x (All-head P x xs all), zip_map P R f step xs (All-tail P x xs all))

pub pairs_head : {X : Type 0} (R : X → X → Type 0) (x : X) (xs : List X) → AllPairs R (x ∷ xs) → All (R x) xs
pairs_head R x xs all = λ k d within. all 0 (suc k) d (omega arith) (omega arith)

pub pairs_tail : {X : Type 0} (R : X → X → Type 0) (x : X) (xs : List X) → AllPairs R (x ∷ xs) → AllPairs R xs
pairs_tail R x xs all = λ i j d less within. all (suc i) (suc j) d (omega arith) (omega arith)

pairs_back : {X : Type 0} (R : X → X → Type 0) (xs ys : List X) → AllPairs R (xs ++ ys) → AllPairs R ys
pairs_back R [] ys all = all
pairs_back R (x ∷ xs) ys all = pairs_back R xs ys (pairs_tail R x (xs ++ ys) all)

-- ---- ids

pub pieces-append : (done left : List Load) → pieces_in (done ++ left) ≡ pieces_in done ++ pieces_in left
pieces-append done left = map-append (λ (load : Load). load.piece) done left

pub both_ids : (done left : List Load) (id : ℕ) → (has_id (pieces_in done) id || has_id (pieces_in left) id) ≡ has_id (pieces_in (done ++ left)) id
both_ids done left id =
    sym (list_any-append (λ (piece : Piece). id == piece.id) (pieces_in done) (pieces_in left)) ∙ ap (λ pieces. has_id pieces id) (sym (pieces-append done left))

pub none_has : (id : ℕ) (pieces : List Piece) → All (λ piece. id ≢ piece.id) pieces → has_id pieces id ≡ false
none_has id [] other = refl
none_has id (p ∷ pieces) other =
    ap (λ b. b || has_id pieces id) (ne_eqb id p.id (All-head P p pieces other)) ∙ none_has id pieces (All-tail P p pieces other)
  where
    P : Piece → Type 0
    P piece = id ≢ piece.id

apart_ids : (front back : List Piece) → AllPairs (λ one other. one.id ≢ other.id) (front ++ back) → (id : ℕ) → has_id back id ≡ true → has_id front id ≡ false
apart_ids [] back apart id here = refl
apart_ids (p ∷ front) back apart id here = by_test (id == p.id) refl (apart_ids front back (pairs_tail R p (front ++ back) apart) id here)
  where
    R : Piece → Piece → Type 0
    R one other = one.id ≢ other.id

    by_test : (b : Bool) → (id == p.id) ≡ b → has_id front id ≡ false → (b || has_id front id) ≡ false
    by_test true same rest =
        let none : has_id back p.id ≡ false = none_has p.id back (All-back (R p) front back (pairs_head R p (front ++ back) apart)) in
        let wrong : true ≡ false = sym here ∙ ap (has_id back) (eqb-true id p.id same) ∙ none in absurd (cc)
    by_test false same rest = rest

-- ---- which pieces have runs

or_assoc : (a b c : Bool) → ((a || b) || c) ≡ (a || (b || c))
or_assoc true b c = refl
or_assoc false b c = refl

or_nothing : (b : Bool) → b ≡ (b || false)
or_nothing true = refl
or_nothing false = refl

none_is : (runs : Option (List Run)) → is_some runs ≡ false → runs ≡ None
none_is None none = refl
none_is (Some runs) none = let wrong : true ≡ false = none in absurd (cc)

module _ (p q : ℕ → Bool) where
  abbrev P : Awaited → Type 0
  P a = (p a.piece || q a.piece) ≡ true → a.runs ≡ None

  abbrev Q : Awaited → Type 0
  Q a = q a.piece ≡ true → a.runs ≡ None

  flags_twice : (old new : List Awaited) → map undelivered new ≡ map undelivered old → map (λ a. is_some a.runs) new ≡ map (λ a. is_some a.runs || p a.piece) old →
      map (λ a. is_some a.runs || q a.piece) new ≡ map (λ a. is_some a.runs || (p a.piece || q a.piece)) old
  flags_twice [] [] same flags = refl
  flags_twice [] (b ∷ news) same flags = let wrong : undelivered b ∷ map undelivered news ≡ [] = same in absurd (cc)
  flags_twice (a ∷ olds) [] same flags = let wrong : [] ≡ undelivered a ∷ map undelivered olds = same in absurd (cc)
  flags_twice (a ∷ olds) (b ∷ news) same flags =
      let first : undelivered b ≡ undelivered a = cc in
      let rest : map undelivered news ≡ map undelivered olds = cc in
      let flag : is_some b.runs ≡ (is_some a.runs || p a.piece) = cc in
      let others : map (λ a. is_some a.runs) news ≡ map (λ a. is_some a.runs || p a.piece) olds = cc in
      let id : b.piece ≡ a.piece = ap (λ (x : Awaited). x.piece) first in
      let here : (is_some b.runs || q b.piece) ≡ (is_some a.runs || (p a.piece || q a.piece)) =
      ap (λ f. f || q b.piece) flag ∙ ap (λ n. (is_some a.runs || p a.piece) || q n) id ∙ or_assoc (is_some a.runs) (p a.piece) (q a.piece) in
      ap (λ f. f ∷ map (λ a. is_some a.runs || q a.piece) news) here
      ∙ ap (λ fs. (is_some a.runs || (p a.piece || q a.piece)) ∷ fs) (flags_twice olds news rest others)

  none_stays : (old new : List Awaited) → ((id : ℕ) → q id ≡ true → p id ≡ false) → map undelivered new ≡ map undelivered old →
      map (λ a. is_some a.runs) new ≡ map (λ a. is_some a.runs || p a.piece) old → All P old → All Q new
  none_stays old [] apart same flags all = All-nil Q
  none_stays [] (b ∷ news) apart same flags all = let wrong : undelivered b ∷ map undelivered news ≡ [] = same in absurd (cc)
  none_stays (a ∷ olds) (b ∷ news) apart same flags all =
      let first : undelivered b ≡ undelivered a = cc in
      let rest : map undelivered news ≡ map undelivered olds = cc in
      let flag : is_some b.runs ≡ (is_some a.runs || p a.piece) = cc in
      let others : map (λ a. is_some a.runs) news ≡ map (λ a. is_some a.runs || p a.piece) olds = cc in
      let id : b.piece ≡ a.piece = ap (λ (x : Awaited). x.piece) first in
      All-cons Q b news
      (λ due.
      let asked : q a.piece ≡ true = ap q (sym id) ∙ due in
      let other : p a.piece ≡ false = apart a.piece asked in
      let runs : a.runs ≡ None = All-head P a olds all (ap (λ f. f || q a.piece) other ∙ asked) in
      none_is b.runs (flag ∙ ap (λ r. is_some r || p a.piece) runs ∙ other))
      (none_stays olds news apart rest others (All-tail P a olds all))

-- ---- docks

gains_more : (h : HeaderValue) (done loads : List Load) (a b c : DockValue) → Gains h done a b → Gains h loads b c → Gains h (done ++ loads) a c
gains_more h done loads a b c one two = record {
  header = two.header ∙ one.header;
  file = two.file ∙ one.file;
  awaited = two.awaited ∙ one.awaited;
  delivered = two.delivered ∙ flags_twice (has_id (pieces_in done)) (has_id (pieces_in loads)) a.awaited b.awaited one.awaited one.delivered
      ∙ (λ i. map (λ x. is_some x.runs || both_ids done loads x.piece i) a.awaited);
  samples = λ sample are held old.
      two.samples sample are (All-back (HoldsLoad h sample) done loads held) (one.samples sample are (All-front (HoldsLoad h sample) done loads held) old);
}

pub gain_more : (h : HeaderValue) (done loads : List Load) (a b c : List DockValue) → Gain h done a b → Gain h loads b c → Gain h (done ++ loads) a c
gain_more h done loads a b c one two = zip_more (Gains h done) (Gains h loads) (Gains h (done ++ loads)) (gains_more h done loads) a b c one two

gains_none : (h : HeaderValue) (d : DockValue) → Gains h [] d d
gains_none h d = record {
  header = refl;
  file = refl;
  awaited = refl;
  delivered = λ i. map (λ a. or_nothing (is_some a.runs) i) d.awaited;
  samples = λ sample are held old. old;
}

pub gain_none : (h : HeaderValue) (docks : List DockValue) → Gain h [] docks docks
gain_none h [] = tt
gain_none h (d ∷ docks) = (gains_none h d, gain_none h docks)

ready_dock : (h : HeaderValue) (division : List Piece) (loads left : List Load) (d new : DockValue) → AllPairs (λ one other. one.id ≢ other.id) (pieces_in (loads ++ left)) →
    IsReady h division (pieces_in (loads ++ left)) d → Gains h loads d new → IsReady h division (pieces_in left) new
ready_dock h division loads left d new apart ready gains = record {
  header = gains.header ∙ ready.header;
  file = subst (λ file. Contains (file_numbers (placing_of h)) file) (sym gains.file) ready.file;
  awaited = gains.awaited ∙ ready.awaited ∙ ap (λ file. map awaited_of (reaching h file division)) (sym gains.file);
  none = none_stays (has_id (pieces_in loads)) (has_id (pieces_in left)) d.awaited new.awaited
      (apart_ids (pieces_in loads) (pieces_in left) (subst (AllPairs (λ one other. one.id ≢ other.id)) (pieces-append loads left) apart))
      gains.awaited gains.delivered
      (λ k a within due. ready.none k a within (sym (both_ids loads left (slice_index_or d.awaited k a).piece) ∙ due));
}

-- docks that are ready for all of some loads are ready for the rest of them, once they gained the first
pub ready_stays : (h : HeaderValue) (loads left : List Load) (docks new : List DockValue) → AreReady h (pieces_in (loads ++ left)) docks → Gain h loads docks new → AreReady h (pieces_in left) new
ready_stays h loads left docks new ready gain =
    let whole : pieces_in (loads ++ left) ≡ pieces_in loads ++ pieces_in left = pieces-append loads left in
    record {
      division = ready.division;
      is = ready.is;
      among = All-back (Contains ready.division) (pieces_in loads) (pieces_in left) (subst (All (Contains ready.division)) whole ready.among);
      apart = pairs_back (λ one other. one.id ≢ other.id) (pieces_in loads) (pieces_in left) (subst (AllPairs (λ one other. one.id ≢ other.id)) whole ready.apart);
      each = All-zip (IsReady h ready.division (pieces_in (loads ++ left))) (IsReady h ready.division (pieces_in left)) (Gains h loads)
          (λ d other one gains. ready_dock h ready.division loads left d other ready.apart one gains) docks new ready.each gain;
      files = λ i j d less within same.
          let many : length docks ≡ length new = length_all_zip (Gains h loads) docks new gain in
          let first = AllZip-get_or (Gains h loads) docks new i d d gain (omega arith) in
          let second = AllZip-get_or (Gains h loads) docks new j d d gain (omega arith) in
          ready.files i j d less (omega arith) (sym first.file ∙ same ∙ second.file);
    }

-- ---- loads that are being shipped

pub shipping_none : (h : HeaderValue) (loads : List Load) (docks : List DockValue) → All (IsLoad h) loads → AreReady h (pieces_in loads) docks → AreShipping h loads loads docks docks
shipping_none h loads docks valid ready = record { done = []; is = refl; valid = valid; ready = ready; gain = gain_none h docks }

pub shipping_more : (h : HeaderValue) (loads left rest : List Load) (old docks new : List DockValue) → AreShipping h loads left old docks → AreShipping h left rest docks new → AreShipping h loads rest old new
shipping_more h loads left rest old docks new one two = record {
  done = one.done ++ two.done;
  is = append_assoc one.done two.done rest ∙ ap (λ xs. one.done ++ xs) two.is ∙ one.is;
  valid = two.valid;
  ready = two.ready;
  gain = gain_more h one.done two.done old docks new one.gain two.gain;
}

pub shipping_all : (h : HeaderValue) (loads : List Load) (old docks : List DockValue) → AreShipping h loads [] old docks → Gain h loads old docks
shipping_all h loads old docks is = subst (λ xs. Gain h xs old docks) (sym (append-nil is.done) ∙ is.is) is.gain
