-- Why the events of asking may happen in a world.
use Rattle.std.proofs.Common.{◌≡◌, ℕ, suc, ◌+◌, ◌-◌, ◌*◌, ◌/◌, ◌^◌, ◌<◌, ◌≤◌, arith, max, length, slice_get, slice_index, eqb-true, Bool, true, false, ◌&&◌, cond, nat_eq, nat_lt, List, [], ◌∷◌, ◌++◌, All, map, filter, take, Option, Some, None, is_some, is_none, refl, sym, ap, ◌∙◌, subst}
use Rattle.std.specs.List.{AllByRecursion, range_with_len}
use Rattle.std.specs.Option.{option_map_or}
use Rattle.std.proofs.Math.Nat.{div-le_self, zero-add}
use Rattle.std.proofs.Math.Seq.{take-length}
use Rattle.std.proofs.lemmas.Bool.{false≢true, ltb-true}
use Rattle.std.proofs.lemmas.List.{append-nil, get_or-map, length-map}
use Rattle.std.proofs.lemmas.List.Elements.{All-from_recursion}
use Rattle.std.proofs.lemmas.List.FromFn.{get_or-map-range_with_len, length-range_with_len, length-map-range_with_len}
use Rattle.idx_outside.specs.Shape.{Shape}
use Rattle.idx_fields.specs.Field.{field_at, sample_bytes}
use Rattle.idx_header.specs.Header.{HeaderValue, IsHeader, block_count, block_bytes, sample_bytes_of}
use Rattle.idx_header.proofs.BoundLemmas.{few_blocks}
use Rattle.idx_layout.specs.OfHeader.{placing_of}
use Rattle.idx_layout.specs.Placing.{block_bytes as placed_bytes}
use Rattle.idx_layout.specs.Shape.{shape_of}
use Rattle.idx_hall.specs.Posts.{newest}
use Rattle.idx_hall.specs.declared.key.Key.{Key}
use Rattle.idx_plan.specs.Needed.{is_needed, key_of, needed, needed_keys}
use Rattle.idx_plan.specs.Plan.{PlanValue}
use Rattle.idx_plan.specs.Rounds.{cut_at, cut_count, rounds, width_for}
use Rattle.idx_plan.specs.declared.ask.Ask.{Ask}
use Rattle.idx_query.specs.Blocks.{IsPlanOf}
use Rattle.idx_events.specs.Lists.{has, joined}
use Rattle.idx_events.specs.Setting.{SettingOk}
use Rattle.idx_events.specs.World.{World, Query, Round, held, loaded_in}
use Rattle.idx_events.specs.WorldOk.{WorldOk, HeldOk, RoundsOk, IsFrom}
use Rattle.idx_events.specs.Queries.{bytes_in, can_answer, can_fill, can_look, can_read, due_in, is_loaded, is_next, round_blocks}
use Rattle.idx_events.proofs.ListLemmas.{both, no_Some, Each-at, Each-both, Each-filter, Each-itself, Each-map, Each-or, Each-weaker}
use Rattle.idx_events.proofs.QueryLemmas.{post-is}
use Rattle.idx_events.proofs.BoardLemmas.{posts-told}
use Rattle.idx_events.proofs.WorldLemmas.{fill-pairs, fits-at}
use Rattle.idx_core_model.specs.Headline.{CanBeAsked, IsDivided}
use Rattle.idx_core_model.specs.Layers.{held_block, setting_of}
use Rattle.idx_core_model.proofs.AnswerLemmas.{ask_taken, held_bytes, round_blocks as joined_rounds}
use Rattle.idx_core_model.proofs.PieceLemmas.{all_range}
use Rattle.idx_core_model.proofs.SettingLemmas.{layers_ok}
use Rattle.idx_core_layers.specs.Division.{DivisionValue, layers_of}
use Rattle.idx_core_asks.specs.Asked.{AreWhole}
use Rattle.idx_core_asks.specs.Asking.{MayFill, MayLook, MayRead}

-- ---- a question has few rounds

length_filtered : {X : Type 0} (p : X → Bool) (xs : List X) → length (filter p xs) ≤ length xs
length_filtered p [] = omega arith
length_filtered p (x ∷ xs) = by (p x) (length_filtered p xs)
  where
    by : (b : Bool) → length (filter p xs) ≤ length xs → length (cond b (x ∷ filter p xs) (filter p xs)) ≤ suc (length xs)
    by true h = omega arith
    by false h = omega arith

max_least : (a b c : ℕ) → a ≤ c → b ≤ c → max a b ≤ c
max_least a b c l r = omega arith

few_rounds : (h : HeaderValue) (ask : Ask) → IsHeader h → length (rounds h ask) < 2 ^ 62
few_rounds h ask is =
    let many : length (needed_keys h ask) ≤ 2 ^ 24 =
    let all : length (needed h ask) ≤ length (range_with_len 0 (block_count h)) = length_filtered (is_needed h ask) (range_with_len 0 (block_count h)) in
    let count : length (range_with_len 0 (block_count h)) ≡ block_count h = length-range_with_len 0 (block_count h) in
    let few : block_count h ≤ 2 ^ 24 = few_blocks (length h.mask) h.block_bits is.bits_most in
    let same : length (needed_keys h ask) ≡ length (needed h ask) = length-map (needed h ask) (key_of ask) in
    omega (arith, all, count, few, same) in
    let width : width_for h ask.field ≤ 2 ^ 26 = max_least 1 (2 ^ 26 / block_bytes h ask.field) (2 ^ 26) (omega arith) (div-le_self (2 ^ 26) (block_bytes h ask.field)) in
    let least : (length (needed_keys h ask) + (width_for h ask.field - 1)) / width_for h ask.field ≤ length (needed_keys h ask) + (width_for h ask.field - 1) =
    div-le_self (length (needed_keys h ask) + (width_for h ask.field - 1)) (width_for h ask.field) in
    let cut : cut_count (width_for h ask.field) (length (needed_keys h ask)) ≤ 2 ^ 24 + 2 ^ 26 =
    max_least 1 ((length (needed_keys h ask) + (width_for h ask.field - 1)) / width_for h ask.field) (2 ^ 24 + 2 ^ 26) (omega arith) (omega (arith, many, width, least)) in
    subst (λ n. n < 2 ^ 62) (sym (length-map-range_with_len (cut_at (width_for h ask.field) (needed_keys h ask)) 0 (cut_count (width_for h ask.field) (length (needed_keys h ask))))) (omega (arith, cut))

-- how many bytes a block of a field has
block_length : (h : HeaderValue) (field : ℕ) → field < length h.fields → slice_index (shape_of h).lengths field ≡ sample_bytes_of h field * 2 ^ h.block_bits
block_length h field there =
    let within : field < length (placing_of h).sizes = omega (arith, there, length-map h.fields sample_bytes) in
    get_or-map-range_with_len (placed_bytes (placing_of h)) 0 (length (placing_of h).sizes) field field 0 within (zero-add field)
    ∙ ap (λ n. n * 2 ^ h.block_bits) (get_or-map sample_bytes h.fields field (field_at [] 0) 0 there)

-- ---- the events of a question of a world

in-round : (test : Round → Bool) (o : Option Round) → option_map_or test o false ≡ true → (r : Round) × ((o ≡ Some r) × (test r ≡ true))
in-round test None h = absurd (false≢true h)
in-round test (Some r) h = (r, (refl, h))

next-there : (block : ℕ) (o : Option ℕ) → option_map_or (nat_eq block) o false ≡ true → o ≡ Some block
next-there block None h = absurd (false≢true h)
next-there block (Some b) h = ap Some (sym (eqb-true block b h))

module _ (d : DivisionValue) (divided : IsDivided d.header d.digits d.ranks) (w : World) (ok : WorldOk (layers_of d) w) (number : ℕ) (x : Query) (at : slice_get w.queries number ≡ Some x) where
  laws : SettingOk (layers_of d)
  laws = layers_ok d.header d.digits d.ranks divided

  asked-at : CanBeAsked d.header x.ask
  unfolding setting_of
  asked-at = ask_taken d.header x.ask (Each-at (λ (y : Query). (layers_of d).valid_ask y.ask ≡ true) w.queries number x ok.asks at)

  valid-at : (layers_of d).valid_ask x.ask ≡ true
  valid-at = Each-at (λ (y : Query). (layers_of d).valid_ask y.ask ≡ true) w.queries number x ok.asks at

  held-at : HeldOk (layers_of d) w.hall.board x
  held-at = Each-at (HeldOk (layers_of d) w.hall.board) w.queries number x ok.held at

  rounds-at : RoundsOk (layers_of d) x
  rounds-at = Each-at (RoundsOk (layers_of d)) w.queries number x ok.rounds at

  few-at : length ((layers_of d).rounds x.ask) < 2 ^ 62
  unfolding setting_of
  few-at = subst (λ n. n < 2 ^ 62) (sym (length-map (rounds d.header x.ask) (λ (keys : List Key). map (λ (key : Key). key.block) keys))) (few_rounds d.header x.ask divided.header)

  pub may-look : can_look (layers_of d) w.hall.board x ≡ true → MayLook w.hall x
  may-look can =
      let a = both (is_none x.answer) (is_none x.round && (nat_lt x.ended (length ((layers_of d).rounds x.ask)) && is_some (newest w.hall.board x.ask.time))) can in
      let b = both (is_none x.round) (nat_lt x.ended (length ((layers_of d).rounds x.ask)) && is_some (newest w.hall.board x.ask.time)) a.1 in
      let c = both (nat_lt x.ended (length ((layers_of d).rounds x.ask))) (is_some (newest w.hall.board x.ask.time)) b.1 in
      let left : x.ended < length ((layers_of d).rounds x.ask) = ltb-true x.ended (length ((layers_of d).rounds x.ask)) c.0 in
      record {
        few = omega (arith, left, few-at);
        post = λ n e. let from = post-is (layers_of d) w.hall.board x held-at rounds-at n e in (from.post, from.is.at, from.is.time);
      }

  -- a question in a round has noted a post
  noted-at : (r : Round) → x.round ≡ Some r → (n : ℕ) × (x.post ≡ Some n)
  noted-at r is = by x.post refl
    where
      by : (o : Option ℕ) → x.post ≡ o → (n : ℕ) × (x.post ≡ Some n)
      by None e = no_Some r (sym (rounds-at.fresh e).round ∙ is)
      by (Some n) e = (n, e)

  pub may-read : (block : ℕ) → can_read block x ≡ true → MayRead d w.hall x block
  unfolding setting_of
  may-read block can =
      let r = in-round (is_next block) x.round can in
      let round_ok = rounds-at.round r.0 r.1.0 in
      let noted = noted-at r.0 r.1.0 in
      let from = held-at.from noted.0 noted.1 in
      let told = posts-told (layers_of d) w.volumes w.hall.board ok.board noted.0 from.post from.is.at in
      let exist : AllByRecursion (λ b. b < (layers_of d).shape.blocks) (round_blocks (layers_of d) x) =
      Each-or (λ (blocks : List ℕ). AllByRecursion (λ b. b < (layers_of d).shape.blocks) blocks) [] tt ((layers_of d).rounds x.ask) x.ended (laws.blocks x.ask valid-at) in
      let missing : AllByRecursion (λ b. b < (layers_of d).shape.blocks) r.0.missing =
      subst (λ (blocks : List ℕ). AllByRecursion (λ b. b < (layers_of d).shape.blocks) blocks) (sym round_ok.missing)
      (Each-filter (λ b. b < (layers_of d).shape.blocks) (λ b. has b r.0.missing) (round_blocks (layers_of d) x) exist) in
      record {
        shape = ok.shape;
        field = asked-at.field;
        block_is = subst (λ (z : Shape). block < z.blocks) (sym ok.shape)
            (Each-at (λ b. b < (layers_of d).shape.blocks) r.0.missing (length r.0.loaded) block missing (next-there block (slice_get r.0.missing (length r.0.loaded)) r.1.1));
        number = noted.0;
        noted = noted.1;
        post = from.post;
        at = from.is.at;
        stored = told.0;
        told = told.1;
      }

  pub may-fill : can_fill x ≡ true → MayFill w.hall x
  may-fill can =
      let r = in-round is_loaded x.round can in
      let noted = noted-at r.0 r.1.0 in
      let pairs = fill-pairs (layers_of d) w ok number x at laws r.0 r.1.0 noted.0 noted.1 in
      let left : x.ended < length ((layers_of d).rounds x.ask) = (rounds-at.round r.0 r.1.0).left in
      record {
        few = omega (arith, left, few-at);
        number = noted.0;
        noted = noted.1;
        post = pairs.0;
        at = pairs.1;
        pairs = pairs.2;
      }

  -- ---- an answer

  module _ (can : can_answer (layers_of d) x ≡ true) where
    all-ended : x.ended ≡ length ((layers_of d).rounds x.ask)
    all-ended = eqb-true x.ended (length ((layers_of d).rounds x.ask)) (both (is_none x.answer) (nat_eq x.ended (length ((layers_of d).rounds x.ask))) can).1

    no-round : x.round ≡ None
    no-round = by x.round refl
      where
        by : (o : Option Round) → x.round ≡ o → x.round ≡ None
        by None e = e
        by (Some r) e = let left : x.ended < length ((layers_of d).rounds x.ask) = (rounds-at.round r e).left in absurd (omega (arith, left, all-ended))

    noted : (n : ℕ) × (x.post ≡ Some n)
    noted = by x.post refl
      where
        by : (o : Option ℕ) → x.post ≡ o → (n : ℕ) × (x.post ≡ Some n)
        by None e =
            let none : x.ended ≡ 0 = (rounds-at.fresh e).ended in
            let some : 0 < length ((layers_of d).rounds x.ask) = laws.some_rounds x.ask in
            absurd (omega (arith, none, some, all-ended))
        by (Some n) e = (n, e)

    from-post : IsFrom (layers_of d) w.hall.board x noted.0
    from-post = held-at.from noted.0 noted.1

    held-kept : held x ≡ x.kept
    held-kept = ap (λ o. x.kept ++ loaded_in o) no-round ∙ append-nil x.kept

    needed-kept : (block : ℕ) → has block (map (λ (pair : ℕ × List ℕ). pair.0) x.kept) ≡ has block (needed d.header x.ask)
    unfolding setting_of
    needed-kept block =
        ap (λ (l : List (ℕ × List ℕ)). has block (map (λ (pair : ℕ × List ℕ). pair.0) l)) (sym held-kept)
        ∙ held-at.due block
        ∙ ap (λ o. has block (joined (take x.ended ((layers_of d).rounds x.ask)) ++ due_in (layers_of d) (round_blocks (layers_of d) x) o)) no-round
        ∙ ap (has block) (append-nil (joined (take x.ended ((layers_of d).rounds x.ask))))
        ∙ ap (λ n. has block (joined (take n ((layers_of d).rounds x.ask)))) all-ended
        ∙ ap (λ (l : List (List ℕ)). has block (joined l)) (take-length ((layers_of d).rounds x.ask))
        ∙ ap (has block) (joined_rounds d.header x.ask)

    bytes-kept : AllByRecursion (λ (pair : ℕ × List ℕ). pair.1 ≡ bytes_in from-post.post x.ask.field pair.0) x.kept
    bytes-kept = subst (λ (l : List (ℕ × List ℕ)). AllByRecursion (λ (pair : ℕ × List ℕ). pair.1 ≡ bytes_in from-post.post x.ask.field pair.0) l) held-kept from-post.bytes

    whole-one : (block : ℕ) → block < (layers_of d).shape.blocks → has block (needed d.header x.ask) ≡ true →
        length (held_block x.kept block) ≡ slice_index (layers_of d).shape.lengths x.ask.field
    whole-one block exists is_needed =
        ap (λ (l : List ℕ). length l) (held_bytes (bytes_in from-post.post x.ask.field) block x.kept bytes-kept (needed-kept block ∙ is_needed))
        ∙ fits-at (layers_of d) w ok number x at laws noted.0 from-post.post from-post.is.at x.ask.field block (laws.field x.ask valid-at) exists

    whole-needed : AllByRecursion (λ (key : Key). length (held_block x.kept key.block) ≡ slice_index (layers_of d).shape.lengths x.ask.field) (needed_keys d.header x.ask)
    unfolding setting_of
    whole-needed =
        Each-map (key_of x.ask) (λ (key : Key). length (held_block x.kept key.block) ≡ slice_index (layers_of d).shape.lengths x.ask.field) (needed d.header x.ask)
        (Each-both (λ block. block < (layers_of d).shape.blocks) (λ block. has block (needed d.header x.ask) ≡ true)
        (λ block. length (held_block x.kept block) ≡ slice_index (layers_of d).shape.lengths x.ask.field) whole-one (needed d.header x.ask)
        (Each-filter (λ block. block < (layers_of d).shape.blocks) (is_needed d.header x.ask) (range_with_len 0 (block_count d.header))
        (all_range (λ block. block < (layers_of d).shape.blocks) 0 (block_count d.header) (λ k low high. omega (arith, high))))
        (Each-itself (needed d.header x.ask)))

    -- the blocks that its answer is made of are held, each whole
    pub may-answer : (plan : PlanValue) → IsPlanOf d.header x.ask plan → AreWhole plan x.kept
    unfolding setting_of
    may-answer plan is =
        let size : slice_index (layers_of d).shape.lengths x.ask.field ≡ plan.size * 2 ^ plan.bits =
        block_length d.header x.ask.field asked-at.field ∙ ap (λ n. n * 2 ^ d.header.block_bits) (sym is.size) ∙ ap (λ n. plan.size * 2 ^ n) (sym is.bits) in
        subst (λ (keys : List Key). All (λ (key : Key). length (held_block x.kept key.block) ≡ plan.size * 2 ^ plan.bits) keys) (sym is.keys)
        (All-from_recursion (λ (key : Key). length (held_block x.kept key.block) ≡ plan.size * 2 ^ plan.bits) (needed_keys d.header x.ask)
        (Each-weaker (λ (key : Key). length (held_block x.kept key.block) ≡ slice_index (layers_of d).shape.lengths x.ask.field) (λ (key : Key). length (held_block x.kept key.block) ≡ plan.size * 2 ^ plan.bits)
        (λ key e. e ∙ size) (needed_keys d.header x.ask) whole-needed))
