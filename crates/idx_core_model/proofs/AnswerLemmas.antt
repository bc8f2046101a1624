-- The answer out of the needed blocks of a step's files is that out of the volume.
use Rattle.std.proofs.Common.{◌≡◌, ℕ, zero, suc, ◌+◌, ◌*◌, ◌/◌, ◌%◌, ◌^◌, ◌<◌, ◌≤◌, Bool, true, false, cond, ◌&&◌, ◌||◌, nat_eq, nat_le, nat_lt, List, [], ◌∷◌, ◌++◌, length, get_or, map, take, drop, Option, Some, None, refl, sym, ap, ◌∙◌, subst, zero-add, arith, eqb-true}
use Rattle.std.specs.Prelude.{Contains, filter, is_none, slice_get, slice_index, slice_index_or}
use Rattle.std.specs.List.{AllByRecursion, flat_map, range_with_len}
use Rattle.std.specs.Map.{lookup}
use Rattle.std.specs.Option.{option_map_or}
use Rattle.std.proofs.lemmas.Bool.{and_parts, false≢true, leb-true, ltb-false, ltb-true}
use Rattle.std.proofs.lemmas.Cmp.{nat_eq_equiv}
use Rattle.std.proofs.lemmas.List.{get_or-map, length-map, map-append}
use Rattle.std.proofs.lemmas.List.FromFn.{get_or-map-range_with_len, length-map-range_with_len}
use Rattle.std.proofs.lemmas.Map.Views.{list_any-from_Contains}
use Rattle.std.proofs.lemmas.Option.{get_or_from_slice_get, slice_get_within}
use Rattle.idx_geom.specs.Region.{LiesIn, place_of, points}
use Rattle.idx_geom.specs.Volume.{sample_at}
use Rattle.idx_geom.proofs.PointsLemmas.{slice_get-place_of}
use Rattle.idx_fields.specs.Field.{sample_bytes}
use Rattle.idx_hz.specs.Address.{hz_address}
use Rattle.idx_hz.specs.Answer.{answer}
use Rattle.idx_header.specs.Header.{HasTimeAmong, HasTime, HeaderValue, IsHeader, at_revision, block_count, volume_bytes}
use Rattle.idx_header.specs.declared.steps.Steps.{Steps}
use Rattle.idx_layout.specs.Content.{field_in, sample_in}
use Rattle.idx_layout.specs.OfHeader.{placing_of}
use Rattle.idx_layout.specs.Placing.{Placing}
use Rattle.idx_layout.specs.Shape.{shape_of}
use Rattle.idx_layout.specs.Step.{volume_of_raw}
use Rattle.idx_rowmajor.specs.declared.layout.Layout.TheVariants.{Hz}
use Rattle.idx_scatter.specs.Asked.{asked_points}
use Rattle.idx_scatter.proofs.AskedLemmas.{asked-from}
use Rattle.idx_hall.specs.Posts.{bytes_at, table_of}
use Rattle.idx_hall.specs.declared.key.Key.{Key}
use Rattle.idx_plan.specs.Answer.{answer_of}
use Rattle.idx_plan.specs.Needed.{fault_by_axis, is_needed, needed, needed_keys, outside_axis, plan_fault}
use Rattle.idx_plan.specs.Plan.{asked_of}
use Rattle.idx_plan.specs.Rounds.{cut_at, cut_count, rounds, width_for}
use Rattle.idx_plan.specs.declared.ask.Ask.{Ask}
use Rattle.idx_plan.proofs.AnswerLemmas.{needed-block}
use Rattle.idx_plan.proofs.RoundLemmas.{rounds-joined}
use Rattle.idx_query.proofs.AnswerLemmas.{blocks-key_of, has_field}
use Rattle.idx_query.proofs.PostLemmas.{entry-table}
use Rattle.idx_edition.specs.Stored.{stored_block}
use Rattle.idx_edition.proofs.BackLemmas.{stored_back}
use Rattle.idx_events.specs.Lists.{has, joined}
use Rattle.idx_core_model.specs.Headline.{CanBeAsked}
use Rattle.idx_core_model.specs.Layers.{answer_of_raw, has_step_among, held_block, is_ask, is_step}
use Rattle.idx_core_model.proofs.FileLemmas.{volume_is, written, written_has}

-- ---- what is taken

step_among : (o : Option Steps) (time : ℕ) → has_step_among o time ≡ true → HasTimeAmong o time
step_among None time valid = absurd (false≢true valid)
step_among (Some steps) time valid =
    let parts = and_parts (nat_le steps.first time) (nat_le time steps.last) valid in (leb-true steps.first time parts.0, leb-true time steps.last parts.1)

pub step_taken : (h : HeaderValue) (t r : ℕ) → is_step h t r ≡ true → HasTime h t × (r ≤ 255)
step_taken h t r valid =
    let parts = and_parts (has_step_among h.steps t) (nat_le r 255) valid in (step_among h.steps t parts.0, leb-true r 255 parts.1)

none_is : {X : Type 0} (o : Option X) → is_none o ≡ true → o ≡ None
none_is None none = refl
none_is (Some x) none = absurd (false≢true none)

pub ask_taken : (h : HeaderValue) (ask : Ask) → is_ask h ask ≡ true → CanBeAsked h ask
ask_taken h ask valid =
    let parts = and_parts (nat_lt ask.field (length h.fields)) (nat_eq (length ask.region) (length h.box) && is_none (plan_fault h ask)) valid in
    let more = and_parts (nat_eq (length ask.region) (length h.box)) (is_none (plan_fault h ask)) parts.1 in
    record {
      field = ltb-true ask.field (length h.fields) parts.0;
      axes = eqb-true (length ask.region) (length h.box) more.0;
      plan = none_is (plan_fault h ask) more.1;
    }

-- ---- rounds

joined_blocks : (rounds : List (List Key)) → joined (map (λ (keys : List Key). map (λ (key : Key). key.block) keys) rounds) ≡ map (λ (key : Key). key.block) (flat_map (λ (keys : List Key). keys) rounds)
joined_blocks [] = refl
joined_blocks (keys ∷ rounds) =
    ap (λ t. map (λ (key : Key). key.block) keys ++ t) (joined_blocks rounds)
    ∙ sym (map-append (λ (key : Key). key.block) keys (flat_map (λ (keys : List Key). keys) rounds))

-- the blocks of all rounds are the needed ones
pub round_blocks : (h : HeaderValue) (ask : Ask) → joined (map (λ (keys : List Key). map (λ (key : Key). key.block) keys) (rounds h ask)) ≡ needed h ask
round_blocks h ask = joined_blocks (rounds h ask) ∙ ap (map (λ (key : Key). key.block)) (rounds-joined h ask) ∙ blocks-key_of ask (needed h ask)

pub rounds_some : (h : HeaderValue) (ask : Ask) → 0 < length (map (λ (keys : List Key). map (λ (key : Key). key.block) keys) (rounds h ask))
rounds_some h ask =
    let n : ℕ = cut_count (width_for h ask.field) (length (needed_keys h ask)) in
    let count : length (rounds h ask) ≡ n = length-map-range_with_len (cut_at (width_for h ask.field) (needed_keys h ask)) 0 n in
    omega (arith, count, length-map (rounds h ask) (λ (keys : List Key). map (λ (key : Key). key.block) keys))

below_all : (p : ℕ → Bool) (a n m : ℕ) → a + n ≤ m → AllByRecursion (λ k. k < m) (filter p (range_with_len a n))
below_all p a zero m le = tt
below_all p a (suc n) m le = by_test (p a) (below_all p (a + 1) n m (omega arith))
  where
    rest : List ℕ
    rest = filter p (range_with_len (a + 1) n)

    by_test : (b : Bool) → AllByRecursion (λ k. k < m) rest → AllByRecursion (λ k. k < m) (cond b (a ∷ rest) rest)
    by_test true more = (omega arith, more)
    by_test false more = more

all_front : (P : ℕ → Type 0) (xs ys : List ℕ) → AllByRecursion P (xs ++ ys) → AllByRecursion P xs
all_front P [] ys all = tt
all_front P (x ∷ xs) ys all = (all.0, all_front P xs ys all.1)

all_back : (P : ℕ → Type 0) (xs ys : List ℕ) → AllByRecursion P (xs ++ ys) → AllByRecursion P ys
all_back P [] ys all = all
all_back P (x ∷ xs) ys all = all_back P xs ys all.1

all_parts : (P : ℕ → Type 0) (xss : List (List ℕ)) → AllByRecursion P (joined xss) → AllByRecursion (λ xs. AllByRecursion P xs) xss
all_parts P [] all = tt
all_parts P (xs ∷ xss) all = (all_front P xs (joined xss) all, all_parts P xss (all_back P xs (joined xss) all))

-- the blocks of each round exist
pub rounds_exist : (h : HeaderValue) (ask : Ask) →
    AllByRecursion (λ blocks. AllByRecursion (λ block. block < block_count h) blocks) (map (λ (keys : List Key). map (λ (key : Key). key.block) keys) (rounds h ask))
rounds_exist h ask =
    all_parts (λ block. block < block_count h) (map (λ (keys : List Key). map (λ (key : Key). key.block) keys) (rounds h ask))
    (subst (λ (blocks : List ℕ). AllByRecursion (λ block. block < block_count h) blocks) (sym (round_blocks h ask))
    (below_all (is_needed h ask) 0 (block_count h) (block_count h) (omega arith)))

-- ---- answers

-- functions that agree on what stands in a list
places_agree : {X : Type 0} (f g : X → List ℕ) (xs : List X) → ((k : ℕ) (x : X) → slice_get xs k ≡ Some x → f x ≡ g x) → flat_map f xs ≡ flat_map g xs
places_agree f g [] each = refl
places_agree f g (x ∷ xs) each = ap (λ t. t ++ flat_map f xs) (each 0 x refl) ∙ ap (λ t. g x ++ t) (places_agree f g xs (λ k y at. each (suc k) y at))

-- the sample of a field at a point of the box
sample_there : (l : Placing) (content : ℕ → ℕ → List ℕ) (field : ℕ) (p : List ℕ) → LiesIn l.region p → sample_at l.region (field_in l content field) p ≡ sample_in l content field p
sample_there l content field p inside =
    let at = slice_get-place_of l.region p inside in
    get_or-map (sample_in l content field) (points l.region) (place_of l.region p) p [] (slice_get_within (points l.region) (place_of l.region p) p at)
    ∙ ap (sample_in l content field) (get_or_from_slice_get (points l.region) (place_of l.region p) p p at)

inside_axes : (h : HeaderValue) (ask : Ask) (axis : Option ℕ) → fault_by_axis h ask axis ≡ None → axis ≡ None
inside_axes h ask None e = refl
inside_axes h ask (Some axis) e = cc

-- a point of a region that leaves a box on no axis lies in the box
with_axis : (axis : ℕ) (r b : ℕ × ℕ) (region box : List (ℕ × ℕ)) (x : ℕ) (p : List ℕ) → LiesIn (r ∷ region) (x ∷ p) → (outside_axis (axis + 1) region box ≡ None → LiesIn box p) →
    (low high : Bool) → nat_lt r.0 b.0 ≡ low → nat_lt b.1 r.1 ≡ high → cond (low || high) (Some axis) (outside_axis (axis + 1) region box) ≡ None → LiesIn (b ∷ box) (x ∷ p)
with_axis axis r b region box x p inside rest true high l h e = let wrong : ◌≡◌ {A = Option ℕ} (Some axis) None = e in absurd (cc)
with_axis axis r b region box x p inside rest false true l h e = let wrong : ◌≡◌ {A = Option ℕ} (Some axis) None = e in absurd (cc)
with_axis axis r b region box x p inside rest false false l h e =
    let low : b.0 ≤ r.0 = ltb-false r.0 b.0 l in
    let high : r.1 ≤ b.1 = ltb-false b.1 r.1 h in
    (omega (arith, low, inside.0), omega (arith, high, inside.1), rest e)

lies_within : (axis : ℕ) (region box : List (ℕ × ℕ)) (p : List ℕ) → length region ≡ length box → outside_axis axis region box ≡ None → LiesIn region p → LiesIn box p
lies_within axis [] [] p same none inside = inside
lies_within axis [] (b ∷ box) p same none inside = absurd (omega arith)
lies_within axis (r ∷ region) [] p same none inside = absurd (omega arith)
lies_within axis (r ∷ region) (b ∷ box) [] same none inside = absurd inside
lies_within axis (r ∷ region) (b ∷ box) (x ∷ p) same none inside =
    with_axis axis r b region box x p inside (λ none. lies_within (axis + 1) region box p (omega arith) none inside.2) (nat_lt r.0 b.0) (nat_lt b.1 r.1) refl refl none

-- contents that agree on the needed blocks give one answer
pub needed-answer : (h : HeaderValue) (ask : Ask) (these those : ℕ → ℕ → List ℕ) → IsHeader h → length ask.region ≡ length h.box → plan_fault h ask ≡ None →
    ((block : ℕ) → Contains (needed h ask) block → these ask.field block ≡ those ask.field block) → answer_of h ask these ≡ answer_of h ask those
needed-answer h ask these those is axes sound same =
    places_agree (sample_at h.box (field_in (placing_of h) these ask.field)) (sample_at h.box (field_in (placing_of h) those ask.field)) (asked_points (asked_of h ask))
    (λ k p at.
    let inside : LiesIn h.box p = lies_within 0 ask.region h.box p axes (inside_axes h ask (outside_axis 0 ask.region h.box) sound) (asked-from (asked_of h ask) k p at).inside in
    let size : ℕ = slice_index (placing_of h).sizes ask.field in
    sample_there (placing_of h) these ask.field p inside
    ∙ ap (λ (bytes : List ℕ). take size (drop (size * (hz_address h.mask p % 2 ^ h.block_bits)) bytes))
    (same (hz_address h.mask p / 2 ^ h.block_bits) (needed-block h ask k p is.bits_within at))
    ∙ sym (sample_there (placing_of h) those ask.field p inside))

-- the bytes of a held block
pub held_bytes : (f : ℕ → List ℕ) (b : ℕ) (held : List (ℕ × List ℕ)) → AllByRecursion (λ pair. pair.1 ≡ f pair.0) held → has b (map (λ (pair : ℕ × List ℕ). pair.0) held) ≡ true → held_block held b ≡ f b
held_bytes f b [] each here = absurd (false≢true here)
held_bytes f b (p ∷ held) each here = by_test (nat_eq b p.0) refl here (λ more. held_bytes f b held each.1 more)
  where
    by_test : (c : Bool) → nat_eq b p.0 ≡ c → (c || has b (map (λ (pair : ℕ × List ℕ). pair.0) held)) ≡ true → (has b (map (λ (pair : ℕ × List ℕ). pair.0) held) ≡ true → held_block held b ≡ f b) →
        option_map_or (λ bytes. bytes) (cond c (Some p.1) (lookup (nat_eq b) held)) [] ≡ f b
    by_test true is here more = each.0 ∙ ap f (sym (eqb-true b p.0 is))
    by_test false is here more = more here

contained : (P : ℕ → Type 0) (xs : List ℕ) (k x : ℕ) → k < length xs → AllByRecursion P xs → P (get_or xs k x)
contained P [] k x within all = absurd (omega arith)
contained P (y ∷ ys) zero x within all = all.0
contained P (y ∷ ys) (suc k) x within all = contained P ys k x (omega arith) all.1

-- a needed block exists
needed_exists : (h : HeaderValue) (ask : Ask) (block : ℕ) → Contains (needed h ask) block → block < block_count h
needed_exists h ask block here =
    subst (λ k. k < block_count h) here.2
    (contained (λ k. k < block_count h) (needed h ask) here.0 block here.1 (below_all (is_needed h ask) 0 (block_count h) (block_count h) (omega arith)))

-- the answer out of the stored blocks is that out of the volume
pub stored_answer : (h : HeaderValue) (t r : ℕ) (raw : List ℕ) (ask : Ask) → IsHeader (at_revision r h) → HasTime h t → length raw ≡ volume_bytes h → ask.field < length h.fields →
    answer_of h ask (stored_block (at_revision r h) t (written h t r raw)) ≡ answer_of_raw h raw ask
stored_answer h t r raw ask is time whole within =
    let in_sizes : ask.field < length (placing_of h).sizes = omega (arith, within, length-map h.fields sample_bytes) in
    ap (λ (samples : List (List ℕ)). answer h.mask h.box samples ask.region ask.lo ask.hi)
    (sym (get_or-map-range_with_len (field_in (placing_of h) (stored_block (at_revision r h) t (written h t r raw))) 0 (length (placing_of h).sizes) ask.field ask.field [] in_sizes (zero-add ask.field))
    ∙ ap (λ (volume : List (List (List ℕ))). slice_index_or volume ask.field [])
    (stored_back Hz (at_revision r h) t (volume_of_raw h raw) (written h t r raw) is (volume_is h raw whole) (written_has h t r raw is time)))

-- held blocks of a step's files that are all that a question needs make its answer
pub held_answer : (h : HeaderValue) (t r : ℕ) (raw : List ℕ) (ask : Ask) (held : List (ℕ × List ℕ)) → IsHeader h → IsHeader (at_revision r h) → HasTime h t → length raw ≡ volume_bytes h → CanBeAsked h ask →
    AllByRecursion (λ pair. pair.1 ≡ bytes_at (table_of (shape_of h) (stored_block (at_revision r h) t (written h t r raw))) ask.field pair.0) held →
    ((block : ℕ) → has block (map (λ (pair : ℕ × List ℕ). pair.0) held) ≡ has block (joined (map (λ (keys : List Key). map (λ (key : Key). key.block) keys) (rounds h ask)))) →
    answer_of h ask (λ field. held_block held) ≡ answer_of_raw h raw ask
held_answer h t r raw ask held is_plain is time whole asked each due =
    needed-answer h ask (λ field. held_block held) (stored_block (at_revision r h) t (written h t r raw)) is_plain asked.axes asked.plan (λ block here.
    held_bytes (bytes_at (table_of (shape_of h) (stored_block (at_revision r h) t (written h t r raw))) ask.field) block held each
    (due block ∙ ap (has block) (round_blocks h ask) ∙ list_any-from_Contains nat_eq_equiv block (needed h ask) here)
    ∙ entry-table [] (shape_of h) (stored_block (at_revision r h) t (written h t r raw)) ask.field block (has_field h (shape_of h) ask.field refl asked.field) (needed_exists h ask block here))
    ∙ stored_answer h t r raw ask is time whole asked.field
