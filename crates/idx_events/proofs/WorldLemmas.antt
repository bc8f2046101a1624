-- Each event keeps what holds of a world: of each, the clauses that it can break; the frames say that it leaves the others alone.
use Rattle.std.proofs.Common.{◌≡◌, ℕ, ◌<◌, inl, inr, Bool, true, false, not, ◌&&◌, nat_eq, nat_lt, is_some, is_none, if◌then◌else◌, List, [], ◌∷◌, ◌++◌, length, map, take, filter, cond, find, slice_get, slice_set, slice_index, All, Option, Some, None, refl, sym, ap, ◌∙◌, subst, arith, append-nil}
use Rattle.std.specs.List.{AllByRecursion, list_all}
use Rattle.std.specs.Option.{option_map_or, option_or}
use Rattle.std.proofs.lemmas.Bool.{eqb-true, false≢true, ltb-true}
use Rattle.std.proofs.lemmas.Option.{same_Some}
use Rattle.std.proofs.lemmas.List.{take_all}
use Rattle.std.specs.List.{list_any}
use Rattle.std.proofs.lemmas.List.{map-append}
use Rattle.std.proofs.lemmas.List.Elements.{filter-append}
use Rattle.idx_outside.specs.Shape.{Shape}
use Rattle.idx_hall.specs.Posts.{Post, newest}
use Rattle.idx_hall.specs.Hall.{HallValue, HallOk, IsBlockOf, after_fill}
use Rattle.idx_hall.specs.declared.key.Key.{Key}
use Rattle.idx_hall.proofs.HallLemmas.{HallOk-publish, HallOk-look, HallOk-evict}
use Rattle.idx_hall.proofs.NewestLemmas.{at_before}
use Rattle.idx_events.specs.Lists.{has, joined, AnyOf, change_first}
use Rattle.idx_events.specs.Setting.{Setting, SettingOk, step_files, post_of_files}
use Rattle.idx_events.specs.World.{World, Volume, Query, Round, held, loaded_in, is_staged, is_published}
use Rattle.idx_events.specs.Volumes.{is_of, is_later, is_post_of, is_published_of, can_give, can_ship, can_write, can_publish, can_abandon, give, ship, seal, publish, abandon, post_of, post_of_sealed, sealed_files, revisions}
use Rattle.idx_events.specs.Queries.{bytes_in, can_look, can_read, can_fill, can_answer, is_next, is_loaded, look, read, fill, answered, post_at, post_for, round_keys, loaded_pairs, due_in, round_blocks}
use Rattle.idx_events.specs.Events.{volume_can, on_volume, on_query, enabled, effect, run, all_enabled, hall_after_publish, after_look_in, after_fill_of}
use Rattle.idx_events.specs.WorldOk.{WorldOk, AreVolumes, GivenOk, DocksOk, SealedOk, BoardOk, IsPostFor, HeldOk, AnswerOk, IsAnswerOf, RoundsOk}
use Rattle.idx_events.specs.declared.event.Event.{Event}
use Rattle.idx_events.specs.declared.event.Event.TheVariants.{Give, Ship, Write, Publish, Abandon, Look, Read, Fill, Evict, Answer}
use Rattle.idx_events.proofs.ListLemmas.{both, not-true, clash, no_Some, Each-weaker, Each-both, Each-found, Each-change, Each-at, Each-set, Each-left, found-passes, map-change, filter-change, AnyOf-change, AnyOf-each}
use Rattle.idx_events.proofs.HallLemmas.{HallOk-fill, filled-shape, filled-board}
use Rattle.idx_events.proofs.BoardLemmas.{revisions-rise, filter-published, post-for, posts-told}
use Rattle.idx_events.proofs.VolumeLemmas.{staged-unpublished, give-given, give-docks, give-sealed, ship-given, ship-docks, ship-sealed, seal-given, seal-docks, seal-sealed, publish-files, publish-given, publish-docks, publish-sealed, abandon-given, abandon-docks, abandon-sealed}
use Rattle.idx_events.proofs.QueryLemmas.{is-none, look-keeps}
use Rattle.idx_events.proofs.RoundLemmas.{read-is, read-held, read-rounds, fill-held, fill-rounds, loaded-blocks}

-- what an enabled event finds
passing : {A : Type 0} (o : Option A) (test : A → Bool) → option_map_or test o false ≡ true → (x : A) × (o ≡ Some x) × (test x ≡ true)
passing None test h = absurd (false≢true h)
passing (Some x) test h = (x, refl, h)

module _ (s : Setting) where
  -- ---- the frame of the events of writing

  -- what a change of a volume has to keep
  record Changes (v u : Volume) : Type 0 where
    staged : is_staged v.phase ≡ true
    time : u.time ≡ v.time
    revision : u.revision ≡ v.revision
    raw : u.raw ≡ v.raw
    given : GivenOk s u
    docks : DocksOk s u
    sealed : SealedOk s u

  module _ (w : World) (ok : WorldOk s w) (time revision : ℕ) (f : Volume → Volume) (v : Volume) (found : find (is_of time revision) w.volumes ≡ Some v) (c : Changes v (f v)) where
    abbrev volumes_after : List Volume
    volumes_after = change_first (is_of time revision) f w.volumes

    not-published : {P : Type 0} → is_published v.phase ≡ true → P
    not-published h = absurd (clash h (staged-unpublished v.phase c.staged))

    volumes-after : AreVolumes s volumes_after
    volumes-after = record {
      numbered = map-change (is_of time revision) f (λ u. u.revision) w.volumes v found c.revision
          ∙ ok.volumes.numbered
          ∙ ap (revisions []) (sym (map-change (is_of time revision) f (λ u. u.time) w.volumes v found c.time));
      steps = Each-change (is_of time revision) f (λ u. s.valid_step u.time u.revision ≡ true) w.volumes v ok.volumes.steps found
          (subst (λ t. s.valid_step t (f v).revision ≡ true) (sym c.time) (subst (λ r. s.valid_step v.time r ≡ true) (sym c.revision)
          (Each-found (is_of time revision) (λ u. s.valid_step u.time u.revision ≡ true) w.volumes v ok.volumes.steps found)));
      whole = Each-change (is_of time revision) f (λ u. s.valid_raw u.raw ≡ true) w.volumes v ok.volumes.whole found
          (subst (λ r. s.valid_raw r ≡ true) (sym c.raw) (Each-found (is_of time revision) (λ u. s.valid_raw u.raw ≡ true) w.volumes v ok.volumes.whole found));
    }

    -- the answers stay those of published volumes, on a board that is as long or longer
    answers-after : (more : List Post) (queries : List Query) → AllByRecursion (AnswerOk s w.volumes w.hall.board) queries → AllByRecursion (AnswerOk s volumes_after (w.hall.board ++ more)) queries
    answers-after more = Each-weaker (AnswerOk s w.volumes w.hall.board) (AnswerOk s volumes_after (w.hall.board ++ more))
        (λ x h bytes e. AnyOf-change (is_of time revision) f (IsAnswerOf s w.hall.board x bytes) (IsAnswerOf s (w.hall.board ++ more) x bytes) w.volumes v (h bytes e) found
        (λ is. not-published is.phase) (λ u is. record { phase = is.phase; post = post-before x (post_of s u) is.post; answer = is.answer }))
      where
        post-before : (x : Query) (p : Post) → post_at w.hall.board x ≡ Some p → post_at (w.hall.board ++ more) x ≡ Some p
        post-before x p = (elim x.post as (λ o. option_map_or (slice_get w.hall.board) o None ≡ Some p → option_map_or (slice_get (w.hall.board ++ more)) o None ≡ Some p) [
          | None ↦ λ e. no_Some p e
          | Some n ↦ λ e. at_before w.hall.board more n p e
        ])

    -- an event that publishes nothing
    volume-frame : is_published (f v).phase ≡ false → WorldOk s (on_volume time revision f w)
    volume-frame unpublished = record {
      volumes = volumes-after;
      asks = ok.asks;
      shape = ok.shape;
      given = Each-change (is_of time revision) f (GivenOk s) w.volumes v ok.given found c.given;
      docks = Each-change (is_of time revision) f (DocksOk s) w.volumes v ok.docks found c.docks;
      sealed = Each-change (is_of time revision) f (SealedOk s) w.volumes v ok.sealed found c.sealed;
      board = record {
        posts = λ t. ok.board.posts t ∙ ap (map (post_of s)) (sym (filter-change (is_of time revision) f (is_published_of t) w.volumes v found
            (ap (λ b. b && nat_eq v.time t) (staged-unpublished v.phase c.staged)) (ap (λ b. b && nat_eq (f v).time t) unpublished)));
        files = Each-change (is_of time revision) f (λ u. is_published u.phase ≡ true → sealed_files u.slots ≡ step_files s u.time u.revision u.raw) w.volumes v ok.board.files found
            (λ is. absurd (clash is unpublished));
      };
      hall = ok.hall;
      held = ok.held;
      answers = subst (λ b. AllByRecursion (AnswerOk s volumes_after b) w.queries) (append-nil w.hall.board) (answers-after [] w.queries ok.answers);
      rounds = ok.rounds;
    }

  -- ---- the frame of the events of asking

  module _ (w : World) (ok : WorldOk s w) (number : ℕ) (x : Query) (at : slice_get w.queries number ≡ Some x) where
    asked : s.valid_ask x.ask ≡ true
    asked = Each-at (λ y. s.valid_ask y.ask ≡ true) w.queries number x ok.asks at

    held-at : HeldOk s w.hall.board x
    held-at = Each-at (HeldOk s w.hall.board) w.queries number x ok.held at

    rounds-at : RoundsOk s x
    rounds-at = Each-at (RoundsOk s) w.queries number x ok.rounds at

    -- an answer stays where the question and the answer do, and the post that was noted
    answer-at : (y : Query) → y.ask ≡ x.ask → y.answer ≡ x.answer → ((n : ℕ) → x.post ≡ Some n → y.post ≡ Some n) → AnswerOk s w.volumes w.hall.board y
    answer-at y ask answer noted bytes e = AnyOf-each (IsAnswerOf s w.hall.board x bytes) (λ u. s.valid_raw u.raw ≡ true) (IsAnswerOf s w.hall.board y bytes)
        (λ u is valid. record { phase = is.phase; post = same-post (post_of s u) is.post; answer = is.answer ∙ ap (λ a. s.answer u.raw a) (sym ask) })
        w.volumes (Each-at (AnswerOk s w.volumes w.hall.board) w.queries number x ok.answers at bytes (sym answer ∙ e)) ok.volumes.whole
      where
        same-post : (p : Post) → post_at w.hall.board x ≡ Some p → post_at w.hall.board y ≡ Some p
        same-post p is = (elim x.post as (λ o. x.post ≡ o → option_map_or (slice_get w.hall.board) o None ≡ Some p → post_at w.hall.board y ≡ Some p) [
          | None ↦ λ f k. no_Some p k
          | Some n ↦ λ f k. ap (λ o. option_map_or (slice_get w.hall.board) o None) (noted n f) ∙ k
        ]) refl is

    query-frame : (h : Query → HallValue) (f : Query → Query) (y : Query) → f x ≡ y → (h x).shape ≡ w.hall.shape → (h x).board ≡ w.hall.board → HallOk (h x) →
        y.ask ≡ x.ask → HeldOk s w.hall.board y → AnswerOk s w.volumes w.hall.board y → RoundsOk s y → WorldOk s (on_query number h f w)
    query-frame h f y is shaped same hall ask held answer rounds = subst (WorldOk s) (sym (ap (λ o. option_map_or (λ z. let u : World = record w { hall = h z; queries = slice_set w.queries number (f z) } in u) o w) at)) (record {
      volumes = ok.volumes;
      asks = Each-set (λ z. s.valid_ask z.ask ≡ true) w.queries number (f x) ok.asks (subst (λ (z : Query). s.valid_ask z.ask ≡ true) (sym is) (subst (λ a. s.valid_ask a ≡ true) (sym ask) asked));
      shape = shaped ∙ ok.shape;
      given = ok.given;
      docks = ok.docks;
      sealed = ok.sealed;
      board = subst (λ b. BoardOk s w.volumes b) (sym same) ok.board;
      hall = hall;
      held = subst (λ b. AllByRecursion (HeldOk s b) (slice_set w.queries number (f x))) (sym same)
          (Each-set (HeldOk s w.hall.board) w.queries number (f x) ok.held (subst (HeldOk s w.hall.board) (sym is) held));
      answers = subst (λ b. AllByRecursion (AnswerOk s w.volumes b) (slice_set w.queries number (f x))) (sym same)
          (Each-set (AnswerOk s w.volumes w.hall.board) w.queries number (f x) ok.answers (subst (λ z. AnswerOk s w.volumes w.hall.board z) (sym is) answer));
      rounds = Each-set (RoundsOk s) w.queries number (f x) ok.rounds (subst (RoundsOk s) (sym is) rounds);
    })

    -- ---- Look
    look-hall : (o : Option ℕ) (keys : List Key) → HallOk (after_look_in o keys w.hall)
    look-hall None keys = ok.hall
    look-hall (Some n) keys = HallOk-look n keys w.hall ok.hall

    look-shape : (o : Option ℕ) (keys : List Key) → (after_look_in o keys w.hall).shape ≡ w.hall.shape
    look-shape None keys = refl
    look-shape (Some n) keys = refl

    look-board : (o : Option ℕ) (keys : List Key) → (after_look_in o keys w.hall).board ≡ w.hall.board
    look-board None keys = refl
    look-board (Some n) keys = refl

    look-keeps-world : can_look s w.hall.board x ≡ true → WorldOk s (effect s w (Look number))
    look-keeps-world can =
        let a = both (is_none x.answer) (is_none x.round && (nat_lt x.ended (length (s.rounds x.ask)) && is_some (newest w.hall.board x.ask.time))) can in
        let b = both (is_none x.round) (nat_lt x.ended (length (s.rounds x.ask)) && is_some (newest w.hall.board x.ask.time)) a.1 in
        let c = both (nat_lt x.ended (length (s.rounds x.ask))) (is_some (newest w.hall.board x.ask.time)) b.1 in
        let keeps = look-keeps s w.hall x ok.hall (posts-told s w.volumes w.hall.board ok.board) held-at rounds-at (is-none x.answer a.0) (is-none x.round b.0) (ltb-true x.ended (length (s.rounds x.ask)) c.0) c.1 in
        query-frame (λ z. after_look_in (post_for w.hall.board z) (round_keys s z) w.hall) (look s w.hall) (look s w.hall x) refl
        (look-shape (post_for w.hall.board x) (round_keys s x)) (look-board (post_for w.hall.board x) (round_keys s x))
        (look-hall (post_for w.hall.board x) (round_keys s x)) refl keeps.held
        (answer-at (look s w.hall x) refl refl (λ n e. ap (λ o. option_or o (newest w.hall.board x.ask.time)) e)) keeps.rounds

    -- ---- Read
    read-keeps : (block : ℕ) (r : Round) → x.round ≡ Some r → slice_get r.missing (length r.loaded) ≡ Some block → WorldOk s (effect s w (Read number block))
    read-keeps block r in_round next =
        query-frame (λ z. w.hall) (read w.hall.board block) _ (read-is s x r in_round w.hall.board block next) refl refl ok.hall refl
        (read-held s x r in_round w.hall.board block next held-at) (answer-at _ refl refl (λ n e. e)) (read-rounds s x r in_round w.hall.board block next rounds-at)

    -- ---- Fill
    fits-one : (laws : SettingOk s) (p : Post) (field block : ℕ) → field < length s.shape.lengths → block < s.shape.blocks → (us : List Volume) → AnyOf (IsPostFor s p) us →
        AllByRecursion (λ u. s.valid_step u.time u.revision ≡ true) us → AllByRecursion (λ u. s.valid_raw u.raw ≡ true) us → length (bytes_in p field block) ≡ slice_index s.shape.lengths field
    fits-one laws p field block f b [] any steps valid = absurd any
    fits-one laws p field block f b (u ∷ us) any steps valid = elim any [
      | inl is ↦ ap (λ (q : Post). length (bytes_in q field block)) is.post ∙ laws.lengths u.time u.revision u.raw field block steps.0 valid.0 f b
      | inr there ↦ fits-one laws p field block f b us there steps.1 valid.1
    ]

    pub fits-at : (laws : SettingOk s) (n : ℕ) (p : Post) → slice_get w.hall.board n ≡ Some p → (field block : ℕ) → field < length s.shape.lengths → block < s.shape.blocks → length (bytes_in p field block) ≡ slice_index s.shape.lengths field
    fits-at laws n p there field block f b = fits-one laws p field block f b w.volumes (post-for s w.volumes w.hall.board ok.board n p there) ok.volumes.steps ok.volumes.whole

    -- what a fill puts are blocks of the question's post
    pub fill-pairs : (laws : SettingOk s) (r : Round) → x.round ≡ Some r → (n : ℕ) → x.post ≡ Some n →
        (p : Post) × (slice_get w.hall.board n ≡ Some p) × All (IsBlockOf w.hall.shape p) (loaded_pairs x)
    fill-pairs laws r in_round n e =
        let there = loaded-blocks s x r in_round laws w.hall.board held-at rounds-at asked (fits-at laws) n e in
        (there.0, there.1, subst (λ (z : Shape). All (IsBlockOf z there.0) (loaded_pairs x)) (sym ok.shape) there.2)

    fill-keeps : (laws : SettingOk s) (r : Round) → x.round ≡ Some r → length r.loaded ≡ length r.missing → WorldOk s (effect s w (Fill number))
    fill-keeps laws r in_round full =
        query-frame (λ z. after_fill_of z w.hall) fill (fill x) refl (fill-shape x.post) (fill-board x.post) (fill-hall x.post refl)
        refl (fill-held s x r in_round full w.hall.board held-at rounds-at) (answer-at (fill x) refl refl (λ n e. e)) (fill-rounds s x r in_round full rounds-at)
      where
        fill-shape : (o : Option ℕ) → (option_map_or (λ n. after_fill n (loaded_pairs x) w.hall) o w.hall).shape ≡ w.hall.shape
        fill-shape None = refl
        fill-shape (Some n) = filled-shape n (loaded_pairs x) w.hall

        fill-board : (o : Option ℕ) → (option_map_or (λ n. after_fill n (loaded_pairs x) w.hall) o w.hall).board ≡ w.hall.board
        fill-board None = refl
        fill-board (Some n) = filled-board n (loaded_pairs x) w.hall

        fill-hall : (o : Option ℕ) → x.post ≡ o → HallOk (option_map_or (λ n. after_fill n (loaded_pairs x) w.hall) o w.hall)
        fill-hall None e = ok.hall
        fill-hall (Some n) e = let there = fill-pairs laws r in_round n e in HallOk-fill n (loaded_pairs x) w.hall ok.hall there.0 there.1 there.2

    -- ---- Answer
    answer-keeps : (laws : SettingOk s) → can_answer s x ≡ true → WorldOk s (effect s w (Answer number))
    answer-keeps laws can = by_post x.post refl
      where
        ended : x.ended ≡ length (s.rounds x.ask)
        ended = eqb-true x.ended (length (s.rounds x.ask)) (both (is_none x.answer) (nat_eq x.ended (length (s.rounds x.ask))) can).1

        no-round : (o : Option Round) → x.round ≡ o → x.round ≡ None
        no-round None e = e
        no-round (Some r) e = let left = (rounds-at.round r e).left in let whole = ended in absurd (omega arith)

        all-due : (block : ℕ) → has block (map (λ (pair : ℕ × List ℕ). pair.0) x.kept) ≡ has block (joined (s.rounds x.ask))
        all-due block =
            ap (λ l. has block (map (λ (pair : ℕ × List ℕ). pair.0) l)) (sym (append-nil x.kept) ∙ ap (λ o. x.kept ++ loaded_in o) (sym (no-round x.round refl)))
            ∙ held-at.due block
            ∙ ap (λ o. has block (joined (take x.ended (s.rounds x.ask)) ++ due_in s (round_blocks s x) o)) (no-round x.round refl)
            ∙ ap (has block) (append-nil (joined (take x.ended (s.rounds x.ask))) ∙ ap joined (take_all x.ended (s.rounds x.ask) (let whole = ended in omega arith)))

        held-after : HeldOk s w.hall.board (answered s x)
        held-after = record { from = λ n e. let old = held-at.from n e in record { post = old.post; is = old.is; bytes = old.bytes }; due = held-at.due }

        rounds-after : (n : ℕ) → x.post ≡ Some n → RoundsOk s (answered s x)
        rounds-after n e = record {
          fresh = λ none. no_Some n (sym none ∙ e);
          ended = rounds-at.ended;
          round = λ r e. absurd (rounds-clash r e);
        }
          where
            rounds-clash : (r : Round) → x.round ≡ Some r → ⊥
            rounds-clash r e = let left = (rounds-at.round r e).left in let whole = ended in omega arith

        one-answer : (bytes : List ℕ) (n : ℕ) (p : Post) → x.post ≡ Some n → slice_get w.hall.board n ≡ Some p → AllByRecursion (λ pair. pair.1 ≡ bytes_in p x.ask.field pair.0) x.kept →
            s.put_together x.ask x.kept ≡ bytes → (u : Volume) → IsPostFor s p u → (s.valid_step u.time u.revision ≡ true) × (s.valid_raw u.raw ≡ true) → IsAnswerOf s w.hall.board (answered s x) bytes u
        one-answer bytes n p e there of_post made u is valid = record {
          phase = is.phase;
          post = ap (λ o. option_map_or (slice_get w.hall.board) o None) e ∙ there ∙ ap Some is.post;
          answer = sym made ∙ laws.answers u.time u.revision u.raw x.ask x.kept valid.0 valid.1 asked
              (subst (λ (q : Post). AllByRecursion (λ pair. pair.1 ≡ bytes_in q x.ask.field pair.0) x.kept) is.post of_post) all-due;
        }

        by_post : (o : Option ℕ) → x.post ≡ o → WorldOk s (effect s w (Answer number))
        by_post None e = let fresh = rounds-at.fresh e in let some = laws.some_rounds x.ask in let none = fresh.ended in let whole = ended in absurd (omega arith)
        by_post (Some n) e =
            let from = held-at.from n e in
            query-frame (λ z. w.hall) (answered s) (answered s x) refl refl refl ok.hall refl held-after
            (λ bytes made. AnyOf-each (IsPostFor s from.post) (λ u. (s.valid_step u.time u.revision ≡ true) × (s.valid_raw u.raw ≡ true)) (IsAnswerOf s w.hall.board (answered s x) bytes)
            (one-answer bytes n from.post e from.is.at (Each-left (λ pair. pair.1 ≡ bytes_in from.post x.ask.field pair.0) x.kept (loaded_in x.round) from.bytes) (same_Some (s.put_together x.ask x.kept) bytes made))
            w.volumes (post-for s w.volumes w.hall.board ok.board n from.post from.is.at)
            (Each-both (λ u. s.valid_step u.time u.revision ≡ true) (λ u. s.valid_raw u.raw ≡ true) (λ u. (s.valid_step u.time u.revision ≡ true) × (s.valid_raw u.raw ≡ true)) (λ u a b. (a, b)) w.volumes ok.volumes.steps ok.volumes.whole))
            (rounds-after n e)

  -- ---- Publish

  module _ (w : World) (ok : WorldOk s w) (time revision : ℕ) (v : Volume) (found : find (is_of time revision) w.volumes ≡ Some v) (can : can_publish s v ≡ true)
      (none : list_any (is_later time revision) w.volumes ≡ false) where
    staged : is_staged v.phase ≡ true
    staged = (both (is_staged v.phase) (list_all (λ slot. is_some slot.sealed) v.slots) can).0

    docks-at : DocksOk s v
    docks-at = Each-found (is_of time revision) (DocksOk s) w.volumes v ok.docks found

    sealed-at : SealedOk s v
    sealed-at = Each-found (is_of time revision) (SealedOk s) w.volumes v ok.sealed found

    changes : Changes v (publish s v)
    changes = record {
      staged = staged;
      time = refl;
      revision = refl;
      raw = refl;
      given = publish-given s v (Each-found (is_of time revision) (GivenOk s) w.volumes v ok.given found);
      docks = publish-docks s v staged docks-at;
      sealed = publish-sealed s v sealed-at;
    }

    same-post : post_of_sealed s v ≡ post_of s v
    same-post = ap (λ files. post_of_files s v.time v.revision files) (publish-files s v can docks-at sealed-at)

    is-time : v.time ≡ time
    is-time = eqb-true v.time time (both (nat_eq v.time time) (nat_eq v.revision revision) (found-passes (is_of time revision) w.volumes v found)).0

    -- the posts of each timestep, with one more
    posts-more : (t : ℕ) → filter (is_post_of t) (w.hall.board ++ post_of_sealed s v ∷ []) ≡ map (post_of s) (filter (is_published_of t) (change_first (is_of time revision) (publish s) w.volumes))
    posts-more t = filter-append (is_post_of t) w.hall.board (post_of_sealed s v ∷ []) ∙ by_time (nat_eq v.time t) refl
      where
        by_time : (b : Bool) → nat_eq v.time t ≡ b → filter (is_post_of t) w.hall.board ++ filter (is_post_of t) (post_of_sealed s v ∷ []) ≡
            map (post_of s) (filter (is_published_of t) (change_first (is_of time revision) (publish s) w.volumes))
        by_time true e =
            let same : time ≡ t = sym is-time ∙ eqb-true v.time t e in
            ap (λ c. filter (is_post_of t) w.hall.board ++ cond c (post_of_sealed s v ∷ []) []) e
            ∙ ap (λ p. filter (is_post_of t) w.hall.board ++ p ∷ []) same-post
            ∙ ap (λ l. l ++ post_of s v ∷ []) (ok.board.posts t)
            ∙ sym (map-append (post_of s) (filter (is_published_of t) w.volumes) (publish s v ∷ []))
            ∙ ap (map (post_of s)) (sym (subst (λ n. filter (is_published_of n) (change_first (is_of time revision) (publish s) w.volumes) ≡ filter (is_published_of n) w.volumes ++ publish s v ∷ []) same
            (filter-published time revision s w.volumes v (revisions-rise w.volumes ok.volumes.numbered) none found (staged-unpublished v.phase staged))))
        by_time false e =
            ap (λ c. filter (is_post_of t) w.hall.board ++ cond c (post_of_sealed s v ∷ []) []) e
            ∙ append-nil (filter (is_post_of t) w.hall.board)
            ∙ ok.board.posts t
            ∙ ap (map (post_of s)) (sym (filter-change (is_of time revision) (publish s) (is_published_of t) w.volumes v found
            (ap (λ b. b && nat_eq v.time t) (staged-unpublished v.phase staged)) e))

    held-more : (x : Query) → HeldOk s w.hall.board x → HeldOk s (w.hall.board ++ post_of_sealed s v ∷ []) x
    held-more x h = record {
      from = λ n e. let old = h.from n e in record {
        post = old.post;
        is = record { at = at_before w.hall.board (post_of_sealed s v ∷ []) n old.post old.is.at; time = old.is.time };
        bytes = old.bytes;
      };
      due = h.due;
    }

    publish-keeps : WorldOk s (effect s w (Publish time revision))
    publish-keeps = subst (WorldOk s) (sym (ap (λ o. let u : World = record (on_volume time revision (publish s) w) { hall = hall_after_publish s o w.hall } in u) found)) (record {
      volumes = volumes-after w ok time revision (publish s) v found changes;
      asks = ok.asks;
      shape = ok.shape;
      given = Each-change (is_of time revision) (publish s) (GivenOk s) w.volumes v ok.given found changes.given;
      docks = Each-change (is_of time revision) (publish s) (DocksOk s) w.volumes v ok.docks found changes.docks;
      sealed = Each-change (is_of time revision) (publish s) (SealedOk s) w.volumes v ok.sealed found changes.sealed;
      board = record {
        posts = posts-more;
        files = Each-change (is_of time revision) (publish s) (λ u. is_published u.phase ≡ true → sealed_files u.slots ≡ step_files s u.time u.revision u.raw) w.volumes v ok.board.files found
            (λ is. publish-files s v can docks-at sealed-at);
      };
      hall = HallOk-publish w.hall (post_of_sealed s v) ok.hall;
      held = Each-weaker (HeldOk s w.hall.board) (HeldOk s (w.hall.board ++ post_of_sealed s v ∷ [])) held-more w.queries ok.held;
      answers = answers-after w ok time revision (publish s) v found changes (post_of_sealed s v ∷ []) w.queries ok.answers;
      rounds = ok.rounds;
    })

  -- ---- every event

  module _ (laws : SettingOk s) (w : World) (ok : WorldOk s w) where
    given-of : (time revision : ℕ) (v : Volume) → find (is_of time revision) w.volumes ≡ Some v → GivenOk s v
    given-of time revision v found = Each-found (is_of time revision) (GivenOk s) w.volumes v ok.given found

    docks-of : (time revision : ℕ) (v : Volume) → find (is_of time revision) w.volumes ≡ Some v → DocksOk s v
    docks-of time revision v found = Each-found (is_of time revision) (DocksOk s) w.volumes v ok.docks found

    sealed-of : (time revision : ℕ) (v : Volume) → find (is_of time revision) w.volumes ≡ Some v → SealedOk s v
    sealed-of time revision v found = Each-found (is_of time revision) (SealedOk s) w.volumes v ok.sealed found

    pub keeps : (e : Event) → enabled s w e ≡ true → WorldOk s (effect s w e)
    keeps (Give time revision rank piece) can =
        let p = passing (find (is_of time revision) w.volumes) (can_give s rank piece) can in
        let staged = (both (is_staged p.0.phase) _ p.2).0 in
        volume-frame w ok time revision (give s rank piece) p.0 p.1 (record {
          staged = staged;
          time = refl;
          revision = refl;
          raw = refl;
          given = give-given s p.0 rank piece p.2 (given-of time revision p.0 p.1);
          docks = give-docks s p.0 rank piece p.2 (docks-of time revision p.0 p.1);
          sealed = give-sealed s p.0 rank piece p.2 (sealed-of time revision p.0 p.1);
        }) (staged-unpublished p.0.phase staged)
    keeps (Ship time revision piece file) can =
        let p = passing (find (is_of time revision) w.volumes) (can_ship s piece file) can in
        let staged = (both (is_staged p.0.phase) _ p.2).0 in
        volume-frame w ok time revision (ship s piece file) p.0 p.1 (record {
          staged = staged;
          time = refl;
          revision = refl;
          raw = refl;
          given = ship-given s p.0 piece file p.2 (given-of time revision p.0 p.1);
          docks = ship-docks s p.0 piece file (docks-of time revision p.0 p.1);
          sealed = ship-sealed s p.0 piece file (sealed-of time revision p.0 p.1);
        }) (staged-unpublished p.0.phase staged)
    keeps (Write time revision file) can =
        let p = passing (find (is_of time revision) w.volumes) (can_write s file) can in
        let staged = (both (is_staged p.0.phase) _ p.2).0 in
        volume-frame w ok time revision (seal s file) p.0 p.1 (record {
          staged = staged;
          time = refl;
          revision = refl;
          raw = refl;
          given = seal-given s p.0 file (given-of time revision p.0 p.1);
          docks = seal-docks s p.0 file (docks-of time revision p.0 p.1);
          sealed = seal-sealed s p.0 file laws p.2 (docks-of time revision p.0 p.1) (sealed-of time revision p.0 p.1);
        }) (staged-unpublished p.0.phase staged)
    keeps (Publish time revision) can =
        let parts = both (volume_can time revision (can_publish s) w) (not (list_any (is_later time revision) w.volumes)) can in
        let p = passing (find (is_of time revision) w.volumes) (can_publish s) parts.0 in
        publish-keeps w ok time revision p.0 p.1 p.2 (not-true (list_any (is_later time revision) w.volumes) parts.1)
    keeps (Abandon time revision) can =
        let p = passing (find (is_of time revision) w.volumes) (can_abandon s) can in
        volume-frame w ok time revision (abandon s) p.0 p.1 (record {
          staged = p.2;
          time = refl;
          revision = refl;
          raw = refl;
          given = abandon-given s p.0 (given-of time revision p.0 p.1);
          docks = abandon-docks s p.0;
          sealed = abandon-sealed s p.0;
        }) refl
    keeps (Look query) can =
        let p = passing (slice_get w.queries query) (can_look s w.hall.board) can in
        look-keeps-world w ok query p.0 p.1 p.2
    keeps (Read query block) can =
        let p = passing (slice_get w.queries query) (can_read block) can in
        let r = passing p.0.round (is_next block) p.2 in
        let b = passing (slice_get r.0.missing (length r.0.loaded)) (nat_eq block) r.2 in
        read-keeps w ok query p.0 p.1 block r.0 r.1 (b.1 ∙ ap (λ n. Some n) (sym (eqb-true block b.0 b.2)))
    keeps (Fill query) can =
        let p = passing (slice_get w.queries query) can_fill can in
        let r = passing p.0.round is_loaded p.2 in
        fill-keeps w ok query p.0 p.1 laws r.0 r.1 (eqb-true (length r.0.loaded) (length r.0.missing) r.2)
    keeps (Evict count) can = record {
      volumes = ok.volumes;
      asks = ok.asks;
      shape = ok.shape;
      given = ok.given;
      docks = ok.docks;
      sealed = ok.sealed;
      board = ok.board;
      hall = HallOk-evict count w.hall ok.hall;
      held = ok.held;
      answers = ok.answers;
      rounds = ok.rounds;
    }
    keeps (Answer query) can =
        let p = passing (slice_get w.queries query) (can_answer s) can in
        answer-keeps w ok query p.0 p.1 laws p.2

  -- and every list of events
  pub keeps-all : SettingOk s → (es : List Event) (w : World) → WorldOk s w → all_enabled s w es ≡ true → WorldOk s (run s w es)
  keeps-all laws [] w ok h = ok
  keeps-all laws (e ∷ es) w ok h = (elim (enabled s w e) as (λ b. enabled s w e ≡ b → (if b then all_enabled s (effect s w e) es else false) ≡ true → WorldOk s (run s (effect s w e) es)) [
    | true ↦ λ can rest. keeps-all laws es (effect s w e) (keeps laws w ok e can) rest
    | false ↦ λ can rest. absurd (false≢true rest)
  ]) refl h
