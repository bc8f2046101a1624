-- Each kind of step keeps the rule of the lock.
use Rattle.std.proofs.Common.{◌≡◌, ◌≢◌, ◌⊎◌, ℕ, zero, suc, Bool, true, false, cond, true≢false, ◌||◌, List, [], ◌∷◌, ◌++◌, set, refl, sym, ap, ◌∙◌, subst, inl, inr, ⊎_elim}
use Rattle.std.specs.Prelude.{Option, Some, None}
use mathlib.Core.Option.{some, some-injective, some-ne-none}
use native.Mathlib.Decide.{ℕ_discrete}
use lib.ListN.{get_elem?}
use Rattle.crossbeam_queue.specs.Fifo.{Pushes, Pops, Forks, Merges, Learns}
use Rattle.crossbeam_queue.proofs.Lists.{at_set, at_snoc, set_again, set_else, at_longer}
use Rattle.idx_turn.specs.Stands.{Stand}
use Rattle.idx_lock.specs.declared.seat_view.SeatView.{SeatView}
use Rattle.idx_lock.specs.LockRule.{seat_view, opening, spent, Precedes, longer, shorter, EachSeat, AnyTwo, Fits, Writes, IsIn, IsOut, LockRule, Took, gave, MayPush, newcomer, joined}
use Rattle.idx_lock.proofs.Prefixes.{precedes_itself, precedes_more, longer_is, either_begins}

is_false : (b : Bool) → (b ≡ true → ⊥) → b ≡ false
is_false true h = absurd (h refl)
is_false false h = refl

not_both : {b : Bool} → b ≡ true → b ≡ false → ⊥
not_both t f = true≢false (sym t ∙ f)

set_there : (l : List SeatView) (i : ℕ) (a b : SeatView) → get_elem? l i ≡ some a → get_elem? (set l i b) i ≡ some b
set_there [] i a b e = absurd (some-ne-none a (sym e))
set_there (x ∷ xs) zero a b e = refl
set_there (x ∷ xs) (suc i) a b e = set_there xs i a b e

same_view : (views : List SeatView) (i j : ℕ) (u v : SeatView) → i ≡ j → get_elem? views i ≡ some u → get_elem? views j ≡ some v → u ≡ v
same_view views i j u v is a b = some-injective u v (sym a ∙ (ap (λ (k : ℕ). get_elem? views k) is ∙ b))

-- what holds of each view holds after a change of one, if it holds of that one
each_set : (P Q : ℕ → SeatView → Type 0) (views : List SeatView) (seat : ℕ) (w : SeatView) → EachSeat views P → Q seat w
    → ((j : ℕ) (u : SeatView) → j ≢ seat → P j u → Q j u) → EachSeat (set views seat w) Q
each_set P Q views seat w old mine others j u e =
    ⊎_elim (λ (x : (j ≡ seat) × (w ≡ u)). subst (λ (y : ℕ × SeatView). Q y.0 y.1) (λ i. (sym x.0 i, x.1 i)) mine)
    (λ (x : (j ≢ seat) × (get_elem? views j ≡ some u)). others j u x.0 (old j u x.1)) (at_set views seat j w u e)

each_snoc : (P : ℕ → SeatView → Type 0) (views : List SeatView) (w : SeatView) → EachSeat views P → ((j : ℕ) → P j w) → EachSeat (views ++ w ∷ []) P
each_snoc P views w old mine j u e =
    ⊎_elim (λ (x : get_elem? views j ≡ some u). old j u x) (λ (x : w ≡ u). subst (λ (y : SeatView). P j y) x (mine j)) (at_snoc views w u j e)

-- the writer after a change of one view
writes_set : (g g' : Option Stand) (views : List SeatView) (seat writer : ℕ) (v w : SeatView) → get_elem? views seat ≡ some v → Writes g views writer
    → w.writer ≡ v.writer → (writer ≡ seat → w.seen ≡ g') → (writer ≢ seat → g ≡ g') → Dec (writer ≡ seat) → Writes g' (set views seat w) writer
writes_set g g' views seat writer v w at h keeps mine others (yes e) =
    let there : get_elem? (set views seat w) writer ≡ some w = ap (λ (k : ℕ). get_elem? (set views seat w) k) e ∙ set_there views seat v w at in
    let same : h.of ≡ v = same_view views writer seat h.of v e h.at at in
    record { of = w; at = there; is = keeps ∙ (ap (λ (y : SeatView). y.writer) (sym same) ∙ h.is); seen = mine e }
writes_set g g' views seat writer v w at h keeps mine others (no ne) =
    record { of = h.of; at = set_else views seat writer w ne ∙ h.at; is = h.is; seen = h.seen ∙ others ne }

module _ {S : Type 0} (stands : S → Stand) where
  -- the writer has seen g
  writer_seen : (items : List S) (views : List SeatView) (h : LockRule stands items views) (seat : ℕ) (v : SeatView) → get_elem? views seat ≡ some v → v.writer ≡ true → v.seen ≡ h.g
  writer_seen items views h seat v at w =
      let e : seat ≡ h.writer = (h.fits seat v at).writes w in
      ap (λ (y : SeatView). y.seen) (same_view views seat h.writer v h.writes.of e at h.writes.at) ∙ h.writes.seen

  only_one : (v : SeatView) (seat : ℕ) (u : SeatView) → get_elem? (v ∷ []) seat ≡ some u → (seat ≡ 0) × (v ≡ u)
  only_one v zero u e = (refl, some-injective v u e)
  only_one v (suc k) u e = absurd (some-ne-none u (sym e))

  pub opens : LockRule stands [] (opening ∷ [])
  opens = record {
    g = None;
    writer = 0;
    writes = record { of = opening; at = refl; is = refl; seen = refl };
    fits = λ seat v at.
        let r = only_one opening seat v at in
        let mine : Fits None 0 0 opening = record { seen = tt; lesser = tt; writes = λ _. refl } in
        subst (λ (y : ℕ × SeatView). Fits None 0 y.0 y.1) (λ i. (sym r.0 i, r.1 i)) mine;
    place = inr (record { empty = refl; holder = 0; holds = record { of = opening; at = refl; is = refl; seen = refl; alone = λ seat v at _. (only_one opening seat v at).0 } });
  }

  -- the taker holds afterwards, and has seen what the value stands for
  taken : (seat : ℕ) (v : SeatView) (x : S) (items : List S) (views : List SeatView) (h : LockRule stands (x ∷ items) views) → get_elem? views seat ≡ some v
      → IsIn stands h.g (x ∷ items) views ⊎ IsOut stands h.g (x ∷ items) views
      → (w : SeatView) × LockRule stands items (set views seat w) × Took stands v x w
  taken seat v x items views h at (inr o) = let e = o.empty in absurd (cc)
  taken seat v x items views h at (inl f) =
      let w : SeatView = seat_view (Some (stands x)) None v.writer true in
      let one = f.one in
      let rest : items ≡ [] = cc in
      let value : f.value ≡ x = cc in
      let g' : h.g ≡ Some (stands x) = f.for ∙ ap (λ (y : S). Some (stands y)) value in
      let mine = h.fits seat v at in (
        w,
        record {
          g = Some (stands x);
          writer = h.writer;
          writes = writes_set h.g (Some (stands x)) views seat h.writer v w at h.writes refl (λ _. refl) (λ _. g') (ℕ_discrete h.writer seat);
          fits = each_set (Fits h.g h.writer) (Fits (Some (stands x)) h.writer) views seat w h.fits
              (record { seen = precedes_itself (Some (stands x)); lesser = tt; writes = mine.writes })
              (λ j u _ old. record { seen = subst (λ (k : Option Stand). Precedes u.seen k) g' old.seen; lesser = old.lesser; writes = old.writes });
          place = inr (record {
            empty = rest;
            holder = seat;
            holds = record {
              of = w;
              at = set_there views seat v w at;
              is = refl;
              seen = refl;
              alone = each_set (λ j u. u.holds ≡ false) (λ j u. u.holds ≡ true → j ≡ seat) views seat w f.none_holds (λ _. refl)
                  (λ j u _ free holds. absurd (not_both holds free));
            };
          });
        },
        record {
          now = refl;
          begins = subst (λ (k : Option Stand). Precedes v.seen k) g' mine.seen;
          same = λ writes. writer_seen (x ∷ items) views h seat v at writes ∙ g';
        },
      )

  pub takes : (seat : ℕ) (v : SeatView) → Pops (LockRule stands) seat v (Took stands v)
  takes seat v x items views h at = taken seat v x items views h at h.place

  -- who holds has seen g, and the queue is empty
  out : (items : List S) (views : List SeatView) (h : LockRule stands items views) (seat : ℕ) (v : SeatView) → get_elem? views seat ≡ some v → v.holds ≡ true
      → IsIn stands h.g items views ⊎ IsOut stands h.g items views
      → (items ≡ []) × (v.seen ≡ h.g) × EachSeat views (λ other u. u.holds ≡ true → other ≡ seat)
  out items views h seat v at holds (inl f) = absurd (not_both holds (f.none_holds seat v at))
  out items views h seat v at holds (inr o) =
      let e : seat ≡ o.holder = o.holds.alone seat v at holds in (
        o.empty,
        ap (λ (y : SeatView). y.seen) (same_view views seat o.holder v o.holds.of e at o.holds.at) ∙ o.holds.seen,
        λ other u there held. o.holds.alone other u there held ∙ sym e,
      )

  pub gives : (n seat : ℕ) (v : SeatView) (x : S) → MayPush stands v x → Pushes (LockRule stands) n seat v x (λ w. w ≡ gave stands v x)
  gives n seat v x may items views room h at =
      let w : SeatView = gave stands v x in
      let o = out items views h seat v at may.holds h.place in
      let mine = h.fits seat v at in
      let further : Precedes h.g (Some (stands x)) = subst (λ (k : Option Stand). Precedes k (Some (stands x))) o.1 may.begins in (
        w,
        record {
          g = Some (stands x);
          writer = h.writer;
          writes = writes_set h.g (Some (stands x)) views seat h.writer v w at h.writes refl (λ _. refl)
              (λ other. sym o.1 ∙ may.same (is_false v.writer (λ writes. other (sym (mine.writes writes))))) (ℕ_discrete h.writer seat);
          fits = each_set (Fits h.g h.writer) (Fits (Some (stands x)) h.writer) views seat w h.fits
              (record { seen = precedes_itself (Some (stands x)); lesser = tt; writes = mine.writes })
              (λ j u _ old. record { seen = precedes_more u.seen h.g (Some (stands x)) old.seen further; lesser = old.lesser; writes = old.writes });
          place = inl (record {
            value = x;
            one = ap (λ (l : List S). l ++ x ∷ []) o.0;
            for = refl;
            none_holds = each_set (λ j u. u.holds ≡ true → j ≡ seat) (λ j u. u.holds ≡ false) views seat w o.2 refl
                (λ j u ne alone. is_false u.holds (λ holds. ne (alone holds)));
          });
        },
        refl,
      )

  -- the opening seat puts the value in
  pub fills : (n seat : ℕ) (v : SeatView) (x : S) → v ≡ opening → Pushes (LockRule stands) n seat v x (λ w. w ≡ gave stands v x)
  fills n seat v x is =
      gives n seat v x (subst (λ (y : SeatView). MayPush stands y x) (sym is) (record { holds = refl; begins = tt; same = λ e. absurd (true≢false e) }))

  -- a seat that holds finds the queue empty
  pub finds_room : (seat : ℕ) (v : SeatView) → v.holds ≡ true → Learns (LockRule stands) seat v (λ items. items ≡ [])
  finds_room seat v holds items views h at = (out items views h seat v at holds h.place).0

  snoc_place : (g : Option Stand) (items : List S) (views : List SeatView) (w : SeatView) → w.holds ≡ false
      → IsIn stands g items views ⊎ IsOut stands g items views → IsIn stands g items (views ++ w ∷ []) ⊎ IsOut stands g items (views ++ w ∷ [])
  snoc_place g items views w free (inl f) =
      inl (record { value = f.value; one = f.one; for = f.for; none_holds = each_snoc (λ j u. u.holds ≡ false) views w f.none_holds (λ _. free) })
  snoc_place g items views w free (inr o) =
      inr (record {
        empty = o.empty;
        holder = o.holder;
        holds = record {
          of = o.holds.of;
          at = at_longer views (w ∷ []) o.holder o.holds.of o.holds.at;
          is = o.holds.is;
          seen = o.holds.seen;
          alone = each_snoc (λ j u. u.holds ≡ true → j ≡ o.holder) views w o.holds.alone (λ j holds. absurd (not_both holds free));
        };
      })

  snoc : (items : List S) (views : List SeatView) (h : LockRule stands items views) (w : SeatView) → Fits h.g h.writer 0 w → w.writer ≡ false → w.holds ≡ false → LockRule stands items (views ++ w ∷ [])
  snoc items views h w fits reads free = record {
    g = h.g;
    writer = h.writer;
    writes = record { of = h.writes.of; at = at_longer views (w ∷ []) h.writer h.writes.of h.writes.at; is = h.writes.is; seen = h.writes.seen };
    fits = each_snoc (Fits h.g h.writer) views w h.fits (λ j. record { seen = fits.seen; lesser = fits.lesser; writes = λ writes. absurd (not_both writes reads) });
    place = snoc_place h.g items views w free h.place;
  }

  pub splits : (seat : ℕ) (v : SeatView) → Forks (LockRule stands) seat v v (newcomer v)
  splits seat v items views h at =
      subst (λ (l : List SeatView). LockRule stands items (l ++ newcomer v ∷ [])) (sym (set_again views seat v at))
      (snoc items views h (newcomer v) (record { seen = (h.fits seat v at).seen; lesser = tt; writes = λ e. absurd (true≢false (sym e)) }) refl refl)

  -- a change of two views that hold nothing, before and after
  join_place : (g : Option Stand) (items : List S) (views : List SeatView) (seat : ℕ) (v : SeatView) (other : ℕ) (u w x : SeatView)
      → get_elem? views seat ≡ some v → get_elem? views other ≡ some u → v.holds ≡ false → u.holds ≡ false → w.holds ≡ false → x.holds ≡ false
      → IsIn stands g items views ⊎ IsOut stands g items views
      → IsIn stands g items (set (set views seat w) other x) ⊎ IsOut stands g items (set (set views seat w) other x)
  join_place g items views seat v other u w x at was v_free u_free w_free x_free (inl f) =
      let None_holds : ℕ → SeatView → Type 0 = λ j y. y.holds ≡ false in
      inl (record {
        value = f.value;
        one = f.one;
        for = f.for;
        none_holds = each_set None_holds None_holds (set views seat w) other x (each_set None_holds None_holds views seat w f.none_holds w_free (λ j y _ free. free)) x_free (λ j y _ free. free);
      })
  join_place g items views seat v other u w x at was v_free u_free w_free x_free (inr o) =
      let Alone : ℕ → SeatView → Type 0 = λ j y. y.holds ≡ true → j ≡ o.holder in
      let not_seat : o.holder ≢ seat = λ e. not_both o.holds.is (ap (λ (y : SeatView). y.holds) (same_view views o.holder seat o.holds.of v e o.holds.at at) ∙ v_free) in
      let not_other : o.holder ≢ other = λ e. not_both o.holds.is (ap (λ (y : SeatView). y.holds) (same_view views o.holder other o.holds.of u e o.holds.at was) ∙ u_free) in
      inr (record {
        empty = o.empty;
        holder = o.holder;
        holds = record {
          of = o.holds.of;
          at = set_else (set views seat w) other o.holder x not_other ∙ (set_else views seat o.holder w not_seat ∙ o.holds.at);
          is = o.holds.is;
          seen = o.holds.seen;
          alone = each_set Alone Alone (set views seat w) other x
              (each_set Alone Alone views seat w o.holds.alone (λ holds. absurd (not_both holds w_free)) (λ j y _ alone. alone))
              (λ holds. absurd (not_both holds x_free)) (λ j y _ alone. alone);
        };
      })

  or_true : (a b : Bool) → b ≡ true → (a || b) ≡ true
  or_true true b e = refl
  or_true false b e = e

  or_false : (a b : Bool) → b ≡ false → (a || b) ≡ a
  or_false true b e = refl
  or_false false b e = e

  joined_is : (v u : SeatView) (g : Option Stand) (a b : Bool) → Precedes v.seen g → Precedes u.seen g → (a ≡ true → v.seen ≡ g) → (b ≡ true → u.seen ≡ g)
      → (a ≡ true → b ≡ true → ⊥)
      → Precedes (cond a u.seen (cond b v.seen (shorter v.seen u.seen))) (cond a (cond b None v.seen) (cond b u.seen (longer v.seen u.seen)))
      × Precedes (cond a (cond b None v.seen) (cond b u.seen (longer v.seen u.seen))) g
  joined_is v u g true true h k v_all u_all apart = absurd (apart refl refl)
  joined_is v u g true false h k v_all u_all apart = (subst (λ (y : Option Stand). Precedes u.seen y) (sym (v_all refl)) k, h)
  joined_is v u g false true h k v_all u_all apart = (subst (λ (y : Option Stand). Precedes v.seen y) (sym (u_all refl)) h, k)
  joined_is v u g false false h k v_all u_all apart = longer_is v.seen u.seen g h k

  joined_all : (v u : SeatView) (g : Option Stand) (a b : Bool) → (a ≡ true → v.seen ≡ g) → (b ≡ true → u.seen ≡ g) → (a ≡ true → b ≡ true → ⊥)
      → (a || b) ≡ true → cond a (cond b None v.seen) (cond b u.seen (longer v.seen u.seen)) ≡ g
  joined_all v u g true true v_all u_all apart e = absurd (apart refl refl)
  joined_all v u g true false v_all u_all apart e = v_all refl
  joined_all v u g false true v_all u_all apart e = u_all refl
  joined_all v u g false false v_all u_all apart e = absurd (true≢false (sym e))

  joins_by : (seat : ℕ) (v : SeatView) (other : ℕ) (u : SeatView) → v.holds ≡ false → u.holds ≡ false → (items : List S) (views : List SeatView) (h : LockRule stands items views)
      → get_elem? views seat ≡ some v → other ≢ seat → get_elem? views other ≡ some u → (b : Bool) → u.writer ≡ b
      → LockRule stands items (set (set views seat (joined v u)) other spent)
  joins_by seat v other u v_free u_free items views h at ne was true writes =
      let both : SeatView = joined v u in
      let is_other : other ≡ h.writer = (h.fits other u was).writes writes in
      let v_all = writer_seen items views h seat v at in
      let u_all = writer_seen items views h other u was in
      let apart : v.writer ≡ true → u.writer ≡ true → ⊥ =
      λ one two. ne ((h.fits other u was).writes two ∙ sym ((h.fits seat v at).writes one)) in
      let seen = joined_is v u h.g v.writer u.writer (h.fits seat v at).seen (h.fits other u was).seen v_all u_all apart in
      let Now : ℕ → SeatView → Type 0 = λ j y. j ≢ other → Fits h.g seat j y in
      record {
        g = h.g;
        writer = seat;
        writes = record {
          of = both;
          at = set_else (set views seat both) other seat spent (λ e. ne (sym e)) ∙ set_there views seat v both at;
          is = or_true v.writer u.writer writes;
          seen = joined_all v u h.g v.writer u.writer v_all u_all apart (or_true v.writer u.writer writes);
        };
        fits = each_set Now (Fits h.g seat) (set views seat both) other spent
            (each_set (Fits h.g h.writer) Now views seat both h.fits (λ _. record { seen = seen.1; lesser = seen.0; writes = λ _. refl })
            (λ j y _ old apart. record { seen = old.seen; lesser = old.lesser; writes = λ w. absurd (apart (old.writes w ∙ sym is_other)) }))
            (record { seen = tt; lesser = tt; writes = λ e. absurd (true≢false (sym e)) }) (λ j y apart now. now apart);
        place = join_place h.g items views seat v other u both spent at was v_free u_free refl refl h.place;
      }
  joins_by seat v other u v_free u_free items views h at ne was false reads =
      let both : SeatView = joined v u in
      let v_all = writer_seen items views h seat v at in
      let u_all = writer_seen items views h other u was in
      let apart : v.writer ≡ true → u.writer ≡ true → ⊥ =
      λ one two. ne ((h.fits other u was).writes two ∙ sym ((h.fits seat v at).writes one)) in
      let seen = joined_is v u h.g v.writer u.writer (h.fits seat v at).seen (h.fits other u was).seen v_all u_all apart in
      let same_writer : (v.writer || u.writer) ≡ v.writer = or_false v.writer u.writer reads in
      let not_other : h.writer ≢ other = λ e. not_both h.writes.is (ap (λ (y : SeatView). y.writer) (same_view views h.writer other h.writes.of u e h.writes.at was) ∙ reads) in
      let w1 = writes_set h.g h.g views seat h.writer v both at h.writes same_writer
      (λ e. joined_all v u h.g v.writer u.writer v_all u_all apart
      (same_writer ∙ (ap (λ (y : SeatView). y.writer) (same_view views seat h.writer v h.writes.of (sym e) at h.writes.at) ∙ h.writes.is)))
      (λ _. refl) (ℕ_discrete h.writer seat) in
      record {
        g = h.g;
        writer = h.writer;
        writes = record { of = w1.of; at = set_else (set views seat both) other h.writer spent not_other ∙ w1.at; is = w1.is; seen = w1.seen };
        fits = each_set (Fits h.g h.writer) (Fits h.g h.writer) (set views seat both) other spent
            (each_set (Fits h.g h.writer) (Fits h.g h.writer) views seat both h.fits
            (record { seen = seen.1; lesser = seen.0; writes = λ w. (h.fits seat v at).writes (sym same_writer ∙ w) }) (λ j y _ old. old))
            (record { seen = tt; lesser = tt; writes = λ e. absurd (true≢false (sym e)) }) (λ j y _ old. old);
        place = join_place h.g items views seat v other u both spent at was v_free u_free refl refl h.place;
      }

  pub joins : (seat : ℕ) (v : SeatView) (other : ℕ) (u : SeatView) → v.holds ≡ false → u.holds ≡ false → Merges (LockRule stands) seat v other u (joined v u) spent
  joins seat v other u v_free u_free items views h at ne at' =
      let was : get_elem? views other ≡ some u = ⊎_elim (λ x. absurd (ne x.0)) (λ x. x.1) (at_set views seat other (joined v u) u at') in
      joins_by seat v other u v_free u_free items views h at ne was u.writer refl

  -- the lesser list is a prefix of what was seen
  pub compares : (seat : ℕ) (v : SeatView) → Learns (LockRule stands) seat v (λ items. Precedes v.lesser v.seen)
  compares seat v items views h at = (h.fits seat v at).lesser

  -- two writers are one seat
  pub one_writer : (items : List S) (views : List SeatView) → LockRule stands items views → AnyTwo views (λ seat v other u. v.writer ≡ true → u.writer ≡ true → seat ≡ other)
  one_writer items views h seat v other u at was one two = (h.fits seat v at).writes one ∙ sym ((h.fits other u was).writes two)

  -- what any seat has seen begins what the writer has seen
  pub writer_has_all : (items : List S) (views : List SeatView) → LockRule stands items views → AnyTwo views (λ seat v other u. v.writer ≡ true → Precedes u.seen v.seen)
  writer_has_all items views h seat v other u at was writes =
      subst (λ (k : Option Stand). Precedes u.seen k) (sym (writer_seen items views h seat v at writes)) (h.fits other u was).seen

  -- of any two seats, what one has seen begins what the other has seen
  pub one_line : (items : List S) (views : List SeatView) → LockRule stands items views → AnyTwo views (λ seat v other u. Precedes v.seen u.seen ⊎ Precedes u.seen v.seen)
  one_line items views h seat v other u at was = either_begins v.seen u.seen h.g (h.fits seat v at).seen (h.fits other u was).seen
