-- One more link of a door.
use Rattle.std.proofs.Common.{◌≡◌, ℕ, ◌+◌, ◌-◌, ◌^◌, Bool, true, false, ◌||◌, List, [], ◌∷◌, ◌++◌, Option, Some, None, inl, inr, length, map, refl, sym, ap, subst, ◌∙◌, arith, append_assoc, append-nil, length-append}
use Rattle.std.specs.Prelude.{if◌then◌else◌}
use Rattle.std.specs.List.{list_any}
use Rattle.std.specs.Option.{ForSome}
use Rattle.std.proofs.lemmas.List.{map-append}
use Rattle.std.proofs.lemmas.List.Sums.{sum_by-append}
use Rattle.idx_outside.specs.Cause.{MeetsOnce, NeverFalls, Rose}
use Rattle.idx_outside.specs.Doors.{Accepts, DoorTold, door_told, finishing}
use Rattle.idx_outside.specs.declared.served.Served.{Served}
use Rattle.idx_session.specs.Entry.{State}
use Rattle.idx_session.specs.Session.{EndCounts}
use Rattle.idx_serve.specs.Links.{IsServed}
use Rattle.idx_serve.specs.Visits.{AreVisits, AtDoor, CameBack, IsEnd, IsVisit, LinkTells, Visit, capped, finished, heads_of, is_starved}
use Rattle.idx_serve.specs.declared.door.ServeEnd.TheVariants as S
use Rattle.idx_serve.specs.declared.site.Site.{Site}

or-false : (b : Bool) → (b || false) ≡ b
or-false true = refl
or-false false = refl

module _ {L : Type 0} where
  visits_push : (tell : LinkTells L) (tells : Bool) (site : Site) (before mid after : State) (visits : List (Visit L)) (v : Visit L) → AreVisits tell tells site before visits mid
      → IsVisit tell tells site mid after v → AreVisits tell tells site before (visits ++ v ∷ []) after
  visits_push tell tells site before mid after [] v served visit = (after, subst (λ s. IsVisit tell tells site s after v) served visit, refl)
  visits_push tell tells site before mid after (w ∷ visits) v (next, first, served) visit = (next, first, visits_push tell tells site next mid after visits v served visit)

  came_none : (told : Option (DoorTold L)) → CameBack [] told told
  came_none None = refl
  came_none (Some t) = (t.coming, refl, ap Some (λ i. door_told t.coming (sym (append-nil t.handed) i) (sym (append-nil t.finished) i)))

  came_more : (visits : List (Visit L)) (v : Visit L) (old : DoorTold L) (mid mid2 new : Option (DoorTold L)) → CameBack visits (Some old) mid → Accepts mid (Some v.link) mid2
      → new ≡ finishing v.back v.served mid2 → CameBack (visits ++ v ∷ []) (Some old) new
  came_more visits v old None mid2 new (rest, coming, is) accepts finish = absurd (cc)
  came_more visits v old (Some t) mid2 new (rest, coming, is) (left, next, accepted) finish =
      let same : t ≡ door_told rest (old.handed ++ map (λ w. w.link) visits) (old.finished ++ map finished visits) = cc in (
        left,
        coming ∙ ap (λ xs. map (λ w. w.link) visits ++ xs) (sym (ap (λ (d : DoorTold L). d.coming) same) ∙ next) ∙ sym (append_assoc (map (λ w. w.link) visits) (v.link ∷ []) left)
            ∙ ap (λ xs. xs ++ left) (sym (map-append (λ w. w.link) visits (v ∷ []))),
        finish ∙ ap (finishing v.back v.served) accepted
            ∙ ap Some (λ i. door_told left (handed same i) (done same i)),
      )
    where
      handed : t ≡ door_told rest (old.handed ++ map (λ w. w.link) visits) (old.finished ++ map finished visits) → t.handed ++ v.link ∷ [] ≡ old.handed ++ map (λ w. w.link) (visits ++ v ∷ [])
      handed same =
          ap (λ (d : DoorTold L). d.handed ++ v.link ∷ []) same ∙ append_assoc old.handed (map (λ w. w.link) visits) (v.link ∷ [])
          ∙ ap (λ xs. old.handed ++ xs) (sym (map-append (λ (w : Visit L). w.link) visits (v ∷ [])))

      done : t ≡ door_told rest (old.handed ++ map (λ w. w.link) visits) (old.finished ++ map finished visits) → t.finished ++ (v.back, v.served) ∷ [] ≡ old.finished ++ map finished (visits ++ v ∷ [])
      done same =
          ap (λ (d : DoorTold L). d.finished ++ (v.back, v.served) ∷ []) same ∙ append_assoc old.finished (map finished visits) ((v.back, v.served) ∷ [])
          ∙ ap (λ xs. old.finished ++ xs) (sym (map-append finished visits (v ∷ [])))

  came_untold : (visits : List (Visit L)) (v : Visit L) (mid mid2 new : Option (DoorTold L)) → mid ≡ None → Accepts mid (Some v.link) mid2 → new ≡ finishing v.back v.served mid2 → new ≡ None
  came_untold visits v None mid2 new none accepts finish = finish ∙ ap (finishing v.back v.served) accepts
  came_untold visits v (Some t) mid2 new none accepts finish = absurd (cc)

  came_push : (visits : List (Visit L)) (v : Visit L) (old mid mid2 new : Option (DoorTold L)) → CameBack visits old mid → Accepts mid (Some v.link) mid2 → new ≡ finishing v.back v.served mid2
      → CameBack (visits ++ v ∷ []) old new
  came_push visits v None mid mid2 new came accepts finish = came_untold visits v mid mid2 new came accepts finish
  came_push visits v (Some old) mid mid2 new came accepts finish = came_more visits v old mid mid2 new came accepts finish

  any-append : (p : Visit L → Bool) (xs ys : List (Visit L)) → list_any p (xs ++ ys) ≡ (list_any p xs || list_any p ys)
  any-append p [] ys = refl
  any-append p (x ∷ xs) ys = by (p x) (any-append p xs ys)
    where
      by : (b : Bool) → list_any p (xs ++ ys) ≡ (list_any p xs || list_any p ys) → (b || list_any p (xs ++ ys)) ≡ ((b || list_any p xs) || list_any p ys)
      by true ih = refl
      by false ih = ih

  -- a link was served, with no entry before
  pub visit_of : {tell : LinkTells L} {tells : Bool} {site : Site} {before after : State} (v : Visit L) (old : List Served) → old ≡ []
      → IsServed tells site before after (tell.incoming v.link) (tell.written v.link) (tell.written v.back) (tell.readings v.link) (tell.readings v.back) old v.served v.end
      → NeverFalls (tell.faults v.link) (tell.faults v.back) → MeetsOnce (tell.faults v.link) (tell.faults v.back) → EndCounts (tell.faults v.link) (tell.faults v.back) v.end → IsVisit tell tells site before after v
  visit_of {tell} {tells} {site} {before} {after} v old none served count once counts = record {
    served = subst (λ l. IsServed tells site before after (tell.incoming v.link) (tell.written v.link) (tell.written v.back) (tell.readings v.link) (tell.readings v.back) l v.served v.end) none served;
    count = count;
    once = once;
    counts = counts;
  }

  -- no link yet
  pub at_door_none : (tell : LinkTells L) (tells : Bool) (site : Site) (s : State) (told : Option (DoorTold L)) → AtDoor tell tells site s s told told 0 0 false
  at_door_none tell tells site s told = record {
    visits = [];
    served = refl;
    came = came_none told;
    links_are = refl;
    replies_are = refl;
    starved_is = refl;
    once = omega arith;
  }

  -- one more link
  pub at_door_next : {tell : LinkTells L} {tells : Bool} {site : Site} {before mid after : State} {old now new : Option (DoorTold L)} {links replies : ℕ} {starved : Bool}
      → AtDoor tell tells site before mid old now links replies starved → (now2 : Option (DoorTold L)) (v : Visit L) → Accepts now (Some v.link) now2 → IsVisit tell tells site mid after v
      → new ≡ finishing v.back v.served now2 → (more : ℕ) (hungry : Bool) → more ≡ capped (replies + length v.served) → hungry ≡ (starved || is_starved v)
      → AtDoor tell tells site before after old new (links + 1) more hungry
  at_door_next {tell} {tells} {site} {before} {mid} {after} {old} {now} {new} {links} {replies} {starved} h now2 v accepts visit finish more hungry counted is = record {
    visits = h.visits ++ v ∷ [];
    served = visits_push tell tells site before mid after h.visits v h.served visit;
    came = came_push h.visits v old now now2 new h.came accepts finish;
    links_are = omega (arith, h.links_are, length-append h.visits (v ∷ []));
    replies_are = omega (arith, counted, h.replies_are, sum_by-append (λ (w : Visit L). length w.served) h.visits (v ∷ []));
    starved_is = is ∙ ap (λ b. b || is_starved v) h.starved_is ∙ ap (λ b. list_any is_starved h.visits || b) (sym (or-false (is_starved v))) ∙ sym (any-append is_starved h.visits (v ∷ []));
    once = omega (arith, h.once, visit.served.once, sum_by-append heads_of h.visits (v ∷ []));
  }

  -- the door hands out no more
  pub ends_done : (told mid : Option (DoorTold L)) (before after links : ℕ) (starved : Bool) → ForSome told (λ t. t.coming ≡ []) → after ≡ before
      → IsEnd told before after links starved (if starved then S.NoMemory else S.Done)
  ends_done told mid before after links true none same = inl (refl, inl (none, same))
  ends_done told mid before after links false none same = (none, same, refl)

  -- the door failed
  pub ends_fault : (told : Option (DoorTold L)) (before after faults links : ℕ) (starved : Bool) → Rose before after → faults ≡ after
      → IsEnd told before after links starved (if starved then S.NoMemory else S.DoorFault faults)
  ends_fault told before after faults links true rose same = inl (refl, inr rose)
  ends_fault told before after faults links false rose same = (rose, same, refl)

  -- there were as many links as can be counted
  pub ends_counted : (told : Option (DoorTold L)) (before after links : ℕ) (starved : Bool) → links ≡ 2 ^ 64 - 1 → after ≡ before
      → IsEnd told before after links starved (if starved then S.NoMemory else S.NoMemory)
  ends_counted told before after links true many same = inr (many, same)
  ends_counted told before after links false many same = inr (many, same)
