use Rattle.std.proofs.Common.{◌∙◌, ◌||◌, refl, ap, arith}
use Rattle.std.proofs.lemmas.Grind.{common_steps}
use Rattle.idx_serve.specs.Later.{later_on, later_same}
use Rattle.idx_serve.specs.Visits.{Visit}
use Rattle.idx_serve.proofs.DoorLemmas.{at_door_none, at_door_next, visit_of}
use Rattle.idx_serve.proofs.door.serve_door.Goals as goal

pub loop-links-init : goal.loop-links-init
loop-links-init g c = record {
  served = at_door_none _ _ _ _ _;
  later = later_same _ _ _;
  given = c.requires.given;
  quiet = refl;
}

pub loop-links-preserved : goal.loop-links-preserved
loop-links-preserved g c =
    let l = c.loop-links in
    let accepts = rw c.in-Ok-Some.field-0-is at c.in-Ok-Some.ensures.next in
    let v : Visit _ = record { link = c.in-Ok-Some.link; back = c.serve_link-end.new.link; served = c.serve_link-end.new.served.items; end = c.serve_link-end.result } in
    record {
      served = at_door_next l.invariant.served (g.D.Door.told c.accept.new.self) v accepts
          (visit_of v c.no_entries-served.result.items c.no_entries-served.ensures c.serve_link-end.ensures.session c.serve_link-end.ensures.count c.serve_link-end.ensures.once c.serve_link-end.ensures.counts)
          c.finish.ensures.told c.saturating_add-replies.result _ (grind (arith, common_steps)) (ap (λ b. l.starved || b) c.is_starving-starved.ensures);
      later = later_on l.invariant.later c.serve_link-end.ensures.later;
      given = c.serve_link-end.ensures.given;
      quiet = c.finish.ensures.count ∙ c.in-Ok-Some.ensures.quiet ∙ l.invariant.quiet;
    }
