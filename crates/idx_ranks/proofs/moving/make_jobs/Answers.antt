use Rattle.std.proofs.Common.{◌≡◌, ◌+◌, ◌++◌, ◌∷◌, [], ℕ, List, refl, sym, ap, ◌∙◌, arith, append_assoc}
use Rattle.std.proofs.lemmas.Grind.{common_steps}
use Rattle.std.proofs.lemmas.List.Elements.{All-cons, All-same}
use Rattle.idx_ranks.specs.Jobs.{IsBegun, ranks_of, raws_of}
use Rattle.idx_ranks.specs.declared.job.Job.{Job}
use Rattle.idx_ranks.proofs.LoadLemmas.{rank_in_front}
use Rattle.idx_ranks.proofs.moving.make_jobs.Goals as goal

pub loop-taken-preserved : goal.loop-taken-preserved
loop-taken-preserved g c =
    let made = c.last_job-job.ensures in
    let job : Job g.row.V.Denot = c.last_job-job.result in
    let before = c.loop-taken.invariant in
    let items : c.insert.new.self.items ≡ job ∷ c.loop-taken.jobs.items = grind (arith, common_steps) in
    record {
      raws =
          ap (λ jobs. c.last_job-job.new.raws.items ++ raws_of jobs) items
          ∙ sym (append_assoc c.last_job-job.new.raws.items (job.raw ∷ []) (raws_of c.loop-taken.jobs.items))
          ∙ ap (λ raws. raws ++ raws_of c.loop-taken.jobs.items) (sym made.raws)
          ∙ before.raws;
      ranks =
          ap ranks_of items
          ∙ ap (λ (rest : List ℕ). job.rank ∷ rest) before.ranks
          ∙ rank_in_front c.len-count.result c.loop-taken.taken (c.loop-taken.taken + 1) job.rank (omega arith) refl (grind (arith, common_steps));
      begun = All-same (IsBegun c.args.header.now.box c.len-count.result) _ _ items
          (All-cons (IsBegun c.args.header.now.box c.len-count.result) job c.loop-taken.jobs.items made.begun before.begun);
      left = grind (arith, common_steps);
      jobs = grind (arith, common_steps);
      room = grind (arith, common_steps);
      same_room = grind (arith, common_steps);
    }
