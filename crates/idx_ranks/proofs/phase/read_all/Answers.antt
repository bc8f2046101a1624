use Rattle.std.proofs.Common.{◌≡◌, length, vec_len, arith, ◌∙◌, subst}
use Rattle.std.proofs.lemmas.Grind.{common_steps}
use Rattle.idx_geom.specs.Region.{IsRegion}
use Rattle.idx_ranks.proofs.JobLemmas.{jobs_may, reads_of_jobs}
use Rattle.idx_ranks.proofs.phase.read_all.Goals as goal

pub run_all-requires-clause-may : goal.run_all-requires-clause-may
run_all-requires-clause-may g c κs within =
    jobs_may g.V.Source.contents c.args.header.now c.args.pieces.now.items (vec_len c.room_for_reads.new.raws) c.in_ok-jobs.jobs.items c.args.raws.now.items
    (subst IsRegion c.region-whole.ensures.value c.axes.ensures.valid) c.requires.pieces
    (c.in_ok-jobs.ensures.raws ∙ c.in_ok-reads.ensures.same) c.requires.volume c.in_ok-jobs.ensures.begun

pub returns-clause-reads : goal.returns-clause-reads
returns-clause-reads g c =
    let number : length c.run_all.new.jobs.items ≡ length c.in_ok-jobs.jobs.items = grind (arith, common_steps) in
    let count : vec_len c.room_for_reads.new.raws ≡ length c.in_ok-jobs.jobs.items = grind (arith, common_steps) in
    let made = reads_of_jobs g.V.Source.contents g.V.Source.faults g.V.Source.asked c.args.header.now c.args.pieces.now.items (vec_len c.room_for_reads.new.raws)
    c.in_ok-jobs.jobs.items c.run_all.new.jobs.items count number c.in_ok-jobs.ensures.ranks c.in_ok-jobs.ensures.begun
    (λ i d within. c.run_all.ensures.each i d (grind (arith, common_steps))) in
    rw (c.give_back.ensures.raws, c.give_back.ensures.reads, ← c.in_ok-reads.ensures.same, ← c.in_ok-jobs.ensures.raws) made
