use Rattle.std.proofs.Common.{◌≡◌, ℕ, None, length, drop, sym, ◌∙◌, subst, arith, vec_len}
use Rattle.std.proofs.lemmas.Grind.{common_steps}
use Rattle.idx_pieces.specs.Ranks.{rank_count}
use Rattle.idx_ranks.specs.Queues.{AreQueuesOf}
use Rattle.idx_ranks.proofs.FaultLemmas.{asks, each_once, full_none, full_told, idle, none_failed, none_fell, number_made, queues_are, quiet, refused, same_contents}
use Rattle.idx_ranks.proofs.LoadLemmas.{loads_are, loads_hold}
use Rattle.idx_ranks.proofs.phase.read_loads.Goals as goal

pub returns-in-Err-clause-refused : goal.returns-in-Err-clause-refused
returns-in-Err-clause-refused g c =
    refused g.V.Source.contents g.V.Source.faults g.V.Source.asked c.args.header.now c.args.pieces.items c.args.raws.now.items c.read_all.new.raws.items c.in-Ok.reads.items
    c.in-Ok.ensures.reads
    c.in-Err.fault c.in-Err.ensures.why

pub returns-in-Err-clause-count : goal.returns-in-Err-clause-count
returns-in-Err-clause-count g c =
    none_fell g.V.Source.contents g.V.Source.faults g.V.Source.asked c.args.header.now c.args.pieces.items c.args.raws.now.items c.read_all.new.raws.items c.in-Ok.reads.items
    c.in-Ok.ensures.reads

pub returns-in-Err-clause-once : goal.returns-in-Err-clause-once
returns-in-Err-clause-once g c =
    each_once g.V.Source.contents g.V.Source.faults g.V.Source.asked c.args.header.now c.args.pieces.items c.args.raws.now.items c.read_all.new.raws.items c.in-Ok.reads.items
    c.in-Ok.ensures.reads

pub returns-in-Err-clause-same : goal.returns-in-Err-clause-same
returns-in-Err-clause-same g c =
    same_contents g.V.Source.contents g.V.Source.faults g.V.Source.asked c.args.header.now c.args.pieces.items c.args.raws.now.items c.read_all.new.raws.items c.in-Ok.reads.items
    c.in-Ok.ensures.reads

pub returns-in-Err-clause-asked : goal.returns-in-Err-clause-asked
returns-in-Err-clause-asked g c =
    asks g.V.Source.contents g.V.Source.faults g.V.Source.asked c.args.header.now c.args.pieces.items c.args.raws.now.items c.read_all.new.raws.items c.in-Ok.reads.items
    c.in-Ok.ensures.reads

pub returns-in-Err-clause-idle : goal.returns-in-Err-clause-idle
returns-in-Err-clause-idle g c =
    let count : length c.args.raws.now.items ≡ vec_len c.args.raws.now = grind (arith, common_steps) in
    subst (λ (n : ℕ). drop (rank_count c.args.header.now.box n) c.read_all.new.raws.items ≡ drop (rank_count c.args.header.now.box n) c.args.raws.now.items) count
    (idle g.V.Source.contents g.V.Source.faults g.V.Source.asked c.args.header.now c.args.pieces.items c.args.raws.now.items c.read_all.new.raws.items c.in-Ok.reads.items
    c.in-Ok.ensures.reads)

pub sorted-requires-clause-queues : goal.sorted-requires-clause-queues
sorted-requires-clause-queues g c =
    let made = number_made g.V.Source.contents g.V.Source.faults g.V.Source.asked c.args.header.now c.args.pieces.items c.args.raws.now.items c.read_all.new.raws.items c.in-Ok.reads.items
    c.in-Ok.ensures.reads
    c.in-Ok-settled.queues.items c.in-Ok-settled.ensures.all in
    let count : length c.args.raws.now.items ≡ vec_len c.in-Ok-settled.queues = sym made ∙ grind (arith, common_steps) in
    subst (λ (n : ℕ). AreQueuesOf c.args.header.now.box n c.args.pieces.items c.in-Ok-settled.queues.items) count
    (queues_are g.V.Source.contents g.V.Source.faults g.V.Source.asked c.args.header.now c.args.pieces.items c.args.raws.now.items c.read_all.new.raws.items c.in-Ok.reads.items
    c.in-Ok.ensures.reads
    c.in-Ok-settled.queues.items c.in-Ok-settled.ensures.all)

pub returns-in-Ok-sorted-clause-loads : goal.returns-in-Ok-sorted-clause-loads
returns-in-Ok-sorted-clause-loads g c =
    loads_are c.args.header.now c.args.pieces.items c.in-Ok-sorted.loads.items c.in-Ok-sorted.ensures.pieces c.requires.pieces c.in-Ok-sorted.ensures.legal
    (c.in-Ok-sorted.ensures.full None
    (full_none g.V.Source.contents g.V.Source.faults g.V.Source.asked c.args.header.now c.args.pieces.items c.args.raws.now.items c.read_all.new.raws.items c.in-Ok.reads.items
    c.in-Ok.ensures.reads
    c.in-Ok-settled.queues.items c.in-Ok-settled.ensures.all))

pub returns-in-Ok-sorted-clause-samples : goal.returns-in-Ok-sorted-clause-samples
returns-in-Ok-sorted-clause-samples g c = λ bytes told.
    loads_hold c.args.header.now bytes c.in-Ok-sorted.loads.items
    (c.in-Ok-sorted.ensures.full _
    (full_told g.V.Source.contents g.V.Source.faults g.V.Source.asked c.args.header.now c.args.pieces.items c.args.raws.now.items c.read_all.new.raws.items c.in-Ok.reads.items
    c.in-Ok.ensures.reads
    c.in-Ok-settled.queues.items c.in-Ok-settled.ensures.all bytes told))

pub returns-in-Ok-sorted-clause-quiet : goal.returns-in-Ok-sorted-clause-quiet
returns-in-Ok-sorted-clause-quiet g c =
    quiet g.V.Source.contents g.V.Source.faults g.V.Source.asked c.args.header.now c.args.pieces.items c.args.raws.now.items c.read_all.new.raws.items c.in-Ok.reads.items
    c.in-Ok.ensures.reads
    (none_failed g.V.Source.contents g.V.Source.faults g.V.Source.asked c.args.header.now c.args.pieces.items c.args.raws.now.items c.read_all.new.raws.items c.in-Ok.reads.items
    c.in-Ok.ensures.reads
    c.in-Ok-settled.queues.items c.in-Ok-settled.ensures.all)

pub returns-in-Ok-sorted-clause-count : goal.returns-in-Ok-sorted-clause-count
returns-in-Ok-sorted-clause-count g c =
    none_fell g.V.Source.contents g.V.Source.faults g.V.Source.asked c.args.header.now c.args.pieces.items c.args.raws.now.items c.read_all.new.raws.items c.in-Ok.reads.items
    c.in-Ok.ensures.reads

pub returns-in-Ok-sorted-clause-once : goal.returns-in-Ok-sorted-clause-once
returns-in-Ok-sorted-clause-once g c =
    each_once g.V.Source.contents g.V.Source.faults g.V.Source.asked c.args.header.now c.args.pieces.items c.args.raws.now.items c.read_all.new.raws.items c.in-Ok.reads.items
    c.in-Ok.ensures.reads

pub returns-in-Ok-sorted-clause-same : goal.returns-in-Ok-sorted-clause-same
returns-in-Ok-sorted-clause-same g c =
    same_contents g.V.Source.contents g.V.Source.faults g.V.Source.asked c.args.header.now c.args.pieces.items c.args.raws.now.items c.read_all.new.raws.items c.in-Ok.reads.items
    c.in-Ok.ensures.reads

pub returns-in-Ok-sorted-clause-asked : goal.returns-in-Ok-sorted-clause-asked
returns-in-Ok-sorted-clause-asked g c =
    asks g.V.Source.contents g.V.Source.faults g.V.Source.asked c.args.header.now c.args.pieces.items c.args.raws.now.items c.read_all.new.raws.items c.in-Ok.reads.items
    c.in-Ok.ensures.reads

pub returns-in-Ok-sorted-clause-idle : goal.returns-in-Ok-sorted-clause-idle
returns-in-Ok-sorted-clause-idle g c =
    let count : length c.args.raws.now.items ≡ vec_len c.args.raws.now = grind (arith, common_steps) in
    subst (λ (n : ℕ). drop (rank_count c.args.header.now.box n) c.read_all.new.raws.items ≡ drop (rank_count c.args.header.now.box n) c.args.raws.now.items) count
    (idle g.V.Source.contents g.V.Source.faults g.V.Source.asked c.args.header.now c.args.pieces.items c.args.raws.now.items c.read_all.new.raws.items c.in-Ok.reads.items
    c.in-Ok.ensures.reads)

pub returns-in-Err-sorted-clause-refused : goal.returns-in-Err-sorted-clause-refused
returns-in-Err-sorted-clause-refused g c =
    quiet g.V.Source.contents g.V.Source.faults g.V.Source.asked c.args.header.now c.args.pieces.items c.args.raws.now.items c.read_all.new.raws.items c.in-Ok.reads.items
    c.in-Ok.ensures.reads
    (none_failed g.V.Source.contents g.V.Source.faults g.V.Source.asked c.args.header.now c.args.pieces.items c.args.raws.now.items c.read_all.new.raws.items c.in-Ok.reads.items
    c.in-Ok.ensures.reads
    c.in-Ok-settled.queues.items c.in-Ok-settled.ensures.all)

pub returns-in-Err-sorted-clause-count : goal.returns-in-Err-sorted-clause-count
returns-in-Err-sorted-clause-count g c =
    none_fell g.V.Source.contents g.V.Source.faults g.V.Source.asked c.args.header.now c.args.pieces.items c.args.raws.now.items c.read_all.new.raws.items c.in-Ok.reads.items
    c.in-Ok.ensures.reads

pub returns-in-Err-sorted-clause-once : goal.returns-in-Err-sorted-clause-once
returns-in-Err-sorted-clause-once g c =
    each_once g.V.Source.contents g.V.Source.faults g.V.Source.asked c.args.header.now c.args.pieces.items c.args.raws.now.items c.read_all.new.raws.items c.in-Ok.reads.items
    c.in-Ok.ensures.reads

pub returns-in-Err-sorted-clause-same : goal.returns-in-Err-sorted-clause-same
returns-in-Err-sorted-clause-same g c =
    same_contents g.V.Source.contents g.V.Source.faults g.V.Source.asked c.args.header.now c.args.pieces.items c.args.raws.now.items c.read_all.new.raws.items c.in-Ok.reads.items
    c.in-Ok.ensures.reads

pub returns-in-Err-sorted-clause-asked : goal.returns-in-Err-sorted-clause-asked
returns-in-Err-sorted-clause-asked g c =
    asks g.V.Source.contents g.V.Source.faults g.V.Source.asked c.args.header.now c.args.pieces.items c.args.raws.now.items c.read_all.new.raws.items c.in-Ok.reads.items
    c.in-Ok.ensures.reads

pub returns-in-Err-sorted-clause-idle : goal.returns-in-Err-sorted-clause-idle
returns-in-Err-sorted-clause-idle g c =
    let count : length c.args.raws.now.items ≡ vec_len c.args.raws.now = grind (arith, common_steps) in
    subst (λ (n : ℕ). drop (rank_count c.args.header.now.box n) c.read_all.new.raws.items ≡ drop (rank_count c.args.header.now.box n) c.args.raws.now.items) count
    (idle g.V.Source.contents g.V.Source.faults g.V.Source.asked c.args.header.now c.args.pieces.items c.args.raws.now.items c.read_all.new.raws.items c.in-Ok.reads.items
    c.in-Ok.ensures.reads)
