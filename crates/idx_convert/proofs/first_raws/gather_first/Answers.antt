use Rattle.std.proofs.Common.{◌<◌, arith, length, min, subst, vec_len}
use Rattle.std.specs.Prelude.{IfErr, OnOk}
use Rattle.std.proofs.lemmas.Grind.{common_steps}
use Rattle.std.proofs.lemmas.Result.{on_ok_weaker}
use Rattle.idx_gather.specs.Gather.{LeavesAs, SomeStepAddedAs}
use Rattle.idx_convert.proofs.FirstLemmas.{Parted, as_many, caused_all, contents_first, each_met_all, first_alike, idle_all, none_falls_all, same_all}
use Rattle.idx_convert.proofs.first_raws.gather_first.Goals as goal
use Rattle.idx_convert.proofs.first_raws.gather_first.Goals.{After-put_back}

pub gather_as-gathered-requires-clause-alike : goal.gather_as-gathered-requires-clause-alike
gather_as-gathered-requires-clause-alike g c κs within =
    let some : 0 < length c.keep_first.new.from.items = grind (arith, common_steps) in
    first_alike g.V.Source.contents c.args.raws.now.items c.keep_first.new.from.items c.keep_first.new.rest.items c.keep_first.ensures.split some c.requires.alike

pub put_back-requires : goal.put_back-requires
put_back-requires g c =
    omega (arith, as_many g.V.Source.contents c.keep_first.new.from.items c.gather_as-gathered.new.raws.items c.gather_as-gathered.ensures.same, c.keep_first.ensures.first, c.keep_first.ensures.room)

-- the raw volumes that were gathered from are the first, and the rest are behind them again
parted : (g : _) (c : After-put_back g) → Parted c.args.raws.now.items c.put_back.new.into.items c.keep_first.new.from.items c.gather_as-gathered.new.raws.items c.keep_first.new.rest.items
parted g c = record {
  was = c.keep_first.ensures.split;
  is = c.put_back.ensures;
  number = as_many g.V.Source.contents c.keep_first.new.from.items c.gather_as-gathered.new.raws.items c.gather_as-gathered.ensures.same;
  some = grind (arith, common_steps);
}

pub returns-clause-added : goal.returns-clause-added
returns-clause-added g c =
    subst (λ raw. OnOk c.gather_as-gathered.result (SomeStepAddedAs c.args.layout c.args.header.now c.args.step raw (g.B.Bay.files c.args.bay.now) (g.B.Bay.files c.gather_as-gathered.new.bay)))
    (contents_first c.args.raws.now.items c.put_back.new.into.items c.keep_first.new.from.items c.gather_as-gathered.new.raws.items c.keep_first.new.rest.items (parted g (goal.at.returns-clause-added g c).After-put_back) g.V.Source.contents)
    c.gather_as-gathered.ensures.added

pub returns-clause-cause : goal.returns-clause-cause
returns-clause-cause g c =
    caused_all c.args.raws.now.items c.put_back.new.into.items c.keep_first.new.from.items c.gather_as-gathered.new.raws.items c.keep_first.new.rest.items (parted g (goal.at.returns-clause-cause g c).After-put_back)
    g.V.Source.contents g.V.Source.faults c.args.header.now _ _ c.gather_as-gathered.result c.gather_as-gathered.ensures.cause

pub returns-clause-leaves : goal.returns-clause-leaves
returns-clause-leaves g c =
    subst (λ raw. IfErr c.gather_as-gathered.result (LeavesAs c.args.layout c.args.header.now c.args.step raw (g.B.Bay.files c.args.bay.now) (g.B.Bay.files c.gather_as-gathered.new.bay)))
    (contents_first c.args.raws.now.items c.put_back.new.into.items c.keep_first.new.from.items c.gather_as-gathered.new.raws.items c.keep_first.new.rest.items (parted g (goal.at.returns-clause-leaves g c).After-put_back) g.V.Source.contents)
    c.gather_as-gathered.ensures.leaves

pub returns-clause-raw_quiet : goal.returns-clause-raw_quiet
returns-clause-raw_quiet g c =
    on_ok_weaker c.gather_as-gathered.result
    (same_all c.args.raws.now.items c.put_back.new.into.items c.keep_first.new.from.items c.gather_as-gathered.new.raws.items c.keep_first.new.rest.items (parted g (goal.at.returns-clause-raw_quiet g c).After-put_back) g.V.Source.faults)
    c.gather_as-gathered.ensures.raw_quiet

pub returns-clause-same : goal.returns-clause-same
returns-clause-same g c =
    same_all c.args.raws.now.items c.put_back.new.into.items c.keep_first.new.from.items c.gather_as-gathered.new.raws.items c.keep_first.new.rest.items (parted g (goal.at.returns-clause-same g c).After-put_back)
    g.V.Source.contents c.gather_as-gathered.ensures.same

pub returns-clause-idle : goal.returns-clause-idle
returns-clause-idle g c =
    idle_all c.args.raws.now.items c.put_back.new.into.items c.keep_first.new.from.items c.gather_as-gathered.new.raws.items c.keep_first.new.rest.items (parted g (goal.at.returns-clause-idle g c).After-put_back)
    (min c.args.ranks (vec_len c.args.raws.now)) (omega arith)

pub returns-clause-raw_count : goal.returns-clause-raw_count
returns-clause-raw_count g c =
    none_falls_all c.args.raws.now.items c.put_back.new.into.items c.keep_first.new.from.items c.gather_as-gathered.new.raws.items c.keep_first.new.rest.items (parted g (goal.at.returns-clause-raw_count g c).After-put_back)
    g.V.Source.faults c.gather_as-gathered.ensures.raw_count

pub returns-clause-raw_once : goal.returns-clause-raw_once
returns-clause-raw_once g c =
    each_met_all c.args.raws.now.items c.put_back.new.into.items c.keep_first.new.from.items c.gather_as-gathered.new.raws.items c.keep_first.new.rest.items (parted g (goal.at.returns-clause-raw_once g c).After-put_back)
    g.V.Source.faults c.gather_as-gathered.ensures.raw_once
