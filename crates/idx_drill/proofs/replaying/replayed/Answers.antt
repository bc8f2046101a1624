use Rattle.std.proofs.Common.{ap, ◌∙◌, subst}
use Rattle.std.specs.Prelude.{Err}
use Rattle.idx_core_layers.specs.Division.{layers_of}
use Rattle.idx_core.specs.NewWorld.{IsNewWorld}
use Rattle.idx_core.specs.World.{IsReplay}
use Rattle.idx_drill.proofs.WorldLemmas.{done_right, never_refused, no_wrong_ask, no_wrong_volume, same_start, volumes_are, world_is}
use Rattle.idx_drill.proofs.replaying.replayed.Goals as goal

pub unreachable-requires : goal.unreachable-requires
unreachable-requires c =
    let pushed = volumes_are c.args.number c.new-volumes.result.items c.push.new.self.items c.args.volume c.new-volumes.ensures.items c.in_ok-push.ensures.items c.requires.volume in
    no_wrong_volume c.args.number c.in-Err-WrongVolume.field-0-0 c.args.header.now c.push.new.self.items c.requires.few c.requires.header pushed
    (subst (λ r. IsNewWorld c.args.header.now 4 c.push.new.self.items c.args.asks.now.items 64 (Err r)) c.in-Err-WrongVolume.field-0-is c.in-Err-WrongVolume.ensures)

pub unreachable-requires-in-Err-WrongAsk : goal.unreachable-requires-in-Err-WrongAsk
unreachable-requires-in-Err-WrongAsk c =
    no_wrong_ask c.args.number c.in-Err-WrongAsk.field-0-0 c.args.header.now c.args.asks.now.items c.requires.few c.requires.header c.requires.asks
    (subst (λ r. IsNewWorld c.args.header.now 4 c.push.new.self.items c.args.asks.now.items 64 (Err r)) c.in-Err-WrongAsk.field-0-is c.in-Err-WrongAsk.ensures).1

pub returns-in-Ok-replay-clause-world : goal.returns-in-Ok-replay-clause-world
returns-in-Ok-replay-clause-world c =
    let pushed = volumes_are c.args.number c.new-volumes.result.items c.push.new.self.items c.args.volume c.new-volumes.ensures.items c.in_ok-push.ensures.items c.requires.volume in
    let start = same_start c.args.number c.args.header.now c.push.new.self.items c.args.asks.now.items c.in-Ok.world c.requires.header pushed c.requires.asks c.in-Ok.ensures in
    world_is c.args.number c.in-Ok.world c.in-Ok-replay.world c.deref.result.now start.0 start.1 (c.deref.ensures.value ∙ c.requires.events)
    c.in-Ok-replay.ensures.layers c.in-Ok-replay.ensures.replay

pub returns-in-Ok-replay-clause-answers : goal.returns-in-Ok-replay-clause-answers
returns-in-Ok-replay-clause-answers c =
    let pushed = volumes_are c.args.number c.new-volumes.result.items c.push.new.self.items c.args.volume c.new-volumes.ensures.items c.in_ok-push.ensures.items c.requires.volume in
    let start = same_start c.args.number c.args.header.now c.push.new.self.items c.args.asks.now.items c.in-Ok.world c.requires.header pushed c.requires.asks c.in-Ok.ensures in
    done_right c.args.number (layers_of c.in-Ok.world.layers) c.in-Ok.world.world c.in-Ok-replay.world.world c.deref.result.now c.requires.some c.requires.few
    (ap layers_of start.0) start.1 (c.deref.ensures.value ∙ c.requires.events) c.in-Ok-replay.ensures.replay

pub unreachable-requires-in-Err-default-default-NotEnabled : goal.unreachable-requires-in-Err-default-default-NotEnabled
unreachable-requires-in-Err-default-default-NotEnabled c =
    let pushed = volumes_are c.args.number c.new-volumes.result.items c.push.new.self.items c.args.volume c.new-volumes.ensures.items c.in_ok-push.ensures.items c.requires.volume in
    let start = same_start c.args.number c.args.header.now c.push.new.self.items c.args.asks.now.items c.in-Ok.world c.requires.header pushed c.requires.asks c.in-Ok.ensures in
    never_refused c.args.number c.in-Err-default-default-NotEnabled.field-0-1 (layers_of c.in-Ok.world.layers) c.in-Ok.world.world
    c.in-Err-default-default-NotEnabled.field-0-0.world c.deref.result.now c.requires.some c.requires.few
    (ap layers_of start.0) start.1 (c.deref.ensures.value ∙ c.requires.events)
    (subst (λ r. IsReplay (layers_of c.in-Ok.world.layers) c.in-Ok.world.world c.deref.result.now (Err (c.in-Err-default-default-NotEnabled.field-0-1, r)) c.in-Err-default-default-NotEnabled.field-0-0.world)
    c.in-Err-default-default-NotEnabled.field-0-2-is c.in-Err-default-default-NotEnabled.ensures.replay)
