use Rattle.std.proofs.Common.{◌≡◌, ℕ, ◌<◌, ◌≤◌, [], Some, length, refl, sym, ap, ◌∙◌, arith}
use Rattle.idx_query.proofs.CopyLemmas.{copied-all, copied-first, copied-more, key-stands, key_at, none-copied}
use Rattle.idx_core_model.specs.Layers.{held_block}
use Rattle.idx_core_asks.proofs.asked.copy_all.Goals as goal

pub loop-i-init : goal.loop-i-init
loop-i-init c = record { room = c.requires.room; copied = copied-first (Some (λ (f : ℕ). held_block c.args.held.now)) c.args.plan.now 0 c.args.out.now }

pub loop-i-preserved : goal.loop-i-preserved
loop-i-preserved c =
    let within : c.loop-i.i < length c.args.plan.now.keys = omega (arith, c.loop-i-test.true, ap length c.keys-i-end.ensures, c.loop-i.auto.i-end) in
    record {
      room = c.copy_one.ensures.room;
      copied = copied-more (Some (λ (f : ℕ). held_block c.args.held.now)) c.args.plan.now 0 c.loop-i.i (held_block c.args.held.now (key_at c.args.plan.now.keys c.loop-i.i).block) c.args.out.now c.loop-i.out c.copy_one.new.out
          within (c.copy_one.ensures.copied (key_at c.args.plan.now.keys c.loop-i.i) (key-stands c.args.plan.now.keys c.loop-i.i within)) refl c.loop-i.invariant.copied;
    }

pub returns-clause-copied : goal.returns-clause-copied
returns-clause-copied c = λ field.
    copied-all (Some (λ (f : ℕ). held_block c.args.held.now)) c.args.plan.now 0 c.loop-i.i c.args.out.now c.loop-i.out (omega (arith, c.loop-i-test.false, ap length c.keys-i-end.ensures)) c.loop-i.invariant.copied
    [] (none-copied c.args.plan.now (held_block c.args.held.now) c.args.out.now)
