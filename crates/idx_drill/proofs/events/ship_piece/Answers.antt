use Rattle.std.proofs.Common.{◌≡◌, ℕ, ◌<◌, true, false, ap, sym, ◌∙◌, ◌++◌, ◌∷◌, filter, map, arith, Bool}
use Rattle.std.proofs.lemmas.List.Elements.{All-head, All-same, All-tail}
use Rattle.idx_header.specs.Header.{block_count}
use Rattle.idx_layout.specs.OfHeader.{placing_of}
use Rattle.idx_layout.specs.Placing.{file_numbers}
use Rattle.idx_dock.specs.Dock.{reaches}
use Rattle.idx_dock.proofs.DockLemmas.{file_end}
use Rattle.idx_events.specs.declared.event.Event.{Event}
use Rattle.idx_events.specs.declared.event.Event.TheVariants.{Ship}
use Rattle.idx_drill.proofs.EventLemmas.{files-exist, made-kept, made-passed}
use Rattle.idx_drill.proofs.events.ship_piece.Goals as goal

pub loop-file-init : goal.loop-file-init
loop-file-init c =
    let h = c.args.header.now in
    let all : c.into_iter-file-iterator.result ≡ file_numbers (placing_of h) = c.into_iter-file-iterator.ensures.into_iter_gives ∙ c.files-file-items.ensures.value in
    record {
      exist = All-same (λ file. file < block_count h) c.into_iter-file-iterator.result (file_numbers (placing_of h)) all (files-exist h);
      events = ap (λ files. c.args.events.now.items ++ map (λ file. Ship 0 0 c.args.piece.now.id file) (filter (reaches h c.args.piece.now.region) files)) all;
    }

pub overflow_add-file : goal.overflow_add-file
overflow_add-file c =
    let h = c.args.header.now in
    let first : c.loop-file.file-iterator ≡ c.in-Some.file ∷ c.next.new.self = c.in-Some.ensures.steps in
    let exists : c.in-Some.file < block_count h =
    All-head (λ file. file < block_count h) c.in-Some.file c.next.new.self
    (All-same (λ file. file < block_count h) (c.in-Some.file ∷ c.next.new.self) c.loop-file.file-iterator (sym first) c.loop-file.invariant.exist) in
    omega (arith, c.blocks_per_file.ensures.value, file_end h c.in-Some.file c.blocks_per_file.ensures.valid exists)

pub loop-file-preserved-in-Continue-1 : goal.loop-file-preserved-in-Continue-1
loop-file-preserved-in-Continue-1 c =
    let h = c.args.header.now in
    let f : ℕ → Event = λ file. Ship 0 0 c.args.piece.now.id file in
    let test : ℕ → Bool = reaches h c.args.piece.now.region in
    let first : c.loop-file.file-iterator ≡ c.in-Some.file ∷ c.next.new.self = c.in-Some.ensures.steps in
    let pass : test c.in-Some.file ≡ true = sym c.reaches.ensures ∙ c.if-reaches.true in
    record {
      exist = All-tail (λ file. file < block_count h) c.in-Some.file c.next.new.self
          (All-same (λ file. file < block_count h) (c.in-Some.file ∷ c.next.new.self) c.loop-file.file-iterator (sym first) c.loop-file.invariant.exist);
      events = ap (λ done. done ++ map f (filter test c.next.new.self)) c.in_ok-push.ensures.items
          ∙ made-kept f test c.loop-file.events.items c.in-Some.file c.next.new.self pass
          ∙ ap (λ left. c.loop-file.events.items ++ map f (filter test left)) (sym first) ∙ c.loop-file.invariant.events;
    }

pub loop-file-preserved : goal.loop-file-preserved
loop-file-preserved c =
    let h = c.args.header.now in
    let f : ℕ → Event = λ file. Ship 0 0 c.args.piece.now.id file in
    let test : ℕ → Bool = reaches h c.args.piece.now.region in
    let first : c.loop-file.file-iterator ≡ c.in-Some.file ∷ c.next.new.self = c.in-Some.ensures.steps in
    let pass : test c.in-Some.file ≡ false = sym c.reaches.ensures ∙ c.if-reaches.false in
    record {
      exist = All-tail (λ file. file < block_count h) c.in-Some.file c.next.new.self
          (All-same (λ file. file < block_count h) (c.in-Some.file ∷ c.next.new.self) c.loop-file.file-iterator (sym first) c.loop-file.invariant.exist);
      events = made-passed f test c.loop-file.events.items c.in-Some.file c.next.new.self pass
          ∙ ap (λ left. c.loop-file.events.items ++ map f (filter test left)) (sym first) ∙ c.loop-file.invariant.events;
    }
