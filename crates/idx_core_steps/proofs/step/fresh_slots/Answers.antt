use Rattle.std.proofs.Common.{◌≡◌, ◌++◌, [], ◌∷◌, All, map, sym, ap, ◌∙◌, subst, append_assoc, append-nil}
use Rattle.std.specs.Prelude.{Contains}
use Rattle.std.proofs.lemmas.List.Elements.{All-contains_itself, All-head, All-tail}
use Rattle.idx_layout.specs.OfHeader.{placing_of}
use Rattle.idx_layout.specs.Placing.{file_numbers}
use Rattle.idx_core_steps.specs.Steps.{fresh_slot}
use Rattle.idx_core_steps.proofs.step.fresh_slots.Goals as goal

pub new-requires : goal.new-requires
new-requires c =
    let first : c.loop-file.file-iterator ≡ c.in-Some.file ∷ c.next.new.self = c.in-Some.ensures.steps in
    All-head (Contains (file_numbers (placing_of c.args.below.now.header))) c.in-Some.file c.next.new.self
    (subst (All (Contains (file_numbers (placing_of c.args.below.now.header)))) first c.loop-file.invariant.left)

pub loop-file-init : goal.loop-file-init
loop-file-init c =
    let all : c.into_iter-file-iterator.result ≡ file_numbers (placing_of c.args.below.now.header) =
    c.into_iter-file-iterator.ensures.into_iter_gives ∙ c.files-file-items.ensures.value ∙ ap (λ h. file_numbers (placing_of h)) c.header.ensures.value in
    record {
      slots = ap (λ xs. xs ++ map (fresh_slot c.args.below.now) c.into_iter-file-iterator.result) c.new-slots.ensures.items ∙ ap (map (fresh_slot c.args.below.now)) all;
      left = subst (All (Contains (file_numbers (placing_of c.args.below.now.header)))) (sym all) (All-contains_itself (file_numbers (placing_of c.args.below.now.header)));
    }

pub loop-file-preserved : goal.loop-file-preserved
loop-file-preserved c =
    let first : c.loop-file.file-iterator ≡ c.in-Some.file ∷ c.next.new.self = c.in-Some.ensures.steps in
    record {
      slots =
          ap (λ xs. xs ++ map (fresh_slot c.args.below.now) c.next.new.self) (c.in_ok-push.ensures.items ∙ ap (λ x. c.loop-file.slots.items ++ x ∷ []) c.in_ok-new.ensures)
          ∙ append_assoc c.loop-file.slots.items (fresh_slot c.args.below.now c.in-Some.file ∷ []) (map (fresh_slot c.args.below.now) c.next.new.self)
          ∙ ap (λ left. c.loop-file.slots.items ++ map (fresh_slot c.args.below.now) left) (sym first) ∙ c.loop-file.invariant.slots;
      left = All-tail (Contains (file_numbers (placing_of c.args.below.now.header))) c.in-Some.file c.next.new.self
          (subst (All (Contains (file_numbers (placing_of c.args.below.now.header)))) first c.loop-file.invariant.left);
    }

pub returns : goal.returns
returns c =
    sym (append-nil c.loop-file.slots.items) ∙ ap (λ left. c.loop-file.slots.items ++ map (fresh_slot c.args.below.now) left) (sym c.in-None.ensures.steps.0) ∙ c.loop-file.invariant.slots
