use Rattle.std.proofs.Common.{◌≡◌, ◌*◌, ◌^◌, ◌∷◌, [], ◌||◌, ℕ, List, Bool, false, take, nat_lt, sym, ap, ◌∙◌, arith}
use Rattle.std.specs.List.{list_any}
use Rattle.std.proofs.lemmas.Bool.Decides.{nat_tests}
use Rattle.std.proofs.lemmas.List.{take_more}
use Rattle.std.proofs.lemmas.List.Folds.{list_any-append}
use Rattle.idx_fields.specs.declared.base.Base.TheVariants as bases
use Rattle.idx_fields.specs.Field.{Field, field_at, sample_bytes}
use Rattle.idx_header.proofs.blocks.has_large_block.Goals as goal

pub loop-i-preserved : goal.loop-i-preserved
loop-i-preserved c =
    let fields : List Field = c.args.fields.now in
    let i : ℕ = c.loop-i.i in
    let none : Field = record { name = []; base = bases.Int8; count = 0; attributes = [] } in
    let large : Field → Bool = λ f. nat_lt (2 ^ 24) (sample_bytes f * 2 ^ c.args.bits) in
    let here : large (field_at fields i) ≡ false = rw (sym c.sample_bytes.ensures.value, sym c.block_bytes.ensures) (grind (arith, nat_tests)) in
    ap (list_any large) (take_more fields i none (omega arith))
    ∙ list_any-append large (take i fields) (field_at fields i ∷ [])
    ∙ ap (λ b. b || (large (field_at fields i) || false)) c.loop-i.invariant ∙ ap (λ b. b || false) here
