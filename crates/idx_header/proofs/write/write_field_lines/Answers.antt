use Rattle.std.proofs.Common.{[], ◌∷◌, ◌++◌, ◌<◌, ℕ, List, length, take, sym, ap, ◌∙◌, arith, append_assoc}
use Rattle.idx_fields.specs.Field.{Field, field_at, field_text}
use Rattle.idx_fields.specs.Fields.{fields_lines}
use Rattle.idx_text.specs.Entries.{lines_text}
use Rattle.idx_header.proofs.WriteLemmas.{lines-more}
use Rattle.idx_header.proofs.write.write_field_lines.Goals as goal

pub loop-i-preserved : goal.loop-i-preserved
loop-i-preserved c =
    let fs : List Field = c.args.fields.now in
    let i : ℕ = c.loop-i.i in
    let field : List ℕ = field_text (field_at fs i) in
    let before : List ℕ = lines_text (fields_lines (take i fs)) in
    let within : i < length fs = omega (arith, c.len-count.ensures.count, c.loop-i-test.true) in
    c.in_ok-push-2.ensures.ok ∙ ap (λ text. text ++ 10 ∷ []) (c.in_ok-write_field-2.ensures.ok
    ∙ ap (λ text. text ++ field) (c.in_ok-append.ensures.ok ∙ ap (λ text. text ++ 43 ∷ 32 ∷ []) c.loop-i.invariant))
    ∙ append_assoc ((c.args.out.now ++ before) ++ 43 ∷ 32 ∷ []) field (10 ∷ [])
    ∙ append_assoc (c.args.out.now ++ before) (43 ∷ 32 ∷ []) (field ++ 10 ∷ [])
    ∙ append_assoc c.args.out.now before (43 ∷ 32 ∷ (field ++ 10 ∷ []))
    ∙ sym (ap (λ text. c.args.out.now ++ text) (lines-more fs i c.loop-i.auto.i within))
