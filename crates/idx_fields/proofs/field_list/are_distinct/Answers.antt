use Rattle.std.proofs.Common.{◌≡◌, ◌∙◌, true, false, Bool, not, refl, sym, ap, take, List, ℕ, cond, ◌||◌, arith}
use Rattle.std.specs.List.{list_any}
use Rattle.std.specs.Str.{bytes_eq}
use Rattle.std.specs.BTreeSet.{contains}
use Rattle.std.specs.Cmp.Lexicographic.{slice_cmp}
use Rattle.std.specs.Ordering.{nat_cmp}
use Rattle.std.proofs.lemmas.Map.Text.{is_eq-slice_cmp}
use Rattle.idx_fields.specs.Fields.{names_of}
use Rattle.idx_fields.proofs.DistinctLemmas.{distinct_broken, distinct_more, any_more, bytes_eq-flip}
use Rattle.idx_fields.proofs.field_list.are_distinct.Goals as goal

not_back : (a b : Bool) → a ≡ not b → (a ≡ false → b ≡ true) × (a ≡ true → b ≡ false)
not_back a true e = ((λ _. refl), (λ t. sym t ∙ e))
not_back a false e = ((λ f. sym f ∙ e), (λ _. refl))

cond_or : (a b : Bool) → cond a true b ≡ (a || b)
cond_or true b = refl
cond_or false b = refl

pub returns-then-not-branch : goal.returns-then-not-branch
returns-then-not-branch c =
    let field = c.field-item.result in
    let named : c.as_slice.result.now ≡ field.name = c.as_slice.ensures ∙ ap (λ g. g.name) c.field.view_is in
    let there = (not_back _ _ c.in_ok-insert.ensures.added).0 c.if-not-branch.true in
    let again : list_any (bytes_eq field.name) (names_of (take c.loop-field.field-index c.args.fields.now)) ≡ true =
    ap (λ q. list_any (bytes_eq q) (names_of (take c.loop-field.field-index c.args.fields.now))) (sym named)
    ∙ sym (c.loop-field.invariant.1 c.as_slice.result) ∙ there in
    sym (distinct_broken c.args.fields.now c.loop-field.field-index field (omega arith) c.field-item.is again)

pub loop-field-preserved : goal.loop-field-preserved
loop-field-preserved c =
    let field = c.field-item.result in
    let names : List (List ℕ) = names_of (take c.loop-field.field-index c.args.fields.now) in
    let named : c.as_slice.result.now ≡ field.name = c.as_slice.ensures ∙ ap (λ g. g.name) c.field.view_is in
    let new = (not_back _ _ c.in_ok-insert.ensures.added).1 c.if-not-branch.false in
    let first : list_any (bytes_eq field.name) names ≡ false =
    ap (λ q. list_any (bytes_eq q) names) (sym named) ∙ sym (c.loop-field.invariant.1 c.as_slice.result) ∙ new in (
      distinct_more c.args.fields.now c.loop-field.field-index field (omega arith) c.field-item.is c.loop-field.invariant.0 first,
      (λ q.
          let before = contains (λ a b. slice_cmp nat_cmp a.now b.now) c.loop-field.names q in
          let at = is_eq-slice_cmp c.as_slice.result.now q.now ∙ bytes_eq-flip c.as_slice.result.now q.now ∙ ap (bytes_eq q.now) named in
          c.in_ok-insert.ensures.updates.0 q ∙ ap (λ t. cond t true before) at ∙ cond_or (bytes_eq q.now field.name) before
          ∙ ap (λ t. bytes_eq q.now field.name || t) (c.loop-field.invariant.1 q)
          ∙ sym (any_more c.args.fields.now c.loop-field.field-index field q.now (omega arith) c.field-item.is)),
    )
