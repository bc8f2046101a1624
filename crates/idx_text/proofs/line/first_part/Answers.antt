use Rattle.std.proofs.Common.{◌≡◌, ◌+◌, ◌∷◌, List, ℕ, [], length, take, drop, sym, ap, ◌∙◌, arith}
use Rattle.std.proofs.lemmas.List.{take_rest, drop_all}
use Rattle.idx_text.specs.Lines.{parts}
use Rattle.idx_text.proofs.LineLemmas.{parts-first, parts-last}
use Rattle.idx_text.proofs.line.first_part.Goals as goal

pub returns-then-end-text-clause-parts : goal.returns-then-end-text-clause-parts
returns-then-end-text-clause-parts c =
    let text : List ℕ = c.args.text.now in
    let end : ℕ = c.line_end-end.result in
    parts-first text c.requires
    ∙ ap (λ n. take n text ∷ parts (drop (n + 1) text)) (sym c.line_end-end.ensures.place)
    ∙ ap (λ t. take end text ∷ parts t) (sym (take_rest text (end + 1)))

pub returns-else-end-text-clause-parts : goal.returns-else-end-text-clause-parts
returns-else-end-text-clause-parts c =
    let text : List ℕ = c.args.text.now in
    let nothing : drop (length text) text ≡ [] = drop_all (length text) text (omega arith) in
    parts-last text c.requires (omega arith)
    ∙ ap (λ t. text ∷ parts t) (sym (take_rest text (length text) ∙ nothing))
