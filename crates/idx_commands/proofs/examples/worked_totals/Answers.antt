use Rattle.std.proofs.Common.{[], ◌∷◌, ◌++◌, ap, codes, lit<, ◌∙◌}
use Rattle.std.specs.Fmt.{decimal}
use Rattle.std.proofs.lemmas.Fmt.{decimal_digit}
use Rattle.idx_commands.proofs.examples.worked_totals.Goals as goal

pub returns : goal.returns
returns c =
    record {
      line = ap (λ links. codes "links " ++ links ++ codes " replies " ++ decimal 3 ++ 10 ∷ []) (decimal_digit 2 (lit< tt))
          ∙ ap (λ replies. codes "links " ++ (50 ∷ []) ++ codes " replies " ++ replies ++ 10 ∷ []) (decimal_digit 3 (lit< tt));
    }
