use Rattle.std.proofs.Common.{map, string_bytes, subst}
use Rattle.idx_words.specs.Options.{AreOptions}
use Rattle.idx_words.specs.Place.{IsPlace}
use Rattle.idx_words.proofs.OptionLemmas.{all_open, are_within}
use Rattle.idx_words.proofs.options.read_options.Goals as goal

pub returns-in-Ok-clause-right : goal.returns-in-Ok-clause-right
returns-in-Ok-clause-right c = subst (λ all. AreOptions all (map string_bytes c.args.words.now)) (all_open c.args.options.now) c.in-Ok.ensures.right

pub returns-in-Ok-clause-within : goal.returns-in-Ok-clause-within
returns-in-Ok-clause-within c = are_within c.args.options.now (map string_bytes c.args.words.now)
    (subst (λ all. AreOptions all (map string_bytes c.args.words.now)) (all_open c.args.options.now) c.in-Ok.ensures.right)

pub returns-in-Err-clause-wrong : goal.returns-in-Err-clause-wrong
returns-in-Err-clause-wrong c = subst (λ all. ¬ AreOptions all (map string_bytes c.args.words.now)) (all_open c.args.options.now) c.in-Err.ensures.wrong

pub returns-in-Err-clause-place : goal.returns-in-Err-clause-place
returns-in-Err-clause-place c =
    subst (λ all. IsPlace (AreOptions all) (map string_bytes c.args.words.now) c.in-Err.misread.at) (all_open c.args.options.now) c.in-Err.ensures.place
