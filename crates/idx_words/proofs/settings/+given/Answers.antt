use Rattle.std.proofs.Common.{◌≡◌, Some, ◌-◌, false, cond, drop, length, map, string_bytes, take, sym, ap, ◌∙◌}
use Rattle.idx_words.specs.Options.{given, is_name}
use Rattle.idx_words.proofs.OptionLemmas.{first_two}
use Rattle.idx_words.proofs.settings.+given.Goals as goal

pub returns : goal.returns
returns t c =
    let other : is_name (string_bytes c.name-item.result) c.args.option ≡ false =
    ap (λ word. is_name word c.args.option) (sym c.as_bytes.ensures.value) ∙ sym c.has_name.ensures ∙ c.if-has_name.false in
    let items = first_two string_bytes c.args.words.now c.name-item.result c.value-item.result c.in-len2-up.len_at_least c.name-item.is c.value-item.is in
    c.given.ensures ∙ sym (ap (λ words. given words c.args.option) items ∙ ap (λ b. cond b (Some (string_bytes c.value-item.result)) (given (map string_bytes (take (length c.args.words.now - 2) (drop 2 c.args.words.now))) c.args.option)) other)
