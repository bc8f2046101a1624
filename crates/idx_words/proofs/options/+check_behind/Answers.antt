use Rattle.std.proofs.Common.{◌+◌, ◌≤◌, drop, length, map, take, string_bytes, sym, ap, ◌∙◌, subst, arith}
use Rattle.std.proofs.lemmas.List.{length-map}
use Rattle.idx_words.specs.Options.{AreOptions, is_value, named}
use Rattle.idx_words.specs.Place.{IsPlace}
use Rattle.idx_words.specs.Settings.{open_among}
use Rattle.idx_words.proofs.OptionLemmas.{pair_read, step_pairs, step_right, step_within, step_wrong, value_wrong}
use Rattle.idx_words.proofs.options.+check_behind.Goals as goal

pub returns-then-not-accepts-clause-place : goal.returns-then-not-accepts-clause-place
returns-then-not-accepts-clause-place t c =
    let is = ap (λ word. named word (open_among (map string_bytes c.split_at.result.0.now) c.args.options.now)) (sym c.as_bytes.ensures.value) ∙ sym c.open_option.ensures ∙ c.in-Some.is in
    let test = ap (is_value c.in-Some.option) (sym c.word_at.ensures) ∙ sym c.accepts.ensures ∙ c.if-not-accepts.true in
    (value_wrong string_bytes c.args.words.now c.args.options.now c.args.read c.split_at.result.0.now c.split_at.result.1.now c.split_at.ensures.front c.split_at.ensures.back c.name-item.result c.in-len1-up.len_at_least c.name-item.is c.in-Some.option is test).place

pub check_behind-requires : goal.check_behind-requires
check_behind-requires t c =
    let is = ap (λ word. named word (open_among (map string_bytes c.split_at.result.0.now) c.args.options.now)) (sym c.as_bytes.ensures.value) ∙ sym c.open_option.ensures ∙ c.in-Some.is in
    let test = ap (is_value c.in-Some.option) (sym c.word_at.ensures) ∙ sym c.accepts.ensures ∙ c.if-not-accepts.false in
    let pair = pair_read string_bytes c.args.words.now c.args.options.now c.args.read c.split_at.result.0.now c.split_at.result.1.now c.split_at.ensures.front c.split_at.ensures.back c.name-item.result c.in-len1-up.len_at_least c.name-item.is c.in-Some.option is c.requires.1.1.1 test in
    let within : c.args.read + 2 ≤ length c.args.words.now = subst (λ n. c.args.read + 2 ≤ n) (length-map c.args.words.now string_bytes) (step_within pair) in
    (omega (arith, within), (within, step_pairs pair))

pub returns-in-Ok-clause-right : goal.returns-in-Ok-clause-right
returns-in-Ok-clause-right t c =
    let is = ap (λ word. named word (open_among (map string_bytes c.split_at.result.0.now) c.args.options.now)) (sym c.as_bytes.ensures.value) ∙ sym c.open_option.ensures ∙ c.in-Some.is in
    let test = ap (is_value c.in-Some.option) (sym c.word_at.ensures) ∙ sym c.accepts.ensures ∙ c.if-not-accepts.false in
    let pair = pair_read string_bytes c.args.words.now c.args.options.now c.args.read c.split_at.result.0.now c.split_at.result.1.now c.split_at.ensures.front c.split_at.ensures.back c.name-item.result c.in-len1-up.len_at_least c.name-item.is c.in-Some.option is c.requires.1.1.1 test in
    step_right pair c.in-Ok.ensures.right

pub returns-in-Err-clause-wrong : goal.returns-in-Err-clause-wrong
returns-in-Err-clause-wrong t c =
    let is = ap (λ word. named word (open_among (map string_bytes c.split_at.result.0.now) c.args.options.now)) (sym c.as_bytes.ensures.value) ∙ sym c.open_option.ensures ∙ c.in-Some.is in
    let test = ap (is_value c.in-Some.option) (sym c.word_at.ensures) ∙ sym c.accepts.ensures ∙ c.if-not-accepts.false in
    let pair = pair_read string_bytes c.args.words.now c.args.options.now c.args.read c.split_at.result.0.now c.split_at.result.1.now c.split_at.ensures.front c.split_at.ensures.back c.name-item.result c.in-len1-up.len_at_least c.name-item.is c.in-Some.option is c.requires.1.1.1 test in
    (step_wrong pair c.in-Err.misread.at (record { place = c.in-Err.ensures.place; none = c.in-Err.ensures.wrong })).none

pub returns-in-Err-clause-place : goal.returns-in-Err-clause-place
returns-in-Err-clause-place t c =
    let is = ap (λ word. named word (open_among (map string_bytes c.split_at.result.0.now) c.args.options.now)) (sym c.as_bytes.ensures.value) ∙ sym c.open_option.ensures ∙ c.in-Some.is in
    let test = ap (is_value c.in-Some.option) (sym c.word_at.ensures) ∙ sym c.accepts.ensures ∙ c.if-not-accepts.false in
    let pair = pair_read string_bytes c.args.words.now c.args.options.now c.args.read c.split_at.result.0.now c.split_at.result.1.now c.split_at.ensures.front c.split_at.ensures.back c.name-item.result c.in-len1-up.len_at_least c.name-item.is c.in-Some.option is c.requires.1.1.1 test in
    subst (IsPlace (AreOptions (open_among (take c.args.read (map string_bytes c.args.words.now)) c.args.options.now)) (drop c.args.read (map string_bytes c.args.words.now)))
    (sym c.behind.ensures) (step_wrong pair c.in-Err.misread.at (record { place = c.in-Err.ensures.place; none = c.in-Err.ensures.wrong })).place
