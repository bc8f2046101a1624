use Rattle.std.proofs.Common.{map, string_bytes, sym, ap, ◌∙◌}
use Rattle.idx_words.proofs.WordsLemmas.{check_passed_on, convert_passed_on, cut_passed_on, drill_passed_on, info_passed_on, query_passed_on, serve_passed_on}
use Rattle.idx_words.proofs.words.read_words.Goals as goal

pub returns-then-is_cut-clause-place : goal.returns-then-is_cut-clause-place
returns-then-is_cut-clause-place c =
    cut_passed_on c.cut_command.result (map string_bytes c.args.words.now) (string_bytes c.in-Some.name.now) (map string_bytes c.in-Some.words.now)
    (ap (map string_bytes) c.in-Some.ensures.cases.0) (sym c.as_bytes.ensures.value ∙ c.is_cut.ensures.0 c.if-is_cut.true) c.cut_command.ensures.place

pub returns-then-is_info-clause-place : goal.returns-then-is_info-clause-place
returns-then-is_info-clause-place c =
    info_passed_on c.info_command.result (map string_bytes c.args.words.now) (string_bytes c.in-Some.name.now) (map string_bytes c.in-Some.words.now)
    (ap (map string_bytes) c.in-Some.ensures.cases.0) (sym c.as_bytes-2.ensures.value ∙ c.is_info.ensures.0 c.if-is_info.true) c.info_command.ensures.place

pub returns-then-is_convert-clause-place : goal.returns-then-is_convert-clause-place
returns-then-is_convert-clause-place c =
    convert_passed_on c.convert_command.result (map string_bytes c.args.words.now) (string_bytes c.in-Some.name.now) (map string_bytes c.in-Some.words.now)
    (ap (map string_bytes) c.in-Some.ensures.cases.0) (sym c.as_bytes-3.ensures.value ∙ c.is_convert.ensures.0 c.if-is_convert.true) c.convert_command.ensures.place

pub returns-then-is_query-clause-place : goal.returns-then-is_query-clause-place
returns-then-is_query-clause-place c =
    query_passed_on c.query_command.result (map string_bytes c.args.words.now) (string_bytes c.in-Some.name.now) (map string_bytes c.in-Some.words.now)
    (ap (map string_bytes) c.in-Some.ensures.cases.0) (sym c.as_bytes-4.ensures.value ∙ c.is_query.ensures.0 c.if-is_query.true) c.query_command.ensures.place

pub returns-then-is_check-clause-place : goal.returns-then-is_check-clause-place
returns-then-is_check-clause-place c =
    check_passed_on c.check_command.result (map string_bytes c.args.words.now) (string_bytes c.in-Some.name.now) (map string_bytes c.in-Some.words.now)
    (ap (map string_bytes) c.in-Some.ensures.cases.0) (sym c.as_bytes-5.ensures.value ∙ c.is_check.ensures.0 c.if-is_check.true) c.check_command.ensures.place

pub returns-then-is_serve-clause-place : goal.returns-then-is_serve-clause-place
returns-then-is_serve-clause-place c =
    serve_passed_on c.serve_command.result (map string_bytes c.args.words.now) (string_bytes c.in-Some.name.now) (map string_bytes c.in-Some.words.now)
    (ap (map string_bytes) c.in-Some.ensures.cases.0) (sym c.as_bytes-6.ensures.value ∙ c.is_serve.ensures.0 c.if-is_serve.true) c.serve_command.ensures.place

pub returns-then-is_drill-clause-place : goal.returns-then-is_drill-clause-place
returns-then-is_drill-clause-place c =
    drill_passed_on c.drill_command.result (map string_bytes c.args.words.now) (string_bytes c.in-Some.name.now) (map string_bytes c.in-Some.words.now)
    (ap (map string_bytes) c.in-Some.ensures.cases.0) (sym c.as_bytes-7.ensures.value ∙ c.is_drill.ensures.0 c.if-is_drill.true) c.drill_command.ensures.place
