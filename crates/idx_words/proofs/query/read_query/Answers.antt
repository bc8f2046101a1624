use Rattle.std.proofs.Common.{ℕ, List, map, string_bytes, sym, ap, ◌∙◌, subst}
use Rattle.idx_text.specs.BoxText.{SpellsRegion}
use Rattle.idx_text.specs.Number.{number_of}
use Rattle.idx_words.specs.PathWord.{is_path}
use Rattle.idx_words.specs.QueryGrammar.{AreQueryWords, SpellsLevel}
use Rattle.idx_words.specs.QueryValue.{QueryValue}
use Rattle.idx_words.proofs.QueryLemmas.{six_words, query_found, query_refused}
use Rattle.idx_words.proofs.query.read_query.Goals as goal

pub returns-in_err-read_box-clause-values : goal.returns-in_err-read_box-clause-values
returns-in_err-read_box-clause-values c =
    let ws : List (List ℕ) = map string_bytes c.args.words.now in
    let six = six_words string_bytes c.args.words.now _ _ _ _ _ _ c.in-len6-up.len_at_least
    c.dataset-item.is c.time-item.is c.field-item.is c.region-item.is c.lo-item.is c.hi-item.is in
    query_refused c.from_residual-in_err-read_box.result ws c.from_residual-in_err-read_box.ensures (λ value are.
    let spelled = subst (λ t. AreQueryWords t value) six are in
    let found = (c.read_box.ensures value.region).1 (subst (λ w. SpellsRegion w value.region) (sym c.as_bytes-4.ensures.value) spelled.1.region_word) in
    let none = c.in_err-read_box.was in
    cc)

pub returns-in_err-read_level-clause-values : goal.returns-in_err-read_level-clause-values
returns-in_err-read_level-clause-values c =
    let ws : List (List ℕ) = map string_bytes c.args.words.now in
    let six = six_words string_bytes c.args.words.now _ _ _ _ _ _ c.in-len6-up.len_at_least
    c.dataset-item.is c.time-item.is c.field-item.is c.region-item.is c.lo-item.is c.hi-item.is in
    query_refused c.from_residual-in_err-read_level.result ws c.from_residual-in_err-read_level.ensures (λ value are.
    let spelled = subst (λ t. AreQueryWords t value) six are in
    let found = (c.read_level.ensures value.lo).1 (subst (λ w. SpellsLevel w value.lo) (sym c.as_bytes-5.ensures.value) spelled.1.lo_word) in
    let none = c.in_err-read_level.was in
    cc)

pub returns-in_err-read_level-2-clause-values : goal.returns-in_err-read_level-2-clause-values
returns-in_err-read_level-2-clause-values c =
    let ws : List (List ℕ) = map string_bytes c.args.words.now in
    let six = six_words string_bytes c.args.words.now _ _ _ _ _ _ c.in-len6-up.len_at_least
    c.dataset-item.is c.time-item.is c.field-item.is c.region-item.is c.lo-item.is c.hi-item.is in
    query_refused c.from_residual-in_err-read_level-2.result ws c.from_residual-in_err-read_level-2.ensures (λ value are.
    let spelled = subst (λ t. AreQueryWords t value) six are in
    let found = (c.read_level-2.ensures value.hi).1 (subst (λ w. SpellsLevel w value.hi) (sym c.as_bytes-6.ensures.value) spelled.1.hi_word) in
    let none = c.in_err-read_level-2.was in
    cc)

pub returns-in_err-read_cache-clause-values : goal.returns-in_err-read_cache-clause-values
returns-in_err-read_cache-clause-values c =
    let ws : List (List ℕ) = map string_bytes c.args.words.now in
    let six = six_words string_bytes c.args.words.now _ _ _ _ _ _ c.in-len6-up.len_at_least
    c.dataset-item.is c.time-item.is c.field-item.is c.region-item.is c.lo-item.is c.hi-item.is in
    query_refused c.from_residual-in_err-read_cache.result ws c.from_residual-in_err-read_cache.ensures (λ value are.
    let spelled = subst (λ t. AreQueryWords t value) six are in
    let found = (c.read_cache.ensures.value value.cache).1 spelled.1.cache_word in
    let none = c.in_err-read_cache.was in
    cc)

pub returns-clause-values : goal.returns-clause-values
returns-clause-values c =
    let ws : List (List ℕ) = map string_bytes c.args.words.now in
    let six = six_words string_bytes c.args.words.now _ _ _ _ _ _ c.in-len6-up.len_at_least
    c.dataset-item.is c.time-item.is c.field-item.is c.region-item.is c.lo-item.is c.hi-item.is in
    let value : QueryValue = record {
      time = c.in_ok-read_number.field-0;
      field = c.as_bytes-3.result.now;
      region = c.in_ok-read_box.field-0;
      lo = c.in_ok-read_level.field-0;
      hi = c.in_ok-read_level-2.field-0;
      cache = c.in_ok-read_cache.field-0;
    } in
    query_found ws value (subst (λ t. AreQueryWords t value) (sym six) (
      ap is_path (sym c.as_bytes.ensures.value) ∙ sym c.is_path.ensures ∙ c.if-not-is_path.false,
      record {
        time_word = ap number_of (sym c.as_bytes-2.ensures.value) ∙ sym c.read_number.ensures ∙ c.in_ok-read_number.was;
        field_word = record {
          name = ap is_path (sym c.as_bytes-else-not-is_path.ensures.value)
              ∙ sym c.is_path-else-not-is_path.ensures ∙ c.if-not-is_path-2.false;
          same = c.as_bytes-3.ensures.value;
        };
        region_word = subst (λ w. SpellsRegion w c.in_ok-read_box.field-0) c.as_bytes-4.ensures.value ((c.read_box.ensures c.in_ok-read_box.field-0).0 c.in_ok-read_box.was);
        lo_word = subst (λ w. SpellsLevel w c.in_ok-read_level.field-0) c.as_bytes-5.ensures.value ((c.read_level.ensures c.in_ok-read_level.field-0).0 c.in_ok-read_level.was);
        hi_word = subst (λ w. SpellsLevel w c.in_ok-read_level-2.field-0) c.as_bytes-6.ensures.value ((c.read_level-2.ensures c.in_ok-read_level-2.field-0).0 c.in_ok-read_level-2.was);
        cache_word = (c.read_cache.ensures.value c.in_ok-read_cache.field-0).0 c.in_ok-read_cache.was;
      },
    ))
