use Rattle.std.proofs.Common.{◌≡◌, ℕ, ◌≤◌, ◌<◌, ◌-◌, suc, List, length, get_or, Some, arith, sym, ap, ◌∙◌}
use Rattle.std.specs.Prelude.{slice_get}
use Rattle.std.proofs.lemmas.Bool.{eq-eqb}
use Rattle.std.proofs.lemmas.Option.{slice_get-get_or}
use Rattle.std.proofs.lemmas.Map.Entries.{length-keys_of}
use Rattle.idx_cache.specs.Cached.{cached, kept_after_evict, raise_all}
use Rattle.idx_hall.specs.Hall.{name_eq, of_other_times}
use Rattle.idx_hall.proofs.DropLemmas.{few_of_time, left_of_cache, of_time_below, of_time_one, others_below}
use Rattle.idx_hall.specs.declared.block_name.BlockName.{BlockName}
use Rattle.idx_hall.proofs.caching.drop_time.Goals as goal

pub overflow_add-gone : goal.overflow_add-gone
overflow_add-gone c =
    let names : List BlockName = c.args.names.now in
    let k : ℕ = c.loop-place.place - 1 in
    let some : 0 < c.loop-place.place = omega (arith, c.loop-place-test.true) in
    let next : suc k ≡ c.loop-place.place = omega (arith, some) in
    let name : BlockName = get_or names k (record { post = 0; key = record { time = 0; field = 0; block = 0 } }) in
    let within : k < length names = omega (arith, some, c.loop-place.auto.place) in
    let at : slice_get names k ≡ Some name = slice_get-get_or names k (record { post = 0; key = record { time = 0; field = 0; block = 0 } }) within in
    let one : of_time_below c.args.time (suc k) names ≡ suc (of_time_below c.args.time k names) = of_time_one c.args.time k names name at (eq-eqb name.key.time c.args.time c.if-name-time.true) in
    let here : of_time_below c.args.time c.loop-place.place names ≡ suc (of_time_below c.args.time k names) = sym (ap (λ i. of_time_below c.args.time i names) next) ∙ one in
    let few : of_time_below c.args.time (length names) names ≤ length names = few_of_time c.args.time (length names) names in
    let many : length names ≡ length c.args.cache.now.pairs = ap length c.requires.names ∙ length-keys_of c.args.cache.now.pairs in
    omega (arith, c.loop-place.invariant.gone, here, few, many, c.len-valid.ensures.pairs, c.len-valid.auto)

pub returns : goal.returns
returns c =
    let zero_left : c.loop-place.place ≡ 0 = omega (arith, c.loop-place-test.false) in
    let order : c.loop-place.cache.pairs ≡ raise_all name_eq (others_below c.args.time (length c.args.names.now) c.args.names.now) c.args.cache.now.pairs =
    ap (λ i. raise_all name_eq (others_below c.args.time i c.args.names.now) c.loop-place.cache.pairs) (sym zero_left) ∙ c.loop-place.invariant.order in
    let gone : c.loop-place.gone ≡ of_time_below c.args.time (length c.args.names.now) c.args.names.now =
    omega (arith, c.loop-place.invariant.gone, ap (λ i. of_time_below c.args.time i c.args.names.now) zero_left) in
    c.evict.ensures.kept
    ∙ (ap (λ ps. cached ps c.loop-place.cache.cap) (ap (kept_after_evict c.loop-place.gone) order ∙ left_of_cache c.args.time c.args.names.now c.args.cache.now c.loop-place.gone c.requires.names c.len-valid.ensures.valid gone)
    ∙ ap (cached (of_other_times c.args.time c.args.cache.now.pairs)) c.loop-place.invariant.room)
