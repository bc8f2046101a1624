use Rattle.std.proofs.Common.{◌≡◌, ℕ, List, filter, is_some, Bool, sym, ap, ◌∙◌, subst, rules, Less}
use Rattle.std.specs.List.{IsDistinct}
use Rattle.std.specs.Map.{keys_of}
use Rattle.std.proofs.lemmas.Fn.{filter_same}
use Rattle.std.proofs.lemmas.List.Kept.{AllPairs-filter}
use Rattle.idx_cache.specs.Indexed.{Indexed, IsRising}
use Rattle.idx_cache.specs.Slotted.{content_at}
use Rattle.idx_cache.proofs.Search.{rising_apart}
use Rattle.idx_cache.proofs.index.Index.keep_filled.Goals as goal

pub invariant_of-self : goal.invariant_of-self
invariant_of-self g c =
    let test : g.row.K.Denot × ℕ → Bool = λ e. is_some (content_at c.args.contents.now e.1) in
    let items = filter_same _ test _ (λ x b f' k. search rules) _ _ c.retain.ensures.filtered in
    subst (λ (l : List (g.row.K.Denot × ℕ)). IsRising g.K.Ord.cmp l) (sym items) (AllPairs-filter (λ x y. g.K.Ord.cmp x.0 y.0 ≡ Less) test c.self.inside.sorted.items c.self.invariant)

pub returns-clause-entries : goal.returns-clause-entries
returns-clause-entries g c =
    let test : g.row.K.Denot × ℕ → Bool = λ e. is_some (content_at c.args.contents.now e.1) in
    let items = filter_same _ test _ (λ x b f' k. search rules) _ _ c.retain.ensures.filtered in
    items ∙ ap (λ (x : Indexed g.row.K.Denot). filter test x.entries) c.self.view_is

pub returns-clause-keys_apart : goal.returns-clause-keys_apart
returns-clause-keys_apart g c =
    subst (λ (x : Indexed g.row.K.Denot). IsDistinct g.K.PartialEq.eq (keys_of x.entries)) c.self.view_is (rising_apart g.met.K.Ord.total g.met.K.Eq.laws g.met.K.Ord.matches_eq c.self.inside.sorted.items c.self.invariant)
