use Rattle.std.proofs.Common.{◌≡◌, ℕ, ◌<◌, All, map, take}
use Rattle.idx_events.specs.Start.{new_query}
use Rattle.idx_core_asks.specs.Asked.{AskedValue, IsPlanned}
use Rattle.idx_core.specs.NewWorld.{IsAskAt}
use Rattle.idx_core.proofs.taking.ask_all.Given as goal

-- the questions so far can be asked, and have their plans
abbrev pub invariant-loop-i : goal.invariant-loop-i
invariant-loop-i l = record {
  can : (k : ℕ) → k < l.i → IsAskAt l.below.header l.asks k;
  queries : map (λ (x : AskedValue). x.query) l.asked.items ≡ map new_query (take l.i l.asks);
  planned : All (IsPlanned l.below) l.asked.items;
}
