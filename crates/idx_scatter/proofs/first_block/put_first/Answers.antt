use Rattle.std.proofs.Common.{◌≡◌, ℕ, ◌+◌, ◌-◌, ◌*◌, ◌≤◌, List, true, false, Some, refl, subst, length, sym, ap, ◌∙◌, arith, rules}
use Rattle.std.specs.List.{slice_get}
use Rattle.std.specs.Prelude.{◌&&◌, nat_le}
use Rattle.std.proofs.Math.Nat.{mul-le-mul_right, mul_comm}
use Rattle.std.proofs.lemmas.Option.{slice_get_within}
use Rattle.idx_geom.specs.Region.{LiesIn, place_of}
use Rattle.idx_geom.proofs.LiesInLemmas.{length_from_LiesIn}
use Rattle.idx_hz.specs.Address.{hz_address}
use Rattle.idx_hz.specs.Answer.{has_level}
use Rattle.idx_hz.specs.Mask.{HasAddress}
use Rattle.idx_hz.proofs.RegionLemmas.{HasAddress-from_end}
use Rattle.idx_lanes.specs.Written.{written}
use Rattle.idx_lanes.proofs.CopyLemmas.{put_mid-written}
use Rattle.idx_scatter.specs.Asked.{Asked, asked_before, asked_points}
use Rattle.idx_scatter.proofs.AskedLemmas.{asked-at}
use Rattle.idx_scatter.proofs.LevelLemmas.{first-in, first-out}
use Rattle.idx_scatter.proofs.first_block.put_first.Goals as goal
use Rattle.idx_hz.proofs.AddressLaws.{level_iff_zero}
use Rattle.idx_scatter.proofs.first_block.put_first.Goals.{After-asks, After-before-then-contains, else-asks-via-then-asks+else-contains, else-asks-via-else-asks}

-- the origin's point is the only one with the address 0
origin : (c : After-asks) → hz_address c.args.order.now.mask c.point_of_hz-p.result ≡ 0
origin c = subst (λ (m : List ℕ). hz_address m c.point_of_hz-p.result ≡ 0) c.mask.ensures c.point_of_hz-p.ensures.address

only : (c : After-asks) (q : List ℕ) → LiesIn c.args.order.now.region q → hz_address c.args.order.now.mask q ≡ 0 → q ≡ c.point_of_hz-p.result
only c q inside address =
    c.point_of_hz-p.ensures.only q (length_from_LiesIn c.args.order.now.region q inside ∙ sym (ap length c.region.ensures) ∙ sym c.axes.ensures.count)
    (subst (λ (m : List ℕ). HasAddress m q) (sym c.mask.ensures) (HasAddress-from_end c.args.order.now.mask c.args.order.now.region q c.requires.address inside))
    (subst (λ (m : List ℕ). hz_address m q ≡ 0) (sym c.mask.ensures) address)

-- its level is 0
asked_is : (c : After-asks) (q : List ℕ) → hz_address c.args.order.now.mask q ≡ 0 → has_level c.args.order.now.mask c.args.order.now.lo c.args.order.now.hi q ≡ c.asks.result
asked_is c q address =
    ap (λ n. nat_le c.args.order.now.lo n && nat_le n c.args.order.now.hi) ((level_iff_zero c.args.order.now.mask q).1 address) ∙ sym c.asks.ensures

-- it stands at its place in the answer
stands : (c : After-before-then-contains) → slice_get (asked_points c.args.order.now) c.before-then-contains.result ≡ Some c.point_of_hz-p.result
stands c =
    let a : Asked = c.args.order.now in
    let p : List ℕ = c.point_of_hz-p.result in
    let inside : LiesIn a.region p = subst (λ (r : List (ℕ × ℕ)). LiesIn r p) c.region-then-asks.ensures (c.contains.ensures.0 c.if-contains.true) in
    let place : c.rank_of.result ≡ place_of a.region p = c.rank_of.ensures.place ∙ ap (λ (r : List (ℕ × ℕ)). place_of r p) c.region-then-contains.ensures in
    ap (slice_get (asked_points a)) (c.before-then-contains.ensures ∙ ap (asked_before a) place)
    ∙ asked-at a p inside
    (ap (λ n. nat_le a.lo n && nat_le n a.hi) ((level_iff_zero a.mask p).1 (subst (λ (m : List ℕ). hz_address m p ≡ 0) c.mask.ensures c.point_of_hz-p.ensures.address)) ∙ sym c.asks.ensures
    ∙ c.if-asks.true)

room : (c : After-before-then-contains) → (c.before-then-contains.result + 1) * length c.args.sample.now ≤ length c.args.into.now
room c =
    let below = slice_get_within (asked_points c.args.order.now) c.before-then-contains.result c.point_of_hz-p.result (stands c) in
    let le : c.before-then-contains.result + 1 ≤ length (asked_points c.args.order.now) = omega (arith, below) in
    omega (arith, mul-le-mul_right (length c.args.sample.now) le, c.requires.room, mul_comm (length (asked_points c.args.order.now)) (length c.args.sample.now))

more : (at size : ℕ) → (at + 1) * size ≡ at * size + size
more at size = grind arith

small : (c : After-before-then-contains) → c.before-then-contains.result * length c.args.sample.now + length c.args.sample.now ≤ length c.args.into.now
small c = omega (arith, room c, more c.before-then-contains.result (length c.args.sample.now))

pub overflow_mul-at : goal.overflow_mul-at
overflow_mul-at c =
    let within = small (goal.at.overflow_mul-at c).After-before-then-contains in
    search rules

pub overflow_add-at : goal.overflow_add-at
overflow_add-at c =
    let within = small (goal.at.overflow_add-at c).After-before-then-contains in
    search rules

pub slice_bounds-copy_from_slice-end : goal.slice_bounds-copy_from_slice-end
slice_bounds-copy_from_slice-end c =
    let within = small (goal.at.slice_bounds-copy_from_slice-end c).After-before-then-contains in
    search rules

pub returns-then-contains : goal.returns-then-contains
returns-then-contains c =
    let at = (goal.at.returns-then-contains c).After-before-then-contains in
    let before = (goal.at.returns-then-contains c).After-asks in
    let size : ℕ = length c.args.sample.now in
    let o : ℕ = c.before-then-contains.result in
    let count : o * size + size - o * size ≡ size = omega arith in
    let piece : c.copy_from_slice.new.self ≡ c.args.sample.now = c.copy_from_slice.ensures.after in
    first-in c.args.order.now size o c.args.sample.now c.args.into.now c.point_of_hz-p.result _ (only before) (origin before) (stands at) refl (room at)
    (put_mid-written (o * size) (o * size + size - o * size) c.args.into.now c.copy_from_slice.new.self (ap length piece ∙ sym count)
    ∙ ap (λ t. written (o * size) t c.args.into.now) piece)

pub returns-else-asks : goal.returns-else-asks
returns-else-asks c =
    let at = (goal.at.returns-else-asks c).After-asks in
    let a : Asked = c.args.order.now in
    first-out a (length c.args.sample.now) c.args.sample.now c.args.into.now (λ q inside asked address. elim c.else-asks.branch [
      | else-asks-via-then-asks+else-contains w ↦
          let same : q ≡ c.point_of_hz-p.result = only at q inside address in
          let there : LiesIn w.region-then-asks.result.now c.point_of_hz-p.result =
          subst (λ (r : List (ℕ × ℕ)). LiesIn r c.point_of_hz-p.result) (sym w.region-then-asks.ensures) (subst (λ (x : List ℕ). LiesIn a.region x) same inside) in
          wrong (sym w.if-contains.false ∙ w.contains.ensures.1 there)
      | else-asks-via-else-asks w ↦ wrong (sym w.if-asks.false ∙ sym (asked_is at q address) ∙ asked)
    ])
  where
    wrong : false ≡ true → ⊥
    wrong e = cc
