use Rattle.std.proofs.Common.{◌≡◌, ℕ, ◌+◌, ◌-◌, ◌*◌, ◌^◌, ◌<◌, List, length, get_or, refl, sym, ap, ◌∙◌, subst, arith}
use Rattle.std.specs.Prelude.{slice_index}
use Rattle.idx_check.specs.Stray.{IsClean, IsStray}
use Rattle.idx_check.proofs.CellLemmas.{next_of}
use Rattle.idx_check.proofs.NatLemmas.{halved_of}
use Rattle.idx_check.proofs.StrayLemmas.{first_outside, in_high, in_low, in_none}
use Rattle.idx_check.proofs.stray.+stray_in_cell.Goals as goal

pub returns-in-Some : goal.returns-in-Some
returns-in-Some t c =
    let mask = c.args.level.now.mask in
    let box = c.args.level.now.region in
    let cell = c.args.cell.now in
    let size : ℕ = c.args.size in
    let first : ℕ = cell.number * 2 ^ cell.bits in
    let count : ℕ = c.address_count.result in
    let low : List ℕ = c.split_at.result.0.now in
    let halved = halved_of size cell.bits cell.number count (c.side_of.ensures.across c.in-Across.is) c.address_count.ensures.value in
    let first_is : c.halve.new.cell.number * 2 ^ c.halve.new.cell.bits ≡ first = (λ i. c.halve.ensures.number i * 2 ^ c.halve.ensures.bits i) ∙ halved.low in
    let stray : IsStray mask box size first (slice_index low) (length low) c.in-Some.place =
    subst (λ (n : ℕ). IsStray mask box size n (slice_index low) (length low) c.in-Some.place) first_is c.in-Some.ensures in
    in_low mask box size first (first + count) count (size * count) c.args.bytes.now low c.split_at.result.1.now c.requires.some refl (c.requires.room ∙ halved.whole) c.split_at.ensures.front c.split_at.ensures.back refl
    c.in-Some.place stray

pub stray_in_cell-requires-in-Across : goal.stray_in_cell-requires-in-Across
stray_in_cell-requires-in-Across t c =
    let cell = c.args.cell.now in
    let size : ℕ = c.args.size in
    let count : ℕ = c.address_count.result in
    let some = c.side_of.ensures.across c.in-Across.is in
    let halved = halved_of size cell.bits cell.number count some c.address_count.ensures.value in
    let here : cell.digits + 1 - 1 ≡ cell.digits = omega arith in
    let names : c.axis-next.result ≡ get_or c.args.level.now.mask cell.digits 0 = c.axis-next.ensures.value ∙ ap (λ n. get_or c.args.level.now.mask n 0) here in
    let next = next_of c.args.level.now cell c.axis-next.result c.requires.address c.requires.cell some names in
    let long : length c.split_at.result.1.now ≡ size * count = omega (arith, c.split_at.ensures.back_len, c.requires.room, halved.whole) in (
      omega (arith, c.decreases, some, c.halve-in-Across.ensures.bits),
      (
        c.requires.mask,
        (
          c.requires.address,
          (
            c.halve-in-Across.ensures.cell,
            (
              next.inside,
              (
                c.axis-next.ensures.small,
                (
                  omega (arith, c.halve-in-Across.ensures.bits, c.requires.few_bits),
                  (
                    c.requires.some,
                    long ∙ ap (λ n. size * n) c.address_count.ensures.value ∙ ap (λ n. size * 2 ^ n) (sym c.halve-in-Across.ensures.bits),
                  ),
                ),
              ),
            ),
          ),
        ),
      ),
    )

pub returns-in-Outside : goal.returns-in-Outside
returns-in-Outside t c =
    let cell = c.args.cell.now in
    first_outside c.args.level.now.mask c.args.level.now.region c.args.size (cell.number * 2 ^ cell.bits) (2 ^ cell.bits) c.args.bytes.now c.first_set.result c.requires.some c.requires.room
    (c.side_of.ensures.outside c.in-Outside.is) c.first_set.ensures.some c.first_set.ensures.none

pub returns-in-Some-stray_in_cell : goal.returns-in-Some-stray_in_cell
returns-in-Some-stray_in_cell t c =
    let mask = c.args.level.now.mask in
    let box = c.args.level.now.region in
    let cell = c.args.cell.now in
    let size : ℕ = c.args.size in
    let first : ℕ = cell.number * 2 ^ cell.bits in
    let count : ℕ = c.address_count.result in
    let low : List ℕ = c.split_at.result.0.now in
    let high : List ℕ = c.split_at.result.1.now in
    let halved = halved_of size cell.bits cell.number count (c.side_of.ensures.across c.in-Across.is) c.address_count.ensures.value in
    let first_is : c.halve.new.cell.number * 2 ^ c.halve.new.cell.bits ≡ first = (λ i. c.halve.ensures.number i * 2 ^ c.halve.ensures.bits i) ∙ halved.low in
    let next_is : c.halve-in-Across.new.cell.number * 2 ^ c.halve-in-Across.new.cell.bits ≡ first + count = (λ i. c.halve-in-Across.ensures.number i * 2 ^ c.halve-in-Across.ensures.bits i) ∙ halved.high in
    let clean : (i : ℕ) → i < length low → IsClean mask box size first (slice_index low) i =
    subst (λ (n : ℕ). (i : ℕ) → i < length low → IsClean mask box size n (slice_index low) i) first_is c.in_default.ensures in
    let stray : IsStray mask box size (first + count) (slice_index high) (length high) c.in-Some-stray_in_cell.place =
    subst (λ (n : ℕ). IsStray mask box size n (slice_index high) (length high) c.in-Some-stray_in_cell.place) next_is c.in-Some-stray_in_cell.ensures in
    in_high mask box size first (first + count) count (size * count) c.args.bytes.now low high c.requires.some refl (c.requires.room ∙ halved.whole) c.split_at.ensures.front c.split_at.ensures.back refl
    c.in-Some-stray_in_cell.place clean stray

pub returns-in-None : goal.returns-in-None
returns-in-None t c =
    let mask = c.args.level.now.mask in
    let box = c.args.level.now.region in
    let cell = c.args.cell.now in
    let size : ℕ = c.args.size in
    let first : ℕ = cell.number * 2 ^ cell.bits in
    let count : ℕ = c.address_count.result in
    let low : List ℕ = c.split_at.result.0.now in
    let high : List ℕ = c.split_at.result.1.now in
    let halved = halved_of size cell.bits cell.number count (c.side_of.ensures.across c.in-Across.is) c.address_count.ensures.value in
    let first_is : c.halve.new.cell.number * 2 ^ c.halve.new.cell.bits ≡ first = (λ i. c.halve.ensures.number i * 2 ^ c.halve.ensures.bits i) ∙ halved.low in
    let next_is : c.halve-in-Across.new.cell.number * 2 ^ c.halve-in-Across.new.cell.bits ≡ first + count = (λ i. c.halve-in-Across.ensures.number i * 2 ^ c.halve-in-Across.ensures.bits i) ∙ halved.high in
    let clean : (i : ℕ) → i < length low → IsClean mask box size first (slice_index low) i =
    subst (λ (n : ℕ). (i : ℕ) → i < length low → IsClean mask box size n (slice_index low) i) first_is c.in_default.ensures in
    let later : (i : ℕ) → i < length high → IsClean mask box size (first + count) (slice_index high) i =
    subst (λ (n : ℕ). (i : ℕ) → i < length high → IsClean mask box size n (slice_index high) i) next_is c.in-None.ensures in
    in_none mask box size first (first + count) count (size * count) c.args.bytes.now low high c.requires.some refl (c.requires.room ∙ halved.whole) c.split_at.ensures.front c.split_at.ensures.back refl
    clean later
