-- What follows of how many times a value was taken.
use Rattle.std.proofs.Common.{◌≡◌, ℕ, ◌+◌, ◌%◌, ◌^◌, sym, ap, ◌∙◌, arith}
use Rattle.std.proofs.Math.Nat.{add-mod-mod}
use Rattle.idx_turn.specs.Stands.{MadeHolds}

-- holds after holds
pub both_held : (before between after n m : ℕ) → MadeHolds before between n → MadeHolds between after m → MadeHolds before after (n + m)
both_held before between after n m first second =
    let turned : between + m ≡ m + between = omega arith in
    let moved : m + (before + n) ≡ before + (n + m) = omega arith in
    second ∙ ap (λ x. x % 2 ^ 64) turned ∙ sym (add-mod-mod m between (2 ^ 64)) ∙ ap (λ x. (m + x) % 2 ^ 64) first
    ∙ add-mod-mod m (before + n) (2 ^ 64) ∙ ap (λ x. x % 2 ^ 64) moved

-- none where the count is as it was
pub none_held : (count : ℕ) → MadeHolds count count 0
none_held count = ap (λ x. x % 2 ^ 64) {x = count} {y = count + 0} (omega arith)
