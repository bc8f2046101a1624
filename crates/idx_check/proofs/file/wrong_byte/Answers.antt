use Rattle.std.proofs.Common.{◌≡◌, ◌≢◌, ℕ, Some, min, subst}
use Rattle.idx_layout.specs.OfHeader.{placing_of}
use Rattle.idx_check.specs.Stray.{first_end}
use Rattle.idx_check.proofs.BetweenLemmas.{wrong_byte_is}
use Rattle.idx_check.proofs.file.wrong_byte.Goals as goal

pub returns-clause-found : goal.returns-clause-found
returns-clause-found g c =
    let there : ℕ = c.len-there.result in
    let found = c.in_ok-found.found in
    let result = c.first_of.result in
    wrong_byte_is (placing_of c.args.header.now) c.args.file (g.L.Leaf.contents c.args.leaf.now) there found result c.len-there.ensures c.in_ok-found.ensures.found
    (subst (λ (n : ℕ). there ≡ n → result ≡ found) c.file_len.ensures c.first_of.ensures.same)
    (subst (λ (n : ℕ). there ≢ n → result ≡ Some (first_end found (min there n))) c.file_len.ensures c.first_of.ensures.ended)
