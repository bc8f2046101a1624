use Rattle.std.proofs.Common.{ℕ, length, sym, not, arith, rules}
use Rattle.std.proofs.lemmas.List.Sums.{position_or_len_is}
use Rattle.idx_text.specs.Number.{is_digit}
use Rattle.idx_request.proofs.asked.digits_in_front.Goals as goal

pub returns-in-Some-clause-count : goal.returns-in-Some-clause-count
returns-in-Some-clause-count c =
    sym (position_or_len_is (λ (b : ℕ). not (is_digit b)) c.args.text.now c.in-Some.count 0 (search rules) (search rules) (search rules))

pub returns-in-None-clause-count : goal.returns-in-None-clause-count
returns-in-None-clause-count c =
    sym (position_or_len_is (λ (b : ℕ). not (is_digit b)) c.args.text.now (length c.args.text.now) 0 (omega arith) (search rules) (search rules))
