use Rattle.std.proofs.Common.{codes, map, string_bytes}
use Rattle.idx_words.specs.declared.command.Command.TheVariants.{Cut, Convert, Query, Check, Serve, Drill}
use Rattle.idx_commands.proofs.RunLemmas.{misnamed}
use Rattle.idx_commands.proofs.info.run_info.Goals as goal

pub unreachable-requires : goal.unreachable-requires
unreachable-requires g c =
    let given = c.read_words.ensures.read c.in-Ok-Cut.field-0 in
    misnamed (map string_bytes c.args.words.now) c.in-Ok-Cut.field-0 (Cut c.in-Ok-Cut.field-0-0) (codes "info") c.requires.named
    (given.0 c.in-Ok-Cut.is) c.in-Ok-Cut.field-0-is (λ e. cc)

pub unreachable-requires-in-Ok-Convert : goal.unreachable-requires-in-Ok-Convert
unreachable-requires-in-Ok-Convert g c =
    let given = c.read_words.ensures.read c.in-Ok-Convert.field-0 in
    misnamed (map string_bytes c.args.words.now) c.in-Ok-Convert.field-0 (Convert c.in-Ok-Convert.field-0-0) (codes "info") c.requires.named
    (given.0 c.in-Ok-Convert.is) c.in-Ok-Convert.field-0-is (λ e. cc)

pub unreachable-requires-in-Ok-Query : goal.unreachable-requires-in-Ok-Query
unreachable-requires-in-Ok-Query g c =
    let given = c.read_words.ensures.read c.in-Ok-Query.field-0 in
    misnamed (map string_bytes c.args.words.now) c.in-Ok-Query.field-0 (Query c.in-Ok-Query.field-0-0) (codes "info") c.requires.named
    (given.0 c.in-Ok-Query.is) c.in-Ok-Query.field-0-is (λ e. cc)

pub unreachable-requires-in-Ok-Check : goal.unreachable-requires-in-Ok-Check
unreachable-requires-in-Ok-Check g c =
    let given = c.read_words.ensures.read c.in-Ok-Check.field-0 in
    misnamed (map string_bytes c.args.words.now) c.in-Ok-Check.field-0 (Check c.in-Ok-Check.field-0-0) (codes "info") c.requires.named
    (given.0 c.in-Ok-Check.is) c.in-Ok-Check.field-0-is (λ e. cc)

pub unreachable-requires-in-Ok-Serve : goal.unreachable-requires-in-Ok-Serve
unreachable-requires-in-Ok-Serve g c =
    let given = c.read_words.ensures.read c.in-Ok-Serve.field-0 in
    misnamed (map string_bytes c.args.words.now) c.in-Ok-Serve.field-0 (Serve c.in-Ok-Serve.field-0-0) (codes "info") c.requires.named
    (given.0 c.in-Ok-Serve.is) c.in-Ok-Serve.field-0-is (λ e. cc)

pub unreachable-requires-in-Ok-Drill : goal.unreachable-requires-in-Ok-Drill
unreachable-requires-in-Ok-Drill g c =
    let given = c.read_words.ensures.read c.in-Ok-Drill.field-0 in
    misnamed (map string_bytes c.args.words.now) c.in-Ok-Drill.field-0 (Drill c.in-Ok-Drill.field-0-0) (codes "info") c.requires.named
    (given.0 c.in-Ok-Drill.is) c.in-Ok-Drill.field-0-is (λ e. cc)
