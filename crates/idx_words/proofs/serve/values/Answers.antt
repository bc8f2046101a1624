use Rattle.std.proofs.Common.{map, string_bytes, ap, ◌∙◌}
use Rattle.idx_words.specs.declared.setting.Setting.TheVariants as options
use Rattle.idx_words.specs.Options.{cache_of, number_given, workers_of}
use Rattle.idx_words.specs.ServeGrammar.{ingest_of}
use Rattle.idx_words.specs.ServeValue.{ServeValue}
use Rattle.idx_words.proofs.ServeLemmas.{serve_is}
use Rattle.idx_words.proofs.serve.values.Goals as goal

pub returns-clause-read : goal.returns-clause-read
returns-clause-read c =
    let value : ServeValue = record {
      dataset = c.word_at.result.now;
      address = c.word_at-2.result.now;
      cache = c.cache.result;
      workers = c.workers.result;
      links = c.number.result;
      ingest = c.ingest.result;
    } in
    serve_is (map string_bytes c.args.words.now) value c.requires.right c.word_at.ensures c.word_at-2.ensures
    (c.cache.ensures.value ∙ ap cache_of c.requires.given)
    (c.workers.ensures.value ∙ ap workers_of c.requires.given)
    (c.number.ensures ∙ ap (λ words. number_given words options.Links) c.requires.given)
    (c.ingest.ensures ∙ ap ingest_of c.requires.given)
