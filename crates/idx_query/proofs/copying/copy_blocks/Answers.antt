use Rattle.std.proofs.Common.{refl, ap, sym, ◌∙◌, subst, arith, length, rules}
use Rattle.idx_query.specs.declared.report.Report.{Report}
use Rattle.idx_query.specs.Reads.{ReadsAtMost}
use Rattle.idx_query.specs.Steps.{AreFound}
use Rattle.idx_query.proofs.DoneLemmas.{came-post, done-bytes, done-first, done-more}
use Rattle.idx_query.proofs.ReadsLemmas.{on_err, reads_till}
use Rattle.idx_query.proofs.copying.copy_blocks.Goals as goal

pub loop-i-init : goal.loop-i-init
loop-i-init g c =
    let report = c.new-report.ensures in
    record {
      within = omega arith;
      room = refl;
      post = ap (λ (r : Report). r.post) report;
      quiet = refl;
      done = done-first c.args.part.now c.args.field (g.E.Blocks.has c.args.edition.now c.args.field) (g.E.Blocks.stored c.args.edition.now) c.args.looked.now.found (g.R.Reader.reads c.args.reader.now)
          c.args.loading.now c.args.post c.new-report.result c.args.out.now report;
    }

pub copy_key-requires-clause-found : goal.copy_key-requires-clause-found
copy_key-requires-clause-found g c =
    subst (λ n. AreFound n c.args.field (g.E.Blocks.stored c.args.edition.now) c.args.part.now.keys c.args.looked.now.found) (sym (done-bytes c.loop-i.invariant.done)) c.requires.found

pub loop-i-preserved : goal.loop-i-preserved
loop-i-preserved g c =
    let before = c.loop-i.invariant in
    let came = c.in_ok-report.ensures in
    record {
      within = search rules;
      room = search rules;
      post = came-post came.came ∙ before.post;
      quiet = came.quiet ∙ before.quiet;
      done = done-more c.args.part.now c.args.field (g.E.Blocks.has c.args.edition.now c.args.field) (g.E.Blocks.stored c.args.edition.now) c.args.looked.now.found c.loop-i.i
          (g.R.Reader.reads c.args.reader.now) (g.R.Reader.reads c.loop-i.reader) (g.R.Reader.reads c.copy_key.new.reader) c.args.loading.now c.loop-i.loading c.copy_key.new.loading
          c.loop-i.report c.in_ok-report.report c.args.out.now c.loop-i.out c.copy_key.new.out before.done came.came;
    }

pub returns-in_err-report-clause-few_reads : goal.returns-in_err-report-clause-few_reads
returns-in_err-report-clause-few_reads g c =
    let start = g.R.Reader.reads c.args.reader.now in
    let now = g.R.Reader.reads c.loop-i.reader in
    let after = g.R.Reader.reads c.copy_key.new.reader in
    on_err c.from_residual.result (ReadsAtMost start after (length c.args.part.now.keys))
    (reads_till c.args.part.now c.args.field (g.E.Blocks.has c.args.edition.now c.args.field) (g.E.Blocks.stored c.args.edition.now) c.args.looked.now.found c.loop-i.i
    start now after c.args.loading.now c.loop-i.loading c.loop-i.report c.args.out.now c.loop-i.out c.loop-i.invariant.done (search rules) c.in_err-report.ensures.few_reads)
