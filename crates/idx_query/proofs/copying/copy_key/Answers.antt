use Rattle.std.proofs.Common.{rules, refl, ◌≡◌, inl, inr, Some, None, slice_get, ap, ◌∙◌}
use Rattle.idx_query.proofs.CopyLemmas.{key_at, key-stands}
use Rattle.idx_query.proofs.DoneLemmas.{fetched_came, found_bytes}
use Rattle.idx_query.proofs.copying.copy_key.Goals as goal

pub copy-requires-clause-block : goal.copy-requires-clause-block
copy-requires-clause-block g c =
    let keys = c.args.part.now.keys in
    let bytes = c.as_slice.result.now in
    let found : slice_get c.args.looked.now.found c.args.i ≡ Some (Some bytes) = found_bytes _ _ _ _ c.in-Some.ensures c.deref.ensures c.as_slice.ensures in
    (c.requires.found c.args.i (key_at keys c.args.i) bytes (key-stands keys c.args.i c.requires.key) found).many ∙ c.requires.block

pub returns-in-Some-clause-came : goal.returns-in-Some-clause-came
returns-in-Some-clause-came g c =
    let keys = c.args.part.now.keys in
    let at = key-stands keys c.args.i c.requires.key in
    let bytes = c.as_slice.result.now in
    let found : slice_get c.args.looked.now.found c.args.i ≡ Some (Some bytes) = found_bytes _ _ _ _ c.in-Some.ensures c.deref.ensures c.as_slice.ensures in
    record {
      key = key_at keys c.args.i;
      at = at;
      bytes = bytes;
      block = c.requires.found c.args.i (key_at keys c.args.i) bytes at found;
      scattered = c.copy.ensures (key_at keys c.args.i) at;
      came = inl (found, refl, c.with_hit.ensures, refl);
    }

pub returns-clause-came : goal.returns-clause-came
returns-clause-came g c =
    let keys = c.args.part.now.keys in
    let key = key_at keys c.args.i in
    let at = key-stands keys c.args.i c.requires.key in
    let came = c.in_ok-fetched.ensures in
    let loaded = came.loaded key at in
    let none : slice_get c.args.looked.now.found c.args.i ≡ Some None = search (rules, c.found.ensures, c.in_default.is) in
    record {
      key = key;
      at = at;
      bytes = loaded.0;
      block = loaded.1;
      scattered = loaded.3;
      came = inr (
        none,
        loaded.2,
        fetched_came (g.E.Blocks.has c.args.edition.now c.args.field key.block) (g.R.Reader.reads c.args.reader.now) (g.R.Reader.reads c.load_block.new.reader)
            c.args.report c.with.result c.in_ok-fetched.fetched (came.absent key at) (λ e. ap g.R.Reader.reads (came.no_read e)) came.one_read c.with.ensures.read c.with.ensures.absent,
      );
    }
