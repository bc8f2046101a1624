use Rattle.std.proofs.Common.{◌≡◌, [], ◌∷◌, ◌++◌, List, ℕ, map, codes, ap, ◌∙◌, subst}
use Rattle.std.specs.Fmt.{decimal}
use Rattle.idx_text.specs.Entries.{entries_text, entry_text}
use Rattle.idx_header.specs.declared.key.Key.{Key}
use Rattle.idx_header.specs.declared.key.Key.TheVariants as keys
use Rattle.idx_header.specs.declared.unknown.Unknown.{Unknown}
use Rattle.idx_header.specs.Header.{HeaderValue}
use Rattle.idx_header.specs.Written.{entry, text_of, unknown_entry}
use Rattle.idx_header.proofs.WriteLemmas.{all_keys}
use Rattle.idx_header.proofs.write.header_text.Goals as goal

-- what is before, and behind it a known key with this line
behind : List ℕ → Key → List ℕ → List ℕ
behind before key line = before ++ entry_text (entry key (line ∷ []))

pub returns : goal.returns
unfolding behind
returns c =
    let kept = c.header.inside in
    let header : HeaderValue = record {
      box = kept.region;
      mask = kept.mask;
      fields = kept.fields;
      block_bits = kept.block_bits;
      blocks_per_file = kept.blocks_per_file;
      template = kept.template;
      steps = kept.steps;
      unknown = kept.unknown.items;
      revision = kept.revision;
    } in
    let text = c.write_unknowns.new.out in
    let written : text ≡ text_of header =
    all_keys header c.write_entry.new.out c.write_box.new.out c.write_fields.new.out c.write_bits.new.out c.write_count.new.out
    c.write_count-2.new.out c.write_template.new.out c.write_time.new.out text
    (c.in_ok-write_entry.ensures ∙ ap (λ before. behind before keys.Version (codes "6")) c.new-text.ensures)
    c.in_ok-write_box.ensures
    c.in_ok-write_fields.ensures
    c.in_ok-write_bits.ensures
    (c.in_ok-write_count.ensures ∙ ap (λ number. behind c.write_bits.new.out keys.BitsPerBlock (decimal number)) c.from.ensures)
    c.in_ok-write_count-2.ensures
    c.in_ok-write_template.ensures
    c.in_ok-write_time.ensures
    (c.in_ok-write_unknowns.ensures
    ∙ ap (λ (unknown : List Unknown). c.write_time.new.out ++ entries_text (map unknown_entry unknown)) c.deref.ensures.value) in
    subst (λ (h : HeaderValue). text ≡ text_of h) c.header.view_is written
