use Rattle.std.proofs.Common.{◌≡◌, [], ◌∷◌, ◌++◌, codes, ap, ◌∙◌, subst}
use Rattle.idx_text.specs.Entries.{entry_text}
use Rattle.idx_header.specs.declared.key.Key.TheVariants as keys
use Rattle.idx_header.specs.Written.{entry}
use Rattle.idx_words.specs.ConvertValue.{ConvertValue}
use Rattle.idx_words.specs.Built.{built_with}
use Rattle.idx_words.proofs.BuiltLemmas.{built_keys}
use Rattle.idx_words.proofs.convert_words.ConvertWords.header_text.Goals as goal

pub returns : goal.returns
returns c =
    let kept = c.self.inside in
    let words : ConvertValue = record {
      extent = kept.extent.now;
      fields = kept.fields.now;
      mask = kept.mask.now;
      bits = kept.bits.now;
      per_file = kept.per_file.now;
      template = kept.template.now;
      time = kept.time.now;
      step = kept.step;
      ranks = kept.ranks;
      layout = kept.layout;
    } in
    let text = c.write_entry-8.new.out in
    let written : text ≡ built_with words c.in_ok-bits.bits =
    built_keys words c.in_ok-bits.bits c.write_entry.new.out c.write_entry-2.new.out c.write_entry-3.new.out c.write_entry-4.new.out
    c.write_entry-5.new.out c.write_entry-6.new.out c.write_entry-7.new.out text
    (c.in_ok-write_entry.ensures ∙ ap (λ before. before ++ entry_text (entry keys.Version (codes "6" ∷ []))) c.new-text.ensures)
    c.in_ok-write_entry-2.ensures
    c.in_ok-write_entry-3.ensures
    (c.in_ok-write_entry-4.ensures ∙ ap (λ line. c.write_entry-3.new.out ++ entry_text (entry keys.Bits (line ∷ []))) c.as_slice.ensures)
    c.in_ok-write_entry-5.ensures
    c.in_ok-write_entry-6.ensures
    c.in_ok-write_entry-7.ensures
    c.in_ok-write_entry-8.ensures in
    record {
      bits = c.in_ok-bits.bits;
      are = c.in_ok-bits.ensures;
      with_bits = subst (λ (w : ConvertValue). text ≡ built_with w c.in_ok-bits.bits) c.self.view_is written;
    }
