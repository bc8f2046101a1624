use Rattle.std.proofs.Common.{◌≡◌, map, string_bytes, ℕ, List, ap, ◌∙◌, subst, Option, None}
use Rattle.std.specs.List.{slice_index_or}
use Rattle.idx_outside.specs.Objects.{contents_at}
use Rattle.idx_outside.specs.declared.mem_file.MemFile.{MemFile}
use Rattle.idx_commands.specs.Run.{WroteAnswer}
use Rattle.idx_test_commands.proofs.laws.ask_twice.Goals as goal

pub returns-clause-header : goal.returns-clause-header
returns-clause-header g c = (c.run-after.ensures.rest.unchanged c.requires.asks c.requires.only).header ∙ (c.run-before.ensures.rest.unchanged c.requires.asks c.requires.only).header

pub returns-clause-files : goal.returns-clause-files
returns-clause-files g c = (c.run-after.ensures.rest.unchanged c.requires.asks c.requires.only).files ∙ (c.run-before.ensures.rest.unchanged c.requires.asks c.requires.only).files

pub returns-clause-changes : goal.returns-clause-changes
returns-clause-changes g c =
    (c.run-after.ensures.rest.unchanged c.requires.asks c.requires.only).changes ∙ (c.run-before.ensures.rest.unchanged c.requires.asks c.requires.only).changes

pub returns-clause-second : goal.returns-clause-second
returns-clause-second g c = λ ends.
    let words : List (List ℕ) = map string_bytes c.args.words.now in
    let raw : contents_at g.V.Source.contents c.run-before.new.raws.items 0 ≡ contents_at g.V.Source.contents c.args.raws.now.items 0 =
    ap (λ (all : List (Option (List ℕ))). slice_index_or all 0 None) c.run-before.ensures.rest.raws in
    subst (λ (bytes : Option (List ℕ)). WroteAnswer words bytes (g.B.Bay.header c.args.bay.now) (g.B.Bay.files c.args.bay.now) (g.K.Sink.contents c.args.second.now) (g.K.Sink.contents c.run-after.new.out)) raw
    (subst (λ (text : Option (List ℕ)). WroteAnswer words (contents_at g.V.Source.contents c.run-before.new.raws.items 0) text (g.B.Bay.files c.args.bay.now) (g.K.Sink.contents c.args.second.now) (g.K.Sink.contents c.run-after.new.out))
    ((c.run-before.ensures.rest.unchanged c.requires.asks c.requires.only).header)
    (subst (λ (files : Option (List MemFile)). WroteAnswer words (contents_at g.V.Source.contents c.run-before.new.raws.items 0) (g.B.Bay.header c.run-before.new.bay) files (g.K.Sink.contents c.args.second.now) (g.K.Sink.contents c.run-after.new.out))
    ((c.run-before.ensures.rest.unchanged c.requires.asks c.requires.only).files) (c.run-after.ensures.done ends)))
