use Rattle.std.proofs.Common.{List, [], ◌∷◌, All}
use Rattle.std.proofs.lemmas.List.Elements.{All-head, All-tail}
use Rattle.idx_text.specs.Entries.{Entry, IsEntry}
use Rattle.idx_text.proofs.EntryLemmas.{AreEntries, written-sections, written-text}
use Rattle.idx_text.proofs.laws.entries_read_back.Goals as goal

are : (entries : List Entry) → All IsEntry entries → AreEntries entries
unfolding AreEntries
are [] h = tt
are (e ∷ entries) h = (All-head IsEntry e entries h, are entries (All-tail IsEntry e entries h))

pub returns-clause-sections : goal.returns-clause-sections
returns-clause-sections c = λ entries h. written-sections entries (are entries h)

pub returns-clause-text : goal.returns-clause-text
returns-clause-text c = λ entries h. written-text entries (are entries h)
