use Rattle.idx_edition.proofs.load.open_file.Goals as goal

pub returns-clause-table : goal.returns-clause-table
returns-clause-table g c = c.in_ok-rows.ensures.table

pub returns-clause-ends : goal.returns-clause-ends
returns-clause-ends g c = c.in_ok-rows.ensures.ends

pub returns-clause-one_read : goal.returns-clause-one_read
returns-clause-one_read g c = c.in_ok-rows.ensures.one_read

pub returns-clause-asked : goal.returns-clause-asked
returns-clause-asked g c = c.in_ok-rows.ensures.asked

pub returns-clause-reader_quiet : goal.returns-clause-reader_quiet
returns-clause-reader_quiet g c = c.in_ok-rows.ensures.quiet

pub returns-clause-reader_count : goal.returns-clause-reader_count
returns-clause-reader_count g c = c.in_ok-rows.ensures.count
