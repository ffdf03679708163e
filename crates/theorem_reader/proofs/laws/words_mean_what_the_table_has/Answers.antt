use Rattle.theorem_reader.proofs.ByTable.{read_by_table, sized_by_table}
use Rattle.theorem_reader.proofs.laws.words_mean_what_the_table_has.Goals as goal

pub returns : goal.returns
returns c = record { read = read_by_table; sized = sized_by_table }
