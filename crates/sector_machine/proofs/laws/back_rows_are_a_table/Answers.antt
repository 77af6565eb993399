-- The back rows of a state are one table.
use Rattle.sector_machine.proofs.Tables.{table_is_there, one_table}
use Rattle.sector_machine.proofs.laws.back_rows_are_a_table.Goals as goal

pub returns-clause-there : goal.returns-clause-there
returns-clause-there c = table_is_there

pub returns-clause-only : goal.returns-clause-only
returns-clause-only c p order equations state table other holds is also = one_table p order equations state holds table other is also
