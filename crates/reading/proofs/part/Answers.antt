use mathlib.Core.Path.{sym, ◌∙◌}
use Rattle.laws.proofs.Reading.{table_kept}
use Rattle.reading.proofs.part.Goals as goal

pub returns-in_err-reads_of-clause-table : goal.returns-in_err-reads_of-clause-table
returns-in_err-reads_of-clause-table c = table_kept c.args.bytes.now c.args.table.now _ (sym c.reads_of.ensures ∙ c.in_err-reads_of.was)
