use Rattle.whole.proofs.First.{Looking}
use Rattle.paper.specs.Cards.{row_at}
use Rattle.paper_records.specs.Records.{is_made}
use Rattle.import.proofs.none_made.Given as goal

abbrev pub invariant-loop-i : goal.invariant-loop-i
invariant-loop-i l = Looking (λ row. is_made (row_at l.t row)) l.rows l.i
