use mathlib.Core.Path.{refl}
use native.Mathlib.Omega.{arith}
use Rattle.writing.proofs.Writing.{text-fits}
use Rattle.writing.proofs.text.Goals as goal

pub returns-clause-length : goal.returns-clause-length
returns-clause-length c = (refl, omega (arith, text-fits c.args.table.now c.args.bytes.now c.write.new.bytes c.in_ok-write.ensures, c.write.auto.bytes))
