-- A factor is at most 1,023 · 1,023.
use lib.Dec.{lit<}
use Rattle.whole.proofs.Calc.{fits, again}
use Rattle.simplex.proofs.Machine.{term_is}
use Rattle.simplex.proofs.term.Goals as goal

pub overflow_mul-result-2 : goal.overflow_mul-result-2
overflow_mul-result-2 g c = fits (term_is c.args.k c.args.f.now c.args.i c.args.j c.requires.0 c.requires.1).all (lit< tt)

pub returns : goal.returns
returns g c = (again (term_is c.args.k c.args.f.now c.args.i c.args.j c.requires.0 c.requires.1).all (lit< tt)).eq
