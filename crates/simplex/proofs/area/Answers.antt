-- Four sides of the grid.
use lib.Dec.{lit<}
use Rattle.whole.proofs.Calc.{fits, times, again}
use Rattle.simplex.proofs.Machine.{edge-is, areas}
use Rattle.simplex.proofs.area.Goals as goal

pub overflow_mul-result : goal.overflow_mul-result
overflow_mul-result g c =
    let r = c.requires in
    fits
    (times
    (edge-is g.row.N c.args.f.now c.args.p c.args.q r.0 r.2 r.3 c.apart.type_inv c.apart.ensures)
    (edge-is g.row.N c.args.g.now c.args.p c.args.r r.1 r.2 r.4 c.apart-2.type_inv c.apart-2.ensures))
    (lit< tt)

pub overflow_mul-result-2 : goal.overflow_mul-result-2
overflow_mul-result-2 g c =
    let r = c.requires in
    fits (areas g.row.N c.args.f.now c.args.g.now c.args.p c.args.q c.args.r r.0 r.1 r.2 r.3 r.4 c.apart.type_inv c.apart.ensures c.apart-2.type_inv c.apart-2.ensures c.apart-3.type_inv c.apart-3.ensures c.apart-4.type_inv c.apart-4.ensures).other (lit< tt)

pub overflow_sub-result : goal.overflow_sub-result
overflow_sub-result g c =
    let r = c.requires in
    fits (areas g.row.N c.args.f.now c.args.g.now c.args.p c.args.q c.args.r r.0 r.1 r.2 r.3 r.4 c.apart.type_inv c.apart.ensures c.apart-2.type_inv c.apart-2.ensures c.apart-3.type_inv c.apart-3.ensures c.apart-4.type_inv c.apart-4.ensures).both (lit< tt)

pub returns : goal.returns
returns g c =
    let r = c.requires in
    (again (areas g.row.N c.args.f.now c.args.g.now c.args.p c.args.q c.args.r r.0 r.1 r.2 r.3 r.4 c.apart.type_inv c.apart.ensures c.apart-2.type_inv c.apart-2.ensures c.apart-3.type_inv c.apart-3.ensures c.apart-4.type_inv c.apart-4.ensures).both (lit< tt)).eq
