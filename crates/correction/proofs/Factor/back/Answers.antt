-- z of every row, then the rows from the last.
use Prim.Native.Nat.{ℕ}
use mathlib.Core.Path.{◌≡◌}
use mathlib.Core.List.{List}
use lib.IntN.{ℤ}
use lib.ListN.{length}
use Rattle.correction.specs.Rows.{zs_of}
use Rattle.starts.specs.Lent.{by}
use Rattle.correction.specs.Asks.{Sound, Back, Loose}
use Rattle.correction.proofs.FromLast.{zs-loose, backed}
use Rattle.correction.proofs.Factor.back.Goals as goal

asks : {st : List ℕ} {l ys xs : List ℤ} → Sound st l → Back ys (length st) (length st) → xs ≡ zs_of (by st l) l (length st) ys → Loose xs (length st) (length st)
asks q b e = rw e (zs-loose q b)

pub sweep-requires : goal.sweep-requires
sweep-requires c = asks c.args.self.sound c.requires c.zs.ensures

pub returns : goal.returns
returns c = backed c.args.self.sound c.requires c.zs.ensures c.sweep.ensures
