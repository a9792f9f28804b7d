-- What the code's structs stand for, over any number of corners.
use Rattle.std.specs.Prelude.{List, map, ℕ}
use Rattle.paper.specs.Corners as flat
use Rattle.paper.specs.Tetrahedron as deep
use Rattle.paper.specs.declared.Node.{Node}
use Rattle.simplex.specs.declared.Shape.{Shape}
use Rattle.simplex.specs.declared.Space.{Space}

abbrev pub numbers : List Node → List ℕ
numbers c = map (λ (n : Node). n.0) c

abbrev pub as_shape : {n : ℕ} → Shape n → flat.Shape
as_shape s = record { corners = numbers s.corners; xs = s.x; ys = s.y }

abbrev pub as_space : {n : ℕ} → Space n → deep.Space
as_space s = record { shape = as_shape s.shape; zs = s.z }
