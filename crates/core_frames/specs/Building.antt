-- Nodes from the nodes of their parts.
use Rattle.std.specs.Prelude.{◌≡◌, Bool, List, map}
use Rattle.t_base.specs.declared.basics.Var.{Var}
use Rattle.t_core.specs.declared.forms.Core.{Core}
use Rattle.t_core.specs.declared.forms.Core.TheVariants as Node
use Rattle.t_core.specs.Nodes.{Part, part, parts_of}
use Rattle.t_rows.specs.declared.rows.Shape.{Shape}
use Rattle.t_rows.specs.declared.rows.Shape.TheVariants as shape
use Rattle.expansion.specs.Lists.{numbered}
use Rattle.core_frames.specs.declared.build.Done.{Done}
use Rattle.core_frames.specs.declared.build.Fresh.{Fresh}

abbrev pub variables_of : Fresh → List Var
variables_of f = numbered f.first f.count

abbrev pub part_of : Done → Part
part_of d = part d.at (variables_of d.vars) d.tail

-- the node has the shape
abbrev pub IsNode : Shape → Bool → Core → Type 0
IsNode (shape.Local v) tail (Node.Local w) = v ≡ w
IsNode (shape.Global g) tail (Node.Global h) = g ≡ h
IsNode (shape.BuiltinValue p) tail (Node.Builtin q) = p ≡ q
IsNode (shape.OpValue o) tail (Node.Op p) = o ≡ p
IsNode shape.Lambda tail (Node.Lambda params body) = Unit {0}
IsNode shape.If tail (Node.If test a b) = Unit {0}
IsNode shape.Block tail (Node.Block items) = Unit {0}
IsNode shape.Let tail (Node.Let vars values body) = Unit {0}
IsNode shape.Labels tail (Node.Labels vars lambdas body) = Unit {0}
IsNode (shape.SetLocal v) tail (Node.SetLocal w value) = v ≡ w
IsNode (shape.SetGlobal g) tail (Node.SetGlobal h value) = g ≡ h
IsNode shape.Catch tail (Node.Catch v body) = Unit {0}
IsNode (shape.Object ops) tail (Node.Object proc methods) = map (λ m. m.op) methods ≡ ops
IsNode shape.Call tail (Node.Call operator operands last) = last ≡ tail
IsNode (shape.Primitive p) tail (Node.Prim q operands) = p ≡ q
IsNode _ _ _ = ⊥

-- the node has the shape, and these parts
pub record IsBuilt (s : Shape) (tail : Bool) (done : List Done) (node : Core) : Type 0 where
  pub shaped : IsNode s tail node
  pub parts : parts_of node tail ≡ map part_of done
