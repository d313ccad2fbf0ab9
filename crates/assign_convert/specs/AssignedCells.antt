-- Assigned variables become cells: what stands in place of each term.
use Rattle.std.specs.Prelude.{◌≡◌, ℕ, Bool, if◌then◌else◌, map}
use Rattle.cps_ir.specs.declared.args.Arg.{Arg}
use Rattle.cps_ir.specs.declared.args.Arg.TheVariants as Argument
use Rattle.cps_ir.specs.declared.terms.Cont.{Cont}
use Rattle.cps_ir.specs.declared.terms.Cont.TheVariants as Continuation
use Rattle.cps_ir.specs.declared.terms.Term.{Term}
use Rattle.cps_ir.specs.declared.terms.Term.TheVariants as Node
use Rattle.cps_ir.specs.declared.terms.Cps.{Cps}
use Rattle.cps_ir.specs.Parts.{is_assigned}

-- a read of an assigned variable reads its cell
abbrev pub read : (ℕ → Bool) → Cont → Arg → Term
read assigned k (Argument.Const c) = Node.Give k (Argument.Const c)
read assigned k (Argument.Var x) = if assigned x.0 then Node.CellGet x k else Node.Give k (Argument.Var x)
read assigned k (Argument.Proc l) = Node.Give k (Argument.Proc l)
read assigned k (Argument.Global g) = Node.Give k (Argument.Global g)
read assigned k (Argument.Builtin b) = Node.Give k (Argument.Builtin b)
read assigned k (Argument.Op o) = Node.Give k (Argument.Op o)

-- an assigned variable that is bound is a new cell
abbrev pub given : (ℕ → Bool) → Cont → Arg → Term
given assigned (Continuation.Var k) value = read assigned (Continuation.Var k) value
given assigned (Continuation.Lam param body) value = if assigned param.0 then Node.Cell param value body else read assigned (Continuation.Lam param body) value

-- and its assignments write its cell; every other term stays
abbrev pub celled : (ℕ → Bool) → Term → Term
celled assigned (Node.Give k value) = given assigned k value
celled assigned (Node.Set x value k) = Node.CellSet x value k
celled assigned (Node.Call f args k) = Node.Call f args k
celled assigned (Node.Prim b args k) = Node.Prim b args k
celled assigned (Node.If test a b) = Node.If test a b
celled assigned (Node.Labels vars lams body) = Node.Labels vars lams body
celled assigned (Node.Join k param body rest) = Node.Join k param body rest
celled assigned (Node.Cell x value rest) = Node.Cell x value rest
celled assigned (Node.CellGet x k) = Node.CellGet x k
celled assigned (Node.CellSet x value k) = Node.CellSet x value k
celled assigned (Node.GlobalGet g k) = Node.GlobalGet g k
celled assigned (Node.GlobalInit g value k) = Node.GlobalInit g value k
celled assigned (Node.GlobalSet g value k) = Node.GlobalSet g value k
celled assigned (Node.Catch escape body k) = Node.Catch escape body k
celled assigned (Node.Uncatch k value) = Node.Uncatch k value
celled assigned (Node.Object proc ops methods k) = Node.Object proc ops methods k
celled assigned (Node.Halt value) = Node.Halt value

-- b is a with its assigned variables as cells: each term stays at its place, and all else is the same
pub record AreCells (a b : Cps) : Type 0 where
  pub shared : b.shared ≡ a.shared
  pub lams : b.lams ≡ a.lams
  pub entry : b.entry ≡ a.entry
  pub terms : b.terms.items ≡ map (celled (is_assigned a)) a.terms.items
