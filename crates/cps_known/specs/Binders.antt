-- The variables that a term binds, but for its LAMBDAs and each k.
use Rattle.std.specs.Prelude.{ℕ, ◌<◌, List, [], ◌∷◌, map, All, Some}
use Rattle.cps_ir.specs.declared.terms.Term.{Term}
use Rattle.cps_ir.specs.declared.terms.Term.TheVariants as Node
use Rattle.cps_ir.specs.Loads.{cont_param}

abbrev pub value_binders : Term → List ℕ
value_binders (Node.Call f args k) = cont_param (Some k)
value_binders (Node.Prim p args k) = cont_param (Some k)
value_binders (Node.If test a b) = []
value_binders (Node.Labels vars lams body) = map (λ x. x.0) vars
value_binders (Node.Join k param body rest) = param.0 ∷ []
value_binders (Node.Give k value) = cont_param (Some k)
value_binders (Node.Set x value k) = cont_param (Some k)
value_binders (Node.Cell x value rest) = x.0 ∷ []
value_binders (Node.CellGet x k) = cont_param (Some k)
value_binders (Node.CellSet x value k) = cont_param (Some k)
value_binders (Node.GlobalGet g k) = cont_param (Some k)
value_binders (Node.GlobalInit g value k) = cont_param (Some k)
value_binders (Node.GlobalSet g value k) = cont_param (Some k)
value_binders (Node.Catch escape body k) = escape.0 ∷ cont_param (Some k)
value_binders (Node.Uncatch k value) = cont_param (Some k)
value_binders (Node.Object proc ops methods k) = cont_param (Some k)
value_binders (Node.Halt value) = []

-- each of these variables is below a count
abbrev pub AreBelow : ℕ → List ℕ → Type 0
AreBelow count xs = All (λ x. x < count) xs
