-- How nodes hang together: the parts of a node, the variables that it binds around them, and their tail places.
use Rattle.std.specs.Prelude.{ℕ, Bool, true, false, List, [], ◌∷◌, ◌++◌, map}
use Rattle.std.specs.List.{flat_map}
use Rattle.t_base.specs.declared.basics.Var.{Var}
use Rattle.t_core.specs.declared.forms.Core.{Core}
use Rattle.t_core.specs.declared.forms.Core.TheVariants as Node

-- a part: its place, the variables that are bound around it, and whether it stands in a tail place
pub record Part : Type 0 where
  pub at : ℕ
  pub binds : List Var
  pub tail : Bool

abbrev pub part : ℕ → List Var → Bool → Part
part k vars last = record { at = k; binds = vars; tail = last }

-- a part that is evaluated before the rest of its node
abbrev pub early : ℕ → Part
early k = part k [] false

abbrev pub block_parts : List ℕ → Bool → List Part
block_parts [] tail = []
block_parts (k ∷ []) tail = part k [] tail ∷ []
block_parts (k ∷ next ∷ rest) tail = early k ∷ block_parts (next ∷ rest) tail

-- the parts of a node, which stands in a tail place or not
abbrev pub parts_of : Core → Bool → List Part
parts_of (Node.Const c) tail = []
parts_of (Node.Local v) tail = []
parts_of (Node.Global g) tail = []
parts_of (Node.Builtin p) tail = []
parts_of (Node.Op o) tail = []
parts_of (Node.Lambda params body) tail = part body params true ∷ []
parts_of (Node.If test a b) tail = early test ∷ part a [] tail ∷ part b [] tail ∷ []
parts_of (Node.Block items) tail = block_parts items tail
parts_of (Node.Let vars values body) tail = map early values ++ part body vars tail ∷ []
parts_of (Node.Labels vars lambdas body) tail = map (λ k. part k vars false) lambdas ++ part body vars tail ∷ []
parts_of (Node.SetLocal v value) tail = early value ∷ []
parts_of (Node.SetGlobal g value) tail = early value ∷ []
parts_of (Node.Catch v body) tail = part body (v ∷ []) false ∷ []
parts_of (Node.Object proc methods) tail = early proc ∷ map (λ m. part m.body m.params true) methods
parts_of (Node.Call operator operands last) tail = early operator ∷ map early operands
parts_of (Node.Prim p operands) tail = map early operands

-- the places of the parts
abbrev pub places_of : Core → List ℕ
places_of node = map (λ p. p.at) (parts_of node false)

-- the variables that a node binds
abbrev pub binders_of : Core → List Var
binders_of (Node.Lambda params body) = params
binders_of (Node.Let vars values body) = vars
binders_of (Node.Labels vars lambdas body) = vars
binders_of (Node.Catch v body) = v ∷ []
binders_of (Node.Object proc methods) = flat_map (λ m. m.params) methods
binders_of _ = []

abbrev pub is_lambda : Core → Bool
is_lambda (Node.Lambda params body) = true
is_lambda _ = false

-- a LAMBDA with a parameter at least, which stands for the object itself
abbrev pub has_self : Core → Bool
has_self (Node.Lambda (self ∷ params) body) = true
has_self _ = false
