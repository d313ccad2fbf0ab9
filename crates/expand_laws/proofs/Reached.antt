-- What is known of the forms that the table reaches from a form of a text.
use Rattle.std.specs.Prelude.{◌≡◌, ◌⊎◌, ℕ, ◌<◌, Bool, true, pos, List, [], ◌∷◌, ◌++◌, map, length, Contains}
use Rattle.std.specs.List.{AllByRecursion}
use Rattle.t_prim.specs.Table.{arity_of}
use Rattle.t_reader.specs.Grammar.{Value, fix, nil, truth}
use Rattle.t_forms.specs.Data.{given, operation, Datum, atom, cons, Name}
use Rattle.t_forms.specs.Names.{Scope, Bound, within, a_global, an_op}
use Rattle.t_rows.specs.declared.refusal.Refusal.{Refusal}
use Rattle.t_rows.specs.Rows.{stands_for, node, Shape, constant, local, global, builtin_value, op_value, lambda, if_, block, let_, labels, set_local, set_global, catch_, object, call, primitive, nothing, Part, plain, inside, row}

-- ---- data

-- every atom is one of the text, and its value is right
abbrev pub IsPure : (Value → Type 0) → Datum → Type 0
IsPure right (atom s (given v)) = right v
IsPure right (atom s _) = ⊥
IsPure right (cons s head tail) = IsPure right head × IsPure right tail

-- the operations that rows make are the builtin ones
abbrev pub HasBuiltinOps : Datum → Type 0
HasBuiltinOps (atom s (operation o)) = o < 3
HasBuiltinOps (atom s _) = Unit {0}
HasBuiltinOps (cons s head tail) = HasBuiltinOps head × HasBuiltinOps tail

-- what a row makes a constant of without looking into the text
pub record HasMadeValues (right : Value → Type 0) : Type 0 where
  pub nil_right : right nil
  pub truth_right : right truth
  pub zero_right : right (fix (pos 0))
  pub one_right : right (fix (pos 1))

-- a constant is pure
abbrev pub IsRightShape : (Value → Type 0) → Shape → Type 0
IsRightShape right (constant d) = IsPure right d
IsRightShape right _ = Unit {0}

-- The table ends on the form; its constants are pure, and the operations in it are the builtin ones.
mutual
  pub data Comes (right : Value → Type 0) : Scope → Datum → Type 0 where
    to_form : (scope : Scope) (d e : Datum) → row scope d ≡ stands_for e → Comes right scope e → Comes right scope d
    to_node : (scope : Scope) (d : Datum) (shape : Shape) (refusals : List Refusal) (parts : List Part) → row scope d ≡ node shape refusals parts
        → HasBuiltinOps d → IsRightShape right shape → AllCome right scope parts → Comes right scope d

  pub data AllCome (right : Value → Type 0) : Scope → List Part → Type 0 where
    no_parts : (scope : Scope) → AllCome right scope []
    one_part : (scope : Scope) (p : Part) (ps : List Part) → Comes right (within scope p.binds) p.form → AllCome right scope ps
        → AllCome right scope (p ∷ ps)

-- ---- what holds of the node of a row where nothing is refused at the form

-- the global is one of those that the unit defines
pub record IsDefinedGlobal (defined : List Bound) (g : ℕ) (assigned : Bool) : Type 0 where
  pub bound : Bound
  pub there : Contains defined bound
  pub means : bound.means ≡ a_global g assigned

pub record IsUnitOp (defined : List Bound) (o : ℕ) : Type 0 where
  pub bound : Bound
  pub there : Contains defined bound
  pub means : bound.means ≡ an_op o

-- the operation is a builtin one, or one of those that the unit defines
abbrev pub IsKnownOp : List Bound → ℕ → Type 0
IsKnownOp defined o = (o < 3) ⊎ IsUnitOp defined o

-- whatever its scope, the form stands for a LAMBDA where nothing is refused at it
pub record IsLambdaForm (d : Datum) : Type 0 where
  pub no_form : (scope : Scope) (e : Datum) → row scope d ≡ stands_for e → ⊥
  pub no_other : (scope : Scope) (shape : Shape) (parts : List Part) → row scope d ≡ node shape [] parts → shape ≡ lambda

-- a part with a name at least around it
abbrev pub HasNames : Part → Type 0
HasNames p = (n : Name) × (ns : List Name) × (p.binds ≡ n ∷ ns)

-- a part in the scope of so many names, whose form is a LAMBDA
abbrev pub IsProcedurePart : ℕ → Part → Type 0
IsProcedurePart count p = (length p.binds ≡ count) × IsLambdaForm p.form

-- the parts of a shape, and what it names
abbrev pub IsShaped : Scope → Shape → List Part → Type 0
IsShaped scope (constant d) parts = parts ≡ []
IsShaped scope (local i) parts = (parts ≡ []) × (i < length scope.locals)
IsShaped scope (global g) parts = (parts ≡ []) × (assigned : Bool) × IsDefinedGlobal scope.defined g assigned
IsShaped scope (builtin_value p) parts = parts ≡ []
IsShaped scope (op_value o) parts = (parts ≡ []) × IsKnownOp scope.defined o
IsShaped scope lambda parts = (ns : List Name) × (d : Datum) × (parts ≡ inside ns d ∷ [])
IsShaped scope if_ parts = (a : Datum) × (b : Datum) × (c : Datum) × (parts ≡ plain a ∷ plain b ∷ plain c ∷ [])
IsShaped scope block parts = (d : Datum) × (ds : List Datum) × (parts ≡ map plain (d ∷ ds))
IsShaped scope let_ parts = (ds : List Datum) × (ns : List Name) × (d : Datum) × (length ns ≡ length ds) × (parts ≡ map plain ds ++ inside ns d ∷ [])
IsShaped scope labels parts =
    (ps : List Part) × (body : Part) × (parts ≡ ps ++ body ∷ []) × (length body.binds ≡ length ps) × AllByRecursion (IsProcedurePart (length ps)) ps
IsShaped scope (set_local i) parts = (i < length scope.locals) × (d : Datum) × (parts ≡ plain d ∷ [])
IsShaped scope (set_global g) parts = IsDefinedGlobal scope.defined g true × (d : Datum) × (parts ≡ plain d ∷ [])
IsShaped scope catch_ parts = (n : Name) × (d : Datum) × (parts ≡ inside (n ∷ []) d ∷ [])
IsShaped scope (object ops) parts =
    (d : Datum) × (ps : List Part) × (parts ≡ plain d ∷ ps) × (length ops ≡ length ps) × AllByRecursion HasNames ps × AllByRecursion (IsKnownOp scope.defined) ops
IsShaped scope call parts = (d : Datum) × (ds : List Datum) × (parts ≡ plain d ∷ map plain ds)
IsShaped scope (primitive p) parts = (ds : List Datum) × (length ds ≡ arity_of p) × (parts ≡ map plain ds)
IsShaped scope nothing parts = ⊥
