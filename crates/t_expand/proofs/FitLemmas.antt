-- A node fits the shape of its row.
use Rattle.std.proofs.Common.{◌≡◌, ℕ, Bool, List, slice_get, Some, ap, subst, ◌∙◌}
use Rattle.t_base.specs.declared.basics.Var.{Var}
use Rattle.t_base.specs.declared.builtins.Builtin.{Builtin}
use Rattle.t_base.specs.declared.shared_parts.Const.{Const}
use Rattle.t_base.specs.declared.shared_parts.Shared.{Shared}
use Rattle.t_core.specs.declared.forms.Core.{Core}
use Rattle.t_core.specs.declared.forms.Core.TheVariants as Node
use Rattle.t_forms.specs.declared.arena.Cell.{Cell}
use Rattle.t_forms.specs.Data.{Datum}
use Rattle.t_forms.specs.Held.{Held}
use Rattle.t_rows.specs.declared.rows.Shape.{Shape as CodeShape}
use Rattle.t_rows.specs.declared.rows.Shape.TheVariants as code
use Rattle.t_rows.specs.Rows.{Shape, constant, local, global, builtin_value, op_value, lambda, if_, block, let_, labels, set_local, set_global, catch_, object, call, primitive, nothing}
use Rattle.t_rows.specs.Given.{IsShape}
use Rattle.expansion.specs.Meaning.{Fits, IsQuoted}
use Rattle.core_frames.specs.Building.{IsNode}

fits_local : (shared : Shared) (vars : List Var) (tail : Bool) (i : ℕ) (v : Var) (c : Core) → slice_get vars i ≡ Some v → IsNode (code.Local v) tail c → Fits shared vars tail (local i) c
fits_local shared vars tail i v (Node.Local w) e h = e ∙ ap Some h
fits_local shared vars tail i v _ e h = h

fits_set_local : (shared : Shared) (vars : List Var) (tail : Bool) (i : ℕ) (v : Var) (c : Core) → slice_get vars i ≡ Some v → IsNode (code.SetLocal v) tail c → Fits shared vars tail (set_local i) c
fits_set_local shared vars tail i v (Node.SetLocal w value) e h = e ∙ ap Some h
fits_set_local shared vars tail i v _ e h = h

fits_global : (shared : Shared) (vars : List Var) (tail : Bool) (x : ℕ) (c : Core) → IsNode (code.Global x) tail c → Fits shared vars tail (global x) c
fits_global shared vars tail x (Node.Global y) h = h
fits_global shared vars tail x _ h = h

fits_builtin_value : (shared : Shared) (vars : List Var) (tail : Bool) (x : Builtin) (c : Core) → IsNode (code.BuiltinValue x) tail c → Fits shared vars tail (builtin_value x) c
fits_builtin_value shared vars tail x (Node.Builtin y) h = h
fits_builtin_value shared vars tail x _ h = h

fits_op_value : (shared : Shared) (vars : List Var) (tail : Bool) (x : ℕ) (c : Core) → IsNode (code.OpValue x) tail c → Fits shared vars tail (op_value x) c
fits_op_value shared vars tail x (Node.Op y) h = h
fits_op_value shared vars tail x _ h = h

fits_lambda : (shared : Shared) (vars : List Var) (tail : Bool) (c : Core) → IsNode code.Lambda tail c → Fits shared vars tail lambda c
fits_lambda shared vars tail (Node.Lambda y z) h = h
fits_lambda shared vars tail _ h = h

fits_if : (shared : Shared) (vars : List Var) (tail : Bool) (c : Core) → IsNode code.If tail c → Fits shared vars tail if_ c
fits_if shared vars tail (Node.If y z w) h = h
fits_if shared vars tail _ h = h

fits_block : (shared : Shared) (vars : List Var) (tail : Bool) (c : Core) → IsNode code.Block tail c → Fits shared vars tail block c
fits_block shared vars tail (Node.Block y) h = h
fits_block shared vars tail _ h = h

fits_let : (shared : Shared) (vars : List Var) (tail : Bool) (c : Core) → IsNode code.Let tail c → Fits shared vars tail let_ c
fits_let shared vars tail (Node.Let y z w) h = h
fits_let shared vars tail _ h = h

fits_labels : (shared : Shared) (vars : List Var) (tail : Bool) (c : Core) → IsNode code.Labels tail c → Fits shared vars tail labels c
fits_labels shared vars tail (Node.Labels y z w) h = h
fits_labels shared vars tail _ h = h

fits_set_global : (shared : Shared) (vars : List Var) (tail : Bool) (x : ℕ) (c : Core) → IsNode (code.SetGlobal x) tail c → Fits shared vars tail (set_global x) c
fits_set_global shared vars tail x (Node.SetGlobal y z) h = h
fits_set_global shared vars tail x _ h = h

fits_catch : (shared : Shared) (vars : List Var) (tail : Bool) (c : Core) → IsNode code.Catch tail c → Fits shared vars tail catch_ c
fits_catch shared vars tail (Node.Catch y z) h = h
fits_catch shared vars tail _ h = h

fits_object : (shared : Shared) (vars : List Var) (tail : Bool) (x : List ℕ) (c : Core) → IsNode (code.Object x) tail c → Fits shared vars tail (object x) c
fits_object shared vars tail x (Node.Object y z) h = h
fits_object shared vars tail x _ h = h

fits_call : (shared : Shared) (vars : List Var) (tail : Bool) (c : Core) → IsNode code.Call tail c → Fits shared vars tail call c
fits_call shared vars tail (Node.Call y z w) h = h
fits_call shared vars tail _ h = h

fits_primitive : (shared : Shared) (vars : List Var) (tail : Bool) (x : Builtin) (c : Core) → IsNode (code.Primitive x) tail c → Fits shared vars tail (primitive x) c
fits_primitive shared vars tail x (Node.Prim y z) h = h
fits_primitive shared vars tail x _ h = h

no_node : (tail : Bool) (c : Core) → IsNode code.Nothing tail c → ⊥
no_node tail (Node.Const y) h = h
no_node tail _ h = h

no_constant : (k : ℕ) (tail : Bool) (c : Core) → IsNode (code.Constant k) tail c → ⊥
no_constant k tail (Node.Const y) h = h
no_constant k tail _ h = h

pub fits_shape : (names : List (List ℕ)) (cells : List Cell) (shared : Shared) (vars : List Var) (tail : Bool) (s : CodeShape) (shape : Shape) (c : Core) → IsShape names cells vars s shape → IsNode s tail c
    → Fits shared vars tail shape c
fits_shape names cells shared vars tail s (constant d) c i h = absurd (no_constant i.0 tail c (subst (λ x. IsNode x tail c) i.1 h))
fits_shape names cells shared vars tail s (local k) c i h = fits_local shared vars tail k i.0 c i.2 (subst (λ x. IsNode x tail c) i.1 h)
fits_shape names cells shared vars tail s (set_local k) c i h = fits_set_local shared vars tail k i.0 c i.2 (subst (λ x. IsNode x tail c) i.1 h)
fits_shape names cells shared vars tail s (global x) c i h = fits_global shared vars tail x c (subst (λ y. IsNode y tail c) i h)
fits_shape names cells shared vars tail s (builtin_value x) c i h = fits_builtin_value shared vars tail x c (subst (λ y. IsNode y tail c) i h)
fits_shape names cells shared vars tail s (op_value x) c i h = fits_op_value shared vars tail x c (subst (λ y. IsNode y tail c) i h)
fits_shape names cells shared vars tail s lambda c i h = fits_lambda shared vars tail c (subst (λ y. IsNode y tail c) i h)
fits_shape names cells shared vars tail s if_ c i h = fits_if shared vars tail c (subst (λ y. IsNode y tail c) i h)
fits_shape names cells shared vars tail s block c i h = fits_block shared vars tail c (subst (λ y. IsNode y tail c) i h)
fits_shape names cells shared vars tail s let_ c i h = fits_let shared vars tail c (subst (λ y. IsNode y tail c) i h)
fits_shape names cells shared vars tail s labels c i h = fits_labels shared vars tail c (subst (λ y. IsNode y tail c) i h)
fits_shape names cells shared vars tail s (set_global x) c i h = fits_set_global shared vars tail x c (subst (λ y. IsNode y tail c) i h)
fits_shape names cells shared vars tail s catch_ c i h = fits_catch shared vars tail c (subst (λ y. IsNode y tail c) i h)
fits_shape names cells shared vars tail s (object x) c i h = fits_object shared vars tail x c (subst (λ y. IsNode y tail c) i h)
fits_shape names cells shared vars tail s call c i h = fits_call shared vars tail c (subst (λ y. IsNode y tail c) i h)
fits_shape names cells shared vars tail s (primitive x) c i h = fits_primitive shared vars tail x c (subst (λ y. IsNode y tail c) i h)
fits_shape names cells shared vars tail s nothing c i h = absurd (no_node tail c (subst (λ y. IsNode y tail c) i h))

-- a constant fits the shape of its datum
pub fits_constant : (names : List (List ℕ)) (cells : List Cell) (shared : Shared) (vars : List Var) (tail : Bool) (key : ℕ) (shape : Shape) (c : Const) → IsShape names cells vars (code.Constant key) shape
    → ((d : Datum) → Held names cells key d → IsQuoted shared d c) → Fits shared vars tail shape (Node.Const c)
fits_constant names cells shared vars tail key (constant d) c i q =
    let e = i.1 in let f : i.0 ≡ key = cc in q d (subst (λ k. Held names cells k d) f i.2)
fits_constant names cells shared vars tail key (local k) c i q = let e = i.1 in absurd (cc)
fits_constant names cells shared vars tail key (set_local k) c i q = let e = i.1 in absurd (cc)
fits_constant names cells shared vars tail key (global x) c i q = absurd (cc)
fits_constant names cells shared vars tail key (builtin_value x) c i q = absurd (cc)
fits_constant names cells shared vars tail key (op_value x) c i q = absurd (cc)
fits_constant names cells shared vars tail key lambda c i q = absurd (cc)
fits_constant names cells shared vars tail key if_ c i q = absurd (cc)
fits_constant names cells shared vars tail key block c i q = absurd (cc)
fits_constant names cells shared vars tail key let_ c i q = absurd (cc)
fits_constant names cells shared vars tail key labels c i q = absurd (cc)
fits_constant names cells shared vars tail key (set_global x) c i q = absurd (cc)
fits_constant names cells shared vars tail key catch_ c i q = absurd (cc)
fits_constant names cells shared vars tail key (object x) c i q = absurd (cc)
fits_constant names cells shared vars tail key call c i q = absurd (cc)
fits_constant names cells shared vars tail key (primitive x) c i q = absurd (cc)
fits_constant names cells shared vars tail key nothing c i q = absurd (cc)
