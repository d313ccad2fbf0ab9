-- What one row gives in two units: the same constants, and the same nodes but for their parts and variables.
use Rattle.std.proofs.Common.{◌≡◌, ℕ, Bool, List, map, slice_get, Some, sym, subst, ◌∙◌}
use Rattle.t_base.specs.declared.builtins.Builtin.{Builtin}
use Rattle.t_base.specs.declared.basics.Var.{Var}
use Rattle.t_base.specs.declared.shared_parts.Const.{Const}
use Rattle.t_base.specs.declared.shared_parts.Const.TheVariants as Constant
use Rattle.t_base.specs.declared.shared_parts.Shared.{Shared}
use Rattle.t_core.specs.declared.forms.Core.{Core}
use Rattle.t_core.specs.declared.forms.Core.TheVariants as Node
use Rattle.t_core.specs.declared.forms.Method.{Method}
use Rattle.t_reader.specs.Grammar.{fix, char, nil, truth, string, symbol}
use Rattle.t_forms.specs.Data.{Datum, atom, cons, given, variable, builtin, operation, listing}
use Rattle.t_rows.specs.Rows.{Shape, constant, local, global, builtin_value, op_value, lambda, if_, block, let_, labels, set_local, set_global, catch_, object, call, primitive}
use Rattle.expansion.specs.Meaning.{Fits, IsQuoted}
use Rattle.expand_laws.specs.Renaming.{IsSameConst, IsSameNode, fix as same_fix, char as same_char, nil as same_nil, truth as same_truth, string as same_string, symbol as same_symbol, pair as same_pair}

-- ---- constants

same_at : (shared other : Shared) (c d e f : Const) → c ≡ e → d ≡ f → IsSameConst shared other e f → IsSameConst shared other c d
same_at shared other c d e f p q h = subst (λ x. IsSameConst shared other x d) (sym p) (subst (λ y. IsSameConst shared other e y) (sym q) h)

pub same_const : (shared other : Shared) (d : Datum) (a b : Const) → IsQuoted shared d a → IsQuoted other d b → IsSameConst shared other a b
same_const shared other (atom s (given (fix z))) a b g h = same_at shared other a b (Constant.Fix z) (Constant.Fix z) g h (same_fix z)
same_const shared other (atom s (given (char c))) a b g h = same_at shared other a b (Constant.Char c) (Constant.Char c) g h (same_char c)
same_const shared other (atom s (given nil)) a b g h = same_at shared other a b Constant.Nil Constant.Nil g h same_nil
same_const shared other (atom s (given truth)) a b g h = same_at shared other a b Constant.True Constant.True g h same_truth
same_const shared other (atom s (given (string bytes))) a b g h =
    same_at shared other a b (Constant.Str g.0) (Constant.Str h.0) g.1 h.1 (same_string g.0 h.0 bytes g.2 h.2)
same_const shared other (atom s (given (symbol text))) a b g h =
    same_at shared other a b (Constant.Sym g.0) (Constant.Sym h.0) g.1 h.1 (same_symbol g.0 h.0 text g.2 h.2)
same_const shared other (atom s (variable n)) a b g h = absurd g
same_const shared other (atom s (builtin p)) a b g h = absurd g
same_const shared other (atom s (operation o)) a b g h = absurd g
same_const shared other (atom s listing) a b g h = absurd g
same_const shared other (cons s head tail) a b g h =
    same_at shared other a b (Constant.Pair g.0) (Constant.Pair h.0) g.2 h.2
    (same_pair g.0 h.0 g.1 h.1 g.3 h.3 (same_const shared other head (g.1).0 (h.1).0 g.4 h.4) (same_const shared other tail (g.1).1 (h.1).1 g.5 h.5))

-- ---- nodes: the one unit's node is known, the other's fits the same shape

-- variables that stand at one place are related
abbrev pub AreRelated : (Var → Var → Type 0) → List Var → List Var → Type 0
AreRelated related vars others = (i : ℕ) (v w : Var) → slice_get vars i ≡ Some v → slice_get others i ≡ Some w → related v w

abbrev Same : Shared → Shared → (Var → Var → Type 0) → Core → Core → Type 0
Same shared other related c d = IsSameNode shared other related c d

module _ (shared other : Shared) (vars others : List Var) (tail : Bool) (related : Var → Var → Type 0) (each : AreRelated related vars others) where
  of_constant : (d : Datum) (a : Const) (e : Core) → IsQuoted shared d a → Fits other others tail (constant d) e → Same shared other related (Node.Const a) e
  of_constant d a (Node.Const b) g h = same_const shared other d a b g h
  of_constant d a _ g h = absurd h

  of_local : (i : ℕ) (v : Var) (e : Core) → slice_get vars i ≡ Some v → Fits other others tail (local i) e → Same shared other related (Node.Local v) e
  of_local i v (Node.Local w) g h = each i v w g h
  of_local i v _ g h = absurd h

  of_global : (g x : ℕ) (e : Core) → g ≡ x → Fits other others tail (global g) e → Same shared other related (Node.Global x) e
  of_global g x (Node.Global y) p h = sym p ∙ h
  of_global g x _ p h = absurd h

  of_builtin : (p x : Builtin) (e : Core) → p ≡ x → Fits other others tail (builtin_value p) e → Same shared other related (Node.Builtin x) e
  of_builtin p x (Node.Builtin y) g h = sym g ∙ h
  of_builtin p x _ g h = absurd h

  of_op : (o x : ℕ) (e : Core) → o ≡ x → Fits other others tail (op_value o) e → Same shared other related (Node.Op x) e
  of_op o x (Node.Op y) p h = sym p ∙ h
  of_op o x _ p h = absurd h

  of_lambda : (params : List Var) (body : ℕ) (e : Core) → Fits other others tail lambda e → Same shared other related (Node.Lambda params body) e
  of_lambda params body (Node.Lambda ps place) h = tt
  of_lambda params body _ h = absurd h

  of_if : (x y z : ℕ) (e : Core) → Fits other others tail if_ e → Same shared other related (Node.If x y z) e
  of_if x y z (Node.If u v w) h = tt
  of_if x y z _ h = absurd h

  of_block : (items : List ℕ) (e : Core) → Fits other others tail block e → Same shared other related (Node.Block items) e
  of_block items (Node.Block places) h = tt
  of_block items _ h = absurd h

  of_let : (bound : List Var) (values : List ℕ) (body : ℕ) (e : Core) → Fits other others tail let_ e → Same shared other related (Node.Let bound values body) e
  of_let bound values body (Node.Let vs ps place) h = tt
  of_let bound values body _ h = absurd h

  of_labels : (bound : List Var) (values : List ℕ) (body : ℕ) (e : Core) → Fits other others tail labels e → Same shared other related (Node.Labels bound values body) e
  of_labels bound values body (Node.Labels vs ps place) h = tt
  of_labels bound values body _ h = absurd h

  of_set_local : (i : ℕ) (v : Var) (value : ℕ) (e : Core) → slice_get vars i ≡ Some v → Fits other others tail (set_local i) e → Same shared other related (Node.SetLocal v value) e
  of_set_local i v value (Node.SetLocal w place) g h = each i v w g h
  of_set_local i v value _ g h = absurd h

  of_set_global : (g x value : ℕ) (e : Core) → g ≡ x → Fits other others tail (set_global g) e → Same shared other related (Node.SetGlobal x value) e
  of_set_global g x value (Node.SetGlobal y place) p h = sym p ∙ h
  of_set_global g x value _ p h = absurd h

  of_catch : (v : Var) (body : ℕ) (e : Core) → Fits other others tail catch_ e → Same shared other related (Node.Catch v body) e
  of_catch v body (Node.Catch w place) h = tt
  of_catch v body _ h = absurd h

  of_call : (operator : ℕ) (operands : List ℕ) (last : Bool) (e : Core) → last ≡ tail → Fits other others tail call e → Same shared other related (Node.Call operator operands last) e
  of_call operator operands last (Node.Call place places also) g h = g ∙ sym h
  of_call operator operands last _ g h = absurd h

  of_primitive : (p x : Builtin) (operands : List ℕ) (e : Core) → p ≡ x → Fits other others tail (primitive p) e → Same shared other related (Node.Prim x operands) e
  of_primitive p x operands (Node.Prim y places) g h = sym g ∙ h
  of_primitive p x operands _ g h = absurd h

  of_object : (ops : List ℕ) (proc : ℕ) (methods : List Method) (e : Core) → map (λ m. m.op) methods ≡ ops → Fits other others tail (object ops) e
      → Same shared other related (Node.Object proc methods) e
  of_object ops proc methods (Node.Object place places) g h = g ∙ sym h
  of_object ops proc methods _ g h = absurd h

  -- of one shape
  pub same_node : (s : Shape) (c d : Core) → Fits shared vars tail s c → Fits other others tail s d → Same shared other related c d
  same_node (constant x) (Node.Const a) d g h = of_constant x a d g h
  same_node (local i) (Node.Local v) d g h = of_local i v d g h
  same_node (global g) (Node.Global x) d p h = of_global g x d p h
  same_node (builtin_value p) (Node.Builtin x) d g h = of_builtin p x d g h
  same_node (op_value o) (Node.Op x) d g h = of_op o x d g h
  same_node lambda (Node.Lambda params body) d g h = of_lambda params body d h
  same_node if_ (Node.If x y z) d g h = of_if x y z d h
  same_node block (Node.Block items) d g h = of_block items d h
  same_node let_ (Node.Let bound values body) d g h = of_let bound values body d h
  same_node labels (Node.Labels bound values body) d g h = of_labels bound values body d h
  same_node (set_local i) (Node.SetLocal v value) d g h = of_set_local i v value d g h
  same_node (set_global g) (Node.SetGlobal x value) d p h = of_set_global g x value d p h
  same_node catch_ (Node.Catch v body) d g h = of_catch v body d h
  same_node (object ops) (Node.Object proc methods) d g h = of_object ops proc methods d g h
  same_node call (Node.Call operator operands last) d g h = of_call operator operands last d g h
  same_node (primitive p) (Node.Prim x operands) d g h = of_primitive p x operands d g h
  same_node _ _ d g h = absurd g
