-- Units of definitions.
use Rattle.std.specs.Prelude.{[], ◌∷◌, refl, ◌++◌, true, false, codes}
use Rattle.std.specs.Global.{Global}
use Rattle.t_base.specs.declared.builtins.Builtin.TheVariants.{Add, PutFixnum}
use Rattle.t_base.specs.declared.shared_parts.GlobalKind.TheVariants.{Proc, Value, Variable}
use Rattle.t_core.specs.declared.forms.Core.TheVariants as Node
use Rattle.t_core.specs.declared.forms.UnitCore.{UnitCore}
use Rattle.rows_meaning.specs.Writing.{vec_of, fix, lambda, plain, define, lset, operation, op, global, first_names, first_ops, bare}

-- no forms
abbrev pub no_forms : Global → UnitCore
no_forms alloc = record {
  shared = bare alloc 0;
  forms = vec_of alloc [] refl;
}

-- (define (f) 1)
abbrev pub procedure_form : Global → UnitCore
procedure_form alloc = record {
  shared = record (bare alloc 3) {
    names = first_names ++ codes "f" ∷ [];
    globals = vec_of alloc (global 3 Proc ∷ []) refl;
  };
  forms = vec_of alloc (
      define alloc 0 (fix 1 ∷ lambda [] 0 ∷ []) refl ∷
      []) refl;
}

-- (define x (+ 1 2))
abbrev pub value_form : Global → UnitCore
value_form alloc = record {
  shared = record (bare alloc 4) {
    names = first_names ++ codes "x" ∷ [];
    globals = vec_of alloc (global 3 Value ∷ []) refl;
  };
  forms = vec_of alloc (
      define alloc 0 (fix 1 ∷ fix 2 ∷ Node.Prim Add (0 ∷ 1 ∷ []) ∷ []) refl ∷
      []) refl;
}

-- (lset x 1)
abbrev pub variable_form : Global → UnitCore
variable_form alloc = record {
  shared = record (bare alloc 2) {
    names = first_names ++ codes "x" ∷ [];
    globals = vec_of alloc (global 3 Variable ∷ []) refl;
  };
  forms = vec_of alloc (
      lset alloc 0 (fix 1 ∷ []) refl ∷
      []) refl;
}

-- (define-operation (area s) 0)
abbrev pub operation_form : Global → UnitCore
operation_form alloc = record {
  shared = record (bare alloc 3) {
    names = first_names ++ codes "area" ∷ [];
    ops = vec_of alloc (first_ops ++ op 3 true ∷ []) refl;
  };
  forms = vec_of alloc (
      operation alloc 3 (fix 0 ∷ lambda (0 ∷ []) 0 ∷ []) refl ∷
      []) refl;
}

-- (define (p) (q))
-- (put-fixnum (p))
-- (define (q) 7)
-- x
-- (define x 1)
abbrev pub late_procedure : Global → UnitCore
late_procedure alloc = record {
  shared = record (bare alloc 4) {
    names = first_names ++ codes "p" ∷ codes "q" ∷ codes "x" ∷ [];
    globals = vec_of alloc (global 3 Proc ∷ global 4 Proc ∷ global 5 Value ∷ []) refl;
  };
  forms = vec_of alloc (
      define alloc 0 (Node.Global 1 ∷ Node.Call 0 [] true ∷ lambda [] 1 ∷ []) refl ∷
      plain alloc (Node.Global 0 ∷ Node.Call 0 [] false ∷ Node.Prim PutFixnum (1 ∷ []) ∷ []) refl ∷
      define alloc 1 (fix 7 ∷ lambda [] 0 ∷ []) refl ∷
      plain alloc (Node.Global 2 ∷ []) refl ∷
      define alloc 2 (fix 1 ∷ []) refl ∷
      []) refl;
}

-- (define (f) (set x (block (put-fixnum 1) 2)))
-- (f)
-- (lset x 1)
abbrev pub early_set : Global → UnitCore
early_set alloc = record {
  shared = record (bare alloc 7) {
    names = first_names ++ codes "f" ∷ codes "x" ∷ [];
    globals = vec_of alloc (global 3 Proc ∷ global 4 Variable ∷ []) refl;
  };
  forms = vec_of alloc (
      define alloc 0 (fix 1 ∷ Node.Prim PutFixnum (0 ∷ []) ∷ fix 2 ∷ Node.Block (1 ∷ 2 ∷ []) ∷ Node.SetGlobal 1 3 ∷
      lambda [] 4 ∷ []) refl ∷
      plain alloc (Node.Global 0 ∷ Node.Call 0 [] false ∷ []) refl ∷
      lset alloc 1 (fix 1 ∷ []) refl ∷
      []) refl;
}

-- (lset x 1)
-- (define (bump) (set x (+ x 1)))
-- (bump)
-- (put-fixnum x)
-- (bump)
abbrev pub bump : Global → UnitCore
bump alloc = record {
  shared = record (bare alloc 6) {
    names = first_names ++ codes "x" ∷ codes "bump" ∷ [];
    globals = vec_of alloc (global 3 Variable ∷ global 4 Proc ∷ []) refl;
  };
  forms = vec_of alloc (
      lset alloc 0 (fix 1 ∷ []) refl ∷
      define alloc 1 (Node.Global 0 ∷ fix 1 ∷ Node.Prim Add (0 ∷ 1 ∷ []) ∷ Node.SetGlobal 0 2 ∷ lambda [] 3 ∷ []) refl ∷
      plain alloc (Node.Global 1 ∷ Node.Call 0 [] false ∷ []) refl ∷
      plain alloc (Node.Global 0 ∷ Node.Prim PutFixnum (0 ∷ []) ∷ []) refl ∷
      plain alloc (Node.Global 1 ∷ Node.Call 0 [] false ∷ []) refl ∷
      []) refl;
}
