-- Units of CATCH.
use Rattle.std.specs.Prelude.{[], ◌∷◌, refl, ◌++◌, true, false, codes}
use Rattle.std.specs.Global.{Global}
use Rattle.t_base.specs.declared.builtins.Builtin.TheVariants.{Add}
use Rattle.t_base.specs.declared.shared_parts.GlobalKind.TheVariants.{Proc, Variable}
use Rattle.t_core.specs.declared.forms.Core.TheVariants as Node
use Rattle.t_core.specs.declared.forms.UnitCore.{UnitCore}
use Rattle.rows_meaning.specs.Writing.{vec_of, fix, nil, local, lambda, catch, plain, define, lset, global, first_names, bare}

-- (catch a (+ 1 (catch b (a 5))))
abbrev pub through_inner_catch : Global → UnitCore
through_inner_catch alloc = record {
  shared = bare alloc 9;
  forms = vec_of alloc (
      plain alloc (fix 1 ∷ local 0 ∷ fix 5 ∷ Node.Call 1 (2 ∷ []) false ∷ catch 1 3 ∷ Node.Prim Add (0 ∷ 4 ∷ []) ∷ catch 0 5 ∷
      []) refl ∷
      []) refl;
}

-- (define (app f) (+ (f 1) 0))
-- (catch j (app (lambda (y) (j y))))
abbrev pub past_a_procedure : Global → UnitCore
past_a_procedure alloc = record {
  shared = record (bare alloc 9) {
    names = first_names ++ codes "app" ∷ [];
    globals = vec_of alloc (global 3 Proc ∷ []) refl;
  };
  forms = vec_of alloc (
      define alloc 0 (local 0 ∷ fix 1 ∷ Node.Call 0 (1 ∷ []) false ∷ fix 0 ∷ Node.Prim Add (2 ∷ 3 ∷ []) ∷ lambda (0 ∷ []) 4 ∷ []) refl ∷
      plain alloc (Node.Global 0 ∷ local 1 ∷ local 2 ∷ Node.Call 1 (2 ∷ []) true ∷ lambda (2 ∷ []) 3 ∷
      Node.Call 0 (4 ∷ []) false ∷ catch 1 5 ∷ []) refl ∷
      []) refl;
}

-- (lset k nil)
-- (catch j (set k j))
-- (k 1)
abbrev pub dead_escape : Global → UnitCore
dead_escape alloc = record {
  shared = record (bare alloc 4) {
    names = first_names ++ codes "k" ∷ [];
    globals = vec_of alloc (global 3 Variable ∷ []) refl;
  };
  forms = vec_of alloc (
      lset alloc 0 (nil ∷ []) refl ∷
      plain alloc (local 0 ∷ Node.SetGlobal 0 0 ∷ catch 0 1 ∷ []) refl ∷
      plain alloc (Node.Global 0 ∷ fix 1 ∷ Node.Call 0 (1 ∷ []) false ∷ []) refl ∷
      []) refl;
}

-- (lset k nil)
-- (catch a (catch b (set k b) (a 1)))
-- (k 2)
abbrev pub dead_inner_escape : Global → UnitCore
dead_inner_escape alloc = record {
  shared = record (bare alloc 10) {
    names = first_names ++ codes "k" ∷ [];
    globals = vec_of alloc (global 3 Variable ∷ []) refl;
  };
  forms = vec_of alloc (
      lset alloc 0 (nil ∷ []) refl ∷
      plain alloc (local 1 ∷ Node.SetGlobal 0 0 ∷ local 0 ∷ fix 1 ∷ Node.Call 2 (3 ∷ []) false ∷ Node.Block (1 ∷ 4 ∷ []) ∷
      catch 1 5 ∷ catch 0 6 ∷ []) refl ∷
      plain alloc (Node.Global 0 ∷ fix 2 ∷ Node.Call 0 (1 ∷ []) false ∷ []) refl ∷
      []) refl;
}

-- (lset k nil)
-- (catch j (set k j))
-- (k 1 2)
abbrev pub dead_escape_with_two : Global → UnitCore
dead_escape_with_two alloc = record {
  shared = record (bare alloc 4) {
    names = first_names ++ codes "k" ∷ [];
    globals = vec_of alloc (global 3 Variable ∷ []) refl;
  };
  forms = vec_of alloc (
      lset alloc 0 (nil ∷ []) refl ∷
      plain alloc (local 0 ∷ Node.SetGlobal 0 0 ∷ catch 0 1 ∷ []) refl ∷
      plain alloc (Node.Global 0 ∷ fix 1 ∷ fix 2 ∷ Node.Call 0 (1 ∷ 2 ∷ []) false ∷ []) refl ∷
      []) refl;
}
