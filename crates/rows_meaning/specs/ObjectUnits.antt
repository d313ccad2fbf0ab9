-- Units of objects and operations.
use Rattle.std.specs.Prelude.{[], ◌∷◌, refl, ◌++◌, true, false, codes}
use Rattle.std.specs.Global.{Global}
use Rattle.t_base.specs.declared.builtins.Builtin.TheVariants.{Car, Cons, Mul, PutFixnum, SetCar}
use Rattle.t_base.specs.declared.shared_parts.GlobalKind.TheVariants.{Proc, Value}
use Rattle.t_core.specs.declared.forms.Core.TheVariants as Node
use Rattle.t_core.specs.declared.forms.UnitCore.{UnitCore}
use Rattle.rows_meaning.specs.Writing.{vec_of, fix, nil, local, lambda, bind, assign, method, plain, define, operation, op, global, first_names, first_ops, bare}

-- (define-operation (area s) 0)
-- (define-operation (name s))
-- (define sq (object (lambda (n) (* n 2)) ((area self) 9) ((name self) (area self))))
-- (put-fixnum (area 7))
-- (put-fixnum (area sq))
-- (put-fixnum (name sq))
-- (put-fixnum (sq 21))
-- (name 7)
abbrev pub areas : Global → UnitCore
areas alloc = record {
  shared = record (bare alloc 15) {
    names = first_names ++ codes "area" ∷ codes "name" ∷ codes "sq" ∷ [];
    globals = vec_of alloc (global 5 Value ∷ []) refl;
    ops = vec_of alloc (first_ops ++ op 3 true ∷ op 4 false ∷ []) refl;
  };
  forms = vec_of alloc (
      operation alloc 3 (fix 0 ∷ lambda (0 ∷ []) 0 ∷ []) refl ∷
      operation alloc 4 [] refl ∷
      define alloc 0 (local 1 ∷ fix 2 ∷ Node.Prim Mul (0 ∷ 1 ∷ []) ∷ lambda (1 ∷ []) 2 ∷ fix 9 ∷ Node.Op 3 ∷ local 3 ∷
      Node.Call 5 (6 ∷ []) true ∷ Node.Object 3 (method 3 (2 ∷ []) 4 ∷ method 4 (3 ∷ []) 7 ∷ []) ∷ []) refl ∷
      plain alloc (Node.Op 3 ∷ fix 7 ∷ Node.Call 0 (1 ∷ []) false ∷ Node.Prim PutFixnum (2 ∷ []) ∷ []) refl ∷
      plain alloc (Node.Op 3 ∷ Node.Global 0 ∷ Node.Call 0 (1 ∷ []) false ∷ Node.Prim PutFixnum (2 ∷ []) ∷ []) refl ∷
      plain alloc (Node.Op 4 ∷ Node.Global 0 ∷ Node.Call 0 (1 ∷ []) false ∷ Node.Prim PutFixnum (2 ∷ []) ∷ []) refl ∷
      plain alloc (Node.Global 0 ∷ fix 21 ∷ Node.Call 0 (1 ∷ []) false ∷ Node.Prim PutFixnum (2 ∷ []) ∷ []) refl ∷
      plain alloc (Node.Op 4 ∷ fix 7 ∷ Node.Call 0 (1 ∷ []) false ∷ []) refl ∷
      []) refl;
}

-- (define c (cons 1 2))
-- (define head (object (lambda (p) (car p)) ((setter self) (lambda (p v) (set (car p) v)))))
-- (set (head c) 5)
-- (define (test x)
--   (let ((l (locative x)) (f (lambda () x))) (set (contents l) (head c)) (put-fixnum (f)) (contents l)))
-- (test 1)
abbrev pub settable : Global → UnitCore
settable alloc = record {
  shared = record (bare alloc 31) {
    names = first_names ++ codes "c" ∷ codes "head" ∷ codes "test" ∷ [];
    globals = vec_of alloc (global 3 Value ∷ global 4 Value ∷ global 5 Proc ∷ []) refl;
  };
  forms = vec_of alloc (
      define alloc 0 (fix 1 ∷ fix 2 ∷ Node.Prim Cons (0 ∷ 1 ∷ []) ∷ []) refl ∷
      define alloc 1 (local 0 ∷ Node.Prim Car (0 ∷ []) ∷ lambda (0 ∷ []) 1 ∷ local 2 ∷ local 3 ∷ Node.Prim SetCar (3 ∷ 4 ∷ []) ∷
      lambda (2 ∷ 3 ∷ []) 5 ∷ Node.Object 2 (method 0 (1 ∷ []) 6 ∷ []) ∷ []) refl ∷
      plain alloc (Node.Op 0 ∷ Node.Global 1 ∷ Node.Call 0 (1 ∷ []) false ∷ Node.Global 0 ∷ fix 5 ∷
      Node.Call 2 (3 ∷ 4 ∷ []) false ∷ []) refl ∷
      define alloc 2 (nil ∷ local 4 ∷ local 7 ∷ assign 4 2 ∷
      Node.Object 0 (method 1 (5 ∷ []) 1 ∷ method 2 (6 ∷ 7 ∷ []) 3 ∷ []) ∷ local 4 ∷ lambda [] 5 ∷ Node.Op 2 ∷ local 8 ∷
      Node.Global 1 ∷ Node.Global 0 ∷ Node.Call 9 (10 ∷ []) false ∷ Node.Call 7 (8 ∷ 11 ∷ []) false ∷ local 9 ∷
      Node.Call 13 [] false ∷ Node.Prim PutFixnum (14 ∷ []) ∷ Node.Op 1 ∷ local 8 ∷ Node.Call 16 (17 ∷ []) true ∷
      Node.Block (12 ∷ 15 ∷ 18 ∷ []) ∷ bind (8 ∷ 9 ∷ []) (4 ∷ 6 ∷ []) 19 ∷ lambda (4 ∷ []) 20 ∷ []) refl ∷
      plain alloc (Node.Global 2 ∷ fix 1 ∷ Node.Call 0 (1 ∷ []) false ∷ []) refl ∷
      []) refl;
}

-- (let ((l (locative ((block (put-fixnum 1) car) (cons 7 8))))) (contents l) (contents l))
abbrev pub locative_once : Global → UnitCore
locative_once alloc = record {
  shared = bare alloc 35;
  forms = vec_of alloc (
      plain alloc (fix 1 ∷ Node.Prim PutFixnum (0 ∷ []) ∷ Node.Builtin Car ∷ Node.Block (1 ∷ 2 ∷ []) ∷ fix 7 ∷ fix 8 ∷
      Node.Prim Cons (4 ∷ 5 ∷ []) ∷ nil ∷ local 0 ∷ local 1 ∷ Node.Call 8 (9 ∷ []) true ∷ Node.Op 0 ∷ local 0 ∷
      Node.Call 11 (12 ∷ []) false ∷ local 1 ∷ local 4 ∷ Node.Call 13 (14 ∷ 15 ∷ []) true ∷
      Node.Object 7 (method 1 (2 ∷ []) 10 ∷ method 2 (3 ∷ 4 ∷ []) 16 ∷ []) ∷ bind (0 ∷ 1 ∷ []) (3 ∷ 6 ∷ []) 17 ∷ Node.Op 1 ∷
      local 5 ∷ Node.Call 19 (20 ∷ []) false ∷ Node.Op 1 ∷ local 5 ∷ Node.Call 22 (23 ∷ []) false ∷
      Node.Block (21 ∷ 24 ∷ []) ∷ bind (5 ∷ []) (18 ∷ []) 25 ∷ []) refl ∷
      []) refl;
}

-- (define-operation area)
-- (area (object nil ((area self) 1) ((area self) 2)))
abbrev pub first_method : Global → UnitCore
first_method alloc = record {
  shared = record (bare alloc 10) {
    names = first_names ++ codes "area" ∷ [];
    ops = vec_of alloc (first_ops ++ op 3 false ∷ []) refl;
  };
  forms = vec_of alloc (
      operation alloc 3 [] refl ∷
      plain alloc (Node.Op 3 ∷ nil ∷ fix 1 ∷ fix 2 ∷ Node.Object 1 (method 3 (0 ∷ []) 2 ∷ method 3 (1 ∷ []) 3 ∷ []) ∷
      Node.Call 0 (4 ∷ []) false ∷ []) refl ∷
      []) refl;
}

-- (define-operation (area self) 3)
-- (define-operation name)
-- (area (object nil ((name self) 1) ((name self) 2)))
abbrev pub default_behind_methods : Global → UnitCore
default_behind_methods alloc = record {
  shared = record (bare alloc 10) {
    names = first_names ++ codes "area" ∷ codes "name" ∷ [];
    ops = vec_of alloc (first_ops ++ op 3 true ∷ op 4 false ∷ []) refl;
  };
  forms = vec_of alloc (
      operation alloc 3 (fix 3 ∷ lambda (0 ∷ []) 0 ∷ []) refl ∷
      operation alloc 4 [] refl ∷
      plain alloc (Node.Op 3 ∷ nil ∷ fix 1 ∷ fix 2 ∷ Node.Object 1 (method 4 (1 ∷ []) 2 ∷ method 4 (2 ∷ []) 3 ∷ []) ∷
      Node.Call 0 (4 ∷ []) false ∷ []) refl ∷
      []) refl;
}

-- (define-operation area)
-- (area)
abbrev pub no_operands : Global → UnitCore
no_operands alloc = record {
  shared = record (bare alloc 2) {
    names = first_names ++ codes "area" ∷ [];
    ops = vec_of alloc (first_ops ++ op 3 false ∷ []) refl;
  };
  forms = vec_of alloc (
      operation alloc 3 [] refl ∷
      plain alloc (Node.Op 3 ∷ Node.Call 0 [] false ∷ []) refl ∷
      []) refl;
}

-- (define-operation area)
-- (area (object nil ((area self x) 1)))
abbrev pub method_with_two : Global → UnitCore
method_with_two alloc = record {
  shared = record (bare alloc 8) {
    names = first_names ++ codes "area" ∷ [];
    ops = vec_of alloc (first_ops ++ op 3 false ∷ []) refl;
  };
  forms = vec_of alloc (
      operation alloc 3 [] refl ∷
      plain alloc (Node.Op 3 ∷ nil ∷ fix 1 ∷ Node.Object 1 (method 3 (0 ∷ 1 ∷ []) 2 ∷ []) ∷ Node.Call 0 (3 ∷ []) false ∷ []) refl ∷
      []) refl;
}

-- (define-operation (area self) 1)
-- (area 1 2)
abbrev pub default_with_two : Global → UnitCore
default_with_two alloc = record {
  shared = record (bare alloc 4) {
    names = first_names ++ codes "area" ∷ [];
    ops = vec_of alloc (first_ops ++ op 3 true ∷ []) refl;
  };
  forms = vec_of alloc (
      operation alloc 3 (fix 1 ∷ lambda (0 ∷ []) 0 ∷ []) refl ∷
      plain alloc (Node.Op 3 ∷ fix 1 ∷ fix 2 ∷ Node.Call 0 (1 ∷ 2 ∷ []) false ∷ []) refl ∷
      []) refl;
}

-- ((object nil) 1)
abbrev pub no_procedure_part : Global → UnitCore
no_procedure_part alloc = record {
  shared = bare alloc 4;
  forms = vec_of alloc (
      plain alloc (nil ∷ Node.Object 0 [] ∷ fix 1 ∷ Node.Call 1 (2 ∷ []) false ∷ []) refl ∷
      []) refl;
}
