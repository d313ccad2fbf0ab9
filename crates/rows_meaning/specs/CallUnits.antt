-- Units of calls.
use Rattle.std.specs.Prelude.{[], ◌∷◌, refl, ◌++◌, true, false, codes}
use Rattle.std.specs.Global.{Global}
use Rattle.t_base.specs.declared.builtins.Builtin.TheVariants.{Add, Car, Cons, NumEq, PutFixnum, Sub, Vref}
use Rattle.t_base.specs.declared.shared_parts.GlobalKind.TheVariants.{Proc}
use Rattle.t_core.specs.declared.forms.Core.TheVariants as Node
use Rattle.t_core.specs.declared.forms.UnitCore.{UnitCore}
use Rattle.rows_meaning.specs.Writing.{vec_of, fix, local, lambda, bind, labels, plain, define, global, first_names, bare}

-- (5 (put-fixnum 1))
abbrev pub no_procedure : Global → UnitCore
no_procedure alloc = record {
  shared = bare alloc 4;
  forms = vec_of alloc (
      plain alloc (fix 5 ∷ fix 1 ∷ Node.Prim PutFixnum (1 ∷ []) ∷ Node.Call 0 (2 ∷ []) false ∷ []) refl ∷
      []) refl;
}

-- ((block (put-fixnum 1) 5) (put-fixnum 2))
abbrev pub operator_first : Global → UnitCore
operator_first alloc = record {
  shared = bare alloc 7;
  forms = vec_of alloc (
      plain alloc (fix 1 ∷ Node.Prim PutFixnum (0 ∷ []) ∷ fix 5 ∷ Node.Block (1 ∷ 2 ∷ []) ∷ fix 2 ∷
      Node.Prim PutFixnum (4 ∷ []) ∷ Node.Call 3 (5 ∷ []) false ∷ []) refl ∷
      []) refl;
}

-- ((lambda (a b) a) (block (put-fixnum 1) 1) (block (put-fixnum 2) 2) 3)
abbrev pub too_many_operands : Global → UnitCore
too_many_operands alloc = record {
  shared = bare alloc 14;
  forms = vec_of alloc (
      plain alloc (local 0 ∷ lambda (0 ∷ 1 ∷ []) 0 ∷ fix 1 ∷ Node.Prim PutFixnum (2 ∷ []) ∷ fix 1 ∷ Node.Block (3 ∷ 4 ∷ []) ∷
      fix 2 ∷ Node.Prim PutFixnum (6 ∷ []) ∷ fix 2 ∷ Node.Block (7 ∷ 8 ∷ []) ∷ fix 3 ∷ Node.Call 1 (5 ∷ 9 ∷ 10 ∷ []) false ∷
      []) refl ∷
      []) refl;
}

-- ((lambda (a b) a) (car 5) (vref 1 0))
abbrev pub two_bad_operands : Global → UnitCore
two_bad_operands alloc = record {
  shared = bare alloc 10;
  forms = vec_of alloc (
      plain alloc (local 0 ∷ lambda (0 ∷ 1 ∷ []) 0 ∷ fix 5 ∷ Node.Prim Car (2 ∷ []) ∷ fix 1 ∷ fix 0 ∷
      Node.Prim Vref (4 ∷ 5 ∷ []) ∷ Node.Call 1 (3 ∷ 6 ∷ []) false ∷ []) refl ∷
      []) refl;
}

-- (let ((f cons)) (f 1))
abbrev pub builtin_with_one : Global → UnitCore
builtin_with_one alloc = record {
  shared = bare alloc 6;
  forms = vec_of alloc (
      plain alloc (Node.Builtin Cons ∷ local 0 ∷ fix 1 ∷ Node.Call 1 (2 ∷ []) false ∷ bind (0 ∷ []) (0 ∷ []) 3 ∷ []) refl ∷
      []) refl;
}

-- (let ((a (block (put-fixnum 1) 1)) (b (block (put-fixnum 2) 2))) (- b a))
abbrev pub values_in_order : Global → UnitCore
values_in_order alloc = record {
  shared = bare alloc 14;
  forms = vec_of alloc (
      plain alloc (fix 1 ∷ Node.Prim PutFixnum (0 ∷ []) ∷ fix 1 ∷ Node.Block (1 ∷ 2 ∷ []) ∷ fix 2 ∷
      Node.Prim PutFixnum (4 ∷ []) ∷ fix 2 ∷ Node.Block (5 ∷ 6 ∷ []) ∷ local 1 ∷ local 0 ∷ Node.Prim Sub (8 ∷ 9 ∷ []) ∷
      bind (0 ∷ 1 ∷ []) (3 ∷ 7 ∷ []) 10 ∷ []) refl ∷
      []) refl;
}

-- (iterate loop ((a 1) (b 2) (n 5)) (if (= n 0) (- a b) (loop b a (- n 1))))
abbrev pub swap : Global → UnitCore
swap alloc = record {
  shared = bare alloc 25;
  forms = vec_of alloc (
      plain alloc (local 3 ∷ fix 0 ∷ Node.Prim NumEq (0 ∷ 1 ∷ []) ∷ local 1 ∷ local 2 ∷ Node.Prim Sub (3 ∷ 4 ∷ []) ∷ local 0 ∷
      local 2 ∷ local 1 ∷ local 3 ∷ fix 1 ∷ Node.Prim Sub (9 ∷ 10 ∷ []) ∷ Node.Call 6 (7 ∷ 8 ∷ 11 ∷ []) true ∷
      Node.If 2 5 12 ∷ lambda (1 ∷ 2 ∷ 3 ∷ []) 13 ∷ local 0 ∷ fix 1 ∷ fix 2 ∷ fix 5 ∷ Node.Call 15 (16 ∷ 17 ∷ 18 ∷ []) false ∷
      labels (0 ∷ []) (14 ∷ []) 19 ∷ []) refl ∷
      []) refl;
}

-- (define (make f) (labels (((g x) (f x))) (lambda (y) (g y))))
-- (define (use) (let ((h (make (lambda (z) (+ z 100))))) (h 5)))
-- (use)
abbrev pub upward : Global → UnitCore
upward alloc = record {
  shared = record (bare alloc 15) {
    names = first_names ++ codes "make" ∷ codes "use" ∷ [];
    globals = vec_of alloc (global 3 Proc ∷ global 4 Proc ∷ []) refl;
  };
  forms = vec_of alloc (
      define alloc 0 (local 0 ∷ local 2 ∷ Node.Call 0 (1 ∷ []) true ∷ lambda (2 ∷ []) 2 ∷ local 1 ∷ local 3 ∷
      Node.Call 4 (5 ∷ []) true ∷ lambda (3 ∷ []) 6 ∷ labels (1 ∷ []) (3 ∷ []) 7 ∷ lambda (0 ∷ []) 8 ∷ []) refl ∷
      define alloc 1 (Node.Global 0 ∷ local 4 ∷ fix 100 ∷ Node.Prim Add (1 ∷ 2 ∷ []) ∷ lambda (4 ∷ []) 3 ∷
      Node.Call 0 (4 ∷ []) false ∷ local 5 ∷ fix 5 ∷ Node.Call 6 (7 ∷ []) true ∷ bind (5 ∷ []) (5 ∷ []) 8 ∷ lambda [] 9 ∷ []) refl ∷
      plain alloc (Node.Global 1 ∷ Node.Call 0 [] false ∷ []) refl ∷
      []) refl;
}

-- (define (app f) (+ (f 1) 0))
-- (define (a x) (+ (app (lambda (y) (+ x y))) 0))
-- (+ (a 10) (a 20))
abbrev pub downward : Global → UnitCore
downward alloc = record {
  shared = record (bare alloc 12) {
    names = first_names ++ codes "app" ∷ codes "a" ∷ [];
    globals = vec_of alloc (global 3 Proc ∷ global 4 Proc ∷ []) refl;
  };
  forms = vec_of alloc (
      define alloc 0 (local 0 ∷ fix 1 ∷ Node.Call 0 (1 ∷ []) false ∷ fix 0 ∷ Node.Prim Add (2 ∷ 3 ∷ []) ∷ lambda (0 ∷ []) 4 ∷ []) refl ∷
      define alloc 1 (Node.Global 0 ∷ local 1 ∷ local 2 ∷ Node.Prim Add (1 ∷ 2 ∷ []) ∷ lambda (2 ∷ []) 3 ∷
      Node.Call 0 (4 ∷ []) false ∷ fix 0 ∷ Node.Prim Add (5 ∷ 6 ∷ []) ∷ lambda (1 ∷ []) 7 ∷ []) refl ∷
      plain alloc (Node.Global 1 ∷ fix 10 ∷ Node.Call 0 (1 ∷ []) false ∷ Node.Global 1 ∷ fix 20 ∷ Node.Call 3 (4 ∷ []) false ∷
      Node.Prim Add (2 ∷ 5 ∷ []) ∷ []) refl ∷
      []) refl;
}

-- (iterate loop ((i 0)) (if (= i 10) i (loop (+ i 1))))
abbrev pub tail_loop : Global → UnitCore
tail_loop alloc = record {
  shared = bare alloc 17;
  forms = vec_of alloc (
      plain alloc (local 1 ∷ fix 10 ∷ Node.Prim NumEq (0 ∷ 1 ∷ []) ∷ local 1 ∷ local 0 ∷ local 1 ∷ fix 1 ∷
      Node.Prim Add (5 ∷ 6 ∷ []) ∷ Node.Call 4 (7 ∷ []) true ∷ Node.If 2 3 8 ∷ lambda (1 ∷ []) 9 ∷ local 0 ∷ fix 0 ∷
      Node.Call 11 (12 ∷ []) false ∷ labels (0 ∷ []) (10 ∷ []) 13 ∷ []) refl ∷
      []) refl;
}

-- (labels (((c n) (if (= n 0) 0 (+ 1 (c (- n 1)))))) (c 5))
abbrev pub deep_calls : Global → UnitCore
deep_calls alloc = record {
  shared = bare alloc 19;
  forms = vec_of alloc (
      plain alloc (local 1 ∷ fix 0 ∷ Node.Prim NumEq (0 ∷ 1 ∷ []) ∷ fix 0 ∷ fix 1 ∷ local 0 ∷ local 1 ∷ fix 1 ∷
      Node.Prim Sub (6 ∷ 7 ∷ []) ∷ Node.Call 5 (8 ∷ []) false ∷ Node.Prim Add (4 ∷ 9 ∷ []) ∷ Node.If 2 3 10 ∷
      lambda (1 ∷ []) 11 ∷ local 0 ∷ fix 5 ∷ Node.Call 13 (14 ∷ []) false ∷ labels (0 ∷ []) (12 ∷ []) 15 ∷ []) refl ∷
      []) refl;
}

-- (if (= 1 1) (if (= 2 2) 3 4) 5)
abbrev pub if_at_top : Global → UnitCore
if_at_top alloc = record {
  shared = bare alloc 11;
  forms = vec_of alloc (
      plain alloc (fix 1 ∷ fix 1 ∷ Node.Prim NumEq (0 ∷ 1 ∷ []) ∷ fix 2 ∷ fix 2 ∷ Node.Prim NumEq (3 ∷ 4 ∷ []) ∷ fix 3 ∷ fix 4 ∷
      Node.If 5 6 7 ∷ fix 5 ∷ Node.If 2 8 9 ∷ []) refl ∷
      []) refl;
}
