-- Units that take heap.
use Rattle.std.specs.Prelude.{[], ◌∷◌, refl, ◌++◌, pos, true, false, codes}
use Rattle.std.specs.Global.{Global}
use Rattle.t_base.specs.declared.builtins.Builtin.TheVariants.{Add, Car, Cdr, Cons, IsNull, MakeVector}
use Rattle.t_base.specs.declared.shared_parts.GlobalKind.TheVariants.{Proc, Variable}
use Rattle.t_base.specs.declared.shared_parts.Const.TheVariants as Constant
use Rattle.t_core.specs.declared.forms.Core.TheVariants as Node
use Rattle.t_core.specs.declared.forms.UnitCore.{UnitCore}
use Rattle.rows_meaning.specs.Writing.{vec_of, fix, nil, local, lambda, bind, labels, assign, catch, plain, define, lset, global, first_names, bare}

-- (cons (make-vector 3) (make-vector 4))
abbrev pub pair_and_vectors : Global → UnitCore
pair_and_vectors alloc = record {
  shared = bare alloc 5;
  forms = vec_of alloc (
      plain alloc (fix 3 ∷ Node.Prim MakeVector (0 ∷ []) ∷ fix 4 ∷ Node.Prim MakeVector (2 ∷ []) ∷ Node.Prim Cons (1 ∷ 3 ∷ []) ∷
      []) refl ∷
      []) refl;
}

-- (let ((x 1) (y 2)) (set x y) x)
abbrev pub assigned_binding : Global → UnitCore
assigned_binding alloc = record {
  shared = bare alloc 9;
  forms = vec_of alloc (
      plain alloc (fix 1 ∷ fix 2 ∷ local 1 ∷ assign 0 2 ∷ local 0 ∷ Node.Block (3 ∷ 4 ∷ []) ∷ bind (0 ∷ 1 ∷ []) (0 ∷ 1 ∷ []) 5 ∷
      []) refl ∷
      []) refl;
}

-- ((lambda (x) (set x 2) x) 1)
abbrev pub assigned_parameter : Global → UnitCore
assigned_parameter alloc = record {
  shared = bare alloc 8;
  forms = vec_of alloc (
      plain alloc (fix 2 ∷ assign 0 0 ∷ local 0 ∷ Node.Block (1 ∷ 2 ∷ []) ∷ lambda (0 ∷ []) 3 ∷ fix 1 ∷
      Node.Call 4 (5 ∷ []) false ∷ []) refl ∷
      []) refl;
}

-- (labels (((f) 1)) (set f 2) f)
abbrev pub assigned_label : Global → UnitCore
assigned_label alloc = record {
  shared = bare alloc 8;
  forms = vec_of alloc (
      plain alloc (fix 1 ∷ lambda [] 0 ∷ fix 2 ∷ assign 0 2 ∷ local 0 ∷ Node.Block (3 ∷ 4 ∷ []) ∷ labels (0 ∷ []) (1 ∷ []) 5 ∷
      []) refl ∷
      []) refl;
}

-- (catch j (set j 5) j)
abbrev pub assigned_escape : Global → UnitCore
assigned_escape alloc = record {
  shared = bare alloc 6;
  forms = vec_of alloc (
      plain alloc (fix 5 ∷ assign 0 0 ∷ local 0 ∷ Node.Block (1 ∷ 2 ∷ []) ∷ catch 0 3 ∷ []) refl ∷
      []) refl;
}

-- (define (each f l) (if (null? l) nil (block (f (car l)) (each f (cdr l)))))
-- (lset s 0)
-- (each (lambda (x) (set s (+ s x))) (list 1 2 3 4 5 6 7 8))
-- s
abbrev pub each_of_list : Global → UnitCore
each_of_list alloc = record {
  shared = record (bare alloc 25) {
    names = first_names ++ codes "each" ∷ codes "s" ∷ [];
    globals = vec_of alloc (global 3 Proc ∷ global 4 Variable ∷ []) refl;
  };
  forms = vec_of alloc (
      define alloc 0 (local 1 ∷ Node.Prim IsNull (0 ∷ []) ∷ nil ∷ local 0 ∷ local 1 ∷ Node.Prim Car (4 ∷ []) ∷
      Node.Call 3 (5 ∷ []) false ∷ Node.Global 0 ∷ local 0 ∷ local 1 ∷ Node.Prim Cdr (9 ∷ []) ∷
      Node.Call 7 (8 ∷ 10 ∷ []) true ∷ Node.Block (6 ∷ 11 ∷ []) ∷ Node.If 1 2 12 ∷ lambda (0 ∷ 1 ∷ []) 13 ∷ []) refl ∷
      lset alloc 1 (fix 0 ∷ []) refl ∷
      plain alloc (Node.Global 0 ∷ Node.Global 1 ∷ local 2 ∷ Node.Prim Add (1 ∷ 2 ∷ []) ∷ Node.SetGlobal 1 3 ∷
      lambda (2 ∷ []) 4 ∷ fix 1 ∷ fix 2 ∷ fix 3 ∷ fix 4 ∷ fix 5 ∷ fix 6 ∷ fix 7 ∷ fix 8 ∷ nil ∷
      Node.Prim Cons (13 ∷ 14 ∷ []) ∷ Node.Prim Cons (12 ∷ 15 ∷ []) ∷ Node.Prim Cons (11 ∷ 16 ∷ []) ∷
      Node.Prim Cons (10 ∷ 17 ∷ []) ∷ Node.Prim Cons (9 ∷ 18 ∷ []) ∷ Node.Prim Cons (8 ∷ 19 ∷ []) ∷
      Node.Prim Cons (7 ∷ 20 ∷ []) ∷ Node.Prim Cons (6 ∷ 21 ∷ []) ∷ Node.Call 0 (5 ∷ 22 ∷ []) false ∷ []) refl ∷
      plain alloc (Node.Global 1 ∷ []) refl ∷
      []) refl;
}

-- (define (each f l) (if (null? l) nil (block (f (car l)) (each f (cdr l)))))
-- (lset s 0)
-- (define (go l) (each (lambda (x) (set s (+ s x))) l))
-- (go '(1 2 3))
-- s
abbrev pub each_in_tail_place : Global → UnitCore
each_in_tail_place alloc = record {
  shared = record (bare alloc 18) {
    names = first_names ++ codes "each" ∷ codes "s" ∷ codes "go" ∷ [];
    pairs = vec_of alloc ((Constant.Fix (pos 3), Constant.Nil) ∷ (Constant.Fix (pos 2), Constant.Pair 0) ∷ (Constant.Fix (pos 1), Constant.Pair 1) ∷ []) refl;
    globals = vec_of alloc (global 3 Proc ∷ global 4 Variable ∷ global 5 Proc ∷ []) refl;
  };
  forms = vec_of alloc (
      define alloc 0 (local 1 ∷ Node.Prim IsNull (0 ∷ []) ∷ nil ∷ local 0 ∷ local 1 ∷ Node.Prim Car (4 ∷ []) ∷
      Node.Call 3 (5 ∷ []) false ∷ Node.Global 0 ∷ local 0 ∷ local 1 ∷ Node.Prim Cdr (9 ∷ []) ∷
      Node.Call 7 (8 ∷ 10 ∷ []) true ∷ Node.Block (6 ∷ 11 ∷ []) ∷ Node.If 1 2 12 ∷ lambda (0 ∷ 1 ∷ []) 13 ∷ []) refl ∷
      lset alloc 1 (fix 0 ∷ []) refl ∷
      define alloc 2 (Node.Global 0 ∷ Node.Global 1 ∷ local 3 ∷ Node.Prim Add (1 ∷ 2 ∷ []) ∷ Node.SetGlobal 1 3 ∷
      lambda (3 ∷ []) 4 ∷ local 2 ∷ Node.Call 0 (5 ∷ 6 ∷ []) true ∷ lambda (2 ∷ []) 7 ∷ []) refl ∷
      plain alloc (Node.Global 2 ∷ Node.Const (Constant.Pair 2) ∷ Node.Call 0 (1 ∷ []) false ∷ []) refl ∷
      plain alloc (Node.Global 1 ∷ []) refl ∷
      []) refl;
}
