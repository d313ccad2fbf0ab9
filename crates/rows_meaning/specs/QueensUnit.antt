-- A unit that counts placements of queens.
use Rattle.std.specs.Prelude.{[], ◌∷◌, refl, ◌++◌, true, false, codes}
use Rattle.std.specs.Global.{Global}
use Rattle.t_base.specs.declared.builtins.Builtin.TheVariants.{Add, Car, Cdr, Cons, IsNull, Newline, NumEq, NumGt, PutFixnum, PutString, Sub}
use Rattle.t_base.specs.declared.shared_parts.GlobalKind.TheVariants.{Proc}
use Rattle.t_base.specs.declared.shared_parts.Const.TheVariants as Constant
use Rattle.t_core.specs.declared.forms.Core.TheVariants as Node
use Rattle.t_core.specs.declared.forms.UnitCore.{UnitCore}
use Rattle.rows_meaning.specs.Writing.{vec_of, fix, nil, local, lambda, labels, plain, define, global, first_names, bare}

-- (define (ok? row dist placed)
--   (cond ((null? placed) #t)
--         ((= (car placed) row) nil)
--         ((= (car placed) (+ row dist)) nil)
--         ((= (car placed) (- row dist)) nil)
--         (else (ok? row (+ dist 1) (cdr placed)))))
-- (define (queens n)
--   (labels (((try row placed left)
--             (cond ((= left 0) 1)
--                   ((> row n) 0)
--                   (else (+ (if (ok? row 1 placed) (try 1 (cons row placed) (- left 1)) 0)
--                            (try (+ row 1) placed left))))))
--     (try 1 nil n)))
-- (define (show n) (put-string "queens ") (put-fixnum n) (put-string ": ") (put-fixnum (queens n)) (newline))
-- (iterate next ((n 1)) (if (> n 4) 'done (block (show n) (next (+ n 1)))))
abbrev pub queens : Global → UnitCore
queens alloc = record {
  shared = record (bare alloc 48) {
    names = first_names ++ codes "ok?" ∷ codes "queens" ∷ codes "show" ∷ codes "done" ∷ [];
    strings = vec_of alloc (codes "queens " ∷ codes ": " ∷ []) refl;
    globals = vec_of alloc (global 3 Proc ∷ global 4 Proc ∷ global 5 Proc ∷ []) refl;
  };
  forms = vec_of alloc (
      define alloc 0 (local 2 ∷ Node.Prim IsNull (0 ∷ []) ∷ Node.Const Constant.True ∷ local 2 ∷ Node.Prim Car (3 ∷ []) ∷
      local 0 ∷ Node.Prim NumEq (4 ∷ 5 ∷ []) ∷ nil ∷ local 2 ∷ Node.Prim Car (8 ∷ []) ∷ local 0 ∷ local 1 ∷
      Node.Prim Add (10 ∷ 11 ∷ []) ∷ Node.Prim NumEq (9 ∷ 12 ∷ []) ∷ nil ∷ local 2 ∷ Node.Prim Car (15 ∷ []) ∷ local 0 ∷
      local 1 ∷ Node.Prim Sub (17 ∷ 18 ∷ []) ∷ Node.Prim NumEq (16 ∷ 19 ∷ []) ∷ nil ∷ Node.Global 0 ∷ local 0 ∷ local 1 ∷
      fix 1 ∷ Node.Prim Add (24 ∷ 25 ∷ []) ∷ local 2 ∷ Node.Prim Cdr (27 ∷ []) ∷ Node.Call 22 (23 ∷ 26 ∷ 28 ∷ []) true ∷
      Node.If 20 21 29 ∷ Node.If 13 14 30 ∷ Node.If 6 7 31 ∷ Node.If 1 2 32 ∷ lambda (0 ∷ 1 ∷ 2 ∷ []) 33 ∷ []) refl ∷
      define alloc 1 (local 7 ∷ fix 0 ∷ Node.Prim NumEq (0 ∷ 1 ∷ []) ∷ fix 1 ∷ local 5 ∷ local 3 ∷
      Node.Prim NumGt (4 ∷ 5 ∷ []) ∷ fix 0 ∷ Node.Global 0 ∷ local 5 ∷ fix 1 ∷ local 6 ∷
      Node.Call 8 (9 ∷ 10 ∷ 11 ∷ []) false ∷ local 4 ∷ fix 1 ∷ local 5 ∷ local 6 ∷ Node.Prim Cons (15 ∷ 16 ∷ []) ∷ local 7 ∷
      fix 1 ∷ Node.Prim Sub (18 ∷ 19 ∷ []) ∷ Node.Call 13 (14 ∷ 17 ∷ 20 ∷ []) false ∷ fix 0 ∷ Node.If 12 21 22 ∷ local 4 ∷
      local 5 ∷ fix 1 ∷ Node.Prim Add (25 ∷ 26 ∷ []) ∷ local 6 ∷ local 7 ∷ Node.Call 24 (27 ∷ 28 ∷ 29 ∷ []) false ∷
      Node.Prim Add (23 ∷ 30 ∷ []) ∷ Node.If 6 7 31 ∷ Node.If 2 3 32 ∷ lambda (5 ∷ 6 ∷ 7 ∷ []) 33 ∷ local 4 ∷ fix 1 ∷ nil ∷
      local 3 ∷ Node.Call 35 (36 ∷ 37 ∷ 38 ∷ []) true ∷ labels (4 ∷ []) (34 ∷ []) 39 ∷ lambda (3 ∷ []) 40 ∷ []) refl ∷
      define alloc 2 (Node.Const (Constant.Str 0) ∷ Node.Prim PutString (0 ∷ []) ∷ local 8 ∷ Node.Prim PutFixnum (2 ∷ []) ∷
      Node.Const (Constant.Str 1) ∷ Node.Prim PutString (4 ∷ []) ∷ Node.Global 1 ∷ local 8 ∷ Node.Call 6 (7 ∷ []) false ∷
      Node.Prim PutFixnum (8 ∷ []) ∷ Node.Prim Newline [] ∷ Node.Block (1 ∷ 3 ∷ 5 ∷ 9 ∷ 10 ∷ []) ∷ lambda (8 ∷ []) 11 ∷ []) refl ∷
      plain alloc (local 10 ∷ fix 4 ∷ Node.Prim NumGt (0 ∷ 1 ∷ []) ∷ Node.Const (Constant.Sym (record { 0 = 6 })) ∷
      Node.Global 2 ∷ local 10 ∷ Node.Call 4 (5 ∷ []) false ∷ local 9 ∷ local 10 ∷ fix 1 ∷ Node.Prim Add (8 ∷ 9 ∷ []) ∷
      Node.Call 7 (10 ∷ []) true ∷ Node.Block (6 ∷ 11 ∷ []) ∷ Node.If 2 3 12 ∷ lambda (10 ∷ []) 13 ∷ local 9 ∷ fix 1 ∷
      Node.Call 15 (16 ∷ []) false ∷ labels (9 ∷ []) (14 ∷ []) 17 ∷ []) refl ∷
      []) refl;
}
