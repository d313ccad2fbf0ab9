-- Units that call one builtin or two.
use Rattle.std.specs.Prelude.{[], ◌∷◌, refl, ◌++◌, pos, negsuc, false, codes}
use Rattle.std.specs.Global.{Global}
use Rattle.t_base.specs.declared.builtins.Builtin.TheVariants.{Add, AsciiToChar, Car, Cdr, CharToAscii, Cons, Eq, Error, MakeVector, Newline, PutFixnum, PutString, Quotient, Remainder, SetCdr, SetVref, StringElt, StringLength, Sub, SymbolToString, VectorLength, Vref}
use Rattle.t_base.specs.declared.shared_parts.GlobalKind.TheVariants.{Proc}
use Rattle.t_base.specs.declared.shared_parts.Const.TheVariants as Constant
use Rattle.t_core.specs.declared.forms.Core.TheVariants as Node
use Rattle.t_core.specs.declared.forms.UnitCore.{UnitCore}
use Rattle.rows_meaning.specs.Writing.{vec_of, fix, nil, local, lambda, bind, labels, catch, plain, define, global, first_names, bare}

-- (+ 1 nil)
abbrev pub add_nil : Global → UnitCore
add_nil alloc = record {
  shared = bare alloc 3;
  forms = vec_of alloc (
      plain alloc (fix 1 ∷ nil ∷ Node.Prim Add (0 ∷ 1 ∷ []) ∷ []) refl ∷
      []) refl;
}

-- (car 5)
abbrev pub car_of_number : Global → UnitCore
car_of_number alloc = record {
  shared = bare alloc 2;
  forms = vec_of alloc (
      plain alloc (fix 5 ∷ Node.Prim Car (0 ∷ []) ∷ []) refl ∷
      []) refl;
}

-- (vref 1 0)
abbrev pub vref_of_number : Global → UnitCore
vref_of_number alloc = record {
  shared = bare alloc 3;
  forms = vec_of alloc (
      plain alloc (fix 1 ∷ fix 0 ∷ Node.Prim Vref (0 ∷ 1 ∷ []) ∷ []) refl ∷
      []) refl;
}

-- (vref (make-vector 2) 2)
abbrev pub vref_past_end : Global → UnitCore
vref_past_end alloc = record {
  shared = bare alloc 4;
  forms = vec_of alloc (
      plain alloc (fix 2 ∷ Node.Prim MakeVector (0 ∷ []) ∷ fix 2 ∷ Node.Prim Vref (1 ∷ 2 ∷ []) ∷ []) refl ∷
      []) refl;
}

-- (make-vector -1)
abbrev pub negative_vector : Global → UnitCore
negative_vector alloc = record {
  shared = bare alloc 2;
  forms = vec_of alloc (
      plain alloc (Node.Const (Constant.Fix (negsuc 0)) ∷ Node.Prim MakeVector (0 ∷ []) ∷ []) refl ∷
      []) refl;
}

-- (+ 536870911 1)
abbrev pub sum_too_large : Global → UnitCore
sum_too_large alloc = record {
  shared = bare alloc 3;
  forms = vec_of alloc (
      plain alloc (fix 536870911 ∷ fix 1 ∷ Node.Prim Add (0 ∷ 1 ∷ []) ∷ []) refl ∷
      []) refl;
}

-- (put-fixnum (remainder -536870912 -1)) (quotient -536870912 -1)
abbrev pub quotient_too_large : Global → UnitCore
quotient_too_large alloc = record {
  shared = bare alloc 4;
  forms = vec_of alloc (
      plain alloc (Node.Const (Constant.Fix (negsuc 536870911)) ∷ Node.Const (Constant.Fix (negsuc 0)) ∷
      Node.Prim Remainder (0 ∷ 1 ∷ []) ∷ Node.Prim PutFixnum (2 ∷ []) ∷ []) refl ∷
      plain alloc (Node.Const (Constant.Fix (negsuc 536870911)) ∷ Node.Const (Constant.Fix (negsuc 0)) ∷
      Node.Prim Quotient (0 ∷ 1 ∷ []) ∷ []) refl ∷
      []) refl;
}

-- (quotient 1 0)
abbrev pub divide_by_zero : Global → UnitCore
divide_by_zero alloc = record {
  shared = bare alloc 3;
  forms = vec_of alloc (
      plain alloc (fix 1 ∷ fix 0 ∷ Node.Prim Quotient (0 ∷ 1 ∷ []) ∷ []) refl ∷
      []) refl;
}

-- (char->ascii 1)
abbrev pub code_of_number : Global → UnitCore
code_of_number alloc = record {
  shared = bare alloc 2;
  forms = vec_of alloc (
      plain alloc (fix 1 ∷ Node.Prim CharToAscii (0 ∷ []) ∷ []) refl ∷
      []) refl;
}

-- (string-length 5)
abbrev pub length_of_number : Global → UnitCore
length_of_number alloc = record {
  shared = bare alloc 2;
  forms = vec_of alloc (
      plain alloc (fix 5 ∷ Node.Prim StringLength (0 ∷ []) ∷ []) refl ∷
      []) refl;
}

-- (ascii->char 128)
abbrev pub char_past_end : Global → UnitCore
char_past_end alloc = record {
  shared = bare alloc 2;
  forms = vec_of alloc (
      plain alloc (fix 128 ∷ Node.Prim AsciiToChar (0 ∷ []) ∷ []) refl ∷
      []) refl;
}

-- (symbol->string 1)
abbrev pub name_of_number : Global → UnitCore
name_of_number alloc = record {
  shared = bare alloc 2;
  forms = vec_of alloc (
      plain alloc (fix 1 ∷ Node.Prim SymbolToString (0 ∷ []) ∷ []) refl ∷
      []) refl;
}

-- (put-string "a\"b") (newline) (error 42)
abbrev pub user_fault : Global → UnitCore
user_fault alloc = record {
  shared = record (bare alloc 2) {
    strings = vec_of alloc (codes "a\"b" ∷ []) refl;
  };
  forms = vec_of alloc (
      plain alloc (Node.Const (Constant.Str 0) ∷ Node.Prim PutString (0 ∷ []) ∷ []) refl ∷
      plain alloc (Node.Prim Newline [] ∷ []) refl ∷
      plain alloc (fix 42 ∷ Node.Prim Error (0 ∷ []) ∷ []) refl ∷
      []) refl;
}

-- (+ 536870910 1)
abbrev pub largest_sum : Global → UnitCore
largest_sum alloc = record {
  shared = bare alloc 3;
  forms = vec_of alloc (
      plain alloc (fix 536870910 ∷ fix 1 ∷ Node.Prim Add (0 ∷ 1 ∷ []) ∷ []) refl ∷
      []) refl;
}

-- (string-elt "ab" 1)
abbrev pub last_char : Global → UnitCore
last_char alloc = record {
  shared = record (bare alloc 3) {
    strings = vec_of alloc (codes "ab" ∷ []) refl;
  };
  forms = vec_of alloc (
      plain alloc (Node.Const (Constant.Str 0) ∷ fix 1 ∷ Node.Prim StringElt (0 ∷ 1 ∷ []) ∷ []) refl ∷
      []) refl;
}

-- (eq? "a" "a")
abbrev pub two_literals : Global → UnitCore
two_literals alloc = record {
  shared = record (bare alloc 3) {
    strings = vec_of alloc (codes "a" ∷ codes "a" ∷ []) refl;
  };
  forms = vec_of alloc (
      plain alloc (Node.Const (Constant.Str 0) ∷ Node.Const (Constant.Str 1) ∷ Node.Prim Eq (0 ∷ 1 ∷ []) ∷ []) refl ∷
      []) refl;
}

-- (let ((s "a")) (eq? s s))
abbrev pub one_literal : Global → UnitCore
one_literal alloc = record {
  shared = record (bare alloc 6) {
    strings = vec_of alloc (codes "a" ∷ []) refl;
  };
  forms = vec_of alloc (
      plain alloc (Node.Const (Constant.Str 0) ∷ local 0 ∷ local 0 ∷ Node.Prim Eq (1 ∷ 2 ∷ []) ∷ bind (0 ∷ []) (0 ∷ []) 3 ∷ []) refl ∷
      []) refl;
}

-- (eq? car car)
abbrev pub one_builtin : Global → UnitCore
one_builtin alloc = record {
  shared = bare alloc 3;
  forms = vec_of alloc (
      plain alloc (Node.Builtin Car ∷ Node.Builtin Car ∷ Node.Prim Eq (0 ∷ 1 ∷ []) ∷ []) refl ∷
      []) refl;
}

-- (eq? (symbol->string 'a) (symbol->string 'a))
abbrev pub one_print_name : Global → UnitCore
one_print_name alloc = record {
  shared = record (bare alloc 5) {
    names = first_names ++ codes "a" ∷ [];
  };
  forms = vec_of alloc (
      plain alloc (Node.Const (Constant.Sym (record { 0 = 3 })) ∷ Node.Prim SymbolToString (0 ∷ []) ∷
      Node.Const (Constant.Sym (record { 0 = 3 })) ∷ Node.Prim SymbolToString (2 ∷ []) ∷ Node.Prim Eq (1 ∷ 3 ∷ []) ∷ []) refl ∷
      []) refl;
}

-- (define (f) '(1)) (eq? (f) (f))
abbrev pub one_quoted_pair : Global → UnitCore
one_quoted_pair alloc = record {
  shared = record (bare alloc 5) {
    names = first_names ++ codes "f" ∷ [];
    pairs = vec_of alloc ((Constant.Fix (pos 1), Constant.Nil) ∷ []) refl;
    globals = vec_of alloc (global 3 Proc ∷ []) refl;
  };
  forms = vec_of alloc (
      define alloc 0 (Node.Const (Constant.Pair 0) ∷ lambda [] 0 ∷ []) refl ∷
      plain alloc (Node.Global 0 ∷ Node.Call 0 [] false ∷ Node.Global 0 ∷ Node.Call 2 [] false ∷ Node.Prim Eq (1 ∷ 3 ∷ []) ∷ []) refl ∷
      []) refl;
}

-- (labels (((f) (lambda () 1))) (eq? (f) (f)))
abbrev pub two_closures : Global → UnitCore
two_closures alloc = record {
  shared = bare alloc 10;
  forms = vec_of alloc (
      plain alloc (fix 1 ∷ lambda [] 0 ∷ lambda [] 1 ∷ local 0 ∷ Node.Call 3 [] false ∷ local 0 ∷ Node.Call 5 [] false ∷
      Node.Prim Eq (4 ∷ 6 ∷ []) ∷ labels (0 ∷ []) (2 ∷ []) 7 ∷ []) refl ∷
      []) refl;
}

-- (let ((p (cons 1 2))) (set (cdr p) 5) (- (cdr p) (car p)))
abbrev pub changed_pair : Global → UnitCore
changed_pair alloc = record {
  shared = bare alloc 14;
  forms = vec_of alloc (
      plain alloc (fix 1 ∷ fix 2 ∷ Node.Prim Cons (0 ∷ 1 ∷ []) ∷ local 0 ∷ fix 5 ∷ Node.Prim SetCdr (3 ∷ 4 ∷ []) ∷ local 0 ∷
      Node.Prim Cdr (6 ∷ []) ∷ local 0 ∷ Node.Prim Car (8 ∷ []) ∷ Node.Prim Sub (7 ∷ 9 ∷ []) ∷ Node.Block (5 ∷ 10 ∷ []) ∷
      bind (0 ∷ []) (2 ∷ []) 11 ∷ []) refl ∷
      []) refl;
}

-- (let ((v (make-vector 3)))
--   (set (vref v 1) 7) (put-fixnum (vref v 0)) (put-fixnum (vref v 1)) (put-fixnum (vref v 2)) (vector-length v))
abbrev pub changed_vector : Global → UnitCore
changed_vector alloc = record {
  shared = bare alloc 23;
  forms = vec_of alloc (
      plain alloc (fix 3 ∷ Node.Prim MakeVector (0 ∷ []) ∷ local 0 ∷ fix 1 ∷ fix 7 ∷ Node.Prim SetVref (2 ∷ 3 ∷ 4 ∷ []) ∷
      local 0 ∷ fix 0 ∷ Node.Prim Vref (6 ∷ 7 ∷ []) ∷ Node.Prim PutFixnum (8 ∷ []) ∷ local 0 ∷ fix 1 ∷
      Node.Prim Vref (10 ∷ 11 ∷ []) ∷ Node.Prim PutFixnum (12 ∷ []) ∷ local 0 ∷ fix 2 ∷ Node.Prim Vref (14 ∷ 15 ∷ []) ∷
      Node.Prim PutFixnum (16 ∷ []) ∷ local 0 ∷ Node.Prim VectorLength (18 ∷ []) ∷ Node.Block (5 ∷ 9 ∷ 13 ∷ 17 ∷ 19 ∷ []) ∷
      bind (0 ∷ []) (1 ∷ []) 20 ∷ []) refl ∷
      []) refl;
}

-- #\a
abbrev pub shown_char : Global → UnitCore
shown_char alloc = record {
  shared = bare alloc 1;
  forms = vec_of alloc (
      plain alloc (Node.Const (Constant.Char 97) ∷ []) refl ∷
      []) refl;
}

-- t
abbrev pub shown_true : Global → UnitCore
shown_true alloc = record {
  shared = bare alloc 1;
  forms = vec_of alloc (
      plain alloc (Node.Const Constant.True ∷ []) refl ∷
      []) refl;
}

-- 'ab
abbrev pub shown_symbol : Global → UnitCore
shown_symbol alloc = record {
  shared = record (bare alloc 1) {
    names = first_names ++ codes "ab" ∷ [];
  };
  forms = vec_of alloc (
      plain alloc (Node.Const (Constant.Sym (record { 0 = 3 })) ∷ []) refl ∷
      []) refl;
}

-- '(1)
abbrev pub shown_pair : Global → UnitCore
shown_pair alloc = record {
  shared = record (bare alloc 3) {
    pairs = vec_of alloc ((Constant.Fix (pos 1), Constant.Nil) ∷ []) refl;
  };
  forms = vec_of alloc (
      plain alloc (Node.Const (Constant.Pair 0) ∷ []) refl ∷
      []) refl;
}

-- (make-vector 0)
abbrev pub shown_vector : Global → UnitCore
shown_vector alloc = record {
  shared = bare alloc 2;
  forms = vec_of alloc (
      plain alloc (fix 0 ∷ Node.Prim MakeVector (0 ∷ []) ∷ []) refl ∷
      []) refl;
}

-- "a"
abbrev pub shown_string : Global → UnitCore
shown_string alloc = record {
  shared = record (bare alloc 1) {
    strings = vec_of alloc (codes "a" ∷ []) refl;
  };
  forms = vec_of alloc (
      plain alloc (Node.Const (Constant.Str 0) ∷ []) refl ∷
      []) refl;
}

-- car
abbrev pub shown_builtin : Global → UnitCore
shown_builtin alloc = record {
  shared = bare alloc 1;
  forms = vec_of alloc (
      plain alloc (Node.Builtin Car ∷ []) refl ∷
      []) refl;
}

-- (lambda () 1)
abbrev pub shown_closure : Global → UnitCore
shown_closure alloc = record {
  shared = bare alloc 2;
  forms = vec_of alloc (
      plain alloc (fix 1 ∷ lambda [] 0 ∷ []) refl ∷
      []) refl;
}

-- (catch j j)
abbrev pub shown_escape : Global → UnitCore
shown_escape alloc = record {
  shared = bare alloc 3;
  forms = vec_of alloc (
      plain alloc (local 0 ∷ catch 0 0 ∷ []) refl ∷
      []) refl;
}

-- (object nil)
abbrev pub shown_object : Global → UnitCore
shown_object alloc = record {
  shared = bare alloc 2;
  forms = vec_of alloc (
      plain alloc (nil ∷ Node.Object 0 [] ∷ []) refl ∷
      []) refl;
}

-- setter
abbrev pub shown_operation : Global → UnitCore
shown_operation alloc = record {
  shared = bare alloc 1;
  forms = vec_of alloc (
      plain alloc (Node.Op 0 ∷ []) refl ∷
      []) refl;
}
