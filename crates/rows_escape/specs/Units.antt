-- Units by the nodes of their forms. Above each stands its text.
use Rattle.std.specs.Prelude.{ℕ, List, [], ◌∷◌, true, false, pos}
use Rattle.t_base.specs.declared.basics.Var.{Var}
use Rattle.t_base.specs.declared.builtins.Builtin.TheVariants.{Add, Sub, NumEq, IsNull, Car, Cdr, Cons}
use Rattle.t_base.specs.declared.shared_parts.Const.TheVariants as Constant
use Rattle.t_core.specs.declared.forms.Core.{Core}
use Rattle.t_core.specs.declared.forms.Core.TheVariants as Node
use Rattle.t_core.specs.declared.forms.FormKind.{FormKind}
use Rattle.t_core.specs.declared.forms.FormKind.TheVariants.{Define, Lset, Operation, Plain}
use Rattle.t_meaning.specs.EscapeFacts.{Tree}

abbrev pub var : ℕ → Var
var n = record { 0 = n }

abbrev pub local : ℕ → Core
local n = Node.Local (var n)

abbrev pub number : ℕ → Core
number n = Node.Const (Constant.Fix (pos n))

abbrev pub tree : FormKind → List Core → ℕ → Tree
tree kind nodes root = record { kind = kind; nodes = nodes; root = root }

-- (define (each f l) (if (null? l) nil (block (f (car l)) (each f (cdr l)))))
abbrev pub each : Tree
each =
    tree (Define 0)
    (local 1
    ∷ Node.Prim IsNull (0 ∷ [])
    ∷ Node.Const Constant.Nil
    ∷ local 0
    ∷ local 1
    ∷ Node.Prim Car (4 ∷ [])
    ∷ Node.Call 3 (5 ∷ []) false
    ∷ Node.Global 0
    ∷ local 0
    ∷ local 1
    ∷ Node.Prim Cdr (9 ∷ [])
    ∷ Node.Call 7 (8 ∷ 10 ∷ []) true
    ∷ Node.Block (6 ∷ 11 ∷ [])
    ∷ Node.If 1 2 12
    ∷ Node.Lambda (var 0 ∷ var 1 ∷ []) 13
    ∷ [])
    14

-- (lset s 0)
abbrev pub sum : Tree
sum = tree (Lset 1) (number 0 ∷ []) 0

-- s
abbrev pub sum_value : Tree
sum_value = tree Plain (Node.Global 1 ∷ []) 0

-- (each (lambda (x) (set s (+ s x))) (list 1 2 3 4 5 6 7 8))
abbrev pub each_of_eight : Tree
each_of_eight =
    tree Plain
    (Node.Global 0
    ∷ Node.Global 1
    ∷ local 2
    ∷ Node.Prim Add (1 ∷ 2 ∷ [])
    ∷ Node.SetGlobal 1 3
    ∷ Node.Lambda (var 2 ∷ []) 4
    ∷ number 1
    ∷ number 2
    ∷ number 3
    ∷ number 4
    ∷ number 5
    ∷ number 6
    ∷ number 7
    ∷ number 8
    ∷ Node.Const Constant.Nil
    ∷ Node.Prim Cons (13 ∷ 14 ∷ [])
    ∷ Node.Prim Cons (12 ∷ 15 ∷ [])
    ∷ Node.Prim Cons (11 ∷ 16 ∷ [])
    ∷ Node.Prim Cons (10 ∷ 17 ∷ [])
    ∷ Node.Prim Cons (9 ∷ 18 ∷ [])
    ∷ Node.Prim Cons (8 ∷ 19 ∷ [])
    ∷ Node.Prim Cons (7 ∷ 20 ∷ [])
    ∷ Node.Prim Cons (6 ∷ 21 ∷ [])
    ∷ Node.Call 0 (5 ∷ 22 ∷ []) false
    ∷ [])
    23

abbrev pub passed_down : List Tree
passed_down = each ∷ sum ∷ each_of_eight ∷ sum_value ∷ []

-- (define (go l) (each (lambda (x) (set s (+ s x))) l))
abbrev pub go : Tree
go =
    tree (Define 2)
    (Node.Global 0 ∷ Node.Global 1 ∷ local 2 ∷ Node.Prim Add (1 ∷ 2 ∷ []) ∷ Node.SetGlobal 1 3 ∷ Node.Lambda (var 2 ∷ []) 4 ∷ local 3 ∷ Node.Call 0 (5 ∷ 6 ∷ []) true ∷ Node.Lambda (var 3 ∷ []) 7 ∷ [])
    8

-- (go '(1 2 3))
abbrev pub go_of_three : Tree
go_of_three = tree Plain (Node.Global 2 ∷ Node.Const (Constant.Pair 2) ∷ Node.Call 0 (1 ∷ []) false ∷ []) 2

abbrev pub passed_by_a_tail_call : List Tree
passed_by_a_tail_call = each ∷ sum ∷ go ∷ go_of_three ∷ sum_value ∷ []

-- (define (app f) (+ (f 1) 0))
abbrev pub app : Tree
app = tree (Define 0) (local 0 ∷ number 1 ∷ Node.Call 0 (1 ∷ []) false ∷ number 0 ∷ Node.Prim Add (2 ∷ 3 ∷ []) ∷ Node.Lambda (var 0 ∷ []) 4 ∷ []) 5

-- (define (a x) (+ (app (lambda (y) (+ x y))) 0))
abbrev pub a : Tree
a =
    tree (Define 1)
    (Node.Global 0 ∷ local 1 ∷ local 2 ∷ Node.Prim Add (1 ∷ 2 ∷ []) ∷ Node.Lambda (var 2 ∷ []) 3 ∷ Node.Call 0 (4 ∷ []) false ∷ number 0 ∷ Node.Prim Add (5 ∷ 6 ∷ []) ∷ Node.Lambda (var 1 ∷ []) 7 ∷ [])
    8

-- (+ (a 10) (a 20))
abbrev pub sum_of_both : Tree
sum_of_both = tree Plain (Node.Global 1 ∷ number 10 ∷ Node.Call 0 (1 ∷ []) false ∷ Node.Global 1 ∷ number 20 ∷ Node.Call 3 (4 ∷ []) false ∷ Node.Prim Add (2 ∷ 5 ∷ []) ∷ []) 6

abbrev pub passed_with_free_variable : List Tree
passed_with_free_variable = app ∷ a ∷ sum_of_both ∷ []

-- (define (make f) (labels (((g x) (f x))) (lambda (y) (g y))))
abbrev pub make : Tree
make =
    tree (Define 0)
    (local 0
    ∷ local 2
    ∷ Node.Call 0 (1 ∷ []) true
    ∷ Node.Lambda (var 2 ∷ []) 2
    ∷ local 1
    ∷ local 3
    ∷ Node.Call 4 (5 ∷ []) true
    ∷ Node.Lambda (var 3 ∷ []) 6
    ∷ Node.Labels (var 1 ∷ []) (3 ∷ []) 7
    ∷ Node.Lambda (var 0 ∷ []) 8
    ∷ [])
    9

-- (define (use) (let ((h (make (lambda (z) (+ z 100))))) (h 5)))
abbrev pub use_ : Tree
use_ =
    tree (Define 1)
    (Node.Global 0
    ∷ local 5
    ∷ number 100
    ∷ Node.Prim Add (1 ∷ 2 ∷ [])
    ∷ Node.Lambda (var 5 ∷ []) 3
    ∷ Node.Call 0 (4 ∷ []) false
    ∷ local 4
    ∷ number 5
    ∷ Node.Call 6 (7 ∷ []) true
    ∷ Node.Let (var 4 ∷ []) (5 ∷ []) 8
    ∷ Node.Lambda [] 9
    ∷ [])
    10

-- (use)
abbrev pub use_call : Tree
use_call = tree Plain (Node.Global 1 ∷ Node.Call 0 [] false ∷ []) 1

abbrev pub reached_by_a_known_name : List Tree
reached_by_a_known_name = make ∷ use_ ∷ use_call ∷ []

-- (iterate loop ((i 0)) (if (= i 1000) i (let ((g (lambda (y) (+ y i)))) (loop (- (g 1) (- (g 0) i))))))
abbrev pub called_in_a_loop : List Tree
called_in_a_loop =
    tree Plain
    (local 1
    ∷ number 1000
    ∷ Node.Prim NumEq (0 ∷ 1 ∷ [])
    ∷ local 1
    ∷ local 3
    ∷ local 1
    ∷ Node.Prim Add (4 ∷ 5 ∷ [])
    ∷ Node.Lambda (var 3 ∷ []) 6
    ∷ local 0
    ∷ local 2
    ∷ number 1
    ∷ Node.Call 9 (10 ∷ []) false
    ∷ local 2
    ∷ number 0
    ∷ Node.Call 12 (13 ∷ []) false
    ∷ local 1
    ∷ Node.Prim Sub (14 ∷ 15 ∷ [])
    ∷ Node.Prim Sub (11 ∷ 16 ∷ [])
    ∷ Node.Call 8 (17 ∷ []) true
    ∷ Node.Let (var 2 ∷ []) (7 ∷ []) 18
    ∷ Node.If 2 3 19
    ∷ Node.Lambda (var 1 ∷ []) 20
    ∷ local 0
    ∷ number 0
    ∷ Node.Call 22 (23 ∷ []) false
    ∷ Node.Labels (var 0 ∷ []) (21 ∷ []) 24
    ∷ [])
    25
    ∷ []

-- (catch j (app (lambda (y) (j y))))
abbrev pub escape_in_a_lambda : List Tree
escape_in_a_lambda =
    app
    ∷ tree Plain (Node.Global 0 ∷ local 1 ∷ local 2 ∷ Node.Call 1 (2 ∷ []) true ∷ Node.Lambda (var 2 ∷ []) 3 ∷ Node.Call 0 (4 ∷ []) false ∷ Node.Catch (var 1) 5 ∷ []) 6
    ∷ []

-- ((lambda (f) (+ (f 1) 0)) (lambda (y) y))
abbrev pub operand_of_a_lambda : List Tree
operand_of_a_lambda =
    tree Plain
    (local 0 ∷ number 1 ∷ Node.Call 0 (1 ∷ []) false ∷ number 0 ∷ Node.Prim Add (2 ∷ 3 ∷ []) ∷ Node.Lambda (var 0 ∷ []) 4 ∷ local 1 ∷ Node.Lambda (var 1 ∷ []) 6 ∷ Node.Call 5 (7 ∷ []) false ∷ [])
    8
    ∷ []

-- (define-operation (op s))
-- (define (make p) (object nil ((op self) (p 1))))
-- (make (lambda (x) 5))
abbrev pub reached_by_a_method : List Tree
reached_by_a_method =
    tree (Operation 3) [] 0
    ∷ tree (Define 0)
    (Node.Const Constant.Nil
    ∷ local 0
    ∷ number 1
    ∷ Node.Call 1 (2 ∷ []) true
    ∷ Node.Object 0 (record { op = 3; params = var 1 ∷ []; body = 3 } ∷ [])
    ∷ Node.Lambda (var 0 ∷ []) 4
    ∷ [])
    5
    ∷ tree Plain (Node.Global 0 ∷ number 5 ∷ Node.Lambda (var 2 ∷ []) 1 ∷ Node.Call 0 (2 ∷ []) false ∷ []) 3
    ∷ []

-- (define (tail) (let ((g (lambda (y) y))) (app g)))
-- (define (stay) (let ((h (lambda (z) z))) (+ (app h) 0)))
abbrev pub name_passed : List Tree
name_passed =
    app
    ∷ tree (Define 1) (local 2 ∷ Node.Lambda (var 2 ∷ []) 0 ∷ Node.Global 0 ∷ local 1 ∷ Node.Call 2 (3 ∷ []) true ∷ Node.Let (var 1 ∷ []) (1 ∷ []) 4 ∷ Node.Lambda [] 5 ∷ []) 6
    ∷ tree (Define 2)
    (local 4 ∷ Node.Lambda (var 4 ∷ []) 0 ∷ Node.Global 0 ∷ local 3 ∷ Node.Call 2 (3 ∷ []) false ∷ number 0 ∷ Node.Prim Add (4 ∷ 5 ∷ []) ∷ Node.Let (var 3 ∷ []) (1 ∷ []) 6 ∷ Node.Lambda [] 7 ∷ [])
    8
    ∷ []

-- (define (g) 1)
-- (g (lambda (x) 2))
abbrev pub past_the_parameters : List Tree
past_the_parameters =
    tree (Define 0) (number 1 ∷ Node.Lambda [] 0 ∷ []) 1
    ∷ tree Plain (Node.Global 0 ∷ number 2 ∷ Node.Lambda (var 0 ∷ []) 1 ∷ Node.Call 0 (2 ∷ []) false ∷ []) 3
    ∷ []

-- (let ((f (lambda () 1))) (set f 2))
abbrev pub assigned_name : List Tree
assigned_name = tree Plain (number 1 ∷ Node.Lambda [] 0 ∷ number 2 ∷ Node.SetLocal (var 0) 2 ∷ Node.Let (var 0 ∷ []) (1 ∷ []) 3 ∷ []) 4 ∷ []
