-- What it means that frames lay out a program: a relation, by kinds of terms, and not the way to find them.
--
-- Each block has a purpose. A term is laid out by the rest of a block: by the closures that its arguments make, by its own operation, and
-- by what goes on with its value. Procedures have a code block, which fetches what they need from their closure, and go on in a block that
-- begins the body. A continuation that is written out, and the k of a Join, give a frame at a call: the variables that are needed behind it.
use Rattle.std.specs.Prelude.{◌≡◌, ℕ, suc, ◌+◌, ◌<◌, ◌≤◌, ◌==◌, nat_lt, Bool, true, false, List, [], ◌∷◌, ◌++◌, length, map, zip, Some, slice_get, IsSomeAnd, None}
use Rattle.std.specs.List.{AllByRecursion}
use Rattle.t_base.specs.declared.basics.Var.{Var}
use Rattle.t_base.specs.declared.builtins.Builtin.{Builtin}
use Rattle.t_base.specs.declared.shared_parts.Const.{Const}
use Rattle.cps_ir.specs.declared.args.Arg.{Arg}
use Rattle.cps_ir.specs.declared.args.Arg.TheVariants as Argument
use Rattle.cps_ir.specs.declared.terms.Cont.{Cont}
use Rattle.cps_ir.specs.declared.terms.Cont.TheVariants as Continuation
use Rattle.cps_ir.specs.declared.terms.Lam.{Lam}
use Rattle.cps_ir.specs.declared.terms.Term.{Term}
use Rattle.cps_ir.specs.declared.terms.Term.TheVariants as Node
use Rattle.cps_ir.specs.declared.terms.Cps.{Cps}
use Rattle.cps_ir.specs.Parts.{first_lams, is_assigned}
use Rattle.cps_ir.specs.Reaches.{is_in}
use Rattle.frame_ir.specs.declared.forms.Place.TheVariants as At
use Rattle.frame_ir.specs.declared.forms.FrameOp.{FrameOp}
use Rattle.frame_ir.specs.declared.forms.FrameOp.TheVariants as Op
use Rattle.frame_ir.specs.declared.forms.FrameEnd.{FrameEnd}
use Rattle.frame_ir.specs.declared.forms.FrameEnd.TheVariants as Last
use Rattle.frame_ir.specs.declared.forms.Block.{Block}
use Rattle.frame_ir.specs.declared.forms.Template.{Template}
use Rattle.frame_ir.specs.declared.forms.Frames.{Frames}
use Rattle.frame_ir.specs.Arguments.{code_of_global}
use Rattle.frame_ir.specs.Calls.{methods_of}
use Rattle.layout_relation.specs.Links.{IsIn, Zipped}
use Rattle.layout_relation.specs.Contexts.{Catching, Bare, Framed, PassesOn, Meeting, Exits, NoExit, OwnExit, JoinExit, Leaves, Meets, exit_of, IsUnneeded, Context, IsFresh, IsUnused, with_var, paired, Start, Return, Purpose, CodeOf, MethodOf, Begins, ArmOf, Resumes}

-- ---- the whole layout

-- What each block is for; the variables that each procedure needs of the scope in which its closure is made; which variables are cells;
-- a number for each term, which falls from a term to one behind it where the block may do nothing between them; and the templates of objects.
pub record Sketch : Type 0 where
  pub purposes : List Purpose
  pub needs : ℕ → List ℕ
  pub celled : ℕ → Bool
  pub rank : ℕ → ℕ
  pub templates : List Template

abbrev pub IsFor : Sketch → ℕ → Purpose → Type 0
IsFor w block purpose = slice_get w.purposes block ≡ Some purpose

-- ---- variables

abbrev pub numbers : List Var → List ℕ
numbers xs = map (λ x. x.0) xs

abbrev pub AreDistinct : List ℕ → Type 0
AreDistinct [] = Unit {0}
AreDistinct (x ∷ xs) = (is_in xs x ≡ false) × AreDistinct xs

-- the variables of the frames that hold these
abbrev pub AreHeld : List (ℕ × ℕ) → List ℕ → List Var → Type 0
AreHeld vars xs ys = Zipped (λ x y. IsIn (x, y.0) vars) xs ys

abbrev pub variables : List Var → List Arg
variables ys = map Argument.Var ys

-- a variable that is bound to a value where these are needed
pub record IsNewIn (w : Sketch) (needs : List ℕ) (exits : Exits) (x : ℕ) : Type 0 where
  pub plain : w.celled x ≡ false
  pub apart : is_in needs x ≡ false
  pub unneeded : IsUnneeded exits x

-- ---- what is fetched, from a frame or from a closure: `before` is held already, `behind` is held then, `apart` is a variable that stays

pub data Fetches (get : Var → ℕ → FrameOp) (apart : ℕ) (kept : List ℕ) : List (ℕ × ℕ) → List (ℕ × ℕ) → List FrameOp → Type 0 where
  fetches_none : (vars : List (ℕ × ℕ)) → Fetches get apart kept vars vars []
  fetches_one : (x : ℕ) (y : Var) (slot : ℕ) (before behind : List (ℕ × ℕ)) (ops : List FrameOp) → slice_get kept slot ≡ Some x
      → IsUnused before y.0 → (y.0 == apart) ≡ false
      → Fetches get apart kept ((x, y.0) ∷ before) behind ops → Fetches get apart kept before behind (get y slot ∷ ops)

-- ---- closures

-- the variables of the closures that some operations make
abbrev pub made_by : List FrameOp → List ℕ
made_by [] = []
made_by (Op.Closure to code kept at ∷ ops) = to.0 ∷ made_by ops
made_by (op ∷ ops) = made_by ops

-- a new closure of a LAMBDA on the heap, which keeps what the LAMBDA needs, in a variable that isn't made again by the operations behind it
pub record MakesClosure (cps : Cps) (w : Sketch) (vars : List (ℕ × ℕ)) (l : ℕ) (to : Var) (code : ℕ) (kept : List Var) (behind : List FrameOp) : Type 0 where
  pub lambda : nat_lt l (first_lams cps) ≡ false
  pub runs : IsFor w code (CodeOf l)
  pub holds : AreHeld vars (w.needs l) kept
  pub later : is_in (made_by behind) to.0 ≡ false

-- whether an operation makes a closure
abbrev pub is_closure : FrameOp → Bool
is_closure (Op.Closure to code kept at) = true
is_closure _ = false

-- closures directly behind each other are made at once, so what follows those of a term begins with another operation
abbrev pub StartsApart : List FrameOp → Type 0
StartsApart [] = Unit {0}
StartsApart (op ∷ ops) = is_closure op ≡ false

-- ---- arguments

pub data SameArg (cps : Cps) (w : Sketch) (vars : List (ℕ × ℕ)) : Arg → Arg → Type 0 where
  same_const : (k : Const) → SameArg cps w vars (Argument.Const k) (Argument.Const k)
  same_var : (x y : Var) → IsIn (x.0, y.0) vars → w.celled x.0 ≡ false → SameArg cps w vars (Argument.Var x) (Argument.Var y)
  same_global : (g code : ℕ) → code_of_global cps.shared g ≡ Some code → SameArg cps w vars (Argument.Global g) (Argument.Global g)
  same_builtin : (b : Builtin) → SameArg cps w vars (Argument.Builtin b) (Argument.Builtin b)
  same_op : (o : ℕ) → SameArg cps w vars (Argument.Op o) (Argument.Op o)

-- arguments, with the closures that are made for them
pub data Prepares (cps : Cps) (w : Sketch) (vars : List (ℕ × ℕ)) : List Arg → List FrameOp → List Arg → Type 0 where
  prepares_none : Prepares cps w vars [] [] []
  prepares_same : (a : Arg) (b : Arg) (args : List Arg) (made : List FrameOp) (bs : List Arg) → SameArg cps w vars a b → Prepares cps w vars args made bs → Prepares cps w vars (a ∷ args) made (b ∷ bs)
  prepares_closure : (l : ℕ) (to : Var) (code : ℕ) (kept : List Var) (args : List Arg) (made : List FrameOp) (bs : List Arg) → MakesClosure cps w vars l to code kept made → IsUnused vars to.0
      → Prepares cps w vars args made bs → Prepares cps w vars (Argument.Proc l ∷ args) (Op.Closure to code kept At.Heap ∷ made) (Argument.Var to ∷ bs)

-- the closures of a Labels, each of which sees all of its names
pub data Labels (cps : Cps) (w : Sketch) (vars : List (ℕ × ℕ)) : List Var → List ℕ → List FrameOp → List Var → Type 0 where
  labels_none : Labels cps w vars [] [] [] []
  labels_one : (x : Var) (l : ℕ) (to : Var) (code : ℕ) (kept : List Var) (xs : List Var) (lams : List ℕ) (made : List FrameOp) (tos : List Var) → MakesClosure cps w vars l to code kept made
      → Labels cps w vars xs lams made tos → Labels cps w vars (x ∷ xs) (l ∷ lams) (Op.Closure to code kept At.Heap ∷ made) (to ∷ tos)

-- the names of a Labels, with the variables that hold their closures
abbrev pub labelled : List Var → List Var → Context → Context
labelled xs tos c = record c { vars = paired (numbers xs) tos ++ c.vars }

-- ---- methods

-- an operation with a method, and the operation with the code of the method of an object that keeps these variables
pub record IsMethod (w : Sketch) (needs : List ℕ) (x y : ℕ × ℕ) : Type 0 where
  pub op : x.0 ≡ y.0
  pub runs : IsFor w y.1 (MethodOf x.1 needs)

-- ---- what goes on

-- so many variables a frame keeps or a jump passes, at most
abbrev pub most_needs : Cps → ℕ
most_needs cps = cps.shared.size + 2

-- the frame of a continuation
pub data Awaits (c : Context) : Cont → Return → Type 0 where
  awaits_lam : (param : Var) (body : ℕ) (kept : List ℕ)
      → Awaits c (Continuation.Lam param body) (record { kept = kept; param = param.0; body = body; exits = c.exits; catches = c.catches })
  awaits_join : (k : Var) (m : Meeting) (rest : Exits) → exit_of c.exits k.0 ≡ Meets m rest
      → Awaits c (Continuation.Var k) (record { kept = m.needs; param = m.param; body = m.body; exits = rest; catches = c.catches })

-- The rest of a block gives a value to a continuation: it returns it, jumps with it and with what is needed besides, or goes on in place,
-- with the value in the parameter or, where this isn't needed, nowhere.
mutual
  pub data Gives (cps : Cps) (w : Sketch) : Context → ℕ → Cont → Arg → List FrameOp → FrameEnd → Type 0 where
    gives_out : (c : Context) (t : ℕ) (k : Var) (a : Arg) → exit_of c.exits k.0 ≡ Leaves → c.catches ≡ []
        → Gives cps w c t (Continuation.Var k) a [] (Last.Return a)
    gives_join : (c : Context) (t : ℕ) (k : Var) (a : Arg) (m : Meeting) (rest : Exits) (ys : List Var) → exit_of c.exits k.0 ≡ Meets m rest
        → IsFor w m.block (Begins (record { vars = m.param ∷ m.needs; exits = rest; catches = c.catches; term = m.body }))
        → AreHeld c.vars m.needs ys → IsNewIn w m.needs rest m.param → length m.needs ≤ most_needs cps
        → Gives cps w c t (Continuation.Var k) a [] (Last.Jump m.block (a ∷ variables ys))
    gives_jump : (c : Context) (t : ℕ) (param : Var) (body : ℕ) (a : Arg) (block : ℕ) (needs : List ℕ) (ys : List Var)
        → IsFor w block (Begins (record { vars = param.0 ∷ needs; exits = c.exits; catches = c.catches; term = body }))
        → AreHeld c.vars needs ys → IsNewIn w needs c.exits param.0 → length needs ≤ most_needs cps
        → Gives cps w c t (Continuation.Lam param body) a [] (Last.Jump block (a ∷ variables ys))
    gives_here : (c : Context) (t : ℕ) (param : Var) (body : ℕ) (x : Var) (ops : List FrameOp) (last : FrameEnd) → IsFresh c param.0 → w.celled param.0 ≡ false → w.rank body < w.rank t
        → Lays cps w (with_var param.0 x.0 c) body ops last → Gives cps w c t (Continuation.Lam param body) (Argument.Var x) ops last
    gives_unused : (c : Context) (t : ℕ) (param : Var) (body : ℕ) (a : Arg) (ops : List FrameOp) (last : FrameEnd) → IsFresh c param.0 → w.rank body < w.rank t
        → Lays cps w c body ops last → Gives cps w c t (Continuation.Lam param body) a ops last

  -- a term that is laid out here, or in a block of its own
  pub data GoesOn (cps : Cps) (w : Sketch) : Context → ℕ → List FrameOp → FrameEnd → Type 0 where
    goes_here : (c : Context) (t : ℕ) (ops : List FrameOp) (last : FrameEnd) → Lays cps w c t ops last → GoesOn cps w c t ops last
    goes_to : (c : Context) (t block : ℕ) (needs : List ℕ) (ys : List Var) → IsFor w block (Begins (record { vars = needs; exits = c.exits; catches = c.catches; term = t }))
        → AreHeld c.vars needs ys → length needs ≤ most_needs cps + 1 → GoesOn cps w c t [] (Last.Jump block (variables ys))

  pub data Lays (cps : Cps) (w : Sketch) : Context → ℕ → List FrameOp → FrameEnd → Type 0 where
    lays : (c : Context) (t : ℕ) (term : Term) (ops : List FrameOp) (last : FrameEnd) → slice_get cps.terms.items t ≡ Some term → LaysTerm cps w c t term ops last → Lays cps w c t ops last

  -- by kinds of terms
  pub data LaysTerm (cps : Cps) (w : Sketch) : Context → ℕ → Term → List FrameOp → FrameEnd → Type 0 where
    -- a tail call: no frame
    lays_tail_call : (c : Context) (t : ℕ) (f : Arg) (args : List Arg) (k : Var) (made : List FrameOp) (g : Arg) (bs : List Arg) → Prepares cps w c.vars (f ∷ args) made (g ∷ bs)
        → exit_of c.exits k.0 ≡ Leaves → c.catches ≡ []
        → LaysTerm cps w c t (Node.Call f args (Continuation.Var k)) made (Last.Call g bs)
    lays_call : (c : Context) (t : ℕ) (f : Arg) (args : List Arg) (k : Cont) (made : List FrameOp) (g : Arg) (bs : List Arg) (return : Return) (kept : List Var) (back : ℕ)
        → Prepares cps w c.vars (f ∷ args) made (g ∷ bs)
        → Awaits c k return → IsFor w back (Resumes return) → AreHeld c.vars return.kept kept → AreDistinct (numbers kept)
        → LaysTerm cps w c t (Node.Call f args k) (made ++ Op.Push kept back ∷ []) (Last.Call g bs)
    lays_prim : (c : Context) (t : ℕ) (b : Builtin) (args : List Arg) (k : Cont) (made : List FrameOp) (bs : List Arg) (to : Var) (ops : List FrameOp) (last : FrameEnd)
        → Prepares cps w c.vars args made bs → IsUnused c.vars to.0 → Gives cps w c t k (Argument.Var to) ops last
        → LaysTerm cps w c t (Node.Prim b args k) (made ++ Op.Prim to b bs ∷ ops) last
    lays_if : (c : Context) (t : ℕ) (test : Arg) (first second : ℕ) (made : List FrameOp) (b : Arg) (yes no : ℕ) → Prepares cps w c.vars (test ∷ []) made (b ∷ [])
        → IsFor w yes (ArmOf c first) → IsFor w no (ArmOf c second)
        → LaysTerm cps w c t (Node.If test first second) made (Last.If b yes no)
    lays_labels : (c : Context) (t : ℕ) (xs : List Var) (lams : List ℕ) (body : ℕ) (made : List FrameOp) (tos : List Var) (ops : List FrameOp) (last : FrameEnd)
        → Labels cps w (paired (numbers xs) tos ++ c.vars) xs lams made tos → AllByRecursion (λ x. IsFresh c x.0 × (w.celled x.0 ≡ false)) xs → AreDistinct (numbers xs) → AllByRecursion (λ y. IsUnused c.vars y.0) tos
        → StartsApart ops → w.rank body < w.rank t → GoesOn cps w (labelled xs tos c) body ops last
        → LaysTerm cps w c t (Node.Labels xs lams body) (made ++ ops) last
    lays_join : (c : Context) (t : ℕ) (k param : Var) (body rest block : ℕ) (needs : List ℕ) (ops : List FrameOp) (last : FrameEnd) → w.rank rest < w.rank t
        → Lays cps w (record c { exits = JoinExit (record { k = k.0; param = param.0; body = body; block = block; needs = needs }) c.exits }) rest ops last
        → LaysTerm cps w c t (Node.Join k param body rest) ops last
    lays_give : (c : Context) (t : ℕ) (k : Cont) (value : Arg) (made : List FrameOp) (b : Arg) (ops : List FrameOp) (last : FrameEnd) → Prepares cps w c.vars (value ∷ []) made (b ∷ [])
        → StartsApart ops → Gives cps w c t k b ops last
        → LaysTerm cps w c t (Node.Give k value) (made ++ ops) last
    lays_global_get : (c : Context) (t g : ℕ) (k : Cont) (to : Var) (ops : List FrameOp) (last : FrameEnd) → g < length cps.shared.globals.items → IsUnused c.vars to.0 → Gives cps w c t k (Argument.Var to) ops last
        → LaysTerm cps w c t (Node.GlobalGet g k) (Op.GlobalGet to g ∷ ops) last
    lays_global_init : (c : Context) (t g : ℕ) (value : Arg) (k : Cont) (made : List FrameOp) (b : Arg) (ops : List FrameOp) (last : FrameEnd) → g < length cps.shared.globals.items → code_of_global cps.shared g ≡ None
        → Prepares cps w c.vars (value ∷ []) made (b ∷ []) → Gives cps w c t k b ops last
        → LaysTerm cps w c t (Node.GlobalInit g value k) (made ++ Op.GlobalPut g b true ∷ ops) last
    lays_global_set : (c : Context) (t g : ℕ) (value : Arg) (k : Cont) (made : List FrameOp) (b : Arg) (ops : List FrameOp) (last : FrameEnd) → g < length cps.shared.globals.items → code_of_global cps.shared g ≡ None
        → Prepares cps w c.vars (value ∷ []) made (b ∷ []) → Gives cps w c t k b ops last
        → LaysTerm cps w c t (Node.GlobalSet g value k) (made ++ Op.GlobalPut g b false ∷ ops) last
    lays_cell : (c : Context) (t : ℕ) (x : Var) (value : Arg) (rest : ℕ) (made : List FrameOp) (b : Arg) (to : Var) (ops : List FrameOp) (last : FrameEnd) → Prepares cps w c.vars (value ∷ []) made (b ∷ [])
        → IsFresh c x.0 → w.celled x.0 ≡ true → IsUnused c.vars to.0 → GoesOn cps w (with_var x.0 to.0 c) rest ops last
        → LaysTerm cps w c t (Node.Cell x value rest) (made ++ Op.Cell to b ∷ ops) last
    lays_cell_get : (c : Context) (t : ℕ) (x y : Var) (k : Cont) (to : Var) (ops : List FrameOp) (last : FrameEnd) → IsIn (x.0, y.0) c.vars → w.celled x.0 ≡ true → IsUnused c.vars to.0 → Gives cps w c t k (Argument.Var to) ops last
        → LaysTerm cps w c t (Node.CellGet x k) (Op.CellGet to y ∷ ops) last
    lays_cell_set : (c : Context) (t : ℕ) (x y : Var) (value : Arg) (k : Cont) (made : List FrameOp) (b : Arg) (ops : List FrameOp) (last : FrameEnd) → Prepares cps w c.vars (value ∷ []) made (b ∷ [])
        → IsIn (x.0, y.0) c.vars → w.celled x.0 ≡ true → Gives cps w c t k b ops last
        → LaysTerm cps w c t (Node.CellSet x value k) (made ++ Op.CellSet y b ∷ ops) last
    lays_object : (c : Context) (t : ℕ) (proc : Arg) (names methods : List ℕ) (k : Cont) (made : List FrameOp) (b : Arg) (template : ℕ) (shape : Template) (needs : List ℕ) (kept : List Var) (to : Var) (ops : List FrameOp) (last : FrameEnd)
        → Prepares cps w c.vars (proc ∷ []) made (b ∷ []) → (length names == length methods) ≡ true → slice_get w.templates template ≡ Some shape
        → Zipped (IsMethod w needs) (zip names methods) (methods_of shape.ops shape.codes) → AreHeld c.vars needs kept → length needs ≤ cps.shared.size → IsUnused c.vars to.0 → Gives cps w c t k (Argument.Var to) ops last
        → LaysTerm cps w c t (Node.Object proc names methods k) (made ++ Op.Object to template b kept ∷ ops) last
    -- a CATCH in a tail place has no Push; another one has that of its continuation, and both have the same return block
    lays_tail_catch : (c : Context) (t : ℕ) (x : Var) (body : ℕ) (k to : Var) (back : ℕ) (ops : List FrameOp) (last : FrameEnd) → exit_of c.exits k.0 ≡ Leaves → c.catches ≡ [] → IsFor w back PassesOn
        → IsFresh c x.0 → w.celled x.0 ≡ false → IsUnused c.vars to.0 → GoesOn cps w (record c { vars = (x.0, to.0) ∷ c.vars; catches = Bare ∷ [] }) body ops last
        → LaysTerm cps w c t (Node.Catch x body (Continuation.Var k)) (Op.CatchOpen to back ∷ ops) last
    lays_catch : (c : Context) (t : ℕ) (x : Var) (body : ℕ) (k : Cont) (return : Return) (kept : List Var) (to : Var) (back : ℕ) (ops : List FrameOp) (last : FrameEnd) → Awaits c k return → IsFor w back (Resumes return) → AreHeld c.vars return.kept kept → AreDistinct (numbers kept)
        → IsFresh c x.0 → w.celled x.0 ≡ false → IsUnused c.vars to.0 → GoesOn cps w (record c { vars = (x.0, to.0) ∷ c.vars; catches = Framed ∷ c.catches }) body ops last
        → LaysTerm cps w c t (Node.Catch x body k) (Op.Push kept back ∷ Op.CatchOpen to back ∷ ops) last
    lays_tail_uncatch : (c : Context) (t : ℕ) (k : Cont) (value : Arg) (outer : List Catching) (made : List FrameOp) (b : Arg) (ops : List FrameOp) (last : FrameEnd) → c.catches ≡ Bare ∷ outer → Prepares cps w c.vars (value ∷ []) made (b ∷ [])
        → Gives cps w (record c { catches = outer }) t k b ops last
        → LaysTerm cps w c t (Node.Uncatch k value) (made ++ Op.CatchClose ∷ ops) last
    lays_uncatch : (c : Context) (t : ℕ) (k : Cont) (value : Arg) (outer : List Catching) (made : List FrameOp) (b : Arg) (ops : List FrameOp) (last : FrameEnd) → c.catches ≡ Framed ∷ outer → Prepares cps w c.vars (value ∷ []) made (b ∷ [])
        → Gives cps w (record c { catches = outer }) t k b ops last
        → LaysTerm cps w c t (Node.Uncatch k value) (made ++ Op.CatchClose ∷ Op.Pop ∷ ops) last
    lays_halt : (c : Context) (t : ℕ) (value : Arg) (made : List FrameOp) (b : Arg) → Prepares cps w c.vars (value ∷ []) made (b ∷ [])
        → LaysTerm cps w c t (Node.Halt value) made (Last.Halt b)

-- ---- blocks

-- the code of a procedure: itself and the operands, then what it needs, then the body
pub record CodeFits (cps : Cps) (w : Sketch) (l : ℕ) (b : Block) : Type 0 where
  pub lam : Lam
  pub is : slice_get cps.lams.items l ≡ Some lam
  pub self : Var
  pub params : List Var
  pub vars : List (ℕ × ℕ)
  pub ys : List Var
  pub body : ℕ
  pub takes : b.params ≡ self ∷ params
  pub distinct : AreDistinct (self.0 ∷ numbers params)
  pub count : length params ≡ length lam.params
  pub few : length lam.params ≤ 20
  pub fetches : Fetches (λ y slot. Op.ClosureGet y self slot) self.0 (w.needs l) (paired (numbers lam.params) params) vars b.ops.items
  pub short : length b.ops.items ≤ most_needs cps
  pub goes : b.last ≡ Last.Jump body (variables ys)
  pub begins : IsFor w body (Begins (record { vars = numbers lam.params ++ w.needs l; exits = OwnExit lam.k.0; catches = []; term = lam.body }))
  pub held : AreHeld vars (numbers lam.params ++ w.needs l) ys
  pub once : AreDistinct (numbers lam.params)
  pub apart : AllByRecursion (λ x. (is_in (w.needs l) x ≡ false) × (w.celled x ≡ false)) (numbers lam.params)

pub record BeginFits (cps : Cps) (w : Sketch) (start : Start) (b : Block) : Type 0 where
  pub count : length start.vars ≡ length b.params
  pub distinct : AreDistinct (numbers b.params)
  pub lays : Lays cps w (record { vars = paired start.vars b.params; exits = start.exits; catches = start.catches }) start.term b.ops.items b.last

pub record ArmFits (cps : Cps) (w : Sketch) (c : Context) (t : ℕ) (b : Block) : Type 0 where
  pub takes : b.params ≡ []
  pub lays : Lays cps w c t b.ops.items b.last

-- the return block: it gets the value, fetches all that its frame keeps, and pops the frame
pub record ReturnFits (cps : Cps) (w : Sketch) (r : Return) (b : Block) : Type 0 where
  pub value : Var
  pub vars : List (ℕ × ℕ)
  pub gets : List FrameOp
  pub rest : List FrameOp
  pub takes : b.params ≡ value ∷ []
  pub ops : b.ops.items ≡ gets ++ Op.Pop ∷ rest
  pub new : IsNewIn w r.kept r.exits r.param
  pub small : length r.kept ≤ most_needs cps
  pub fetches : Fetches (λ y slot. Op.FrameGet y slot) value.0 r.kept ((r.param, value.0) ∷ []) vars gets
  pub few : length gets ≤ most_needs cps
  pub goes : GoesOn cps w (record { vars = vars; exits = r.exits; catches = r.catches }) r.body rest b.last

-- the code of a method: the operands, of which the first one is the object, then what it needs out of what the object keeps
pub record MethodFits (cps : Cps) (w : Sketch) (l : ℕ) (kept : List ℕ) (b : Block) : Type 0 where
  pub lam : Lam
  pub is : slice_get cps.lams.items l ≡ Some lam
  pub self : Var
  pub params : List Var
  pub vars : List (ℕ × ℕ)
  pub ys : List Var
  pub body : ℕ
  pub takes : b.params ≡ self ∷ params
  pub distinct : AreDistinct (self.0 ∷ numbers params)
  pub count : suc (length params) ≡ length lam.params
  pub few : length lam.params ≤ 20
  pub fetches : Fetches (λ y slot. Op.ClosureGet y self slot) self.0 kept (paired (numbers lam.params) (self ∷ params)) vars b.ops.items
  pub short : length b.ops.items ≤ most_needs cps
  pub goes : b.last ≡ Last.Jump body (variables ys)
  pub begins : IsFor w body (Begins (record { vars = numbers lam.params ++ w.needs l; exits = OwnExit lam.k.0; catches = []; term = lam.body }))
  pub held : AreHeld vars (numbers lam.params ++ w.needs l) ys
  pub once : AreDistinct (numbers lam.params)
  pub apart : AllByRecursion (λ x. (is_in kept x ≡ false) × (w.celled x ≡ false)) (numbers lam.params)

-- the block of a CATCH in a tail place
pub record PassingFits (b : Block) : Type 0 where
  pub value : Var
  pub takes : b.params ≡ value ∷ []
  pub ops : b.ops.items ≡ []
  pub goes : b.last ≡ Last.Return (Argument.Var value)

abbrev pub BlockFits : Cps → Sketch → Purpose → Block → Type 0
BlockFits cps w (CodeOf l) b = CodeFits cps w l b
BlockFits cps w (MethodOf l kept) b = MethodFits cps w l kept b
BlockFits cps w (Begins start) b = BeginFits cps w start b
BlockFits cps w (ArmOf c t) b = ArmFits cps w c t b
BlockFits cps w PassesOn b = PassingFits b
BlockFits cps w (Resumes r) b = ReturnFits cps w r b

-- ---- the whole

pub record IsLaidOut (cps : Cps) (p : Frames) : Type 0 where
  pub sketch : Sketch
  pub shared : p.shared ≡ cps.shared
  pub count : length sketch.purposes ≡ length p.blocks.items
  pub entry : IsFor sketch p.entry (Begins (record { vars = []; exits = NoExit; catches = []; term = cps.entry }))
  -- the codes of the procedures of globals and operations
  pub firsts : (l : ℕ) → l < first_lams cps → IsFor sketch l (CodeOf l) × (sketch.needs l ≡ [])
  pub blocks : (k : ℕ) (purpose : Purpose) → IsFor sketch k purpose → IsSomeAnd (slice_get p.blocks.items k) (BlockFits cps sketch purpose)
  -- a closure keeps at most as much as the unit's largest form has nodes
  pub small : (l : ℕ) → length (sketch.needs l) ≤ cps.shared.size
  pub templates : p.templates.items ≡ sketch.templates
  -- there is no Set
  pub unassigned : (x : ℕ) → is_assigned cps x ≡ false
