-- What is known at a place where a term is laid out, and what each block is for.
use Rattle.std.specs.Prelude.{◌≡◌, ℕ, ◌==◌, false, if◌then◌else◌, List, [], ◌∷◌}
use Rattle.std.specs.List.{AllByRecursion}
use Rattle.t_base.specs.declared.basics.Var.{Var}
use Rattle.cps_ir.specs.Reaches.{is_in}

-- ---- continuations

-- a Join: its k, its parameter and body, the block that lays out the body, and the variables that this block gets besides the parameter
pub record Meeting : Type 0 where
  pub k : ℕ
  pub param : ℕ
  pub body : ℕ
  pub block : ℕ
  pub needs : List ℕ

-- the continuations that have a name, the innermost first; behind the k of a procedure there are no others
pub data Exits : Type 0 where
  NoExit : Exits
  OwnExit : (k : ℕ) → Exits
  JoinExit : (meeting : Meeting) (rest : Exits) → Exits

-- where a continuation leads: out of the procedure, to a Join, with the continuations that are known there, or nowhere
pub data Exit : Type 0 where
  Leaves : Exit
  Meets : (meeting : Meeting) (rest : Exits) → Exit
  Nowhere : Exit

abbrev pub exit_of : Exits → ℕ → Exit
exit_of NoExit k = Nowhere
exit_of (OwnExit j) k = if j == k then Leaves else Nowhere
exit_of (JoinExit meeting rest) k = if meeting.k == k then Meets meeting rest else exit_of rest k

-- no Join needs the variable
abbrev pub IsUnneeded : Exits → ℕ → Type 0
IsUnneeded NoExit x = Unit {0}
IsUnneeded (OwnExit j) x = Unit {0}
IsUnneeded (JoinExit meeting rest) x = (is_in meeting.needs x ≡ false) × IsUnneeded rest x

-- ---- contexts

-- an open CATCH: whether its continuation is its own, which waits in a frame below that of the CATCH
pub data Catching : Type 0 where
  Bare : Catching
  Framed : Catching

-- Each variable that is needed, with the variable of the frames that holds its value; the continuations; the open CATCHes, the innermost
-- first.
pub record Context : Type 0 where
  pub vars : List (ℕ × ℕ)
  pub exits : Exits
  pub catches : List Catching

-- the variable isn't among the first ones, and isn't needed by a Join
abbrev pub IsFresh : Context → ℕ → Type 0
IsFresh c x = AllByRecursion (λ p. (p.0 == x) ≡ false) c.vars × IsUnneeded c.exits x

-- no variable of the program is held there yet
abbrev pub IsUnused : List (ℕ × ℕ) → ℕ → Type 0
IsUnused vars y = AllByRecursion (λ p. (p.1 == y) ≡ false) vars

abbrev pub with_var : ℕ → ℕ → Context → Context
with_var x y c = record c { vars = (x, y) ∷ c.vars }

-- variables with those that hold them
abbrev pub paired : List ℕ → List Var → List (ℕ × ℕ)
paired [] ys = []
paired (x ∷ xs) [] = []
paired (x ∷ xs) (y ∷ ys) = (x, y.0) ∷ paired xs ys

-- ---- blocks

-- a block that gets these variables and lays out a term
pub record Start : Type 0 where
  pub vars : List ℕ
  pub exits : Exits
  pub catches : List Catching
  pub term : ℕ

-- a continuation that waits in a frame, which keeps these variables in its slots from 0 on
pub record Return : Type 0 where
  pub kept : List ℕ
  pub param : ℕ
  pub body : ℕ
  pub exits : Exits
  pub catches : List Catching

pub data Purpose : Type 0 where
  -- the code of the closures of a procedure
  CodeOf : (lam : ℕ) → Purpose
  Begins : (start : Start) → Purpose
  -- the code of a method of an object that keeps these variables
  MethodOf : (lam : ℕ) (kept : List ℕ) → Purpose
  -- an arm of an If, which sees what is seen at its end
  ArmOf : (context : Context) (term : ℕ) → Purpose
  -- the block of a CATCH in a tail place, which returns the value
  PassesOn : Purpose
  -- the block to which a call returns
  Resumes : (return : Return) → Purpose
