-- What is chosen for nodes that bind no variables.
use Rattle.std.proofs.Common.{◌≡◌, ℕ, zero, suc, ◌<◌, Bool, true, false, List, [], ◌∷◌, map, length, slice_get, Some, refl, ap, ◌∙◌, inl, inr, arith}
use Rattle.std.specs.Prelude.{Contains}
use Rattle.std.proofs.lemmas.Option.{slice_get_within, get_or_from_slice_get}
use Rattle.t_base.specs.declared.basics.Var.{Var}
use Rattle.t_base.specs.declared.builtins.Builtin.{Builtin}
use Rattle.t_base.specs.declared.shared_parts.Shared.{Shared}
use Rattle.t_prim.specs.Table.{arity_of}
use Rattle.t_core.specs.declared.forms.Core.{Core}
use Rattle.t_core.specs.declared.forms.Core.TheVariants as Node
use Rattle.t_core.specs.Nodes.{parts_of, early, part, block_parts}
use Rattle.t_core.specs.Whole.{NamesAreThere, IsInPlace}
use Rattle.t_core.specs.Whole.{IsShaped as IsNodeShaped}
use Rattle.t_forms.specs.Data.{Datum}
use Rattle.t_forms.specs.Names.{Scope, Bound}
use Rattle.t_rows.specs.Rows.{Shape, constant, local, global, builtin_value, op_value, lambda, if_, block, set_local, set_global, call, primitive, Part, plain}
use Rattle.expansion.specs.Meaning.{Fits}
use Rattle.expand_laws.proofs.Constants.{constant_made}
use Rattle.expand_laws.proofs.Costs.{shape_cost}
use Rattle.expand_laws.proofs.Few.{IsFew, few_node}
use Rattle.expand_laws.proofs.Gaining.{Gains, gains_node, with_vars}
use Rattle.expand_laws.proofs.Made.{Stock, HasStock, HasDefined, IsRight}
use Rattle.expand_laws.proofs.Placing.{Seat, seat, placed}
use Rattle.expand_laws.proofs.Reached.{IsPure, IsDefinedGlobal, IsKnownOp}
use Rattle.expand_laws.proofs.Segments.{AreSeated, Choice}

-- the list's first item, and what is behind it
abbrev pub first : List ℕ → ℕ
first [] = 0
first (k ∷ ks) = k

abbrev pub rest : List ℕ → List ℕ
rest [] = []
rest (k ∷ ks) = ks

-- ---- nodes without parts

leaf : (names : List (List ℕ)) (vars : List Var) (scope : Scope) (tail : Bool) (shape : Shape) (before after : Stock) (c : Core) → IsFew before after 1 (shape_cost shape) → (shape ≡ lambda → ⊥) → Gains names before after (c ∷ [])
    → parts_of c tail ≡ [] → ((shared : Shared) → HasStock names after shared → Fits shared vars tail shape c) → IsInPlace vars tail c
    → ((shared : Shared) (all : List Core) → IsNodeShaped shared all c) → ((shared : Shared) → HasStock names after shared → HasDefined scope.defined shared → NamesAreThere shared c)
    → Choice names vars scope tail shape [] before
leaf names vars scope tail shape before after c few other gains parts fits here shaped named = record {
  seats = [];
  seated = tt;
  after = after;
  few = few;
  core = λ ks. c;
  gains = λ ks e. gains;
  parts_are = λ ks e. parts;
  fits = λ ks e. fits;
  in_place = λ ks. here;
  shaped = λ ks e shared all h i. shaped shared all;
  named = λ ks. named;
  is_lambda = λ ks e. absurd (other e);
  lambda_is = λ ks e ns d f g. absurd (other e);
}

pub constant_choice : (names : List (List ℕ)) (vars : List Var) (scope : Scope) (tail : Bool) (d : Datum) (before : Stock) → IsPure (IsRight names) d
    → Choice names vars scope tail (constant d) [] before
constant_choice names vars scope tail d before pure =
    let c = constant_made names d before pure in
    leaf names vars scope tail (constant d) before c.after (Node.Const c.const) c.few (λ e. cc) c.gains refl c.quoted tt (λ shared all. tt) (λ shared h i. c.right shared h)

-- the item at a place below the length
item_there : {A : Type 0} (xs : List A) (i : ℕ) → i < length xs → (x : A) × (slice_get xs i ≡ Some x)
item_there [] i lt = absurd (omega arith)
item_there (x ∷ xs) zero lt = (x, refl)
item_there (x ∷ xs) (suc i) lt = item_there xs i (omega arith)

contained : {A : Type 0} (xs : List A) (i : ℕ) (x : A) → slice_get xs i ≡ Some x → Contains xs x
contained xs i x e = (i, slice_get_within xs i x e, get_or_from_slice_get xs i x x e)

pub local_choice : (names : List (List ℕ)) (vars : List Var) (scope : Scope) (tail : Bool) (i : ℕ) (before : Stock) → i < length vars
    → Choice names vars scope tail (local i) [] before
local_choice names vars scope tail i before lt =
    let w = item_there vars i lt in
    leaf names vars scope tail (local i) before (with_vars before 0) (Node.Local w.0) (few_node before 0 (local i)) (λ e. cc) (gains_node names before 0 (Node.Local w.0) refl refl refl) refl (λ shared h. w.1)
    (contained vars i w.0 w.1) (λ shared all. tt) (λ shared h i. tt)

pub global_choice : (names : List (List ℕ)) (vars : List Var) (scope : Scope) (tail : Bool) (g : ℕ) (before : Stock) (assigned : Bool) → IsDefinedGlobal scope.defined g assigned
    → Choice names vars scope tail (global g) [] before
global_choice names vars scope tail g before assigned is =
    leaf names vars scope tail (global g) before (with_vars before 0) (Node.Global g) (few_node before 0 (global g)) (λ e. cc) (gains_node names before 0 (Node.Global g) refl refl refl) refl (λ shared h. refl) tt
    (λ shared all. tt) (λ shared h i. i.globals g assigned is)

pub builtin_choice : (names : List (List ℕ)) (vars : List Var) (scope : Scope) (tail : Bool) (p : Builtin) (before : Stock) → Choice names vars scope tail (builtin_value p) [] before
builtin_choice names vars scope tail p before =
    leaf names vars scope tail (builtin_value p) before (with_vars before 0) (Node.Builtin p) (few_node before 0 (builtin_value p)) (λ e. cc) (gains_node names before 0 (Node.Builtin p) refl refl refl) refl (λ shared h. refl) tt
    (λ shared all. tt) (λ shared h i. tt)

pub known_op : (defined : List Bound) (o : ℕ) (shared : Shared) → IsKnownOp defined o → HasDefined defined shared → o < length shared.ops.items
known_op defined o shared (inl lt) h = omega (arith, h.builtin_ops)
known_op defined o shared (inr is) h = h.ops o is

pub op_choice : (names : List (List ℕ)) (vars : List Var) (scope : Scope) (tail : Bool) (o : ℕ) (before : Stock) → IsKnownOp scope.defined o
    → Choice names vars scope tail (op_value o) [] before
op_choice names vars scope tail o before is =
    leaf names vars scope tail (op_value o) before (with_vars before 0) (Node.Op o) (few_node before 0 (op_value o)) (λ e. cc) (gains_node names before 0 (Node.Op o) refl refl refl) refl (λ shared h. refl) tt (λ shared all. tt)
    (λ shared h i. known_op scope.defined o shared is i)

-- ---- nodes with parts that stand in no scope of the node's

-- a seat for each part
abbrev pub early_seats : List Datum → List Seat
early_seats [] = []
early_seats (d ∷ ds) = seat [] false ∷ early_seats ds

pub early_seated : (ds : List Datum) → AreSeated (map plain ds) (early_seats ds)
early_seated [] = tt
early_seated (d ∷ ds) = (refl, early_seated ds)

pub early_placed : (ds : List Datum) (ks : List ℕ) → length ks ≡ length (early_seats ds) → map early ks ≡ placed (early_seats ds) ks
early_placed [] [] e = refl
early_placed [] (k ∷ ks) e = absurd (omega arith)
early_placed (d ∷ ds) [] e = absurd (omega arith)
early_placed (d ∷ ds) (k ∷ ks) e = ap (λ l. early k ∷ l) (early_placed ds ks (omega arith))

pub early_count : (ds : List Datum) → length (early_seats ds) ≡ length ds
early_count [] = refl
early_count (d ∷ ds) = ap suc (early_count ds)

-- a node that binds nothing
branch : (names : List (List ℕ)) (vars : List Var) (scope : Scope) (tail : Bool) (shape : Shape) (parts : List Part) (before : Stock) (seats : List Seat) (core : List ℕ → Core)
    → (shape ≡ lambda → ⊥) → AreSeated parts seats → ((ks : List ℕ) → Gains names before (with_vars before 0) (core ks ∷ []))
    → ((ks : List ℕ) → length ks ≡ length seats → parts_of (core ks) tail ≡ placed seats ks) → ((ks : List ℕ) (shared : Shared) → Fits shared vars tail shape (core ks))
    → ((ks : List ℕ) → IsInPlace vars tail (core ks))
    → ((ks : List ℕ) → length ks ≡ length seats → (shared : Shared) (all : List Core) → HasDefined scope.defined shared → IsNodeShaped shared all (core ks))
    → ((ks : List ℕ) (shared : Shared) → HasDefined scope.defined shared → NamesAreThere shared (core ks)) → Choice names vars scope tail shape parts before
branch names vars scope tail shape parts before seats core other seated gains parts_are fits here shaped named = record {
  seats = seats;
  seated = seated;
  after = with_vars before 0;
  few = few_node before 0 shape;
  core = core;
  gains = λ ks e. gains ks;
  parts_are = parts_are;
  fits = λ ks e shared h. fits ks shared;
  in_place = here;
  shaped = λ ks e shared all h i. shaped ks e shared all h;
  named = λ ks shared h i. named ks shared i;
  is_lambda = λ ks e. absurd (other e);
  lambda_is = λ ks e ns d f g. absurd (other e);
}

pub one_place : {P : Type 0} (ks : List ℕ) → length ks ≡ 1 → ((k : ℕ) → ks ≡ k ∷ [] → P) → P
one_place [] e f = absurd (omega arith)
one_place (k ∷ []) e f = f k refl
one_place (k ∷ l ∷ ks) e f = absurd (omega arith)

if_placed : (tail : Bool) (ks : List ℕ) → length ks ≡ 3
    → early (first ks) ∷ part (first (rest ks)) [] tail ∷ part (first (rest (rest ks))) [] tail ∷ [] ≡ placed (seat [] false ∷ seat [] tail ∷ seat [] tail ∷ []) ks
if_placed tail [] e = absurd (omega arith)
if_placed tail (a ∷ []) e = absurd (omega arith)
if_placed tail (a ∷ b ∷ []) e = absurd (omega arith)
if_placed tail (a ∷ b ∷ c ∷ []) e = refl
if_placed tail (a ∷ b ∷ c ∷ k ∷ ks) e = absurd (omega arith)

pub if_choice : (names : List (List ℕ)) (vars : List Var) (scope : Scope) (tail : Bool) (a b c : Datum) (before : Stock)
    → Choice names vars scope tail if_ (plain a ∷ plain b ∷ plain c ∷ []) before
if_choice names vars scope tail a b c before =
    branch names vars scope tail if_ (plain a ∷ plain b ∷ plain c ∷ []) before (seat [] false ∷ seat [] tail ∷ seat [] tail ∷ [])
    (λ ks. Node.If (first ks) (first (rest ks)) (first (rest (rest ks)))) (λ e. cc) (refl, (refl, (refl, tt)))
    (λ ks. gains_node names before 0 (Node.If (first ks) (first (rest ks)) (first (rest (rest ks)))) refl refl refl) (if_placed tail) (λ ks shared. tt) (λ ks. tt) (λ ks e shared all h. tt)
    (λ ks shared h. tt)

-- the items of a block, the last one in the tail place of the block
abbrev pub block_seats : List Datum → Bool → List Seat
block_seats [] tail = []
block_seats (d ∷ []) tail = seat [] tail ∷ []
block_seats (d ∷ e ∷ ds) tail = seat [] false ∷ block_seats (e ∷ ds) tail

block_seated : (ds : List Datum) (tail : Bool) → AreSeated (map plain ds) (block_seats ds tail)
block_seated [] tail = tt
block_seated (d ∷ []) tail = (refl, tt)
block_seated (d ∷ e ∷ ds) tail = (refl, block_seated (e ∷ ds) tail)

block_count : (d : Datum) (ds : List Datum) (tail : Bool) → 0 < length (block_seats (d ∷ ds) tail)
block_count d [] tail = omega arith
block_count d (f ∷ ds) tail = omega arith

block_placed : (ds : List Datum) (tail : Bool) (ks : List ℕ) → length ks ≡ length (block_seats ds tail) → block_parts ks tail ≡ placed (block_seats ds tail) ks
block_placed [] tail [] e = refl
block_placed [] tail (k ∷ ks) e = absurd (omega arith)
block_placed (d ∷ []) tail [] e = absurd (omega arith)
block_placed (d ∷ []) tail (k ∷ []) e = refl
block_placed (d ∷ []) tail (k ∷ l ∷ ks) e = absurd (omega arith)
block_placed (d ∷ f ∷ ds) tail [] e = absurd (omega arith)
block_placed (d ∷ f ∷ ds) tail (k ∷ []) e = absurd (omega (arith, block_count f ds tail))
block_placed (d ∷ f ∷ ds) tail (k ∷ l ∷ ks) e = ap (λ x. early k ∷ x) (block_placed (f ∷ ds) tail (l ∷ ks) (omega arith))

pub block_choice : (names : List (List ℕ)) (vars : List Var) (scope : Scope) (tail : Bool) (d : Datum) (ds : List Datum) (before : Stock)
    → Choice names vars scope tail block (map plain (d ∷ ds)) before
block_choice names vars scope tail d ds before =
    branch names vars scope tail block (map plain (d ∷ ds)) before (block_seats (d ∷ ds) tail) (λ ks. Node.Block ks) (λ e. cc) (block_seated (d ∷ ds) tail)
    (λ ks. gains_node names before 0 (Node.Block ks) refl refl refl) (block_placed (d ∷ ds) tail) (λ ks shared. tt) (λ ks. tt)
    (λ ks e shared all h. omega (arith, block_count d ds tail)) (λ ks shared h. tt)

value_placed : (ks : List ℕ) → length ks ≡ 1 → early (first ks) ∷ [] ≡ placed (seat [] false ∷ []) ks
value_placed [] e = absurd (omega arith)
value_placed (k ∷ []) e = refl
value_placed (k ∷ l ∷ ks) e = absurd (omega arith)

pub set_local_choice : (names : List (List ℕ)) (vars : List Var) (scope : Scope) (tail : Bool) (i : ℕ) (d : Datum) (before : Stock) → i < length vars
    → Choice names vars scope tail (set_local i) (plain d ∷ []) before
set_local_choice names vars scope tail i d before lt =
    let w = item_there vars i lt in
    branch names vars scope tail (set_local i) (plain d ∷ []) before (seat [] false ∷ []) (λ ks. Node.SetLocal w.0 (first ks)) (λ e. cc) (refl, tt)
    (λ ks. gains_node names before 0 (Node.SetLocal w.0 (first ks)) refl refl refl) value_placed (λ ks shared. w.1) (λ ks. contained vars i w.0 w.1) (λ ks e shared all h. tt) (λ ks shared h. tt)

pub set_global_choice : (names : List (List ℕ)) (vars : List Var) (scope : Scope) (tail : Bool) (g : ℕ) (d : Datum) (before : Stock) → IsDefinedGlobal scope.defined g true
    → Choice names vars scope tail (set_global g) (plain d ∷ []) before
set_global_choice names vars scope tail g d before is =
    branch names vars scope tail (set_global g) (plain d ∷ []) before (seat [] false ∷ []) (λ ks. Node.SetGlobal g (first ks)) (λ e. cc) (refl, tt)
    (λ ks. gains_node names before 0 (Node.SetGlobal g (first ks)) refl refl refl) value_placed (λ ks shared. refl) (λ ks. tt) (λ ks e shared all h. h.variables g is)
    (λ ks shared h. h.globals g true is)

call_placed : (d : Datum) (ds : List Datum) (ks : List ℕ) → length ks ≡ length (early_seats (d ∷ ds)) → early (first ks) ∷ map early (rest ks) ≡ placed (early_seats (d ∷ ds)) ks
call_placed d ds [] e = absurd (omega arith)
call_placed d ds (k ∷ ks) e = early_placed (d ∷ ds) (k ∷ ks) e

pub call_choice : (names : List (List ℕ)) (vars : List Var) (scope : Scope) (tail : Bool) (d : Datum) (ds : List Datum) (before : Stock)
    → Choice names vars scope tail call (plain d ∷ map plain ds) before
call_choice names vars scope tail d ds before =
    branch names vars scope tail call (map plain (d ∷ ds)) before (early_seats (d ∷ ds)) (λ ks. Node.Call (first ks) (rest ks) tail) (λ e. cc) (early_seated (d ∷ ds))
    (λ ks. gains_node names before 0 (Node.Call (first ks) (rest ks) tail) refl refl refl) (call_placed d ds) (λ ks shared. refl) (λ ks. refl) (λ ks e shared all h. tt) (λ ks shared h. tt)

pub primitive_choice : (names : List (List ℕ)) (vars : List Var) (scope : Scope) (tail : Bool) (p : Builtin) (ds : List Datum) (before : Stock) → length ds ≡ arity_of p
    → Choice names vars scope tail (primitive p) (map plain ds) before
primitive_choice names vars scope tail p ds before count =
    branch names vars scope tail (primitive p) (map plain ds) before (early_seats ds) (λ ks. Node.Prim p ks) (λ e. cc) (early_seated ds)
    (λ ks. gains_node names before 0 (Node.Prim p ks) refl refl refl) (early_placed ds) (λ ks shared. refl) (λ ks. tt)
    (λ ks e shared all h. e ∙ early_count ds ∙ count) (λ ks shared h. tt)
