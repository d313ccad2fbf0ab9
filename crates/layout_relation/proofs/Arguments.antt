-- Arguments: the closures that are made for them, and that their values are the same.
use Rattle.std.proofs.Common.{◌≡◌, ℕ, suc, ◌+◌, ◌≤◌, ◌<◌, ◌==◌, Bool, true, false, ◌||◌, List, [], ◌∷◌, ◌++◌, length, Some, slice_get, refl, sym, ap, subst, ◌∙◌, arith, append_assoc, append-nil}
use Rattle.std.specs.Prelude.{option_and_then, sum_by}
use Rattle.std.specs.Option.{option_map}
use Rattle.std.proofs.lemmas.List.Sums.{sum_by-cons}
use Rattle.t_base.specs.declared.basics.Var.{Var}
use Rattle.t_prim.specs.Values.{Val, ClosureV, OperationV, BuiltinV, val_of, Literal}
use Rattle.t_base.specs.declared.shared_parts.Const.{Const}
use Rattle.t_base.specs.declared.shared_parts.Const.TheVariants as Constant
use Rattle.cps_ir.specs.declared.args.Arg.{Arg}
use Rattle.cps_ir.specs.declared.args.Arg.TheVariants as Argument
use Rattle.cps_ir.specs.declared.terms.Cps.{Cps}
use Rattle.cps_ir.specs.Reaches.{is_in}
use Rattle.cps_ir.specs.States.{Meant, Direct, Scope, Closure, Program, marked, all_escape, State}
use Rattle.cps_ir.specs.Giving.{lam_words, or_unbound, value_of as meant_value, with_arg, with_args, closing}
use Rattle.cps_ir.specs.Running.{closures_of}
use Rattle.frame_ir.specs.declared.forms.Place.TheVariants as At
use Rattle.frame_ir.specs.declared.forms.FrameOp.{FrameOp}
use Rattle.frame_ir.specs.declared.forms.FrameOp.TheVariants as Op
use Rattle.frame_ir.specs.Values.{Value, Lasting, Env, lasting_of}
use Rattle.frame_ir.specs.Arguments.{code_of_global, lasting_value, lasting_values}
use Rattle.frame_ir.specs.Groups.{makings, with_addresses}
use Rattle.layout_relation.specs.Links.{IsIn, Zipped, zip_none, zip_one, IsTied, Links, Extends, SameVal, fix, char, nil, truth, symbol, string, pair, closure, operation, builtin, SameMeant, value, cell}
use Rattle.layout_relation.specs.Laid.{Sketch, MakesClosure, made_by, SameArg, same_const, same_var, same_global, same_builtin, same_op, Prepares, prepares_none, prepares_same, prepares_closure}
use Rattle.layout_relation.specs.Related.{parts_of, HoldAll}
use Rattle.layout_relation.proofs.Lists.{all_in}
use Rattle.layout_relation.proofs.Growing.{val_grows}
use Rattle.layout_relation.proofs.Scopes.{eqb_flip, hold_set}
use Rattle.layout_relation.proofs.Made.{Closes, Makes, makes_none, makes_one}
use Rattle.layout_relation.proofs.Making.{address_first}

pub const_same : (links : Links) (c : Const) → SameVal links (val_of c) (val_of c)
const_same links (Constant.Fix x) = fix x
const_same links (Constant.Char c) = char c
const_same links Constant.Nil = nil
const_same links Constant.True = truth
const_same links (Constant.Sym n) = symbol n.0
const_same links (Constant.Str k) = string (Literal k)
const_same links (Constant.Pair k) = pair k

-- a value that isn't a cell
pub record Plain (links : Links) (meant : Meant) (v : Value) : Type 0 where
  pub left : Val
  pub right : Val
  pub is : meant ≡ Direct left
  pub at : v ≡ Lasting right
  pub same : SameVal links left right

plain_meant : (links : Links) (celled : Bool) (meant : Meant) (v : Value) → SameMeant links celled meant v → celled ≡ false → Plain links meant v
plain_meant links celled meant v (value a b h) e = record { left = a; right = b; is = refl; at = refl; same = h }
plain_meant links celled meant v (cell i lt) e = absurd (never e)
  where
    never : true ≡ false → ⊥
    never h = cc

module _ (cps : Cps) (w : Sketch) (small : (l : ℕ) → length (w.needs l) ≤ cps.shared.size) (links : Links) (scope : Scope) (vars : List (ℕ × ℕ)) where
  abbrev P : Program
  P = marked cps all_escape

  -- ---- closures for arguments

  -- what is held is no variable that is made
  made_apart : (args : List Arg) (ops : List FrameOp) (bs : List Arg) (x y : ℕ) → Prepares cps w vars args ops bs → IsIn (x, y) vars → is_in (made_by ops) y ≡ false
  made_apart args ops bs x y prepares_none i = refl
  made_apart args ops bs x y (prepares_same a b as_ ms cs h rest) i = made_apart as_ ms cs x y rest i
  made_apart args ops bs x y (prepares_closure l to code kept as_ ms cs h u rest) i =
      ap (λ t. t || is_in (made_by ms) y) (eqb_flip y to.0 (all_in (λ p. (p.1 == to.0) ≡ false) vars (x, y) u i)) ∙ made_apart as_ ms cs x y rest i

  -- ---- values

  -- what is there of globals
  abbrev pub HasProcedures : State → Type 0
  HasProcedures s = (g code : ℕ) → code_of_global cps.shared g ≡ Some code → (slice_get s.globals g ≡ Some (Some (ClosureV code))) × IsTied links.closures code code

  -- an argument that makes nothing
  pub record Argued (s : State) (env : Env) (a : Arg) (b : Arg) : Type 0 where
    pub left : Val
    pub right : Val
    pub gives : (rest : State → Val → State) → with_arg P scope a s rest ≡ rest s left
    pub reads : lasting_value cps.shared env b ≡ Some right
    pub same : SameVal links left right

  argued : (s : State) (env : Env) (a : Arg) (b : Arg) → HasProcedures s → HoldAll w links scope env vars → SameArg cps w vars a b → Argued s env a b
  argued s env a b procs h (same_const k) = record { left = val_of k; right = val_of k; gives = λ rest. refl; reads = refl; same = const_same links k }
  argued s env a b procs h (same_var x y i plain) =
      let k = h x.0 y.0 i in
      let q = plain_meant links (w.celled x.0) k.meant k.value k.same plain in
      record {
        left = q.left;
        right = q.right;
        gives = λ rest. ap (λ o. or_unbound (option_and_then (meant_value s) o) s (rest s)) (k.is ∙ ap Some q.is);
        reads = ap (λ o. option_and_then lasting_of o) (k.at ∙ ap Some q.at);
        same = q.same;
      }
  argued s env a b procs h (same_global g code e) =
      let k = procs g code e in
      record {
        left = ClosureV code;
        right = ClosureV code;
        gives = λ rest. ap (λ o. or_unbound o s (λ global. or_unbound global s (rest s))) k.0;
        reads = ap (λ o. option_and_then lasting_of (option_map (λ c. Lasting (ClosureV c)) o)) e;
        same = closure code code k.1;
      }
  argued s env a b procs h (same_builtin p) = record { left = BuiltinV p; right = BuiltinV p; gives = λ rest. refl; reads = refl; same = builtin p }
  argued s env a b procs h (same_op o) = record { left = OperationV o; right = OperationV o; gives = λ rest. refl; reads = refl; same = operation o }

  -- the new closures are tied from these numbers on
  abbrev pub TiedFrom : Links → ℕ → ℕ → ℕ → Type 0
  TiedFrom new i j n = (k : ℕ) → k < n → IsTied new.closures (i + k) (j + k)

  pub record Arguments (s : State) (n birth : ℕ) (env : Env) (args : List Arg) (ops : List FrameOp) (bs : List Arg) : Type 0 where
    pub lams : List ℕ
    pub tos : List Var
    pub makes : Makes cps w vars lams ops tos
    pub few : length lams ≤ length args
    pub state : State
    pub lefts : List Val
    pub rights : List Val
    pub gives : (rest : State → List Val → State) → with_args P scope args s rest ≡ rest state lefts
    pub closes : Closes s state (closures_of lams scope) (sum_by (lam_words P) lams)
    pub reads : lasting_values cps.shared (with_addresses n birth (makings ops) env) bs ≡ Some rights
    pub same : (new : Links) → Extends links new → TiedFrom new (length s.closures) n (length lams) → Zipped (SameVal new) lefts rights
    pub held : HoldAll w links scope (with_addresses n birth (makings ops) env) vars

  both_read : (env : Env) (b : Arg) (bs : List Arg) (v : Val) (vs : List Val) → lasting_value cps.shared env b ≡ Some v → lasting_values cps.shared env bs ≡ Some vs → lasting_values cps.shared env (b ∷ bs) ≡ Some (v ∷ vs)
  both_read env b bs v vs e f = ap (λ o. option_and_then (λ y. option_map (λ ys. y ∷ ys) (lasting_values cps.shared env bs)) o) e ∙ ap (option_map (λ ys. v ∷ ys)) f

  one_longer : {X : Type 0} (xs : List X) (x : X) → length (xs ++ x ∷ []) ≡ suc (length xs)
  one_longer [] x = refl
  one_longer (y ∷ xs) x = ap suc (one_longer xs x)

  plain_argument : (s : State) (n birth : ℕ) (env : Env) (a : Arg) (b : Arg) (args : List Arg) (ops : List FrameOp) (bs : List Arg) → ((final : Env) → HoldAll w links scope final vars → Argued s final a b) → Arguments s n birth env args ops bs
      → Arguments s n birth env (a ∷ args) ops (b ∷ bs)
  plain_argument s n birth env a b args ops bs one more =
      let final = with_addresses n birth (makings ops) env in
      let x = one final more.held in
      record {
        lams = more.lams;
        tos = more.tos;
        makes = more.makes;
        few = let f = more.few in omega (arith, f);
        state = more.state;
        lefts = x.left ∷ more.lefts;
        rights = x.right ∷ more.rights;
        gives = λ rest. x.gives (λ t v. with_args P scope args t (λ u vs. rest u (v ∷ vs))) ∙ more.gives (λ u vs. rest u (x.left ∷ vs));
        closes = more.closes;
        reads = both_read final b bs x.right more.rights x.reads more.reads;
        same = λ new ext tied. zip_one x.left x.right more.lefts more.rights (val_grows links new ext x.left x.right x.same) (more.same new ext tied);
        held = more.held;
      }

  closed_front : (s t : State) (l : ℕ) (cs : List Closure) (words : ℕ) → Closes (closing P l scope s) t cs words → Closes s t (record { lam = l; scope = scope } ∷ cs) (lam_words P l + words)
  closed_front s t l cs words c =
      let made : Closure = record { lam = l; scope = scope } in
      record {
        parts = c.parts ∙ ap (λ h. record (parts_of s) { store = record s.store { heap = h }; closures = s.closures ++ made ∷ [] ++ cs }) (let e : s.store.heap + lam_words P l + words ≡ s.store.heap + (lam_words P l + words) = omega arith in e)
            ∙ ap (λ xs. record (parts_of s) { store = record s.store { heap = s.store.heap + (lam_words P l + words) }; closures = xs }) (append_assoc s.closures (made ∷ []) cs);
        waiting = c.waiting;
        moves = c.moves;
      }

  closure_argument : (s : State) (n birth : ℕ) (env : Env) (l : ℕ) (to : Var) (code : ℕ) (kept : List Var) (args : List Arg) (ops : List FrameOp) (bs : List Arg) → MakesClosure cps w vars l to code kept ops
      → Arguments (closing P l scope s) (n + 1) birth ((to.0, Lasting (ClosureV n)) ∷ env) args ops bs
      → Arguments s n birth env (Argument.Proc l ∷ args) (Op.Closure to code kept At.Heap ∷ ops) (Argument.Var to ∷ bs)
  closure_argument s n birth env l to code kept args ops bs h more =
      let c : Closure = record { lam = l; scope = scope } in
      let longer : length (s.closures ++ c ∷ []) ≡ suc (length s.closures) = one_longer s.closures c in
      record {
        lams = l ∷ more.lams;
        tos = to ∷ more.tos;
        makes = makes_one l to code kept more.lams ops more.tos h more.makes;
        few = let f = more.few in omega (arith, f);
        state = more.state;
        lefts = ClosureV (length s.closures) ∷ more.lefts;
        rights = ClosureV n ∷ more.rights;
        gives = λ rest. more.gives (λ u vs. rest u (ClosureV (length s.closures) ∷ vs));
        closes = subst (λ k. Closes s more.state (c ∷ closures_of more.lams scope) k) (sym (sum_by-cons (lam_words P) l more.lams)) (closed_front s more.state l (closures_of more.lams scope) (sum_by (lam_words P) more.lams) more.closes);
        reads = both_read (with_addresses (n + 1) birth (makings ops) ((to.0, Lasting (ClosureV n)) ∷ env)) (Argument.Var to) bs (ClosureV n) more.rights
            (ap (λ o. option_and_then lasting_of o) (address_first cps w small vars l to code kept more.lams ops more.tos n birth env h more.makes))
            more.reads;
        same = λ new ext tied. zip_one (ClosureV (length s.closures)) (ClosureV n) more.lefts more.rights
            (closure (length s.closures) n (subst (λ i. IsTied new.closures i n) (let e : length s.closures + 0 ≡ length s.closures = omega arith in e) (subst (λ j. IsTied new.closures (length s.closures + 0) j) (let e : n + 0 ≡ n = omega arith in e) (tied 0 (omega arith)))))
            (more.same new ext (λ k lt. subst (λ i. IsTied new.closures i (n + 1 + k)) (let e : length s.closures + suc k ≡ length (s.closures ++ c ∷ []) + k = omega (arith, longer) in e)
            (subst (λ j. IsTied new.closures (length s.closures + suc k) j) (let e : n + suc k ≡ n + 1 + k = omega arith in e) (tied (suc k) (omega (arith, lt))))));
        held = more.held;
      }

  pub arguments : (s : State) (n birth : ℕ) (env : Env) (args : List Arg) (ops : List FrameOp) (bs : List Arg) → HasProcedures s → HoldAll w links scope env vars → Prepares cps w vars args ops bs → Arguments s n birth env args ops bs
  arguments s n birth env args ops bs procs h prepares_none = record {
    lams = [];
    tos = [];
    makes = makes_none;
    few = omega arith;
    state = s;
    lefts = [];
    rights = [];
    gives = λ rest. refl;
    closes = record { parts = ap (λ k. record (parts_of s) { store = record s.store { heap = k } }) (let e : s.store.heap ≡ s.store.heap + 0 = omega arith in e) ∙ ap (λ xs. record (parts_of s) { store = record s.store { heap = s.store.heap + 0 }; closures = xs }) (sym (append-nil s.closures)); waiting = refl; moves = refl };
    reads = refl;
    same = λ new ext tied. zip_none;
    held = h;
  }
  arguments s n birth env args ops bs procs h (prepares_same a b as_ ms cs k rest) = plain_argument s n birth env a b as_ ms cs (λ final held. argued s final a b procs held k) (arguments s n birth env as_ ms cs procs h rest)
  arguments s n birth env args ops bs procs h (prepares_closure l to code kept as_ ms cs k u rest) =
      closure_argument s n birth env l to code kept as_ ms cs k (arguments (closing P l scope s) (n + 1) birth ((to.0, Lasting (ClosureV n)) ∷ env) as_ ms cs procs (hold_set w links scope env vars to.0 (Lasting (ClosureV n)) u h) rest)
