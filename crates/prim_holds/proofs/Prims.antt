-- What the code of a builtin comes to.
use Rattle.std.proofs.Common.{◌≡◌, ℕ, ◌<◌, inl, inr, List, [], ◌∷◌, length, map, Option, Some, None, option_map, option_and_then, refl, sym, ap, ◌∙◌, subst, arith}
use Rattle.t_base.specs.declared.basics.Var.{Var}
use Rattle.t_base.specs.declared.builtins.Builtin.{Builtin}
use Rattle.t_base.specs.declared.builtins.Builtin.TheVariants as builtin
use Rattle.t_base.specs.declared.shared_parts.Shared.{Shared}
use Rattle.t_prim.specs.Values.{Val}
use Rattle.t_prim.specs.Operands.{Row, Gives, Changes, Faults}
use Rattle.t_prim.specs.Table.{row, arity_of}
use Rattle.cps_ir.specs.declared.args.Arg.{Arg}
use Rattle.word_ir.specs.declared.words.Words.{Words}
use Rattle.word_ir.specs.Word.{Number}
use Rattle.word_ir.specs.Storage.{Sizes}
use Rattle.word_ir.specs.Stamps.{Stamped}
use Rattle.frame_ir.specs.Values.{Lasting, Env}
use Rattle.frame_ir.specs.States.{State, with_store}
use Rattle.frame_ir.specs.Arguments.{each_of, lasting_value, lasting_values}
use Rattle.word_trees.specs.Trees.{Tree}
use Rattle.word_trees.specs.Cores.{Core, binding, heap_left}
use Rattle.word_trees.specs.Leads.{Leads, Performs}
use Rattle.frame_words.specs.Layouts.{Layout}
use Rattle.frame_words.specs.Contents.{Escapes}
use Rattle.select_rows.specs.Kept.{Has, Arrives, Ends, IsOutOfHeap, Comes}
use Rattle.select_rows.specs.Codes.{Code, of_none, of_one, of_two, of_three, IsCodeOf, code_of}
use Rattle.select_rows.proofs.Table.{rows_performed}
use Rattle.frame_stacks.specs.Stacks.{Ways}
use Rattle.frame_stacks.specs.Frames.{Holds}
use Rattle.frame_stacks.specs.Laws.{GoesOn}
use Rattle.frame_stacks.proofs.Gets.{binding_held}
use Rattle.prim_holds.specs.Operands.{IsNamed, AreNamed, operand_of, code_at, cost_of, operands_of}
use Rattle.prim_holds.specs.Laws.{IsOutOfRoom, PrimComes}
use Rattle.prim_holds.proofs.Keeping.{store_kept, state_kept}
use Rattle.prim_holds.proofs.Arguments.{lasting_has}

-- what a fact implies is performed too
performs_so : {words : Words} {sizes : Sizes} {Q R : Stamped → Type 0} {least cost : ℕ} {tree : Tree} {c : Core} → ((x : Stamped) → Q x → R x) → Performs words sizes Q least cost tree c → Performs words sizes R least cost tree c
performs_so {words} {sizes} {Q} {R} {least} {cost} {tree} {c} f h = record {
  leads = λ block place moves steps spelled.
      let p : Leads words sizes Q least cost (Rattle.word_trees.specs.Cores.at c block place moves steps) = h.leads block place moves steps spelled in
      record { count = p.count; enough = p.enough; there = f _ p.there; moves = p.moves };
}

-- ---- as many operands as the builtin takes

as_many : (p : Builtin) → operands_of (code_of p) ≡ arity_of p
as_many builtin.Add = refl
as_many builtin.Sub = refl
as_many builtin.Mul = refl
as_many builtin.Quotient = refl
as_many builtin.Remainder = refl
as_many builtin.Inc = refl
as_many builtin.Dec = refl
as_many builtin.NumEq = refl
as_many builtin.NumLt = refl
as_many builtin.NumGt = refl
as_many builtin.NumLe = refl
as_many builtin.NumGe = refl
as_many builtin.IsZero = refl
as_many builtin.IsNegative = refl
as_many builtin.IsPositive = refl
as_many builtin.Eq = refl
as_many builtin.Not = refl
as_many builtin.IsNull = refl
as_many builtin.IsPair = refl
as_many builtin.IsAtom = refl
as_many builtin.IsList = refl
as_many builtin.IsFixnum = refl
as_many builtin.IsChar = refl
as_many builtin.IsString = refl
as_many builtin.IsSymbol = refl
as_many builtin.IsVector = refl
as_many builtin.IsProcedure = refl
as_many builtin.Cons = refl
as_many builtin.Car = refl
as_many builtin.Cdr = refl
as_many builtin.SetCar = refl
as_many builtin.SetCdr = refl
as_many builtin.MakeVector = refl
as_many builtin.VectorLength = refl
as_many builtin.Vref = refl
as_many builtin.SetVref = refl
as_many builtin.StringLength = refl
as_many builtin.StringElt = refl
as_many builtin.SymbolToString = refl
as_many builtin.CharToAscii = refl
as_many builtin.AsciiToChar = refl
as_many builtin.CharEq = refl
as_many builtin.CharLt = refl
as_many builtin.PutFixnum = refl
as_many builtin.PutChar = refl
as_many builtin.PutString = refl
as_many builtin.Newline = refl
as_many builtin.Error = refl

-- ---- values of arguments

record HasFirst (f : Arg → Option Val) (a : Arg) (args : List Arg) (vs : List Val) : Type 0 where
  value : Val
  rest : List Val
  is : f a ≡ Some value
  others : each_of f args ≡ Some rest
  all : vs ≡ value ∷ rest

first_by : (f : Arg → Option Val) (a : Arg) (args : List Arg) (vs : List Val) (o : Option Val) (os : Option (List Val)) → f a ≡ o → each_of f args ≡ os → option_and_then (λ y. option_map (λ ys. y ∷ ys) os) o ≡ Some vs → HasFirst f a args vs
first_by f a args vs (Some v) (Some rest) e es h = record { value = v; rest = rest; is = e; others = es; all = cc }
first_by f a args vs (Some v) None e es h = absurd (cc)
first_by f a args vs None os e es h = absurd (cc)

first_value : (f : Arg → Option Val) (a : Arg) (args : List Arg) (vs : List Val) → each_of f (a ∷ args) ≡ Some vs → HasFirst f a args vs
first_value f a args vs h = first_by f a args vs (f a) (each_of f args) refl refl h

no_values : (f : Arg → Option Val) (vs : List Val) → each_of f [] ≡ Some vs → vs ≡ []
no_values f vs h = cc

module _ (words : Words) (sizes : Sizes) (l : Layout) (e : Escapes) (g : Ways) (t : ℕ) (s : State) (env : Env) (c : Core) (shared : Shared) (to : Var) (rest : Tree) (h : Holds sizes l e g t s env c) (below : to.0 < t) where
  -- ---- what a row comes to is held

  arrived : (u : State) (v : Val) (x : Stamped) → ((d : Core) → Rattle.select_rows.specs.Kept.Keeps sizes l e t s u c d → Holds sizes l e g t u env d) → Arrives words sizes l e t s u c to v rest x → GoesOn words sizes l e g t u ((to.0, Lasting v) ∷ env) rest x
  arrived u v x held a = record {
    core = binding a.core to (Number a.number) a.stamp;
    holds = binding_held sizes l e g t u env a.core to.0 (Lasting v) (Number a.number) a.stamp below (record { number = a.number; known = a.is; is = refl }) (held a.core a.keeps);
    block = a.block;
    place = a.place;
    moves = a.moves;
    steps = a.steps;
    there = a.there;
    spelled = a.spelled;
  }

  out_of_room : (u : State) (x : Stamped) → IsOutOfHeap sizes l e t s u c x → IsOutOfRoom sizes l e s u x
  out_of_room u x o = record {
    asked = o.asked;
    left = heap_left sizes c;
    room = omega (arith, h.data_held.next_is, h.data_held.room);
    more = omega (arith, o.more);
    lacking = o.lacking;
    core = o.ends.core;
    data_held = o.ends.keeps.data_held;
    block = o.ends.block;
    place = o.ends.place;
    moves = o.ends.moves;
    steps = o.ends.steps;
    there = o.ends.there;
  }

  prim_comes : (r : Row) (x : Stamped) → Comes words sizes l e t s c to rest r x → PrimComes words sizes l e g t s env to rest r x
  prim_comes (Gives v) x a = arrived s v x (λ d k. state_kept sizes l e g t s env c d h k) a
  prim_comes (Changes store v) x (inl a) = inl (arrived (with_store s store) v x (λ d k. store_kept sizes l e g t s store env c d h k) a)
  prim_comes (Changes store v) x (inr o) = inr (out_of_room (with_store s store) x o)
  prim_comes (Faults f) x n = record { core = n.core; data_held = n.keeps.data_held; block = n.block; place = n.place; moves = n.moves; steps = n.steps; there = n.there }

  -- ---- the code at operands

  abbrev has : (a : Arg) (v : Val) → IsNamed l shared a → lasting_value shared env a ≡ Some v → Has l s t c (operand_of l shared a) v
  has a v named is = lasting_has words sizes l e g t s env c h shared a v named is

  abbrev comes_by : Builtin → Code → List Arg → List Val → Type 0
  comes_by p code args vs = Performs words sizes (Comes words sizes l e t s c to rest (row p vs s.store)) 1 (cost_of code) (code_at code (map (operand_of l shared) args) t to rest) c

  abbrev values : Arg → Option Val
  values a = lasting_value shared env a

  code_performs : (p : Builtin) (code : Code) (args : List Arg) (vs : List Val) → IsCodeOf p code → AreNamed l shared args → lasting_values shared env args ≡ Some vs → length args ≡ operands_of code → comes_by p code args vs
  code_performs p (of_none cost code) [] vs is named given many =
      subst (comes_by p (of_none cost code) []) (sym (no_values values vs given)) (is words sizes l e t s c to rest h.data_held)
  code_performs p (of_none cost code) (a ∷ args) vs is named given many = absurd (omega (arith, many))
  code_performs p (of_one cost code) [] vs is named given many = absurd (omega (arith, many))
  code_performs p (of_one cost code) (a ∷ []) vs is named given many =
      let f : HasFirst values a [] vs = first_value values a [] vs given in
      let all : vs ≡ f.value ∷ [] = f.all ∙ ap (λ ys. f.value ∷ ys) (no_values values f.rest f.others) in
      subst (comes_by p (of_one cost code) (a ∷ [])) (sym all) (is words sizes l e t s c to rest (operand_of l shared a) f.value h.data_held (has a f.value named.0 f.is))
  code_performs p (of_one cost code) (a ∷ b ∷ args) vs is named given many = absurd (omega (arith, many))
  code_performs p (of_two cost code) [] vs is named given many = absurd (omega (arith, many))
  code_performs p (of_two cost code) (a ∷ []) vs is named given many = absurd (omega (arith, many))
  code_performs p (of_two cost code) (a ∷ b ∷ []) vs is named given many =
      let f : HasFirst values a (b ∷ []) vs = first_value values a (b ∷ []) vs given in
      let k : HasFirst values b [] f.rest = first_value values b [] f.rest f.others in
      let all : vs ≡ f.value ∷ k.value ∷ [] = f.all ∙ ap (λ ys. f.value ∷ ys) (k.all ∙ ap (λ ys. k.value ∷ ys) (no_values values k.rest k.others)) in
      subst (comes_by p (of_two cost code) (a ∷ b ∷ [])) (sym all)
      (is words sizes l e t s c to rest (operand_of l shared a) (operand_of l shared b) f.value k.value h.data_held (has a f.value named.0 f.is) (has b k.value named.1.0 k.is))
  code_performs p (of_two cost code) (a ∷ b ∷ d ∷ args) vs is named given many = absurd (omega (arith, many))
  code_performs p (of_three cost code) [] vs is named given many = absurd (omega (arith, many))
  code_performs p (of_three cost code) (a ∷ []) vs is named given many = absurd (omega (arith, many))
  code_performs p (of_three cost code) (a ∷ b ∷ []) vs is named given many = absurd (omega (arith, many))
  code_performs p (of_three cost code) (a ∷ b ∷ d ∷ []) vs is named given many =
      let f : HasFirst values a (b ∷ d ∷ []) vs = first_value values a (b ∷ d ∷ []) vs given in
      let k : HasFirst values b (d ∷ []) f.rest = first_value values b (d ∷ []) f.rest f.others in
      let m : HasFirst values d [] k.rest = first_value values d [] k.rest k.others in
      let all : vs ≡ f.value ∷ k.value ∷ m.value ∷ [] = f.all ∙ ap (λ ys. f.value ∷ ys) (k.all ∙ ap (λ ys. k.value ∷ ys) (m.all ∙ ap (λ ys. m.value ∷ ys) (no_values values m.rest m.others))) in
      subst (comes_by p (of_three cost code) (a ∷ b ∷ d ∷ [])) (sym all)
      (is words sizes l e t s c to rest (operand_of l shared a) (operand_of l shared b) (operand_of l shared d) f.value k.value m.value h.data_held (has a f.value named.0 f.is) (has b k.value named.1.0 k.is) (has d m.value named.1.1.0 m.is))
  code_performs p (of_three cost code) (a ∷ b ∷ d ∷ x ∷ args) vs is named given many = absurd (omega (arith, many))

  pub prim_performs : (p : Builtin) (args : List Arg) (vs : List Val) → AreNamed l shared args → lasting_values shared env args ≡ Some vs → length args ≡ arity_of p
      → Performs words sizes (PrimComes words sizes l e g t s env to rest (row p vs s.store)) 1 (cost_of (code_of p)) (code_at (code_of p) (map (operand_of l shared) args) t to rest) c
  prim_performs p args vs named given many =
      performs_so (prim_comes (row p vs s.store)) (code_performs p (code_of p) args vs (rows_performed p) named given (many ∙ sym (as_many p)))
