-- What terms name is there, and lists agree.
use Rattle.std.specs.Prelude.{All, IsSomeAnd, Ok}
use Rattle.std.specs.List.{AllByRecursion}
use Rattle.std.specs.Option.{option_map, option_map_or, option_and_then}
use Rattle.std.proofs.Common.{◌≡◌, ℕ, suc, ◌≤◌, ◌<◌, Bool, true, false, if◌then◌else◌, List, [], ◌∷◌, length, Option, Some, None, slice_get, refl, sym, ap, ◌∙◌, subst, arith}
use Rattle.std.proofs.lemmas.Bool.{true≢false}
use Rattle.std.proofs.lemmas.Option.{slice_get_within}
use Rattle.t_base.specs.declared.basics.Var.{Var}
use Rattle.t_base.specs.declared.shared_parts.Global1.{Global1}
use Rattle.t_base.specs.declared.shared_parts.GlobalKind.{GlobalKind}
use Rattle.t_base.specs.declared.shared_parts.GlobalKind.TheVariants.{Proc, Value, Variable}
use Rattle.t_base.specs.declared.shared_parts.OpInfo.{OpInfo}
use Rattle.t_base.specs.declared.shared_parts.Const.{Const}
use Rattle.t_base.specs.declared.shared_parts.Const.TheVariants as Constant
use Rattle.t_base.specs.declared.shared_parts.Shared.{Shared}
use Rattle.t_prim.specs.SharedParts.{IsConst}
use Rattle.t_core.specs.declared.forms.Core.{Core}
use Rattle.t_core.specs.declared.forms.Core.TheVariants as Node
use Rattle.t_core.specs.declared.forms.Method.{Method}
use Rattle.t_core.specs.Limits.{limit_of}
use Rattle.t_core.specs.Whole.{IsWhole as IsWholeUnit}
use Rattle.t_meaning.specs.Programs.{node_at}
use Rattle.t_meaning.specs.Costs.{is_assigned}
use Rattle.cps_ir.specs.declared.args.Arg.{Arg}
use Rattle.cps_ir.specs.declared.args.Arg.TheVariants as Argument
use Rattle.cps_ir.specs.declared.terms.Lam.{Lam}
use Rattle.cps_ir.specs.declared.terms.Term.{Term}
use Rattle.cps_ir.specs.Terms.{args_of}
use Rattle.cps_ir.specs.Parts.{is_proc as is_proc_kind, is_procedure}
use Rattle.cps_ir.specs.Whole.{IsArgThere, NamesAreThere, IsArgShaped, IsTermShaped, IsProcedure, IsNoProcedure, HasSelf, most_operands}
use Rattle.cps_ir.proofs.ProperLists.{some_same, none_some, all_at, all_head, all_tail}
use Rattle.cps_ir.proofs.Closed.{all_of_each}
use Rattle.cps_conversion.specs.Conversion.{Translation, ready_arg, ready_at, is_proc, name_of_global, name_of_op}
use Rattle.conversion_laws.proofs.Visits.{Table, MethodLams}
use Rattle.conversion_laws.proofs.Widths.{in_greatest, node_narrow, node_names, node_shaped}

proc_only : (kind : GlobalKind) → is_proc_kind kind ≡ true → kind ≡ Proc
proc_only Proc e = refl
proc_only Value e = absurd (true≢false (sym e))
proc_only Variable e = absurd (true≢false (sym e))

module _ (x : Translation) (w : IsWholeUnit x.unit) (small : limit_of x.unit ≡ Ok tt) (same : x.cps.shared ≡ x.unit.shared) where
  abbrev pub FineArg : Arg → Type 0
  FineArg a = IsArgThere x.cps.shared a × IsArgShaped x.cps.shared a

  abbrev pub FineTerm : Term → Type 0
  FineTerm term = NamesAreThere x.cps.shared term × IsTermShaped x.cps term × AllByRecursion FineArg (args_of term)

  abbrev pub FineLam : Lam → Type 0
  FineLam lam = length lam.params ≤ most_operands

  -- a global that is a procedure, and one that is none
  proc_there : (g : ℕ) → is_proc x.unit g ≡ true → FineArg (Argument.Global g)
  proc_there g e = subst (λ (s : Shared). (g < length s.globals.items) × IsProcedure s g) (sym same) (by (slice_get x.unit.shared.globals.items g) refl e)
    where
      by : (o : Option Global1) → slice_get x.unit.shared.globals.items g ≡ o → option_map_or is_procedure o false ≡ true → (g < length x.unit.shared.globals.items) × IsProcedure x.unit.shared g
      by None q e = absurd (true≢false (sym e))
      by (Some info) q e = (slice_get_within x.unit.shared.globals.items g info q, ap (option_map (λ (i : Global1). i.kind)) q ∙ ap Some (proc_only info.kind e))

  pub no_proc : (g : ℕ) → is_proc x.unit g ≡ false → IsNoProcedure x.cps.shared g
  no_proc g e = subst (λ (s : Shared). IsNoProcedure s g) (sym same) (λ k. by (slice_get x.unit.shared.globals.items g) e k)
    where
      kinds : (a b : GlobalKind) → Some a ≡ Some b → a ≡ b
      kinds a b e = cc

      by : (o : Option Global1) → option_map_or is_procedure o false ≡ false → option_map (λ (i : Global1). i.kind) o ≡ Some Proc → ⊥
      by None e k = none_some Proc k
      by (Some info) e k = true≢false (sym (ap is_proc_kind (kinds info.kind Proc k)) ∙ e)

  const_fine : (form key : ℕ) (c : Const) → node_at x.unit form key ≡ Some (Node.Const c) → FineArg (Argument.Const c)
  const_fine form key c q = (subst (λ s. IsConst s c) (sym same) (node_names x.unit w form key (Node.Const c) q), tt)

  op_fine : (form key o : ℕ) → node_at x.unit form key ≡ Some (Node.Op o) → FineArg (Argument.Op o)
  op_fine form key o q = (subst (λ (s : Shared). o < length s.ops.items) (sym same) (node_names x.unit w form key (Node.Op o) q), tt)

  fine_ready : (form key : ℕ) (a : Arg) → ready_at x form key ≡ Some a → FineArg a
  fine_ready form key a e = by (node_at x.unit form key) refl e
    where
      local : (b : Bool) (v : Var) → (if b then None else Some (Argument.Var v)) ≡ Some a → FineArg a
      local true v e = none_some a e
      local false v e = subst FineArg (some_same (Argument.Var v) a e) (tt, tt)

      defined : (b : Bool) (g : ℕ) → is_proc x.unit g ≡ b → (if b then Some (Argument.Global g) else None) ≡ Some a → FineArg a
      defined true g q e = subst FineArg (some_same (Argument.Global g) a e) (proc_there g q)
      defined false g q e = none_some a e

      by : (node : Option Core) → node_at x.unit form key ≡ node → option_and_then (ready_arg x.unit) node ≡ Some a → FineArg a
      by None q e = none_some a e
      by (Some (Node.Const c)) q e = subst FineArg (some_same (Argument.Const c) a e) (const_fine form key c q)
      by (Some (Node.Local v)) q e = local (is_assigned x.unit v) v e
      by (Some (Node.Global g)) q e = defined (is_proc x.unit g) g refl e
      by (Some (Node.Builtin b)) q e = subst FineArg (some_same (Argument.Builtin b) a e) (tt, tt)
      by (Some (Node.Op o)) q e = subst FineArg (some_same (Argument.Op o) a e) (op_fine form key o q)
      by (Some (Node.Lambda params body)) q e = none_some a e
      by (Some (Node.If test first second)) q e = none_some a e
      by (Some (Node.Block items)) q e = none_some a e
      by (Some (Node.Let vars values body)) q e = none_some a e
      by (Some (Node.Labels vars lambdas body)) q e = none_some a e
      by (Some (Node.SetLocal v value)) q e = none_some a e
      by (Some (Node.SetGlobal g value)) q e = none_some a e
      by (Some (Node.Catch v body)) q e = none_some a e
      by (Some (Node.Object proc methods)) q e = none_some a e
      by (Some (Node.Call operator operands tail)) q e = none_some a e
      by (Some (Node.Prim b operands)) q e = none_some a e

  -- the names of globals and operations
  global_fine : (g : ℕ) (a : Arg) → name_of_global x.cps.shared g ≡ Some a → FineArg a
  global_fine g a e = by (slice_get x.cps.shared.globals.items g) refl e
    where
      by : (o : Option Global1) → slice_get x.cps.shared.globals.items g ≡ o → option_map (λ (info : Global1). Argument.Const (Constant.Sym info.name)) o ≡ Some a → FineArg a
      by None q e = none_some a e
      by (Some info) q e = subst FineArg (some_same (Argument.Const (Constant.Sym info.name)) a e) (all_at (λ (g : Global1). g.name.0 < length x.cps.shared.names) x.cps.shared.globals.items g info (subst (λ (s : Shared). All (λ (g : Global1). g.name.0 < length s.names) s.globals.items) (sym same) w.shared.parts.globals) q, tt)

  opname_fine : (g : ℕ) (a : Arg) → name_of_op x.cps.shared g ≡ Some a → FineArg a
  opname_fine g a e = by (slice_get x.cps.shared.ops.items g) refl e
    where
      by : (o : Option OpInfo) → slice_get x.cps.shared.ops.items g ≡ o → option_map (λ (info : OpInfo). Argument.Const (Constant.Sym info.name)) o ≡ Some a → FineArg a
      by None q e = none_some a e
      by (Some info) q e = subst FineArg (some_same (Argument.Const (Constant.Sym info.name)) a e) (all_at (λ (g : OpInfo). g.name.0 < length x.cps.shared.names) x.cps.shared.ops.items g info (subst (λ (s : Shared). All (λ (g : OpInfo). g.name.0 < length s.names) s.ops.items) (sym same) w.shared.parts.ops) q, tt)

  -- ---- objects

  record Methods (ops lams : List ℕ) : Type 0 where
    names : AllByRecursion (λ o. o < length x.cps.shared.ops.items) ops
    count : length ops ≡ length lams
    selves : AllByRecursion (HasSelf x.cps) lams

  methods_fine : (methods : List Method) (ops lams : List ℕ) → All (λ (m : Method). m.op < length x.cps.shared.ops.items) methods → All (λ (m : Method). 0 < length m.params) methods → MethodLams x FineArg FineTerm FineLam methods ops lams → Methods ops lams
  methods_fine [] [] [] there selves h = record { names = tt; count = refl; selves = tt }
  methods_fine (m ∷ methods) (o ∷ ops) (l ∷ lams) there selves h =
      let r = methods_fine methods ops lams (all_tail (λ (m : Method). m.op < length x.cps.shared.ops.items) m methods there) (all_tail (λ (m : Method). 0 < length m.params) m methods selves) h.2 in
      let low : m.op < length x.cps.shared.ops.items = all_head (λ (m : Method). m.op < length x.cps.shared.ops.items) m methods there in
      let self : 0 < length m.params = all_head (λ (m : Method). 0 < length m.params) m methods selves in
      let count = h.1.2 in
      record {
        names = (subst (λ n. n < length x.cps.shared.ops.items) (sym h.0) low, r.names);
        count = ap suc r.count;
        selves = (subst (λ o. IsSomeAnd o (λ (lam : Lam). 0 < length lam.params)) (sym h.1.1) (omega (arith, self, count)), r.selves);
      }
  methods_fine [] [] (l ∷ lams) there selves h = absurd h
  methods_fine [] (o ∷ ops) lams there selves h = absurd h
  methods_fine (m ∷ methods) [] lams there selves h = absurd h
  methods_fine (m ∷ methods) (o ∷ ops) [] there selves h = absurd h

  object_fine : (form key proc : ℕ) (methods : List Method) (ops lams : List ℕ) → node_at x.unit form key ≡ Some (Node.Object proc methods) → MethodLams x FineArg FineTerm FineLam methods ops lams → Methods ops lams
  object_fine form key proc methods ops lams q h =
      methods_fine methods ops lams (subst (λ (s : Shared). All (λ (m : Method). m.op < length s.ops.items) methods) (sym same) (node_names x.unit w form key (Node.Object proc methods) q)) (node_shaped x.unit w form key (Node.Object proc methods) q) h

  global_there : (form key g : ℕ) (node : Core) → g < length x.unit.shared.globals.items → g < length x.cps.shared.globals.items
  global_there form key g node lt = subst (λ (s : Shared). g < length s.globals.items) (sym same) lt

  pub fine_table : Table x FineArg FineTerm FineLam
  fine_table = record {
    ready = fine_ready;
    var = λ v. (tt, tt);
    proc = λ l. (tt, tt);
    nil = (tt, tt);
    global_name = global_fine;
    op_name = opname_fine;
    give = λ k a h. (tt, tt, (h, tt));
    get = λ form key g k q e. (global_there form key g (Node.Global g) (node_names x.unit w form key (Node.Global g) q), tt, tt);
    tests = λ a first second h. (tt, tt, (h, tt));
    join = λ j v body rest. (tt, tt, tt);
    labels = λ vars lams body e. (tt, e, tt);
    set = λ v a k e h. (tt, tt, (h, tt));
    set_local = λ form key value v a k q h. (tt, tt, (h, tt));
    set_global = λ form key value g a k q e h. (global_there form key g (Node.SetGlobal g value) (node_names x.unit w form key (Node.SetGlobal g value) q), no_proc g e, (h, tt));
    catches = λ form key body v name inner k q. (tt, tt, tt);
    uncatch = λ form key body v a k q h. (tt, tt, (h, tt));
    object = λ form key proc methods a ops lams k q ms h. let r = object_fine form key proc methods ops lams q ms in (all_of_each (λ o. o < length x.cps.shared.ops.items) ops r.names, (r.count, all_of_each (HasSelf x.cps) lams r.selves), (h, tt));
    call = λ form key operator operands tail f args k q e h. (tt, (let n = node_narrow x.unit small form key (Node.Call operator operands tail) q in omega (arith, n, e)), h);
    prim = λ form key b operands args k q e h. (tt, e ∙ node_shaped x.unit w form key (Node.Prim b operands) q, h);
    halt = λ a h. (tt, tt, (h, tt));
    lambda = λ form key body params lam q e. let n = node_narrow x.unit small form key (Node.Lambda params body) q in omega (arith, n, e);
    method = λ form key proc methods m i lam q there e. let n = node_narrow x.unit small form key (Node.Object proc methods) q in let one = in_greatest (λ (m : Method). length m.params) methods i m there in omega (arith, n, one, e);
  }
