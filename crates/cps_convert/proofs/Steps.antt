-- The steps of the conversion of a node.
use Rattle.std.proofs.Common.{◌≡◌, ℕ, suc, ◌<◌, ◌≤◌, Bool, false, List, [], ◌∷◌, map, Option, Some, None, slice_get, refl, sym, ap, subst, arith}
use Rattle.std.specs.Prelude.{All, option_map, option_and_then}
use Rattle.std.specs.Option.{option_map_or}
use Rattle.std.specs.List.{AllByRecursion}
use Rattle.t_prim.proofs.RowParts.{all_at}
use Rattle.t_base.specs.declared.shared_parts.Global1.{Global1}
use Rattle.t_base.specs.declared.shared_parts.GlobalKind.TheVariants.{Variable}
use Rattle.cps_ir.specs.Parts.{is_procedure, is_proc as is_proc_kind}
use Rattle.t_core.specs.declared.forms.Form.{Form}
use Rattle.t_core.specs.Whole.{HasShapes, IsShaped}
use Rattle.t_core.specs.declared.forms.Core.{Core}
use Rattle.t_core.specs.declared.forms.Core.TheVariants as Node
use Rattle.t_core.specs.declared.forms.UnitCore.{UnitCore}
use Rattle.t_core.specs.Nodes.{early}
use Rattle.t_meaning.specs.Programs.{node_at}
use Rattle.cps_ir.specs.declared.args.Arg.{Arg}
use Rattle.cps_ir.specs.declared.terms.Cont.{Cont}
use Rattle.cps_ir.specs.declared.terms.Cont.TheVariants as Continuation
use Rattle.cps_ir.specs.declared.terms.Term.{Term}
use Rattle.cps_ir.specs.declared.terms.Term.TheVariants as Step
use Rattle.cps_conversion.specs.Conversion.{Translation, Stands, OverAll, WithName, IfAs, ConvertsNode, ConvertsWithin, is_proc, adding}
use Rattle.cps_convert.specs.declared.conversion.Conversion.{Conversion}
use Rattle.cps_convert.specs.declared.operands.Job.{Job}
use Rattle.cps_convert.specs.Growing.{AddsTerm}
use Rattle.cps_convert.specs.Claims.{Setting, AreOuter, IsScopedIn, Spot, GoesTo, Converted, translation}
use Rattle.cps_convert.specs.Operands.{IsOperand, IsOperandAdded, AreOperands, Evaluates, CanEvaluate, JobsClaim, JobsConverted}
use Rattle.cps_convert.specs.Kinds.{LastAs, LastMade, HasName, IsNameOf, JoinsAs, Joined, KindConverted}
use Rattle.cps_convert.proofs.Listing.{grows_same, grows_more, one_operand}
use Rattle.cps_convert.proofs.Spots.{are_more, outer_cons, child, opened, over}

-- ---- jobs

pub jobs_none : (unit : UnitCore) (marks : List Bool) (form : ℕ) (a : Conversion) (key last : ℕ) → JobsConverted unit marks form a a key [] last last
jobs_none unit marks form a key last = record { grows = grows_same a; holds = λ cps origins inc base setting first bound held bounds helds can. refl }

pub jobs_first : (unit : UnitCore) (marks : List Bool) (form : ℕ) (a b c : Conversion) (key : ℕ) (j : Job) (jobs : List Job) (t place last : ℕ) → JobsConverted unit marks form a b key jobs place last
    → Converted unit marks form b c key j.node (Continuation.Lam j.var place) t → JobsConverted unit marks form a c key (j ∷ jobs) t last
jobs_first unit marks form a b c key j jobs t place last h n = record {
  grows = grows_more a b c h.grows n.grows;
  holds = λ cps origins inc base setting first bound held bounds helds can.
      let x = translation unit cps origins in (
        place,
        can.0,
        child x marks base a.next b.next form key j.node bound held (Continuation.Lam j.var place) t (n.holds cps origins inc base) n.below h.grows.next setting first can.2 bounds helds (can.0, can.1),
        h.holds cps origins (n.grows.includes x inc) base setting first bound (j.var.0 ∷ held) bounds (outer_cons unit base a.next form key j.var.0 held can.1 helds) can.3,
      );
}

-- ---- a node that is no more than its operands

early_scoped : (unit : UnitCore) (form : ℕ) (bound keys : List ℕ) → AllByRecursion (λ p. IsScopedIn unit form p.at (adding p.binds bound)) (map early keys) → AllByRecursion (λ c. IsScopedIn unit form c bound) keys
early_scoped unit form bound [] h = tt
early_scoped unit form bound (c ∷ keys) h = (h.0, early_scoped unit form bound keys h.1)

-- ---- shapes

pub shaped : (unit : UnitCore) → All (HasShapes unit.shared) unit.forms.items → (form key : ℕ) (node : Core) → node_at unit form key ≡ Some node
    → (f : Form) × (slice_get unit.forms.items form ≡ Some f) × IsShaped unit.shared f.nodes.items node
shaped unit shapes form key node there = by (slice_get unit.forms.items form) refl there
  where
    by : (o : Option Form) → slice_get unit.forms.items form ≡ o → option_and_then (λ f. slice_get f.nodes.items key) o ≡ Some node
        → (f : Form) × (slice_get unit.forms.items form ≡ Some f) × IsShaped unit.shared f.nodes.items node
    by None e h = cc
    by (Some f) e h = (f, e, all_at (IsShaped unit.shared f.nodes.items) f.nodes.items key node (all_at (HasShapes unit.shared) unit.forms.items form f shapes e) h)

variable_no_proc : (unit : UnitCore) (g : ℕ) → option_map (λ info. info.kind) (slice_get unit.shared.globals.items g) ≡ Some Variable → is_proc unit g ≡ false
variable_no_proc unit g e = by (slice_get unit.shared.globals.items g) e
  where
    by : (o : Option Global1) → option_map (λ info. info.kind) o ≡ Some Variable → option_map_or is_procedure o false ≡ false
    by None e = cc
    by (Some info) e = ap (λ o. option_map_or is_proc_kind o false) e

module _ (x : Translation) (marks : List Bool) (base now after most form key : ℕ) (bound held : List ℕ) (k : Cont) (jobs : List Job) (t last : ℕ) (setting : Setting x.unit marks base) (spot : Spot x base now form key bound held)
    (grown : now ≤ after) (few : after ≤ most) (claim : JobsClaim x marks base most form key jobs t last) where
  bounds : AreOuter x.unit base now form key bound
  bounds = are_more x.unit base now now form (suc key) key (omega arith) (omega arith) bound spot.bound_outer

  helds : AreOuter x.unit base now form key held
  helds = are_more x.unit base now now form (suc key) key (omega arith) (omega arith) held spot.held_outer

  at_last : (term : Term) → jobs ≡ [] → Stands x last term → Stands x t term
  at_last term e stands =
      let le : now ≤ most = omega (arith, grown, few) in
      let ev : Evaluates x (ConvertsWithin x key) form bound held jobs t last = claim setting (omega (arith, spot.base_first, le)) bound held (are_more x.unit base now most form key key le (omega arith) bound bounds)
      (are_more x.unit base now most form key key le (omega arith) held helds) (subst (CanEvaluate x base most form key bound held) (sym e) tt) in
      let same : last ≡ t = subst (λ l. Evaluates x (ConvertsWithin x key) form bound held l t last) e ev in
      subst (λ n. Stands x n term) same stands

  over_all : (keys : List ℕ) (args : List Arg) (term : Term) → AllByRecursion (λ c. IsScopedIn x.unit form c bound) keys → AreOperands x.unit form now after keys args jobs → Stands x last term
      → OverAll x (ConvertsWithin x key) form bound held keys args term t
  over_all keys args term scoped operands stands = over x marks base now now after most form key bound held keys args jobs term t last setting spot.base_first (omega arith) few bounds helds scoped operands claim stands

  pub last_kind : (core : Core) → node_at x.unit form key ≡ Some core → LastAs x form now after core k jobs last → ConvertsNode x (ConvertsWithin x key) form bound held key (Some core) k t
  last_kind (Node.Const c) there h = at_last _ h.0 h.1
  last_kind (Node.Local v) there h = let o = opened x.unit form key bound (Node.Local v) spot.scoped there in (o.binds v o.place, at_last _ h.0 h.1)
  last_kind (Node.Global g) there h = at_last _ h.0 h.1
  last_kind (Node.Builtin b) there h = at_last _ h.0 h.1
  last_kind (Node.Op o) there h = at_last _ h.0 h.1
  last_kind (Node.SetLocal v value) there h =
      let o = opened x.unit form key bound (Node.SetLocal v value) spot.scoped there in (o.binds v o.place, (h.0, over_all (value ∷ []) (h.0 ∷ []) (Step.Set v h.0 k) (o.parts.0, tt) h.1 h.2))
  last_kind (Node.SetGlobal g value) there h =
      let o = opened x.unit form key bound (Node.SetGlobal g value) spot.scoped there in (variable_no_proc x.unit g (shaped x.unit setting.whole.shapes form key (Node.SetGlobal g value) there).2, (h.0, over_all (value ∷ []) (h.0 ∷ []) (Step.GlobalSet g h.0 k) (o.parts.0, tt) h.1 h.2))
  last_kind (Node.Call operator operands tail) there h =
      let o = opened x.unit form key bound (Node.Call operator operands tail) spot.scoped there in
      record { f = h.0; args = h.1; over = over_all (operator ∷ operands) (h.0 ∷ h.1) (Step.Call h.0 h.1 k) (o.parts.0, early_scoped x.unit form bound operands o.parts.1) h.2 h.3 }
  last_kind (Node.Prim b operands) there h =
      let o = opened x.unit form key bound (Node.Prim b operands) spot.scoped there in
      record { args = h.0; over = over_all operands h.0 (Step.Prim b h.0 k) (early_scoped x.unit form bound operands o.parts) h.1 h.2 }
  last_kind (Node.Lambda params body) there h = absurd h
  last_kind (Node.If test first second) there h = absurd h
  last_kind (Node.Block items) there h = absurd h
  last_kind (Node.Let vars values body) there h = absurd h
  last_kind (Node.Labels vars lambdas body) there h = absurd h
  last_kind (Node.Catch v body) there h = absurd h
  last_kind (Node.Object proc methods) there h = absurd h

pub last_converted : (unit : UnitCore) (marks : List Bool) (form : ℕ) (a b c : Conversion) (key : ℕ) (core : Core) (k : Cont) (jobs : List Job) (t last : ℕ) → LastMade unit form a b core k [] jobs last
    → JobsConverted unit marks form b c key jobs t last → KindConverted unit marks form a c key core k t
last_converted unit marks form a b c key core k jobs t last h e = record {
  grows = grows_more a b c h.grows e.grows;
  holds = λ cps origins inc base there setting bound held spot goes.
      let x = translation unit cps origins in
      last_kind x marks base a.next b.next b.next form key bound held k jobs t last setting spot h.grows.next (omega arith) (e.holds cps origins inc base) core there
      (subst (λ l. LastAs x form a.next b.next core k l last) (sym h.after) (h.holds cps origins (e.grows.includes x inc)));
}

-- a node of a kind is a node
pub kind_node : (unit : UnitCore) (marks : List Bool) (form : ℕ) (a b : Conversion) (above key : ℕ) (core : Core) (k : Cont) (t : ℕ) → key < above → node_at unit form key ≡ Some core
    → KindConverted unit marks form a b key core k t → Converted unit marks form a b above key k t
kind_node unit marks form a b above key core k t below there h = record {
  below = below;
  grows = h.grows;
  holds = λ cps origins inc base setting bound held spot goes.
      let x = translation unit cps origins in
      subst (λ o. ConvertsNode x (ConvertsWithin x key) form bound held key o k t) (sym there) (h.holds cps origins inc base there setting bound held spot goes);
}

-- ---- continuations with names

pub with_name : (x : Translation) (next after : ℕ) (k name : Cont) (rest t : ℕ) (P : Cont → ℕ → Type 0) → HasName next after k name → JoinsAs x k name rest t → P name rest → WithName x k t P
with_name x next after (Continuation.Var k) name rest t P is joins p = subst (λ n. P n t) is.0 (subst (P name) (sym joins) p)
with_name x next after (Continuation.Lam param body) name rest t P is joins p =
    (is.0, rest, subst (λ n. JoinsAs x (Continuation.Lam param body) n rest t) is.1 joins, subst (λ n. P n rest) is.1 p)

pub name_grows : (next after : ℕ) (k name : Cont) → HasName next after k name → next ≤ after
name_grows next after (Continuation.Var k) name is = omega (arith, is.1)
name_grows next after (Continuation.Lam param body) name is = omega (arith, is.3)

pub name_goes : (x : Translation) (base most form least next after : ℕ) (held : List ℕ) (k name : Cont) → HasName next after k name → GoesTo x base most form least held name
name_goes x base most form least next after held (Continuation.Var k) name is = subst (GoesTo x base most form least held) (sym is.0) tt
name_goes x base most form least next after held (Continuation.Lam param body) name is = subst (GoesTo x base most form least held) (sym is.1) tt

pub if_converted : (unit : UnitCore) (marks : List Bool) (form : ℕ) (a b c d e f g h : Conversion) (key test first second : ℕ) (k name : Cont) (first_at second_at : ℕ) (arg : Arg) (jobs : List Job) (t rest last : ℕ)
    → IsNameOf a b k name → Converted unit marks form b c key first name first_at → Converted unit marks form c d key second name second_at → IsOperandAdded unit form d e test arg [] jobs
    → AddsTerm e f (Step.If arg first_at second_at) last → JobsConverted unit marks form f g key jobs rest last → Joined g h k name rest t → KindConverted unit marks form a h key (Node.If test first second) k t
if_converted unit marks form a b c d e f g h key test first second k name first_at second_at arg jobs t rest last named one two operand made done joined = record {
  grows = grows_more a b h named.grows (grows_more b c h one.grows (grows_more c d h two.grows (grows_more d e h operand.grows (grows_more e f h made.grows (grows_more f g h done.grows joined.grows)))));
  holds = λ cps origins inc base there setting bound held spot goes.
      let x = translation unit cps origins in
      let at_g = joined.grows.includes x inc in
      let at_f = done.grows.includes x at_g in
      let at_e = made.grows.includes x at_f in
      let at_d = operand.grows.includes x at_e in
      let at_c = two.grows.includes x at_d in
      let up : a.next ≤ b.next = named.grows.next in
      let up_c : a.next ≤ c.next = omega (arith, up, one.grows.next) in
      let up_d : a.next ≤ d.next = omega (arith, up_c, two.grows.next) in
      let o = opened unit form key bound (Node.If test first second) spot.scoped there in
      let outs = are_more unit base a.next a.next form (suc key) key (omega arith) (omega arith) bound spot.bound_outer in
      let holds = are_more unit base a.next a.next form (suc key) key (omega arith) (omega arith) held spot.held_outer in
      let to = name_goes x base a.next form key a.next b.next held k name named.is in
      with_name x a.next b.next k name rest t (IfAs x (ConvertsWithin x key) form bound held test first second) named.is (joined.holds x inc)
      (record {
        first_at = first_at;
        second_at = second_at;
        over = (
          arg,
          over x marks base a.next d.next e.next f.next form key bound held (test ∷ []) (arg ∷ []) jobs (Step.If arg first_at second_at) rest last setting spot.base_first up_d (omega (arith, made.next)) outs holds
              (o.parts.0, tt) (one_operand unit form d.next e.next test arg jobs (subst (λ l. IsOperand unit form d.next e.next test arg l) (sym operand.after) operand.is))
              (done.holds cps origins at_g base) (made.stands x at_f),
        );
        first_as = child x marks base a.next b.next form key first bound held name first_at (one.holds cps origins at_c base) one.below up setting spot.base_first o.parts.1.0 outs holds to;
        second_as = child x marks base a.next c.next form key second bound held name second_at (two.holds cps origins at_d base) two.below up_c setting spot.base_first o.parts.1.1.0 outs holds to;
      });
}
