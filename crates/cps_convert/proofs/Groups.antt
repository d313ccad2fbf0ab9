-- The steps of the conversion of OBJECTs, and of the LAMBDAs of a LABELS.
use Rattle.std.proofs.Common.{◌≡◌, ℕ, suc, ◌+◌, ◌<◌, ◌≤◌, Bool, true, false, List, [], ◌∷◌, ◌++◌, map, length, take, get_or, Option, Some, None, refl, sym, ap, ◌∙◌, subst, arith}
use Rattle.std.proofs.lemmas.Bool.{true≢false}
use Rattle.std.proofs.lemmas.List.{take_more}
use Rattle.std.specs.List.{flat_map, AllByRecursion}
use Rattle.t_base.specs.declared.basics.Var.{Var}
use Rattle.t_core.specs.declared.forms.Core.{Core}
use Rattle.t_core.specs.declared.forms.Core.TheVariants as Node
use Rattle.t_core.specs.declared.forms.Method.{Method}
use Rattle.t_core.specs.declared.forms.UnitCore.{UnitCore}
use Rattle.t_core.specs.Nodes.{part}
use Rattle.t_meaning.specs.Programs.{node_at}
use Rattle.cps_ir.specs.declared.args.Arg.{Arg}
use Rattle.cps_ir.specs.declared.terms.Cont.{Cont}
use Rattle.cps_ir.specs.declared.terms.Lam.{Lam}
use Rattle.cps_ir.specs.declared.terms.Term.TheVariants as Step
use Rattle.cps_ir.specs.Reaches.{is_in}
use Rattle.cps_conversion.specs.Conversion.{Translation, MethodsAs, LambdaNode, LambdaNodes, ConvertsWithin, adding}
use Rattle.cps_conversion.proofs.Scopes.{in_adding}
use Rattle.cps_conversion.proofs.Deeper.{converts_deeper, lam_more}
use Rattle.cps_convert.specs.declared.conversion.Conversion.{Conversion}
use Rattle.cps_convert.specs.declared.operands.Job.{Job}
use Rattle.cps_convert.specs.Growing.{AddsTerm, AddsProcedure}
use Rattle.cps_convert.specs.Claims.{Setting, AreOuter, AreOwn, IsScopedIn, LamClaim, LamConverted, translation}
use Rattle.cps_convert.specs.Operands.{IsOperand, IsOperandAdded, JobsConverted}
use Rattle.cps_convert.specs.Kinds.{LambdaIs, LambdaMade, LambdasAre, LambdasMade, MethodIs, MethodMade, MethodsAre, MethodsMade, KindConverted}
use Rattle.cps_convert.proofs.Listing.{grows_same, grows_more, one_operand}
use Rattle.cps_convert.proofs.Spots.{are_more, opened, over}
use Rattle.cps_convert.proofs.Bodies.{own_all, lambda_at}

-- ---- a claim that was made later

claim_less : (x : Translation) (marks : List Bool) (base next more form key : ℕ) (params : List Var) (body : ℕ) (lam : Lam) → next ≤ more → LamClaim x marks base more form key params body lam → LamClaim x marks base next form key params body lam
claim_less x marks base next more form key params body lam up h setting first bound own scoped outs = h setting (omega (arith, first, up)) bound own scoped (are_more x.unit base next more form (suc key) (suc key) up (omega arith) bound outs)

lambda_less : (x : Translation) (marks : List Bool) (base next more form key : ℕ) (o : Option Core) (l : ℕ) → next ≤ more → LambdaIs x marks base more form key o l → LambdaIs x marks base next form key o l
lambda_less x marks base next more form key (Some (Node.Lambda params body)) l up h = (h.0, h.1, h.2, claim_less x marks base next more form key params body h.0 up h.3)
lambda_less x marks base next more form key None l up h = absurd h
lambda_less x marks base next more form key (Some (Node.Const c)) l up h = absurd h
lambda_less x marks base next more form key (Some (Node.Local v)) l up h = absurd h
lambda_less x marks base next more form key (Some (Node.Global g)) l up h = absurd h
lambda_less x marks base next more form key (Some (Node.Builtin b)) l up h = absurd h
lambda_less x marks base next more form key (Some (Node.Op o)) l up h = absurd h
lambda_less x marks base next more form key (Some (Node.If test first second)) l up h = absurd h
lambda_less x marks base next more form key (Some (Node.Block items)) l up h = absurd h
lambda_less x marks base next more form key (Some (Node.Let vars values body)) l up h = absurd h
lambda_less x marks base next more form key (Some (Node.Labels vars lambdas body)) l up h = absurd h
lambda_less x marks base next more form key (Some (Node.SetLocal v value)) l up h = absurd h
lambda_less x marks base next more form key (Some (Node.SetGlobal g value)) l up h = absurd h
lambda_less x marks base next more form key (Some (Node.Catch v body)) l up h = absurd h
lambda_less x marks base next more form key (Some (Node.Object proc methods)) l up h = absurd h
lambda_less x marks base next more form key (Some (Node.Call operator operands tail)) l up h = absurd h
lambda_less x marks base next more form key (Some (Node.Prim b operands)) l up h = absurd h

-- ---- the LAMBDAs of a LABELS

lambdas_are_more : (x : Translation) (marks : List Bool) (base next form above : ℕ) (keys lams : List ℕ) (key l : ℕ) → LambdasAre x marks base next form above keys lams → key < above → LambdaIs x marks base next form key (node_at x.unit form key) l
    → LambdasAre x marks base next form above (keys ++ key ∷ []) (lams ++ l ∷ [])
lambdas_are_more x marks base next form above [] [] key l h below is = (below, is, tt)
lambdas_are_more x marks base next form above (k ∷ keys) (m ∷ lams) key l h below is = (h.0, h.1, lambdas_are_more x marks base next form above keys lams key l h.2 below is)
lambdas_are_more x marks base next form above [] (m ∷ lams) key l h below is = absurd h
lambdas_are_more x marks base next form above (k ∷ keys) [] key l h below is = absurd h

pub lambdas_none : (unit : UnitCore) (marks : List Bool) (form : ℕ) (a : Conversion) (above : ℕ) → LambdasMade unit marks form a a above [] []
lambdas_none unit marks form a above = record { grows = grows_same a; holds = λ cps origins inc base. tt }

pub lambdas_step : (unit : UnitCore) (marks : List Bool) (form : ℕ) (a b c : Conversion) (above : ℕ) (keys : List ℕ) (at d : ℕ) (lams pushed : List ℕ) (l : ℕ) → at < length keys → LambdasMade unit marks form a b above (take at keys) lams
    → get_or keys at d < above → LambdaMade unit marks form b c (get_or keys at d) l → pushed ≡ lams ++ l ∷ [] → LambdasMade unit marks form a c above (take (at + 1) keys) pushed
lambdas_step unit marks form a b c above keys at d lams pushed l below h less made e =
    subst (λ ls. LambdasMade unit marks form a c above (take (at + 1) keys) ls) (sym e)
    (subst (λ ks. LambdasMade unit marks form a c above ks (lams ++ l ∷ [])) (sym (take_more keys at d below))
    (record {
      grows = grows_more a b c h.grows made.grows;
      holds = λ cps origins inc base.
          let x = translation unit cps origins in
          lambdas_are_more x marks base a.next form above (take at keys) lams (get_or keys at d) l (h.holds cps origins (made.grows.includes x inc) base) less
          (lambda_less x marks base a.next b.next form (get_or keys at d) (node_at unit form (get_or keys at d)) l h.grows.next (made.holds cps origins inc base));
    }))

node_lambda : (x : Translation) (marks : List Bool) (base now next form above key : ℕ) (bound : List ℕ) (o : Option Core) (l : ℕ) → Setting x.unit marks base → base ≤ now → now ≤ next → key < above → node_at x.unit form key ≡ o
    → IsScopedIn x.unit form key bound → AreOuter x.unit base now form above bound → LambdaIs x marks base next form key o l → LambdaNode x (ConvertsWithin x above) form bound key o l
node_lambda x marks base now next form above key bound (Some (Node.Lambda params body)) l setting first up below there scoped outs h =
    let at = lambda_at x marks base now next form key bound params body l setting first up there scoped (are_more x.unit base now now form above (suc key) (omega arith) (omega (arith, below)) bound outs) h in
    record {
      lam_at = lam_more x (ConvertsWithin x key) (ConvertsWithin x above) (converts_deeper x key above (omega (arith, below))) form bound params body l at.lam_at;
      behind = at.behind;
      origin = at.origin;
    }
node_lambda x marks base now next form above key bound None l setting first up below there scoped outs h = absurd h
node_lambda x marks base now next form above key bound (Some (Node.Const c)) l setting first up below there scoped outs h = absurd h
node_lambda x marks base now next form above key bound (Some (Node.Local v)) l setting first up below there scoped outs h = absurd h
node_lambda x marks base now next form above key bound (Some (Node.Global g)) l setting first up below there scoped outs h = absurd h
node_lambda x marks base now next form above key bound (Some (Node.Builtin b)) l setting first up below there scoped outs h = absurd h
node_lambda x marks base now next form above key bound (Some (Node.Op o)) l setting first up below there scoped outs h = absurd h
node_lambda x marks base now next form above key bound (Some (Node.If test yes' no')) l setting first up below there scoped outs h = absurd h
node_lambda x marks base now next form above key bound (Some (Node.Block items)) l setting first up below there scoped outs h = absurd h
node_lambda x marks base now next form above key bound (Some (Node.Let vars values body)) l setting first up below there scoped outs h = absurd h
node_lambda x marks base now next form above key bound (Some (Node.Labels vars lambdas body)) l setting first up below there scoped outs h = absurd h
node_lambda x marks base now next form above key bound (Some (Node.SetLocal v value)) l setting first up below there scoped outs h = absurd h
node_lambda x marks base now next form above key bound (Some (Node.SetGlobal g value)) l setting first up below there scoped outs h = absurd h
node_lambda x marks base now next form above key bound (Some (Node.Catch v body)) l setting first up below there scoped outs h = absurd h
node_lambda x marks base now next form above key bound (Some (Node.Object proc methods)) l setting first up below there scoped outs h = absurd h
node_lambda x marks base now next form above key bound (Some (Node.Call operator operands tail)) l setting first up below there scoped outs h = absurd h
node_lambda x marks base now next form above key bound (Some (Node.Prim b operands)) l setting first up below there scoped outs h = absurd h

pub lambda_nodes : (x : Translation) (marks : List Bool) (base now form above : ℕ) (bound keys lams : List ℕ) → Setting x.unit marks base → base ≤ now → AllByRecursion (λ c. IsScopedIn x.unit form c bound) keys
    → AreOuter x.unit base now form above bound → LambdasAre x marks base now form above keys lams → LambdaNodes x (ConvertsWithin x above) form bound keys lams
lambda_nodes x marks base now form above bound [] [] setting first scoped outs h = tt
lambda_nodes x marks base now form above bound (c ∷ keys) (l ∷ lams) setting first scoped outs h =
    (node_lambda x marks base now now form above c bound (node_at x.unit form c) l setting first (omega arith) h.0 refl scoped.0 outs h.1, lambda_nodes x marks base now form above bound keys lams setting first scoped.1 outs h.2)
lambda_nodes x marks base now form above bound [] (l ∷ lams) setting first scoped outs h = absurd h
lambda_nodes x marks base now form above bound (c ∷ keys) [] setting first scoped outs h = absurd h

-- ---- methods

pub method_made : (unit : UnitCore) (marks : List Bool) (form : ℕ) (a b c : Conversion) (key : ℕ) (m : Method) (lam : Lam) (l : ℕ) → LamConverted unit marks form a b key m.params m.body lam
    → AddsProcedure b c (record { lam = lam; form = form; node = key }) l → MethodMade unit marks form a c key m l
method_made unit marks form a b c key m lam l made adds = record {
  grows = grows_more a b c made.grows adds.grows;
  holds = λ cps origins inc base. let x = translation unit cps origins in (lam, adds.stands x inc, made.holds cps origins (adds.grows.includes x inc) base);
}

methods_are_more : (x : Translation) (marks : List Bool) (base next form key : ℕ) (methods : List Method) (ops lams : List ℕ) (m : Method) (l : ℕ) → MethodsAre x marks base next form key methods ops lams → MethodIs x marks base next form key m l
    → MethodsAre x marks base next form key (methods ++ m ∷ []) (ops ++ m.op ∷ []) (lams ++ l ∷ [])
methods_are_more x marks base next form key [] [] [] m l h is = (refl, is, tt)
methods_are_more x marks base next form key (n ∷ methods) (o ∷ ops) (k ∷ lams) m l h is = (h.0, h.1, methods_are_more x marks base next form key methods ops lams m l h.2 is)
methods_are_more x marks base next form key [] [] (k ∷ lams) m l h is = absurd h
methods_are_more x marks base next form key [] (o ∷ ops) lams m l h is = absurd h
methods_are_more x marks base next form key (n ∷ methods) [] lams m l h is = absurd h
methods_are_more x marks base next form key (n ∷ methods) (o ∷ ops) [] m l h is = absurd h

pub methods_none : (unit : UnitCore) (marks : List Bool) (form : ℕ) (a : Conversion) (key : ℕ) → MethodsMade unit marks form a a key [] [] []
methods_none unit marks form a key = record { grows = grows_same a; holds = λ cps origins inc base. tt }

pub methods_step : (unit : UnitCore) (marks : List Bool) (form : ℕ) (a b c : Conversion) (key : ℕ) (methods : List Method) (at : ℕ) (d : Method) (ops lams more_ops more_lams : List ℕ) (l : ℕ) → at < length methods
    → MethodsMade unit marks form a b key (take at methods) ops lams → MethodMade unit marks form b c key (get_or methods at d) l → more_ops ≡ ops ++ (get_or methods at d).op ∷ [] → more_lams ≡ lams ++ l ∷ []
    → MethodsMade unit marks form a c key (take (at + 1) methods) more_ops more_lams
methods_step unit marks form a b c key methods at d ops lams more_ops more_lams l below h made e f =
    subst (λ os. MethodsMade unit marks form a c key (take (at + 1) methods) os more_lams) (sym e)
    (subst (λ ls. MethodsMade unit marks form a c key (take (at + 1) methods) (ops ++ (get_or methods at d).op ∷ []) ls) (sym f)
    (subst (λ ms. MethodsMade unit marks form a c key ms (ops ++ (get_or methods at d).op ∷ []) (lams ++ l ∷ [])) (sym (take_more methods at d below))
    (record {
      grows = grows_more a b c h.grows made.grows;
      holds = λ cps origins inc base.
          let x = translation unit cps origins in
          let m = get_or methods at d in
          let is = made.holds cps origins inc base in
          methods_are_more x marks base a.next form key (take at methods) ops lams m l (h.holds cps origins (made.grows.includes x inc) base)
          (is.0, is.1, claim_less x marks base a.next b.next form key m.params m.body is.0 h.grows.next is.2);
    })))

adding_both : (xs ys : List Var) (held : List ℕ) → adding (xs ++ ys) held ≡ adding ys (adding xs held)
adding_both [] ys held = refl
adding_both (v ∷ xs) ys held = adding_both xs ys (v.0 ∷ held)

own_left : (unit : UnitCore) (form key : ℕ) (xs ys : List Var) → AreOwn unit form key (xs ++ ys) → AreOwn unit form key xs
own_left unit form key [] ys own = tt
own_left unit form key (v ∷ xs) ys own = (own.0, by (is_in (adding xs []) v.0) refl, own_left unit form key xs ys own.2)
  where
    by : (b : Bool) → is_in (adding xs []) v.0 ≡ b → is_in (adding xs []) v.0 ≡ false
    by true e = absurd (true≢false (sym (in_adding ys v.0 (adding xs []) e) ∙ ap (λ l. is_in l v.0) (sym (adding_both xs ys [])) ∙ own.1))
    by false e = e

own_right : (unit : UnitCore) (form key : ℕ) (xs ys : List Var) → AreOwn unit form key (xs ++ ys) → AreOwn unit form key ys
own_right unit form key [] ys own = own
own_right unit form key (v ∷ xs) ys own = own_right unit form key xs ys own.2

methods_as : (x : Translation) (marks : List Bool) (base now form key : ℕ) (bound : List ℕ) (methods : List Method) (ops lams : List ℕ) → Setting x.unit marks base → base ≤ now → AreOuter x.unit base now form (suc key) bound
    → AreOwn x.unit form key (flat_map (λ m. m.params) methods) → AllByRecursion (λ p. IsScopedIn x.unit form p.at (adding p.binds bound)) (map (λ m. part m.body m.params true) methods)
    → MethodsAre x marks base now form key methods ops lams → MethodsAs x (ConvertsWithin x key) form bound methods ops lams
methods_as x marks base now form key bound [] [] [] setting first outs own scoped h = tt
methods_as x marks base now form key bound (m ∷ methods) (o ∷ ops) (l ∷ lams) setting first outs own scoped h = (
  h.0,
  (h.1.0, h.1.1.lam, h.1.2 setting first bound (own_left x.unit form key m.params (flat_map (λ n. n.params) methods) own) scoped.0 outs),
  methods_as x marks base now form key bound methods ops lams setting first outs (own_right x.unit form key m.params (flat_map (λ n. n.params) methods) own) scoped.1 h.2,
)
methods_as x marks base now form key bound [] [] (l ∷ lams) setting first outs own scoped h = absurd h
methods_as x marks base now form key bound [] (o ∷ ops) lams setting first outs own scoped h = absurd h
methods_as x marks base now form key bound (m ∷ methods) [] lams setting first outs own scoped h = absurd h
methods_as x marks base now form key bound (m ∷ methods) (o ∷ ops) [] setting first outs own scoped h = absurd h

pub object_converted : (unit : UnitCore) (marks : List Bool) (form : ℕ) (a b c d e : Conversion) (key proc : ℕ) (methods : List Method) (ops lams : List ℕ) (k : Cont) (arg : Arg) (jobs : List Job) (t last : ℕ)
    → MethodsMade unit marks form a b key methods ops lams → IsOperandAdded unit form b c proc arg [] jobs → AddsTerm c d (Step.Object arg ops lams k) last → JobsConverted unit marks form d e key jobs t last
    → KindConverted unit marks form a e key (Node.Object proc methods) k t
object_converted unit marks form a b c d e key proc methods ops lams k arg jobs t last made operand adds done = record {
  grows = grows_more a b e made.grows (grows_more b c e operand.grows (grows_more c d e adds.grows done.grows));
  holds = λ cps origins inc base there setting bound held spot goes.
      let x = translation unit cps origins in
      let at_d = done.grows.includes x inc in
      let at_c = adds.grows.includes x at_d in
      let at_b = operand.grows.includes x at_c in
      let o = opened unit form key bound (Node.Object proc methods) spot.scoped there in
      record {
        ops = ops;
        lams = lams;
        methods_as = methods_as x marks base a.next form key bound methods ops lams setting spot.base_first spot.bound_outer (own_all unit marks base form key (Node.Object proc methods) setting there) o.parts.1
            (made.holds cps origins at_b base);
        over = (
          arg,
          over x marks base a.next b.next c.next d.next form key bound held (proc ∷ []) (arg ∷ []) jobs (Step.Object arg ops lams k) t last setting spot.base_first made.grows.next (omega (arith, adds.next))
              (are_more unit base a.next a.next form (suc key) key (omega arith) (omega arith) bound spot.bound_outer) (are_more unit base a.next a.next form (suc key) key (omega arith) (omega arith) held spot.held_outer) (o.parts.0, tt)
              (one_operand unit form b.next c.next proc arg jobs (subst (λ l. IsOperand unit form b.next c.next proc arg l) (sym operand.after) operand.is)) (done.holds cps origins inc base) (adds.stands x at_d),
        );
      };
}
