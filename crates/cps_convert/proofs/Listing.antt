-- Lists that are made one item after the other.
use Rattle.std.proofs.Common.{◌≡◌, Bool, ℕ, ◌+◌, ◌<◌, List, [], ◌∷◌, ◌++◌, length, take, get_or, refl, sym, ap, ◌∙◌, subst, arith}
use Rattle.std.proofs.lemmas.List.{take_more}
use Rattle.std.proofs.lemmas.List.{append_assoc, append-nil}
use Rattle.t_base.specs.declared.basics.Var.{Var}
use Rattle.t_base.specs.declared.builtins.Builtin.{Builtin}
use Rattle.t_core.specs.declared.forms.Core.{Core}
use Rattle.t_core.specs.declared.forms.Core.TheVariants as Node
use Rattle.cps_ir.specs.declared.terms.Cont.{Cont}
use Rattle.cps_ir.specs.declared.terms.Term.{Term}
use Rattle.cps_ir.specs.declared.terms.Term.TheVariants as Step
use Rattle.t_core.specs.declared.forms.UnitCore.{UnitCore}
use Rattle.cps_ir.specs.declared.args.Arg.{Arg}
use Rattle.cps_ir.specs.declared.terms.Cps.{Cps}
use Rattle.cps_conversion.specs.Conversion.{Translation, Stands}
use Rattle.cps_convert.specs.declared.conversion.Conversion.{Conversion}
use Rattle.cps_convert.specs.declared.operands.Job.{Job}
use Rattle.cps_convert.specs.Growing.{GrowsTo, AddsTerm}
use Rattle.cps_convert.specs.Claims.{translation}
use Rattle.cps_convert.specs.Kinds.{LastAs, LastMade}
use Rattle.cps_convert.specs.Operands.{IsOperand, AreOperands, IsOperandAdded, AreOperandsAdded, IsLet, AreLets, IsLetAdded, AreLetsAdded}
use Rattle.cps_convert.specs.Naming.{IsName, AreNames, IsNamed, AreNamed}

-- ---- growth

pub grows_same : (a : Conversion) → GrowsTo a a
grows_same a = record { includes = λ x h. h; first = refl; next = omega arith }

pub grows_more : (a b c : Conversion) → GrowsTo a b → GrowsTo b c → GrowsTo a c
grows_more a b c h k = record { includes = λ x i. h.includes x (k.includes x i); first = k.first ∙ h.first; next = omega (arith, h.next, k.next) }

-- ---- operands

are_operands_more : (unit : UnitCore) (form next mid after : ℕ) (keys : List ℕ) (args : List Arg) (jobs : List Job) (key : ℕ) (a : Arg) (more : List Job)
    → AreOperands unit form next mid keys args jobs → IsOperand unit form mid after key a more → AreOperands unit form next after (keys ++ key ∷ []) (args ++ a ∷ []) (jobs ++ more)
are_operands_more unit form next mid after [] [] jobs key a more h is =
    (after, more, [], ap (λ l. l ++ more) h.0 ∙ sym (append-nil more), subst (λ n. IsOperand unit form n after key a more) h.1 is, (refl, refl))
are_operands_more unit form next mid after (k ∷ keys) (b ∷ args) jobs key a more h is =
    (h.0, h.1, h.2 ++ more, ap (λ l. l ++ more) h.3 ∙ append_assoc h.1 h.2 more, h.4, are_operands_more unit form h.0 mid after keys args h.2 key a more h.5 is)
are_operands_more unit form next mid after [] (b ∷ args) jobs key a more h is = absurd h
are_operands_more unit form next mid after (k ∷ keys) [] jobs key a more h is = absurd h

pub operands_more : (unit : UnitCore) (form : ℕ) (a b c : Conversion) (keys : List ℕ) (args : List Arg) (key : ℕ) (arg : Arg) (first second third : List Job)
    → AreOperandsAdded unit form a b keys args first second → IsOperandAdded unit form b c key arg second third → AreOperandsAdded unit form a c (keys ++ key ∷ []) (args ++ arg ∷ []) first third
operands_more unit form a b c keys args key arg first second third h is = record {
  grows = grows_more a b c h.grows is.grows;
  added = h.added ++ is.added;
  after = is.after ∙ ap (λ l. l ++ is.added) h.after ∙ append_assoc first h.added is.added;
  are = are_operands_more unit form a.next b.next c.next keys args h.added key arg is.added h.are is.is;
}

are_lets_more : (unit : UnitCore) (form next mid after : ℕ) (vars : List Var) (keys : List ℕ) (args : List Arg) (jobs : List Job) (v : Var) (key : ℕ) (a : Arg) (more : List Job)
    → AreLets unit form next mid vars keys args jobs → IsLet unit form mid after v key a more → AreLets unit form next after (vars ++ v ∷ []) (keys ++ key ∷ []) (args ++ a ∷ []) (jobs ++ more)
are_lets_more unit form next mid after [] [] [] jobs v key a more h is =
    (after, more, [], ap (λ l. l ++ more) h.0 ∙ sym (append-nil more), subst (λ n. IsLet unit form n after v key a more) h.1 is, (refl, refl))
are_lets_more unit form next mid after (w ∷ vars) (k ∷ keys) (b ∷ args) jobs v key a more h is =
    (h.0, h.1, h.2 ++ more, ap (λ l. l ++ more) h.3 ∙ append_assoc h.1 h.2 more, h.4, are_lets_more unit form h.0 mid after vars keys args h.2 v key a more h.5 is)
are_lets_more unit form next mid after [] [] (b ∷ args) jobs v key a more h is = absurd h
are_lets_more unit form next mid after [] (k ∷ keys) args jobs v key a more h is = absurd h
are_lets_more unit form next mid after (w ∷ vars) [] args jobs v key a more h is = absurd h
are_lets_more unit form next mid after (w ∷ vars) (k ∷ keys) [] jobs v key a more h is = absurd h

pub lets_more : (unit : UnitCore) (form : ℕ) (a b c : Conversion) (vars : List Var) (keys : List ℕ) (args : List Arg) (v : Var) (key : ℕ) (arg : Arg) (first second third : List Job)
    → AreLetsAdded unit form a b vars keys args first second → IsLetAdded unit form b c v key arg second third → AreLetsAdded unit form a c (vars ++ v ∷ []) (keys ++ key ∷ []) (args ++ arg ∷ []) first third
lets_more unit form a b c vars keys args v key arg first second third h is = record {
  grows = grows_more a b c h.grows is.grows;
  added = h.added ++ is.added;
  after = is.after ∙ ap (λ l. l ++ is.added) h.after ∙ append_assoc first h.added is.added;
  are = are_lets_more unit form a.next b.next c.next vars keys args h.added v key arg is.added h.are is.is;
}

-- ---- names

are_names_more : (marks : List Bool) (next mid after : ℕ) (vars names : List Var) (v y : Var) → AreNames marks next mid vars names → IsName marks mid after v y
    → AreNames marks next after (vars ++ v ∷ []) (names ++ y ∷ [])
are_names_more marks next mid after [] [] v y h is = (after, subst (λ n. IsName marks n after v y) h is, refl)
are_names_more marks next mid after (w ∷ vars) (z ∷ names) v y h is = (h.0, h.1, are_names_more marks h.0 mid after vars names v y h.2 is)
are_names_more marks next mid after [] (z ∷ names) v y h is = absurd h
are_names_more marks next mid after (w ∷ vars) [] v y h is = absurd h

pub names_more : (a b c : Conversion) (marks : List Bool) (vars names : List Var) (v y : Var) → AreNamed a b marks vars names → IsNamed b c marks v y
    → AreNamed a c marks (vars ++ v ∷ []) (names ++ y ∷ [])
names_more a b c marks vars names v y h is = record { grows = grows_more a b c h.grows is.grows; are = are_names_more marks a.next b.next c.next vars names v y h.are is.is }

-- ---- terms over operands

pub one_operand : (unit : UnitCore) (form next after : ℕ) (key : ℕ) (a : Arg) (jobs : List Job) → IsOperand unit form next after key a jobs → AreOperands unit form next after (key ∷ []) (a ∷ []) jobs
one_operand unit form next after key a jobs is = (after, jobs, [], sym (append-nil jobs), is, (refl, refl))

-- of a kind with one operand
pub one_made : (unit : UnitCore) (form : ℕ) (a b c : Conversion) (key : ℕ) (arg : Arg) (first second : List Job) (core : Core) (k : Cont) (term : Term) (t : ℕ)
    → ((x : Translation) (after : ℕ) (jobs : List Job) → AreOperands x.unit form a.next after (key ∷ []) (arg ∷ []) jobs → Stands x t term → LastAs x form a.next after core k jobs t)
    → IsOperandAdded unit form a b key arg first second → AddsTerm b c term t → LastMade unit form a c core k first second t
one_made unit form a b c key arg first second core k term t f is made = record {
  grows = grows_more a b c is.grows made.grows;
  added = is.added;
  after = is.after;
  holds = λ cps origins inc.
      f (translation unit cps origins) c.next is.added (subst (λ n. AreOperands unit form a.next n (key ∷ []) (arg ∷ []) is.added) (sym made.next) (one_operand unit form a.next b.next key arg is.added is.is))
      (made.stands (translation unit cps origins) inc);
}

pub prim_made : (unit : UnitCore) (form : ℕ) (a b c : Conversion) (keys : List ℕ) (args : List Arg) (first second : List Job) (p : Builtin) (k : Cont) (t : ℕ)
    → AreOperandsAdded unit form a b keys args first second → AddsTerm b c (Step.Prim p args k) t → LastMade unit form a c (Node.Prim p keys) k first second t
prim_made unit form a b c keys args first second p k t are made = record {
  grows = grows_more a b c are.grows made.grows;
  added = are.added;
  after = are.after;
  holds = λ cps origins inc. (args, subst (λ n. AreOperands unit form a.next n keys args are.added) (sym made.next) are.are, made.stands (translation unit cps origins) inc);
}

pub call_made : (unit : UnitCore) (form : ℕ) (a b c d : Conversion) (operator : ℕ) (f : Arg) (keys : List ℕ) (args : List Arg) (first second third : List Job) (tail : Bool) (k : Cont) (t : ℕ)
    → IsOperandAdded unit form a b operator f first second → AreOperandsAdded unit form b c keys args second third → AddsTerm c d (Step.Call f args k) t
    → LastMade unit form a d (Node.Call operator keys tail) k first third t
call_made unit form a b c d operator f keys args first second third tail k t is are made = record {
  grows = grows_more a b d is.grows (grows_more b c d are.grows made.grows);
  added = is.added ++ are.added;
  after = are.after ∙ ap (λ l. l ++ are.added) is.after ∙ append_assoc first is.added are.added;
  holds = λ cps origins inc.
      (f, args, (b.next, is.added, are.added, refl, is.is, subst (λ n. AreOperands unit form b.next n keys args are.added) (sym made.next) are.are), made.stands (translation unit cps origins) inc);
}

-- of a kind without operands
pub atom_made : (unit : UnitCore) (form : ℕ) (a b : Conversion) (jobs : List Job) (core : Core) (k : Cont) (term : Term) (t : ℕ)
    → ((cps : Cps) (origins : List (ℕ × ℕ)) → Stands (translation unit cps origins) t term → LastAs (translation unit cps origins) form a.next b.next core k [] t) → AddsTerm a b term t
    → LastMade unit form a b core k jobs jobs t
atom_made unit form a b jobs core k term t f made = record {
  grows = made.grows;
  added = [];
  after = sym (append-nil jobs);
  holds = λ cps origins inc. f cps origins (made.stands (translation unit cps origins) inc);
}

-- ---- a step of a loop

pub operands_step : (unit : UnitCore) (form : ℕ) (a b c : Conversion) (keys : List ℕ) (at d : ℕ) (args pushed : List Arg) (arg : Arg) (first second third : List Job) → at < length keys
    → AreOperandsAdded unit form a b (take at keys) args first second → IsOperandAdded unit form b c (get_or keys at d) arg second third → pushed ≡ args ++ arg ∷ []
    → AreOperandsAdded unit form a c (take (at + 1) keys) pushed first third
operands_step unit form a b c keys at d args pushed arg first second third below h is e =
    subst (λ l. AreOperandsAdded unit form a c (take (at + 1) keys) l first third) (sym e)
    (subst (λ l. AreOperandsAdded unit form a c l (args ++ arg ∷ []) first third) (sym (take_more keys at d below))
    (operands_more unit form a b c (take at keys) args (get_or keys at d) arg first second third h is))

pub lets_step : (unit : UnitCore) (form : ℕ) (a b c : Conversion) (vars : List Var) (keys : List ℕ) (at : ℕ) (v : Var) (d : ℕ) (args pushed : List Arg) (arg : Arg) (first second third : List Job)
    → at < length vars → at < length keys → AreLetsAdded unit form a b (take at vars) (take at keys) args first second → IsLetAdded unit form b c (get_or vars at v) (get_or keys at d) arg second third
    → pushed ≡ args ++ arg ∷ [] → AreLetsAdded unit form a c (take (at + 1) vars) (take (at + 1) keys) pushed first third
lets_step unit form a b c vars keys at v d args pushed arg first second third below inside h is e =
    subst (λ l. AreLetsAdded unit form a c (take (at + 1) vars) (take (at + 1) keys) l first third) (sym e)
    (subst (λ l. AreLetsAdded unit form a c l (take (at + 1) keys) (args ++ arg ∷ []) first third) (sym (take_more vars at v below))
    (subst (λ l. AreLetsAdded unit form a c (take at vars ++ get_or vars at v ∷ []) l (args ++ arg ∷ []) first third) (sym (take_more keys at d inside))
    (lets_more unit form a b c (take at vars) (take at keys) args (get_or vars at v) (get_or keys at d) arg first second third h is)))

pub names_step : (a b c : Conversion) (marks : List Bool) (vars : List Var) (at : ℕ) (d : Var) (names pushed : List Var) (y : Var) → at < length vars → AreNamed a b marks (take at vars) names
    → IsNamed b c marks (get_or vars at d) y → pushed ≡ names ++ y ∷ [] → AreNamed a c marks (take (at + 1) vars) pushed
names_step a b c marks vars at d names pushed y below h is e =
    subst (λ l. AreNamed a c marks (take (at + 1) vars) l) (sym e)
    (subst (λ l. AreNamed a c marks l (names ++ y ∷ [])) (sym (take_more vars at d below)) (names_more a b c marks (take at vars) names (get_or vars at d) y h is))
