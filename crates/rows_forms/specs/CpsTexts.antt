-- Two texts in continuation-passing style; `(+ 40 2)` stands with the language.
use Rattle.std.specs.Prelude.{[], ◌∷◌, refl}
use Rattle.std.specs.Global.{Global}
use Rattle.t_base.specs.declared.builtins.Builtin.TheVariants.{Add, Car, IsFixnum}
use Rattle.cps_ir.specs.declared.args.Arg.TheVariants as Argument
use Rattle.cps_ir.specs.declared.terms.Term.TheVariants as Node
use Rattle.cps_ir.specs.declared.terms.Cps.{Cps}
use Rattle.cps_ir.specs.Writing.{vec_of, var, fix, local, to, into, lam, plain}

-- (catch a (+ 1 (catch b (a 5))))
abbrev pub two_catches : Global → Cps
two_catches alloc = record {
  shared = plain alloc 9;
  lams = vec_of alloc [] refl;
  terms = vec_of alloc (
      Node.Halt (local 2) ∷ Node.Uncatch (to 3) (local 4) ∷ Node.Prim Add (fix 1 ∷ local 5 ∷ []) (into 4 1) ∷
      Node.Uncatch (to 6) (local 7) ∷ Node.Call (local 0) (fix 5 ∷ []) (into 7 3) ∷ Node.Catch (var 1) 4 (to 6) ∷
      Node.Join (var 6) (var 5) 2 5 ∷ Node.Catch (var 0) 6 (to 3) ∷ Node.Join (var 3) (var 2) 0 7 ∷ []) refl;
  entry = 8;
}

-- ((if (fixnum? 1) (lambda (x y) x) car) 2): the count is looked at when it is known what is called
abbrev pub wrong_count : Global → Cps
wrong_count alloc = record {
  shared = plain alloc 10;
  lams = vec_of alloc (lam (0 ∷ 1 ∷ []) 2 0 ∷ []) refl;
  terms = vec_of alloc (
      Node.Give (to 2) (local 0) ∷ Node.Halt (local 3) ∷ Node.Call (local 4) (fix 2 ∷ []) (into 3 1) ∷ Node.Give (to 5) (Argument.Proc 0) ∷
      Node.Give (to 5) (Argument.Builtin Car) ∷ Node.If (local 6) 3 4 ∷ Node.Prim IsFixnum (fix 1 ∷ []) (into 6 5) ∷ Node.Join (var 5) (var 4) 2 6 ∷ []) refl;
  entry = 7;
}
