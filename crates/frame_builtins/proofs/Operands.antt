-- The variables of a call as an environment.
use Rattle.std.proofs.Common.{◌≡◌, ℕ, zero, suc, ◌+◌, ◌<◌, ◌≤◌, ◌==◌, Bool, true, false, if◌then◌else◌, List, [], ◌∷◌, length, map, slice_get, Option, Some, None, is_some, refl, ap, ◌∙◌, subst, arith}
use Rattle.std.proofs.lemmas.Bool.{ne_eqb, eq-eqb, eqb-true}
use Rattle.t_base.specs.declared.shared_parts.Shared.{Shared}
use Rattle.t_prim.specs.Values.{Val}
use Rattle.cps_ir.specs.declared.args.Arg.{Arg}
use Rattle.cps_ir.specs.declared.args.Arg.TheVariants as Argument
use Rattle.word_ir.specs.declared.operands.Operand.TheVariants as operand
use Rattle.word_ir.specs.Word.{Number}
use Rattle.word_ir.specs.Storage.{Sizes}
use Rattle.word_ir.specs.State.{Own, kept}
use Rattle.frame_ir.specs.Values.{Value, Lasting, Env, value_at}
use Rattle.frame_ir.specs.States.{State}
use Rattle.frame_ir.specs.Arguments.{bound, each_of, lasting_value, lasting_values}
use Rattle.word_trees.specs.Cores.{Core, some_stamp}
use Rattle.frame_words.specs.Layouts.{Layout}
use Rattle.frame_words.specs.ValueWords.{word_for, val_word, or_zero}
use Rattle.frame_words.specs.Holding.{AreKnown}
use Rattle.select_rows.specs.Macros.{var}
use Rattle.frame_stacks.specs.Stacks.{Ways}
use Rattle.frame_stacks.specs.Frames.{HoldsVariable}
use Rattle.prim_holds.specs.Operands.{AreNamed, operand_of}
use Rattle.frame_calls.specs.Codes.{params_from}

-- as many arguments as operands
abbrev pub arguments : ℕ → ℕ → List Arg
arguments start count = map Argument.Var (params_from start count)

abbrev pub scope_of : ℕ → List Val → Env
scope_of start args = bound (params_from start (length args)) (map Lasting args)

some_number : (o : Option ℕ) → is_some o ≡ true → o ≡ Some (or_zero o)
some_number (Some n) k = refl
some_number None k = absurd (cc)

-- ---- variables hold what is bound to them

module _ (sizes : Sizes) (l : Layout) (g : Ways) (top : ℕ) (s : State) (c : Core) where
  one_held : (start x : ℕ) (a : Val) (args : List Val) (v : Value) (b : Bool) → (start == x) ≡ b → start < top → kept c.env (Own start) ≡ Some (Number (val_word l s a)) → is_some (word_for l s a) ≡ true → (value_at (scope_of (suc start) args) x ≡ Some v → HoldsVariable sizes l g top s c x v) → (if b then Some (Lasting a) else value_at (scope_of (suc start) args) x) ≡ Some v → HoldsVariable sizes l g top s c x v
  one_held start x a args v true eq lt held known next found =
      let same : start ≡ x = eqb-true start x eq in
      let value : Lasting a ≡ v = cc in
      subst (λ y. HoldsVariable sizes l g top s c y v) same
      (subst (λ w. HoldsVariable sizes l g top s c start w) value
      (record { older = lt; word = Number (val_word l s a); stamp = some_stamp (kept c.stamps (Own start)); held = held; stamped = refl; stands = record { number = val_word l s a; known = some_number (word_for l s a) known; is = refl } }))
  one_held start x a args v false eq lt held known next found = next found

  pub all_held : (start : ℕ) (args : List Val) (x : ℕ) (v : Value) → start + length args ≤ top → ((i : ℕ) (w : Val) → slice_get args i ≡ Some w → kept c.env (Own (start + i)) ≡ Some (Number (val_word l s w))) → AreKnown l s args → value_at (scope_of start args) x ≡ Some v → HoldsVariable sizes l g top s c x v
  all_held start [] x v le held known found = absurd (cc)
  all_held start (a ∷ args) x v le held known found =
      let z : start ≡ start + 0 = omega arith in
      one_held start x a args v (start == x) refl (omega (arith, le)) (ap (λ y. kept c.env (Own y)) z ∙ held 0 a refl) known.0
      (λ later. all_held (suc start) args x v (omega (arith, le)) (λ i w at. let m : suc start + i ≡ start + suc i = omega arith in ap (λ y. kept c.env (Own y)) m ∙ held (suc i) w at) known.1 later) found

-- ---- the values of the arguments

later_value : (start x : ℕ) (a : Val) (args : List Val) → start < x → value_at (scope_of start (a ∷ args)) x ≡ value_at (scope_of (suc start) args) x
later_value start x a args lt = rw (ne_eqb start x (λ eq. absurd (omega (arith, eq, lt)))) refl

first_value : (start : ℕ) (a : Val) (args : List Val) → value_at (scope_of start (a ∷ args)) start ≡ Some (Lasting a)
first_value start a args = rw (eq-eqb start start refl) refl

-- in any scope that has them
values_in : (shared : Shared) (env : Env) (start : ℕ) (args : List Val) → ((x : ℕ) → start ≤ x → value_at env x ≡ value_at (scope_of start args) x) → each_of (lasting_value shared env) (arguments start (length args)) ≡ Some args
values_in shared env start [] same = refl
values_in shared env start (a ∷ args) same =
    let first : value_at env start ≡ Some (Lasting a) = same start (omega arith) ∙ first_value start a args in
    let rest : each_of (lasting_value shared env) (arguments (suc start) (length args)) ≡ Some args = values_in shared env (suc start) args (λ x le. same x (omega (arith, le)) ∙ later_value start x a args (omega (arith, le))) in
    rw (first, rest) refl

pub values_are : (shared : Shared) (start : ℕ) (args : List Val) → lasting_values shared (scope_of start args) (arguments start (length args)) ≡ Some args
values_are shared start args = values_in shared (scope_of start args) start args (λ x le. refl)

pub all_named : (l : Layout) (shared : Shared) (start count : ℕ) → AreNamed l shared (arguments start count)
all_named l shared start zero = tt
all_named l shared start (suc count) = (tt, all_named l shared (suc start) count)

pub operands_are : (l : Layout) (shared : Shared) (start count : ℕ) → map (operand_of l shared) (arguments start count) ≡ map operand.Var (params_from start count)
operands_are l shared start zero = refl
operands_are l shared start (suc count) = ap (λ xs. operand.Var (var start) ∷ xs) (operands_are l shared (suc start) count)

pub arguments_count : (start count : ℕ) → length (arguments start count) ≡ count
arguments_count start zero = refl
arguments_count start (suc count) = omega (arith, arguments_count (suc start) count)
