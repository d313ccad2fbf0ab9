-- What the variables hold that a frame keeps.
use Rattle.std.proofs.Common.{◌≡◌, ℕ, zero, suc, List, [], ◌∷◌, length, slice_get, Option, Some, None, option_map, option_and_then, refl, sym, ap, ◌∙◌, subst, arith}
use Rattle.t_base.specs.declared.basics.Var.{Var}
use Rattle.word_ir.specs.Storage.{Sizes}
use Rattle.frame_ir.specs.Values.{Value, Env, value_at}
use Rattle.frame_ir.specs.States.{State}
use Rattle.frame_ir.specs.Arguments.{each_of, kept_values}
use Rattle.word_trees.specs.Cores.{Core}
use Rattle.frame_words.specs.Layouts.{Layout}
use Rattle.frame_stacks.specs.Stacks.{Ways, StandsFor}
use Rattle.frame_stacks.specs.Frames.{HoldsVariable, HoldsVariables}
use Rattle.frame_pushes.proofs.Filling.{Put, put, AreHeld}

-- all of them have a value, the first one too
pub each_by : {Y : Type 0} (o : Option Y) (p : Option (List Y)) (vs : List Y) → option_and_then (λ y. option_map (λ ys. y ∷ ys) p) o ≡ Some vs → (y : Y) × (ys : List Y) × (o ≡ Some y) × (p ≡ Some ys) × (vs ≡ y ∷ ys)
each_by None p vs e = absurd (cc)
each_by (Some y) None vs e = absurd (cc)
each_by (Some y) (Some ys) vs e = (y, ys, refl, refl, cc)

-- as many words as values, each with its own
abbrev pub AllStand : Sizes → Layout → Ways → State → List Value → List Put → Type 0
AllStand sizes l g s [] [] = Unit {0}
AllStand sizes l g s [] (p ∷ ps) = ⊥
AllStand sizes l g s (v ∷ vs) [] = ⊥
AllStand sizes l g s (v ∷ vs) (p ∷ ps) = StandsFor sizes l g s v p.word p.stamp × AllStand sizes l g s vs ps

-- the words of variables stand for their values
pub record KeptWords (sizes : Sizes) (l : Layout) (g : Ways) (s : State) (c : Core) (xs : List Var) (vs : List Value) : Type 0 where
  pub puts : List Put
  pub held : AreHeld c.env c.stamps xs puts
  pub stand : AllStand sizes l g s vs puts

pub kept_words : (sizes : Sizes) (l : Layout) (g : Ways) (t : ℕ) (s : State) (env : Env) (c : Core) (xs : List Var) (vs : List Value) → HoldsVariables sizes l g t s env c → kept_values env xs ≡ Some vs → KeptWords sizes l g s c xs vs
kept_words sizes l g t s env c [] [] h e = record { puts = []; held = tt; stand = tt }
kept_words sizes l g t s env c [] (v ∷ vs) h e = absurd (cc)
kept_words sizes l g t s env c (x ∷ xs) vs h e =
    let m = each_by (value_at env x.0) (each_of (λ y. value_at env y.0) xs) vs e in
    let o : HoldsVariable sizes l g t s c x.0 m.0 = h.each x.0 m.0 m.2 in
    let rest : KeptWords sizes l g s c xs m.1 = kept_words sizes l g t s env c xs m.1 h m.3 in
    subst (KeptWords sizes l g s c (x ∷ xs)) (sym m.4)
    (record { puts = put o.word o.stamp ∷ rest.puts; held = (o.held, o.stamped, rest.held); stand = (o.stands, rest.stand) })

pub stands_at : (sizes : Sizes) (l : Layout) (g : Ways) (s : State) (vs : List Value) (ps : List Put) (i : ℕ) (v : Value) → AllStand sizes l g s vs ps → slice_get vs i ≡ Some v → (p : Put) × (slice_get ps i ≡ Some p) × StandsFor sizes l g s v p.word p.stamp
stands_at sizes l g s [] ps i v h e = absurd (cc)
stands_at sizes l g s (w ∷ vs) [] i v h e = absurd h
stands_at sizes l g s (w ∷ vs) (p ∷ ps) zero v h e = let same : w ≡ v = cc in (p, refl, subst (λ y. StandsFor sizes l g s y p.word p.stamp) same h.0)
stands_at sizes l g s (w ∷ vs) (p ∷ ps) (suc i) v h e = stands_at sizes l g s vs ps i v h.1 e

pub values_count : (env : Env) (xs : List Var) (vs : List Value) → kept_values env xs ≡ Some vs → length vs ≡ length xs
values_count env [] [] e = refl
values_count env [] (v ∷ vs) e = absurd (cc)
values_count env (x ∷ xs) vs e =
    let m = each_by (value_at env x.0) (each_of (λ y. value_at env y.0) xs) vs e in
    let n : length m.1 ≡ length xs = values_count env xs m.1 m.3 in
    ap length m.4 ∙ omega (arith, n)
