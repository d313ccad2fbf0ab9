-- Variables that are bound, and the words of those that are captured.
use Rattle.std.proofs.Common.{◌≡◌, ℕ, ◌<◌, ◌==◌, ◌&&◌, Bool, true, false, if◌then◌else◌, List, [], ◌∷◌, Some, is_some, refl, sym, ap, ◌∙◌, subst}
use Rattle.std.specs.List.{list_all}
use Rattle.std.proofs.lemmas.Bool.{eq-eqb, eqb-true}
use Rattle.t_base.specs.declared.basics.Var.{Var}
use Rattle.word_ir.specs.Word.{Word, Number}
use Rattle.word_ir.specs.Storage.{Sizes}
use Rattle.word_ir.specs.State.{Own, kept}
use Rattle.word_ir.specs.State as word_state
use Rattle.word_ir.specs.Stamps.{Stamp}
use Rattle.frame_ir.specs.Values.{Value, Lasting, InFrame, CellAt, Env, value_at, is_lasting}
use Rattle.frame_ir.specs.States.{State}
use Rattle.frame_ir.specs.Arguments.{each_of, kept_values}
use Rattle.word_trees.specs.Cores.{Core, binding, some_stamp}
use Rattle.frame_words.specs.Layouts.{Layout}
use Rattle.frame_words.specs.ValueWords.{captured_for, or_zero}
use Rattle.frame_words.specs.Contents.{captures}
use Rattle.frame_words.specs.Holding.{AreCaptured}
use Rattle.frame_stacks.specs.Stacks.{Ways, StandsFor}
use Rattle.frame_stacks.specs.Frames.{HoldsVariable, HoldsVariables}
use Rattle.frame_pushes.proofs.Kept.{each_by}
use Rattle.frame_heap.proofs.Filling.{HaveWords}

module _ (sizes : Sizes) (l : Layout) (g : Ways) (t : ℕ) (s : State) where
  -- one variable more
  module _ (env : Env) (c : Core) (to : Var) (v : Value) (x : Word) (stamp : Stamp) (below : to.0 < t) (stands : StandsFor sizes l g s v x stamp) where
    same_value : (w : Value) → Some v ≡ Some w → v ≡ w
    same_value w e = cc

    variable_by : (y : ℕ) (w : Value) (b : Bool) → (to.0 == y) ≡ b → HoldsVariables sizes l g t s env c → (if b then Some v else value_at env y) ≡ Some w → HoldsVariable sizes l g t s (binding c to x stamp) y w
    variable_by y w true eq h found =
        let n : to.0 ≡ y = eqb-true to.0 y eq in
        subst (λ z. HoldsVariable sizes l g t s (binding c to x stamp) z w) n
        (subst (λ u. HoldsVariable sizes l g t s (binding c to x stamp) to.0 u) (same_value w found)
        (record { older = below; word = x; stamp = stamp; held = rw (eq-eqb to.0 to.0 refl) refl; stamped = rw (eq-eqb to.0 to.0 refl) refl; stands = stands }))
    variable_by y w false eq h found =
        let o : HoldsVariable sizes l g t s c y w = h.each y w found in
        record { older = o.older; word = o.word; stamp = o.stamp; held = rw eq o.held; stamped = rw eq o.stamped; stands = o.stands }

    pub one_bound : HoldsVariables sizes l g t s env c → HoldsVariables sizes l g t s ((to.0, v) ∷ env) (binding c to x stamp)
    one_bound h = record { each = λ y w found. variable_by y w (to.0 == y) refl h found }

  -- by the words of variables and their stamps alone
  pub same_variables : (env : Env) (c d : Core) → d.env ≡ c.env → d.stamps ≡ c.stamps → HoldsVariables sizes l g t s env c → HoldsVariables sizes l g t s env d
  same_variables env c d words stamps h = record {
    each = λ y w found.
        let o : HoldsVariable sizes l g t s c y w = h.each y w found in
        record { older = o.older; word = o.word; stamp = o.stamp; held = ap (λ m. kept m (Own y)) words ∙ o.held; stamped = ap (λ m. some_stamp (kept m (Own y))) stamps ∙ o.stamped; stands = o.stands };
  }

  -- ---- what is captured

  both_true : (a b : Bool) → (a && b) ≡ true → (a ≡ true) × (b ≡ true)
  both_true true b h = (refl, h)
  both_true false b h = absurd (cc)

  pub record IsCapturedWord (v : Value) (x : Word) : Type 0 where
    pub number : ℕ
    pub known : captured_for l s v ≡ Some number
    pub is : x ≡ Number number

  pub captured_word_is : (v : Value) (x : Word) (stamp : Stamp) → is_lasting v ≡ true → StandsFor sizes l g s v x stamp → IsCapturedWord v x
  captured_word_is (Lasting v) x stamp q h = record { number = h.number; known = h.known; is = h.is }
  captured_word_is (CellAt k) x stamp q h = record { number = h.number; known = h.known; is = h.is }
  captured_word_is (InFrame b slot) x stamp q h = absurd (cc)

  pub record AreWordsOf (env : word_state.Env Word) (xs : List Var) (vs : List Value) : Type 0 where
    pub held : HaveWords env xs (captures l s vs)
    pub known : AreCaptured l s vs

  pub captured_words : (env : Env) (c : Core) (xs : List Var) (vs : List Value) → HoldsVariables sizes l g t s env c → kept_values env xs ≡ Some vs → list_all is_lasting vs ≡ true → AreWordsOf c.env xs vs
  captured_words env c [] [] h e q = record { held = tt; known = tt }
  captured_words env c [] (v ∷ vs) h e q = absurd (cc)
  captured_words env c (x ∷ xs) [] h e q = let m = each_by (value_at env x.0) (each_of (λ y. value_at env y.0) xs) [] e in absurd (let no : [] ≡ m.0 ∷ m.1 = m.4 in cc)
  captured_words env c (x ∷ xs) (v ∷ vs) h e q =
      let m = each_by (value_at env x.0) (each_of (λ y. value_at env y.0) xs) (v ∷ vs) e in
      let first : value_at env x.0 ≡ Some v = let same : v ∷ vs ≡ m.0 ∷ m.1 = m.4 in let head : v ≡ m.0 = cc in m.2 ∙ ap Some (sym head) in
      let later : kept_values env xs ≡ Some vs = let same : v ∷ vs ≡ m.0 ∷ m.1 = m.4 in let tail : vs ≡ m.1 = cc in m.3 ∙ ap Some (sym tail) in
      let both = both_true (is_lasting v) (list_all is_lasting vs) q in
      let o : HoldsVariable sizes l g t s c x.0 v = h.each x.0 v first in
      let w : IsCapturedWord v o.word = captured_word_is v o.word o.stamp both.0 o.stands in
      let rest : AreWordsOf c.env xs vs = captured_words env c xs vs h later both.1 in
      record {
        held = (o.held ∙ (ap Some w.is ∙ ap (λ n. Some (Number n)) (sym (ap or_zero w.known))), rest.held);
        known = (ap is_some w.known, rest.known);
      }
