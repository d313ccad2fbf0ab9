-- What a state keeps, and what a call gives to parameters.
use Rattle.std.proofs.Common.{◌≡◌, ℕ, zero, suc, ◌<◌, ◌≤◌, Bool, true, false, if◌then◌else◌, List, [], ◌∷◌, length, map, get_or, is_some, Option, Some, None, option_map, Contains, refl, sym, ap, subst, arith, ◌⊎◌, inl, inr}
use Rattle.std.specs.List.{AllByRecursion, flat_map}
use Rattle.std.proofs.lemmas.Bool.{true≢false}
use Rattle.std.proofs.lemmas.List.Elements.{Contains-append_left, Contains-append_right}
use Rattle.t_base.specs.declared.basics.Var.{Var}
use Rattle.word_ir.specs.declared.operands.Operand.{Operand}
use Rattle.word_ir.specs.declared.operands.Operand.TheVariants as operand
use Rattle.word_ir.specs.declared.placed.Home.{Home}
use Rattle.word_ir.specs.declared.placed.Home.TheVariants as home
use Rattle.word_ir.specs.Word.{Word}
use Rattle.word_ir.specs.Lines.{operand_var}
use Rattle.word_ir.specs.State.{Setting, Keeper, Own, At, keeper_of, same_home, same_keeper, Env, kept, State, held, has_room, hold, hold_all, is_in_frame}
use Rattle.word_ir.specs.Effects.{word_of, paired, pairs_of}
use Rattle.word_ir.proofs.WholeLemmas.{own_number}
use Rattle.word_scopes.specs.Ahead.{HasWord}

-- ---- what is kept

abbrev pub IsKept : Env Word → Keeper → Type 0
IsKept env k = is_some (kept env k) ≡ true

own_home : (h : Home) → same_home h h ≡ true
own_home (home.D i) = own_number i
own_home (home.A i) = own_number i
own_home (home.Stack n) = own_number n
own_home (home.Static p) = own_number p

own_keeper : (k : Keeper) → same_keeper k k ≡ true
own_keeper (Own v) = own_number v
own_keeper (At h) = own_home h

more_some : {X : Type 0} (b : Bool) (x : X) (o : Option X) → is_some o ≡ true → is_some (if b then Some x else o) ≡ true
more_some true x o h = refl
more_some false x o h = h

kept_more : (env : Env Word) (k j : Keeper) (x : Word) → IsKept env j → IsKept ((k, x) ∷ env) j
kept_more env k j x h = more_some (same_keeper k j) x (kept env j) h

here_some : {X : Type 0} (b : Bool) (x : X) (o : Option X) → b ≡ true → is_some (if b then Some x else o) ≡ true
here_some true x o e = refl
here_some false x o e = absurd (true≢false (sym e))

kept_here : (env : Env Word) (k : Keeper) (x : Word) → IsKept ((k, x) ∷ env) k
kept_here env k x = here_some (same_keeper k k) x (kept env k) (own_keeper k)

pub hold_keeps : (s : State) (k : Keeper) (x : Word) (j : Keeper) → IsKept s.env j → IsKept (hold s k x).env j
hold_keeps s (Own v) x j h = kept_more s.env (Own v) j x h
hold_keeps s (At (home.D i)) x j h = kept_more s.env (At (home.D i)) j x h
hold_keeps s (At (home.A i)) x j h = kept_more s.env (At (home.A i)) j x h
hold_keeps s (At (home.Static p)) x j h = kept_more s.env (At (home.Static p)) j x h
hold_keeps s (At (home.Stack n)) x j h = h

pub hold_has : (s : State) (k : Keeper) (x : Word) → is_in_frame k ≡ false → IsKept (hold s k x).env k
hold_has s (Own v) x o = kept_here s.env (Own v) x
hold_has s (At (home.D i)) x o = kept_here s.env (At (home.D i)) x
hold_has s (At (home.A i)) x o = kept_here s.env (At (home.A i)) x
hold_has s (At (home.Static p)) x o = kept_here s.env (At (home.Static p)) x
hold_has s (At (home.Stack n)) x o = absurd (true≢false o)

pub held_outside : (s : State) (k : Keeper) → is_in_frame k ≡ false → IsKept s.env k → is_some (held s k) ≡ true
held_outside s (Own v) o h = h
held_outside s (At (home.D i)) o h = h
held_outside s (At (home.A i)) o h = h
held_outside s (At (home.Static p)) o h = h
held_outside s (At (home.Stack n)) o h = absurd (true≢false o)

-- ---- what is kept at once

-- something is brought for a keeper
abbrev pub HasKey : Env Word → Keeper → Type 0
HasKey [] k = ⊥
HasKey (b ∷ env) k = (b.0 ≡ k) ⊎ HasKey env k

hold_all_keeps : (s : State) (env : Env Word) (j : Keeper) → IsKept s.env j → IsKept (hold_all s env).env j
hold_all_keeps s [] j h = h
hold_all_keeps s (b ∷ env) j h = hold_all_keeps (hold s b.0 b.1) env j (hold_keeps s b.0 b.1 j h)

pub hold_all_has : (s : State) (env : Env Word) (j : Keeper) → is_in_frame j ≡ false → HasKey env j → IsKept (hold_all s env).env j
hold_all_has s [] j o h = absurd h
hold_all_has s (b ∷ env) j o (inl e) = hold_all_keeps (hold s b.0 b.1) env j (subst (λ (k : Keeper). IsKept (hold s k b.1).env j) (sym e) (hold_has s j b.1 o))
hold_all_has s (b ∷ env) j o (inr h) = hold_all_has (hold s b.0 b.1) env j o h

-- ---- parameters

-- the words that arguments have
abbrev pub AreThere : List (Option Word) → Type 0
AreThere words = AllByRecursion (λ o. is_some o ≡ true) words

record Pairs (k : Keeper) (rest : Option (Env Word)) (env : Env Word) : Type 0 where
  word : Word
  more : Env Word
  gives : rest ≡ Some more
  is : env ≡ (k, word) ∷ more

pairs_more : (k : Keeper) (x : Word) (rest : Option (Env Word)) (env : Env Word) → option_map (λ (e : Env Word). (k, x) ∷ e) rest ≡ Some env → Pairs k rest env
pairs_more k x None env e = absurd (cc)
pairs_more k x (Some more) env e = let same : (k, x) ∷ more ≡ env = cc in record { word = x; more = more; gives = refl; is = sym same }

pairs_if : (b : Bool) (k : Keeper) (x : Word) (rest : Option (Env Word)) (env : Env Word) → (if b then option_map (λ (e : Env Word). (k, x) ∷ e) rest else None) ≡ Some env → Pairs k rest env
pairs_if true k x rest env e = pairs_more k x rest env e
pairs_if false k x rest env e = absurd (cc)

pairs_with : (s : State) (k : Keeper) (o : Option Word) (rest : Option (Env Word)) (env : Env Word) → is_some o ≡ true → paired s k o rest ≡ Some env → Pairs k rest env
pairs_with s k (Some x) rest env h e = pairs_if (has_room s k) k x rest env e
pairs_with s k None rest env h e = absurd (true≢false (sym h))

-- each parameter gets a word where there are enough
pub pairs_have : (m : Setting) (s : State) (params : List Var) (words : List (Option Word)) (env : Env Word) → pairs_of m s params words ≡ Some env → AreThere words → length params ≤ length words
    → (v : Var) (i : ℕ) → i < length params → get_or params i v ≡ v → HasKey env (keeper_of m.homes v)
pairs_have m s [] words env e h le v i lt is = absurd (omega arith)
pairs_have m s (w ∷ params) [] env e h le v i lt is = absurd (omega arith)
pairs_have m s (w ∷ params) (x ∷ words) env e h le v zero lt is =
    let p = pairs_with s (keeper_of m.homes w) x (pairs_of m s params words) env h.0 e in
    subst (λ env. HasKey env (keeper_of m.homes v)) (sym p.is) (inl (ap (λ (u : Var). keeper_of m.homes u) is))
pairs_have m s (w ∷ params) (x ∷ words) env e h le v (suc i) lt is =
    let p = pairs_with s (keeper_of m.homes w) x (pairs_of m s params words) env h.0 e in
    subst (λ env. HasKey env (keeper_of m.homes v)) (sym p.is) (inr (pairs_have m s params words p.more p.gives h.1 (omega (arith, le)) v i (omega arith) is))

-- arguments have words where their variables have
pub args_there : (m : Setting) (s : State) (args : List Operand) → ((v : Var) → Contains (flat_map operand_var args) v → HasWord m s v) → AreThere (map (word_of m s) args)
args_there m s [] h = tt
args_there m s (x ∷ args) h = (one x (λ v c. h v (Contains-append_left (operand_var x) (flat_map operand_var args) v c)), args_there m s args (λ v c. h v (Contains-append_right (operand_var x) (flat_map operand_var args) v c)))
  where
    one : (x : Operand) → ((v : Var) → Contains (operand_var x) v → HasWord m s v) → is_some (word_of m s x) ≡ true
    one (operand.Var v) h = h v (0, omega arith, refl)
    one (operand.Word n) h = refl
    one (operand.Static p) h = refl
    one (operand.Code b) h = refl
    one (operand.Slot n) h = refl
