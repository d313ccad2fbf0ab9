-- All cores of a text count alike, and all are built or none.
use Rattle.std.proofs.Common.{◌≡◌, ℕ, Bool, List, refl, sym, ap, subst, ◌∙◌}
use Rattle.std.specs.Prelude.{Result}
use Rattle.t_base.specs.declared.basics.Span.{Span}
use Rattle.t_base.specs.declared.basics.Var.{Var}
use Rattle.t_base.specs.declared.shared_parts.Const.{Const}
use Rattle.t_base.specs.declared.shared_parts.Shared.{Shared}
use Rattle.t_core.specs.declared.forms.Core.{Core}
use Rattle.t_core.specs.declared.forms.Core.TheVariants as Node
use Rattle.t_core.specs.declared.forms.UnitCore.{UnitCore}
use Rattle.t_core.specs.declared.limiting.LimitFault.{LimitFault}
use Rattle.t_core.specs.Limits.{limit_of}
use Rattle.t_reader.specs.Grammar.{Tree}
use Rattle.t_reader.proofs.GrammarLaws.{reads_once}
use Rattle.expansion.specs.Meaning.{IsCoreOf}
use Rattle.expand_laws.specs.Renaming.{Renames, IsSameConst, fix, char, nil, truth, symbol, string, pair, IsSameNode}
use Rattle.expand_laws.specs.SameCounts.{CountAlike}
use Rattle.expand_laws.proofs.AlikeTests.{forms_pass}
use Rattle.expand_laws.proofs.CoresWalked.{cores_walked, cores_alike}
use Rattle.expand_laws.proofs.SameCounts.{count_alike}
use Rattle.orbit_build.specs.Sums.{is_fixnum, is_add, is_plain, is_built_node, is_built}
use Rattle.orbit_build.specs.Faithful.{HasCore}

fixnum_same : (shared other : Shared) (c d : Const) → IsSameConst shared other c d → is_fixnum c ≡ is_fixnum d
fixnum_same shared other c d (fix z) = refl
fixnum_same shared other c d (char b) = refl
fixnum_same shared other c d nil = refl
fixnum_same shared other c d truth = refl
fixnum_same shared other c d (symbol m n text g h) = refl
fixnum_same shared other c d (string j k bytes g h) = refl
fixnum_same shared other c d (pair j k p q g h head tail) = refl

built_same : (shared other : Shared) (related : Var → Var → Type 0) (c d : Core) → IsSameNode shared other related c d → is_built_node c ≡ is_built_node d
built_same shared other related (Node.Const a) (Node.Const b) h = fixnum_same shared other a b h
built_same shared other related (Node.Local a) (Node.Local b) h = refl
built_same shared other related (Node.Global a) (Node.Global b) h = refl
built_same shared other related (Node.Builtin a) (Node.Builtin b) h = refl
built_same shared other related (Node.Op a) (Node.Op b) h = refl
built_same shared other related (Node.Lambda a b) (Node.Lambda c d) h = refl
built_same shared other related (Node.If a b c) (Node.If d e f) h = refl
built_same shared other related (Node.Block a) (Node.Block b) h = refl
built_same shared other related (Node.Let a b c) (Node.Let d e f) h = refl
built_same shared other related (Node.Labels a b c) (Node.Labels d e f) h = refl
built_same shared other related (Node.SetLocal a b) (Node.SetLocal c d) h = refl
built_same shared other related (Node.SetGlobal a b) (Node.SetGlobal c d) h = refl
built_same shared other related (Node.Catch a b) (Node.Catch c d) h = refl
built_same shared other related (Node.Object a b) (Node.Object c d) h = refl
built_same shared other related (Node.Call a b c) (Node.Call d e f) h = refl
built_same shared other related (Node.Prim p a) (Node.Prim q b) h = ap is_add h
built_same shared other related _ _ h = absurd h

module _ (trees : List Tree) (unit other : UnitCore) (spans others : List (List Span)) (core : IsCoreOf trees unit spans) (also : IsCoreOf trees other others) where
  of_data_count : CountAlike unit other
  of_data_count =
      count_alike unit other (cores_walked trees unit other spans others core also).pairs spans others core.whole also.whole
      (cores_alike trees unit other spans others core also)

  of_data_built : is_built unit ≡ is_built other
  of_data_built =
      forms_pass (cores_walked trees unit other spans others core also).pairs unit.shared other.shared is_plain is_built_node is_built_node
      (λ c d same. built_same unit.shared other.shared (Renames (cores_walked trees unit other spans others core also).pairs) c d same) unit.forms.items spans
      other.forms.items others (cores_alike trees unit other spans others core also) core.whole.places also.whole.places

module _ (text : List ℕ) (unit other : UnitCore) (one : HasCore text unit) (two : HasCore text other) where
  pub same_data : IsCoreOf one.data_ other two.spans
  same_data = subst (λ trees. IsCoreOf trees other two.spans) (reads_once text two.data_ one.data_ two.reads one.reads) two.core

  pub text_counts : CountAlike unit other
  text_counts = of_data_count one.data_ unit other one.spans two.spans one.core same_data

  pub text_built : is_built unit ≡ is_built other
  text_built = of_data_built one.data_ unit other one.spans two.spans one.core same_data

  -- what is found of one and of the other
  pub limits_agree : (r q : Result (Unit {0}) LimitFault) → limit_of unit ≡ r → limit_of other ≡ q → r ≡ q
  limits_agree r q e f = sym e ∙ text_counts.limits ∙ f

  pub built_agree : (a b : Bool) → is_built unit ≡ a → is_built other ≡ b → a ≡ b
  built_agree a b e f = sym e ∙ text_built ∙ f
