-- That data have a core, or a first refusal.
use Rattle.std.specs.Prelude.{List}
use Rattle.t_base.specs.declared.basics.Span.{Span}
use Rattle.t_core.specs.declared.forms.UnitCore.{UnitCore}
use Rattle.t_reader.specs.Grammar.{Tree}
use Rattle.t_rows.specs.declared.refusal.Refusal.{Refusal}
use Rattle.expansion.specs.Meaning.{IsCoreOf}
use Rattle.expansion.specs.Refusals.{IsFirstRefusal}

pub record HasCore (data_ : List Tree) : Type 0 where
  pub core : UnitCore
  pub spans : List (List Span)
  pub is : IsCoreOf data_ core spans

pub record HasFirstRefusal (data_ : List Tree) : Type 0 where
  pub refusal : Refusal
  pub is : IsFirstRefusal data_ refusal
