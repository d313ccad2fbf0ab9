-- What a Site is for contracts.
use Rattle.std.specs.Prelude.{List, Option}
use Rattle.t_base.specs.declared.basics.Var.{Var}
use Rattle.layout_tables.specs.declared.sites.Join.{Join}
use Rattle.layout_tables.specs.declared.sites.Opened.{Opened}

-- the Joins around a place, the innermost first, the k of the procedure, and the open CATCHes, the innermost first
pub record Around : Type 0 where
  pub joins : List Join
  pub own : Option Var
  pub catches : List Opened
