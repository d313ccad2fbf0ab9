-- All forms at top level, made one after another.
use Rattle.std.proofs.Common.{ℕ, ◌≤◌, ◌^◌, ◌++◌, List, [], ◌∷◌, length, Option, Some, None, arith}
use Rattle.std.specs.Global.{Global}
use Rattle.t_forms.specs.Names.{Bound}
use Rattle.t_forms.specs.Data.{Datum}
use Rattle.t_rows.specs.Rows.{define, lset, operation_form}
use Rattle.expansion.specs.Units.{Top, defining, broken, expression}
use Rattle.expand_laws.proofs.Fineness.{size_some}
use Rattle.expand_laws.proofs.Joining.{none_made, more_made}
use Rattle.expand_laws.proofs.Made.{Stock}
use Rattle.expand_laws.proofs.Numbering.{AreClean}
use Rattle.expand_laws.proofs.OneTop.{one_top}
use Rattle.expand_laws.proofs.Premises.{MakesForms}
use Rattle.expand_laws.proofs.Shortness.{IsShort}
use Rattle.expand_laws.proofs.Tables.{AreFine}
use Rattle.expand_laws.proofs.TopsMade.{AllMade, HasKinds, default_size, top_size, tops_size}

pub record MadeTops (names : List (List ℕ)) (defined : List Bound) (ts : List Top) (before : Stock) : Type 0 where
  pub after : Stock
  pub made : AllMade names defined ts before after

pub all_tops : (names : List (List ℕ)) (defined : List Bound) (alloc : Global) (earlier ts : List Top) (before : Stock) → MakesForms names defined → AreFine names ts
    → AreClean defined earlier ts → HasKinds defined ts → tops_size ts ≤ 2 ^ 26 → MadeTops names defined ts before
all_tops names defined alloc earlier [] before makes fine clean kinds few = record { after = before; made = none_made names defined before }
all_tops names defined alloc earlier (t ∷ ts) before makes fine clean kinds few =
    let one = one_top names defined earlier t before makes fine.0 (omega (arith, few)) clean.0 in
    let rest = all_tops names defined alloc (earlier ++ t ∷ []) ts one.after makes fine.1 clean.1 kinds.1 (omega (arith, few)) in
    let nodes = one.made.few_nodes in
    let short : IsShort one.made.nodes = omega (arith, nodes, few) in
    record { after = rest.after; made = more_made names defined t ts before one.after rest.after alloc one.made short kinds.0 rest.made }

default_some : (o : Option Datum) → 1 ≤ default_size o
default_some None = omega arith
default_some (Some d) = size_some d

top_some : (t : Top) → 1 ≤ top_size t
top_some (defining (define b d)) = size_some d
top_some (defining (lset b d)) = size_some d
top_some (defining (operation_form b ps o)) = default_some o
top_some (broken s) = omega arith
top_some (expression d) = size_some d

pub few_tops : (ts : List Top) → length ts ≤ tops_size ts
few_tops [] = omega arith
few_tops (t ∷ ts) = let a = top_some t in let b = few_tops ts in omega (arith, a, b)
