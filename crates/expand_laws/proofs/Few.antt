-- How many nodes, strings and pairs are made at most.
use Rattle.std.proofs.Common.{◌≡◌, ℕ, ◌+◌, ◌≤◌, List, ◌++◌, length, ap, ◌∙◌, arith}
use Rattle.std.proofs.lemmas.List.{length-append}
use Rattle.t_rows.specs.Rows.{Shape, constant, local, global, builtin_value, op_value, lambda, if_, block, let_, labels, set_local, set_global, catch_, object, call, primitive, nothing}
use Rattle.expand_laws.proofs.Costs.{shape_cost}
use Rattle.expand_laws.proofs.Gaining.{with_vars}
use Rattle.expand_laws.proofs.Made.{Stock}
use Rattle.expand_laws.proofs.Sizes.{size_some}

-- so many nodes, with as many new strings and new pairs at most as the bound
pub record IsFew (before after : Stock) (count bound : ℕ) : Type 0 where
  pub nodes : count ≤ bound
  pub strings : length after.strings ≤ length before.strings + bound
  pub pairs : length after.pairs ≤ length before.pairs + bound

pub few_none : (s : Stock) (n : ℕ) → IsFew s s 0 n
few_none s n = record { nodes = omega arith; strings = omega arith; pairs = omega arith }

-- so many items more
pub few_more : {A : Type 0} (xs ys zs : List A) (n : ℕ) → ys ≡ xs ++ zs → length ys ≤ length xs + n → length zs ≤ n
few_more xs ys zs n e le = omega (arith, ap length e ∙ length-append xs zs, le)

-- one behind the other
pub few_both : (a b c : Stock) (k l m n : ℕ) → IsFew a b k m → IsFew b c l n → IsFew a c (k + l) (m + n)
few_both a b c k l m n f g = record {
  nodes = omega (arith, f.nodes, g.nodes);
  strings = omega (arith, f.strings, g.strings);
  pairs = omega (arith, f.pairs, g.pairs);
}

pub few_counted : (a b : Stock) (k l n : ℕ) → l ≡ k → IsFew a b k n → IsFew a b l n
few_counted a b k l n e f = record { nodes = omega (arith, e, f.nodes); strings = f.strings; pairs = f.pairs }

pub cost_some : (shape : Shape) → 1 ≤ shape_cost shape
cost_some (constant d) = size_some d
cost_some (local i) = omega arith
cost_some (global g) = omega arith
cost_some (builtin_value p) = omega arith
cost_some (op_value o) = omega arith
cost_some lambda = omega arith
cost_some if_ = omega arith
cost_some block = omega arith
cost_some let_ = omega arith
cost_some labels = omega arith
cost_some (set_local i) = omega arith
cost_some (set_global g) = omega arith
cost_some catch_ = omega arith
cost_some (object ops) = omega arith
cost_some call = omega arith
cost_some (primitive p) = omega arith
cost_some nothing = omega arith

-- a node that adds variables alone
pub few_node : (s : Stock) (n : ℕ) (shape : Shape) → IsFew s (with_vars s n) 1 (shape_cost shape)
few_node s n shape = record { nodes = cost_some shape; strings = omega arith; pairs = omega arith }
