-- From the nodes of a unit to the bytes of its code. Each form of a program has a weight in bytes for each kind of what stands in it;
-- a pass shows that the weight of its result is at most that of its argument, and what stands once. This is the first weight, and that
-- it is small enough where a unit is within its limit.
use Rattle.std.specs.Prelude.{ℕ, ◌+◌, ◌*◌, ◌≤◌, List, sum_by}
use Rattle.cps_ir.specs.Loads.{Bulk}

-- 500 for each term and LAMBDA, 30 for each unit of room, 40 for each argument and parameter
abbrev pub bytes_of : Bulk → ℕ
bytes_of b = 500 * b.terms + 30 * b.room + 40 * b.args

-- ---- what a unit becomes

-- Of a unit whose forms have so many nodes: a node makes at most two terms or LAMBDAs, no root has a load greater than the nodes under it,
-- and a node makes at most two arguments or parameters. A form has one more term, and two more arguments; and a unit without forms has one
-- term, which ends it.
pub record IsOfNodes (forms : List ℕ) (b : Bulk) : Type 0 where
  pub terms : b.terms ≤ sum_by (λ n. 2 * n + 1) forms + 1
  pub room : b.room ≤ sum_by (λ n. (2 * n + 1) * (n + 2)) forms + 2
  pub args : b.args ≤ sum_by (λ n. 2 * n + 2) forms + 1

-- the weight of a unit
abbrev pub weight_of : List ℕ → ℕ
weight_of forms = sum_by (λ n. (n + 8) * (n + 8)) forms

-- the greatest weight within the limit
abbrev pub most_weight : ℕ
most_weight = 4194304

-- the bytes of code that an image may have
abbrev pub most_code : ℕ
most_code = 268435456

-- what may stand once, whatever the unit is
abbrev pub once : ℕ
once = 700000

-- ---- the sum

-- what the terms, the room and the arguments of a form of n nodes come to
abbrev pub form_bytes : ℕ → ℕ
form_bytes n = 500 * (2 * n + 1) + 30 * ((2 * n + 1) * (n + 2)) + 40 * (2 * n + 2)

-- Each form leaves at least 804 of its 64 bytes for each unit of weight.
abbrev pub FormsLeaveRoom : Type 0
FormsLeaveRoom = (n : ℕ) → form_bytes n + 804 ≤ 64 * ((n + 8) * (n + 8))

-- All forms together take at most 64 bytes for each unit of weight.
abbrev pub BytesAreFew : Type 0
BytesAreFew = (forms : List ℕ) (b : Bulk) → IsOfNodes forms b → bytes_of b ≤ 64 * weight_of forms + 600

-- A unit within its limit leaves room for what stands once: fewer than nine hundred forms leave three bytes for each unit of weight but for
-- 12,865 a form, and more of them leave 804 each.
abbrev pub CodeFits : Type 0
CodeFits = (forms : List ℕ) (b : Bulk) → IsOfNodes forms b → weight_of forms ≤ most_weight → bytes_of b + once ≤ most_code
