-- What is chosen for the node of an OBJECT.
use Rattle.std.proofs.Common.{◌≡◌, ℕ, suc, ◌+◌, ◌<◌, Bool, true, false, List, [], ◌∷◌, ◌++◌, map, length, refl, sym, ap, ◌∙◌, arith}
use Rattle.std.specs.List.{AllByRecursion, flat_map}
use Rattle.std.proofs.lemmas.List.Elements.{All-from_recursion}
use Rattle.t_base.specs.declared.basics.Var.{Var}
use Rattle.t_base.specs.declared.shared_parts.Shared.{Shared}
use Rattle.t_core.specs.declared.forms.Core.TheVariants as Node
use Rattle.t_core.specs.declared.forms.Method.{Method}
use Rattle.t_core.specs.Nodes.{early, part}
use Rattle.t_forms.specs.Data.{Datum}
use Rattle.t_forms.specs.Names.{Scope, Bound}
use Rattle.t_rows.specs.Rows.{lambda, object, Part, plain}
use Rattle.expansion.specs.Lists.{numbered}
use Rattle.expand_laws.proofs.Choices.{first, rest, known_op}
use Rattle.expand_laws.proofs.Counting.{numbered_length, numbered_append}
use Rattle.expand_laws.proofs.Few.{few_node}
use Rattle.expand_laws.proofs.Gaining.{gains_node, with_vars}
use Rattle.expand_laws.proofs.Made.{Stock, HasDefined}
use Rattle.expand_laws.proofs.Placing.{Seat, seat, placed}
use Rattle.expand_laws.proofs.Reached.{IsKnownOp, HasNames}
use Rattle.expand_laws.proofs.Segments.{AreSeated, Choice}

-- the methods' own variables, one behind the other
abbrev pub method_seats : ℕ → List Part → List Seat
method_seats next [] = []
method_seats next (p ∷ ps) = seat (numbered next (length p.binds)) true ∷ method_seats (next + length p.binds) ps

abbrev pub name_count : List Part → ℕ
name_count [] = 0
name_count (p ∷ ps) = length p.binds + name_count ps

abbrev pub methods : List ℕ → List Seat → List ℕ → List Method
methods [] seats ks = []
methods (o ∷ ops) [] ks = []
methods (o ∷ ops) (s ∷ seats) [] = []
methods (o ∷ ops) (s ∷ seats) (k ∷ ks) = record { op = o; params = s.binds; body = k } ∷ methods ops seats ks

seats_count : (next : ℕ) (ps : List Part) → length (method_seats next ps) ≡ length ps
seats_count next [] = refl
seats_count next (p ∷ ps) = ap suc (seats_count (next + length p.binds) ps)

method_seated : (next : ℕ) (ps : List Part) → AreSeated ps (method_seats next ps)
method_seated next [] = tt
method_seated next (p ∷ ps) = (sym (numbered_length next (length p.binds)), method_seated (next + length p.binds) ps)

methods_bound : (next : ℕ) (ps : List Part) (ops ks : List ℕ) → length ops ≡ length ps → length ks ≡ length ps
    → flat_map (λ (m : Method). m.params) (methods ops (method_seats next ps) ks) ≡ numbered next (name_count ps)
methods_bound next [] [] ks e f = refl
methods_bound next [] (o ∷ ops) ks e f = absurd (omega arith)
methods_bound next (p ∷ ps) [] ks e f = absurd (omega arith)
methods_bound next (p ∷ ps) (o ∷ ops) [] e f = absurd (omega arith)
methods_bound next (p ∷ ps) (o ∷ ops) (k ∷ ks) e f =
    ap (λ l. numbered next (length p.binds) ++ l) (methods_bound (next + length p.binds) ps ops ks (omega arith) (omega arith))
    ∙ sym (numbered_append next (length p.binds) (name_count ps))

methods_placed : (next : ℕ) (ps : List Part) (ops ks : List ℕ) → length ops ≡ length ps → length ks ≡ length ps
    → map (λ (m : Method). part m.body m.params true) (methods ops (method_seats next ps) ks) ≡ placed (method_seats next ps) ks
methods_placed next [] [] ks e f = refl
methods_placed next [] (o ∷ ops) ks e f = absurd (omega arith)
methods_placed next (p ∷ ps) [] ks e f = absurd (omega arith)
methods_placed next (p ∷ ps) (o ∷ ops) [] e f = absurd (omega arith)
methods_placed next (p ∷ ps) (o ∷ ops) (k ∷ ks) e f =
    ap (λ l. part k (numbered next (length p.binds)) true ∷ l) (methods_placed (next + length p.binds) ps ops ks (omega arith) (omega arith))

methods_ops : (ops : List ℕ) (seats : List Seat) (ks : List ℕ) → length ops ≡ length seats → length ks ≡ length seats → map (λ (m : Method). m.op) (methods ops seats ks) ≡ ops
methods_ops [] seats ks e f = refl
methods_ops (o ∷ ops) [] ks e f = absurd (omega arith)
methods_ops (o ∷ ops) (s ∷ seats) [] e f = absurd (omega arith)
methods_ops (o ∷ ops) (s ∷ seats) (k ∷ ks) e f = ap (λ l. o ∷ l) (methods_ops ops seats ks (omega arith) (omega arith))

methods_there : (defined : List Bound) (shared : Shared) (ops : List ℕ) (seats : List Seat) (ks : List ℕ) → HasDefined defined shared → AllByRecursion (IsKnownOp defined) ops
    → AllByRecursion (λ (m : Method). m.op < length shared.ops.items) (methods ops seats ks)
methods_there defined shared [] seats ks h i = tt
methods_there defined shared (o ∷ ops) [] ks h i = tt
methods_there defined shared (o ∷ ops) (s ∷ seats) [] h i = tt
methods_there defined shared (o ∷ ops) (s ∷ seats) (k ∷ ks) h i = (known_op defined o shared i.0 h, methods_there defined shared ops seats ks h i.1)

methods_have_self : (next : ℕ) (ps : List Part) (ops ks : List ℕ) → AllByRecursion HasNames ps
    → AllByRecursion (λ (m : Method). 0 < length m.params) (methods ops (method_seats next ps) ks)
methods_have_self next ps [] ks h = tt
methods_have_self next [] (o ∷ ops) ks h = tt
methods_have_self next (p ∷ ps) (o ∷ ops) [] h = tt
methods_have_self next (p ∷ ps) (o ∷ ops) (k ∷ ks) h =
    (omega (arith, numbered_length next (length p.binds), ap length (h.0).2), methods_have_self (next + length p.binds) ps ops ks h.1)

rest_count : (ks : List ℕ) (n : ℕ) → length ks ≡ suc n → length (rest ks) ≡ n
rest_count [] n e = absurd (omega arith)
rest_count (k ∷ ks) n e = omega arith

object_placed : (next : ℕ) (ps : List Part) (ops ks : List ℕ) → length ops ≡ length ps → length ks ≡ suc (length ps)
    → early (first ks) ∷ map (λ (m : Method). part m.body m.params true) (methods ops (method_seats next ps) (rest ks)) ≡ placed (seat [] false ∷ method_seats next ps) ks
object_placed next ps ops [] e f = absurd (omega arith)
object_placed next ps ops (k ∷ ks) e f = ap (λ l. early k ∷ l) (methods_placed next ps ops ks e (omega arith))

pub object_choice : (names : List (List ℕ)) (vars : List Var) (scope : Scope) (tail : Bool) (ops : List ℕ) (d : Datum) (ps : List Part) (before : Stock) → length ops ≡ length ps
    → AllByRecursion HasNames ps → AllByRecursion (IsKnownOp scope.defined) ops → Choice names vars scope tail (object ops) (plain d ∷ ps) before
object_choice names vars scope tail ops d ps before same named known =
    let seats = method_seats before.next ps in
    let n = name_count ps in
    record {
      seats = seat [] false ∷ seats;
      seated = (refl, method_seated before.next ps);
      after = with_vars before n;
      few = few_node before n (object ops);
      core = λ ks. Node.Object (first ks) (methods ops seats (rest ks));
      gains = λ ks e. gains_node names before n (Node.Object (first ks) (methods ops seats (rest ks))) (methods_bound before.next ps ops (rest ks) same (behind ks e)) refl refl;
      parts_are = λ ks e. object_placed before.next ps ops ks same (omega (arith, e, seats_count before.next ps));
      fits = λ ks e shared h. methods_ops ops seats (rest ks) (same ∙ sym (seats_count before.next ps)) (behind ks e ∙ sym (seats_count before.next ps));
      in_place = λ ks. tt;
      shaped = λ ks e shared all h i. All-from_recursion (λ (m : Method). 0 < length m.params) (methods ops seats (rest ks)) (methods_have_self before.next ps ops (rest ks) named);
      named = λ ks shared h i. All-from_recursion (λ (m : Method). m.op < length shared.ops.items) (methods ops seats (rest ks)) (methods_there scope.defined shared ops seats (rest ks) i known);
      is_lambda = λ ks e. absurd (other e);
      lambda_is = λ ks e ns f g h. absurd (other e);
    }
  where
    other : object ops ≡ lambda → ⊥
    other e = cc

    behind : (ks : List ℕ) → length ks ≡ suc (length (method_seats before.next ps)) → length (rest ks) ≡ length ps
    behind ks e = rest_count ks (length ps) (omega (arith, e, seats_count before.next ps))
