-- What the names that a unit defines mean is there.
use Rattle.std.proofs.Common.{◌≡◌, ℕ, ◌+◌, ◌<◌, ◌≤◌, Bool, true, false, List, length, map, Contains, Option, Some, slice_get, refl, sym, ap, subst, ◌∙◌}
use Rattle.std.specs.List.{AllByRecursion}
use Rattle.std.specs.Option.{option_map}
use Rattle.std.proofs.lemmas.List.Elements.{All-from_recursion}
use Rattle.std.proofs.lemmas.Option.{slice_get_within}
use Rattle.t_base.specs.declared.shared_parts.Global1.{Global1}
use Rattle.t_base.specs.declared.shared_parts.GlobalKind.TheVariants.{Variable}
use Rattle.t_base.specs.declared.shared_parts.OpInfo.{OpInfo}
use Rattle.t_base.specs.declared.shared_parts.Shared.{Shared}
use Rattle.t_core.specs.declared.forms.Form.{Form}
use Rattle.t_forms.specs.Names.{Meaning, Bound, a_global, an_op}
use Rattle.expansion.specs.Units.{Top, entry, meanings_from}
use Rattle.expand_laws.proofs.Defining.{IsSplit, global_at, op_at, past_global, past_op}
use Rattle.expand_laws.proofs.Made.{HasDefined}
use Rattle.expand_laws.proofs.Numbering.{definitions}
use Rattle.expand_laws.proofs.Reached.{IsDefinedGlobal}
use Rattle.expand_laws.proofs.Tables.{Tabled, no_more, a_define, an_lset, an_operation, an_expression}

-- a global, with its kind where it is assigned, or an operation
abbrev pub IsThere : List Global1 → List OpInfo → Meaning → Type 0
IsThere gs os (a_global g assigned) = (g < length gs) × (assigned ≡ true → option_map (λ info. info.kind) (slice_get gs g) ≡ Some Variable)
IsThere gs os (an_op o) = o < length os
IsThere gs os _ = Unit {0}

abbrev AreThere : Shared → List Bound → Type 0
AreThere shared bounds = AllByRecursion (λ b. IsThere shared.globals.items shared.ops.items b.means) bounds

not_true : false ≡ true → ⊥
not_true e = cc

meanings_there : (names : List (List ℕ)) (shared : Shared) (g o : ℕ) (ts : List Top) (fs : List Form) (gs : List Global1) (os : List OpInfo) → Tabled names g o ts fs gs os
    → IsSplit shared g o gs os → AreThere shared (meanings_from g o (map entry (definitions ts)))
meanings_there names shared g o ts fs gs os (no_more _ _) s = tt
meanings_there names shared g o ts fs gs os (a_define g1 o1 b d us f hs info is ps k some kinded at rest) s = (
  (slice_get_within shared.globals.items g1 info (global_at shared g1 o1 info is ps s), λ e. absurd (not_true e)),
  meanings_there names shared (g1 + 1) o1 us hs is ps rest (past_global shared g1 o1 info is ps s),
)
meanings_there names shared g o ts fs gs os (an_lset g1 o1 b d us f hs info is ps k some kinded at rest) s = (
  (
    slice_get_within shared.globals.items g1 info (global_at shared g1 o1 info is ps s),
    λ e. ap (λ (x : Option Global1). option_map (λ info. info.kind) x) (global_at shared g1 o1 info is ps s) ∙ ap Some kinded,
  ),
  meanings_there names shared (g1 + 1) o1 us hs is ps rest (past_global shared g1 o1 info is ps s),
)
meanings_there names shared g o ts fs gs os (an_operation g1 o1 b qs d us f hs info is ps k kinded at rest) s = (
  slice_get_within shared.ops.items o1 info (op_at shared g1 o1 info is ps s),
  meanings_there names shared g1 (o1 + 1) us hs is ps rest (past_op shared g1 o1 info is ps s),
)
meanings_there names shared g o ts fs gs os (an_expression g1 o1 d us f hs is ps k some rest) s = meanings_there names shared g1 o1 us hs is ps rest s

there_at : (shared : Shared) (bounds : List Bound) (b : Bound) → AreThere shared bounds → Contains bounds b → IsThere shared.globals.items shared.ops.items b.means
there_at shared bounds b are c =
    let all = All-from_recursion (λ (x : Bound). IsThere shared.globals.items shared.ops.items x.means) bounds are in
    subst (λ (x : Bound). IsThere shared.globals.items shared.ops.items x.means) c.2 (all c.0 b c.1)

pub defined_there : (names : List (List ℕ)) (shared : Shared) (ts : List Top) (fs : List Form) (gs : List Global1) (os : List OpInfo) (defined : List Bound) → Tabled names 0 3 ts fs gs os
    → IsSplit shared 0 3 gs os → defined ≡ meanings_from 0 3 (map entry (definitions ts)) → 3 ≤ length shared.ops.items → HasDefined defined shared
defined_there names shared ts fs gs os defined t s e some = record {
  globals = λ g assigned h. (global_there g assigned h).0;
  variables = λ g h. (global_there g true h).1 refl;
  ops = λ o h. subst (λ m. IsThere shared.globals.items shared.ops.items m) h.means (there_at shared defined h.bound are h.there);
  builtin_ops = some;
}
  where
    are : AreThere shared defined
    are = subst (λ l. AreThere shared l) (sym e) (meanings_there names shared 0 3 ts fs gs os t s)

    global_there : (g : ℕ) (assigned : Bool) → IsDefinedGlobal defined g assigned → IsThere shared.globals.items shared.ops.items (a_global g assigned)
    global_there g assigned h = subst (λ m. IsThere shared.globals.items shared.ops.items m) h.means (there_at shared defined h.bound are h.there)
