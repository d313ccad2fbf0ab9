-- The procedures of globals and operations, each with the LAMBDA of the unit for which it stands.
use Rattle.std.specs.List.{filter}
use Rattle.std.specs.Option.{option_map_or}
use Rattle.std.proofs.Common.{◌≡◌, ℕ, zero, suc, ◌≤◌, ◌<◌, ◌+◌, cond, Bool, true, false, if◌then◌else◌, inl, inr, List, [], ◌∷◌, length, take, Option, Some, None, slice_get, refl, sym, ap, ◌∙◌, subst, arith}
use Rattle.std.proofs.lemmas.Bool.{cases_lt}
use Rattle.t_base.specs.declared.shared_parts.Global1.{Global1}
use Rattle.t_base.specs.declared.shared_parts.OpInfo.{OpInfo}
use Rattle.t_meaning.specs.State.{Procedure}
use Rattle.t_meaning.specs.Operations.{default_of}
use Rattle.t_meaning.specs.Units.{start}
use Rattle.cps_ir.specs.States.{Closure}
use Rattle.cps_ir.specs.Calls.{default_of as cps_default_of, default_at}
use Rattle.cps_ir.specs.Running.{start as cps_start, first_closures}
use Rattle.cps_ir.specs.Parts.{is_procedure, global_lams, first_lams}
use Rattle.cps_ir.proofs.ProperLists.{some_same, none_some}
use Rattle.cps_conversion.specs.Conversion.{Translation, ConvertsWithin, RootAs, RootsAs, DefaultAs, LamAt, IsTranslated}

abbrev pub has_default : OpInfo → Bool
has_default info = info.default

-- the closures of the globals' procedures have their numbers in order
pub first_at : (next : ℕ) (globals : List Global1) (i : ℕ) → i < length (filter is_procedure globals) → slice_get (first_closures next globals) i ≡ Some (record { lam = next + i; scope = [] })
first_at next [] i lt = absurd (omega (arith, lt))
first_at next (g ∷ globals) i lt = by (is_procedure g) i lt (first_at next globals) (first_at (suc next) globals)
  where
    by : (b : Bool) (i : ℕ) → i < length (cond b (g ∷ filter is_procedure globals) (filter is_procedure globals))
        → ((i : ℕ) → i < length (filter is_procedure globals) → slice_get (first_closures next globals) i ≡ Some (record { lam = next + i; scope = [] }))
        → ((i : ℕ) → i < length (filter is_procedure globals) → slice_get (first_closures (suc next) globals) i ≡ Some (record { lam = suc next + i; scope = [] }))
        → slice_get (if b then record { lam = next; scope = [] } ∷ first_closures (suc next) globals else first_closures next globals) i ≡ Some (record { lam = next + i; scope = [] })
    by false i lt f g = f i lt
    by true zero lt f g = ap (λ l. Some (record { lam = l; scope = [] })) (omega arith)
    by true (suc i) lt f g = g i (omega (arith, lt)) ∙ ap (λ l. Some (record { lam = l; scope = [] })) (omega arith)

-- the item that passes a test behind so many that do
pub record Ranked (ops : List OpInfo) (j : ℕ) : Type 0 where
  pub at : ℕ
  pub info : OpInfo
  pub there : slice_get ops at ≡ Some info
  pub has : info.default ≡ true
  pub before : length (filter has_default (take at ops)) ≡ j

pub ranked : (ops : List OpInfo) (j : ℕ) → j < length (filter has_default ops) → Ranked ops j
ranked [] j lt = absurd (omega (arith, lt))
ranked (o ∷ ops) j lt = by o.default refl j lt (ranked ops)
  where
    by : (b : Bool) → o.default ≡ b → (j : ℕ) → j < length (cond b (o ∷ filter has_default ops) (filter has_default ops)) → ((j : ℕ) → j < length (filter has_default ops) → Ranked ops j) → Ranked (o ∷ ops) j
    by true e zero lt f = record { at = 0; info = o; there = refl; has = e; before = refl }
    by true e (suc j) lt f = let r = f j (omega (arith, lt)) in record { at = suc r.at; info = r.info; there = r.there; has = r.has; before = ap (λ b. length (cond b (o ∷ filter has_default (take r.at ops)) (filter has_default (take r.at ops)))) e ∙ ap suc r.before }
    by false e j lt f = let r = f j lt in record { at = suc r.at; info = r.info; there = r.there; has = r.has; before = ap (λ b. length (cond b (o ∷ filter has_default (take r.at ops)) (filter has_default (take r.at ops)))) e ∙ r.before }

pub zero_plus : (n : ℕ) → 0 + n ≡ n
zero_plus n = omega arith

pub gap : (g l : ℕ) → g ≤ l → (j : ℕ) × (l ≡ g + j)
gap zero l le = (l, omega arith)
gap (suc g) zero le = absurd (omega (arith, le))
gap (suc g) (suc l) le = let r = gap g l (omega (arith, le)) in (r.0, (let e = r.1 in omega (arith, e)))

module _ (x : Translation) (tr : IsTranslated x) where
  -- the default of an operation stands for the procedure that the unit has for it
  pub record DefaultAt (l : ℕ) : Type 0 where
    pub at : ℕ
    pub info : OpInfo
    pub f : Procedure
    pub there : slice_get x.cps.shared.ops.items at ≡ Some info
    pub has : info.default ≡ true
    pub is : default_of x.unit at ≡ Some f
    pub as_root : LamAt x (ConvertsWithin x tr.depth) f.form [] f.params f.body l

  procedure_found : (p : Option Procedure) (q : Option Closure) (c : Closure) → q ≡ Some c → DefaultAs x (ConvertsWithin x tr.depth) p q → (f : Procedure) × (p ≡ Some f) × RootAs x (ConvertsWithin x tr.depth) f c
  procedure_found None None c e h = none_some c e
  procedure_found (Some f) (Some d) c e h = (f, refl, subst (RootAs x (ConvertsWithin x tr.depth) f) (some_same d c e) h)
  procedure_found None (Some d) c e h = absurd h
  procedure_found (Some f) None c e h = absurd h

  pub default_found : (l : ℕ) → global_lams x.cps ≤ l → l < first_lams x.cps → DefaultAt l
  default_found l le lt = let j = gap (global_lams x.cps) l le in behind l j.0 j.1 (ranked x.cps.shared.ops.items j.0 (omega (arith, lt, j.1)))
    where
      behind : (l j : ℕ) → l ≡ global_lams x.cps + j → Ranked x.cps.shared.ops.items j → DefaultAt l
      behind l j e r =
          let p = procedure_found (default_of x.unit r.at) (cps_default_of x.cps r.at) (record { lam = global_lams x.cps + j; scope = [] })
          (ap (λ o. option_map_or (default_at x.cps r.at) o None) r.there ∙ ap (λ b. if b then Some (record { lam = global_lams x.cps + length (filter has_default (take r.at x.cps.shared.ops.items)); scope = [] }) else None) r.has ∙ ap (λ n. Some (record { lam = global_lams x.cps + n; scope = [] })) r.before)
          (tr.defaults r.at) in
          subst DefaultAt (sym e) (record { at = r.at; info = r.info; f = p.0; there = r.there; has = r.has; is = p.1; as_root = p.2 })

  -- the procedure of a global stands for a LAMBDA of the unit
  global_found : (fs : List Procedure) (cs : List Closure) (i : ℕ) (c : Closure) → slice_get cs i ≡ Some c → RootsAs x (ConvertsWithin x tr.depth) fs cs → (f : Procedure) × RootAs x (ConvertsWithin x tr.depth) f c
  global_found [] [] i c e h = none_some c e
  global_found (f ∷ fs) (d ∷ cs) zero c e h = (f, subst (RootAs x (ConvertsWithin x tr.depth) f) (some_same d c e) h.0)
  global_found (f ∷ fs) (d ∷ cs) (suc i) c e h = global_found fs cs i c e h.1
  global_found [] (d ∷ cs) i c e h = absurd h
  global_found (f ∷ fs) [] i c e h = absurd h

  -- so does each procedure of a global or an operation
  pub first_found : (l : ℕ) → l < first_lams x.cps → (f : Procedure) × LamAt x (ConvertsWithin x tr.depth) f.form [] f.params f.body l
  first_found l lt = elim (cases_lt l (global_lams x.cps)) [
    | inl low ↦ global_found (start x.unit).closures (cps_start x.cps).closures l (record { lam = l; scope = [] }) (first_at 0 x.cps.shared.globals.items l low ∙ ap (λ n. Some (record { lam = n; scope = [] })) (zero_plus l)) tr.closures
    | inr high ↦ let d = default_found l (omega (arith, high)) lt in (d.f, d.as_root)
  ]
