-- The program of what is made stands for the unit.
use Rattle.std.proofs.Common.{◌≡◌, ℕ, zero, suc, ◌+◌, ◌≤◌, Bool, true, false, if◌then◌else◌, List, [], ◌∷◌, ◌++◌, Option, Some, None, length, map, filter, take, slice_get, inl, inr, refl, sym, ap, ◌∙◌, subst, arith}
use Rattle.std.specs.Option.{option_map_or}
use Rattle.std.proofs.lemmas.List.{length-append, length-map}
use Rattle.std.proofs.lemmas.Option.{slice_get_within}
use Rattle.t_base.specs.declared.basics.Var.{Var}
use Rattle.t_base.specs.declared.shared_parts.Global1.{Global1}
use Rattle.t_base.specs.declared.shared_parts.OpInfo.{OpInfo}
use Rattle.t_base.specs.declared.shared_parts.Shared.{Shared}
use Rattle.t_prim.specs.Values.{ClosureV}
use Rattle.t_core.specs.declared.forms.FormKind.{FormKind}
use Rattle.t_core.specs.declared.forms.FormKind.TheVariants.{Define, Operation}
use Rattle.t_core.specs.declared.forms.UnitCore.{UnitCore}
use Rattle.t_meaning.specs.Operations.{default_in}
use Rattle.t_meaning.specs.Units.{definitions, first_closures, first_globals}
use Rattle.t_meaning.specs.Costs.{is_assigned}
use Rattle.cps_ir.specs.declared.terms.Lam.{Lam}
use Rattle.cps_ir.specs.declared.terms.Cps.{Cps}
use Rattle.cps_ir.specs.States.{Closure}
use Rattle.cps_ir.specs.Parts.{is_procedure, is_assigned as cps_assigned}
use Rattle.cps_ir.specs.declared.args.Arg.TheVariants as Argument
use Rattle.t_base.specs.declared.shared_parts.Const.TheVariants as Constant
use Rattle.cps_ir.specs.Calls.{default_of as cps_default_of}
use Rattle.cps_ir.specs.Running.{first_closures as cps_closures, first_globals as cps_globals}
use Rattle.cps_conversion.specs.Conversion.{Translation, Converting, ConvertsWithin, RootAs, RootsAs, DefaultAs, FormsAs, IsTranslated, Converts}
use Rattle.expand_laws.proofs.Standing.{got_left, got_right}
use Rattle.cps_convert.specs.declared.conversion.Procedure.{Procedure as Made}
use Rattle.cps_convert.specs.declared.conversion.Conversion.{Conversion}
use Rattle.cps_convert.specs.Growing.{Includes}
use Rattle.cps_convert.specs.Claims.{Setting, translation}
use Rattle.unit_conversion.specs.declared.program.Parts.{Parts}
use Rattle.unit_conversion.specs.FirstLams.{IsFirst, EachPicked, has_default}
use Rattle.unit_conversion.specs.Parts.{lam_of, ArePartsOf, IsJoined}
use Rattle.unit_conversion.proofs.Picking.{each_length, each_at}
use Rattle.unit_conversion.proofs.Definitions.{undefined, undefaulted, defined_once, defaulted_once}

got_map : {X Y : Type 0} (f : X → Y) (xs : List X) (i : ℕ) (x : X) → slice_get xs i ≡ Some x → slice_get (map f xs) i ≡ Some (f x)
got_map f [] i x e = cc
got_map f (y ∷ xs) zero x e = by e
  where
    by : Some y ≡ Some x → Some (f y) ≡ Some (f x)
    by e = cc
got_map f (y ∷ xs) (suc i) x e = got_map f xs i x e

-- ---- procedures that stand from the start

module _ (unit : UnitCore) (marks : List Bool) (base : ℕ) (b : Conversion) (cps : Cps) (origins : List (ℕ × ℕ)) (inc : Includes (translation unit cps origins) b) (setting : Setting unit marks base) where
  abbrev x : Translation
  x = translation unit cps origins

  abbrev within : Converting
  within = ConvertsWithin x unit.shared.size

  -- a procedure that is made stands for its LAMBDA
  root_as : (kind : FormKind) (lam : Lam) (l : ℕ) → (h : IsFirst unit marks base b kind lam) → slice_get cps.lams.items l ≡ Some lam → RootAs x within h.procedure (record { lam = l; scope = [] })
  root_as kind lam l h at = (lam, at, h.holds.holds cps origins inc base setting (omega arith))

  closures_as : (g next : ℕ) (globals : List Global1) (lams : List Lam) → ((i : ℕ) (lam : Lam) → slice_get lams i ≡ Some lam → slice_get cps.lams.items (next + i) ≡ Some lam)
      → ((i : ℕ) (info : Global1) → slice_get globals i ≡ Some info → slice_get unit.shared.globals.items (g + i) ≡ Some info)
      → EachPicked (λ n lam. IsFirst unit marks base b (Define n) lam) g (map is_procedure globals) lams → RootsAs x within (first_closures (definitions g globals unit.forms.items)) (cps_closures next globals)
  closures_as g next [] lams at there h = tt
  closures_as g next (info ∷ globals) lams at there (inl h) =
      let here : slice_get unit.shared.globals.items g ≡ Some info = (let e : g + 0 ≡ g = omega arith in subst (λ n. slice_get unit.shared.globals.items n ≡ Some info) e (there 0 info refl)) in
      let later = λ (i : ℕ) (z : Global1) (e : slice_get globals i ≡ Some z). (let s : g + suc i ≡ suc g + i = omega arith in subst (λ n. slice_get unit.shared.globals.items n ≡ Some z) s (there (suc i) z e)) in
      let rest = closures_as (suc g) next globals lams at later h.1 in
      subst (λ o. RootsAs x within (first_closures (o ∷ definitions (suc g) globals unit.forms.items)) (cps_closures next (info ∷ globals))) (sym (undefined unit setting.whole g info here h.0))
      (subst (λ p. RootsAs x within (first_closures (definitions (suc g) globals unit.forms.items)) (if p then record { lam = next; scope = [] } ∷ cps_closures (suc next) globals else cps_closures next globals)) (sym h.0) rest)
  closures_as g next (info ∷ globals) lams at there (inr h) =
      let f = h.1.3 in
      let here : slice_get unit.shared.globals.items g ≡ Some info = (let e : g + 0 ≡ g = omega arith in subst (λ n. slice_get unit.shared.globals.items n ≡ Some info) e (there 0 info refl)) in
      let later = λ (i : ℕ) (z : Global1) (e : slice_get globals i ≡ Some z). (let s : g + suc i ≡ suc g + i = omega arith in subst (λ n. slice_get unit.shared.globals.items n ≡ Some z) s (there (suc i) z e)) in
      let further = λ (i : ℕ) (lam : Lam) (e : slice_get h.1.1 i ≡ Some lam).
      (let s : next + suc i ≡ suc next + i = omega arith in subst (λ n. slice_get cps.lams.items n ≡ Some lam) s (at (suc i) lam (ap (λ l. slice_get l (suc i)) h.1.2 ∙ e))) in
      let first : slice_get cps.lams.items next ≡ Some h.1.0 =
      (let e : next + 0 ≡ next = omega arith in subst (λ n. slice_get cps.lams.items n ≡ Some h.1.0) e (at 0 h.1.0 (ap (λ l. slice_get l 0) h.1.2))) in
      let rest = closures_as (suc g) (suc next) globals h.1.1 further later h.1.4 in
      let defined = defined_once unit setting.whole g f.at f.form (slice_get_within unit.shared.globals.items g info here) f.there f.kind_is ∙ f.is in
      subst (λ o. RootsAs x within (first_closures (o ∷ definitions (suc g) globals unit.forms.items)) (cps_closures next (info ∷ globals))) (sym defined)
      (subst (λ p. RootsAs x within (f.procedure ∷ first_closures (definitions (suc g) globals unit.forms.items)) (if p then record { lam = next; scope = [] } ∷ cps_closures (suc next) globals else cps_closures next globals)) (sym h.0)
      (root_as (Define g) h.1.0 next f first, rest))

  globals_as : (g next : ℕ) (globals : List Global1) (lams : List Lam) → ((i : ℕ) (info : Global1) → slice_get globals i ≡ Some info → slice_get unit.shared.globals.items (g + i) ≡ Some info)
      → EachPicked (λ n lam. IsFirst unit marks base b (Define n) lam) g (map is_procedure globals) lams → cps_globals next globals ≡ first_globals next (definitions g globals unit.forms.items)
  globals_as g next [] lams there h = refl
  globals_as g next (info ∷ globals) lams there (inl h) =
      let here : slice_get unit.shared.globals.items g ≡ Some info = (let e : g + 0 ≡ g = omega arith in subst (λ n. slice_get unit.shared.globals.items n ≡ Some info) e (there 0 info refl)) in
      let later = λ (i : ℕ) (z : Global1) (e : slice_get globals i ≡ Some z). (let s : g + suc i ≡ suc g + i = omega arith in subst (λ n. slice_get unit.shared.globals.items n ≡ Some z) s (there (suc i) z e)) in
      let rest = globals_as (suc g) next globals lams later h.1 in
      subst (λ o. cps_globals next (info ∷ globals) ≡ first_globals next (o ∷ definitions (suc g) globals unit.forms.items)) (sym (undefined unit setting.whole g info here h.0))
      (subst (λ p. (if p then Some (ClosureV next) ∷ cps_globals (suc next) globals else None ∷ cps_globals next globals) ≡ None ∷ first_globals next (definitions (suc g) globals unit.forms.items)) (sym h.0) (ap (λ l. None ∷ l) rest))
  globals_as g next (info ∷ globals) lams there (inr h) =
      let f = h.1.3 in
      let here : slice_get unit.shared.globals.items g ≡ Some info = (let e : g + 0 ≡ g = omega arith in subst (λ n. slice_get unit.shared.globals.items n ≡ Some info) e (there 0 info refl)) in
      let later = λ (i : ℕ) (z : Global1) (e : slice_get globals i ≡ Some z). (let s : g + suc i ≡ suc g + i = omega arith in subst (λ n. slice_get unit.shared.globals.items n ≡ Some z) s (there (suc i) z e)) in
      let rest = globals_as (suc g) (suc next) globals h.1.1 later h.1.4 in
      let defined = defined_once unit setting.whole g f.at f.form (slice_get_within unit.shared.globals.items g info here) f.there f.kind_is ∙ f.is in
      subst (λ o. cps_globals next (info ∷ globals) ≡ first_globals next (o ∷ definitions (suc g) globals unit.forms.items)) (sym defined)
      (subst (λ p. (if p then Some (ClosureV next) ∷ cps_globals (suc next) globals else None ∷ cps_globals next globals) ≡ Some (ClosureV next) ∷ first_globals (suc next) (definitions (suc g) globals unit.forms.items)) (sym h.0)
      (ap (λ l. Some (ClosureV next) ∷ l) rest))

  -- the default of an operation, where as many procedures stand before the defaults
  default_as : (before o : ℕ) (lams : List Lam) → ((i : ℕ) (lam : Lam) → slice_get lams i ≡ Some lam → slice_get cps.lams.items (before + i) ≡ Some lam)
      → EachPicked (λ n lam. IsFirst unit marks base b (Operation n) lam) 0 (map has_default unit.shared.ops.items) lams
      → DefaultAs x within (default_in o 0 unit.forms.items)
      (option_map_or (λ (info : OpInfo). if info.default then Some (record { lam = before + length (filter has_default (take o unit.shared.ops.items)); scope = [] }) else None) (slice_get unit.shared.ops.items o) None)
  default_as before o lams at h = by (slice_get unit.shared.ops.items o) refl
    where
      by : (e : Option OpInfo) → slice_get unit.shared.ops.items o ≡ e → DefaultAs x within (default_in o 0 unit.forms.items) (option_map_or (λ (info : OpInfo). if info.default then Some (record { lam = before + length (filter has_default (take o unit.shared.ops.items)); scope = [] }) else None) e None)
      by None e = subst (λ d. DefaultAs x within d None) (sym (undefaulted unit setting.whole o (ap (λ z. option_map_or (λ (info : OpInfo). info.default) z false) e))) tt
      by (Some info) e = then_by info.default refl
        where
          then_by : (d : Bool) → info.default ≡ d → DefaultAs x within (default_in o 0 unit.forms.items) (if d then Some (record { lam = before + length (filter has_default (take o unit.shared.ops.items)); scope = [] }) else None)
          then_by false free = subst (λ d. DefaultAs x within d None) (sym (undefaulted unit setting.whole o (ap (λ z. option_map_or (λ (info : OpInfo). info.default) z false) e ∙ free))) tt
          then_by true is =
              let r = each_at (λ n lam. IsFirst unit marks base b (Operation n) lam) has_default 0 unit.shared.ops.items lams o info h e is in
              let f = r.2 in
              let same : 0 + o ≡ o = omega arith in
              let kind = f.kind_is ∙ ap Operation same in
              let found = defaulted_once unit setting.whole o f.at f.form (slice_get_within unit.shared.ops.items o info e) f.there kind ∙ f.is in
              subst (λ d. DefaultAs x within d (Some (record { lam = before + length (filter has_default (take o unit.shared.ops.items)); scope = [] }))) (sym found) (root_as (Operation (0 + o)) r.0 (before + length (filter has_default (take o unit.shared.ops.items))) f (at (length (filter has_default (take o unit.shared.ops.items))) r.0 r.1))

-- ---- the program

abbrev origin_of : Made → ℕ × ℕ
origin_of p = (p.form, p.node)

module _ (unit : UnitCore) (marks : List Bool) (base : ℕ) (parts : Parts) (cps : Cps) (setting : Setting unit marks base) (are : ArePartsOf unit marks base parts) (joined : IsJoined unit parts cps) (assigned : (v : Var) → cps_assigned cps v.0 ≡ is_assigned unit v) where
  abbrev firsts : List Lam
  firsts = parts.globals.items ++ parts.defaults.items

  abbrev origins : List (ℕ × ℕ)
  origins = map (λ lam. (0, 0)) firsts ++ map origin_of parts.made.procedures.items

  globals_long : length parts.globals.items ≡ length (filter is_procedure unit.shared.globals.items)
  globals_long = each_length _ is_procedure 0 unit.shared.globals.items parts.globals.items are.globals

  long : length firsts ≡ parts.made.first
  long =
      let d = each_length _ has_default 0 unit.shared.ops.items parts.defaults.items are.defaults in
      let g = globals_long in
      let s = length-append parts.globals.items parts.defaults.items in
      let f = are.first in
      omega (arith, d, g, s, f)

  inc : Includes (translation unit cps origins) parts.made
  inc = record {
    terms = λ t term e. subst (λ l. slice_get l t ≡ Some term) (sym joined.terms) e;
    procedures = λ l p e. record {
      lam = subst (λ ls. slice_get ls (parts.made.first + l) ≡ Some p.lam) (sym joined.lams)
          (subst (λ n. slice_get (firsts ++ map lam_of parts.made.procedures.items) (n + l) ≡ Some p.lam) long (got_right firsts (map lam_of parts.made.procedures.items) l p.lam (got_map lam_of parts.made.procedures.items l p e)));
      origin =
          let k : length (map (λ lam. (0, 0)) firsts) ≡ parts.made.first = length-map firsts (λ lam. (0, 0)) ∙ long in
          subst (λ n. slice_get origins (n + l) ≡ Some (p.form, p.node)) k
          (got_right (map (λ lam. (0, 0)) firsts) (map origin_of parts.made.procedures.items) l (p.form, p.node) (got_map origin_of parts.made.procedures.items l p e));
    };
    first = ap (λ (s : Shared). length (filter is_procedure s.globals.items) + length (filter has_default s.ops.items)) joined.shared ∙ sym are.first;
  }

  first_at : (i : ℕ) (lam : Lam) → slice_get firsts i ≡ Some lam → slice_get cps.lams.items i ≡ Some lam
  first_at i lam e = subst (λ ls. slice_get ls i ≡ Some lam) (sym joined.lams) (got_left firsts (map lam_of parts.made.procedures.items) i lam e)

  abbrev whole : Translation
  whole = translation unit cps origins

  abbrev nodes : Converting
  nodes = ConvertsWithin whole unit.shared.size

  plain : (n : ℕ) → n ≡ 0 + n
  plain n = omega arith

  forms : FormsAs whole nodes 0 unit.forms.items (Argument.Const Constant.Nil) cps.entry
  forms = subst (λ e. FormsAs whole nodes 0 unit.forms.items (Argument.Const Constant.Nil) e) (sym joined.entry) (are.forms cps origins inc setting joined.shared)

  closures : RootsAs whole nodes (first_closures (definitions 0 unit.shared.globals.items unit.forms.items)) (cps_closures 0 cps.shared.globals.items)
  closures =
      subst (λ (s : Shared). RootsAs whole nodes (first_closures (definitions 0 unit.shared.globals.items unit.forms.items)) (cps_closures 0 s.globals.items)) (sym joined.shared)
      (closures_as unit marks base parts.made cps origins inc setting 0 0 unit.shared.globals.items parts.globals.items
      (λ i lam e. subst (λ n. slice_get cps.lams.items n ≡ Some lam) (plain i) (first_at i lam (got_left parts.globals.items parts.defaults.items i lam e)))
      (λ i info e. subst (λ n. slice_get unit.shared.globals.items n ≡ Some info) (plain i) e) are.globals)

  globals : cps_globals 0 cps.shared.globals.items ≡ first_globals 0 (definitions 0 unit.shared.globals.items unit.forms.items)
  globals =
      ap (λ (s : Shared). cps_globals 0 s.globals.items) joined.shared
      ∙ globals_as unit marks base parts.made cps origins inc setting 0 0 unit.shared.globals.items parts.globals.items (λ i info e. subst (λ n. slice_get unit.shared.globals.items n ≡ Some info) (plain i) e) are.globals

  abbrev default_closure : Shared → ℕ → Option Closure
  default_closure s o =
      option_map_or (λ (info : OpInfo). if info.default then Some (record { lam = length (filter is_procedure s.globals.items) + length (filter has_default (take o s.ops.items)); scope = [] }) else None) (slice_get s.ops.items o) None

  defaults : (o : ℕ) → DefaultAs whole nodes (default_in o 0 unit.forms.items) (cps_default_of cps o)
  defaults o =
      subst (λ s. DefaultAs whole nodes (default_in o 0 unit.forms.items) (default_closure s o)) (sym joined.shared)
      (default_as unit marks base parts.made cps origins inc setting (length (filter is_procedure unit.shared.globals.items)) o parts.defaults.items
      (λ i lam e. first_at (length (filter is_procedure unit.shared.globals.items) + i) lam (subst (λ n. slice_get firsts (n + i) ≡ Some lam) globals_long (got_right parts.globals.items parts.defaults.items i lam e))) are.defaults)

  translated : IsTranslated whole
  translated = record {
    depth = unit.shared.size;
    shared = joined.shared;
    assigned = assigned;
    forms = forms;
    closures = closures;
    globals = globals;
    defaults = defaults;
  }

  pub converts : Converts unit cps
  converts = record { origins = origins; translated = translated }

-- as many procedures stand there as stand first
pub enough : (unit : UnitCore) (marks : List Bool) (base : ℕ) (parts : Parts) (cps : Cps) → ArePartsOf unit marks base parts → IsJoined unit parts cps → parts.made.first ≤ length cps.lams.items
enough unit marks base parts cps are joined =
    let d = each_length (λ n lam. IsFirst unit marks base parts.made (Operation n) lam) has_default 0 unit.shared.ops.items parts.defaults.items are.defaults in
    let g = each_length (λ n lam. IsFirst unit marks base parts.made (Define n) lam) is_procedure 0 unit.shared.globals.items parts.globals.items are.globals in
    let s = length-append parts.globals.items parts.defaults.items in
    let all = ap length joined.lams ∙ length-append (parts.globals.items ++ parts.defaults.items) (map lam_of parts.made.procedures.items) in
    let f = are.first in
    omega (arith, d, g, s, all, f)
