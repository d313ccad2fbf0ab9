-- The unit of forms that are made: its shared parts and its forms.
use Rattle.std.proofs.Common.{ℕ, ◌+◌, ◌≤◌, ◌^◌, false, List, [], ◌∷◌, length, refl, sym, ap, ◌∙◌, arith}
use Rattle.std.specs.Global.{Global}
use Rattle.std.proofs.lemmas.List.{append-nil}
use Rattle.t_base.specs.declared.shared_parts.Global1.{Global1}
use Rattle.t_base.specs.declared.shared_parts.OpInfo.{OpInfo}
use Rattle.t_base.specs.declared.shared_parts.Shared.{Shared}
use Rattle.t_core.specs.declared.forms.Form.{Form}
use Rattle.t_core.specs.declared.forms.UnitCore.{UnitCore}
use Rattle.t_core.specs.Counts.{form_count}
use Rattle.t_core.specs.Limits.{greatest}
use Rattle.expansion.specs.Units.{Top, definitions_of, meanings_from}
use Rattle.expand_laws.proofs.AllTops.{few_tops}
use Rattle.expand_laws.proofs.Defining.{IsSplit}
use Rattle.expand_laws.proofs.Made.{Stock, HasStock, HasDefined}
use Rattle.expand_laws.proofs.Named.{defined_there}
use Rattle.expand_laws.proofs.Numbering.{definitions, AreNew, entries_are}
use Rattle.expand_laws.proofs.Shortness.{IsShort, vec_of}
use Rattle.expand_laws.proofs.Tables.{Tabled, no_more, a_define, an_lset, an_operation, an_expression, HasTables}
use Rattle.expand_laws.proofs.TopsMade.{AllMade, tops_size}

-- before the first form
abbrev pub nothing_made : Stock
nothing_made = record { strings = []; pairs = []; next = 0 }

-- the forms are made, and define each name once
pub record IsReady (names : List (List ℕ)) (ts : List Top) : Type 0 where
  pub after : Stock
  pub made : AllMade names (definitions_of ts) ts nothing_made after
  pub tables : HasTables names 0 3 ts made.forms
  pub fresh : AreNew [] (definitions ts)
  pub few : tops_size ts ≤ 2 ^ 26

-- ---- how many

few_tables : (names : List (List ℕ)) (g o : ℕ) (ts : List Top) (fs : List Form) (gs : List Global1) (os : List OpInfo) → Tabled names g o ts fs gs os → length gs + length os ≤ length ts
few_tables names g o ts fs gs os (no_more _ _) = omega arith
few_tables names g o ts fs gs os (a_define g1 o1 b d us f hs info is ps k some kinded at rest) = let r = few_tables names (g1 + 1) o1 us hs is ps rest in omega (arith, r)
few_tables names g o ts fs gs os (an_lset g1 o1 b d us f hs info is ps k some kinded at rest) = let r = few_tables names (g1 + 1) o1 us hs is ps rest in omega (arith, r)
few_tables names g o ts fs gs os (an_operation g1 o1 b qs d us f hs info is ps k kinded at rest) = let r = few_tables names g1 (o1 + 1) us hs is ps rest in omega (arith, r)
few_tables names g o ts fs gs os (an_expression g1 o1 d us f hs is ps k some rest) = let r = few_tables names g1 o1 us hs is ps rest in omega (arith, r)

-- the operation at a place of the first three names
abbrev pub builtin_at : ℕ → OpInfo
builtin_at n = record { name = record { 0 = n }; default = false }

abbrev pub ops_behind : List OpInfo → List OpInfo
ops_behind os = builtin_at 0 ∷ builtin_at 1 ∷ builtin_at 2 ∷ os

module _ (names : List (List ℕ)) (ts : List Top) (alloc : Global) (r : IsReady names ts) where
  pub strings_short : IsShort r.made.new_strings
  strings_short = let a = r.made.few_strings in let b = r.few in omega (arith, a, b)

  pub pairs_short : IsShort r.made.new_pairs
  pairs_short = let a = r.made.few_pairs in let b = r.few in omega (arith, a, b)

  pub tables_short : IsShort r.tables.globals × IsShort (ops_behind r.tables.ops)
  tables_short =
      let a = few_tables names 0 3 ts r.made.forms r.tables.globals r.tables.ops r.tables.are in
      let b = few_tops ts in
      let c = r.few in
      (omega (arith, a, b, c), omega (arith, a, b, c))

  pub forms_short : IsShort r.made.forms
  forms_short = let a = r.made.few_forms in let b = few_tops ts in let c = r.few in omega (arith, a, b, c)

  abbrev pub shared_of : Shared
  shared_of = record {
    names = names;
    strings = vec_of alloc r.made.new_strings strings_short;
    pairs = vec_of alloc r.made.new_pairs pairs_short;
    globals = vec_of alloc r.tables.globals tables_short.0;
    ops = vec_of alloc (ops_behind r.tables.ops) tables_short.1;
    size = greatest (form_count r.made.new_pairs) r.made.forms;
  }

  abbrev pub unit_of : UnitCore
  unit_of = record { shared = shared_of; forms = vec_of alloc r.made.forms forms_short }

  -- ---- what they have

  pub has_stock : HasStock names r.after shared_of
  has_stock = record {
    names_are = refl;
    strings = record { more = []; is = sym (append-nil r.after.strings ∙ r.made.strings_are) };
    pairs = record { more = []; is = sym (append-nil r.after.pairs ∙ r.made.pairs_are) };
  }

  pub is_split : IsSplit shared_of 0 3 r.tables.globals r.tables.ops
  is_split = record { globals = []; ops = ops_behind []; global_count = refl; op_count = refl; globals_are = refl; ops_are = refl }

  pub has_defined : HasDefined (definitions_of ts) shared_of
  has_defined =
      defined_there names shared_of ts r.made.forms r.tables.globals r.tables.ops (definitions_of ts) r.tables.are is_split (ap (meanings_from 0 3) (entries_are ts r.fresh)) (omega arith)
