-- The data of a whole text unit in which nothing is refused have a core.
use Rattle.std.proofs.Common.{◌≡◌, ◌≢◌, ℕ, suc, zero, ◌<◌, ◌≤◌, ◌++◌, true, false, not, List, [], ◌∷◌, length, map, All, AllPairs, Some, slice_get, refl, sym, ap, subst, ◌∙◌, nat_le, arith}
use Rattle.std.specs.Prelude.{codes}
use Rattle.std.specs.Option.{option_map}
use Rattle.std.specs.List.{filter, list_all}
use Rattle.std.specs.Global.{Global}
use Rattle.std.proofs.lemmas.Bool.{leb-true, and_parts}
use Rattle.std.proofs.lemmas.List.Elements.{All-cons, All-weaker}
use Rattle.std.proofs.lemmas.List.Sums.{AllPass-from_list_all}
use Rattle.t_base.specs.declared.shared_parts.OpInfo.{OpInfo}
use Rattle.t_prim.specs.SharedParts.{IsNameText, HasLowerParts, IsWholeShared}
use Rattle.t_reader.specs.declared.unit.Unit.{Unit as TextUnit}
use Rattle.t_reader.specs.Grammar.{Tree}
use Rattle.t_reader.specs.Tokens.{is_name, is_name_byte}
use Rattle.t_reader.specs.Unit.{IsWhole, HoldTrees, fixed_names}
use Rattle.t_core.specs.Whole.{binders, pair_in, pair_of}
use Rattle.t_core.specs.Whole.{IsWhole as IsWholeCore}
use Rattle.expansion.specs.Strings.{string_in, string_of}
use Rattle.expand_laws.proofs.DistinctVariables.{distinct_vars}
use Rattle.t_forms.specs.Data.{datum_of}
use Rattle.t_rows.specs.declared.refusal.Refusal.{Refusal}
use Rattle.expansion.specs.Meaning.{FormsMean}
use Rattle.expansion.specs.Refusals.{RefusedIn}
use Rattle.expansion.specs.Units.{Top, tops_of, definitions_of, is_global, texts, global_texts, op_texts}
use Rattle.expansion.proofs.WholeLemmas.{forms_scoped}
use Rattle.expand_laws.specs.Cores.{HasCore}
use Rattle.expand_laws.proofs.AllTops.{all_tops}
use Rattle.expand_laws.proofs.DefinedOnce.{global_once, op_once}
use Rattle.expand_laws.proofs.Defining.{forms_defined}
use Rattle.expansion.specs.Counting.{numbers}
use Rattle.expand_laws.proofs.Numbering.{all_clean, all_new, all_numbered, all_kinds, entries_are}
use Rattle.expand_laws.proofs.Once.{distinct_of}
use Rattle.expand_laws.proofs.Premises.{MakesForms}
use Rattle.expand_laws.proofs.Ready.{IsReady, nothing_made, builtin_at, ops_behind, shared_of, unit_of, has_stock, has_defined, is_split}
use Rattle.expand_laws.proofs.DataSizes.{trees_pure, sizes_are}
use Rattle.expand_laws.proofs.Tables.{tabled, globals_named, ops_named, globals_there, ops_there}
use Rattle.expand_laws.proofs.TopsFine.{all_fine}
use Rattle.expand_laws.proofs.TopsMade.{unit_named}

-- ---- names

printed : (bytes : List ℕ) → list_all is_name_byte bytes ≡ true → All (λ b. (33 ≤ b) × (b ≤ 126)) bytes
printed bytes e =
    All-weaker (λ b. is_name_byte b ≡ true) (λ b. (33 ≤ b) × (b ≤ 126)) (λ b h. let p = and_parts (nat_le 33 b) (nat_le b 126) h in (leb-true 33 b p.0, leb-true b 126 p.1)) bytes
    (AllPass-from_list_all is_name_byte bytes e)

name_text : (text : List ℕ) → is_name text ≡ true → IsNameText text
name_text [] e = absurd (let x : ⊥ = cc in x)
name_text (b ∷ bs) e = (omega arith, printed (b ∷ bs) e)

name_texts : (names : List (List ℕ)) → list_all is_name names ≡ true → All IsNameText names
name_texts names e = All-weaker (λ text. is_name text ≡ true) IsNameText name_text names (AllPass-from_list_all is_name names e)

-- the names of a text unit
pub record AreNames (names : List (List ℕ)) : Type 0 where
  pub texts : All IsNameText names
  pub distinct : AllPairs (λ a b. a ≢ b) names
  pub others : List (List ℕ)
  pub begin : names ≡ fixed_names ++ others

none_lower : HasLowerParts []
none_lower = record { parts_below = λ k p e. absurd (let x : ⊥ = cc in x) }

module _ (names : List (List ℕ)) (ts : List Top) (alloc : Global) (r : IsReady names ts) (are : AreNames names) where
  three_names : 3 ≤ length names
  three_names = let e : length names ≡ length (fixed_names ++ are.others) = ap length are.begin in omega (arith, e)

  ops_in : All (λ o. o.name.0 < length names) (ops_behind r.tables.ops)
  ops_in =
      let n = three_names in
      All-cons (λ (o : OpInfo). o.name.0 < length names) (builtin_at 0) (builtin_at 1 ∷ builtin_at 2 ∷ r.tables.ops) (omega (arith, n))
      (All-cons (λ (o : OpInfo). o.name.0 < length names) (builtin_at 1) (builtin_at 2 ∷ r.tables.ops) (omega (arith, n))
      (All-cons (λ (o : OpInfo). o.name.0 < length names) (builtin_at 2) r.tables.ops (omega (arith, n))
      (ops_there names 0 3 ts r.made.forms r.tables.globals r.tables.ops r.tables.are)))

  no_default : (o : ℕ) → o < 3 → option_map (λ (info : OpInfo). info.default) (slice_get (ops_behind r.tables.ops) o) ≡ Some false
  no_default zero less = refl
  no_default (suc zero) less = refl
  no_default (suc (suc zero)) less = refl
  no_default (suc (suc (suc o))) less = absurd (omega (arith, less))

  whole_shared : IsWholeShared (shared_of names ts alloc r)
  whole_shared = record {
    names = are.texts;
    distinct = are.distinct;
    strings = r.made.ascii;
    pairs = r.made.pairs_right (shared_of names ts alloc r) (has_stock names ts alloc r);
    lower = subst HasLowerParts r.made.pairs_are (r.made.lower none_lower);
    globals = globals_there names 0 3 ts r.made.forms r.tables.globals r.tables.ops r.tables.are;
    ops = ops_in;
    builtins = no_default;
  }

  means : FormsMean (definitions_of ts) (shared_of names ts alloc r) r.made.forms r.made.spans ts
  means = r.made.means (shared_of names ts alloc r) (has_stock names ts alloc r)

  whole_unit : IsWholeCore (unit_of names ts alloc r)
  whole_unit =
      let shared = shared_of names ts alloc r in
      let places = r.made.places shared (has_stock names ts alloc r) (has_defined names ts alloc r) in
      record {
        places = places;
        scopes = record {
          bound_once = distinct_vars (binders (unit_of names ts alloc r)) (distinct_of 0 r.after.next (numbers (binders (unit_of names ts alloc r))) r.made.vars_once);
          used = forms_scoped shared (definitions_of ts) r.made.forms r.made.spans ts means places;
        };
        shapes = r.made.shapes shared (has_defined names ts alloc r);
        definitions = record {
          forms = forms_defined names shared 0 3 ts r.made.forms r.tables.globals r.tables.ops (omega arith) r.tables.are (is_split names ts alloc r);
          globals_once = λ g less. global_once names g 0 3 ts r.made.forms r.tables.globals r.tables.ops r.tables.are (omega arith) (omega (arith, less));
          ops_once = λ o le less. op_once names o 0 3 ts r.made.forms r.tables.globals r.tables.ops r.tables.are le (omega (arith, less));
        };
        shared = record {
          parts = whole_shared;
          pairs_once = distinct_of 0 (length r.after.pairs) (unit_named pair_in pair_of r.made.forms r.made.new_pairs) r.made.pairs_once;
          size = refl;
        };
      }

  global_names : map (λ text. Some text) (global_texts ts) ≡ map (λ g. slice_get names g.name.0) r.tables.globals
  global_names =
      ap (λ es. map (λ text. Some text) (texts (filter (λ e. is_global e.by) es))) (entries_are ts r.fresh)
      ∙ globals_named names 0 3 ts r.made.forms r.tables.globals r.tables.ops r.tables.are

  first_names : map (λ (o : OpInfo). slice_get names o.name.0) (ops_behind r.tables.ops)
      ≡ Some (codes "setter") ∷ Some (codes "contents") ∷ Some (codes "set-contents") ∷ map (λ (o : OpInfo). slice_get names o.name.0) r.tables.ops
  first_names =
      ap (λ ns. slice_get ns 0 ∷ slice_get ns 1 ∷ slice_get ns 2 ∷ map (λ (o : OpInfo). slice_get names o.name.0) r.tables.ops) are.begin

  op_names : map (λ text. Some text) (op_texts ts) ≡ map (λ o. slice_get names o.name.0) (ops_behind r.tables.ops)
  op_names =
      ap (λ es. Some (codes "setter") ∷ Some (codes "contents") ∷ Some (codes "set-contents") ∷ map (λ text. Some text) (texts (filter (λ e. not (is_global e.by)) es))) (entries_are ts r.fresh)
      ∙ ap (λ l. Some (codes "setter") ∷ Some (codes "contents") ∷ Some (codes "set-contents") ∷ l) (ops_named names 0 3 ts r.made.forms r.tables.globals r.tables.ops r.tables.are)
      ∙ sym first_names

  pub core_of : (trees : List Tree) → ts ≡ tops_of (map datum_of trees) → HasCore trees
  core_of trees e = record {
    core = unit_of names ts alloc r;
    spans = r.made.spans;
    is = record {
      whole = whole_unit;
      forms = subst (λ l. FormsMean (definitions_of l) (shared_of names ts alloc r) r.made.forms r.made.spans l) e means;
      globals = ap (λ l. map (λ text. Some text) (global_texts l)) (sym e) ∙ global_names;
      ops = ap (λ l. map (λ text. Some text) (op_texts l)) (sym e) ∙ op_names;
      strings_once = distinct_of 0 (length r.after.strings) (unit_named string_in string_of r.made.forms r.made.new_pairs) r.made.strings_once;
    };
  }

-- ---- the unit

pub names_are : (u : TextUnit) → IsWhole u → AreNames u.names
names_are u w = record { texts = name_texts u.names w.names_whole; distinct = w.names_distinct; others = w.names_begin.0; begin = w.names_begin.1 }

pub unit_made : (u : TextUnit) (trees : List Tree) → IsWhole u → HoldTrees u.names u.nodes.items u.forms.items trees → MakesForms u.names (definitions_of (tops_of (map datum_of trees)))
    → ((r : Refusal) → RefusedIn (tops_of (map datum_of trees)) r → ⊥) → HasCore trees
unit_made u trees w h makes none =
    let ts = tops_of (map datum_of trees) in
    let fine = all_fine u.names (map datum_of trees) (trees_pure u trees w h) in
    let size = sizes_are u trees w h in
    let few = w.few in
    let within = fine.1 in
    let clean = all_clean (definitions_of ts) ts none in
    let fresh = all_new (definitions_of ts) [] [] ts (λ n. refl) clean in
    let numbered = all_numbered ts fresh in
    let tops = all_tops u.names (definitions_of ts) u.nodes.alloc [] ts nothing_made makes fine.0 clean (all_kinds (definitions_of ts) 0 3 ts numbered) (omega (arith, size, few, within)) in
    core_of u.names ts u.nodes.alloc (record {
      after = tops.after;
      made = tops.made;
      tables = tabled u.names (definitions_of ts) 0 3 ts tops.made.forms fine.0 tops.made.filled numbered;
      fresh = fresh;
      few = omega (arith, size, few, within);
    }) (names_are u w) trees refl
