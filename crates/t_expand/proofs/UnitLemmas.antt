-- The core of a unit, put together.
use Rattle.std.proofs.Common.{◌≡◌, ◌≢◌, ℕ, ◌+◌, ◌≤◌, ◌^◌, List, [], ◌∷◌, length, map, sum_by, Option, Some, None, Result, Ok, Err, IfOk, arith, slice_get, AllPairs, refl, sym, ap, subst, ◌∙◌}
use Rattle.std.proofs.lemmas.Option.{same_Some}
use Rattle.t_base.specs.declared.basics.Span.{Span}
use Rattle.t_base.specs.declared.shared_parts.Global1.{Global1}
use Rattle.t_base.specs.declared.shared_parts.Shared.{Shared}
use Rattle.t_reader.specs.Grammar.{Tree}
use Rattle.t_core.specs.declared.forms.UnitCore.{UnitCore}
use Rattle.t_forms.specs.declared.arena.Cell.{Cell}
use Rattle.t_forms.specs.Data.{datum_of}
use Rattle.t_forms.specs.Held.{AreNames}
use Rattle.std.specs.Global.{Vec}
use Rattle.t_rows.specs.Rows.{refusal}
use Rattle.t_rows.specs.declared.refusal.SyntaxKind.{SyntaxKind}
use Rattle.t_rows.specs.declared.refusal.Refusal.{Refusal}
use Rattle.unit_tops.specs.Entries.{AreEntries}
use Rattle.t_expand.specs.Growth.{IsGrown, Keeps, IsReady}
use Rattle.expansion.specs.Meaning.{IsCoreOf, FormsMean}
use Rattle.t_expand.specs.Outcome.{IsStarted, IsPrepared, IsText, IsFinished, IsOutcome, IsRefusedWith}
use Rattle.expansion.specs.Refusals.{IsFirstOf, IsFirstRefusal, RefusedAmong, RefusedIn, number}
use Rattle.expansion.specs.Settling.{all_settled}
use Rattle.t_expand.specs.Tallies.{AreTallied}
use Rattle.unit_tops.specs.Tops.{AreTops}
use Rattle.unit_tops.specs.declared.tops.Top.{Top as CodeTop}
use Rattle.expansion.specs.Units.{Top, tops_of, entries_of, definitions_of}
use Rattle.t_expand.specs.declared.driver_state.Expansion.{Expansion}
use Rattle.unit_tops.specs.declared.entries.Entries.{Entries}
use Rattle.t_expand.specs.declared.fault.SyntaxFault.{SyntaxFault}
use Rattle.t_expand.specs.declared.fault.SyntaxFault.TheVariants as faults
use Rattle.t_expand.specs.declared.unit_all.FormList.{FormList}
use Rattle.expand_laws.proofs.WholeUnits.{whole_unit, strings_once}
use Rattle.t_expand.proofs.UnitParts.{unit_parts}
use Rattle.expansion.proofs.FirstRefusals.{same_start, same_number, same_kind}

-- before the first form the names are those that the unit defines
pub unit_ready : (names : List (List ℕ)) (forms : List Cell) (entries : Entries) (e : Expansion) (ts : List Top) → AllPairs (λ a b. a ≢ b) names
    → IsStarted names forms entries e → AreEntries names entries (entries_of ts) → IsReady e (definitions_of ts)
unit_ready names forms entries e ts apart s are = record {
  distinct = subst (λ ns. AllPairs (λ a b. a ≢ b) ns) (sym s.names_are) apart;
  scope = record {
    locals = subst (λ l. AreNames e.shared.names (map (λ x. x.name) l) []) (sym s.outside) tt;
    table = rw (s.names_are, s.table) are.table;
  };
  outside = s.outside;
}

named : (names : List (List ℕ)) (gs : List Global1) → map (λ g. slice_get names g.name.0) gs ≡ map (λ n. slice_get names n.0) (map (λ g. g.name) gs)
named names [] = refl
named names (g ∷ gs) = ap (λ l. slice_get names g.name.0 ∷ l) (named names gs)

same_globals : (names : List (List ℕ)) (gs hs : List Global1) → map (λ g. g.name) gs ≡ map (λ g. g.name) hs
    → map (λ g. slice_get names g.name.0) gs ≡ map (λ g. slice_get names g.name.0) hs
same_globals names gs hs e = named names gs ∙ ap (λ l. map (λ n. slice_get names n.0) l) e ∙ sym (named names hs)

pub unit_prepared : (trees : List Tree) (names : List (List ℕ)) (forms : List Cell) (entries : Entries) (e : Expansion) (tops : List CodeTop) → AllPairs (λ a b. a ≢ b) names
    → IsStarted names forms entries e → AreEntries names entries (entries_of (tops_of (map datum_of trees))) → AreTops names forms tops (tops_of (map datum_of trees))
    → IsPrepared names trees e tops
unit_prepared trees names forms entries e tops apart s are ts = record {
  ready = unit_ready names forms entries e (tops_of (map datum_of trees)) apart s are;
  tops_are = rw (s.names_are, s.forms_are) ts;
  first = s.first;
  names_are = s.names_are;
  globals = rw s.globals are.globals;
  ops = rw s.ops are.ops;
  kinds = rw s.globals are.kinds;
  defaults = rw s.ops are.defaults;
}

pub core_made : (trees : List Tree) (names : List (List ℕ)) (start end : Expansion) (tops : List CodeTop) (list : FormList) (unit : UnitCore)
    (spans : List (List Span)) → IsText names trees → IsPrepared names trees start tops → Keeps start end
    → ((later : Shared) → IsGrown end.shared later → FormsMean (definitions_of (tops_of (map datum_of trees))) later list.forms.items list.spans.items (tops_of (map datum_of trees)))
    → ((r : Refusal) → RefusedIn (tops_of (map datum_of trees)) r → ⊥) → AreTallied list.forms.items end → end.shared.globals.items ≡ all_settled start.shared.globals.items list.forms.items
    → IsFinished end.shared list unit spans → IsCoreOf trees unit spans
core_made trees names start end tops list unit spans text p keeps meant none tallied settled f =
    let m = meant unit.shared f.grown in
    let n : FormsMean (definitions_of (tops_of (map datum_of trees))) unit.shared unit.forms.items spans (tops_of (map datum_of trees)) = rw (f.forms, f.spans_are) m in
    let same : unit.shared.names ≡ names = f.grown.names ∙ keeps.shared.names ∙ p.names_are in
    let globals : map (λ g. g.name) start.shared.globals.items ≡ map (λ g. g.name) unit.shared.globals.items =
    sym keeps.globals ∙ ap (λ l. map (λ g. g.name) l) (sym f.globals) in
    let ops : start.shared.ops.items ≡ unit.shared.ops.items = sym keeps.ops ∙ sym f.ops in
    let parts = unit_parts trees names start end tops list unit spans text p keeps none tallied settled f n in
    record {
      whole = whole_unit unit end.next (definitions_of (tops_of (map datum_of trees))) spans (tops_of (map datum_of trees)) parts n;
      forms = n;
      globals = rw same (p.globals ∙ same_globals names start.shared.globals.items unit.shared.globals.items globals);
      ops = rw same (p.ops ∙ ap (λ l. map (λ o. slice_get names o.name.0) l) ops);
      strings_once = strings_once unit end.next parts;
    }

-- ---- the first refusal

pub first_refusal : (trees : List Tree) (r : Refusal) (now : Option Refusal) → now ≡ Some r
    → IsFirstOf (RefusedAmong (definitions_of (tops_of (map datum_of trees))) (tops_of (map datum_of trees))) now → IsFirstRefusal trees r
first_refusal trees r None e h = absurd (let x : ⊥ = cc in x)
first_refusal trees r (Some f) e h = subst (λ x. IsFirstRefusal trees x) (same_Some f r e) (record { stands = h.0; first = h.1 })

pub nothing_refused : (trees : List Tree) (now : Option Refusal) → now ≡ None
    → IsFirstOf (RefusedAmong (definitions_of (tops_of (map datum_of trees))) (tops_of (map datum_of trees))) now
    → (r : Refusal) → RefusedAmong (definitions_of (tops_of (map datum_of trees))) (tops_of (map datum_of trees)) r → ⊥
nothing_refused trees None e h = h
nothing_refused trees (Some f) e h = absurd (let x : ⊥ = cc in x)

pub refused_alike : (trees : List Tree) (a b : Refusal) → IsFirstRefusal trees a → IsFirstRefusal trees b → (a.kind ≡ b.kind) × (a.span.start ≡ b.span.start)
refused_alike trees a b f g = (
  same_kind a.kind b.kind (same_number a.span.start b.span.start (number a.kind) (number b.kind) (f.first b g.stands) (g.first a f.stands)),
  same_start a.span.start b.span.start (number a.kind) (number b.kind) (f.first b g.stands) (g.first a f.stands),
)

-- ---- what it comes to

abbrev Made : Type 0
Made = Result (UnitCore × Vec (List Span)) SyntaxFault

pub outcome_core : (trees : List Tree) (r : Made) → IsOutcome trees r → IfOk r (λ x. IsCoreOf trees x.0 x.1.items)
outcome_core trees (Ok x) h = h.0
outcome_core trees (Err faults.Memory) h = tt
outcome_core trees (Err (faults.Fault k s)) h = tt

pub outcome_accepted : (trees : List Tree) (r : Made) (x : Refusal) → IsOutcome trees r → RefusedIn (tops_of (map datum_of trees)) x → IfOk r (λ y. ⊥)
outcome_accepted trees (Ok y) x h i = h.1 x i
outcome_accepted trees (Err faults.Memory) x h i = tt
outcome_accepted trees (Err (faults.Fault k s)) x h i = tt

pub outcome_fault : (trees : List Tree) (r : Made) (k : SyntaxKind) (s : Span) → IsOutcome trees r → r ≡ Err (faults.Fault k s) → IsFirstRefusal trees (refusal k s)
outcome_fault trees r k s h e = let P : Made → Type 0 = λ x. IsOutcome trees x in subst P e h

pub outcome_refused : (trees : List Tree) (r : Made) (x : Refusal) → IsOutcome trees r → IsFirstRefusal trees x → IsRefusedWith x r
outcome_refused trees (Ok y) x h f = h.1 x f.stands
outcome_refused trees (Err faults.Memory) x h f = tt
outcome_refused trees (Err (faults.Fault k s)) x h f = refused_alike trees (refusal k s) x h f

pub outcome_bytes : (r : Made) (names : List (List ℕ)) (read : ℕ) → IfOk r (λ x. x.0.shared.names ≡ names) → IfOk r (λ x. sum_by length x.0.shared.strings.items ≤ read)
    → IfOk r (λ x. sum_by length x.0.shared.names + sum_by length x.0.shared.strings.items ≤ sum_by length names + read + 2 ^ 12)
outcome_bytes (Ok x) names read n h = let s : sum_by length x.0.shared.names ≡ sum_by length names = ap (λ l. sum_by length l) n in omega (arith, s, h)
outcome_bytes (Err f) names read n h = tt
