-- A group of closures in front of the rest of a block.
use Rattle.std.proofs.Common.{◌≡◌, ℕ, zero, suc, ◌+◌, ◌<◌, ◌≤◌, ◌⊎◌, inl, inr, true, List, [], ◌∷◌, ◌++◌, length, Some, slice_get, refl, subst, arith}
use Rattle.std.specs.List.{AllByRecursion}
use Rattle.std.proofs.lemmas.List.{length-append}
use Rattle.t_base.specs.declared.basics.Var.{Var}
use Rattle.word_ir.specs.Stamps.{Stamped}
use Rattle.frame_ir.specs.declared.forms.Place.{Place}
use Rattle.frame_ir.specs.declared.forms.Place.TheVariants as At
use Rattle.frame_ir.specs.declared.forms.FrameOp.{FrameOp}
use Rattle.frame_ir.specs.declared.forms.FrameOp.TheVariants as Op
use Rattle.frame_ir.specs.declared.forms.FrameEnd.{FrameEnd}
use Rattle.frame_ir.specs.Values.{Value, Closure, Env}
use Rattle.frame_ir.specs.States.{State, Running, going}
use Rattle.frame_ir.specs.Groups.{Making, makings, behind, addressed, youngest_birth}
use Rattle.frame_ir.specs.Operations.{performed}
use Rattle.word_trees.specs.Trees.{Tree, Spells}
use Rattle.frame_words.proofs.Growing.{all_append}
use Rattle.frame_heap.specs.Codes.{make_group}
use Rattle.frame_heap.specs.Groups.{heap_records, AreOutside, closures_from, with_record, with_records}
use Rattle.frame_heap.specs.Laws.{AreKept, GoesOnOrFull, group_cost}
use Rattle.frame_heap.proofs.Making.{group_performs}
use Rattle.prim_holds.proofs.Keeping.{count_free}
use Rattle.word_selection.specs.Codes.{IsCode}
use Rattle.word_selection.specs.Selections.{IsClosureCode, IsOpNamed}
use Rattle.selection_steps.specs.Settings.{Setting, choice_of, layout_of, IsSound, AreFit, is_plain}
use Rattle.selection_steps.specs.Related.{ways_of, Runs, IsNew, Keeps}
use Rattle.selection_steps.specs.Led.{saved, Comes, Led}
use Rattle.selection_steps.proofs.Leading.{AreBelow, below_now, held_above, held_from, led_by}
use Rattle.selection_steps.proofs.Ending.{no_heap}
use Rattle.selection_steps.proofs.Groups.{IsPlaced, IsFitMaking, group_moves, costs_within, addresses_below, after_group, group_made}

-- ---- what is known of all closures of a group

placed_at : (m : Setting) (to : Var) (code : ℕ) (kept : List Var) (at : Place) → IsOpNamed (layout_of m) (Op.Closure to code kept at) → is_plain (Op.Closure to code kept at) ≡ true → IsPlaced m code at
placed_at m to code kept At.Heap named plain = tt
placed_at m to code kept (At.Frame slot) named plain = absurd (cc)
placed_at m to code kept At.Static named plain = named

pub all_fit : (m : Setting) (ops : List FrameOp) → AreFit m ops → AllByRecursion (IsFitMaking m) (makings ops)
all_fit m [] fits = tt
all_fit m (Op.Closure to code kept at ∷ ops) fits = (record { below = fits.0.binds.0; code = fits.0.shaped; placed_at = placed_at m to code kept at fits.0.named fits.0.plain }, all_fit m ops fits.1)
all_fit m (Op.Prim to b args ∷ ops) fits = tt
all_fit m (Op.ClosureGet to from slot ∷ ops) fits = tt
all_fit m (Op.FrameGet to slot ∷ ops) fits = tt
all_fit m (Op.Cell to value ∷ ops) fits = tt
all_fit m (Op.CellGet to cell ∷ ops) fits = tt
all_fit m (Op.CellSet cell value ∷ ops) fits = tt
all_fit m (Op.GlobalGet to global ∷ ops) fits = tt
all_fit m (Op.GlobalPut global value first ∷ ops) fits = tt
all_fit m (Op.Push kept back ∷ ops) fits = tt
all_fit m (Op.Pop ∷ ops) fits = tt
all_fit m (Op.CatchOpen to back ∷ ops) fits = tt
all_fit m (Op.CatchClose ∷ ops) fits = tt
all_fit m (Op.Object to template proc kept ∷ ops) fits = tt

pub behind_fit : (m : Setting) (ops : List FrameOp) → AreFit m ops → AreFit m (behind ops)
behind_fit m [] fits = fits
behind_fit m (Op.Closure to code kept at ∷ ops) fits = behind_fit m ops fits.1
behind_fit m (Op.Prim to b args ∷ ops) fits = fits
behind_fit m (Op.ClosureGet to from slot ∷ ops) fits = fits
behind_fit m (Op.FrameGet to slot ∷ ops) fits = fits
behind_fit m (Op.Cell to value ∷ ops) fits = fits
behind_fit m (Op.CellGet to cell ∷ ops) fits = fits
behind_fit m (Op.CellSet cell value ∷ ops) fits = fits
behind_fit m (Op.GlobalGet to global ∷ ops) fits = fits
behind_fit m (Op.GlobalPut global value first ∷ ops) fits = fits
behind_fit m (Op.Push kept back ∷ ops) fits = fits
behind_fit m (Op.Pop ∷ ops) fits = fits
behind_fit m (Op.CatchOpen to back ∷ ops) fits = fits
behind_fit m (Op.CatchClose ∷ ops) fits = fits
behind_fit m (Op.Object to template proc kept ∷ ops) fits = fits

all_above : (m : Setting) (t : ℕ) (ms : List Making) → (choice_of m).free ≤ t → AllByRecursion (IsFitMaking m) ms → AllByRecursion (λ x. x.to.0 < t) ms
all_above m t [] le fits = tt
all_above m t (x ∷ ms) le fits = (let lt = fits.0.below in omega (arith, lt, le), all_above m t ms le fits.1)

-- ---- what all states have

pub with_codes : (m : Setting) → List Closure → Type 0
with_codes m cs = AllByRecursion (λ c. IsClosureCode m.p c.code) cs

record_codes : (m : Setting) (at : Place) (c : Closure) (cs : List Closure) → IsClosureCode m.p c.code → AllByRecursion (λ d. IsClosureCode m.p d.code) cs → AllByRecursion (λ d. IsClosureCode m.p d.code) (with_record at c cs)
record_codes m At.Heap c cs is all = (is, all)
record_codes m (At.Frame slot) c cs is all = all
record_codes m At.Static c cs is all = all

codes_of_records : (m : Setting) (ms : List Making) (vss : List (List Value)) → AllByRecursion (IsFitMaking m) ms → AllByRecursion (λ d. IsClosureCode m.p d.code) (heap_records ms vss)
codes_of_records m [] vss fits = tt
codes_of_records m (x ∷ ms) [] fits = tt
codes_of_records m (x ∷ ms) (vs ∷ vss) fits = record_codes m x.at (record { code = x.code; captured = vs }) (heap_records ms vss) fits.0.code (codes_of_records m ms vss fits.1)

get_either : (P : Closure → Type 0) (old new : List Closure) (i : ℕ) (c : Closure) → AllByRecursion P new → slice_get (old ++ new) i ≡ Some c → (slice_get old i ≡ Some c) ⊎ P c
get_either P [] [] i c all at = absurd (cc)
get_either P [] (d ∷ new) zero c all at = inr (let same : d ≡ c = cc in subst P same all.0)
get_either P [] (d ∷ new) (suc i) c all at = elim (get_either P [] new i c all.1 at) [
  | inl x ↦ absurd (cc)
  | inr x ↦ inr x
]
get_either P (d ∷ old) new zero c all at = inl at
get_either P (d ∷ old) new (suc i) c all at = get_either P old new i c all at

news_from : (m : Setting) (n : ℕ) (cs : List Closure) → length m.p.blocks.items ≤ n → AllByRecursion (IsNew m) (closures_from n cs)
news_from m n [] le = tt
news_from m n (c ∷ cs) le = (le, news_from m (suc n) cs (omega (arith, le)))

pub records_kept : (m : Setting) (s : State) (cs : List Closure) → AllByRecursion (λ d. IsClosureCode m.p d.code) cs → Keeps m s → Keeps m (with_records s cs)
records_kept m s cs codes h = record {
  names_are = h.names_are;
  all = let le = h.all in let n = length-append s.closures cs in omega (arith, le, n);
  codes = λ i c at le. elim (get_either (λ d. IsClosureCode m.p d.code) s.closures cs i c codes at) [
    | inl old ↦ h.codes i c old le
    | inr new ↦ new
  ];
  news = all_append (IsNew m) s.made (closures_from (length s.closures) cs) h.news (news_from m (length s.closures) cs h.all);
  bare = h.bare;
}

-- ---- the group

module _ (m : Setting) (s : State) (to : Var) (code : ℕ) (kept : List Var) (at : Place) (ops : List FrameOp) (last : FrameEnd) (env : Env) (x : Stamped) (r : Runs m s (Op.Closure to code kept at ∷ ops) last env x) (k : Keeps m s) (none : saved s.doing ≡ 0)
    (t : ℕ) (above : (choice_of m).free ≤ t) (rest : Tree) (is : r.tree ≡ make_group (layout_of m) t (makings (Op.Closure to code kept at ∷ ops)) rest) (next : IsCode (choice_of m) m.p.shared (behind ops) last rest) where
  abbrev group : List Making
  group = makings (Op.Closure to code kept at ∷ ops)

  abbrev env2 : Env
  env2 = addressed group env s

  abbrev onward : State → State
  onward u = going (Running (behind ops) last env2) u

  lower : AreBelow (choice_of m).free env2
  lower = addresses_below m (length s.closures) (youngest_birth s) group env (all_fit m (Op.Closure to code kept at ∷ ops) r.fits) (below_now m r.escapes (ways_of m r.born) (choice_of m).free s env r.core r.holds)

  group_comes : (vss : List (List Value)) (y : Stamped) → GoesOnOrFull m.words m.sizes (layout_of m) r.escapes (ways_of m r.born) t s (with_records s (heap_records group vss)) env2 r.core rest y
      → Comes m s (onward (after_group s (heap_records group vss) (s.moves + group_moves group))) y
  group_comes vss y (inl o) = inl (
    records_kept m s (heap_records group vss) (codes_of_records m group vss (all_fit m (Op.Closure to code kept at ∷ ops) r.fits)) k,
    record {
      escapes = r.escapes;
      born = r.born;
      core = o.core;
      holds = count_free m.sizes (layout_of m) r.escapes (ways_of m r.born) (choice_of m).free (with_records s (heap_records group vss)) env2 o.core (s.moves + group_moves group) (Running (behind ops) last env2)
          (held_above m r.escapes (ways_of m r.born) t (with_records s (heap_records group vss)) env2 o.core (choice_of m).free lower o.holds);
      tree = rest;
      code = next;
      fits = behind_fit m ops r.fits.1;
      fits_end = r.fits_end;
      block = o.block;
      place = o.place;
      moves = o.moves;
      steps = o.steps;
      spelled = o.spelled;
      there = o.there;
    },
  )
  group_comes vss y (inr o) = inr (no_heap m s (with_records s (heap_records group vss)) (onward (after_group s (heap_records group vss) (s.moves + group_moves group))) y r.escapes t r.core r.holds.data_held refl o)

  group_step : (vss : List (List Value)) → AreKept env2 group vss → AreOutside (layout_of m) group vss → Led m s x (onward (after_group s (heap_records group vss) (s.moves + group_moves group)))
  group_step vss kepts outside =
      let cost = costs_within (makings ops) in
      led_by m s (onward (after_group s (heap_records group vss) (s.moves + group_moves group))) x
      (GoesOnOrFull m.words m.sizes (layout_of m) r.escapes (ways_of m r.born) t s (with_records s (heap_records group vss)) env2 r.core rest) (5 + group_cost group)
      (make_group (layout_of m) t group rest) r.core r.block r.place r.moves r.steps (subst (Spells m.words r.block r.place) is r.spelled) r.there
      (group_performs m.words m.sizes (layout_of m) r.escapes (ways_of m r.born) t s env r.core (record { to = to; code = code; kept = kept; at = at }) (makings ops) vss rest
      (held_from m r.escapes (ways_of m r.born) (choice_of m).free t s env r.core above r.holds) kepts outside (all_above m t group above (all_fit m (Op.Closure to code kept at ∷ ops) r.fits)))
      (λ y o. group_comes vss y o)
      (omega (arith, cost, none))

  pub group_led : IsSound (performed m.p (Op.Closure to code kept at ∷ ops) last env s) → Led m s x (performed m.p (Op.Closure to code kept at ∷ ops) last env s)
  group_led sound = group_made m (Led m s x) group env2 s onward (all_fit m (Op.Closure to code kept at ∷ ops) r.fits) sound (λ vss kepts outside sound2. group_step vss kepts outside)
