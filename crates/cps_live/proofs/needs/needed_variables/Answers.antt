use Rattle.std.specs.Prelude.{All}
use Rattle.std.specs.List.{flat_map}
use Rattle.std.proofs.Common.{◌≡◌, ◌∙◌, ℕ, ◌<◌, length, take, get_or, slice_get, Some, refl, sym, ap, subst, rules}
use Rattle.std.proofs.lemmas.List.{take_all}
use Rattle.std.proofs.lemmas.Option.{slice_get_read}
use Rattle.cps_ir.specs.Parts.{walked}
use Rattle.cps_ir.specs.Reaches.{is_in}
use Rattle.cps_live.specs.Gathered.{numbers, list_at}
use Rattle.cps_live.specs.Needs.{expansion, Meets}
use Rattle.cps_live.proofs.NeedLemmas.{no_table, none_needed, table_step, more_needed, all_needed, at_place}
use Rattle.cps_live.proofs.Passing.{none_is_met, met_next, known_at, known_bodies}
use Rattle.cps_live.proofs.needs.needed_variables.Goals as goal

pub loop-place-init : goal.loop-place-init
loop-place-init c = record {
  found = c.new-found.ensures;
  kinds = record { joins = c.in_ok-joins.ensures.joins; ks = c.in_ok-joins.ensures.ks };
  table = no_table c.args.cps.now c.in_ok-joins.joins.met c.in_ok-joins.joins.lists.items c.in_ok-joins.ensures.met;
  met = none_is_met c.args.cps.now c.in_ok-joins.joins.met;
  so_far = none_needed c.args.cps.now c.in_ok-at.at.items (search rules);
}

pub loop-place-preserved : goal.loop-place-preserved
loop-place-preserved c =
    let terms = c.args.cps.now.terms.items in
    let places = c.deref-place-items.result.now in
    let t = get_or places c.loop-place.place-index 0 in
    let joins = c.loop-place.joins in
    let all : places ≡ walked c.args.cps.now = c.deref-place-items.ensures.value ∙ c.in_ok-places.ensures.walked in
    let within = subst (All (λ n. n < length terms)) (sym c.deref-place-items.ensures.value) c.in_ok-places.ensures.there in
    let there : t < length terms = within c.loop-place.place-index 0 c.loop-place-test.true in
    let is : slice_get terms t ≡ Some c.index.result.now = slice_get_read terms (length terms) t c.index.result.now refl there c.index.ensures in
    let walks = at_place places (walked c.args.cps.now) c.loop-place.place-index 0 all c.loop-place-test.true in
    let meets = subst (λ fs. Meets joins.joins joins.ks joins.met c.meet.new.joins.met joins.lists.items c.meet.new.joins.lists.items fs c.index.result.now) c.deref-in-loop-place-2.ensures.value c.in_ok-meet.ensures.meets in
    record {
      found = c.in_ok-meet.ensures.found;
      kinds = record { joins = λ m. ap (λ js. is_in js m) c.in_ok-meet.ensures.joins ∙ c.loop-place.invariant.kinds.joins m; ks = λ m. ap (λ js. is_in js m) c.in_ok-meet.ensures.ks ∙ c.loop-place.invariant.kinds.ks m };
      table = table_step c.args.cps.now c.requires.formed joins.joins joins.ks joins.met c.meet.new.joins.met joins.lists.items c.meet.new.joins.lists.items c.in_ok-free.free t c.index.result.now c.loop-place.invariant.kinds c.loop-place.invariant.table c.in_ok-free.ensures
          walks is meets (known_bodies c.args.cps.now c.requires.formed joins.joins joins.ks joins.met c.loop-place.invariant.kinds places c.loop-place.place-index 0 all c.loop-place-test.true c.loop-place.invariant.met c.in_ok-free.free c.in_ok-free.ensures walks);
      met = met_next c.args.cps.now joins.joins joins.ks joins.met c.meet.new.joins.met joins.lists.items c.meet.new.joins.lists.items c.in_ok-free.free.at.items places c.loop-place.place-index 0 c.index.result.now c.loop-place-test.true is meets c.loop-place.invariant.met;
      so_far = more_needed c.args.cps.now c.requires.formed joins.joins joins.ks joins.met joins.lists.items c.loop-place.at.items _ c.in_ok-free.free places c.loop-place.place-index 0 t c.in_ok-vars.vars c.loop-place.invariant.kinds c.loop-place.invariant.table
          c.in_ok-free.ensures all c.loop-place-test.true refl c.loop-place.invariant.so_far
          (known_at c.args.cps.now c.requires.formed joins.joins joins.ks joins.met c.loop-place.invariant.kinds places c.loop-place.place-index 0 all c.loop-place-test.true c.loop-place.invariant.met c.in_ok-free.free c.in_ok-free.ensures walks)
          (subst (λ fs. (m : ℕ) → is_in (numbers c.in_ok-vars.vars) m ≡ is_in (flat_map (expansion joins.joins joins.ks joins.lists.items) (list_at fs t)) m) c.deref-in-loop-place.ensures.value c.in_ok-vars.ensures.vars)
          c.in_ok-vars.ensures.once there refl;
    }

pub returns : goal.returns
returns c =
    all_needed c.args.cps.now (take c.loop-place.place-index c.deref-place-items.result.now) (record { at = c.loop-place.at }) c.loop-place.invariant.so_far
    (take_all c.loop-place.place-index c.deref-place-items.result.now c.loop-place-test.false ∙ c.deref-place-items.ensures.value ∙ c.in_ok-places.ensures.walked)
