use Rattle.std.specs.Prelude.{All}
use Rattle.std.proofs.Common.{◌≡◌, ◌<◌, ◌+◌, [], ◌++◌, length, length-append, ◌∷◌, reverse, sym, ap, ◌∙◌, subst, arith, rules}
use Rattle.cps_ir.specs.Parts.{walked}
use Rattle.cps_walk.specs.Walks.{root_places}
use Rattle.cps_walk.proofs.Walked.{IsOnItsWay, sets_out, next_there, goes_on, fewer_left, walked_there}
use Rattle.cps_walk.proofs.walks.walk.Goals as goal

pub loop-place-init : goal.loop-place-init
loop-place-init c = record {
  empty = c.in_ok-move_over.ensures.parts;
  way = subst (λ places. IsOnItsWay c.args.cps.now places c.move_over.new.waiting.items) (sym c.new-places.ensures.items)
      (sets_out c.args.cps.now c.move_over.new.waiting.items c.requires.formed
      (c.in_ok-move_over.ensures.waiting ∙ ap (λ ws. ws ++ reverse c.push_roots.new.parts.items) c.new-waiting.ensures.items
      ∙ ap (λ ps. [] ++ reverse ps) (c.in_ok-push_roots.ensures ∙ ap (λ ps. ps ++ root_places c.args.cps.now) c.new-parts.ensures.items)));
}

pub visit-requires-clause-there : goal.visit-requires-clause-there
visit-requires-clause-there c = next_there c.args.cps.now c.loop-place.places.items c.loop-place.waiting.items c.pop.new.self.items c.in-Some.place c.loop-place.invariant.way c.in-Some.ensures.items

pub loop-place-preserved : goal.loop-place-preserved
loop-place-preserved c = record {
  empty = c.in_ok-visit.ensures.parts;
  way = goes_on c.args.cps.now c.loop-place.places.items c.loop-place.waiting.items c.pop.new.self.items c.push.new.self.items c.visit.new.waiting.items c.in-Some.place c.loop-place.invariant.way
      c.in-Some.ensures.items c.in_ok-push.ensures.items c.in_ok-visit.ensures.waiting;
}

pub loop-place-smaller : goal.loop-place-smaller
loop-place-smaller c =
    let more : length c.push.new.self.items ≡ length c.loop-place.places.items + 1 = ap length c.in_ok-push.ensures.items ∙ length-append c.loop-place.places.items (c.in-Some.place ∷ []) in
    let way = goes_on c.args.cps.now c.loop-place.places.items c.loop-place.waiting.items c.pop.new.self.items c.push.new.self.items c.visit.new.waiting.items c.in-Some.place c.loop-place.invariant.way
    c.in-Some.ensures.items c.in_ok-push.ensures.items c.in_ok-visit.ensures.waiting in
    let within = fewer_left c.args.cps.now c.push.new.self.items c.visit.new.waiting.items way in
    omega (arith, more, within)

pub returns-clause-there : goal.returns-clause-there
returns-clause-there c =
    let e : c.loop-place.places.items ≡ walked c.args.cps.now = search rules in
    subst (All (λ t. t < length c.args.cps.now.terms.items)) (sym e) (walked_there c.args.cps.now c.requires.formed)
