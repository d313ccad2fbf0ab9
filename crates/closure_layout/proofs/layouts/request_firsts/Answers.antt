use Rattle.std.proofs.Common.{rules, refl, length, []}
use Rattle.layout_tables.specs.declared.requests.Request.TheVariants as For
use Rattle.layout_tables.proofs.Adding.{adds_none, adds_more, adds_asked}
use Rattle.closure_layout.proofs.Finishing.{stand_none, stand_more, none_needed}
use Rattle.closure_layout.proofs.layouts.request_firsts.Goals as goal

pub loop-place-init : goal.loop-place-init
loop-place-init c = record { stand = stand_none c.args.tables.now c.args.work.now.requests.items c.requires; adds = adds_none c.args.work.now }

pub loop-place-preserved : goal.loop-place-preserved
loop-place-preserved c = record {
  stand = stand_more c.args.tables.now c.loop-place.place c.in-Ok.l c.loop-place.work.requests.items c.request.new.self.requests.items c.loop-place.invariant.stand (search rules) c.in_ok-request.ensures.requests
      (none_needed c.args.tables.now c.in-Ok.l (length c.lam_needs-count.result.now) c.lam_needs-count.result.now c.lam_needs-count.ensures refl (search rules));
  adds = adds_more c.args.work.now c.loop-place.work c.request.new.self [] [] [] [] c.loop-place.invariant.adds (adds_asked c.loop-place.work c.request.new.self (For.CodeOf c.in-Ok.l) c.in_ok-request.ensures.requests c.in_ok-request.ensures.next tt);
}
