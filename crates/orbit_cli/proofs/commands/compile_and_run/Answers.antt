use Rattle.std.proofs.Common.{ℕ, List, [], ◌∷◌, refl, subst}
use Rattle.orbit_cli.specs.Changes.{change, Keeps}
use Rattle.orbit_cli.proofs.Outcomes.{kept, unchanged, unkept, go_refused, went}
use Rattle.orbit_cli.proofs.Served.{if_served, refused_serves, serves_both}
use Rattle.orbit_cli.proofs.commands.compile_and_run.Goals as goal

pub returns-in-Ok-keep-clause-outcome : goal.returns-in-Ok-keep-clause-outcome
returns-in-Ok-keep-clause-outcome g c =
    let put = subst (λ (bytes : List ℕ). Keeps g.F.Folder (change c.prepare.new.folder c.keep.new.folder) c.args.img.now bytes) c.deref.ensures.value c.in-Ok-keep.ensures.kept in
    let compiled = kept g.F.Folder c.args.folder.now c.prepare.new.folder c.keep.new.folder c.in-Ok.ensures.same c.in-Ok.ensures.keeps c.args.src.now _ c.in-Ok.ensures.translated c.args.img.now put in
    went g.F.Folder g.S.Sink g.E.Sink (change c.args.folder.now c.keep.new.folder) (change c.args.out.now c.finish.new.out) (change c.args.err.now c.finish.new.err) c.args.src.now c.args.img.now c.args.bounds c.requires _ compiled _ c.in-Ok.ensures.loaded c.finish.result c.finish.ensures.reports

pub returns-clause-outcome : goal.returns-clause-outcome
returns-clause-outcome g c =
    let same = unchanged g.F.Folder c.args.folder.now c.prepare.new.folder c.keep.new.folder c.in-Ok.ensures.same c.in-Ok.ensures.keeps c.args.src.now _ c.in-Ok.ensures.translated c.in-Err-keep.ensures.same in
    let cause = unkept g.F.Folder c.args.folder.now c.prepare.new.folder c.keep.new.folder c.in-Ok.ensures.same c.in-Ok.ensures.keeps c.args.src.now _ c.in-Ok.ensures.translated c.in-Err-keep.refusal c.in-Err-keep.ensures.refused in
    go_refused g.F.Folder g.S.Sink g.E.Sink (change c.args.folder.now c.keep.new.folder) (change c.args.out.now c.args.out.now) (change c.args.err.now c.refuse-in-Err-keep.new.err) c.args.src.now c.args.img.now c.args.bounds c.in-Err-keep.refusal c.refuse-in-Err-keep.result refl same cause c.refuse-in-Err-keep.ensures.status c.refuse-in-Err-keep.ensures.noted

pub returns-in-Ok-keep-clause-served : goal.returns-in-Ok-keep-clause-served
returns-in-Ok-keep-clause-served g c = if_served c.finish.result _ (serves_both g.F.Folder c.args.folder.now c.prepare.new.folder c.keep.new.folder c.in-Ok.ensures.served c.in-Ok-keep.ensures.served)

pub returns-clause-served : goal.returns-clause-served
returns-clause-served g c = refused_serves c.in-Err-keep.refusal c.refuse-in-Err-keep.result _ c.refuse-in-Err-keep.ensures.status

pub returns-clause-taken : goal.returns-clause-taken
returns-clause-taken g c = refused_serves c.in-Err-keep.refusal c.refuse-in-Err-keep.result _ c.refuse-in-Err-keep.ensures.status

pub returns-in-Err-clause-served : goal.returns-in-Err-clause-served
returns-in-Err-clause-served g c = refused_serves c.in-Err.refusal c.refuse.result _ c.refuse.ensures.status

pub returns-in-Err-clause-taken : goal.returns-in-Err-clause-taken
returns-in-Err-clause-taken g c = refused_serves c.in-Err.refusal c.refuse.result _ c.refuse.ensures.status

pub returns-in-Ok-keep-clause-asks : goal.returns-in-Ok-keep-clause-asks
returns-in-Ok-keep-clause-asks g c = g.met.F.Folder.fetched_both c.args.folder.now c.prepare.new.folder c.keep.new.folder (c.args.src.now ∷ []) [] c.in-Ok.ensures.asks c.in-Ok-keep.ensures.asks

pub returns-clause-asks : goal.returns-clause-asks
returns-clause-asks g c = g.met.F.Folder.fetched_both c.args.folder.now c.prepare.new.folder c.keep.new.folder (c.args.src.now ∷ []) [] c.in-Ok.ensures.asks c.in-Err-keep.ensures.asks
