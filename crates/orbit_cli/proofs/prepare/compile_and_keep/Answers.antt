use Rattle.std.proofs.Common.{ℕ, List, [], ◌∷◌, Result, Ok, Err, subst}
use Rattle.std.specs.Prelude.{OnOk}
use Rattle.orbit_cli.specs.Changes.{change, Keeps}
use Rattle.orbit_cli.proofs.Outcomes.{kept}
use Rattle.orbit_cli.proofs.Served.{serves_both}
use Rattle.orbit_cli.proofs.prepare.compile_and_keep.Goals as goal

on_ok : {T D A B : Type 0} (r : Result T D) → (A → B) → OnOk r A → OnOk r B
on_ok (Ok x) leads h = leads h
on_ok (Err x) leads h = tt

pub returns-clause-compiled : goal.returns-clause-compiled
returns-clause-compiled g c =
    on_ok c.keep.result
    (λ k. (
      c.in_ok-bytes.bytes.items,
      kept g.F.Folder c.args.folder.now c.fetch_translated.new.folder c.keep.new.folder c.in_ok-bytes.ensures.same c.in_ok-bytes.ensures.keeps c.args.src.now _ c.in_ok-bytes.ensures.translated c.args.img.now
          (subst (λ (bytes : List ℕ). Keeps g.F.Folder (change c.fetch_translated.new.folder c.keep.new.folder) c.args.img.now bytes) c.deref.ensures.value k),
    ))
    c.keep.ensures.kept

pub returns-clause-served : goal.returns-clause-served
returns-clause-served g c =
    on_ok c.keep.result (λ k. serves_both g.F.Folder c.args.folder.now c.fetch_translated.new.folder c.keep.new.folder c.in_ok-bytes.ensures.served k) c.keep.ensures.served

pub returns-clause-asks : goal.returns-clause-asks
returns-clause-asks g c = g.met.F.Folder.fetched_both c.args.folder.now c.fetch_translated.new.folder c.keep.new.folder (c.args.src.now ∷ []) [] c.in_ok-bytes.ensures.asks c.keep.ensures.asks
