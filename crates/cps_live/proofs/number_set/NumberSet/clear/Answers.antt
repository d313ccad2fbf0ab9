use Rattle.std.proofs.Common.{◌∙◌, ◌&&◌, not, sym, ap, subst, arith}
use Rattle.cps_walk.specs.Marked.{is_marked}
use Rattle.cps_ir.specs.Reaches.{is_in}
use Rattle.cps_live.specs.Gathered.{AreMarked}
use Rattle.cps_live.proofs.MarkLemmas.{none_marked}
use Rattle.cps_live.proofs.number_set.NumberSet.clear.Goals as goal

pub invariant_of-self : goal.invariant_of-self
invariant_of-self c =
    subst (AreMarked c.unmark_all.new.marks.items) (sym c.clear.ensures.items)
    (record {
      once = λ i j d lt m. absurd (omega (arith, m));
      marked = none_marked c.self.inside.marks.items c.unmark_all.new.marks.items c.self.inside.items.items c.self.invariant
          (λ m. c.unmark_all.ensures m ∙ ap (λ ns. is_marked c.self.inside.marks.items m && not (is_in ns m)) c.deref.ensures.value);
    })
