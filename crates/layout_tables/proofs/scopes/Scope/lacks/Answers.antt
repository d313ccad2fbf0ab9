use Rattle.std.proofs.Common.{subst, ap, ◌∙◌, map, reverse}
use Rattle.layout_tables.specs.Sketches.{IsNotHeld}
use Rattle.layout_tables.proofs.Basics.{not_held, pair_of}
use Rattle.layout_tables.proofs.scopes.Scope.lacks.Goals as goal

pub returns : goal.returns
returns c = λ t. subst (λ vars. IsNotHeld vars c.args.var.0) (ap (λ (hs : _). map pair_of (reverse hs)) c.deref-held-items.ensures.value ∙ c.self.view_is)
    (not_held c.deref-held-items.result.now c.loop-held.held-index c.args.var.0 c.loop-held-test.false c.loop-held.invariant)
