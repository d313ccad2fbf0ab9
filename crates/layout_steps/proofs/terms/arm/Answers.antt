use Rattle.std.proofs.Common.{sym, subst, ◌∷◌, []}
use Rattle.layout_relation.specs.Contexts.{ArmOf}
use Rattle.layout_relation.specs.Laid.{IsFor}
use Rattle.layout_tables.specs.declared.requests.Request.TheVariants as For
use Rattle.layout_tables.specs.Sketches.{AreBelow, Ever, context_at}
use Rattle.layout_tables.proofs.Growing.{asked, grows_asked}
use Rattle.layout_tables.proofs.Adding.{adds_asked}
use Rattle.layout_tables.specs.Additions.{Adds}
use Rattle.layout_steps.proofs.terms.arm.Goals as goal

pub returns : goal.returns
returns c =
    let new = c.request.new.self in
    let r = For.ArmOf c.in_ok-scope.scope c.in_ok-site.site c.args.term in (
      subst (λ n. Adds c.args.work.now new [] (n ∷ [])) (sym c.in_ok-block.ensures.place) (adds_asked c.args.work.now new r c.in_ok-block.ensures.requests c.in_ok-block.ensures.next
          (subst (AreBelow new.next) (sym c.in_ok-scope.ensures) (subst (λ n. AreBelow n c.args.scope.now) (sym c.in_ok-block.ensures.next) c.requires))),
      λ w. (
        (grows_asked w c.args.work.now new r c.in_ok-block.ensures.requests c.in_ok-block.ensures.templates c.in_ok-block.ensures.next, c.in_ok-block.ensures.next),
        subst (λ s. Ever w new (λ v. IsFor v c.in_ok-block.block (ArmOf (context_at w s c.args.site.now) c.args.term))) c.in_ok-scope.ensures
            (subst (λ a. Ever w new (λ v. IsFor v c.in_ok-block.block (ArmOf (context_at w c.in_ok-scope.scope a) c.args.term))) c.in_ok-site.ensures (asked w c.args.work.now new r c.in_ok-block.block c.in_ok-block.ensures.requests c.in_ok-block.ensures.place)),
      ),
    )
