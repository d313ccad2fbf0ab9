use Rattle.std.proofs.Common.{◌≡◌, ◌∷◌, [], List, reverse, ap, subst, ◌∙◌}
use Rattle.std.proofs.lemmas.List.{reverse-append}
use Rattle.t_forms.specs.declared.locals.Binding.{Binding}
use Rattle.t_forms.specs.Lookup.{IsIndex}
use Rattle.t_forms.proofs.Indexing.{is_bound, bound_less}
use Rattle.t_forms.proofs.locals.Locals.unbind.Goals as goal

pub invariant_of-self : goal.invariant_of-self
invariant_of-self c =
    let parts : reverse c.self.inside.bindings.items ≡ c.in-Some.binding ∷ reverse c.pop.new.self.items =
    ap reverse c.in-Some.ensures.items ∙ reverse-append c.pop.new.self.items (c.in-Some.binding ∷ []) in
    let before = subst (λ (bs : List Binding). IsIndex bs c.self.inside.innermost.written.items c.self.inside.innermost.made.items) parts c.self.invariant in
    bound_less (reverse c.pop.new.self.items) c.self.inside.innermost.written.items c.self.inside.innermost.made.items c.set.new.self.written.items
    c.set.new.self.made.items c.in-Some.binding before
    (c.set.ensures
    (is_bound (reverse c.pop.new.self.items) c.self.inside.innermost.written.items c.self.inside.innermost.made.items c.in-Some.binding before))
