use Rattle.std.proofs.Common.{◌≡◌, List, Option, sym, ap, subst, ◌∙◌}
use Rattle.t_forms.specs.declared.scope.Defined.{Defined}
use Rattle.t_forms.specs.Held.{vars_of, IsTable, Around}
use Rattle.t_forms.specs.Lookup.{var_bound}
use Rattle.t_forms.proofs.Bindings.{meaning_bound, meaning_beyond, made_means, written_means}
use Rattle.t_forms.proofs.scope.Scope.meaning.Goals as goal

pub returns-in-Some : goal.returns-in-Some
returns-in-Some c n scope apart is around =
    let looked : c.var.result ≡ var_bound c.args.self.now.locals c.args.name = rw (sym c.self.view_is) c.var.ensures in
    meaning_bound c.args.names.now c.args.self.now scope c.args.name n c.var.result c.in-Some.var apart is around looked c.in-Some.is

pub returns-in-Made : goal.returns-in-Made
returns-in-Made c n scope apart is around =
    let looked : c.var.result ≡ var_bound c.args.self.now.locals c.args.name = rw (sym c.self.view_is) c.var.ensures in
    meaning_beyond c.args.names.now c.args.self.now scope c.args.name n c.var.result _ apart is around looked c.in-None.is
    (made_means c.args.names.now c.args.self.now scope c.args.name n c.in-Made.field-0 is around c.in-Made.is)

pub returns-in-Written : goal.returns-in-Written
returns-in-Written c n scope apart is around =
    let looked : c.var.result ≡ var_bound c.args.self.now.locals c.args.name = rw (sym c.self.view_is) c.var.ensures in
    let seen : IsTable c.args.names.now c.as_slice.result.now scope.defined =
    subst (λ (t : List (Option Defined)). IsTable c.args.names.now t scope.defined) (sym (c.as_slice.ensures.value ∙ ap (λ (a : Around). a.table) c.self.view_is)) around.table in
    meaning_beyond c.args.names.now c.args.self.now scope c.args.name n c.var.result c.written_meaning.result apart is around looked c.in-None.is
    (written_means c.args.names.now c.args.self.now scope c.args.name n c.in-Written.place c.written_meaning.result is c.in-Written.is
    (λ text at. c.written_meaning.ensures text scope.defined (vars_of c.args.self.now) at seen))
