use Rattle.std.proofs.Common.{◌≡◌, ◌∷◌, sym, ◌∙◌, subst, List}
use Rattle.t_forms.specs.Data.{Datum}
use Rattle.t_forms.specs.Held.{Held}
use Rattle.t_rows.specs.Lists.{AreItems}
use Rattle.binding_rows.proofs.LocativeLemmas.{call_symbol, call_form}
use Rattle.binding_rows.proofs.locative.locative_of_list.Goals as goal

pub returns-then-is_symbol-clause-row : goal.returns-then-is_symbol-clause-row
returns-then-is_symbol-clause-row c names vars a es r =
    let cells = c.args.forms.now in
    let f = c.in-Some.ensures names (a ∷ es) r in
    let head : f.0 ≡ a = cc in
    let tail : f.1 ≡ es = cc in
    let h = subst (λ (d : Datum). Held names cells c.in-Some.operator d) head f.3 in
    rw (call_symbol c.args.span a es (sym (c.is_symbol.ensures names a h) ∙ c.if-is_symbol.true))
    (c.locative_of_symbol.ensures.row names vars a es h (subst (λ (ds : List Datum). AreItems names cells c.in-Some.behind ds) tail f.4))

pub returns-else-is_symbol-clause-row : goal.returns-else-is_symbol-clause-row
returns-else-is_symbol-clause-row c names vars a es r =
    let cells = c.args.forms.now in
    let f = c.in-Some.ensures names (a ∷ es) r in
    let head : f.0 ≡ a = cc in
    let h = subst (λ (d : Datum). Held names cells c.in-Some.operator d) head f.3 in
    rw (call_form c.args.span a es (sym (c.is_symbol.ensures names a h) ∙ c.if-is_symbol.false)) (c.locative_of_form.ensures.row names vars (a ∷ es) r)
