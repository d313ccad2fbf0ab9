use Rattle.std.proofs.Common.{◌≡◌, ◌∙◌, ap, ℕ, rules, tests}
use Rattle.t_base.specs.declared.basics.Span.{Span}
use Rattle.t_rows.proofs.Growth.{items_held}
use Rattle.t_rows.proofs.making.has_span.Goals as goal

abbrev a_span : ℕ → ℕ → Span
a_span start end = record { start = start; end = end }

same_span : (u v : Span) → u.start ≡ v.start → u.end ≡ v.end → u ≡ v
same_span u v a b = ap (λ n. a_span n u.end) a ∙ ap (λ n. a_span v.start n) b

pub returns-then-cell-span : goal.returns-then-cell-span
returns-then-cell-span c names ds h e =
    let ends : c.in-Some.cell.now.span.end ≡ c.args.span.end = search (rules, tests) in
    items_held names c.args.forms.now c.args.items c.in-Some.cell.now c.args.span ds c.in-Some.ensures (same_span _ _ c.if-cell-span.true ends) h
