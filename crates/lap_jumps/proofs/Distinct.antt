-- A block's parameters have homes of their own.
use Rattle.std.proofs.Common.{suc, inl, inr, List, ap, sym, ◌∙◌, arith}
use Rattle.std.proofs.lemmas.Bool.Decides.{leb_tells}
use Rattle.std.proofs.lemmas.Option.{get_or_from_slice_get, slice_get_within}
use Rattle.word_ir.specs.declared.placed.Home.{Home}
use Rattle.lap_items.specs.Homes.{number_of_home}
use Rattle.lap_items.specs.Ends.{homes_of_params}
use Rattle.lap_items.proofs.Distinct.{params_apart}
use Rattle.lap_jumps.specs.Jumps.{ParamsDistinct}

pub params_distinct : ParamsDistinct
params_distinct placed b block whole here i j h x y =
    let homes : List Home = homes_of_params placed.at.items block in
    let apart = params_apart placed whole b block here in
    let at_i = get_or_from_slice_get homes i h h x in
    let at_j = get_or_from_slice_get homes j h h y in
    elim (leb_tells (suc i) j) [
      | inl p ↦ absurd (apart.apart i j h p.1 (slice_get_within homes j h y) (ap number_of_home (at_i ∙ sym at_j)))
      | inr p ↦ elim (leb_tells (suc j) i) [
        | inl q ↦ absurd (apart.apart j i h q.1 (slice_get_within homes i h x) (ap number_of_home (at_j ∙ sym at_i)))
        | inr q ↦ omega (arith, p.1, q.1)
      ]
    ]
