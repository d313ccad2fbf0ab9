use Rattle.std.proofs.Common.{◌∙◌, refl, []}
use Rattle.closure_layout.proofs.Owing.{all_see, is_layout}
use Rattle.layout_tables.specs.declared.requests.Request.TheVariants as For
use Rattle.layout_tables.specs.declared.requests.Work.{Work}
use Rattle.layout_tables.proofs.Adding.{adds_asked, adds_more}
use Rattle.closure_layout.proofs.layouts.lay_out.Goals as goal

pub request_firsts-requires : goal.request_firsts-requires
request_firsts-requires c = c.new.ensures.items

pub lay_blocks-requires-clause-sees : goal.lay_blocks-requires-clause-sees
lay_blocks-requires-clause-sees c =
    let zero : Work = record { requests = c.new.result; templates = c.new-2.result; next = 0 } in
    let one = c.request_firsts.new.work in
    let two = c.request.new.self in
    all_see zero two c.new.ensures.items
    (adds_more zero one two [] [] [] [] c.in_ok-request_firsts.ensures.adds (adds_asked one two (For.Begins c.from_vec.result c.new-4.result c.args.cps.entry) c.in_ok-entry.ensures.requests c.in_ok-entry.ensures.next tt))

pub returns : goal.returns
returns c =
    let zero : Work = record { requests = c.new.result; templates = c.new-2.result; next = 0 } in
    let one = c.request_firsts.new.work in
    let two = c.request.new.self in
    let three = c.lay_blocks.new.work in
    is_layout c.args.cps c.in_ok-tables.tables zero one two three _ c.in_ok-blocks.blocks.items c.from_vec.result c.new-4.result
    c.requires.whole c.distinct_arms_are_own.ensures c.in_ok-tables.ensures (c.if-not-are_small.ensures refl) c.in_ok-request_firsts.ensures.stand c.in_ok-entry.ensures.requests c.in_ok-entry.ensures.place (c.from_vec.ensures ∙ c.new-3.ensures.items) c.new-4.ensures c.in_ok-blocks.ensures refl refl refl c.requires.unassigned
    c.new.ensures.items (c.if-not-are_templates.ensures refl)
    (adds_more zero one two [] [] [] [] c.in_ok-request_firsts.ensures.adds (adds_asked one two (For.Begins c.from_vec.result c.new-4.result c.args.cps.entry) c.in_ok-entry.ensures.requests c.in_ok-entry.ensures.next tt))
