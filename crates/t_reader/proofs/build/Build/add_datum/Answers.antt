use Rattle.std.proofs.Common.{◌≡◌, ◌∷◌, [], ◌++◌, refl, arith, ap, ◌∙◌, length, take, ◌-◌, min}
use Rattle.std.proofs.lemmas.List.{length-take}
use Rattle.t_reader.specs.declared.build.Frame.TheVariants as frame
use Rattle.t_reader.proofs.Delivering.{marks_step, rests}
use Rattle.t_reader.proofs.Wholeness.{popped, takes_frame, ends_tail, puts_item}
use Rattle.t_reader.proofs.build.Build.add_datum.Goals as goal

pub marks-preserved : goal.marks-preserved
marks-preserved c =
    let fewer : length c.pop.new.self.items ≡ min (c.marks.self.frames.len - 1) (length c.marks.self.frames.items) =
    ap length c.pop.ensures.rest ∙ length-take (c.marks.self.frames.len - 1) c.marks.self.frames.items in
    record {
      lighter = omega (arith, c.in_ok-node.ensures.weight, c.pop.new.self.ok.0, c.marks.self.frames.ok.0, fewer, c.in-Some.ensures.some, c.marks.invariant.lighter);
      smaller = omega (arith, c.in_ok-node.ensures.bulk, c.marks.invariant.smaller);
      names = c.in_ok-node.ensures.rest.names_same ∙ c.marks.invariant.names;
      well = λ w.
          c.in_ok-node.ensures.well
          (takes_frame (c.marks.node ∷ []) (frame.Quote c.in-Some.mark c.in-Some.word) c.marks.self (record c.marks.self { frames = c.pop.new.self }) refl refl refl
          (popped c.marks.self.frames.items c.pop.new.self.items c.marks.self.frames.len (frame.Quote c.in-Some.mark c.in-Some.word) c.pop.ensures.rest c.marks.self.frames.ok.0 c.in-Some.ensures.found)
          (c.marks.invariant.well w));
      delivers = λ text target d.
          let e = c.marks.invariant.delivers text target d in
          marks_step text target c.marks.self (record c.marks.self { frames = c.pop.new.self }) c.quoted.new.self c.in-Some.mark c.in-Some.word c.marks.node c.in_ok-node.node c.args.end
          c.in-Some.ensures.found
          (c.pop.ensures.rest ∙ ap (λ n. take (n - 1) c.marks.self.frames.items) c.marks.self.frames.ok.0)
          (record { names_same = refl; nodes_same = refl; items_same = refl })
          c.in_ok-node.ensures.rest c.in_ok-node.ensures.grows c.in_ok-node.ensures.tree
          e.before e.form e.reached e.takes e.sound e.held e.end_is e.leads;
    }

pub returns-clause-names : goal.returns-clause-names
returns-clause-names c = c.in_ok-end_tail.ensures.rest.names_same ∙ c.marks.invariant.names

pub returns-clause-well : goal.returns-clause-well
returns-clause-well c w =
    puts_item [] c.marks.node c.end_tail.new.self (record c.end_tail.new.self { items = c.push.new.self }) refl refl c.in_ok-push.ensures.items refl
    (ends_tail (c.marks.node ∷ []) c.marks.self c.end_tail.new.self c.in_ok-end_tail.ensures.rest.names_same c.in_ok-end_tail.ensures.rest.nodes_same c.in_ok-end_tail.ensures.rest.items_same c.in_ok-end_tail.ensures.frames
    (c.marks.invariant.well w))

pub returns-clause-reached : goal.returns-clause-reached
returns-clause-reached c text target d =
    let e = c.marks.invariant.delivers text target d in
    rests text target c.marks.self (record c.end_tail.new.self { items = c.push.new.self }) c.marks.node
    c.in_default.ensures.none c.in_ok-end_tail.ensures.frames
    (c.in_ok-push.ensures.items ∙ ap (λ is. is ++ c.marks.node ∷ []) c.in_ok-end_tail.ensures.rest.items_same)
    c.in_ok-end_tail.ensures.rest.names_same c.in_ok-end_tail.ensures.rest.nodes_same
    e.before e.form e.reached e.takes e.held e.leads
