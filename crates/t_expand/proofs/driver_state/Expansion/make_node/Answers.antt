use Rattle.std.proofs.Common.{◌≡◌, ◌∷◌, [], ◌∙◌, refl, sym, ap, false, true}
use Rattle.std.specs.Option.{is_some}
use Rattle.t_expand.proofs.QuotedLemmas.{AddsConstants_refl}
use Rattle.t_forms.proofs.Keeping.{extends_same}
use Rattle.t_expand.proofs.StepLemmas.{SameBut-Grows, same_around}
use Rattle.t_expand.proofs.MadeLemmas.{made_built, made_constant}
use Rattle.t_expand.proofs.driver_state.Expansion.make_node.Goals as goal

pub returns-then-is_some : goal.returns-then-is_some
returns-then-is_some c = record {
  made = record {
    scope = same_around c.unbind_all.new.scope _ c.unbind_all.ensures.locals c.unbind_all.ensures.table;
    first = refl;
    next = refl;
    grows = SameBut-Grows c.args.self.now _ (record { forms = refl; shared = refl; nodes = refl; first = refl });
    node = λ e. let h : false ≡ true = ap is_some (sym e) ∙ sym c.is_some.ensures ∙ c.if-is_some.true in absurd (cc);
  };
}

pub returns-in_ok-place-in-Constant : goal.returns-in_ok-place-in-Constant
returns-in_ok-place-in-Constant c =
    let more = c.in_ok-place-in-Constant.ensures in
    let made = c.in_ok-core-in-Constant.ensures in
    let constant = c.in_ok-constant-in-Constant.ensures in
    record {
      made = record {
        scope = same_around c.unbind_all.new.scope _ c.unbind_all.ensures.locals c.unbind_all.ensures.table;
        first = refl;
        next = refl;
        grows = record {
          cells = extends_same;
          shared = constant.adds;
          nodes = record { more = c.in_ok-core-in-Constant.core ∷ []; is = more.nodes };
          spans = record { more = c.args.state.now.span ∷ []; is = more.spans };
          first = λ e. e;
        };
        node = λ e. made_constant c.args.self.now _ c.args.state.now c.args.done.now _ c.in_ok-constant-in-Constant.constant c.in_ok-core-in-Constant.core c.in_ok-place-in-Constant.place c.in-Constant.is made.same made.none
            more.nodes more.spans more.place more.span_place constant.constant constant.named;
      };
    }

pub returns-in_ok-place-in_default : goal.returns-in_ok-place-in_default
returns-in_ok-place-in_default c =
    let more = c.in_ok-place-in_default.ensures in
    record {
      made = record {
        scope = same_around c.unbind_all.new.scope _ c.unbind_all.ensures.locals c.unbind_all.ensures.table;
        first = refl;
        next = refl;
        grows = record {
          cells = extends_same;
          shared = AddsConstants_refl c.args.self.now.shared;
          nodes = record { more = c.in_ok-core-in_default.core ∷ []; is = more.nodes };
          spans = record { more = c.args.state.now.span ∷ []; is = more.spans };
          first = λ e. e;
        };
        node = λ e. made_built c.args.self.now _ c.args.state.now c.args.done.now c.in_ok-core-in_default.core c.in_ok-place-in_default.place refl more.nodes more.spans more.place more.span_place
            c.in_ok-core-in_default.ensures;
      };
    }
