use Rattle.std.proofs.Common.{arith, sym, length, subst}
use Rattle.t_reader.specs.declared.build.Build.{Build}
use Rattle.t_reader.specs.Grammar.{outside, none}
use Rattle.t_reader.specs.Steps.{step}
use Rattle.t_reader.specs.Build.{Reached}
use Rattle.t_reader.specs.Unit.{IsUnitOf, IsWhole}
use Rattle.t_reader.proofs.GrammarLaws.{ended}
use Rattle.t_reader.proofs.Reading.{unit_of, moved, goes_on, is_fault, is_unit, is_whole}
use Rattle.t_reader.proofs.reader.read_text.Goals as goal

pub tokens-init : goal.tokens-init
tokens-init c = record {
  light = c.in_ok-build.ensures.weight;
  within = omega arith;
  is_at = record {
    before = outside none;
    reached = c.in_ok-build.ensures.reached c.args.text.now;
    sound = tt {0};
    leads = λ ts begins. begins;
    well = c.in_ok-build.ensures.well;
    names_are = c.in_ok-build.ensures.names;
    small = omega (arith, c.in_ok-build.ensures.bulk);
  };
}

pub tokens-preserved : goal.tokens-preserved
tokens-preserved c =
    let t = c.token_at-token.result in
    let lies = moved t.word c.tokens.from (length c.args.text.now) t.span.start t.span.end c.token_at-token.ensures.moves.moves c.in_default.not-End c.in_ok-add_token.ensures.good in
    record {
      light = omega (arith, c.in_ok-add_token.ensures.weight, c.tokens.invariant.light, lies.0, lies.1);
      within = lies.2;
      is_at = goes_on c.args.text.now c.tokens.from c.tokens.build c.add_token.new.build t c.tokens.invariant.is_at c.token_at-token.ensures.token
          c.in_ok-add_token.ensures.gives c.in_ok-add_token.ensures.well c.token_at-token.ensures.fits.fits c.in_ok-add_token.ensures.names c.in_ok-add_token.ensures.bulk
          c.in_default.not-End lies.0 lies.1;
    }

pub returns-in_err-add_token-clause-fault : goal.returns-in_err-add_token-clause-fault
returns-in_err-add_token-clause-fault c kind span e =
    let t = c.token_at-token.result in
    let h = rw e at c.from_residual-in_err-add_token.ensures in
    is_fault (Unit {0}) c.args.text.now c.tokens.from c.tokens.build t c.in_err-add_token.field-0.0 (λ b. Reached c.args.text.now (step b t.word t.span) c.add_token.new.build) kind span
    c.tokens.invariant.is_at c.token_at-token.ensures.token c.in_err-add_token.ensures.gives (sym h.1)

pub returns-in-End-clause-data : goal.returns-in-End-clause-data
returns-in-End-clause-data c =
    let a = c.tokens.invariant.is_at in
    let P : Build → Type 0 = λ b. IsUnitOf c.args.text.now (unit_of b) in
    subst P (sym (c.in_ok-add_token.ensures.ends c.in-End.is))
    (is_unit c.args.text.now c.tokens.from c.tokens.build c.token_at-token.result a c.tokens.invariant.within c.token_at-token.ensures.token c.in-End.is
    (ended a.before c.token_at-token.result.word c.token_at-token.result.span c.in-End.is (c.in_ok-add_token.ensures.gives a.before a.reached a.sound).0))

pub returns-in-End-clause-whole : goal.returns-in-End-clause-whole
returns-in-End-clause-whole c =
    let a = c.tokens.invariant.is_at in
    let P : Build → Type 0 = λ b. IsWhole (unit_of b) in
    subst P (sym (c.in_ok-add_token.ensures.ends c.in-End.is))
    (is_whole c.args.text.now c.tokens.from c.tokens.build a (omega (arith, c.tokens.invariant.light, c.tokens.invariant.within, c.tokens.build.nodes.ok.0, c.requires))
    (ended a.before c.token_at-token.result.word c.token_at-token.result.span c.in-End.is (c.in_ok-add_token.ensures.gives a.before a.reached a.sound).0))
