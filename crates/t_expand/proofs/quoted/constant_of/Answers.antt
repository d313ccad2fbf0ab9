use Rattle.std.proofs.Common.{subst}
use Rattle.t_expand.specs.Quoting.{Quotes}
use Rattle.t_expand.specs.declared.quoted.Quoting.TheVariants as quoting
use Rattle.t_expand.specs.Tallies.{AreNamedSoFar}
use Rattle.t_expand.proofs.NamingLemmas.{begun_named, all_named}
use Rattle.t_expand.proofs.QuotedLemmas.{begun, all_made, none_left, AddsConstants_refl, AddsConstants_trans}
use Rattle.t_expand.proofs.quoted.constant_of.Goals.{in-Datum+in_ok-next-in-Datum, in-Made+in-Some+in_ok-next-in-Some}
use Rattle.t_expand.proofs.quoted.constant_of.Goals as goal

pub data-init : goal.data-init
data-init c = record {
  adds = AddsConstants_refl c.args.shared.now;
  quotes = λ d h. begun c.args.shared.now c.args.forms.now c.new-waiting.result.items c.args.key d c.new-waiting.ensures.items h;
  named = λ strings pairs h. begun_named strings pairs c.args.shared.now c.new-waiting.result.items c.args.key c.new-waiting.ensures.items h;
}

pub data-preserved : goal.data-preserved
data-preserved c = elim c.match-next.branch [
  | in-Datum+in_ok-next-in-Datum w ↦
      rw w.shared-is (rw w.waiting-is (rw w.next-is (record {
        adds = AddsConstants_trans c.args.shared.now c.data.shared w.visit.new.shared c.data.invariant.adds w.in_ok-next-in-Datum.ensures.adds;
        quotes = λ d h. w.in_ok-next-in-Datum.ensures.quotes d (subst (λ n. Quotes c.data.shared c.args.forms.now c.data.waiting.items n d) w.in-Datum.is (c.data.invariant.quotes d h));
        named = λ strings pairs h. w.in_ok-next-in-Datum.ensures.named strings pairs
            (subst (λ n. AreNamedSoFar strings pairs c.data.waiting.items n c.data.shared) w.in-Datum.is (c.data.invariant.named strings pairs h));
      })))
  | in-Made+in-Some+in_ok-next-in-Some w ↦
      rw w.shared-is (rw w.waiting-is (rw w.next-is (record {
        adds = AddsConstants_trans c.args.shared.now c.data.shared w.deliver.new.shared c.data.invariant.adds w.in_ok-next-in-Some.ensures.adds;
        quotes = λ d h. w.in_ok-next-in-Some.ensures.quotes c.args.forms.now d
            (subst (λ l. Quotes c.data.shared c.args.forms.now l (quoting.Made w.in-Made.constant) d) w.in-Some.ensures.items
            (subst (λ n. Quotes c.data.shared c.args.forms.now c.data.waiting.items n d) w.in-Made.is (c.data.invariant.quotes d h)));
        named = λ strings pairs h. w.in_ok-next-in-Some.ensures.named strings pairs
            (subst (λ l. AreNamedSoFar strings pairs l (quoting.Made w.in-Made.constant) c.data.shared) w.in-Some.ensures.items
            (subst (λ n. AreNamedSoFar strings pairs c.data.waiting.items n c.data.shared) w.in-Made.is (c.data.invariant.named strings pairs h)));
      })))
]

pub returns-in-None-clause-constant : goal.returns-in-None-clause-constant
returns-in-None-clause-constant c d h =
    all_made c.data.shared c.args.forms.now c.data.waiting.items c.in-Made.constant d (none_left c.data.waiting.items _ c.data.waiting.ok.0 c.in-None.ensures.cases.0)
    (subst (λ n. Quotes c.data.shared c.args.forms.now c.data.waiting.items n d) c.in-Made.is (c.data.invariant.quotes d h))

pub returns-in-None-clause-named : goal.returns-in-None-clause-named
returns-in-None-clause-named c strings pairs h =
    all_named strings pairs c.data.shared c.data.waiting.items c.in-Made.constant (none_left c.data.waiting.items _ c.data.waiting.ok.0 c.in-None.ensures.cases.0)
    (subst (λ n. AreNamedSoFar strings pairs c.data.waiting.items n c.data.shared) c.in-Made.is (c.data.invariant.named strings pairs h))
