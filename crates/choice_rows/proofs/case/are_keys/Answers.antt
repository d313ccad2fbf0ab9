use Rattle.std.proofs.Common.{◌≡◌, ◌<◌, true, false, length, get_or, take, add-one, sym, ◌∙◌}
use Rattle.std.proofs.Math.Seq.{take-suc}
use Rattle.std.proofs.lemmas.List.{take_all}
use Rattle.choice_rows.proofs.CaseLemmas.{no_keys, one_key, no_key}
use Rattle.choice_rows.proofs.case.are_keys.Goals as goal

pub keys-init : goal.keys-init
keys-init c names = no_keys names c.args.forms.now

pub keys-preserved : goal.keys-preserved
keys-preserved c names =
    let below : c.keys.key-index < length c.args.keys.now = c.keys-test.true in
    let yes_ : c.is_key-is.result ≡ true = c.if-not-is.false in
    rw (add-one, take-suc c.args.keys.now c.keys.key-index 0 below)
    (one_key names c.args.forms.now (take c.keys.key-index c.args.keys.now) (get_or c.args.keys.now c.keys.key-index 0) (c.keys.invariant names)
    (λ d h. sym yes_ ∙ c.is_key-is.ensures names d h))

pub returns-then-not-is : goal.returns-then-not-is
returns-then-not-is c names ds h =
    let no_ : c.is_key-is.result ≡ false = c.if-not-is.true in
    sym (no_key names c.args.forms.now c.args.keys.now ds c.keys.key-index c.keys-test.true h (λ d k. sym no_ ∙ c.is_key-is.ensures names d k))

pub returns : goal.returns
returns c names ds h = sym ((rw (take_all c.keys.key-index c.args.keys.now c.keys-test.false) at (c.keys.invariant names)).are ds h)
