use Rattle.std.proofs.Common.{refl}
use Rattle.t_expand.proofs.NamingLemmas.{string_named}
use Rattle.t_expand.proofs.quoted.atom.Goals as goal

pub returns-in_ok-constant-in-Str-clause-named : goal.returns-in_ok-constant-in-Str-clause-named
returns-in_ok-constant-in-Str-clause-named c strings pairs h =
    let made = c.in_ok-constant-in-Str.ensures in
    string_named strings pairs c.args.shared.now _ c.in_ok-constant-in-Str.constant c.bytes.result.now made.pushed refl made.last h
