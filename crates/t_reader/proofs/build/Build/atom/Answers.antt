use Rattle.std.proofs.Common.{length, ap, arith}
use Rattle.t_reader.proofs.Wholeness.{string-le}
use Rattle.t_reader.proofs.build.Build.atom.Goals as goal

pub returns-in_ok-text-in-Str-clause-bulk : goal.returns-in_ok-text-in-Str-clause-bulk
returns-in_ok-text-in-Str-clause-bulk c = omega (arith, ap length c.in_ok-text-in-Str.ensures, string-le c.args.bytes.now)
