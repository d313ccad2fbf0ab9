use Rattle.std.proofs.Common.{rules}
use Rattle.orbit_cli.proofs.words.read_words.Goals.{in_default-via-then-words-lt2, in_default-via-else-words-lt2+else-words-lt3+else-words-lt4+then-words-lt5, in_default-via-else-words-lt2+else-words-lt3+else-words-lt4+else-words-lt5+else-words-lt6+else-words-lt7}
use Rattle.orbit_cli.proofs.Rows.{few, four, many}
use Rattle.orbit_cli.proofs.words.read_words.Goals as goal

pub returns-in_default-clause-value : goal.returns-in_default-clause-value
returns-in_default-clause-value c =
    elim c.in_default.branch [
      | in_default-via-then-words-lt2 w ↦ search (few, rules)
      | in_default-via-else-words-lt2+else-words-lt3+else-words-lt4+then-words-lt5 w ↦ search (four, rules)
      | in_default-via-else-words-lt2+else-words-lt3+else-words-lt4+else-words-lt5+else-words-lt6+else-words-lt7 w ↦ search (many, rules)
    ]
