use Rattle.t_reader.proofs.Lexemes.{token_at-fits}
use Rattle.t_reader.proofs.Moves.{token_at-moves}
use Rattle.t_reader.proofs.lexer.token_at.Goals as goal

pub returns-clause-moves : goal.returns-clause-moves
returns-clause-moves c = rw c.found_token.ensures (token_at-moves c.args.text.now c.args.from c.requires.from_in_text)

pub returns-clause-fits : goal.returns-clause-fits
returns-clause-fits c = rw c.found_token.ensures (token_at-fits c.args.text.now c.args.from)
