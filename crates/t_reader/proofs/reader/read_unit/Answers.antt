use Rattle.t_reader.proofs.Reading.{refusal, acceptance}
use Rattle.t_reader.proofs.reader.read_unit.Goals as goal

pub returns-clause-refused : goal.returns-clause-refused
returns-clause-refused c f first = refusal c.args.text.now c.read_text.result f c.read_text.ensures.data c.read_text.ensures.fault first

pub returns-clause-accepted : goal.returns-clause-accepted
returns-clause-accepted c ts reads = acceptance c.args.text.now c.read_text.result ts c.read_text.ensures.fault reads
