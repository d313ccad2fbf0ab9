use Rattle.word_trees.proofs.Ends.{ask_holds, ask_fails, jump_enters, enter_enters}
use Rattle.word_trees.proofs.laws.ends_lead.Goals as goal

pub returns-clause-holds : goal.returns-clause-holds
returns-clause-holds c = ask_holds

pub returns-clause-fails : goal.returns-clause-fails
returns-clause-fails c = ask_fails

pub returns-clause-jumps : goal.returns-clause-jumps
returns-clause-jumps c = jump_enters

pub returns-clause-enters : goal.returns-clause-enters
returns-clause-enters c = enter_enters
