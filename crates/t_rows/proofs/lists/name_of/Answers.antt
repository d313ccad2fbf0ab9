use Rattle.t_rows.proofs.ListLemmas.{form_at, name-symbol, name-variable}
use Rattle.t_rows.proofs.lists.name_of.Goals as goal

pub returns-in-Sym : goal.returns-in-Sym
returns-in-Sym c names d h = name-symbol names c.args.forms.now c.args.key _ _ d (form_at c.in-Some.ensures c.in-Sym.is) h

pub returns-in-Variable : goal.returns-in-Variable
returns-in-Variable c names d h = name-variable names c.args.forms.now c.args.key _ _ d (form_at c.in-Some.ensures c.in-Variable.is) h
