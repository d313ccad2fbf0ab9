-- From what stands before a token to what stands before the next one.
use Rattle.t_base.specs.declared.basics.Span.{Span}
use Rattle.t_reader.specs.declared.token.Word.{Word}
use Rattle.t_reader.specs.declared.token.Word.TheVariants as word
use Rattle.t_reader.specs.Grammar.{Form, single, listed, dotted, quoted, none, more, Before, outside, in_list, after_dot, after_tail, after_mark}

-- what stands before the next token once a form has ended
abbrev pub put : Before → Form → Before
put (outside fs) f = outside (more fs f)
put (in_list b o fs) f = in_list b o (more fs f)
put (after_dot b o fs g d) f = after_tail b o fs g d f
put (after_tail b o fs g d t) f = after_tail b o fs g d t
put (after_mark b m) f = put b (quoted m f)

abbrev pub closed : Before → Span → Before
closed (in_list b o fs) s = put b (listed o fs s)
closed (after_tail b o fs g d t) s = put b (dotted o fs g d t s)
closed b s = b

abbrev pub with_dot : Before → Span → Before
with_dot (in_list b o (more fs g)) s = after_dot b o fs g s
with_dot b s = b

abbrev pub step : Before → Word → Span → Before
step b word.Open s = in_list b s none
step b word.Close s = closed b s
step b word.Quote s = after_mark b s
step b word.Dot s = with_dot b s
step b (word.Atom a) s = put b (single a s)
step b (word.Bad k) s = b
step b word.End s = b
