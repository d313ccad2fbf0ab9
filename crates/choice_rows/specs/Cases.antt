-- The keys and clauses of CASE.
use Rattle.std.specs.Prelude.{Bool, true, false, List, [], ◌∷◌}
use Rattle.t_forms.specs.declared.arena.Form.{Form}
use Rattle.t_forms.specs.declared.arena.Form.TheVariants as form
use Rattle.t_forms.specs.Data.{Datum}

abbrev pub is_key_form : Form → Bool
is_key_form (form.Fix z) = true
is_key_form (form.Char c) = true
is_key_form form.Nil = true
is_key_form form.True = true
is_key_form (form.Sym n) = true
is_key_form (form.Word w) = true
is_key_form _ = false

abbrev pub no_more : List Datum → Bool
no_more [] = true
no_more (c ∷ cs) = false
