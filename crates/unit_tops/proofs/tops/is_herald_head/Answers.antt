use Rattle.std.proofs.Common.{◌≡◌, ℕ, ◌<◌, List, length, Option, Some, None, slice_get, sym, arith}
use Rattle.std.proofs.lemmas.Option.{slice_get_within}
use Rattle.t_base.specs.declared.basics.Name.{Name as NamePlace}
use Rattle.t_reader.specs.Grammar.{fix, char, nil, truth, string, symbol}
use Rattle.t_objects.specs.declared.words.Word.{Word}
use Rattle.t_objects.specs.Words.{word_named}
use Rattle.t_forms.specs.declared.arena.Form.{Form}
use Rattle.t_forms.specs.declared.arena.Form.TheVariants as form
use Rattle.t_forms.specs.declared.arena.Cell.{Cell}
use Rattle.t_forms.specs.Data.{Atom, given, variable, builtin, operation, listing, Datum, atom, cons}
use Rattle.t_forms.specs.Held.{Held, IsAtom, IsSymbol}
use Rattle.unit_tops.proofs.tops.is_herald_head.Goals as goal

of_symbol : (names : List (List ℕ)) (f : Form) (text : List ℕ) (w : Option Word) (n : NamePlace) → f ≡ form.Sym n → IsSymbol names f text w → n.0 < length names
of_symbol names f text (Some w) n e is = absurd (let x : ⊥ = cc in x)
of_symbol names f text None n e is = let same : is.0 ≡ n = let x = is.1 in cc in slice_get_within names n.0 text (rw (sym same) is.2)

of_atom : (names : List (List ℕ)) (f : Form) (a : Atom) (n : NamePlace) → f ≡ form.Sym n → IsAtom names f a → n.0 < length names
of_atom names f (given (fix z)) n e is = absurd (let x : ⊥ = cc in x)
of_atom names f (given (char z)) n e is = absurd (let x : ⊥ = cc in x)
of_atom names f (given nil) n e is = absurd (let x : ⊥ = cc in x)
of_atom names f (given truth) n e is = absurd (let x : ⊥ = cc in x)
of_atom names f (given (string z)) n e is = absurd (let x : ⊥ = cc in x)
of_atom names f (given (symbol text)) n e is = of_symbol names f text (word_named text) n e is
of_atom names f (variable v) n e is = absurd (let x : ⊥ = cc in x)
of_atom names f (builtin p) n e is = absurd (let x : ⊥ = cc in x)
of_atom names f (operation o) n e is = absurd (let x : ⊥ = cc in x)
of_atom names f listing n e is = absurd (let x : ⊥ = cc in x)

-- the name of a symbol is there
in_names : (names : List (List ℕ)) (cells : List Cell) (k : ℕ) (d : Datum) (c : Cell) (n : NamePlace) → Held names cells k d → slice_get cells k ≡ Some c
    → c.form ≡ form.Sym n → n.0 < length names
in_names names cells k (atom s a) c n held at e = let f : held.0 ≡ form.Sym n = let x = held.1 in cc in of_atom names held.0 a n f held.2
in_names names cells k (cons s head tail) c n held at e = absurd (let y = held.2 in let x : ⊥ = cc in x)

pub returns-else-name-count : goal.returns-else-name-count
returns-else-name-count c d held =
    let below = in_names c.args.names.now c.args.forms.now c.args.key d c.in-Some.cell.now c.in-Sym.name held (sym c.in-Some.ensures) c.in-Sym.is in
    absurd (omega (arith, below, c.count.ensures.count, c.if-name-count.false))
