-- Rows of the table at lists of some length.
use Rattle.std.proofs.Common.{◌≡◌, true, false, List, [], ◌∷◌, refl}
use Rattle.t_base.specs.declared.basics.Span.{Span}
use Rattle.t_forms.specs.Data.{variable, Datum, atom}
use Rattle.t_rows.specs.Lists.{IsShort, is_new}
use Rattle.t_rows.specs.Rows.{Row, no_row, node, constant, quote_row}

-- what holds of lists without a body
pub short : (f : List Datum → Row) (r : Row) (ds : List Datum) → IsShort ds → f [] ≡ r → ((d : Datum) → f (d ∷ []) ≡ r) → f ds ≡ r
short f r [] h zero_ one = zero_
short f r (d ∷ []) h zero_ one = one d
short f r (d ∷ e ∷ ds) h zero_ one = absurd h

pub quote_new : (s : Span) (d : Datum) → is_new d ≡ true → quote_row s (d ∷ []) ≡ no_row s
quote_new s (atom t (variable n)) e = refl
quote_new s _ e = cc

pub quote_more : (s : Span) (d e : Datum) (ds : List Datum) → quote_row s (d ∷ e ∷ ds) ≡ no_row s
quote_more s (atom t (variable n)) e ds = refl
quote_more s _ e ds = refl

pub quote_datum : (s : Span) (d : Datum) → is_new d ≡ false → quote_row s (d ∷ []) ≡ node (constant d) [] []
quote_datum s (atom t (variable n)) e = cc
quote_datum s _ e = refl
