-- What a new cell holds.
use Rattle.std.proofs.Common.{◌≡◌, ℕ, ◌<◌, List, [], ◌∷◌, ◌++◌, length, slice_get, Option, Some, ap, ◌∙◌, length-append, arith}
use Rattle.std.proofs.lemmas.Option.{slice_get_within, slice_get-get_or}
use Rattle.std.proofs.Math.Seq.{get_or-append_seam}
use Rattle.t_base.specs.declared.basics.Span.{Span}
use Rattle.t_forms.specs.declared.arena.Form.{Form}
use Rattle.t_forms.specs.declared.arena.Form.TheVariants as form
use Rattle.t_forms.specs.declared.arena.Cell.{Cell}
use Rattle.t_forms.specs.Data.{Atom, Datum, atom, cons, count_of}
use Rattle.t_forms.specs.Held.{cell, IsAtom, Held, Continues, Extends}
use Rattle.t_forms.proofs.Keeping.{extends_one, held_grows, continues_grows}

pub last_cell : (cells new : List Cell) (k : ℕ) (c : Cell) → k ≡ length cells → new ≡ cells ++ c ∷ [] → slice_get new k ≡ Some c
last_cell cells new k c at is =
    let within : length cells < length (cells ++ c ∷ []) = omega (arith, length-append cells (c ∷ [])) in
    rw (at, is) (slice_get-get_or (cells ++ c ∷ []) (length cells) c within ∙ ap Some (get_or-append_seam cells c [] c))

pub atom_held : (names : List (List ℕ)) (cells new : List Cell) (k : ℕ) (s : Span) (f : Form) (a : Atom) → k ≡ length cells → new ≡ cells ++ cell s f ∷ []
    → IsAtom names f a → Held names new k (atom s a)
atom_held names cells new k s f a at is h = (f, last_cell cells new k (cell s f) at is, h)

pub held_below : (names : List (List ℕ)) (cells : List Cell) (k : ℕ) (d : Datum) → Held names cells k d → k < length cells
held_below names cells k (atom s a) h = slice_get_within cells k (cell s h.0) h.1
held_below names cells k (cons s head tail) h = slice_get_within cells k (cell s (form.Pair h.0 h.1 (count_of (cons s head tail)))) h.2

pub continues_below : (names : List (List ℕ)) (cells : List Cell) (k : ℕ) (d : Datum) → Continues names cells k d → k < length cells
continues_below names cells k (atom s a) h = slice_get_within cells k (cell h.0 h.1) h.2
continues_below names cells k (cons s head tail) h = slice_get_within cells k (cell h.0 (form.Pair h.1 h.2 (count_of (cons s head tail)))) h.3

pub pair_held : (names : List (List ℕ)) (cells new : List Cell) (k : ℕ) (s : Span) (i j : ℕ) (n : Option ℕ) (h t : Datum) → k ≡ length cells
    → new ≡ cells ++ cell s (form.Pair i j n) ∷ [] → n ≡ count_of (cons s h t) → Held names cells i h → Continues names cells j t → Held names new k (cons s h t)
pair_held names cells new k s i j n h t at is count held continues =
    let more : Extends cells new = extends_one (cell s (form.Pair i j n)) is in
    let below : i < length cells = held_below names cells i h held in
    let below_too : j < length cells = continues_below names cells j t continues in (
      i,
      j,
      last_cell cells new k (cell s (form.Pair i j n)) at is ∙ ap (λ m. Some (cell s (form.Pair i j m))) count,
      omega arith,
      omega arith,
      held_grows more names i h held,
      continues_grows more names j t continues,
    )
