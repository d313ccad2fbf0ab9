-- What all states of a run have is kept where more is made.
use Rattle.std.proofs.Common.{Bool, true, false, if◌then◌else◌, [], ◌∷◌, length, nat_lt, ◌∙◌}
use Rattle.std.specs.List.{AllByRecursion}
use Rattle.t_prim.specs.Values.{Val, Store, Grows}
use Rattle.frame_ir.specs.Values.{Object}
use Rattle.frame_ir.specs.States.{State, Thing, APair, AVector, AnObject, ACell, new_things, with_store, with_cell, with_object}
use Rattle.frame_words.proofs.Growing.{all_append}
use Rattle.selection_steps.specs.Settings.{Setting}
use Rattle.selection_steps.specs.Related.{IsNew, Keeps}

module _ (m : Setting) (s : State) (h : Keeps m s) where
  pub cell_kept : (v : Val) → Keeps m (with_cell s v)
  cell_kept v = record { names_are = h.names_are; all = h.all; codes = h.codes; news = all_append (IsNew m) s.made (ACell (length s.cells) ∷ []) h.news (tt, tt); bare = h.bare }

  pub object_kept : (object : Object) → Keeps m (with_object s object)
  object_kept object = record { names_are = h.names_are; all = h.all; codes = h.codes; news = all_append (IsNew m) s.made (AnObject (length s.objects) ∷ []) h.news (tt, tt); bare = h.bare }

  one_new : (b : Bool) (x : Thing) → IsNew m x → AllByRecursion (IsNew m) (if b then x ∷ [] else [])
  one_new true x is = (is, tt)
  one_new false x is = tt

  store_new : (t : Store) → AllByRecursion (IsNew m) (new_things s.store t)
  store_new t =
      all_append (IsNew m) (if nat_lt (length s.store.pairs) (length t.pairs) then APair (length s.store.pairs) ∷ [] else []) (if nat_lt (length s.store.vectors) (length t.vectors) then AVector (length s.store.vectors) ∷ [] else [])
      (one_new (nat_lt (length s.store.pairs) (length t.pairs)) (APair (length s.store.pairs)) tt) (one_new (nat_lt (length s.store.vectors) (length t.vectors)) (AVector (length s.store.vectors)) tt)

  pub store_kept : (t : Store) → Grows s.store t → Keeps m (with_store s t)
  store_kept t g = record { names_are = g.names ∙ h.names_are; all = h.all; codes = h.codes; news = all_append (IsNew m) s.made (new_things s.store t) h.news (store_new t); bare = h.bare }
