-- What holds of the parts of a form, where the table ends on the fine data below a size and makes of each no more than it is worth.
use Rattle.std.proofs.Common.{◌≡◌, ℕ, ◌<◌, ◌≤◌, List, [], ◌∷◌, Some, subst, arith}
use Rattle.std.specs.List.{AllByRecursion}
use Rattle.t_reader.specs.Grammar.{Value}
use Rattle.t_forms.specs.Data.{Datum, items_of, Binder, binder_of}
use Rattle.t_rows.specs.Rows.{Binding, binding_of_items}
use Rattle.expand_laws.proofs.Sizes.{size, total}
use Rattle.expand_laws.proofs.Fine.{IsItem, IsFine, pure_fine, item_fine, IsSmall, item_small, small_items}
use Rattle.expand_laws.proofs.Worths.{worth, least, least_worth}
use Rattle.expand_laws.proofs.Always.{Within, Always, AllAlways, more, all_each, through, mapped}
use Rattle.expand_laws.proofs.Lets.{BindingWithin, BindingsWithin, bindings_by}

-- the hypothesis of the induction on the size of a form
abbrev pub Below : (Value → Type 0) → ℕ → Type 0
Below right n = (e : Datum) → size e < n → IsFine right e → Within right (least e) e

abbrev pub AllItems : (Value → Type 0) → List Datum → Type 0
AllItems right ds = AllByRecursion (IsItem right) ds

abbrev pub AllSmall : (Value → Type 0) → ℕ → List Datum → Type 0
AllSmall right n ds = AllByRecursion (IsSmall right n) ds

pub below_always : (right : Value → Type 0) (n : ℕ) (d : Datum) → Below right n → size d < n → IsFine right d → Always right d
below_always right n d below l h = more (worth d) (below d l h) (least_worth d)

pub small_least : (right : Value → Type 0) (n : ℕ) (d : Datum) → Below right n → IsSmall right n d → Within right (least d) d
small_least right n d below h = below d h.below (pure_fine right d h.is_pure)

pub small_always : (right : Value → Type 0) (n : ℕ) (d : Datum) → Below right n → IsSmall right n d → Always right d
small_always right n d below h = below_always right n d below h.below (pure_fine right d h.is_pure)

pub smalls_always : (right : Value → Type 0) (n : ℕ) (ds : List Datum) → Below right n → AllSmall right n ds → AllAlways right ds
smalls_always right n ds below h = all_each (IsSmall right n) (Always right) (λ d k. small_always right n d below k) ds h

pub items_always : (right : Value → Type 0) (n : ℕ) (ds : List Datum) → Below right n → AllItems right ds → total ds ≤ n → AllAlways right ds
items_always right n [] below h l = tt
items_always right n (d ∷ ds) below h l =
    (below_always right n d below (omega (arith, l)) (item_fine right d h.0), items_always right n ds below h.1 (omega (arith, l)))

pair_small : (right : Value → Type 0) (n : ℕ) (ds : List Datum) (x : Binding) → Below right n → AllSmall right n ds → binding_of_items ds ≡ Some x → Always right x.value
pair_small right n [] x below h f = cc
pair_small right n (y ∷ []) x below h f = cc
pair_small right n (y ∷ e ∷ []) x below h f =
    let m = mapped (λ (b : Binder). record { binds = b; value = e }) (binder_of y) x f in subst (λ (z : Binding). Always right z.value) m.gives (small_always right n e below h.1.0)
pair_small right n (y ∷ e ∷ z ∷ ds) x below h f = cc

pub binding_small : (right : Value → Type 0) (n : ℕ) (i : Datum) → Below right n → IsSmall right n i → BindingWithin right worth i
binding_small right n i below h x e =
    let t = through binding_of_items (items_of i) x e in pair_small right n t.got x below (small_items right n i t.got h t.is) t.gives

pub bindings_small : (right : Value → Type 0) (n : ℕ) (d : Datum) → Below right n → IsItem right d → size d ≤ n → BindingsWithin right worth d
bindings_small right n d below h l =
    bindings_by right worth d (λ ds e. all_each (IsSmall right n) (BindingWithin right worth) (λ i k. binding_small right n i below k) ds (item_small right n d ds h l e))
