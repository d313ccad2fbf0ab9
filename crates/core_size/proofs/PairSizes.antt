-- The sizes of quoted pairs, from those of their parts.
use Rattle.std.proofs.Common.{below_more, length-append, ◌≡◌, ℕ, ◌+◌, ◌<◌, ◌≤◌, List, [], ◌∷◌, ◌++◌, length, get_or, slice_get, Some, refl, sym, ap, subst, ◌∙◌, arith}
use Rattle.std.specs.Prelude.{◌^◌}
use Rattle.std.proofs.Math.ListN.{get_or-append}
use Rattle.std.proofs.lemmas.Grind.{common_steps}
use Rattle.std.proofs.lemmas.List.Elements.{All-push}
use Rattle.std.proofs.lemmas.Option.{slice_get-get_or, slice_get_within}
use Rattle.t_base.specs.declared.shared_parts.Const.{Const}
use Rattle.t_base.specs.declared.shared_parts.Const.TheVariants as Constant
use Rattle.t_prim.specs.SharedParts.{HasLowerParts, StandsBelow}
use Rattle.t_core.specs.Counts.{Pairs, datum_nodes}
use Rattle.t_core.proofs.DatumLemmas.{datum_atom, datum_pair}
use Rattle.core_size.specs.Sizes.{AreSizes, IsPairSize, KnowsSizes, size_in}

same_pair : {a b : Const × Const} → Some a ≡ Some b → a ≡ b
same_pair h = cc

same_number : {a b : ℕ} → Some a ≡ Some b → a ≡ b
same_number h = cc

-- the size of a part of the next pair is the number of its data
part_size : (pairs : Pairs) (sizes : List ℕ) (k : ℕ) → AreSizes sizes k pairs → (c : Const) → StandsBelow k c → (n : ℕ) → size_in sizes c ≡ Some n → n ≡ datum_nodes pairs c
part_size pairs sizes k so_far (Constant.Pair j) below n is = same_number (sym is ∙ so_far.tells j below)
part_size pairs sizes k so_far (Constant.Fix x) below n is = same_number (sym is) ∙ sym (datum_atom pairs (Constant.Fix x) refl)
part_size pairs sizes k so_far (Constant.Char x) below n is = same_number (sym is) ∙ sym (datum_atom pairs (Constant.Char x) refl)
part_size pairs sizes k so_far Constant.Nil below n is = same_number (sym is) ∙ sym (datum_atom pairs Constant.Nil refl)
part_size pairs sizes k so_far Constant.True below n is = same_number (sym is) ∙ sym (datum_atom pairs Constant.True refl)
part_size pairs sizes k so_far (Constant.Sym x) below n is = same_number (sym is) ∙ sym (datum_atom pairs (Constant.Sym x) refl)
part_size pairs sizes k so_far (Constant.Str x) below n is = same_number (sym is) ∙ sym (datum_atom pairs (Constant.Str x) refl)

get_last : (sizes : List ℕ) (n : ℕ) → get_or (sizes ++ n ∷ []) (length sizes) 0 ≡ n
get_last sizes n = grind (arith, common_steps)

pub one_more : (pairs : Pairs) (sizes : List ℕ) (k n : ℕ) (d : Const × Const) → HasLowerParts pairs → AreSizes sizes k pairs → k < length pairs
    → IsPairSize sizes (get_or pairs k d).0 (get_or pairs k d).1 n → AreSizes (sizes ++ n ∷ []) (k + 1) pairs
one_more pairs sizes k n d lower so_far within size =
    let room : length sizes ≡ k = so_far.room in
    let found : slice_get pairs k ≡ Some (get_or pairs k d) = slice_get-get_or pairs k d within in
    let below : StandsBelow k (get_or pairs k d).0 × StandsBelow k (get_or pairs k d).1 = lower.parts_below k (get_or pairs k d) found in
    let first : size.first ≡ datum_nodes pairs (get_or pairs k d).0 = part_size pairs sizes k so_far (get_or pairs k d).0 below.0 size.first size.head_is in
    let second : size.second ≡ datum_nodes pairs (get_or pairs k d).1 = part_size pairs sizes k so_far (get_or pairs k d).1 below.1 size.second size.tail_is in
    let whole : datum_nodes pairs (Constant.Pair k) ≡ 1 + datum_nodes pairs (get_or pairs k d).0 + datum_nodes pairs (get_or pairs k d).1 =
    datum_pair pairs lower (Constant.Pair k) (get_or pairs k d) found in
    let size_is : n ≡ 1 + size.first + size.second = size.size_is in
    let is : n ≡ datum_nodes pairs (Constant.Pair k) = omega arith in
    record {
      room = grind (arith, common_steps);
      tells = below_more (λ j. slice_get (sizes ++ n ∷ []) j ≡ Some (datum_nodes pairs (Constant.Pair j))) k
          (λ j h.
          let old : j < length sizes = omega arith in
          let new : j < length (sizes ++ n ∷ []) = omega (arith, length-append sizes (n ∷ [])) in
          slice_get-get_or (sizes ++ n ∷ []) j 0 new ∙ ap (λ x. Some x) (get_or-append sizes (n ∷ []) 0 j old) ∙ sym (slice_get-get_or sizes j 0 old) ∙ so_far.tells j h)
          (let new : k < length (sizes ++ n ∷ []) = omega (arith, length-append sizes (n ∷ [])) in
          let last : get_or (sizes ++ n ∷ []) k 0 ≡ n = subst (λ (i : ℕ). get_or (sizes ++ n ∷ []) i 0 ≡ n) room (get_last sizes n) in
          slice_get-get_or (sizes ++ n ∷ []) k 0 new ∙ ap (λ x. Some x) (last ∙ is));
      few = All-push (λ m. m ≤ 2 ^ 31) sizes n so_far.few size.few;
    }

-- the size of a datum is the number of its data
pub size_is : (pairs : Pairs) (sizes : List ℕ) → KnowsSizes sizes pairs → (c : Const) (n : ℕ) → size_in sizes c ≡ Some n → n ≡ datum_nodes pairs c
size_is pairs sizes known (Constant.Pair j) n is =
    let room : length sizes ≡ length pairs = known.sizes_are.room in
    let within : j < length sizes = slice_get_within sizes j n is in
    same_number (sym is ∙ known.sizes_are.tells j (omega arith))
size_is pairs sizes known (Constant.Fix x) n is = same_number (sym is) ∙ sym (datum_atom pairs (Constant.Fix x) refl)
size_is pairs sizes known (Constant.Char x) n is = same_number (sym is) ∙ sym (datum_atom pairs (Constant.Char x) refl)
size_is pairs sizes known Constant.Nil n is = same_number (sym is) ∙ sym (datum_atom pairs Constant.Nil refl)
size_is pairs sizes known Constant.True n is = same_number (sym is) ∙ sym (datum_atom pairs Constant.True refl)
size_is pairs sizes known (Constant.Sym x) n is = same_number (sym is) ∙ sym (datum_atom pairs (Constant.Sym x) refl)
size_is pairs sizes known (Constant.Str x) n is = same_number (sym is) ∙ sym (datum_atom pairs (Constant.Str x) refl)
