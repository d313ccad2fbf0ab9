-- What nodes add to the stock of a unit: variables, strings and pairs.
use Rattle.std.proofs.Common.{◌≡◌, ℕ, ◌+◌, ◌<◌, ◌≤◌, List, [], ◌∷◌, ◌++◌, length, sym, ap, subst, ◌∙◌, append_assoc, arith}
use Rattle.std.specs.Prelude.{All}
use Rattle.std.specs.List.{flat_map}
use Rattle.std.proofs.lemmas.List.{append-nil, length-append}
use Rattle.std.proofs.lemmas.List.Elements.{All-nil, All-append}
use Rattle.t_base.specs.declared.basics.Var.{Var}
use Rattle.t_base.specs.declared.shared_parts.Const.{Const}
use Rattle.t_base.specs.declared.shared_parts.Shared.{Shared}
use Rattle.t_prim.specs.SharedParts.{IsConst, HasLowerParts}
use Rattle.t_core.specs.declared.forms.Core.{Core}
use Rattle.t_core.specs.Nodes.{binders_of}
use Rattle.t_core.specs.Whole.{pair_in, pair_of}
use Rattle.expansion.specs.Strings.{string_in, string_of}
use Rattle.expansion.specs.Lists.{numbered}
use Rattle.expansion.proofs.Added.{Adds_trans}
use Rattle.expand_laws.proofs.Counting.{times_append, times_flat, times_mapped, once_none, once_both, once_counted, once_numbered}
use Rattle.expansion.specs.Counting.{times, Once}
use Rattle.expand_laws.proofs.Made.{Stock, HasStock, strings_named, pairs_named}
use Rattle.expansion.specs.Counting.{numbers}

-- how often a place is named, in two lists of nodes and pairs
named_sum : (at : Const → List ℕ) (of : Core → List ℕ) (k : ℕ) (xs ys : List Core) (ps qs : List (Const × Const))
    → times k (flat_map (λ (p : Const × Const). at p.0 ++ at p.1) (ps ++ qs) ++ flat_map of (xs ++ ys))
    ≡ times k (flat_map (λ (p : Const × Const). at p.0 ++ at p.1) ps ++ flat_map of xs) + times k (flat_map (λ (p : Const × Const). at p.0 ++ at p.1) qs ++ flat_map of ys)
named_sum at of k xs ys ps qs =
    let f : Const × Const → List ℕ = λ p. at p.0 ++ at p.1 in
    omega (
      arith,
      times_append k (flat_map f (ps ++ qs)) (flat_map of (xs ++ ys)),
      times_flat f k ps qs,
      times_flat of k xs ys,
      times_append k (flat_map f ps) (flat_map of xs),
      times_append k (flat_map f qs) (flat_map of ys),
    )

named_same : (at : Const → List ℕ) (of : Core → List ℕ) (k : ℕ) (xs ys : List Core) (ps : List (Const × Const))
    → times k (flat_map of ys) ≡ times k (flat_map of xs)
    → times k (flat_map (λ (p : Const × Const). at p.0 ++ at p.1) ps ++ flat_map of ys) ≡ times k (flat_map (λ (p : Const × Const). at p.0 ++ at p.1) ps ++ flat_map of xs)
named_same at of k xs ys ps e =
    let f : Const × Const → List ℕ = λ p. at p.0 ++ at p.1 in
    times_append k (flat_map f ps) (flat_map of ys) ∙ ap (λ n. times k (flat_map f ps) + n) e ∙ sym (times_append k (flat_map f ps) (flat_map of xs))

pub record Gains (names : List (List ℕ)) (before after : Stock) (nodes : List Core) : Type 0 where
  pub new_strings : List (List ℕ)
  pub new_pairs : List (Const × Const)
  pub strings_are : after.strings ≡ before.strings ++ new_strings
  pub pairs_are : after.pairs ≡ before.pairs ++ new_pairs
  pub next : before.next ≤ after.next
  pub bound : Once before.next after.next (numbers (flat_map binders_of nodes))
  pub strings : Once (length before.strings) (length after.strings) (strings_named nodes new_pairs)
  pub pairs : Once (length before.pairs) (length after.pairs) (pairs_named nodes new_pairs)
  pub ascii : All (λ bytes. All (λ b. b < 128) bytes) new_strings
  pub pairs_right : (shared : Shared) → HasStock names after shared → All (λ p. IsConst shared p.0 × IsConst shared p.1) new_pairs
  pub lower : HasLowerParts before.pairs → HasLowerParts after.pairs

pub gains_none : (names : List (List ℕ)) (s : Stock) → Gains names s s []
gains_none names s = record {
  new_strings = [];
  new_pairs = [];
  strings_are = sym (append-nil s.strings);
  pairs_are = sym (append-nil s.pairs);
  next = omega arith;
  bound = once_none s.next s.next;
  strings = once_none (length s.strings) (length s.strings);
  pairs = once_none (length s.pairs) (length s.pairs);
  ascii = All-nil _;
  pairs_right = λ shared h. All-nil _;
  lower = λ h. h;
}

-- the shared parts have what there was before
pub stock_before : (names : List (List ℕ)) (a b : Stock) (xs : List Core) (shared : Shared) → Gains names a b xs → HasStock names b shared → HasStock names a shared
stock_before names a b xs shared g h = record {
  names_are = h.names_are;
  strings = Adds_trans a.strings b.strings shared.strings.items (record { more = g.new_strings; is = g.strings_are }) h.strings;
  pairs = Adds_trans a.pairs b.pairs shared.pairs.items (record { more = g.new_pairs; is = g.pairs_are }) h.pairs;
}

pub longer : {A : Type 0} (xs ys zs : List A) → ys ≡ xs ++ zs → length xs ≤ length ys
longer xs ys zs e = omega (arith, ap length e ∙ length-append xs zs)

pub gains_both : (names : List (List ℕ)) (a b c : Stock) (xs ys : List Core) → Gains names a b xs → Gains names b c ys → Gains names a c (xs ++ ys)
gains_both names a b c xs ys g h =
    let s : length a.strings ≤ length b.strings = longer a.strings b.strings g.new_strings g.strings_are in
    let t : length b.strings ≤ length c.strings = longer b.strings c.strings h.new_strings h.strings_are in
    let u : length a.pairs ≤ length b.pairs = longer a.pairs b.pairs g.new_pairs g.pairs_are in
    let v : length b.pairs ≤ length c.pairs = longer b.pairs c.pairs h.new_pairs h.pairs_are in
    let m : a.next ≤ b.next = g.next in
    let n : b.next ≤ c.next = h.next in
    record {
      new_strings = g.new_strings ++ h.new_strings;
      new_pairs = g.new_pairs ++ h.new_pairs;
      strings_are = h.strings_are ∙ ap (λ l. l ++ h.new_strings) g.strings_are ∙ append_assoc a.strings g.new_strings h.new_strings;
      pairs_are = h.pairs_are ∙ ap (λ l. l ++ h.new_pairs) g.pairs_are ∙ append_assoc a.pairs g.new_pairs h.new_pairs;
      next = omega arith;
      bound = once_both a.next b.next c.next (numbers (flat_map binders_of xs)) (numbers (flat_map binders_of ys)) (numbers (flat_map binders_of (xs ++ ys))) m n
          (λ k. times_mapped (λ (v : Var). v.0) binders_of k xs ys) g.bound h.bound;
      strings = once_both (length a.strings) (length b.strings) (length c.strings) (strings_named xs g.new_pairs) (strings_named ys h.new_pairs)
          (strings_named (xs ++ ys) (g.new_pairs ++ h.new_pairs)) s t (λ k. named_sum string_in string_of k xs ys g.new_pairs h.new_pairs) g.strings h.strings;
      pairs = once_both (length a.pairs) (length b.pairs) (length c.pairs) (pairs_named xs g.new_pairs) (pairs_named ys h.new_pairs)
          (pairs_named (xs ++ ys) (g.new_pairs ++ h.new_pairs)) u v (λ k. named_sum pair_in pair_of k xs ys g.new_pairs h.new_pairs) g.pairs h.pairs;
      ascii = All-append (λ bytes. All (λ b. b < 128) bytes) g.new_strings h.new_strings g.ascii h.ascii;
      pairs_right = λ shared i. All-append (λ p. IsConst shared p.0 × IsConst shared p.1) g.new_pairs h.new_pairs (g.pairs_right shared (stock_before names b c ys shared h i)) (h.pairs_right shared i);
      lower = λ i. h.lower (g.lower i);
    }

-- other nodes that bind and name the same
pub gains_as : (names : List (List ℕ)) (a b : Stock) (xs ys : List Core) → ((k : ℕ) → times k (numbers (flat_map binders_of ys)) ≡ times k (numbers (flat_map binders_of xs)))
    → ((k : ℕ) → times k (flat_map string_of ys) ≡ times k (flat_map string_of xs)) → ((k : ℕ) → times k (flat_map pair_of ys) ≡ times k (flat_map pair_of xs))
    → Gains names a b xs → Gains names a b ys
gains_as names a b xs ys binds strings pairs g = record {
  new_strings = g.new_strings;
  new_pairs = g.new_pairs;
  strings_are = g.strings_are;
  pairs_are = g.pairs_are;
  next = g.next;
  bound = once_counted a.next b.next (numbers (flat_map binders_of xs)) (numbers (flat_map binders_of ys)) binds g.bound;
  strings = once_counted (length a.strings) (length b.strings) (strings_named xs g.new_pairs) (strings_named ys g.new_pairs)
      (λ k. named_same string_in string_of k xs ys g.new_pairs (strings k)) g.strings;
  pairs = once_counted (length a.pairs) (length b.pairs) (pairs_named xs g.new_pairs) (pairs_named ys g.new_pairs)
      (λ k. named_same pair_in pair_of k xs ys g.new_pairs (pairs k)) g.pairs;
  ascii = g.ascii;
  pairs_right = g.pairs_right;
  lower = g.lower;
}

swapped : {a b : ℕ} (x y : ℕ) → a ≡ x + y → b ≡ y + x → a ≡ b
swapped x y e f = omega arith

-- in the other order
pub gains_swapped : (names : List (List ℕ)) (a b : Stock) (xs ys : List Core) → Gains names a b (xs ++ ys) → Gains names a b (ys ++ xs)
gains_swapped names a b xs ys g =
    gains_as names a b (xs ++ ys) (ys ++ xs)
    (λ k. swapped _ _ (times_mapped (λ (v : Var). v.0) binders_of k ys xs) (times_mapped (λ (v : Var). v.0) binders_of k xs ys))
    (λ k. swapped _ _ (times_flat string_of k ys xs) (times_flat string_of k xs ys)) (λ k. swapped _ _ (times_flat pair_of k ys xs) (times_flat pair_of k xs ys)) g

-- the stock with so many more variables
abbrev pub with_vars : Stock → ℕ → Stock
with_vars s n = record { strings = s.strings; pairs = s.pairs; next = s.next + n }

-- a node that binds new variables, and no constant
pub gains_node : (names : List (List ℕ)) (s : Stock) (n : ℕ) (c : Core) → binders_of c ≡ numbered s.next n → string_of c ≡ [] → pair_of c ≡ []
    → Gains names s (with_vars s n) (c ∷ [])
gains_node names s n c binds strings pairs = record {
  new_strings = [];
  new_pairs = [];
  strings_are = sym (append-nil s.strings);
  pairs_are = sym (append-nil s.pairs);
  next = omega arith;
  bound = subst (λ (vs : List Var). Once s.next (s.next + n) (numbers vs)) (sym (append-nil (binders_of c) ∙ binds)) (once_numbered s.next n);
  strings = subst (λ l. Once (length s.strings) (length s.strings) l) (sym (append-nil (string_of c) ∙ strings)) (once_none (length s.strings) (length s.strings));
  pairs = subst (λ l. Once (length s.pairs) (length s.pairs) l) (sym (append-nil (pair_of c) ∙ pairs)) (once_none (length s.pairs) (length s.pairs));
  ascii = All-nil _;
  pairs_right = λ shared h. All-nil _;
  lower = λ h. h;
}
