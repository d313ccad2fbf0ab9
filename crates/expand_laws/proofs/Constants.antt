-- Constants of quoted data.
use Rattle.std.proofs.Common.{◌≡◌, ℕ, ℤ, pos, negsuc, zero, suc, ◌+◌, ◌<◌, ◌≤◌, ◌⊎◌, inl, inr, IsTrue, List, [], ◌∷◌, ◌++◌, length, slice_get, Some, refl, sym, ap, subst, ◌∙◌, append_assoc, arith}
use Rattle.std.specs.Prelude.{All}
use Rattle.std.specs.List.{flat_map}
use Rattle.std.proofs.lemmas.Bool.Decides.{nat_tests}
use Rattle.std.proofs.lemmas.Int.{ints}
use Rattle.std.proofs.lemmas.List.{append-nil, length-append}
use Rattle.std.proofs.lemmas.List.Elements.{All-nil, All-cons, All-append}
use Rattle.std.proofs.lemmas.Option.{slice_get_within}
use Rattle.t_base.specs.declared.basics.Span.{Span}
use Rattle.t_base.specs.declared.shared_parts.Const.{Const}
use Rattle.t_base.specs.declared.shared_parts.Const.TheVariants as Constant
use Rattle.t_base.specs.declared.shared_parts.Shared.{Shared}
use Rattle.t_prim.specs.Operands.{in_range}
use Rattle.t_prim.specs.SharedParts.{IsConst, StandsBelow, HasLowerParts}
use Rattle.t_core.specs.declared.forms.Core.{Core}
use Rattle.t_core.specs.declared.forms.Core.TheVariants as Node
use Rattle.t_core.specs.Whole.{pair_in, pair_of}
use Rattle.expansion.specs.Strings.{string_in, string_of}
use Rattle.t_reader.specs.Grammar.{fix, char, nil, truth, string, symbol}
use Rattle.t_reader.specs.Tokens.{IsFixnum}
use Rattle.t_forms.specs.Data.{Atom, given, variable, builtin, operation, listing, Datum, atom, cons}
use Rattle.expansion.specs.Meaning.{IsQuoted}
use Rattle.expansion.proofs.Added.{Adds_trans, slice_get-Adds}
use Rattle.expand_laws.proofs.Counting.{times_none, times_append, times_flat, once_none, once_one, once_both, once_counted}
use Rattle.expansion.specs.Counting.{times, Once}
use Rattle.expand_laws.proofs.Few.{IsFew}
use Rattle.expand_laws.proofs.Gaining.{Gains, gains_none, gains_both, gains_as, stock_before, longer}
use Rattle.expand_laws.proofs.Made.{IsRight, Stock, HasStock, strings_named, pairs_named}
use Rattle.expand_laws.proofs.Reached.{IsPure}
use Rattle.expand_laws.proofs.Sizes.{size}

pub fixnum_in_range : (z : ℤ) → IsFixnum z → IsTrue (in_range z)
fixnum_in_range (pos n) h = let i = h.1 in grind (arith, ints, nat_tests)
fixnum_in_range (negsuc n) h = let i = h.0 in grind (arith, ints, nat_tests)

pub last_there : {A : Type 0} (xs : List A) (x : A) → slice_get (xs ++ x ∷ []) (length xs) ≡ Some x
last_there [] x = refl
last_there (y ∷ xs) x = last_there xs x

pub record ConstantMade (names : List (List ℕ)) (d : Datum) (before : Stock) : Type 0 where
  pub const : Const
  pub after : Stock
  pub gains : Gains names before after (Node.Const const ∷ [])
  pub quoted : (shared : Shared) → HasStock names after shared → IsQuoted shared d const
  pub right : (shared : Shared) → HasStock names after shared → IsConst shared const
  pub below : StandsBelow (length after.pairs) const
  pub few : IsFew before after 1 (size d)

-- ---- atoms

-- a constant that names no string and no pair
plain_gains : (names : List (List ℕ)) (s : Stock) (c : Const) → string_in c ≡ [] → pair_in c ≡ [] → Gains names s s (Node.Const c ∷ [])
plain_gains names s c e f =
    gains_as names s s [] (Node.Const c ∷ []) (λ k. refl) (λ k. ap (λ l. times k l) (append-nil (string_in c) ∙ e)) (λ k. ap (λ l. times k l) (append-nil (pair_in c) ∙ f))
    (gains_none names s)

string_made : (names : List (List ℕ)) (at : Datum) (bytes : List ℕ) (s : Stock) → size at ≡ 1 → All (λ b. b < 128) bytes
    → ((shared : Shared) (c : Const) → (place : ℕ) × (c ≡ Constant.Str place) × (slice_get shared.strings.items place ≡ Some bytes) → IsQuoted shared at c) → ConstantMade names at s
string_made names at bytes s one right quoted =
    let place = length s.strings in
    record {
      const = Constant.Str place;
      after = record { strings = s.strings ++ bytes ∷ []; pairs = s.pairs; next = s.next };
      gains = record {
        new_strings = bytes ∷ [];
        new_pairs = [];
        strings_are = refl;
        pairs_are = sym (append-nil s.pairs);
        next = omega arith;
        bound = once_none s.next s.next;
        strings = subst (λ high. Once place high (place ∷ [])) (sym (length-append s.strings (bytes ∷ []))) (wider place (length (bytes ∷ [])) (omega arith));
        pairs = once_none (length s.pairs) (length s.pairs);
        ascii = All-cons (λ bs. All (λ b. b < 128) bs) bytes [] right (All-nil (λ bs. All (λ b. b < 128) bs));
        pairs_right = λ shared h. All-nil (λ p. IsConst shared p.0 × IsConst shared p.1);
        lower = λ h. h;
      };
      quoted = λ shared h. quoted shared (Constant.Str place) (place, refl, there shared h);
      right = λ shared h. slice_get_within shared.strings.items place bytes (there shared h);
      below = tt;
      few = record { nodes = omega (arith, one); strings = omega (arith, one, length-append s.strings (bytes ∷ [])); pairs = omega arith };
    }
  where
    wider : (low n : ℕ) → 0 < n → Once low (low + n) (low ∷ [])
    wider low n some = once_one low (low + n) (omega arith)

    there : (shared : Shared) → HasStock names (record { strings = s.strings ++ bytes ∷ []; pairs = s.pairs; next = s.next }) shared
        → slice_get shared.strings.items (length s.strings) ≡ Some bytes
    there shared h = slice_get-Adds (s.strings ++ bytes ∷ []) shared.strings.items (length s.strings) bytes h.strings (last_there s.strings bytes)

few_atom : (s : Stock) → IsFew s s 1 1
few_atom s = record { nodes = omega arith; strings = omega arith; pairs = omega arith }

atom_made : (names : List (List ℕ)) (s : Span) (a : Atom) (before : Stock) → IsPure (IsRight names) (atom s a) → ConstantMade names (atom s a) before
atom_made names s (given (fix z)) before right = record {
  const = Constant.Fix z;
  after = before;
  gains = plain_gains names before (Constant.Fix z) refl refl;
  quoted = λ shared h. refl;
  right = λ shared h. fixnum_in_range z right;
  below = tt;
  few = few_atom before;
}
atom_made names s (given (char b)) before right = record {
  const = Constant.Char b;
  after = before;
  gains = plain_gains names before (Constant.Char b) refl refl;
  quoted = λ shared h. refl;
  right = λ shared h. right;
  below = tt;
  few = few_atom before;
}
atom_made names s (given nil) before right = record {
  const = Constant.Nil;
  after = before;
  gains = plain_gains names before Constant.Nil refl refl;
  quoted = λ shared h. refl;
  right = λ shared h. tt;
  below = tt;
  few = few_atom before;
}
atom_made names s (given truth) before right = record {
  const = Constant.True;
  after = before;
  gains = plain_gains names before Constant.True refl refl;
  quoted = λ shared h. refl;
  right = λ shared h. tt;
  below = tt;
  few = few_atom before;
}
atom_made names s (given (string bytes)) before right = string_made names (atom s (given (string bytes))) bytes before refl right (λ shared c h. h)
atom_made names s (given (symbol text)) before right = record {
  const = Constant.Sym (record { 0 = right.0 });
  after = before;
  gains = plain_gains names before (Constant.Sym (record { 0 = right.0 })) refl refl;
  quoted = λ shared h. (record { 0 = right.0 }, refl, there shared h);
  right = λ shared h. slice_get_within shared.names right.0 text (there shared h);
  below = tt;
  few = few_atom before;
}
  where
    there : (shared : Shared) → HasStock names before shared → slice_get shared.names right.0 ≡ Some text
    there shared h = ap (λ l. slice_get l right.0) h.names_are ∙ right.1
atom_made names s (variable n) before right = absurd right
atom_made names s (builtin p) before right = absurd right
atom_made names s (operation o) before right = absurd right
atom_made names s listing before right = absurd right

-- ---- pairs

below_more : (a b : ℕ) (c : Const) → a ≤ b → StandsBelow a c → StandsBelow b c
below_more a b (Constant.Pair j) le h = let lt : j < a = h in omega arith
below_more a b (Constant.Fix x) le h = tt
below_more a b (Constant.Char x) le h = tt
below_more a b Constant.Nil le h = tt
below_more a b Constant.True le h = tt
below_more a b (Constant.Sym x) le h = tt
below_more a b (Constant.Str x) le h = tt

pub push_cases : {A : Type 0} (xs : List A) (x y : A) (k : ℕ) → slice_get (xs ++ x ∷ []) k ≡ Some y → (slice_get xs k ≡ Some y) ⊎ ((k ≡ length xs) × (y ≡ x))
push_cases [] x y zero e = inr (refl, cc)
push_cases [] x y (suc k) e = cc
push_cases (z ∷ xs) x y zero e = inl e
push_cases (z ∷ xs) x y (suc k) e = next (push_cases xs x y k e)
  where
    next : (slice_get xs k ≡ Some y) ⊎ ((k ≡ length xs) × (y ≡ x)) → (slice_get xs k ≡ Some y) ⊎ ((suc k ≡ suc (length xs)) × (y ≡ x))
    next (inl f) = inl f
    next (inr f) = inr (ap suc f.0, f.1)

pub lower_push : (ps : List (Const × Const)) (p : Const × Const) → StandsBelow (length ps) p.0 → StandsBelow (length ps) p.1 → HasLowerParts ps → HasLowerParts (ps ++ p ∷ [])
lower_push ps p a b h = record { parts_below = λ k q found. by k q (push_cases ps p q k found) }
  where
    by : (k : ℕ) (q : Const × Const) → (slice_get ps k ≡ Some q) ⊎ ((k ≡ length ps) × (q ≡ p)) → StandsBelow k q.0 × StandsBelow k q.1
    by k q (inl found) = h.parts_below k q found
    by k q (inr e) =
        let x : StandsBelow k p.0 × StandsBelow k p.1 = (subst (λ n. StandsBelow n p.0) (sym e.0) a, subst (λ n. StandsBelow n p.1) (sym e.0) b) in
        subst (λ (r : Const × Const). StandsBelow k r.0 × StandsBelow k r.1) (sym e.1) x

-- a pair and its constant name what the constants of its halves name, and the pair's own place
pair_count : (at : Const → List ℕ) (of : Core → List ℕ) → ((c : Const) → of (Node.Const c) ≡ at c) → (k : ℕ) (a b c : Const) (ps : List (Const × Const))
    → times k (flat_map (λ (p : Const × Const). at p.0 ++ at p.1) (ps ++ (a, b) ∷ []) ++ flat_map of (Node.Const c ∷ []))
    ≡ times k (flat_map (λ (p : Const × Const). at p.0 ++ at p.1) ps ++ flat_map of (Node.Const a ∷ Node.Const b ∷ [])) + times k (at c)
pair_count at of same k a b c ps =
    let f : Const × Const → List ℕ = λ p. at p.0 ++ at p.1 in
    omega (
      arith,
      times_append k (flat_map f (ps ++ (a, b) ∷ [])) (of (Node.Const c) ++ []),
      times_flat f k ps ((a, b) ∷ []),
      times_append k (at a ++ at b) [],
      times_append k (at a) (at b),
      times_append k (of (Node.Const c)) [],
      times_append k (flat_map f ps) (of (Node.Const a) ++ (of (Node.Const b) ++ [])),
      times_append k (of (Node.Const a)) (of (Node.Const b) ++ []),
      times_append k (of (Node.Const b)) [],
      times_none k,
      ap (times k) (same a),
      ap (times k) (same b),
      ap (times k) (same c),
    )

pair_made : (names : List (List ℕ)) (s : Span) (head tail : Datum) (before : Stock) (h : ConstantMade names head before) → ConstantMade names tail h.after
    → ConstantMade names (cons s head tail) before
pair_made names s head tail before h t =
    let place = length t.after.pairs in
    let p : Const × Const = (h.const, t.const) in
    let after : Stock = record { strings = t.after.strings; pairs = t.after.pairs ++ p ∷ []; next = t.after.next } in
    let nodes : List Core = Node.Const h.const ∷ Node.Const t.const ∷ [] in
    let both : Gains names before t.after nodes = gains_both names before h.after t.after (Node.Const h.const ∷ []) (Node.Const t.const ∷ []) h.gains t.gains in
    let count : length after.pairs ≡ suc place = length-append t.after.pairs (p ∷ []) ∙ omega arith in
    record {
      const = Constant.Pair place;
      after = after;
      gains = record {
        new_strings = both.new_strings;
        new_pairs = both.new_pairs ++ p ∷ [];
        strings_are = both.strings_are;
        pairs_are = ap (λ l. l ++ p ∷ []) both.pairs_are ∙ append_assoc before.pairs both.new_pairs (p ∷ []);
        next = both.next;
        bound = both.bound;
        strings = once_counted (length before.strings) (length after.strings) (strings_named nodes both.new_pairs)
            (strings_named (Node.Const (Constant.Pair place) ∷ []) (both.new_pairs ++ p ∷ []))
            (λ k. omega (arith, pair_count string_in string_of (λ c. refl) k h.const t.const (Constant.Pair place) both.new_pairs, times_none k)) both.strings;
        pairs = subst (λ n. Once (length before.pairs) n (pairs_named (Node.Const (Constant.Pair place) ∷ []) (both.new_pairs ++ p ∷ []))) (sym count)
            (once_both (length before.pairs) place (suc place) (pairs_named nodes both.new_pairs) (place ∷ []) (pairs_named (Node.Const (Constant.Pair place) ∷ []) (both.new_pairs ++ p ∷ []))
            (longer before.pairs t.after.pairs both.new_pairs both.pairs_are) (omega arith)
            (λ k. pair_count pair_in pair_of (λ c. refl) k h.const t.const (Constant.Pair place) both.new_pairs) both.pairs (once_one place (suc place) (omega arith)));
        ascii = both.ascii;
        pairs_right = λ shared i. All-append (λ q. IsConst shared q.0 × IsConst shared q.1) both.new_pairs (p ∷ []) (both.pairs_right shared (back shared i))
            (All-cons (λ q. IsConst shared q.0 × IsConst shared q.1) p [] (h.right shared (front shared i), t.right shared (back shared i))
            (All-nil (λ q. IsConst shared q.0 × IsConst shared q.1)));
        lower = λ i. lower_push t.after.pairs p
            (below_more (length h.after.pairs) place h.const (longer h.after.pairs t.after.pairs t.gains.new_pairs t.gains.pairs_are) h.below) t.below (both.lower i);
      };
      quoted = λ shared i. (place, p, refl, there shared i, h.quoted shared (front shared i), t.quoted shared (back shared i));
      right = λ shared i. slice_get_within shared.pairs.items place p (there shared i);
      below = omega (arith, count);
      few = record {
        nodes = omega arith;
        strings = omega (arith, h.few.strings, t.few.strings);
        pairs = omega (arith, count, h.few.pairs, t.few.pairs);
      };
    }
  where
    all : Stock
    all = record { strings = t.after.strings; pairs = t.after.pairs ++ (h.const, t.const) ∷ []; next = t.after.next }

    back : (shared : Shared) → HasStock names all shared → HasStock names t.after shared
    back shared i = record {
      names_are = i.names_are;
      strings = i.strings;
      pairs = Adds_trans t.after.pairs (t.after.pairs ++ (h.const, t.const) ∷ []) shared.pairs.items (record { more = (h.const, t.const) ∷ []; is = refl }) i.pairs;
    }

    front : (shared : Shared) → HasStock names all shared → HasStock names h.after shared
    front shared i = stock_before names h.after t.after (Node.Const t.const ∷ []) shared t.gains (back shared i)

    there : (shared : Shared) → HasStock names all shared → slice_get shared.pairs.items (length t.after.pairs) ≡ Some (h.const, t.const)
    there shared i = slice_get-Adds (t.after.pairs ++ (h.const, t.const) ∷ []) shared.pairs.items (length t.after.pairs) (h.const, t.const) i.pairs
        (last_there t.after.pairs (h.const, t.const))

pub constant_made : (names : List (List ℕ)) (d : Datum) (before : Stock) → IsPure (IsRight names) d → ConstantMade names d before
constant_made names (atom s a) before right = atom_made names s a before right
constant_made names (cons s head tail) before right =
    let h = constant_made names head before right.0 in
    pair_made names s head tail before h (constant_made names tail h.after right.1)
