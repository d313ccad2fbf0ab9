-- One more form before the forms that are made.
use Rattle.std.proofs.Common.{◌≡◌, ℕ, suc, ◌+◌, ◌<◌, ◌≤◌, ◌++◌, List, [], ◌∷◌, length, All, refl, sym, ap, ◌∙◌, append_assoc, arith}
use Rattle.std.specs.List.{flat_map}
use Rattle.std.specs.Global.{Global}
use Rattle.std.proofs.lemmas.Grind.{flat_map-append}
use Rattle.std.proofs.lemmas.List.{append-nil, length-append, map-append}
use Rattle.std.proofs.lemmas.List.Elements.{All-nil, All-cons, All-append}
use Rattle.t_base.specs.declared.basics.Span.{Span}
use Rattle.t_base.specs.declared.shared_parts.Const.{Const}
use Rattle.t_base.specs.declared.shared_parts.Shared.{Shared}
use Rattle.t_prim.specs.SharedParts.{IsConst}
use Rattle.t_core.specs.declared.forms.Core.{Core}
use Rattle.t_core.specs.declared.forms.Form.{Form}
use Rattle.t_core.specs.Nodes.{binders_of}
use Rattle.t_core.specs.Whole.{HasPlaces, HasShapes, pair_in, pair_of}
use Rattle.expansion.specs.Strings.{string_in, string_of}
use Rattle.t_forms.specs.Names.{Bound}
use Rattle.expansion.specs.Meaning.{TopMeans}
use Rattle.expansion.specs.Lists.{Adds}
use Rattle.expansion.specs.Units.{Top, defining, broken, expression}
use Rattle.expand_laws.proofs.Made.{Stock, HasStock}
use Rattle.expansion.specs.Counting.{numbers}
use Rattle.expand_laws.proofs.Once.{once_none, once_join, times, times_append, times_mixed}
use Rattle.expand_laws.proofs.Shortness.{IsShort, vec_of}
use Rattle.expand_laws.proofs.TopsMade.{TopMade, AllMade, TopStands, HasKind, kind_of, unit_named}

-- ---- what stood before is there later

adds_before : {A : Type 0} (xs ys zs more : List A) → ys ≡ xs ++ more → Adds ys zs → Adds xs zs
adds_before xs ys zs more e h = record { more = more ++ h.more; is = h.is ∙ ap (λ l. l ++ h.more) e ∙ append_assoc xs more h.more }

pub stock_before : (names : List (List ℕ)) (before after : Stock) (strings : List (List ℕ)) (pairs : List (Const × Const)) (shared : Shared)
    → after.strings ≡ before.strings ++ strings → after.pairs ≡ before.pairs ++ pairs → HasStock names after shared → HasStock names before shared
stock_before names before after strings pairs shared s p h = record {
  names_are = h.names_are;
  strings = adds_before before.strings after.strings shared.strings.items strings s h.strings;
  pairs = adds_before before.pairs after.pairs shared.pairs.items pairs p h.pairs;
}

-- ---- no form

pub none_made : (names : List (List ℕ)) (defined : List Bound) (stock : Stock) → AllMade names defined [] stock stock
none_made names defined stock = record {
  forms = [];
  spans = [];
  new_strings = [];
  new_pairs = [];
  strings_are = sym (append-nil stock.strings);
  pairs_are = sym (append-nil stock.pairs);
  next = omega arith;
  means = λ shared h. tt;
  filled = tt;
  places = λ shared h d. All-nil (HasPlaces shared);
  shapes = λ shared d. All-nil (HasShapes shared);
  vars_once = once_none stock.next;
  strings_once = once_none (length stock.strings);
  pairs_once = once_none (length stock.pairs);
  ascii = All-nil (λ bytes. All (λ b. b < 128) bytes);
  pairs_right = λ shared h. All-nil (λ (p : Const × Const). IsConst shared p.0 × IsConst shared p.1);
  lower = λ l. l;
  few_forms = refl;
  few_strings = omega arith;
  few_pairs = omega arith;
}

-- ---- one form more

-- the form of the unit
abbrev pub form_of : {names : List (List ℕ)} {defined : List Bound} {t : Top} {before after : Stock} → Global → (made : TopMade names defined t before after)
    → IsShort made.nodes → Form
form_of {defined = defined} {t = t} alloc made short = record { kind = kind_of defined t; nodes = vec_of alloc made.nodes short; root = made.root }

named_more : (f : Const → List ℕ) (g : Core → List ℕ) (k : ℕ) (nodes : List Core) (form : Form) (forms : List Form) (ps qs : List (Const × Const)) → form.nodes.items ≡ nodes
    → times k (unit_named f g (form ∷ forms) (ps ++ qs)) ≡ times k (flat_map (λ p. f p.0 ++ f p.1) ps ++ flat_map g nodes) + times k (unit_named f g forms qs)
named_more f g k nodes form forms ps qs e =
    ap (λ l. times k (l ++ (flat_map g form.nodes.items ++ flat_map (λ (x : Form). flat_map g x.nodes.items) forms))) (flat_map-append (λ (p : Const × Const). f p.0 ++ f p.1) ps qs)
    ∙ times_mixed k (flat_map (λ (p : Const × Const). f p.0 ++ f p.1) ps) (flat_map (λ (p : Const × Const). f p.0 ++ f p.1) qs) (flat_map g form.nodes.items) (flat_map (λ (x : Form). flat_map g x.nodes.items) forms)
    ∙ ap (λ l. times k (flat_map (λ (p : Const × Const). f p.0 ++ f p.1) ps ++ flat_map g l) + times k (unit_named f g forms qs)) e

top_means : (defined : List Bound) (shared : Shared) (nodes : List Core) (spans : List Span) (root : ℕ) (t : Top) → HasKind defined t
    → TopStands defined shared (record { nodes = nodes; spans = spans }) root t → TopMeans defined shared (record { nodes = nodes; spans = spans }) (kind_of defined t) root t
top_means defined shared nodes spans root (defining d) k m = (k, m)
top_means defined shared nodes spans root (broken s) k m = m
top_means defined shared nodes spans root (expression d) k m = (refl, m)

longer : {A : Type 0} (xs ys zs : List A) → zs ≡ xs ++ ys → length xs ≤ length zs
longer xs ys zs e = let l : length zs ≡ length (xs ++ ys) = ap length e in let m = length-append xs ys in omega (arith, l, m)

pub more_made : (names : List (List ℕ)) (defined : List Bound) (t : Top) (ts : List Top) (before mid after : Stock) (alloc : Global) (one : TopMade names defined t before mid)
    → IsShort one.nodes → HasKind defined t → AllMade names defined ts mid after → AllMade names defined (t ∷ ts) before after
more_made names defined t ts before mid after alloc one short k rest = record {
  forms = form_of alloc one short ∷ rest.forms;
  spans = one.spans ∷ rest.spans;
  new_strings = one.new_strings ++ rest.new_strings;
  new_pairs = one.new_pairs ++ rest.new_pairs;
  strings_are = rest.strings_are ∙ ap (λ l. l ++ rest.new_strings) one.strings_are ∙ append_assoc before.strings one.new_strings rest.new_strings;
  pairs_are = rest.pairs_are ∙ ap (λ l. l ++ rest.new_pairs) one.pairs_are ∙ append_assoc before.pairs one.new_pairs rest.new_pairs;
  next = let a = one.next in let b = rest.next in omega (arith, a, b);
  means = λ shared h. ((one.spans_are, top_means defined shared one.nodes one.spans one.root t k (one.means shared (first shared h))), rest.means shared h);
  filled = (refl, one.filled, rest.filled);
  places = λ shared h d. All-cons (HasPlaces shared) (form_of alloc one short) rest.forms (record { names = one.named shared (first shared h) d; tree = one.tree }) (rest.places shared h d);
  shapes = λ shared d. All-cons (HasShapes shared) (form_of alloc one short) rest.forms (one.shaped shared d) (rest.shapes shared d);
  vars_once = once_join before.next mid.next after.next _ _ _ one.next rest.next one.vars_once rest.vars_once (λ j. vars j);
  strings_once =
      once_join (length before.strings) (length mid.strings) (length after.strings) _ _ _ (longer before.strings one.new_strings mid.strings one.strings_are)
      (longer mid.strings rest.new_strings after.strings rest.strings_are) one.strings_once rest.strings_once
      (λ j. named_more string_in string_of j one.nodes (form_of alloc one short) rest.forms one.new_pairs rest.new_pairs refl);
  pairs_once =
      once_join (length before.pairs) (length mid.pairs) (length after.pairs) _ _ _ (longer before.pairs one.new_pairs mid.pairs one.pairs_are)
      (longer mid.pairs rest.new_pairs after.pairs rest.pairs_are) one.pairs_once rest.pairs_once
      (λ j. named_more pair_in pair_of j one.nodes (form_of alloc one short) rest.forms one.new_pairs rest.new_pairs refl);
  ascii = All-append (λ bytes. All (λ b. b < 128) bytes) one.new_strings rest.new_strings one.ascii rest.ascii;
  pairs_right = λ shared h.
      All-append (λ (p : Const × Const). IsConst shared p.0 × IsConst shared p.1) one.new_pairs rest.new_pairs (one.pairs_right shared (first shared h)) (rest.pairs_right shared h);
  lower = λ l. rest.lower (one.lower l);
  few_forms = ap suc rest.few_forms;
  few_strings =
      let l = length-append one.new_strings rest.new_strings in let a = one.few_strings in let b = rest.few_strings in omega (arith, l, a, b);
  few_pairs = let l = length-append one.new_pairs rest.new_pairs in let a = one.few_pairs in let b = rest.few_pairs in omega (arith, l, a, b);
}
  where
    first : (shared : Shared) → HasStock names after shared → HasStock names mid shared
    first shared h = stock_before names mid after rest.new_strings rest.new_pairs shared rest.strings_are rest.pairs_are h

    vars : (j : ℕ) → times j (numbers (flat_map binders_of one.nodes ++ flat_map (λ (form : Form). flat_map binders_of form.nodes.items) rest.forms))
        ≡ times j (numbers (flat_map binders_of one.nodes)) + times j (numbers (flat_map (λ (form : Form). flat_map binders_of form.nodes.items) rest.forms))
    vars j =
        ap (times j) (map-append (λ v. v.0) (flat_map binders_of one.nodes) (flat_map (λ (form : Form). flat_map binders_of form.nodes.items) rest.forms))
        ∙ times_append j (numbers (flat_map binders_of one.nodes)) (numbers (flat_map (λ (form : Form). flat_map binders_of form.nodes.items) rest.forms))
