-- The table ends on QUOTE and CASE.
use Rattle.std.proofs.Common.{◌≡◌, ℕ, ◌+◌, ◌≤◌, Bool, true, false, if◌then◌else◌, List, [], ◌∷◌, Option, Some, None, refl, subst, arith}
use Rattle.std.specs.Prelude.{codes}
use Rattle.std.specs.List.{AllByRecursion, list_all}
use Rattle.std.specs.Option.{option_map}
use Rattle.std.proofs.lemmas.Option.{same_Some}
use Rattle.t_base.specs.declared.basics.Span.{Span}
use Rattle.t_base.specs.declared.builtins.Builtin.TheVariants as Builtins
use Rattle.t_objects.specs.declared.words.Word.TheVariants as word
use Rattle.t_reader.specs.Grammar.{Value}
use Rattle.t_forms.specs.declared.arena.New.TheVariants as new
use Rattle.t_forms.specs.Data.{given, variable, builtin, operation, listing, Datum, atom, cons, items_of, listed, a_nil, a_true, a_variable, a_builtin, word_of}
use Rattle.t_rows.specs.Rows.{stands_for, word_, body, quote_row, is_else, is_key, key_test, case_chosen, case_keys, case_last, case_clauses, case_row}
use Rattle.expand_laws.proofs.Reached.{IsPure, HasMadeValues}
use Rattle.expand_laws.proofs.Sizes.{size, total}
use Rattle.expand_laws.proofs.Fine.{IsItem, pure_item, pure_ops, IsSmall, item_small, small_items}
use Rattle.expand_laws.proofs.Worths.{worths, items_worth, size_worth}
use Rattle.expand_laws.proofs.Always.{Within, AllAlways, RowWithin, more, row_more, no_more_parts, another, node_of, leaf, refused, word_form, other_form, formed, all_each, through, mapped}
use Rattle.expand_laws.proofs.Atoms.{nil_within, truth_within, variable_always}
use Rattle.expand_laws.proofs.Blocks.{if_form, block_form, body_within}
use Rattle.expand_laws.proofs.Lets.{let_one}
use Rattle.expand_laws.proofs.Below.{Below, AllItems, AllSmall, smalls_always}

-- ---- QUOTE

quote_one : (right : Value → Type 0) (s : Span) (d : Datum) → IsItem right d → RowWithin right (size d) (quote_row s (d ∷ []))
quote_one right s (atom t (given v)) h = leaf h (omega arith)
quote_one right s (atom t (variable n)) h = refused (omega arith)
quote_one right s (atom t (builtin p)) h = absurd h
quote_one right s (atom t (operation o)) h = absurd h
quote_one right s (atom t listing) h = absurd h
quote_one right s (cons t head tail) h = leaf h (omega arith)

quote_more : (right : Value → Type 0) (k : ℕ) (s : Span) (d e : Datum) (ds : List Datum) → 1 ≤ k → RowWithin right k (quote_row s (d ∷ e ∷ ds))
quote_more right k s (atom t (given v)) e ds l = refused l
quote_more right k s (atom t (variable n)) e ds l = refused l
quote_more right k s (atom t (builtin p)) e ds l = refused l
quote_more right k s (atom t (operation o)) e ds l = refused l
quote_more right k s (atom t listing) e ds l = refused l
quote_more right k s (cons t head tail) e ds l = refused l

pub quote_row_ends : (right : Value → Type 0) (s : Span) (ds : List Datum) → AllItems right ds → RowWithin right (1 + worths ds) (quote_row s ds)
quote_row_ends right s [] h = refused (omega arith)
quote_row_ends right s (d ∷ []) h = let l = size_worth d in row_more right (size d) (1 + worths (d ∷ [])) (quote_row s (d ∷ [])) (quote_one right s d h.0) (omega (arith, l))
quote_row_ends right s (d ∷ e ∷ ds) h = quote_more right (1 + worths (d ∷ e ∷ ds)) s d e ds (omega arith)

-- ---- CASE

-- the test of one key
same_within : {right : Value → Type 0} → HasMadeValues right → (s : Span) (k : Datum) → IsPure right k
    → Within right (2 + size k) (listed s (a_builtin s Builtins.Eq ∷ a_variable s new.Chosen ∷ listed s (word_ s (codes "quote") ∷ k ∷ []) ∷ []))
same_within {right} m s k h =
    let quoted = listed s (word_ s (codes "quote") ∷ k ∷ []) in
    let hq : Within right (size k) quoted =
    word_form right (size k) s (codes "quote") word.Quote (k ∷ []) refl (pure_ops right k h, tt) (λ scope. quote_one right s k (pure_item right k h)) in
    other_form right (2 + size k) s (a_builtin s Builtins.Eq) (a_variable s new.Chosen ∷ quoted ∷ []) refl (tt, (tt, (hq.ops, tt)))
    (λ scope. node_of tt (another (variable_always m s new.Chosen) (another hq no_more_parts)) (omega arith))

key_within : {right : Value → Type 0} → HasMadeValues right → (s : Span) (keys : List Datum) → AllByRecursion (IsPure right) keys
    → Within right (1 + worths keys) (key_test s keys)
key_within m s [] h = more (1 + worths []) (nil_within m s) (omega arith)
key_within {right} m s (k ∷ keys) h =
    let same = listed s (a_builtin s Builtins.Eq ∷ a_variable s new.Chosen ∷ listed s (word_ s (codes "quote") ∷ k ∷ []) ∷ []) in
    let l = size_worth k in
    more (1 + worths (k ∷ keys)) (if_form s same (a_true s) (key_test s keys) (same_within m s k h.0) (truth_within m s) (key_within m s keys h.1)) (omega (arith, l))

-- the table ends on what there is
abbrev IfWithin : (Value → Type 0) → ℕ → Option Datum → Type 0
IfWithin right n o = (d : Datum) → o ≡ Some d → Within right n d

some_within : (right : Value → Type 0) (n : ℕ) (d : Datum) → Within right n d → IfWithin right n (Some d)
some_within right n d h e k = subst (Within right n) (same_Some d e k) h

chosen_if : {right : Value → Type 0} → HasMadeValues right → (n : ℕ) (s : Span) (bs : List Datum) (rest : Option Datum) (keys : List Datum) (b : Bool) → AllAlways right bs
    → IfWithin right n rest → AllByRecursion (IsPure right) keys
    → IfWithin right (3 + worths keys + worths bs + n)
    (if b then option_map (λ r. listed s (word_ s (codes "if") ∷ key_test s keys ∷ listed s (word_ s (codes "block") ∷ bs) ∷ r ∷ [])) rest else None)
chosen_if {right} m n s bs rest keys true hb hr h d e =
    let g = mapped (λ r. listed s (word_ s (codes "if") ∷ key_test s keys ∷ listed s (word_ s (codes "block") ∷ bs) ∷ r ∷ [])) rest d e in
    subst (Within right (3 + worths keys + worths bs + n)) g.gives
    (more (3 + worths keys + worths bs + n)
    (if_form s (key_test s keys) (listed s (word_ s (codes "block") ∷ bs)) g.got (key_within m s keys h) (block_form right s bs hb) (hr g.got g.is)) (omega arith))
chosen_if m n s bs rest keys false hb hr h d e = cc

keys_end : {right : Value → Type 0} → HasMadeValues right → (j n : ℕ) (s : Span) (items : List Datum) (rest : Option Datum) → Below right n → AllSmall right n items
    → IfWithin right j rest → IfWithin right (worths items + j) (case_keys s items rest)
keys_end m j n s [] rest below h hr d e = cc
keys_end m j n s (ks ∷ []) rest below h hr d e = cc
keys_end {right} m j n s (ks ∷ b ∷ bs) rest below h hr d e =
    let g = through (case_chosen s (b ∷ bs) rest) (items_of ks) d e in
    let keys = all_each (IsSmall right n) (IsPure right) (λ k i. i.is_pure) g.got (small_items right n ks g.got h.0 g.is) in
    let w = items_worth ks g.got g.is in
    more (worths (ks ∷ b ∷ bs) + j) (chosen_if m j s (b ∷ bs) rest g.got (list_all is_key g.got) (smalls_always right n (b ∷ bs) below h.1) hr keys d g.gives) (omega (arith, w))

else_if : (right : Value → Type 0) (n : ℕ) (b : Bool) (d : Datum) (o : Option Datum) → Within right n d → IfWithin right n o → IfWithin right n (if b then Some d else o)
else_if right n true d o h k = some_within right n d h
else_if right n false d o h k = k

last_ends : {right : Value → Type 0} → HasMadeValues right → (n : ℕ) (s : Span) (items : List Datum) → Below right n → AllSmall right n items
    → IfWithin right (worths items + 1) (case_last s items)
last_ends m n s [] below h d e = cc
last_ends m n s (x ∷ []) below h d e = cc
last_ends {right} m n s (x ∷ b ∷ bs) below h d e =
    else_if right (worths (x ∷ b ∷ bs) + 1) (is_else (word_of x)) (body s (b ∷ bs)) (case_keys s (x ∷ b ∷ bs) (Some (a_nil s)))
    (more (worths (x ∷ b ∷ bs) + 1) (body_within right s (b ∷ bs) (smalls_always right n (b ∷ bs) below h.1)) (omega arith))
    (keys_end m 1 n s (x ∷ b ∷ bs) (Some (a_nil s)) below h (some_within right 1 (a_nil s) (nil_within m s))) d e

clauses_end : {right : Value → Type 0} → HasMadeValues right → (n : ℕ) (s : Span) (cs : List Datum) → Below right n → AllItems right cs → total cs ≤ n
    → IfWithin right (1 + worths cs) (case_clauses s cs)
clauses_end {right} m n s [] below h l d e = some_within right (1 + worths []) (a_nil s) (more (1 + worths []) (nil_within m s) (omega arith)) d e
clauses_end {right} m n s (c ∷ []) below h l d e =
    let k : size c ≤ n = omega (arith, l) in
    let g = through (case_last s) (items_of c) d e in
    let w = items_worth c g.got g.is in
    more (1 + worths (c ∷ [])) (last_ends m n s g.got below (item_small right n c g.got h.0 k g.is) d g.gives) (omega (arith, w))
clauses_end {right} m n s (c ∷ o ∷ others) below h l d e =
    let k : size c ≤ n = omega (arith, l) in
    let j : total (o ∷ others) ≤ n = omega (arith, l) in
    let g = through (λ items. case_keys s items (case_clauses s (o ∷ others))) (items_of c) d e in
    let w = items_worth c g.got g.is in
    more (1 + worths (c ∷ o ∷ others))
    (keys_end m (1 + worths (o ∷ others)) n s g.got (case_clauses s (o ∷ others)) below (item_small right n c g.got h.0 k g.is) (clauses_end m n s (o ∷ others) below h.1 j) d g.gives)
    (omega (arith, w))

pub case_row_ends : {right : Value → Type 0} → HasMadeValues right → (n : ℕ) (s : Span) (ds : List Datum) → Below right n → AllItems right ds → AllAlways right ds → total ds ≤ n
    → RowWithin right (2 + worths ds) (case_row s ds)
case_row_ends m n s [] below h a l = refused (omega arith)
case_row_ends {right} m n s (e ∷ cs) below h a l =
    formed right (2 + worths (e ∷ cs)) s
    (λ d. stands_for (listed s (word_ s (codes "let") ∷ listed s (listed s (a_variable s new.Chosen ∷ e ∷ []) ∷ []) ∷ d ∷ []))) (case_clauses s cs) (omega arith) chosen
  where
    chosen : (d : Datum) → case_clauses s cs ≡ Some d
        → Within right (2 + worths (e ∷ cs)) (listed s (word_ s (codes "let") ∷ listed s (listed s (a_variable s new.Chosen ∷ e ∷ []) ∷ []) ∷ d ∷ []))
    chosen d k =
        let j : total cs ≤ n = omega (arith, l) in
        more (2 + worths (e ∷ cs)) (let_one right (1 + worths cs) s new.Chosen e d a.0 (clauses_end m n s cs below h.1 j d k)) (omega arith)
