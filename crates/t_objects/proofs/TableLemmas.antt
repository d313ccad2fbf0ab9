-- How the table of operations grows, form by form.
use Rattle.std.proofs.Common.{◌≡◌, ℕ, ◌<◌, Bool, true, false, List, [], ◌∷◌, ◌++◌, length, slice_get, Option, Some, None, refl, sym, ap, subst, ◌∙◌, append_assoc}
use Rattle.std.proofs.Common.{◌⊎◌, inl, inr, ◌≢◌, ◌||◌, get_or, replicate}
use Rattle.std.proofs.Math.ListN.{set}
use Rattle.std.proofs.Math.Dec.{eqb}
use Rattle.std.specs.Prelude.{◌==◌}
use Rattle.std.proofs.lemmas.Bool.Decides.{eqb_tells}
use Rattle.std.proofs.lemmas.List.{get_or-set_other, length-set, length-replicate, get_or-replicate}
use Rattle.std.proofs.lemmas.Grind.{get_or-set_at}
use Rattle.std.proofs.lemmas.List.Folds.{list_any-append}
use Rattle.std.proofs.lemmas.Option.{slice_get_within, slice_get-get_or}
use Rattle.std.proofs.lemmas.List.Sums.{fold-append}
use Rattle.t_base.specs.declared.shared_parts.OpInfo.{OpInfo}
use Rattle.t_reader.specs.Grammar.{Tree}
use Rattle.t_reader.specs.Unit.{Holds, HoldTrees}
use Rattle.t_reader.specs.declared.unit.Node.{Node}
use Rattle.t_objects.specs.Operations.{Operation, builtin_entries, has_name, with_one, Marks, IsEntry, AreEntries, IsAdded, IsMarked, with_entry, distinct, operation_of}

-- the entries of these forms are made
pub record IsTableSoFar (names : List (List ℕ)) (nodes : List Node) (forms : List ℕ) (ops : List OpInfo) (found : List Bool) : Type 0 where
  pub room : length found ≡ length names
  pub made : (trees : List Tree) → HoldTrees names nodes forms trees → (infos : List (Option OpInfo)) × AreEntries names trees infos × IsAdded ops found (distinct infos)

pub distinct-last : (infos : List (Option OpInfo)) (info : Option OpInfo) → distinct (infos ++ info ∷ []) ≡ with_entry (distinct infos) info
distinct-last infos info = fold-append with_entry [] infos (info ∷ [])

pub entries-last : (names : List (List ℕ)) (ts : List Tree) (t : Tree) (infos : List (Option OpInfo)) (info : Option OpInfo)
    → AreEntries names ts infos → IsEntry names (operation_of t) info → AreEntries names (ts ++ t ∷ []) (infos ++ info ∷ [])
entries-last names [] t infos info h e = (info, [], rw h refl, e, refl)
entries-last names (u ∷ ts) t infos info h e = (h.0, h.1 ++ info ∷ [], ap (λ xs. xs ++ info ∷ []) h.2, h.3, entries-last names ts t h.1 info h.4 e)

pub is_marked : (names : List (List ℕ)) (found : List Bool) (o : Option Operation) (info : Option OpInfo)
    → length found ≡ length names → IsEntry names o info → IsMarked found info
is_marked names found None info e h = rw h tt
is_marked names found (Some o) info e h =
    let below : h.0.0 < length names = slice_get_within names h.0.0 o.name h.2 in
    rw h.1 (rw e below)

head_or : List ℕ → ℕ → ℕ
head_or [] d = d
head_or (x ∷ xs) d = x

tail_of : List ℕ → List ℕ
tail_of [] = []
tail_of (x ∷ xs) = xs

is_empty : List ℕ → Bool
is_empty [] = true
is_empty (x ∷ xs) = false

pub same_head : {x y : ℕ} {xs ys : List ℕ} → x ∷ xs ≡ y ∷ ys → x ≡ y
unfolding head_or
same_head {x = x} h = ap (λ l. head_or l x) h

pub same_tail : {x y : ℕ} {xs ys : List ℕ} → x ∷ xs ≡ y ∷ ys → xs ≡ ys
unfolding tail_of
same_tail h = ap tail_of h

pub cons_not_nil : {x : ℕ} {xs : List ℕ} → x ∷ xs ≡ [] → ⊥
unfolding is_empty
cons_not_nil h = cc

-- the last of forms that are held, and those before it
pub record HoldLast (names : List (List ℕ)) (nodes : List Node) (ks : List ℕ) (k : ℕ) (trees : List Tree) : Type 0 where
  pub before : List Tree
  pub last : Tree
  pub parts : trees ≡ before ++ last ∷ []
  pub held_before : HoldTrees names nodes ks before
  pub held_last : Holds names nodes k last

pub held-last : (names : List (List ℕ)) (nodes : List Node) (ks : List ℕ) (k : ℕ) (trees : List Tree)
    → HoldTrees names nodes (ks ++ k ∷ []) trees → HoldLast names nodes ks k trees
held-last names nodes [] k [] h = absurd (cons_not_nil h)
held-last names nodes [] k (t ∷ []) h = record { before = []; last = t; parts = refl; held_before = refl; held_last = subst (λ (j : ℕ). Holds names nodes j t) (sym (same_head h.2)) h.3 }
held-last names nodes [] k (t ∷ u ∷ us) h = absurd (cons_not_nil (sym (same_tail h.2 ∙ h.4.2)))
held-last names nodes (j ∷ ks) k [] h = absurd (cons_not_nil h)
held-last names nodes (j ∷ ks) k (t ∷ ts) h =
    let rest : HoldLast names nodes ks k ts = held-last names nodes ks k ts (subst (λ (xs : List ℕ). HoldTrees names nodes xs ts) (sym (same_tail h.2)) h.4) in
    record {
      before = t ∷ rest.before;
      last = rest.last;
      parts = ap (λ xs. t ∷ xs) rest.parts;
      held_before = (j, ks, refl, subst (λ (i : ℕ). Holds names nodes i t) (sym (same_head h.2)) h.3, rest.held_before);
      held_last = rest.held_last;
    }

-- ---- one more entry

some_bool : Option Bool → Bool
some_bool None = false
some_bool (Some b) = b

pub same_bool : {a b : Bool} → Some a ≡ Some b → a ≡ b
unfolding some_bool
same_bool h = ap some_bool h

pub kept : (ops infos : List OpInfo) (found : List Bool) (o : OpInfo) → ops ≡ builtin_entries ++ infos → Marks found infos
    → o.name.0 < length found → slice_get found o.name.0 ≡ Some true → IsAdded ops found (with_one infos o)
kept ops infos found o table marks below is =
    let has : has_name o.name.0 infos ≡ true = same_bool (sym (marks o.name.0 below) ∙ is) in
    rw has (record { table = table; marks = marks })

or_true : (x : Bool) → true ≡ (x || (true || false))
or_true true = refl
or_true false = refl

or_false : (x : Bool) → x ≡ (x || (false || false))
or_false true = refl
or_false false = refl

mark_put : (found : List Bool) (n k : ℕ) (x : Bool) → n < length found → get_or found k false ≡ x
    → ((eqb n k ≡ true) × (n ≡ k)) ⊎ ((eqb n k ≡ false) × (n ≢ k)) → get_or (set found n true) k false ≡ (x || (eqb n k || false))
mark_put found n k x below old (inl same) = rw same.0 (get_or-set_at found n k true false (sym same.1) below ∙ or_true x)
mark_put found n k x below old (inr other) = rw other.0 (get_or-set_other found n k true false (λ e. other.1 (sym e)) ∙ old ∙ or_false x)

marks_put : (infos : List OpInfo) (found : List Bool) (o : OpInfo) → Marks found infos → o.name.0 < length found
    → Marks (set found o.name.0 true) (infos ++ o ∷ [])
marks_put infos found o marks below k h =
    let h' : k < length found = rw length-set at h in
    let old : get_or found k false ≡ has_name k infos = same_bool (sym (slice_get-get_or found k false h') ∙ marks k h') in
    let put_ : get_or (set found o.name.0 true) k false ≡ (has_name k infos || (eqb o.name.0 k || false)) =
    mark_put found o.name.0 k (has_name k infos) below old (eqb_tells o.name.0 k) in
    slice_get-get_or (set found o.name.0 true) k false h ∙ ap (λ b. Some b) (put_ ∙ sym (list_any-append (λ e. e.name.0 == k) infos (o ∷ [])))

pub put : (ops infos : List OpInfo) (found : List Bool) (o : OpInfo) → ops ≡ builtin_entries ++ infos → Marks found infos
    → o.name.0 < length found → slice_get found o.name.0 ≡ Some false → IsAdded (ops ++ o ∷ []) (set found o.name.0 true) (with_one infos o)
put ops infos found o table marks below is =
    let has : has_name o.name.0 infos ≡ false = same_bool (sym (marks o.name.0 below) ∙ is) in
    let all : ops ++ o ∷ [] ≡ builtin_entries ++ (infos ++ o ∷ []) = ap (λ xs. xs ++ o ∷ []) table ∙ append_assoc builtin_entries infos (o ∷ []) in
    rw has (record { table = all; marks = marks_put infos found o marks below })

-- ---- the loop over the forms

pub table-init : (names : List (List ℕ)) (nodes : List Node) (ops : List OpInfo) (found : List Bool) → ops ≡ builtin_entries
    → found ≡ replicate (length names) false → IsTableSoFar names nodes [] ops found
table-init names nodes ops found table marks =
    record { room = rw marks (length-replicate (length names) false); made = first }
  where
    unmarked : (k : ℕ) → k < length found → slice_get found k ≡ Some (has_name k [])
    unmarked k below =
        let below' : k < length names = subst (λ (n : ℕ). k < n) (ap length marks ∙ length-replicate (length names) false) below in
        rw marks (slice_get-get_or (replicate (length names) false) k false (rw length-replicate below') ∙ ap (λ b. Some b) (get_or-replicate (length names) k false false below'))

    first : (trees : List Tree) → HoldTrees names nodes [] trees → (infos : List (Option OpInfo)) × AreEntries names trees infos × IsAdded ops found (distinct infos)
    first [] h = ([], refl, record { table = table; marks = λ k below. unmarked k below })
    first (t ∷ ts) h = absurd (cons_not_nil (sym h.2))

pub table-next : (names : List (List ℕ)) (nodes : List Node) (ks : List ℕ) (k : ℕ) (ops next_ops : List OpInfo) (found next_found : List Bool) (info : Option OpInfo)
    → IsTableSoFar names nodes ks ops found → ((t : Tree) → Holds names nodes k t → IsEntry names (operation_of t) info)
    → ((infos : List OpInfo) → ops ≡ builtin_entries ++ infos → Marks found infos → IsMarked found info → IsAdded next_ops next_found (with_entry infos info))
    → length next_found ≡ length found → IsTableSoFar names nodes (ks ++ k ∷ []) next_ops next_found
table-next names nodes ks k ops next_ops found next_found info so_far gives adds same =
    record {
      room = same ∙ so_far.room;
      made = λ trees h.
          let hl : HoldLast names nodes ks k trees = held-last names nodes ks k trees h in
          let m : (infos : List (Option OpInfo)) × AreEntries names hl.before infos × IsAdded ops found (distinct infos) = so_far.made hl.before hl.held_before in
          let e : IsEntry names (operation_of hl.last) info = gives hl.last hl.held_last in
          let entries : AreEntries names (hl.before ++ hl.last ∷ []) (m.0 ++ info ∷ []) = entries-last names hl.before hl.last m.0 info m.1 e in
          let added : IsAdded next_ops next_found (with_entry (distinct m.0) info) =
          adds (distinct m.0) m.2.table m.2.marks (is_marked names found (operation_of hl.last) info so_far.room e) in
          (m.0 ++ info ∷ [], subst (λ (ts : List Tree). AreEntries names ts (m.0 ++ info ∷ [])) (sym hl.parts) entries, rw (distinct-last m.0 info) added);
    }
