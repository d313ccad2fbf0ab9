-- The table of operations that is given is that of the unit, where nothing is refused.
use Rattle.std.proofs.Common.{◌≡◌, ◌≢◌, ℕ, ◌==◌, Bool, true, false, not, ◌||◌, is_some, List, [], ◌∷◌, ◌++◌, map, fold, Option, Some, None, slice_get, AllPairs, refl, sym, ap, subst, ◌∙◌, append_assoc, if◌then◌else◌}
use Rattle.std.specs.Prelude.{codes}
use Rattle.std.specs.List.{filter}
use Rattle.std.specs.Option.{option_map}
use Rattle.std.proofs.lemmas.List.{append-nil}
use Rattle.std.proofs.lemmas.List.Folds.{list_any-append}
use Rattle.std.proofs.lemmas.Slice.Eq.{bytes_eq-Decides}
use Rattle.t_base.specs.declared.basics.Name.{Name as NamePlace}
use Rattle.t_base.specs.declared.shared_parts.OpInfo.{OpInfo}
use Rattle.t_reader.specs.Grammar.{Tree, leaf, pair, fix, char, nil, truth, string, symbol}
use Rattle.t_reader.specs.Unit.{fixed_names}
use Rattle.t_objects.specs.Lists.{word_of as text_word}
use Rattle.t_objects.specs.Words.{word_named}
use Rattle.t_objects.specs.Operations.{operation_of, operation_behind, defines_operation, IsEntry, AreEntries, builtin_entries, builtin_entry, has_name, with_one, with_entry, distinct, IsTableOf}
use Rattle.t_forms.specs.Data.{Datum, datum_of, items_of, written, is_same_name}
use Rattle.t_forms.proofs.Bindings.{one_place, same_place}
use Rattle.t_rows.specs.declared.refusal.Refusal.{Refusal}
use Rattle.t_rows.specs.Rows.{Definition, define, lset, operation_form}
use Rattle.expansion.specs.Refusals.{RefusedIn}
use Rattle.expansion.specs.Settling.{has_default}
use Rattle.expansion.specs.Units.{Top, defining, broken, expression, Entry, entry, defined_name, has_entry, is_global, is_herald_items, top_of, tops_of, text_of, texts, entries_of, definitions_of}
use Rattle.expand_laws.proofs.Numbering.{definitions, AreNew, all_clean, all_new, entries_are}
use Rattle.expand_laws.proofs.OneTop.{IsFineTop}
use Rattle.expand_laws.proofs.Tables.{AreFine}
use Rattle.expand_laws.proofs.UnitTables.{AreOps, AreUnitOps}
use Rattle.t_expand.proofs.OperationLemmas.{operation_in, operation_same}

head_is : {A : Type 0} (x y : A) (xs ys : List A) → x ∷ xs ≡ y ∷ ys → x ≡ y
head_is x y xs ys e = cc

tail_is : {A : Type 0} (x y : A) (xs ys : List A) → x ∷ xs ≡ y ∷ ys → xs ≡ ys
tail_is x y xs ys e = cc

some_none : {A : Type 0} (x : A) (xs : List A) → x ∷ xs ≡ [] → ⊥
some_none x xs e = cc

neither : (a b : Bool) → (a || (b || false)) ≡ false → (a ≡ false) × (b ≡ false)
neither true b e = absurd (let x : ⊥ = cc in x)
neither false true e = absurd (let x : ⊥ = cc in x)
neither false false e = (refl, refl)

both_false : (a b : Bool) → a ≡ false → b ≡ false → (a || (b || false)) ≡ false
both_false a b e f = rw (e, f) refl

-- the entries that are there
abbrev entries_there : List (Option OpInfo) → List OpInfo
entries_there [] = []
entries_there (None ∷ infos) = entries_there infos
entries_there (Some o ∷ infos) = o ∷ entries_there infos

abbrev an_info : ℕ → Bool → OpInfo
an_info k default = record { name = record { 0 = k }; default = default }

abbrev tops : List Tree → List Top
tops trees = map top_of (map datum_of trees)

module _ (names : List (List ℕ)) (apart : AllPairs (λ a b. a ≢ b) names) where
  -- ---- each name is new

  -- a name without an entry of the unit has none in the table
  abbrev Follows : List Entry → List OpInfo → Type 0
  Follows es acc = (p : ℕ) (text : List ℕ) → slice_get names p ≡ Some text → has_entry (written text) es ≡ false → has_name p acc ≡ false

  follows_other : (es : List Entry) (acc : List OpInfo) (d : Definition) → Follows es acc → Follows (es ++ entry d ∷ []) acc
  follows_other es acc d f p text at e =
      f p text at
      (neither (has_entry (written text) es) (is_same_name (defined_name d).name (written text))
      (sym (list_any-append (λ x. is_same_name x.name (written text)) es (entry d ∷ [])) ∙ e)).0

  follows_op : (es : List Entry) (acc : List OpInfo) (d : Definition) (o : OpInfo) (t : List ℕ) → (defined_name d).name ≡ written t → slice_get names o.name.0 ≡ Some t
      → Follows es acc → Follows (es ++ entry d ∷ []) (acc ++ o ∷ [])
  follows_op es acc d o t is here f p text at e =
      let both = neither (has_entry (written text) es) (is_same_name (defined_name d).name (written text))
      (sym (list_any-append (λ x. is_same_name x.name (written text)) es (entry d ∷ [])) ∙ e) in
      let other : (o.name.0 == p) ≡ false =
      same_place names o.name.0 p t text apart here at ∙ ap (λ n. is_same_name n (written text)) (sym is) ∙ both.1 in
      list_any-append (λ x. x.name.0 == p) acc (o ∷ []) ∙ both_false (has_name p acc) (o.name.0 == p) (f p text at both.0) other

  put_last : (acc : List OpInfo) (o : OpInfo) (b : Bool) → has_name o.name.0 acc ≡ b → b ≡ false → with_one acc o ≡ acc ++ o ∷ []
  put_last acc o true e f = absurd (let x : ⊥ = cc in x)
  put_last acc o false e f = rw e refl

  abbrev Goes : List Top → List (Option OpInfo) → Type 0
  Goes ts infos = (es : List Entry) (acc : List OpInfo) → AreNew es (definitions ts) → Follows es acc → fold with_entry acc infos ≡ acc ++ entries_there infos

  one_kept : (es : List Entry) (acc : List OpInfo) (t : Top) (ts : List Top) (info : Option OpInfo) (infos : List (Option OpInfo)) → IsFineTop names t
      → IsEntry names (operation_in t) info → AreNew es (definitions (t ∷ ts)) → Follows es acc → Goes ts infos
      → fold with_entry acc (info ∷ infos) ≡ acc ++ entries_there (info ∷ infos)
  one_kept es acc (defining (define b d)) ts info infos fine is new f goes =
      rw is (goes (es ++ entry (define b d) ∷ []) acc new.1 (follows_other es acc (define b d) f))
  one_kept es acc (defining (lset b d)) ts info infos fine is new f goes =
      rw is (goes (es ++ entry (lset b d) ∷ []) acc new.1 (follows_other es acc (lset b d) f))
  one_kept es acc (defining (operation_form b ps d)) ts info infos fine is new f goes =
      let o : OpInfo = record { name = is.0; default = is_some d } in
      let there : slice_get names is.0.0 ≡ Some fine.0.text = is.2 ∙ ap (λ n. Some (text_of n)) fine.0.is in
      let free : has_name is.0.0 acc ≡ false = f is.0.0 fine.0.text there (ap (λ n. has_entry n es) (sym fine.0.is) ∙ new.0) in
      let more : fold with_entry (acc ++ o ∷ []) infos ≡ (acc ++ o ∷ []) ++ entries_there infos =
      goes (es ++ entry (operation_form b ps d) ∷ []) (acc ++ o ∷ []) new.1 (follows_op es acc (operation_form b ps d) o fine.0.text fine.0.is there f) in
      rw is.1 (ap (λ l. fold with_entry l infos) (put_last acc o (has_name is.0.0 acc) refl free) ∙ more ∙ append_assoc acc (o ∷ []) (entries_there infos))
  one_kept es acc (broken s) ts info infos fine is new f goes = rw is (goes es acc new f)
  one_kept es acc (expression d) ts info infos fine is new f goes = rw is (goes es acc new f)

  all_kept : (trees : List Tree) (infos : List (Option OpInfo)) → AreFine names (tops trees) → AreEntries names trees infos → Goes (tops trees) infos
  all_kept [] infos fine are es acc new f = rw are (sym (append-nil acc))
  all_kept (t ∷ trees) infos fine are es acc new f =
      rw are.2
      (one_kept es acc (top_of (datum_of t)) (tops trees) are.0 are.1 fine.0 (subst (λ x. IsEntry names x are.0) (sym (operation_same t)) are.3) new f
      (all_kept trees are.1 fine.1 are.4))

  -- ---- the same entries

  same_op : (o : OpInfo) (n : NamePlace) (default : Bool) (t : List ℕ) → slice_get names o.name.0 ≡ Some t → slice_get names n.0 ≡ Some t → o.default ≡ default
      → o ≡ record { name = n; default = default }
  same_op o n default t at there e =
      ap (λ (k : ℕ). an_info k o.default) (one_place names o.name.0 n.0 t apart at there) ∙ ap (λ (b : Bool). an_info n.0 b) e

  abbrev Same : List Top → List (Option OpInfo) → Type 0
  Same ts infos = (os : List OpInfo) → AreOps names (map entry (definitions ts)) os → os ≡ entries_there infos

  one_same : (t : Top) (ts : List Top) (info : Option OpInfo) (infos : List (Option OpInfo)) → IsEntry names (operation_in t) info → Same ts infos
      → Same (t ∷ ts) (info ∷ infos)
  one_same (defining (define b d)) ts info infos is same os are = rw is (same os (record { named = are.named; defaults = are.defaults }))
  one_same (defining (lset b d)) ts info infos is same os are = rw is (same os (record { named = are.named; defaults = are.defaults }))
  one_same (defining (operation_form b ps d)) ts info infos is same [] are = absurd (some_none _ _ are.named)
  one_same (defining (operation_form b ps d)) ts info infos is same (o ∷ os) are =
      let first : o ≡ record { name = is.0; default = is_some d } =
      same_op o is.0 (is_some d) (text_of b.name) (sym (head_is _ _ _ _ are.named)) is.2 (head_is _ _ _ _ are.defaults) in
      let others : os ≡ entries_there infos = same os (record { named = tail_is _ _ _ _ are.named; defaults = tail_is _ _ _ _ are.defaults }) in
      rw is.1 (ap (λ x. x ∷ os) first ∙ ap (λ l. record { name = is.0; default = is_some d } ∷ l) others)
  one_same (broken s) ts info infos is same os are = rw is (same os are)
  one_same (expression d) ts info infos is same os are = rw is (same os are)

  all_same : (trees : List Tree) (infos : List (Option OpInfo)) → AreEntries names trees infos → Same (tops trees) infos
  all_same [] infos are [] ops = rw are refl
  all_same [] infos are (o ∷ os) ops = absurd (some_none _ _ (sym ops.named))
  all_same (t ∷ trees) infos are os ops =
      rw are.2
      (one_same (top_of (datum_of t)) (tops trees) are.0 are.1 (subst (λ x. IsEntry names x are.0) (sym (operation_same t)) are.3)
      (all_same trees are.1 are.4) os ops)

  -- ---- without the herald

  herald_word : (operator : Tree) (ds : List Datum) → is_herald_items (Some (datum_of operator ∷ ds)) ≡ true → text_word operator ≡ None
  herald_word (leaf s (fix z)) ds e = refl
  herald_word (leaf s (char c)) ds e = refl
  herald_word (leaf s nil) ds e = refl
  herald_word (leaf s truth) ds e = refl
  herald_word (leaf s (string bytes)) ds e = refl
  herald_word (leaf s (symbol text)) ds e = ap word_named ((bytes_eq-Decides text (codes "herald")).0 e)
  herald_word (pair s head tail) ds e = refl

  herald_none : (t : Tree) → is_herald_items (items_of (datum_of t)) ≡ true → operation_of t ≡ None
  herald_none (leaf s v) e = refl
  herald_none (pair s operator rest) e = by (items_of (datum_of rest)) e
    where
      by : (o : Option (List Datum)) → is_herald_items (option_map (λ items. datum_of operator ∷ items) o) ≡ true → operation_of (pair s operator rest) ≡ None
      by None f = absurd (let x : ⊥ = cc in x)
      by (Some ds) f = ap (λ w. if defines_operation w then operation_behind rest else None) (herald_word operator ds f)

  -- the data behind the herald, whose entries are the same
  record IsBehind (trees : List Tree) (infos : List (Option OpInfo)) : Type 0 where
    rest : List Tree
    left : List (Option OpInfo)
    is : tops_of (map datum_of trees) ≡ tops rest
    entries : AreEntries names rest left
    same : distinct infos ≡ distinct left

  behind : (trees : List Tree) (infos : List (Option OpInfo)) → AreEntries names trees infos → IsBehind trees infos
  behind [] infos are = record { rest = []; left = infos; is = refl; entries = are; same = refl }
  behind (t ∷ trees) infos are = by (is_herald_items (items_of (datum_of t))) refl
    where
      by : (b : Bool) → is_herald_items (items_of (datum_of t)) ≡ b → IsBehind (t ∷ trees) infos
      by true e =
          let none : are.0 ≡ None = subst (λ x. IsEntry names x are.0) (herald_none t e) are.3 in
          record {
            rest = trees;
            left = are.1;
            is = rw e refl;
            entries = are.4;
            same = ap distinct are.2 ∙ ap (λ (x : Option OpInfo). distinct (x ∷ are.1)) none;
          }
      by false e = record { rest = t ∷ trees; left = infos; is = rw e refl; entries = are; same = refl }

  -- ---- the unit

  builtin_same : (a b c : OpInfo) (os : List OpInfo) (others ns : List (List ℕ)) (ds : List Bool) → names ≡ fixed_names ++ others
      → map (λ text. Some text) (codes "setter" ∷ codes "contents" ∷ codes "set-contents" ∷ ns) ≡ map (λ (o : OpInfo). slice_get names o.name.0) (a ∷ b ∷ c ∷ os)
      → map (λ (o : OpInfo). o.default) (a ∷ b ∷ c ∷ os) ≡ false ∷ false ∷ false ∷ ds → a ∷ b ∷ c ∷ os ≡ builtin_entries ++ os
  builtin_same a b c os others ns ds begin named defaults =
      let n2 = tail_is _ _ _ _ named in
      let d2 = tail_is _ _ _ _ defaults in
      let first : a ≡ builtin_entry 0 =
      same_op a (record { 0 = 0 }) false (codes "setter") (sym (head_is _ _ _ _ named)) (ap (λ l. slice_get l 0) begin) (head_is _ _ _ _ defaults) in
      let second : b ≡ builtin_entry 1 =
      same_op b (record { 0 = 1 }) false (codes "contents") (sym (head_is _ _ _ _ n2)) (ap (λ l. slice_get l 1) begin) (head_is _ _ _ _ d2) in
      let third : c ≡ builtin_entry 2 =
      same_op c (record { 0 = 2 }) false (codes "set-contents") (sym (head_is _ _ _ _ (tail_is _ _ _ _ n2))) (ap (λ l. slice_get l 2) begin)
      (head_is _ _ _ _ (tail_is _ _ _ _ d2)) in
      rw (first, second, third) refl

  given_ops : (es : List Entry) (ops behind : List OpInfo) (others : List (List ℕ)) → names ≡ fixed_names ++ others → AreUnitOps names es ops
      → ((os : List OpInfo) → AreOps names es os → os ≡ behind) → ops ≡ builtin_entries ++ behind
  given_ops es [] behind others begin are same = absurd (some_none _ _ are.named)
  given_ops es (a ∷ []) behind others begin are same = absurd (some_none _ _ (tail_is _ _ _ _ are.named))
  given_ops es (a ∷ b ∷ []) behind others begin are same = absurd (some_none _ _ (tail_is _ _ _ _ (tail_is _ _ _ _ are.named)))
  given_ops es (a ∷ b ∷ c ∷ os) behind others begin are same =
      builtin_same a b c os others (texts (filter (λ x. not (is_global x.by)) es)) (map (λ x. has_default x.by) (filter (λ x. not (is_global x.by)) es)) begin are.named are.defaults
      ∙ ap (λ l. builtin_entries ++ l)
      (same os
      (record {
        named = tail_is _ _ _ _ (tail_is _ _ _ _ (tail_is _ _ _ _ are.named));
        defaults = tail_is _ _ _ _ (tail_is _ _ _ _ (tail_is _ _ _ _ are.defaults));
      }))

  pub table_same : (trees : List Tree) (others : List (List ℕ)) (ops table : List OpInfo) → names ≡ fixed_names ++ others
      → AreFine names (tops_of (map datum_of trees)) → ((r : Refusal) → RefusedIn (tops_of (map datum_of trees)) r → ⊥)
      → AreUnitOps names (entries_of (tops_of (map datum_of trees))) ops → IsTableOf names trees table → ops ≡ table
  table_same trees others ops table begin fine none are is =
      let b = behind trees is.infos is.entries in
      let ts = tops_of (map datum_of trees) in
      let new : AreNew [] (definitions ts) = all_new (definitions_of ts) [] [] ts (λ n. refl) (all_clean (definitions_of ts) ts none) in
      let kept : distinct b.left ≡ entries_there b.left =
      all_kept b.rest b.left (subst (AreFine names) b.is fine) b.entries [] [] (subst (λ l. AreNew [] (definitions l)) b.is new) (λ p text at e. refl) in
      let same : (os : List OpInfo) → AreOps names (entries_of ts) os → os ≡ entries_there b.left =
      λ os h. all_same b.rest b.left b.entries os (subst (λ l. AreOps names (map entry (definitions l)) os) b.is (subst (λ l. AreOps names l os) (entries_are ts new) h)) in
      given_ops (entries_of ts) ops (entries_there b.left) others begin are same ∙ ap (λ l. builtin_entries ++ l) (sym kept ∙ sym b.same) ∙ sym is.table
