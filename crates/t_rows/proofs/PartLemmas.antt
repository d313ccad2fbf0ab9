-- Parts and names, one by one.
use Rattle.std.proofs.Common.{◌≡◌, ◌≢◌, ℕ, List, [], ◌∷◌, ◌++◌, length, map, refl, ap}
use Rattle.std.specs.List.{AllZip}
use Rattle.t_forms.specs.declared.arena.Cell.{Cell}
use Rattle.t_forms.specs.declared.scope.LocalName.{LocalName}
use Rattle.t_forms.specs.Data.{Datum, Name}
use Rattle.t_forms.specs.Held.{Held, IsName, AreNames}
use Rattle.t_rows.specs.declared.rows.Binds.{Binds}
use Rattle.t_rows.specs.declared.rows.Binds.TheVariants as binds
use Rattle.t_rows.specs.declared.rows.Part.{Part as CodePart}
use Rattle.t_rows.specs.Rows.{Part, inside}
use Rattle.t_rows.specs.Given.{AreBinds, AreOwn, IsPart, AreParts}

own_binds : (names : List (List ℕ)) (before : List Name) (b : Binds) (ns : List Name) → AreOwn names b ns → AreBinds names before b ns
own_binds names before (binds.Names ks) ns h = h
own_binds names before binds.AsBefore ns h = absurd h

pub zip_parts : (names : List (List ℕ)) (cells : List Cell) (before : List Name) (cs : List CodePart) (ps : List Part) → AllZip (IsPart names cells) cs ps → AreParts names cells before cs ps
zip_parts names cells before [] [] h = refl
zip_parts names cells before [] (p ∷ ps) h = absurd h
zip_parts names cells before (c ∷ cs) [] h = absurd h
zip_parts names cells before (c ∷ cs) (p ∷ ps) h =
    (c, cs, refl, (own_binds names before c.binds p.binds (h.0).0, (h.0).1), zip_parts names cells p.binds cs ps h.1)

-- ---- parts that all have the same names

-- one more part behind parts with these names
behind_same : {B : Type 0} (g : B → Datum) (names : List (List ℕ)) (cells : List Cell) (ns : List Name) (cs : List CodePart) (c : CodePart) (xs : List B) (d : Datum)
    → AreParts names cells ns cs (map (λ x. inside ns (g x)) xs) → AreBinds names ns c.binds ns → Held names cells c.form d
    → AreParts names cells ns (cs ++ c ∷ []) (map (λ x. inside ns (g x)) xs ++ inside ns d ∷ [])
behind_same g names cells ns cs c [] d h b k = rw h (c, [], refl, (b, k), refl)
behind_same g names cells ns cs c (x ∷ xs) d h b k = (h.0, h.1 ++ c ∷ [], ap (λ l. l ++ c ∷ []) h.2, h.3, behind_same g names cells ns h.1 c xs d h.4 b k)

-- one more part with these names, the first or behind another
pub one_more_same : {B : Type 0} (g : B → Datum) (names : List (List ℕ)) (cells : List Cell) (ns : List Name) (cs : List CodePart) (c : CodePart) (xs : List B) (d : Datum)
    → AreParts names cells [] cs (map (λ x. inside ns (g x)) xs) → ((before : List Name) → (length cs ≢ 0 → before ≡ ns) → AreBinds names before c.binds ns) → Held names cells c.form d
    → AreParts names cells [] (cs ++ c ∷ []) (map (λ x. inside ns (g x)) xs ++ inside ns d ∷ [])
one_more_same g names cells ns cs c [] d h b k = let none : length cs ≡ 0 = ap length h in rw h (c, [], refl, (b [] (λ some. absurd (some none)), k), refl)
one_more_same g names cells ns cs c (x ∷ xs) d h b k =
    (h.0, h.1 ++ c ∷ [], ap (λ l. l ++ c ∷ []) h.2, h.3, behind_same g names cells ns h.1 c xs d h.4 (b ns (λ some. refl)) k)

-- one more part that says that its names are those before
pub last_same : {B : Type 0} (g : B → Datum) (names : List (List ℕ)) (cells : List Cell) (ns : List Name) (cs : List CodePart) (form : ℕ) (x : B) (xs : List B) (d : Datum)
    → AreParts names cells [] cs (map (λ y. inside ns (g y)) (x ∷ xs)) → Held names cells form d
    → AreParts names cells [] (cs ++ record { binds = binds.AsBefore; form = form } ∷ []) (map (λ y. inside ns (g y)) (x ∷ xs) ++ inside ns d ∷ [])
last_same g names cells ns cs form x xs d h k =
    let c : CodePart = record { binds = binds.AsBefore; form = form } in
    (h.0, h.1 ++ c ∷ [], ap (λ l. l ++ c ∷ []) h.2, h.3, behind_same g names cells ns h.1 c xs d h.4 refl k)

pub zip_names : (names : List (List ℕ)) (ks : List LocalName) (ns : List Name) → AllZip (IsName names) ks ns → AreNames names ks ns
zip_names names [] [] h = tt
zip_names names [] (n ∷ ns) h = absurd h
zip_names names (k ∷ ks) [] h = absurd h
zip_names names (k ∷ ks) (n ∷ ns) h = (h.0, zip_names names ks ns h.1)
