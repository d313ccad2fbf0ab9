-- Names that stand twice.
use Rattle.std.proofs.Common.{◌≡◌, ◌≢◌, ℕ, Bool, true, false, ◌||◌, List, [], ◌∷◌, ◌++◌, AllPairs, if◌then◌else◌, refl, sym, ap, ◌∙◌, append_assoc}
use Rattle.std.proofs.lemmas.List.{append-nil}
use Rattle.std.specs.List.{AllZip, list_any}
use Rattle.t_forms.specs.declared.scope.LocalName.{LocalName}
use Rattle.t_forms.specs.Data.{Name, Binder, is_same_name}
use Rattle.t_forms.specs.Held.{IsName}
use Rattle.t_forms.specs.Lookup.{is_same_key}
use Rattle.t_forms.proofs.Bindings.{same_key}
use Rattle.t_rows.specs.declared.names.Binder.{Binder as CodeBinder}
use Rattle.t_rows.specs.declared.refusal.Refusal.{Refusal}
use Rattle.t_rows.specs.declared.refusal.SyntaxKind.TheVariants.{ParamTwice}
use Rattle.t_rows.specs.Bindings.{IsBinder}
use Rattle.t_rows.specs.Rows.{refusal, twice, twice_after}
use Rattle.t_rows.proofs.ZipLemmas.{ZipLast, zip_last}

-- the names of binders before others
onto : List Name → List Binder → List Name
onto before [] = before
onto before (b ∷ bs) = onto (b.name ∷ before) bs

-- what is refused of a binder with these names before it
of_one : List Name → Binder → List Refusal
of_one before b = if list_any (is_same_name b.name) before then refusal ParamTwice b.at ∷ [] else []

after_last : (before : List Name) (bs : List Binder) (b : Binder) → twice_after before (bs ++ b ∷ []) ≡ twice_after before bs ++ of_one (onto before bs) b
unfolding onto of_one
after_last before [] b = append-nil _
after_last before (a ∷ bs) b =
    ap (λ rs. (if list_any (is_same_name a.name) before then refusal ParamTwice a.at ∷ [] else []) ++ rs) (after_last (a.name ∷ before) bs b)
    ∙ sym (append_assoc (if list_any (is_same_name a.name) before then refusal ParamTwice a.at ∷ [] else []) (twice_after (a.name ∷ before) bs) _)

swapped : (x y z : Bool) → (x || (y || z)) ≡ ((y || x) || z)
swapped true true z = refl
swapped true false z = refl
swapped false true z = refl
swapped false false z = refl

right_false : (x : Bool) → (x || false) ≡ x
right_false true = refl
right_false false = refl

any_onto : (p : Name → Bool) (before : List Name) (bs : List Binder) → list_any p (onto before bs) ≡ (list_any (λ b. p b.name) bs || list_any p before)
unfolding onto
any_onto p before [] = refl
any_onto p before (b ∷ bs) = any_onto p (b.name ∷ before) bs ∙ swapped (list_any (λ x. p x.name) bs) (p b.name) (list_any p before)

same_any : (texts : List (List ℕ)) (cs : List CodeBinder) (bs : List Binder) (k : LocalName) (n : Name) → AllPairs (λ a b. a ≢ b) texts → AllZip (IsBinder texts) cs bs → IsName texts k n
    → list_any (λ c. is_same_key k c.name) cs ≡ list_any (λ b. is_same_name n b.name) bs
same_any texts [] [] k n apart h is = refl
same_any texts [] (b ∷ bs) k n apart h is = absurd h
same_any texts (c ∷ cs) [] k n apart h is = absurd h
same_any texts (c ∷ cs) (b ∷ bs) k n apart h is = rw (same_key texts k c.name n b.name apart is h.0.1, same_any texts cs bs k n apart h.1 is) refl

-- what is refused so far
pub record AreTwice (texts : List (List ℕ)) (cs : List CodeBinder) (rs : List Refusal) : Type 0 where
  pub are : (bs : List Binder) → AllPairs (λ a b. a ≢ b) texts → AllZip (IsBinder texts) cs bs → rs ≡ twice bs

pub twice_none : (texts : List (List ℕ)) → AreTwice texts [] []
twice_none texts = record { are = λ bs apart h. none bs h }
  where
    none : (bs : List Binder) → AllZip (IsBinder texts) [] bs → [] ≡ twice bs
    none [] h = refl
    none (b ∷ bs) h = absurd h

any_before : (texts : List (List ℕ)) (cs : List CodeBinder) (bs : List Binder) (c : CodeBinder) (b : Binder) → AllPairs (λ a b. a ≢ b) texts → AllZip (IsBinder texts) cs bs → IsBinder texts c b
    → list_any (λ x. is_same_key c.name x.name) cs ≡ list_any (is_same_name b.name) (onto [] bs)
any_before texts cs bs c b apart h is =
    same_any texts cs bs c.name b.name apart h is.1 ∙ sym (any_onto (is_same_name b.name) [] bs ∙ right_false (list_any (λ x. is_same_name b.name x.name) bs))

twice_last : (bs before : List Binder) (b : Binder) (rs one : List Refusal) → bs ≡ before ++ b ∷ [] → rs ≡ twice before → of_one (onto [] before) b ≡ one → rs ++ one ≡ twice bs
twice_last bs before b rs one p so_far e =
    ap (λ x. x ++ one) so_far ∙ ap (λ x. twice before ++ x) (sym e) ∙ sym (after_last [] before b) ∙ sym (ap twice p)

-- what is refused of a binder, as the code finds it
abbrev pub refused : List CodeBinder → CodeBinder → List Refusal
refused cs c = if list_any (λ x. is_same_key c.name x.name) cs then refusal ParamTwice c.at ∷ [] else []

same_one : (cs : List CodeBinder) (c : CodeBinder) (before : List Name) (b : Binder) → list_any (λ x. is_same_key c.name x.name) cs ≡ list_any (is_same_name b.name) before → c.at ≡ b.at
    → of_one before b ≡ refused cs c
unfolding of_one
same_one cs c before b e p = rw (e, p) refl

pub twice_step : (texts : List (List ℕ)) (cs : List CodeBinder) (c : CodeBinder) (rs : List Refusal) → AreTwice texts cs rs → AreTwice texts (cs ++ c ∷ []) (rs ++ refused cs c)
twice_step texts cs c rs so_far = record {
  are = λ bs apart h.
      let l : ZipLast (IsBinder texts) cs c bs = zip_last (IsBinder texts) cs c bs h in
      twice_last bs l.before l.last rs (refused cs c) l.parts (so_far.are l.before apart l.zip_before)
      (same_one cs c (onto [] l.before) l.last (any_before texts cs l.before c l.last apart l.zip_before l.zip_last) l.zip_last.0);
}
