-- The table ends on DO.
use Rattle.std.proofs.Common.{◌≡◌, ℕ, ◌+◌, ◌≤◌, List, [], ◌∷◌, ◌++◌, map, Some, refl, subst, arith}
use Rattle.std.specs.Prelude.{codes}
use Rattle.std.specs.List.{AllByRecursion}
use Rattle.std.specs.Option.{option_and_then}
use Rattle.std.proofs.lemmas.Option.{same_Some}
use Rattle.t_base.specs.declared.basics.Span.{Span}
use Rattle.t_objects.specs.declared.words.Word.TheVariants as word
use Rattle.t_reader.specs.Grammar.{Value}
use Rattle.t_forms.specs.declared.arena.New.TheVariants as new
use Rattle.t_forms.specs.Data.{Datum, items_of, listed, a_variable, all_of}
use Rattle.t_rows.specs.Rows.{word_, Step, step_of_items, steps_of, result_of, do_form, do_step, do_row, if_formed}
use Rattle.expand_laws.proofs.Reached.{HasBuiltinOps, HasMadeValues}
use Rattle.expand_laws.proofs.Sizes.{size, total}
use Rattle.expand_laws.proofs.Fine.{IsSmall, item_small, small_items}
use Rattle.expand_laws.proofs.Worths.{worth, worths, worth_listed, items_worth, worths_append}
use Rattle.expand_laws.proofs.Always.{Within, Always, AllAlways, RowWithin, more, row_more, refused, word_form, formed, weigh, all_append, all_mapped, all_each, all_found, through, found_weight}
use Rattle.expand_laws.proofs.Atoms.{nil_within, variable_always}
use Rattle.expand_laws.proofs.Calls.{call_form}
use Rattle.expand_laws.proofs.Blocks.{if_form, block_form}
use Rattle.expand_laws.proofs.Lets.{BindingWithin, pair_binding, bindings_listed, value_weight, listed_weight, iterate_with}
use Rattle.expand_laws.proofs.Below.{Below, AllItems, AllSmall, small_always, smalls_always, items_always}
use Rattle.expand_laws.proofs.LetRows.{weigh_worths}

-- the table ends on the parts of a step
record StepAlways (right : Value → Type 0) (x : Step) : Type 0 where
  name : Always right x.name
  first : Always right x.first
  next : Always right x.next

-- ... which are worth so much at most
record StepFits (right : Value → Type 0) (k : ℕ) (x : Step) : Type 0 where
  parts : StepAlways right x
  few : 32 + worth x.first + worth x.next ≤ k

step_small : (right : Value → Type 0) (n : ℕ) (ds : List Datum) (x : Step) → Below right n → AllSmall right n ds → step_of_items ds ≡ Some x → StepFits right (worths ds) x
step_small right n [] x below h e = cc
step_small right n (y ∷ []) x below h e = cc
step_small right n (y ∷ a ∷ []) x below h e =
    let hy = small_always right n y below h.0 in
    let made : StepFits right (worths (y ∷ a ∷ [])) (record { name = y; first = a; next = y }) =
    record { parts = record { name = hy; first = small_always right n a below h.1.0; next = hy }; few = omega arith } in
    subst (StepFits right (worths (y ∷ a ∷ []))) (same_Some (record { name = y; first = a; next = y }) x e) made
step_small right n (y ∷ a ∷ b ∷ []) x below h e =
    let made : StepFits right (worths (y ∷ a ∷ b ∷ [])) (record { name = y; first = a; next = b }) =
    record {
      parts = record { name = small_always right n y below h.0; first = small_always right n a below h.1.0; next = small_always right n b below h.1.1.0 };
      few = omega arith;
    } in
    subst (StepFits right (worths (y ∷ a ∷ b ∷ []))) (same_Some (record { name = y; first = a; next = b }) x e) made
step_small right n (y ∷ a ∷ b ∷ c ∷ ds) x below h e = cc

result_within : {right : Value → Type 0} → HasMadeValues right → (s : Span) (rs : List Datum) → AllAlways right rs → Within right (1 + worths rs) (result_of s rs)
result_within m s [] h = more (1 + worths []) (nil_within m s) (omega arith)
result_within {right} m s (r ∷ rs) h = block_form right s (r ∷ rs) h

pairs_ops : (right : Value → Type 0) (s : Span) (xs : List Step) → AllByRecursion (StepAlways right) xs → HasBuiltinOps (listed s (map (λ x. listed s (x.name ∷ x.first ∷ [])) xs))
pairs_ops right s [] h = tt
pairs_ops right s (x ∷ xs) h = ((h.0.name.ops, (h.0.first.ops, tt)), pairs_ops right s xs h.1)

pairs_weight : (s : Span) (xs : List Step)
    → weigh (value_weight (λ e. 16 + worth e)) (map (λ x. listed s (x.name ∷ x.first ∷ [])) xs) ≡ worths (map (λ x. x.first) xs)
pairs_weight s [] = refl
pairs_weight s (x ∷ xs) = let e = pairs_weight s xs in omega (arith, e)

-- the next turn: the body, then the call with the next values
turn_within : {right : Value → Type 0} → HasMadeValues right → (s : Span) (bs : List Datum) (xs : List Step) → AllAlways right bs → AllByRecursion (StepAlways right) xs
    → Within right (98 + worths bs + worths (map (λ x. x.next) xs)) (listed s (word_ s (codes "block") ∷ bs ++ listed s (a_variable s new.Turn ∷ map (λ x. x.next) xs) ∷ []))
turn_within {right} m s bs xs hb hx =
    let again = listed s (a_variable s new.Turn ∷ map (λ x. x.next) xs) in
    let nexts : AllAlways right (map (λ (x : Step). x.next) xs) =
    all_mapped (Always right) (λ (x : Step). x.next) xs (all_each (StepAlways right) (λ x. Always right x.next) (λ x h. h.next) xs hx) in
    let a = worth_listed s (map (λ x. x.next) xs) in
    let called : Always right again = more (worth again) (call_form m 1 s (a_variable s new.Turn) (map (λ x. x.next) xs) refl (variable_always m s new.Turn) nexts) (omega (arith, a)) in
    let b = worths_append bs (again ∷ []) in
    more (98 + worths bs + worths (map (λ x. x.next) xs)) (block_form right s (bs ++ again ∷ []) (all_append (Always right) bs (again ∷ []) hb (called, tt))) (omega (arith, a, b))

do_form_within : {right : Value → Type 0} → HasMadeValues right → (s : Span) (bs : List Datum) (xs : List Step) (t : Datum) (rs : List Datum) → AllAlways right bs
    → AllByRecursion (StepAlways right) xs → Always right t → AllAlways right rs
    → Within right (105 + worth t + worths rs + worths bs + worths (map (λ x. x.next) xs) + worths (map (λ x. x.first) xs)) (do_form s bs xs t rs)
do_form_within {right} m s bs xs t rs hb hx ht hr =
    let pairs = map (λ (x : Step). listed s (x.name ∷ x.first ∷ [])) xs in
    let turn = listed s (word_ s (codes "block") ∷ bs ++ listed s (a_variable s new.Turn ∷ map (λ x. x.next) xs) ∷ []) in
    let test = listed s (word_ s (codes "if") ∷ t ∷ result_of s rs ∷ turn ∷ []) in
    let most = 1 + worth t + (1 + worths rs) + (98 + worths bs + worths (map (λ x. x.next) xs)) in
    let tested : Within right most test = if_form s t (result_of s rs) turn ht (result_within m s rs hr) (turn_within m s bs xs hb hx) in
    let firsts : AllByRecursion (BindingWithin right worth) pairs =
    all_mapped (BindingWithin right worth) (λ (x : Step). listed s (x.name ∷ x.first ∷ [])) xs
    (all_each (StepAlways right) (λ x. BindingWithin right worth (listed s (x.name ∷ x.first ∷ []))) (λ x h. pair_binding right worth s x.name x.first h.first) xs hx) in
    let j = weigh (value_weight (λ e. 16 + worth e)) pairs in
    let w = pairs_weight s xs in
    more (105 + worth t + worths rs + worths bs + worths (map (λ x. x.next) xs) + worths (map (λ x. x.first) xs))
    (word_form right (5 + j + most) s (codes "iterate") word.Iterate (a_variable s new.Turn ∷ listed s pairs ∷ test ∷ []) refl (tt, (pairs_ops right s xs hx, (tested.ops, tt)))
    (λ scope. iterate_with m j most s (a_variable s new.Turn) (listed s pairs) test [] (bindings_listed right worth s pairs firsts)
    (listed_weight (λ e. 16 + worth e) s pairs) (tested.ops, tt) tested))
    (omega (arith, w))

-- the first values and the next ones
steps_weight : (xs : List Step) → worths (map (λ x. x.next) xs) + worths (map (λ x. x.first) xs) ≡ weigh (λ x. 32 + worth x.first + worth x.next) xs
steps_weight [] = omega arith
steps_weight (x ∷ xs) = let e = steps_weight xs in omega (arith, e)

do_step_ends : {right : Value → Type 0} → HasMadeValues right → (s : Span) (bs : List Datum) (xs : List Step) (es : List Datum) → AllAlways right bs
    → AllByRecursion (StepAlways right) xs → AllAlways right es
    → RowWithin right (105 + worths es + worths bs + weigh (λ x. 32 + worth x.first + worth x.next) xs) (do_step s bs xs es)
do_step_ends m s bs xs [] hb hx he = refused (omega arith)
do_step_ends m s bs xs (t ∷ rs) hb hx he =
    let w = steps_weight xs in
    more (105 + worths (t ∷ rs) + worths bs + weigh (λ x. 32 + worth x.first + worth x.next) xs) (do_form_within m s bs xs t rs hb hx he.0 he.1) (omega (arith, w))

pub do_row_ends : {right : Value → Type 0} → HasMadeValues right → (n : ℕ) (s : Span) (ds : List Datum) → Below right n → AllItems right ds → total ds ≤ n
    → RowWithin right (112 + worths ds) (do_row s ds)
do_row_ends m n s [] below h l = refused (omega arith)
do_row_ends m n s (d ∷ []) below h l = refused (omega arith)
do_row_ends {right} m n s (d ∷ e ∷ bs) below h l = formed right (112 + worths (d ∷ e ∷ bs)) s (λ xs. if_formed s (do_step s bs xs) (items_of e)) (steps_of d) (omega arith) steps
  where
    fits : (i : Datum) → IsSmall right n i → (y : Step) → option_and_then step_of_items (items_of i) ≡ Some y → StepFits right (16 + worth i) y
    fits i k y f =
        let g = through step_of_items (items_of i) y f in
        let w = items_worth i g.got g.is in
        let v = step_small right n g.got y below (small_items right n i g.got k g.is) g.gives in
        let few = v.few in
        record { parts = v.parts; few = omega (arith, w, few) }

    steps : (xs : List Step) → steps_of d ≡ Some xs → RowWithin right (112 + worths (d ∷ e ∷ bs)) (if_formed s (do_step s bs xs) (items_of e))
    steps xs f =
        let k : size d ≤ n = omega (arith, l) in
        let j : size e ≤ n = omega (arith, l) in
        let i : total bs ≤ n = omega (arith, l) in
        let g = through (λ ds. all_of (map (λ i. option_and_then step_of_items (items_of i)) ds)) (items_of d) xs f in
        let small = item_small right n d g.got h.0 k g.is in
        let hx : AllByRecursion (StepAlways right) xs =
        all_found (IsSmall right n) (StepAlways right) (λ i. option_and_then step_of_items (items_of i)) (λ i q y f. let v = fits i q y f in v.parts) g.got xs small g.gives in
        let weight =
        found_weight (IsSmall right n) (λ i. 16 + worth i) (λ x. 32 + worth x.first + worth x.next) (λ i. option_and_then step_of_items (items_of i))
        (λ i q y f. let v = fits i q y f in v.few) g.got xs small g.gives in
        let a = items_worth d g.got g.is in
        let c = weigh_worths g.got in
        formed right (112 + worths (d ∷ e ∷ bs)) s (do_step s bs xs) (items_of e) (omega arith)
        (λ es z.
        let b = items_worth e es z in
        row_more right (105 + worths es + worths bs + weigh (λ x. 32 + worth x.first + worth x.next) xs) (112 + worths (d ∷ e ∷ bs)) (do_step s bs xs es)
        (do_step_ends m s bs xs es (items_always right n bs below h.1.1 i) hx (smalls_always right n es below (item_small right n e es h.1.0 j z))) (omega (arith, weight, a, b, c)))
