-- The whole layout, with what makes the frames whole.
use Rattle.std.specs.Prelude.{◌≢◌, AllPairs, Contains, IsSomeAnd}
use Rattle.std.specs.List.{AllByRecursion, flat_map}
use Rattle.std.proofs.Common.{◌≡◌, ℕ, suc, ◌+◌, ◌<◌, ◌≤◌, false, List, [], ◌∷◌, ◌++◌, length, slice_get, Option, Some, None, refl, sym, ap, subst, ◌∙◌, arith}
use Rattle.std.proofs.lemmas.List.Elements.{All-from_recursion}
use Rattle.std.proofs.lemmas.Option.{slice_get_within}
use Rattle.cps_ir.proofs.ProperLists.{each_more, each_joined}
use Rattle.t_base.specs.declared.basics.Var.{Var}
use Rattle.cps_ir.specs.declared.terms.Cps.{Cps}
use Rattle.cps_ir.specs.Parts.{first_lams, is_assigned}
use Rattle.cps_ir.specs.Whole.{IsWhole}
use Rattle.frame_ir.specs.declared.forms.Block.{Block}
use Rattle.frame_ir.specs.declared.forms.Frames.{Frames}
use Rattle.frame_ir.specs.declared.forms.Template.{Template}
use Rattle.frame_ir.specs.Parts.{arms_of, all_arms, block_binds, method_codes}
use Rattle.frame_ir.specs.Whole.{IsBlock, IsTemplate, HasParams, IsMethodCount}
use Rattle.layout_relation.specs.Links.{IsIn, first, later}
use Rattle.layout_relation.specs.Laid.{IsLaidOut, AreDistinct}
use Rattle.layout_laws.specs.Wholeness.{AreTemplates, DistinctArmsAreOwn}
use Rattle.layout_tables.specs.declared.tables.Tables.{Tables}
use Rattle.layout_tables.specs.declared.requests.Work.{Work}
use Rattle.layout_tables.specs.declared.requests.Request.TheVariants as For
use Rattle.layout_tables.specs.Around.{Around}
use Rattle.layout_tables.specs.Sketches.{lam_needs}
use Rattle.layout_tables.specs.Additions.{Adds, Rises, SeesBelow, arms_from}
use Rattle.layout_tables.proofs.Adding.{adds_more}
use Rattle.closure_layout.specs.Blocks.{AreLaid, StandFirst, IsLayout, IsOpIn, IsWholeTemplate, bound_in, arms_in}
use Rattle.closure_layout.proofs.Rising.{rising_apart, bound_blocks, arms_blocks, arms_distinct, arm_listed}
use Rattle.closure_layout.proofs.Finishing.{laid_out}

contains_in : {X : Type 0} (x : X) (xs : List X) → IsIn x xs → Contains xs x
contains_in x xs (first y ys) = (0, omega arith, refl)
contains_in x xs (later y z ys i) = let c = contains_in x ys i in (suc c.0, (let lt = c.1 in omega (arith, lt)), c.2)

abbrev BindOnce : List Block → Type 0
BindOnce bs = AllPairs (λ x y. x ≢ y) (flat_map block_binds bs)

plain : (k : ℕ) → 0 + k ≡ k
plain k = omega arith

block_there : (p : Frames) (k : ℕ) → HasParams p IsMethodCount k → IsBlock p k
block_there p k h = by (slice_get p.blocks.items k) refl h
  where
    by : (o : Option Block) → slice_get p.blocks.items k ≡ o → IsSomeAnd o (λ (b : Block). IsMethodCount (length b.params)) → k < length p.blocks.items
    by None e h = absurd h
    by (Some b) e h = slice_get_within p.blocks.items k b e

whole_templates : (p : Frames) → AllByRecursion (IsWholeTemplate p) p.templates.items → AreTemplates p
whole_templates p h = record {
  named = All-from_recursion (IsTemplate p) p.templates.items
      (each_more (IsWholeTemplate p) (IsTemplate p) p.templates.items (λ t g. (All-from_recursion (IsOpIn p) t.ops g.ops, All-from_recursion (IsBlock p) t.codes (each_more (HasParams p IsMethodCount) (IsBlock p) t.codes (block_there p) g.codes))) h);
  together = All-from_recursion (λ (t : Template). length t.ops ≡ length t.codes) p.templates.items (each_more (IsWholeTemplate p) (λ (t : Template). length t.ops ≡ length t.codes) p.templates.items (λ t g. g.together) h);
  methods = All-from_recursion (HasParams p IsMethodCount) (method_codes p)
      (each_joined (λ (t : Template). t.codes) (HasParams p IsMethodCount) p.templates.items (each_more (IsWholeTemplate p) (λ (t : Template). AllByRecursion (HasParams p IsMethodCount) t.codes) p.templates.items (λ t g. g.codes) h));
}

-- all that is asked for at first sees only variables that there are
pub all_see : (zero two : Work) → zero.requests.items ≡ [] → Adds zero two [] [] → AllByRecursion (SeesBelow two.next) two.requests.items
all_see zero two empty adds = subst (AllByRecursion (SeesBelow two.next)) (sym (adds.requests ∙ ap (λ rs. rs ++ adds.added) empty)) adds.sees

module _ (cps : Cps) (w : Tables) where
  pub is_layout : (zero one two three : Work) (p : Frames) (blocks : List Block) (vars : List Var) (site : Around) → IsWhole cps → DistinctArmsAreOwn → w.first ≡ first_lams cps → ((l : ℕ) → length (lam_needs w l) ≤ cps.shared.size) → StandFirst w w.first one.requests.items
      → two.requests.items ≡ one.requests.items ++ For.Begins vars site cps.entry ∷ [] → p.entry ≡ length one.requests.items → vars ≡ [] → site ≡ record { joins = []; own = None; catches = [] } → AreLaid cps w two three blocks → p.blocks.items ≡ blocks → p.templates.items ≡ three.templates.items
      → p.shared ≡ cps.shared → ((x : ℕ) → is_assigned cps x ≡ false) → zero.requests.items ≡ [] → AllByRecursion (IsWholeTemplate p) p.templates.items → Adds zero two [] [] → IsLayout cps p
  unfolding laid_out
  is_layout zero one two three p blocks vars site whole own known small stand asked entry none bare laid same templates shared unassigned empty fits before =
      let is_laid : IsLaidOut cps p = laid_out cps w one two three p blocks vars site known small stand asked entry none bare laid same templates shared unassigned in
      let adds : Adds zero three (bound_in blocks) (arms_in blocks) = adds_more zero two three [] (bound_in blocks) [] (arms_in blocks) before laid.adds in
      let all : three.requests.items ≡ adds.added = adds.requests ∙ ap (λ rs. rs ++ adds.added) empty in
      let arms : arms_from 0 three.requests.items ≡ all_arms p = ap (arms_from 0) all ∙ ap (λ rs. arms_from (length rs) adds.added) (sym empty) ∙ adds.asks ∙ sym (arms_blocks blocks) ∙ ap (flat_map (λ (b : Block). arms_of b.last)) (sym same) in
      record {
        laid = is_laid;
        owed = record {
          templates = whole_templates p fits;
          arms = record {
            once = own cps p whole is_laid (subst AreDistinct arms (arms_distinct 0 three.requests.items));
            later = λ k b e. All-from_recursion (λ arm. k < arm) (arms_of b.last) (laid.later k b (subst (λ bs. slice_get bs k ≡ Some b) same e));
            each = λ k c t e. subst (λ as_. Contains as_ k) arms (contains_in k (arms_from 0 three.requests.items) (subst (λ m. IsIn m (arms_from 0 three.requests.items)) (plain k) (arm_listed w c t 0 k three.requests.items e)));
          };
          once = subst BindOnce (sym same) (rising_apart zero.next (flat_map block_binds blocks) three.next (subst (λ xs. Rises zero.next xs three.next) (sym (bound_blocks blocks)) adds.rises));
        };
      }
