-- No two blocks have one address.
use Rattle.std.proofs.Common.{◌≡◌, ℕ, zero, suc, ◌+◌, ◌<◌, ◌≤◌, List, [], ◌∷◌, ◌++◌, length, drop, Some, slice_get, inl, inr, refl, ap, sym, subst, ◌∙◌, arith, append_assoc, length-append}
use Rattle.std.specs.Prelude.{slice_index}
use Rattle.std.proofs.lemmas.Bool.Decides.{leb_tells}
use Rattle.word_ir.specs.declared.placed.Placed.{Placed}
use Rattle.word_ir.specs.declared.words.WordBlock.{WordBlock}
use Rattle.word_ir.specs.declared.words.WordEnd.{WordEnd}
use Rattle.word_ir.specs.declared.words.WordEnd.TheVariants as last
use Rattle.parallel_moves.specs.declared.OneMove.{OneMove}
use Rattle.m68020_code.specs.declared.instr.Ea.TheVariants.{Ind}
use Rattle.m68020_code.specs.declared.instr.Cond.TheVariants.{Bra}
use Rattle.m68020_code.specs.declared.instr.Instr.TheVariants.{Jmp, Illegal}
use Rattle.m68020_code.specs.declared.instr.Width.{Width}
use Rattle.m68020_code.proofs.Lengths.{spelling_words}
use Rattle.m68020_asm.specs.declared.item.Item.{Item}
use Rattle.m68020_asm.specs.declared.item.Item.TheVariants.{Plain, Label, Branch, CodeAddr}
use Rattle.m68020_asm.specs.Items.{address, size_of}
use Rattle.m68020_asm.proofs.Addresses.{branch_size_least, address_next_of, address_low, wider}
use Rattle.m68020_asm.proofs.Runs.{label_address}
use Rattle.lap_items.specs.Moves.{moved_items, fill_items}
use Rattle.lap_items.specs.Homes.{convention}
use Rattle.lap_items.specs.Operands.{load_items}
use Rattle.lap_items.specs.Ends.{condition_of, comparing_items, test_items, code_items, into_a3, places_of, end_items}
use Rattle.lap_items.specs.Program.{ops_items, AreBlocks, IsEmitted}
use Rattle.lap_paths.specs.Paths.{Assembly}
use Rattle.lap_blocks.specs.Laws.{LabelsApart, BlocksApart}
use Rattle.lap_blocks.proofs.Blocks.{Found, found, drop_head, drop_front, drop_further}

-- ---- an end's last item is an instruction

IsInstruction : Item → Type 0
IsInstruction (Plain i) = Unit {0}
IsInstruction (Label n) = ⊥
IsInstruction (Branch c n) = Unit {0}
IsInstruction (CodeAddr reg n) = Unit {0}

record Closes (items : List Item) : Type 0 where
  before : List Item
  last : Item
  same : items ≡ before ++ last ∷ []
  is : IsInstruction last

closes : (placed : Placed) (end : WordEnd) (done : List OneMove) → Closes (end_items placed end done)
unfolding end_items test_items IsInstruction
closes placed (last.Jump block args) done = record { before = moved_items done ++ fill_items placed.at.items args (places_of placed block); last = Branch Bra block; same = refl; is = tt }
closes placed (last.Enter code args) done = record {
  before = code_items placed.at.items code ++ moved_items done ++ fill_items placed.at.items args convention ++ into_a3 code ∷ [];
  last = Plain (Jmp (Ind 3));
  same = sym (append_assoc (code_items placed.at.items code ++ moved_items done ++ fill_items placed.at.items args convention) (into_a3 code ∷ []) (Plain (Jmp (Ind 3)) ∷ []));
  is = tt;
}
closes placed (last.Test kind x y at_true at_false) done = record {
  before = load_items placed.at.items x 7 ++ comparing_items placed.at.items kind y ++ Branch (condition_of kind) at_true ∷ [];
  last = Branch Bra at_false;
  same = sym (append_assoc (load_items placed.at.items x 7 ++ comparing_items placed.at.items kind y) (Branch (condition_of kind) at_true ∷ []) (Branch Bra at_false ∷ []));
  is = tt;
}
closes placed last.Stop done = record { before = []; last = Plain Illegal; same = refl; is = tt }

some_bytes : (item : Item) (w : Width) → IsInstruction item → 2 ≤ size_of item w
unfolding IsInstruction
some_bytes (Plain i) w is = omega (arith, (spelling_words i).length, (spelling_words i).some)
some_bytes (Label n) w is = absurd is
some_bytes (Branch c n) w is = branch_size_least w
some_bytes (CodeAddr reg n) w is = omega arith

-- ---- places

order : (placed : Placed) (blocks : List WordBlock) (b i j : ℕ) (x y : WordBlock) (items : List Item) (are : AreBlocks placed b blocks items) (p : slice_get blocks i ≡ Some x) (q : slice_get blocks j ≡ Some y) → i < j
    → (found placed blocks b i x items are p).place + length (found placed blocks b i x items are p).part ≤ (found placed blocks b j y items are q).place
unfolding found
order placed [] b i j x y items are p q lt = absurd (cc)
order placed (z ∷ blocks) b i zero x y items are p q lt = absurd (omega (arith, lt))
order placed (z ∷ blocks) b zero (suc j) x y items are p q lt = omega arith
order placed (z ∷ blocks) b (suc i) (suc j) x y items are p q lt = omega (arith, order placed blocks (b + 1) i j x y are.1 are.4 p q (omega (arith, lt)))

module _ (a : Assembly) (placed : Placed) (emitted : IsEmitted placed a.items) where
  abbrev at : ℕ → ℕ
  at k = address a.items a.assembled.widths k

  abbrev place_of : (b : ℕ) (x : WordBlock) → slice_get placed.words.blocks.items b ≡ Some x → Found placed (0 + b) x a.items
  place_of b x here = found placed placed.words.blocks.items 0 b x a.items emitted.blocks here

  up : (k j : ℕ) → k ≤ j → at k ≤ at j
  up k j le = (wider a.items a.assembled.widths a.assembled.widths (λ i. omega arith) k j le).up

  labelled : (b : ℕ) (x : WordBlock) (here : slice_get placed.words.blocks.items b ≡ Some x) → slice_index a.labels b ≡ at (place_of b x here).place
  labelled b x here =
      let f = place_of b x here in
      let number : 0 + b ≡ b = omega arith in
      let head = drop_head a.items f.place (Label (0 + b)) _ (f.there ∙ ap (λ (l : List Item). l ++ f.rest) f.is.same) in
      label_address a.items a.bytes a.labels a.can a.assembled b f.place (subst (λ (n : ℕ). slice_get a.items f.place ≡ Some (Label n)) number head.0)

  -- a block takes some bytes
  grows : (b : ℕ) (x : WordBlock) (here : slice_get placed.words.blocks.items b ≡ Some x) → at (place_of b x here).place + 2 ≤ at ((place_of b x here).place + length (place_of b x here).part)
  grows b x here =
      let f = place_of b x here in
      let c = closes placed x.last f.is.last in
      let front : List Item = Label (0 + b) ∷ (moved_items f.is.first ++ ops_items placed x ++ c.before) in
      let part : f.part ≡ front ++ c.last ∷ [] =
      f.is.same ∙ ap (λ (l : List Item). Label (0 + b) ∷ (moved_items f.is.first ++ ops_items placed x ++ l)) c.same
      ∙ ap (λ (l : List Item). Label (0 + b) ∷ l) (sym (append_assoc (moved_items f.is.first ++ ops_items placed x) c.before (c.last ∷ []))) in
      let there : drop f.place a.items ≡ front ++ (c.last ∷ f.rest) = f.there ∙ ap (λ (l : List Item). l ++ f.rest) part ∙ append_assoc front (c.last ∷ []) f.rest in
      let here2 : drop (f.place + length front) a.items ≡ c.last ∷ f.rest = drop_further a.items f.place (length front) ∙ ap (drop (length front)) there ∙ drop_front front (c.last ∷ f.rest) in
      let item = (drop_head a.items (f.place + length front) c.last f.rest here2).0 in
      let next : at (f.place + length front + 1) ≡ at (f.place + length front) + size_of c.last (a.assembled.widths (f.place + length front)) = address_next_of a.items a.assembled.widths (f.place + length front) c.last item in
      let long : f.place + length f.part ≡ f.place + length front + 1 = omega (arith, ap length part, length-append front (c.last ∷ [])) in
      let same : at (f.place + length f.part) ≡ at (f.place + length front + 1) = ap at long in
      omega (arith, same, next, some_bytes c.last (a.assembled.widths (f.place + length front)) c.is, up f.place (f.place + length front) (omega arith))

  before_it : (b c : ℕ) (x y : WordBlock) → slice_get placed.words.blocks.items b ≡ Some x → slice_get placed.words.blocks.items c ≡ Some y → b < c → slice_index a.labels b < slice_index a.labels c
  before_it b c x y p q lt =
      omega (arith, labelled b x p, labelled c y q, grows b x p, up ((place_of b x p).place + length (place_of b x p).part) (place_of c y q).place (order placed placed.words.blocks.items 0 b c x y a.items emitted.blocks p q lt))

  labels_apart : LabelsApart a placed
  labels_apart = record {
    apart = λ b c x y p q same. elim (leb_tells (suc b) c) [
      | inl r ↦ absurd (omega (arith, same, before_it b c x y p q r.1))
      | inr r ↦ elim (leb_tells (suc c) b) [
        | inl t ↦ absurd (omega (arith, same, before_it c b y x q p t.1))
        | inr t ↦ omega (arith, r.1, t.1)
      ]
    ];
    somewhere = λ b x p e. absurd (omega (arith, e, labelled b x p, address_low a.items a.assembled.widths (place_of b x p).place));
  }

pub blocks_apart : BlocksApart
blocks_apart a placed emitted = labels_apart a placed emitted
