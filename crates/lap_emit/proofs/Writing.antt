-- What is written, one part behind another.
use Rattle.std.proofs.Common.{◌≡◌, ◌+◌, ◌<◌, suc, get_or, take, length, append-nil, List, [], ◌∷◌, ◌++◌, ap, subst, refl, ℕ, arith, ◌∙◌, sym, append_assoc}
use Rattle.std.proofs.lemmas.List.{take_more, length-take}
use Rattle.std.specs.Prelude.{Result, Ok, Err, OnOk}
use Rattle.std.specs.List.{flat_map}
use Rattle.word_ir.specs.declared.words.WordOp.{WordOp}
use Rattle.word_ir.specs.declared.words.WordBlock.{WordBlock}
use Rattle.lap_items.specs.Operations.{op_items}
use Rattle.lap_items.specs.Program.{first_moves, ops_items, IsBlock, AreBlocks}
use Rattle.t_base.specs.declared.basics.Memory.{Memory}
use Rattle.word_ir.specs.declared.operands.Operand.{Operand}
use Rattle.word_ir.specs.declared.placed.Home.{Home}
use Rattle.word_ir.specs.declared.placed.Placed.{Placed}
use Rattle.word_ir.specs.declared.words.Test.{Test}
use Rattle.word_ir.specs.declared.words.WordEnd.TheVariants as last
use Rattle.m68020_code.specs.declared.instr.Cond.TheVariants.{Bra}
use Rattle.m68020_code.specs.declared.instr.Ea.TheVariants.{Ind}
use Rattle.m68020_code.specs.declared.instr.Instr.TheVariants.{Jmp, Illegal}
use Rattle.m68020_asm.specs.declared.item.Item.TheVariants.{Plain, Label, Branch}
use Rattle.parallel_moves.specs.Moves.{AreParallel}
use Rattle.lap_items.specs.Homes.{convention}
use Rattle.lap_items.specs.Ends.{places_of, test_items, code_items, into_a3, end_moves, end_items}
use Rattle.parallel_moves.specs.declared.Move.{Move}
use Rattle.parallel_moves.specs.declared.OneMove.{OneMove}
use Rattle.m68020_asm.specs.declared.item.Item.{Item}
use Rattle.lap_items.specs.Moves.{moves_to, fill_items, moved_items, DoesAtOnce}
use Rattle.lap_emit.specs.Written.{AddsMoves, AddsArguments, AddsEnd, AddsBlock, AddsBlocks}

pub adds_moves : (moves : List Move) (done shown : List OneMove) (old new : List Item) (r : Result (Unit {0}) Memory) → shown ≡ done → DoesAtOnce moves done
    → OnOk r (new ≡ old ++ moved_items shown) → OnOk r (AddsMoves moves old new)
adds_moves moves done shown old new (Ok x) is does same = record { done = done; does = does; same = same ∙ ap (λ t. old ++ moved_items t) is }
adds_moves moves done shown old new (Err e) is does same = tt

pub adds_arguments : (homes : List Home) (args : List Operand) (places : List Home) (moves : List Move) (old middle new : List Item) (r : Result (Unit {0}) Memory)
    → moves ≡ moves_to homes args places → AddsMoves moves old middle → OnOk r (new ≡ middle ++ fill_items homes args places) → OnOk r (AddsArguments homes args places old new)
adds_arguments homes args places moves old middle new (Ok x) is first same = record {
  done = first.done;
  does = subst (λ m. DoesAtOnce m first.done) is first.does;
  same = same ∙ ap (λ t. t ++ fill_items homes args places) first.same ∙ append_assoc old (moved_items first.done) (fill_items homes args places);
}
adds_arguments homes args places moves old middle new (Err e) is first same = tt

-- the same for lists that are equal
pub arguments_for : (homes same : List Home) (args : List Operand) (places same_places : List Home) (old new : List Item) → homes ≡ same → places ≡ same_places
    → AddsArguments homes args places old new → AddsArguments same args same_places old new
arguments_for homes same args places same_places old new p q h = subst (λ x. AddsArguments same args x old new) q (subst (λ x. AddsArguments x args places old new) p h)

pub adds_jump : (placed : Placed) (block : ℕ) (args : List Operand) (old middle new : List Item) (r : Result (Unit {0}) Memory)
    → AddsArguments placed.at.items args (places_of placed block) old middle → OnOk r (new ≡ middle ++ Branch Bra block ∷ []) → OnOk r (AddsEnd placed (last.Jump block args) old new)
unfolding end_moves end_items
adds_jump placed block args old middle new (Ok x) first same = record {
  done = first.done;
  does = first.does;
  same = same ∙ ap (λ t. t ++ Branch Bra block ∷ []) first.same ∙ append_assoc old (moved_items first.done ++ fill_items placed.at.items args (places_of placed block)) (Branch Bra block ∷ []);
}
adds_jump placed block args old middle new (Err e) first same = tt

regrouped : (a b m f g : List Item) → ((a ++ b) ++ (m ++ f)) ++ g ≡ a ++ (((b ++ m) ++ f) ++ g)
regrouped a b m f g = simp append_assoc

pub adds_enter : (placed : Placed) (code : Operand) (args : List Operand) (old coded middle new : List Item) (r : Result (Unit {0}) Memory)
    → coded ≡ old ++ code_items placed.at.items code → AddsArguments placed.at.items args convention coded middle
    → OnOk r (new ≡ middle ++ into_a3 code ∷ Plain (Jmp (Ind 3)) ∷ []) → OnOk r (AddsEnd placed (last.Enter code args) old new)
unfolding end_moves end_items
adds_enter placed code args old coded middle new (Ok x) front first same = record {
  done = first.done;
  does = first.does;
  same = let fills : List Item = fill_items placed.at.items args convention in
      let goes : List Item = into_a3 code ∷ Plain (Jmp (Ind 3)) ∷ [] in
      let moves : List Item = moved_items first.done in
      same ∙ ap (λ t. t ++ goes) (first.same ∙ ap (λ t. t ++ (moves ++ fills)) front) ∙ regrouped old (code_items placed.at.items code) moves fills goes;
}
adds_enter placed code args old coded middle new (Err e) front first same = tt

-- an end that moves nothing
pub nothing_at_once : DoesAtOnce [] []
nothing_at_once = record { effect = λ holds p other. refl; places = λ test scratch pass. tt; few = omega arith }

pub adds_test : (placed : Placed) (kind : Test) (a b : Operand) (at_true at_false : ℕ) (old new : List Item) (r : Result (Unit {0}) Memory)
    → OnOk r (new ≡ old ++ test_items placed.at.items kind a b at_true at_false) → OnOk r (AddsEnd placed (last.Test kind a b at_true at_false) old new)
unfolding end_moves end_items
adds_test placed kind a b at_true at_false old new (Ok x) same = record { done = []; does = nothing_at_once; same = same }
adds_test placed kind a b at_true at_false old new (Err e) same = tt

pub adds_stop : (placed : Placed) (old new : List Item) (r : Result (Unit {0}) Memory) → OnOk r (new ≡ old ++ Plain Illegal ∷ []) → OnOk r (AddsEnd placed last.Stop old new)
unfolding end_moves end_items
adds_stop placed old new (Ok x) same = record { done = []; does = nothing_at_once; same = same }
adds_stop placed old new (Err e) same = tt

-- what has to be done at once
pub jump_is_parallel : (placed : Placed) (block : ℕ) (args : List Operand) (homes places : List Home) → homes ≡ placed.at.items → places ≡ places_of placed block
    → AreParallel (end_moves placed (last.Jump block args)) → AreParallel (moves_to homes args places)
unfolding end_moves
jump_is_parallel placed block args homes places p q h = subst (λ x. AreParallel (moves_to x args places)) (sym p) (subst (λ x. AreParallel (moves_to placed.at.items args x)) (sym q) h)

pub enter_is_parallel : (placed : Placed) (code : Operand) (args : List Operand) (homes : List Home) → homes ≡ placed.at.items
    → AreParallel (end_moves placed (last.Enter code args)) → AreParallel (moves_to homes args convention)
unfolding end_moves
enter_is_parallel placed code args homes p h = subst (λ x. AreParallel (moves_to x args convention)) (sym p) h

-- ---- blocks

in_order : (a l m o e : List Item) → (((a ++ l) ++ m) ++ o) ++ e ≡ a ++ (((l ++ m) ++ o) ++ e)
in_order a l m o e = simp append_assoc

pub adds_block : (placed : Placed) (b : ℕ) (block : WordBlock) (moves : List Move) (homes : List Home) (ops : List WordOp) (old labelled moved done new : List Item) (r : Result (Unit {0}) Memory)
    → labelled ≡ old ++ Label b ∷ [] → moves ≡ first_moves placed b block → AddsMoves moves labelled moved → homes ≡ placed.at.items → ops ≡ block.ops.items
    → done ≡ moved ++ flat_map (op_items homes) ops → OnOk r (AddsEnd placed block.last done new) → OnOk r (AddsBlock placed b block old new)
adds_block placed b block moves homes ops old labelled moved done new (Ok x) label is enters same_homes same_ops between leaves =
    let m : List Item = moved_items enters.done in
    let o : List Item = ops_items placed block in
    let e : List Item = end_items placed block.last leaves.done in
    let opped : done ≡ moved ++ o = between ∙ ap (λ h. moved ++ flat_map (op_items h) ops) same_homes ∙ ap (λ os. moved ++ flat_map (op_items placed.at.items) os) same_ops in
    record {
      more = Label b ∷ m ++ o ++ e;
      is = record {
        first = enters.done;
        last = leaves.done;
        enters = subst (λ x. DoesAtOnce x enters.done) is enters.does;
        leaves = leaves.does;
        same = refl;
      };
      same = leaves.same ∙ ap (λ t. t ++ e) (opped ∙ ap (λ t. t ++ o) (enters.same ∙ ap (λ t. t ++ m) label)) ∙ in_order old (Label b ∷ []) m o e;
    }
adds_block placed b block moves homes ops old labelled moved done new (Err f) label is enters same_homes same_ops between leaves = tt

pub one_block_more : (placed : Placed) (b : ℕ) (blocks : List WordBlock) (block : WordBlock) (items more : List Item) → AreBlocks placed b blocks items → IsBlock placed (b + length blocks) block more
    → AreBlocks placed b (blocks ++ block ∷ []) (items ++ more)
one_block_more placed b [] block items more none is =
    let here : b + 0 ≡ b = omega arith in
    (more, [], ap (λ t. t ++ more) none ∙ sym (append-nil more), subst (λ n. IsBlock placed n block more) here is, refl)
one_block_more placed b (first ∷ blocks) block items more (front, rest, same, one, others) is =
    let there : b + suc (length blocks) ≡ (b + 1) + length blocks = omega arith in
    (front, rest ++ more, ap (λ t. t ++ more) same ∙ append_assoc front rest more, one, one_block_more placed (b + 1) blocks block rest more others (subst (λ n. IsBlock placed n block more) there is))

pub blocks_step : (placed : Placed) (n : ℕ) (start now next : List Item) (block : WordBlock) → block ≡ get_or placed.words.blocks.items n block → n < length placed.words.blocks.items
    → AddsBlocks placed (take n placed.words.blocks.items) start now → AddsBlock placed n block now next → AddsBlocks placed (take (n + 1) placed.words.blocks.items) start next
blocks_step placed n start now next block is lt before one =
    let here : 0 + length (take n placed.words.blocks.items) ≡ n = omega (arith, length-take n placed.words.blocks.items) in
    record {
      more = before.more ++ one.more;
      are = subst (λ bs. AreBlocks placed 0 bs (before.more ++ one.more)) (sym (take_more placed.words.blocks.items n block lt ∙ ap (λ y. take n placed.words.blocks.items ++ y ∷ []) (sym is)))
          (one_block_more placed 0 (take n placed.words.blocks.items) block before.more one.more before.are (subst (λ k. IsBlock placed k block one.more) (sym here) one.is));
      same = one.same ∙ ap (λ t. t ++ one.more) before.same ∙ append_assoc start before.more one.more;
    }
