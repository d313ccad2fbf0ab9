-- Runs of items, one part behind another.
use Rattle.std.proofs.Common.{◌≡◌, ℕ, zero, suc, ◌+◌, List, [], Option, None, refl, ap, ◌∙◌, arith, append-nil}
use Rattle.program_runs.specs.Follows.{after}
use Rattle.m68020_code.specs.declared.instr.Ea.TheVariants.{Abs}
use Rattle.m68020_code.specs.declared.instr.Instr.TheVariants.{Lea}
use Rattle.m68020_step.specs.declared.machine.Step.{Step}
use Rattle.m68020_step.specs.declared.registers.Effect.TheVariants.{Nothing}
use Rattle.m68020_step.specs.Moves.{load_effective_address}
use Rattle.m68020_step.specs.Operand.{with_pc, with_address, address_of}
use Rattle.m68020_step.specs.Step.{State, executed, with_effect, after as carried}
use Rattle.m68020_asm.specs.declared.item.Item.TheVariants.{Branch}
use Rattle.m68020_asm.specs.Items.{address}
use Rattle.m68020_asm.specs.Run.{address_in, program_of}
use Rattle.m68020_asm.proofs.Runs.{branch_goes as branched}
use Rattle.machine_services.specs.declared.exit.Exit.{Exit}
use Rattle.machine_services.specs.Runs.{Progress, stepped, followed}
use Rattle.item_runs.specs.Runs.{item_act, item_further, item_machine}
use Rattle.item_runs.proofs.Runs.{item_acts_at}
use Rattle.lap_runs.specs.Laws.{NoneGoes, GoesThen, OneGoes, AddressGoes, BranchGoes}

after_add : {S : Type 0} (go : S → S) (m n : ℕ) (s : S) → after go (m + n) s ≡ after go n (after go m s)
after_add go zero n s = let none : 0 + n ≡ n = omega arith in ap (λ k. after go k s) none
after_add go (suc m) n s = let one : suc m + n ≡ suc (m + n) = omega arith in ap (λ k. after go k s) one ∙ after_add go m n (go s)

put_together : (q : Progress) (s : State) (n : ℕ) → q.state ≡ s → q.end ≡ None → q.instructions ≡ n → q ≡ record { state = s; output = q.output; end = None; instructions = n }
put_together q s n is going count =
    ap (λ (x : State). record { state = x; output = q.output; end = q.end; instructions = q.instructions }) is
    ∙ ap (λ (x : Option Exit). record { state = s; output = q.output; end = x; instructions = q.instructions }) going
    ∙ ap (λ (x : ℕ). record { state = s; output = q.output; end = None; instructions = x }) count

pub none_goes : NoneGoes
none_goes names p s = record { runs = λ q is going. put_together q s (q.instructions + 0) is going (omega arith) }

pub goes_then : GoesThen
goes_then names p s t u m n first second = record {
  runs = λ q is going.
      after_add (item_machine names p).step m n q
      ∙ ap (after (item_machine names p).step n) (first.runs q is going)
      ∙ second.runs (record { state = t; output = q.output; end = None; instructions = q.instructions + m }) refl refl
      ∙ ap (λ (x : ℕ). record { state = u; output = q.output; end = None; instructions = x }) (omega arith);
}

pub one_goes : OneGoes
one_goes names p s k item i r e pc here is does on =
    let at : ℕ = address_in p k in
    let t : State = record { registers = r; storage = with_effect s.storage e } in
    let act : item_act names p s ≡ record { state = t; output = []; end = None; instructions = 1 } =
    item_acts_at names p s k item i pc here is ∙ ap (λ x. stepped names at (carried s x)) does ∙ ap (λ (x : Step). stepped names at (x, t)) on in
    record {
      runs = λ q same going.
          ap (item_further names p q) going ∙ ap (λ (x : State). followed q (item_act names p x)) same ∙ ap (followed q) act
          ∙ ap (λ (x : List ℕ). record { state = t; output = x; end = None; instructions = q.instructions + 1 }) (append-nil q.output);
    }

pub address_goes : AddressGoes
unfolding executed load_effective_address address_of
address_goes names p s k reg block pc here =
    one_goes names p s k _ (Lea (Abs _) reg) (with_address (with_pc s.registers (address_in p (k + 1))) reg _) Nothing pc here refl refl refl

pub branch_goes : BranchGoes
branch_goes names items bytes labels h s k j n c can pc here label =
    one_goes names (program_of items bytes labels h) s k (Branch c n) _ _ Nothing pc here refl (branched items bytes labels can h s.storage (with_pc s.registers (address items h.widths (k + 1))) k j n c here label) refl
