-- What operands of instructions give.
use Rattle.std.proofs.Common.{◌≡◌, ℕ, zero, suc, ◌+◌, ◌*◌, ◌<◌, List, [], ◌∷◌, length, get_or, slice_get, Option, Some, pos, refl, ap, sym, ◌∙◌, arith}
use Rattle.std.specs.Prelude.{min, Ok, Result}
use Rattle.std.specs.Option.{option_map_or}
use Rattle.word_ir.specs.declared.placed.Home.{Home}
use Rattle.word_ir.specs.declared.placed.Home.TheVariants as home
use Rattle.word_ir.specs.State.{Own, At, held}
use Rattle.m68020_step.specs.declared.registers.Why.{Why}
use Rattle.m68020_step.specs.Word.{sum_of, unsigned}
use Rattle.m68020_step.specs.Operand.{Fetched, located, read_long, long_operand, address_of, address_at, or_bad_address, ◌>>=◌}
use Rattle.m68020_step.specs.Step.{State}
use Rattle.m68020_step.specs.Storage.{long_at}
use Rattle.lap_items.specs.Homes.{home_of}
use Rattle.lap_runs.specs.Represents.{real}
use Rattle.lap_runs.specs.Laws.{HomesGive, VariablesGive, NumbersGive}

inside : (xs : List Home) (n : ℕ) (d : Home) → n < length xs → slice_get xs n ≡ Some (get_or xs n d)
inside [] n d lt = absurd (omega arith)
inside (x ∷ xs) zero d lt = refl
inside (x ∷ xs) (suc n) d lt = inside xs n d (omega arith)

-- what a long word of storage gives
fetched : State → Option ℕ → Result Fetched Why
fetched t o = or_bad_address o >>= λ v. Ok (record { value = v; registers = t.registers })

pub homes_give : HomesGive
unfolding long_operand located read_long address_of fetched
homes_give t (home.D i) long reached has = ap (λ (v : ℕ). Ok (record { value = v; registers = t.registers })) has
homes_give t (home.A i) long reached has = ap (λ (v : ℕ). Ok (record { value = v; registers = t.registers })) has
homes_give t (home.Static place) long reached has = ap (fetched t) has
homes_give t (home.Stack n) long reached has =
    let same : sum_of (address_at t.registers 7) (unsigned (pos (4 * min n 8191))) ≡ address_at t.registers 7 + 4 * n = omega (arith, reached.0, reached.1) in
    ap (λ (at : ℕ). fetched t (long_at t.storage at)) same ∙ ap (fetched t) has

pub variables_give : VariablesGive
variables_give m labels s t v w is lt reached word =
    let at : option_map_or At (slice_get m.homes v.0) (Own v.0) ≡ At (home_of m.homes v) = ap (λ (h : Option Home). option_map_or At h (Own v.0)) (inside m.homes v.0 (home.D 0) lt) in
    homes_give t (home_of m.homes v) (real labels w) reached (is.homes v.0 (home_of m.homes v) w (inside m.homes v.0 (home.D 0) lt) (ap (held s) (sym at) ∙ word)).0

pub numbers_give : NumbersGive
unfolding long_operand located read_long
numbers_give homes t n = (refl, refl)
