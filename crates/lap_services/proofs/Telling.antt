-- Ways behind each other, and a TRAP.
use Rattle.std.proofs.Common.{◌≡◌, ℕ, zero, suc, ◌+◌, ◌-◌, ◌^◌, ◌<◌, ◌≤◌, inl, inr, List, [], ◌∷◌, ◌++◌, Option, Some, None, refl, ap, sym, ◌∙◌, arith}
use Rattle.program_runs.specs.Follows.{after}
use Rattle.m68020_code.specs.declared.instr.Instr.TheVariants.{Trap}
use Rattle.std.proofs.lemmas.Bool.Decides.{leb_tells}
use Rattle.std.proofs.lemmas.Option.{slice_get_within}
use Rattle.m68020_asm.proofs.LabelPlaces.{address_bound}
use Rattle.m68020_step.proofs.InRange.{pc_fits}
use Rattle.m68020_step.specs.Step.{State}
use Rattle.m68020_asm.specs.declared.item.Item.{Item}
use Rattle.m68020_asm.specs.declared.item.Item.TheVariants.{Plain}
use Rattle.machine_services.specs.declared.exit.Exit.{Exit}
use Rattle.machine_services.specs.Services.{Served, Puts, Exits, serve}
use Rattle.machine_services.specs.Runs.{Progress, served, followed}
use Rattle.item_runs.specs.Runs.{item_act, item_further, item_machine}
use Rattle.item_runs.proofs.Runs.{item_serves_at}
use Rattle.lap_paths.specs.Paths.{Assembly, code, place_at, Stands, Path, at_pc, next_of}
use Rattle.lap_services.specs.Tells.{Tells}

after_add : {S : Type 0} (go : S → S) (m n : ℕ) (s : S) → after go (m + n) s ≡ after go n (after go m s)
after_add go zero n s = let none : 0 + n ≡ n = omega arith in ap (λ k. after go k s) none
after_add go (suc m) n s = let one : suc m + n ≡ suc (m + n) = omega arith in ap (λ k. after go k s) one ∙ after_add go m n (go s)

module _ (a : Assembly) where
  abbrev step : Progress → Progress
  step = (item_machine a.names (code a)).step

  -- one step by a TRAP
  acts : (t : State) (vector : ℕ) (items : List Item) (s : Stands a t (Plain (Trap vector) ∷ items)) (q : Progress) → q.state ≡ t → q.end ≡ None
      → step q ≡ followed q (served (at_pc t (place_at a (s.place + 1))) (place_at a s.place) (serve a.names (at_pc t (place_at a (s.place + 1))) vector))
  acts t vector items s q is going =
      ap (item_further a.names (code a) q) going ∙ ap (λ (x : State). followed q (item_act a.names (code a) x)) is ∙ ap (followed q) (item_serves_at a.names (code a) t s.place vector s.pc s.sits.0)

  -- it ends the run
  pub trap_ends : (t : State) (vector : ℕ) (items : List Item) (how : Exit) (Q : State → Type 0) → Stands a t (Plain (Trap vector) ∷ items) → ((pc : ℕ) → serve a.names (at_pc t pc) vector ≡ Exits how) → ((pc : ℕ) → Q (at_pc t pc))
      → Tells a 1 t [] (Some how) Q
  trap_ends t vector items how Q s ends there = record {
    count = 1;
    few = omega arith;
    some = omega arith;
    to = at_pc t pc;
    runs = λ q is going. acts t vector items s q is going ∙ ap (λ (x : Served). followed q (served (at_pc t pc) (place_at a s.place) x)) (ends pc);
    costs = on_the_way;
    there = there pc;
  }
    where
      pc : ℕ
      pc = place_at a (s.place + 1)

      on_the_way : (i : ℕ) → i ≤ 1 → (q : Progress) → q.state ≡ t → q.end ≡ None → next_of (after step i q).state ≤ next_of (at_pc t pc)
      on_the_way zero le q is going = let same : next_of q.state ≡ next_of t = ap next_of is in omega (arith, same)
      on_the_way (suc zero) le q is going =
          let moved : next_of (step q).state ≡ next_of (at_pc t pc) = ap (λ (x : Progress). next_of x.state) (acts t vector items s q is going ∙ ap (λ (x : Served). followed q (served (at_pc t pc) (place_at a s.place) x)) (ends pc)) in
          omega (arith, moved)
      on_the_way (suc (suc i)) le q is going = absurd (omega (arith, le))

  -- it puts bytes, and the run goes on
  pub trap_puts : (n : ℕ) (t : State) (vector : ℕ) (items : List Item) (bytes : List ℕ) (Q : State → Type 0) → Stands a t (Plain (Trap vector) ∷ items) → ((pc : ℕ) → serve a.names (at_pc t pc) vector ≡ Puts bytes)
      → ((pc : ℕ) → Stands a (at_pc t pc) items → Path a n (at_pc t pc) Q) → Tells a (suc n) t bytes None Q
  trap_puts n t vector items bytes Q s puts rest = record {
    count = suc p.count;
    few = omega (arith, p.few);
    some = omega arith;
    to = p.to;
    runs = λ q is going.
        ap (after step p.count) (first q is going) ∙ p.goes.runs (record { state = at_pc t pc; output = q.output ++ bytes; end = None; instructions = q.instructions + 1 }) refl refl
        ∙ ap (λ (x : ℕ). record { state = p.to; output = q.output ++ bytes; end = None; instructions = x }) (omega arith);
    costs = on_the_way;
    there = p.there;
  }
    where
      pc : ℕ
      pc = place_at a (s.place + 1)

      bound : pc < 2 ^ 32
      bound = omega (arith, address_bound a.items a.assembled.widths (s.place + 1) a.can (omega (arith, slice_get_within a.items s.place (Plain (Trap vector)) s.sits.0)))

      p : Path a n (at_pc t pc) Q
      p = rest pc (record { place = s.place + 1; pc = refl; sits = s.sits.1; range = record { registers = pc_fits t.registers pc s.range.registers bound; storage = s.range.storage }; bytes = s.bytes })

      first : (q : Progress) → q.state ≡ t → q.end ≡ None → step q ≡ record { state = at_pc t pc; output = q.output ++ bytes; end = None; instructions = q.instructions + 1 }
      first q is going = acts t vector items s q is going ∙ ap (λ (x : Served). followed q (served (at_pc t pc) (place_at a s.place) x)) (puts pc)

      on_the_way : (i : ℕ) → i ≤ suc p.count → (q : Progress) → q.state ≡ t → q.end ≡ None → next_of (after step i q).state ≤ next_of p.to
      on_the_way zero le q is going =
          let same : next_of q.state ≡ next_of t = ap next_of is in
          omega (arith, same, p.costs 0 (omega arith) (record { state = at_pc t pc; output = []; end = None; instructions = 0 }) refl refl)
      on_the_way (suc i) le q is going = p.costs i (omega (arith, le)) (step q) (ap (λ (x : Progress). x.state) (first q is going)) (ap (λ (x : Progress). x.end) (first q is going))

  -- some instructions before
  pub before : (n k : ℕ) (t : State) (bytes : List ℕ) (end : Option Exit) (Q : State → Type 0) → Path a n t (λ u. Tells a k u bytes end Q) → Tells a (n + k) t bytes end Q
  before n k t bytes end Q p = record {
    count = p.count + r.count;
    few = omega (arith, p.few, r.few);
    some = omega (arith, r.some);
    to = r.to;
    runs = λ q is going.
        after_add step p.count r.count q ∙ ap (after step r.count) (p.goes.runs q is going)
        ∙ r.runs (record { state = p.to; output = q.output; end = None; instructions = q.instructions + p.count }) refl refl
        ∙ ap (λ (x : ℕ). record { state = r.to; output = q.output ++ bytes; end = end; instructions = x }) (omega arith);
    costs = on_the_way;
    there = r.there;
  }
    where
      r : Tells a k p.to bytes end Q
      r = p.there

      low : next_of p.to ≤ next_of r.to
      low = r.costs 0 (omega arith) (record { state = p.to; output = []; end = None; instructions = 0 }) refl refl

      on_the_way : (i : ℕ) → i ≤ p.count + r.count → (q : Progress) → q.state ≡ t → q.end ≡ None → next_of (after step i q).state ≤ next_of r.to
      on_the_way i le q is going = elim (leb_tells i p.count) [
        | inl x ↦ omega (arith, p.costs i x.1 q is going, low)
        | inr x ↦
            let parts : p.count + (i - p.count) ≡ i = omega (arith, x.1) in
            let moved : after step i q ≡ after step (i - p.count) (record { state = p.to; output = q.output; end = None; instructions = q.instructions + p.count }) =
            ap (λ (k : ℕ). after step k q) (sym parts) ∙ after_add step p.count (i - p.count) q ∙ ap (after step (i - p.count)) (p.goes.runs q is going) in
            let same : next_of (after step i q).state ≡ next_of (after step (i - p.count) (record { state = p.to; output = q.output; end = None; instructions = q.instructions + p.count })).state = ap (λ (x : Progress). next_of x.state) moved in
            omega (arith, same, r.costs (i - p.count) (omega (arith, le, x.1)) (record { state = p.to; output = q.output; end = None; instructions = q.instructions + p.count }) refl refl)
      ]
