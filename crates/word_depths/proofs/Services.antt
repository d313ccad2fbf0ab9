-- Services end or put.
use Rattle.std.proofs.Common.{◌≡◌, ℕ, ◌==◌, Bool, true, false, if◌then◌else◌, List, [], ◌∷◌, Option, Some, None, refl}
use Rattle.std.specs.Fmt.{signed_decimal}
use Rattle.t_base.specs.declared.faults.Face.{Face}
use Rattle.t_base.specs.declared.faults.Fault.{Fault}
use Rattle.program_runs.specs.Runs.{End, Value, Faulted, Full, Broken}
use Rattle.word_faces.specs.Faces.{fixnum_of, character_of, face_of, shown_of}
use Rattle.word_faces.specs.Operands.{fault_of, string_of}
use Rattle.word_ir.specs.State.{Setting, State}
use Rattle.word_ir.specs.Effects.{Effect, Puts, Ends, breaks, or_broken, with_one, with_two, raised, lacking, heap_room, stack_room, reader, names_of, service_effect}

-- a fact that ends and puts have
module _ (P : Effect → Type 0) (ends : (e : End) → P (Ends e)) (puts : (bytes : List ℕ) → P (Puts bytes)) where
  pub or_holds : {X : Type 0} (o : Option X) (go : X → Effect) → ((x : X) → o ≡ Some x → P (go x)) → P (or_broken o go)
  or_holds (Some x) go h = h x refl
  or_holds None go h = ends Broken

  pub if_holds : (b : Bool) (x y : Effect) → (b ≡ true → P x) → (b ≡ false → P y) → P (if b then x else y)
  if_holds true x y h k = h refl
  if_holds false x y h k = k refl

  one_holds : (args : List ℕ) (go : ℕ → Effect) → ((n : ℕ) → P (go n)) → P (with_one args go)
  one_holds [] go h = ends Broken
  one_holds (a ∷ []) go h = h a
  one_holds (a ∷ b ∷ rest) go h = ends Broken

  two_holds : (args : List ℕ) (go : ℕ → ℕ → Effect) → ((a b : ℕ) → P (go a b)) → P (with_two args go)
  two_holds [] go h = ends Broken
  two_holds (a ∷ []) go h = ends Broken
  two_holds (a ∷ b ∷ []) go h = h a b
  two_holds (a ∷ b ∷ c ∷ rest) go h = ends Broken

  fault_holds : (o : Option Fault) → P (or_broken o (λ f. Ends (Faulted f)))
  fault_holds o = or_holds o (λ f. Ends (Faulted f)) (λ f e. ends (Faulted f))

  raised_holds : (args : List ℕ) → P (raised args)
  raised_holds [] = ends Broken
  raised_holds (n ∷ []) = if_holds (n == 15) breaks (or_broken (fault_of n 0) (λ f. Ends (Faulted f))) (λ e. ends Broken) (λ e. fault_holds (fault_of n 0))
  raised_holds (n ∷ x ∷ []) = if_holds (n == 15) (or_broken (fault_of n x) (λ f. Ends (Faulted f))) breaks (λ e. fault_holds (fault_of n x)) (λ e. ends Broken)
  raised_holds (n ∷ x ∷ y ∷ rest) = ends Broken

  puts_holds : {X : Type 0} (o : Option X) (go : X → List ℕ) → P (or_broken o (λ x. Puts (go x)))
  puts_holds o go = or_holds o (λ x. Puts (go x)) (λ x e. puts (go x))

  module _ (m : Setting) (s : State) where
    lacking_holds : (asked kind : ℕ) → P (lacking m s asked kind)
    lacking_holds asked kind =
        if_holds (kind == 0) (Ends (Full false asked (heap_room m s))) (if kind == 1 then Ends (Full true asked (stack_room s)) else breaks) (λ e. ends (Full false asked (heap_room m s)))
        (λ e. if_holds (kind == 1) (Ends (Full true asked (stack_room s))) breaks (λ e. ends (Full true asked (stack_room s))) (λ e. ends Broken))

    value_holds : (o : Option Face) → P (or_broken o (λ face. Ends (Value (shown_of (names_of m) face))))
    value_holds o = or_holds o (λ face. Ends (Value (shown_of (names_of m) face))) (λ face e. ends (Value (shown_of (names_of m) face)))

    pub service_holds : (number : ℕ) (args : List ℕ) → P (service_effect m s number args)
    service_holds number args =
        let value : ℕ → Effect = λ w. or_broken (face_of (reader m s) (names_of m) w) (λ face. Ends (Value (shown_of (names_of m) face))) in
        let character : ℕ → Effect = λ w. or_broken (character_of w) (λ code. Puts (code ∷ [])) in
        let fixnum : ℕ → Effect = λ w. or_broken (fixnum_of w) (λ n. Puts (signed_decimal n)) in
        let string : ℕ → Effect = λ w. or_broken (string_of (reader m s) w) Puts in
        let five : Effect = if number == 5 then with_one args string else breaks in
        let four : Effect = if number == 4 then with_two args (lacking m s) else five in
        let three : Effect = if number == 3 then raised args else four in
        let two : Effect = if number == 2 then with_one args fixnum else three in
        let one : Effect = if number == 1 then with_one args character else two in
        if_holds (number == 0) (with_one args value) one (λ e. one_holds args value (λ w. value_holds (face_of (reader m s) (names_of m) w)))
        (λ e. if_holds (number == 1) (with_one args character) two (λ e. one_holds args character (λ w. puts_holds (character_of w) (λ code. code ∷ [])))
        (λ e. if_holds (number == 2) (with_one args fixnum) three (λ e. one_holds args fixnum (λ w. puts_holds (fixnum_of w) signed_decimal))
        (λ e. if_holds (number == 3) (raised args) four (λ e. raised_holds args)
        (λ e. if_holds (number == 4) (with_two args (lacking m s)) five (λ e. two_holds args (lacking m s) lacking_holds)
        (λ e. if_holds (number == 5) (with_one args string) breaks (λ e. one_holds args string (λ w. puts_holds (string_of (reader m s) w) (λ bytes. bytes))) (λ e. ends Broken))))))
