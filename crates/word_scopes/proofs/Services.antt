-- A service puts or ends, and does nothing else.
use Rattle.std.proofs.Common.{◌≡◌, ℕ, ◌==◌, Bool, true, false, if◌then◌else◌, List, [], ◌∷◌, Option, Some, None, refl}
use Rattle.std.specs.Fmt.{signed_decimal}
use Rattle.program_runs.specs.Runs.{End, Value, Faulted, Full, Broken}
use Rattle.word_faces.specs.Faces.{fixnum_of, character_of, face_of, shown_of}
use Rattle.word_faces.specs.Operands.{fault_of, string_of}
use Rattle.word_ir.specs.State.{Setting, State}
use Rattle.word_ir.specs.Effects.{Effect, Puts, Ends, breaks, or_broken, with_one, with_two, raised, lacking, heap_room, stack_room, reader, names_of, service_effect}

-- a fact that ends have
module _ (P : Effect → Type 0) (ends : (e : End) → P (Ends e)) where
  pub or_is : {X : Type 0} (o : Option X) (go : X → Effect) → ((x : X) → o ≡ Some x → P (go x)) → P (or_broken o go)
  or_is (Some x) go h = h x refl
  or_is None go h = ends Broken

  pub if_is : (b : Bool) (x y : Effect) → (b ≡ true → P x) → (b ≡ false → P y) → P (if b then x else y)
  if_is true x y h k = h refl
  if_is false x y h k = k refl

  one_is : (args : List ℕ) (go : ℕ → Effect) → ((n : ℕ) → P (go n)) → P (with_one args go)
  one_is [] go h = ends Broken
  one_is (a ∷ []) go h = h a
  one_is (a ∷ b ∷ rest) go h = ends Broken

  two_is : (args : List ℕ) (go : ℕ → ℕ → Effect) → ((a b : ℕ) → P (go a b)) → P (with_two args go)
  two_is [] go h = ends Broken
  two_is (a ∷ []) go h = ends Broken
  two_is (a ∷ b ∷ []) go h = h a b
  two_is (a ∷ b ∷ c ∷ rest) go h = ends Broken

  raised_is : (args : List ℕ) → P (raised args)
  raised_is [] = ends Broken
  raised_is (n ∷ []) = if_is (n == 15) breaks (or_broken (fault_of n 0) (λ f. Ends (Faulted f))) (λ e. ends Broken) (λ e. or_is (fault_of n 0) (λ f. Ends (Faulted f)) (λ f q. ends (Faulted f)))
  raised_is (n ∷ x ∷ []) = if_is (n == 15) (or_broken (fault_of n x) (λ f. Ends (Faulted f))) breaks (λ e. or_is (fault_of n x) (λ f. Ends (Faulted f)) (λ f q. ends (Faulted f))) (λ e. ends Broken)
  raised_is (n ∷ x ∷ y ∷ rest) = ends Broken

  module _ (puts : (bytes : List ℕ) → P (Puts bytes)) (m : Setting) (s : State) where
    lacking_is : (asked kind : ℕ) → P (lacking m s asked kind)
    lacking_is asked kind =
        if_is (kind == 0) (Ends (Full false asked (heap_room m s))) (if kind == 1 then Ends (Full true asked (stack_room s)) else breaks) (λ e. ends (Full false asked (heap_room m s)))
        (λ e. if_is (kind == 1) (Ends (Full true asked (stack_room s))) breaks (λ e. ends (Full true asked (stack_room s))) (λ e. ends Broken))

    pub service_is : (number : ℕ) (args : List ℕ) → P (service_effect m s number args)
    service_is number args =
        let value : ℕ → Effect = λ w. or_broken (face_of (reader m s) (names_of m) w) (λ face. Ends (Value (shown_of (names_of m) face))) in
        let character : ℕ → Effect = λ w. or_broken (character_of w) (λ code. Puts (code ∷ [])) in
        let fixnum : ℕ → Effect = λ w. or_broken (fixnum_of w) (λ n. Puts (signed_decimal n)) in
        let string : ℕ → Effect = λ w. or_broken (string_of (reader m s) w) Puts in
        let five : Effect = if number == 5 then with_one args string else breaks in
        let four : Effect = if number == 4 then with_two args (lacking m s) else five in
        let three : Effect = if number == 3 then raised args else four in
        let two : Effect = if number == 2 then with_one args fixnum else three in
        let one : Effect = if number == 1 then with_one args character else two in
        if_is (number == 0) (with_one args value) one
        (λ e. one_is args value (λ w. or_is (face_of (reader m s) (names_of m) w) (λ face. Ends (Value (shown_of (names_of m) face))) (λ face q. ends (Value (shown_of (names_of m) face)))))
        (λ e. if_is (number == 1) (with_one args character) two (λ e. one_is args character (λ w. or_is (character_of w) (λ code. Puts (code ∷ [])) (λ code q. puts (code ∷ []))))
        (λ e. if_is (number == 2) (with_one args fixnum) three (λ e. one_is args fixnum (λ w. or_is (fixnum_of w) (λ n. Puts (signed_decimal n)) (λ n q. puts (signed_decimal n))))
        (λ e. if_is (number == 3) (raised args) four (λ e. raised_is args)
        (λ e. if_is (number == 4) (with_two args (lacking m s)) five (λ e. two_is args (lacking m s) lacking_is)
        (λ e. if_is (number == 5) (with_one args string) breaks (λ e. one_is args string (λ w. or_is (string_of (reader m s) w) Puts (λ bytes q. puts bytes))) (λ e. ends Broken))))))
