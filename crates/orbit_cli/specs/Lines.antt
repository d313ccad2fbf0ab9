-- What is printed: values, and a line for each way in which a command or a run ends.
use Rattle.std.specs.Prelude.{ℕ, ℤ, ◌+◌, ◌/◌, ◌%◌, ◌^◌, Bool, true, false, ◌==◌, List, [], ◌∷◌, ◌++◌, Option, Some, None, if◌then◌else◌, nat_lt, codes}
use Rattle.std.specs.Char.{is_ascii_graphic}
use Rattle.std.specs.Fmt.{decimal, signed_decimal}
use Rattle.t_base.specs.declared.faults.Fault.{Fault}
use Rattle.t_base.specs.declared.faults.Fault.TheVariants.{NotProcedure, WrongCount, NotFixnum, NotPair, NotVector, IndexRange, FixnumOverflow, DivideByZero, Unbound, DeadEscape, NotHandled, NotChar, NotString, CharRange, User, NotSymbol}
use Rattle.program_runs.specs.Runs.{Shown, Fixnum, Character, EmptyList, Truth, Symbol, Kind}
use Rattle.t_reader.specs.declared.fault.ReadKind.{ReadKind}
use Rattle.t_reader.specs.declared.fault.ReadKind.TheVariants.{BadByte, Unclosed, ExtraClose, FixnumRange, BadHash, BadString, LoneDot, TooDeep}
use Rattle.t_core.specs.declared.limiting.LimitFault.{LimitFault}
use Rattle.t_core.specs.declared.limiting.LimitFault.TheVariants.{FormNodes, UnitWeight, Params}
use Rattle.t_rows.specs.declared.refusal.SyntaxKind.{SyntaxKind}
use Rattle.t_rows.specs.declared.refusal.SyntaxKind.TheVariants.{BadForm, Twice, ParamTwice, NotOperation, NotSettable, NotTopLevel, ConstantSet, FreeName}
use Rattle.image_file.specs.declared.fault.ImageKind.{ImageKind}
use Rattle.image_file.specs.declared.fault.ImageKind.TheVariants.{Magic, Version, Short, Long, Field}
use Rattle.m68020_step.specs.declared.registers.Why.{Why}
use Rattle.m68020_step.specs.declared.registers.Why.TheVariants.{Illegal, BadAddress, OddAddress, ZeroDivide, BadService}
use Rattle.orbit_cli.specs.declared.refusal.SourceKind.{SourceKind}
use Rattle.orbit_cli.specs.declared.refusal.SourceKind.TheVariants as source

-- #\ and three digits
abbrev pub numbered_text : ℕ → List ℕ
numbered_text c = 35 ∷ 92 ∷ (48 + c / 100) ∷ (48 + c / 10 % 10) ∷ (48 + c % 10) ∷ []

-- a character without a name: as its byte, or by its number in three digits
abbrev pub unnamed_text : ℕ → List ℕ
unnamed_text c = if is_ascii_graphic c then 35 ∷ 92 ∷ c ∷ [] else numbered_text c

abbrev pub character_text : ℕ → List ℕ
character_text c =
    if c == 32 then codes "#\\space"
    else if c == 10 then codes "#\\newline"
    else if c == 9 then codes "#\\tab"
    else unnamed_text c

-- the kinds of values that have no text of their own
abbrev pub kind_text : ℕ → List ℕ
kind_text kind =
    if kind == 1 then codes "{Pair}"
    else if kind == 2 then codes "{Vector}"
    else if kind == 3 then codes "{String}"
    else if kind == 4 then codes "{Procedure}"
    else if kind == 5 then codes "{Object}"
    else codes "{Operation}"

-- how a value is printed
abbrev pub shown_text : Shown → List ℕ
shown_text (Fixnum number) = signed_decimal number
shown_text (Character code) = character_text code
shown_text EmptyList = codes "()"
shown_text Truth = codes "#t"
shown_text (Symbol text) = text
shown_text (Kind kind) = kind_text kind

-- what ends the last line of output whose last byte is this one
abbrev pub line_end : Option ℕ → List ℕ
line_end None = []
line_end (Some byte) = if byte == 10 then [] else codes "\n"

-- the line of a value that is printed so, behind that output
abbrev pub value_line : Option ℕ → List ℕ → List ℕ
value_line last text = line_end last ++ (codes "value " ++ (text ++ codes "\n"))

-- a fault's number and name
abbrev pub fault_words : Fault → List ℕ
fault_words NotProcedure = codes "1 NotProcedure"
fault_words WrongCount = codes "2 WrongCount"
fault_words NotFixnum = codes "3 NotFixnum"
fault_words NotPair = codes "4 NotPair"
fault_words NotVector = codes "5 NotVector"
fault_words IndexRange = codes "6 IndexRange"
fault_words FixnumOverflow = codes "7 FixnumOverflow"
fault_words DivideByZero = codes "8 DivideByZero"
fault_words Unbound = codes "9 Unbound"
fault_words DeadEscape = codes "10 DeadEscape"
fault_words NotHandled = codes "11 NotHandled"
fault_words NotChar = codes "12 NotChar"
fault_words NotString = codes "13 NotString"
fault_words CharRange = codes "14 CharRange"
fault_words (User number) = codes "15 User"
fault_words NotSymbol = codes "16 NotSymbol"

-- the number that an error of the program gives
abbrev pub operand_of : Fault → Option ℤ
operand_of (User number) = Some number
operand_of _ = None

abbrev pub raised_line : List ℕ → Option ℤ → List ℕ
raised_line words None = codes "fault " ++ (words ++ codes "\n")
raised_line words (Some number) = codes "fault " ++ (words ++ (codes " " ++ (signed_decimal number ++ codes "\n")))

abbrev pub fault_line : Fault → List ℕ
fault_line fault = raised_line (fault_words fault) (operand_of fault)

abbrev pub region_name : Bool → List ℕ
region_name true = codes "stack"
region_name false = codes "heap"

-- bytes asked for and bytes left
abbrev pub full_line : Bool → ℕ → ℕ → List ℕ
full_line stack asked left = region_name stack ++ (codes " full: asked " ++ (decimal asked ++ (codes " left " ++ (decimal left ++ codes "\n"))))

abbrev pub limit_line : ℕ → List ℕ
limit_line steps = codes "step limit: " ++ (decimal steps ++ codes "\n")

abbrev pub stop_name : Why → List ℕ
stop_name Illegal = codes "Illegal"
stop_name BadAddress = codes "BadAddress"
stop_name OddAddress = codes "OddAddress"
stop_name ZeroDivide = codes "ZeroDivide"
stop_name BadService = codes "BadService"

-- a digit of base 16, in upper case
abbrev pub hex_digit : ℕ → ℕ
hex_digit d = if nat_lt d 10 then 48 + d else 55 + d

-- the eight digits of an address
unfoldable pub hex_address : ℕ → List ℕ
hex_address n =
    hex_digit (n / 2 ^ 28 % 16) ∷ hex_digit (n / 2 ^ 24 % 16) ∷ hex_digit (n / 2 ^ 20 % 16) ∷ hex_digit (n / 2 ^ 16 % 16)
    ∷ hex_digit (n / 2 ^ 12 % 16) ∷ hex_digit (n / 2 ^ 8 % 16) ∷ hex_digit (n / 2 ^ 4 % 16) ∷ hex_digit (n % 16) ∷ []

abbrev pub stop_line : Why → ℕ → List ℕ
stop_line why at = codes "machine stop " ++ (stop_name why ++ (codes " at " ++ (hex_address at ++ codes "\n")))

-- the refusals of a text, as they are printed
abbrev pub read_kind_name : ReadKind → List ℕ
read_kind_name BadByte = codes "R1 BadByte"
read_kind_name Unclosed = codes "R2 Unclosed"
read_kind_name ExtraClose = codes "R3 ExtraClose"
read_kind_name FixnumRange = codes "R4 FixnumRange"
read_kind_name BadHash = codes "R5 BadHash"
read_kind_name BadString = codes "R6 BadString"
read_kind_name LoneDot = codes "R7 LoneDot"
read_kind_name TooDeep = codes "R8 TooDeep"

abbrev pub syntax_kind_name : SyntaxKind → List ℕ
syntax_kind_name BadForm = codes "S1 BadForm"
syntax_kind_name Twice = codes "S2 Twice"
syntax_kind_name ParamTwice = codes "S3 ParamTwice"
syntax_kind_name NotOperation = codes "S4 NotOperation"
syntax_kind_name NotSettable = codes "S5 NotSettable"
syntax_kind_name NotTopLevel = codes "S6 NotTopLevel"
syntax_kind_name ConstantSet = codes "S7 ConstantSet"
syntax_kind_name FreeName = codes "S8 FreeName"

abbrev pub source_kind_name : SourceKind → List ℕ
source_kind_name (source.Read kind) = read_kind_name kind
source_kind_name (source.Syntax kind) = syntax_kind_name kind

-- of a text that is refused at a place: its name, line and column, and the refusal
abbrev pub located_line : List ℕ → List ℕ → List ℕ → List ℕ → List ℕ
located_line src line column refusal = src ++ (codes ":" ++ (line ++ (codes ":" ++ (column ++ (codes ": " ++ (refusal ++ codes "\n"))))))

abbrev pub source_line : List ℕ → ℕ → ℕ → SourceKind → List ℕ
source_line src line column kind = located_line src (decimal line) (decimal column) (source_kind_name kind)

-- the limits of a text, as they are printed
abbrev pub limit_name : LimitFault → List ℕ
limit_name (FormNodes form count) = codes "L1 FormNodes"
limit_name (UnitWeight count) = codes "L2 UnitWeight"
limit_name (Params form count) = codes "L3 Params"

abbrev pub limit_count : LimitFault → ℕ
limit_count (FormNodes form count) = count
limit_count (UnitWeight count) = count
limit_count (Params form count) = count

abbrev pub limit_number : LimitFault → ℕ
limit_number (FormNodes form count) = 2000
limit_number (UnitWeight count) = 2 ^ 22
limit_number (Params form count) = 20

-- of a text that is over a limit: its name, the limit, the count and the limit's number
abbrev pub count_line : List ℕ → List ℕ → List ℕ → List ℕ → List ℕ
count_line src limit count number = src ++ (codes ": " ++ (limit ++ (codes " " ++ (count ++ (codes " over " ++ (number ++ codes "\n"))))))

abbrev pub over_line : List ℕ → LimitFault → List ℕ
over_line src fault = count_line src (limit_name fault) (decimal (limit_count fault)) (decimal (limit_number fault))

-- of a text that isn't refused: the nodes of its largest form, and its weight
abbrev pub counts_line : ℕ → ℕ → List ℕ
counts_line nodes weight = codes "nodes " ++ (decimal nodes ++ (codes " weight " ++ (decimal weight ++ codes "\n")))

-- the refusals of bytes that are no image, as they are printed
abbrev pub image_kind_name : ImageKind → List ℕ
image_kind_name Magic = codes "I1 Magic"
image_kind_name Version = codes "I2 Version"
image_kind_name Short = codes "I3 Short"
image_kind_name Long = codes "I4 Long"
image_kind_name Field = codes "I5 Field"

-- of such bytes: their name, what fails first, and at which byte
abbrev pub place_line : List ℕ → List ℕ → List ℕ → List ℕ
place_line img refusal at = img ++ (codes ": " ++ (refusal ++ (codes " at " ++ (at ++ codes "\n"))))

abbrev pub bad_image_line : List ℕ → ImageKind → ℕ → List ℕ
bad_image_line img kind at = place_line img (image_kind_name kind) (decimal at)

abbrev pub usage_line : List ℕ
usage_line = codes "usage: orbit compile SRC IMG | run IMG HEAP STACK STEPS | go SRC IMG HEAP STACK STEPS | check SRC | list IMG | trial N STEPS\n"

-- of a file that could not be read, and of one that is too long
abbrev pub unread_line : List ℕ → List ℕ
unread_line name = codes "cannot read: " ++ (name ++ codes "\n")

abbrev pub long_line : List ℕ → List ℕ
long_line name = codes "too long: " ++ (name ++ codes "\n")

abbrev pub write_line : List ℕ
write_line = codes "cannot write\n"

abbrev pub memory_line : List ℕ
memory_line = codes "out of memory\n"

abbrev pub unbuilt_line : List ℕ
unbuilt_line = codes "not built yet\n"
