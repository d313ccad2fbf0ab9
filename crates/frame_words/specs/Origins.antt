-- Where the words of values point.
use Rattle.std.specs.Prelude.{◌≡◌, ℕ, ◌+◌, ◌*◌, ◌<◌, List, length, slice_get, Some, pos, negsuc}
use Rattle.std.specs.List.{AllByRecursion}
use Rattle.word_faces.specs.Operands.{string_of}
use Rattle.t_prim.specs.Values.{Val, Text, StringV, PrintName, text_of}
use Rattle.tagged_words.specs.Tags.{fixnum_word}
use Rattle.word_ir.specs.Word.{Word, Number, moved}
use Rattle.word_ir.specs.Storage.{Regions, STATICS_START, HEAP_START, STACK_START, long_at, byte_at, bytes_at}
use Rattle.frame_ir.specs.States.{State, Thing}
use Rattle.frame_words.specs.Layouts.{Layout, Fixed, front_words, fixed_place}
use Rattle.frame_words.specs.ValueWords.{heap_place, word_for}

-- to a thing on the heap, with a tag
pub record OnHeap (s : State) (tag : ℕ) (x : Thing) (n : ℕ) : Type 0 where
  pub place : ℕ
  pub found : heap_place s x ≡ Some place
  pub word : n ≡ HEAP_START + 4 * place + tag

-- to one in static words
pub record InStatics (l : Layout) (tag : ℕ) (x : Fixed) (n : ℕ) : Type 0 where
  pub place : ℕ
  pub found : fixed_place l x ≡ Some place
  pub word : n ≡ STATICS_START + 4 * (front_words l + place) + tag

-- a word that is read at an address outside of the stack
pub record IsRead (storage : Regions Word) (address : ℕ) (w : Word) : Type 0 where
  pub reads : long_at storage address ≡ Some w
  pub outside : address < STACK_START

-- both words of a pair, and what they are
pub record IsPairRead (l : Layout) (s : State) (storage : Regions Word) (k n : ℕ) : Type 0 where
  pub parts : Val × Val
  pub there : slice_get s.store.pairs k ≡ Some parts
  pub head : ℕ
  pub tail : ℕ
  pub head_is : word_for l s parts.0 ≡ Some head
  pub tail_is : word_for l s parts.1 ≡ Some tail
  pub head_read : IsRead storage (moved n (negsuc 2)) (Number head)
  pub tail_read : IsRead storage (moved n (pos 1)) (Number tail)

-- the length and the elements of a vector
pub record IsVectorRead (l : Layout) (s : State) (storage : Regions Word) (k n : ℕ) : Type 0 where
  pub items : List Val
  pub there : slice_get s.store.vectors k ≡ Some items
  pub short : length items < 536870912
  pub length_read : IsRead storage (moved n (pos 2)) (Number (fixnum_word (pos (length items))))
  pub element_known : (i : ℕ) (v : Val) → slice_get items i ≡ Some v → (m : ℕ) × (word_for l s v ≡ Some m)
  pub element_read : (i m : ℕ) (v : Val) → slice_get items i ≡ Some v → word_for l s v ≡ Some m → IsRead storage (n + 4 * i + 6) (Number m)

-- the length of a string
pub record IsTextRead (s : State) (storage : Regions Word) (t : Text) (n : ℕ) : Type 0 where
  pub bytes : List ℕ
  pub there : text_of s.store t ≡ Some bytes
  pub short : length bytes < 536870912
  pub length_read : IsRead storage (moved n (pos 2)) (Number (fixnum_word (pos (length bytes))))

-- the bytes of a string, one by one and all at once
pub record IsTextHeld (storage : Regions Word) (bytes : List ℕ) (n : ℕ) : Type 0 where
  pub characters : AllByRecursion (λ byte. byte < 128) bytes
  pub byte_read : (i byte : ℕ) → slice_get bytes i ≡ Some byte → byte_at (long_at storage) (n + i + 6) ≡ Some byte
  pub outside : (i : ℕ) → i < length bytes → n + i + 6 < STACK_START
  pub whole : string_of (bytes_at (long_at storage)) n ≡ Some bytes

-- the print name of a symbol
pub record IsSymbolRead (l : Layout) (s : State) (storage : Regions Word) (name n : ℕ) : Type 0 where
  pub text : ℕ
  pub text_is : word_for l s (StringV (PrintName name)) ≡ Some text
  pub text_read : IsRead storage (moved n (pos 6)) (Number text)
