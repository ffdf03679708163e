-- Serves private functions: what the functions that read a text say of one another.
use Rattle.std.specs.Prelude.{◌≡◌, ◌≢◌, ℕ, ◌+◌, ◌*◌, ◌==◌, nat_lt, Bool, true, false, not, ◌||◌, ◌%◌, if◌then◌else◌, List, [], ◌∷◌, length, slice_index_or, take, sum, find, is_some, unwrap_or, Option}
use Rattle.std.specs.Prelude.{Some, None, Result, Ok, Err, MatchResult}
use Rattle.std.specs.List.{concat, enumerate_from, list_any}
use Rattle.std.specs.Global.{Vec}
use Rattle.text_lines.specs.Lines.{pieces_of}
use Rattle.text_lines.specs.Faults.{after_lines}
use Rattle.hex_image.specs.Image.{most_bytes}
use Rattle.hex_image.specs.declared.fault.HexFault.{HexFault}
use Rattle.hex_image.specs.declared.fault.HexFault.TheVariants.{Start, Digit, Length, Checksum, Kind, Wrap, Twice, TooLarge}
use Rattle.hex_image.specs.declared.line.Line.{Line}
use Rattle.hex_image.specs.declared.line.Line.TheVariants.{Blank, Data, EndOfFile, Base, StartAddress, Faulty}
use Rattle.hex_image.specs.declared.fault.HexError.{HexError}
use Rattle.hex_image.specs.declared.fault.HexError.TheVariants.{Bad}
use Rattle.hex_image.specs.declared.fault.HexError.TheVariants as errors
use Rattle.hex_image.specs.HexText.{HexText, NeedsMemory, end_line, fault_at, has_fault, hex_fault, lines_read}
use Rattle.hex_image.specs.declared.image.Image.{Image}
use Rattle.hex_image.specs.declared.reading.Reading.{Reading}
use Rattle.hex_image.specs.declared.reading.Step.{Step}
use Rattle.hex_image.specs.declared.reading.Step.TheVariants.{Next, End}
use Rattle.hex_image.specs.declared.reading.Refusal.{Refusal}
use Rattle.hex_image.specs.declared.reading.Refusal.TheVariants.{Fault, NoMemory}
use Rattle.hex_image.specs.Places.{Cell, Known, after_line, byte_given, extent, nothing}
use Rattle.hex_image.specs.Lines.{address_in, bytes_of, content_in, count_in, has_right_count, is_end, kind_in, word_in}

-- the first of the faults that a line has by itself
abbrev pub own_fault : List ℕ → Option HexFault
own_fault line = find (has_fault nothing line) (Start ∷ Digit ∷ Length ∷ Checksum ∷ Kind ∷ [])

-- the first fault that a record's bytes have by their places
abbrev pub place_fault : List Cell → (from address : ℕ) (content : List ℕ) → Option HexFault
place_fault cells from address content =
    if nat_lt 65536 (address + length content) then Some Wrap
    else if list_any (λ cell. is_some (byte_given cells cell.0)) (enumerate_from (from + address) content) then Some Twice
    else if nat_lt most_bytes (extent (enumerate_from (from + address) content)) then Some TooLarge
    else None

-- what a record of this kind says
abbrev pub Says : (kind address : ℕ) → List ℕ → Line → Type 0
Says kind address content (Data at bytes) = (kind ≡ 0) × (at ≡ address) × (bytes.items ≡ content)
Says kind address content EndOfFile = kind ≡ 1
Says kind address content (Base value) = ((kind == 2 || kind == 4) ≡ true) × (value ≡ (if kind == 2 then 16 else 65536) * word_in content)
Says kind address content StartAddress = (kind == 3 || kind == 5) ≡ true
Says kind address content _ = ⊥

-- .. the record of these bytes
abbrev pub SaysIn : List ℕ → Line → Type 0
SaysIn bytes told = Says (kind_in bytes) (address_in bytes) (content_in bytes) told

-- the line has no fault of its own, and this is what it says
pub record IsRecordOf (line : List ℕ) (told : Line) : Type 0 where
  pub sound : own_fault line ≡ None
  pub says : SaysIn (bytes_of line) told

-- what a line says
abbrev pub IsTold : List ℕ → Line → Type 0
IsTold line Blank = line ≡ []
IsTold line (Faulty fault) = (line ≢ []) × (own_fault line ≡ Some fault)
IsTold line told = IsRecordOf line told

-- the first fault of a record's bytes
abbrev pub fault_in : List ℕ → Option HexFault
fault_in bytes =
    if nat_lt (length bytes) 5 || not (length bytes == 5 + count_in bytes) then Some Length
    else if not (sum bytes % 256 == 0) then Some Checksum
    else if not (has_right_count (kind_in bytes) (count_in bytes)) then Some Kind
    else None

-- what was answered for a record's bytes
pub record IsRecordOfBytes (bytes : List ℕ) (answer : Result Line HexFault) : Type 0 where
  pub judged : MatchResult answer (λ told. (fault_in bytes ≡ None) × SaysIn bytes told) (λ fault. fault_in bytes ≡ Some fault)

-- the line is a data record, and gives these bytes at this address
pub record IsData (line : List ℕ) (address : ℕ) (content : List ℕ) : Type 0 where
  pub sound : own_fault line ≡ None
  pub kind : kind_in (bytes_of line) ≡ 0
  pub address_is : address ≡ address_in (bytes_of line)
  pub content_is : content ≡ content_in (bytes_of line)

-- the slots hold exactly the bytes that the cells give, each at its place
pub record AreSlots (cells : List Cell) (slots : List (Option ℕ)) : Type 0 where
  pub size : length slots ≡ extent cells
  pub bytes : (place : ℕ) → slice_index_or slots place None ≡ byte_given cells place

-- what was read of lines behind which this is known
pub record IsReading (known : Known) (reading : Reading) : Type 0 where
  pub base_is : reading.base ≡ known.base
  pub slots_are : AreSlots known.cells reading.slots.items

-- a line without a fault was read, the end record or another
pub record IsPassed (known : Known) (line : List ℕ) (ends : Bool) (new : Reading) : Type 0 where
  pub sound : fault_at known line ≡ None
  pub last : is_end line ≡ ends
  pub read : IsReading (after_line known line) new

-- what was answered for a line
abbrev pub IsStep : Known → List ℕ → Reading → Result Step Refusal → Type 0
IsStep known line new (Ok Next) = IsPassed known line false new
IsStep known line new (Ok End) = IsPassed known line true new
IsStep known line new (Err (Fault fault)) = fault_at known line ≡ Some fault
IsStep known line new (Err NoMemory) = (fault_at known line ≡ None) × ((after_line known line).cells ≢ [])

-- the word at a word address, by the bytes at their places
abbrev pub word_of_slots : List (Option ℕ) → ℕ → ℕ
word_of_slots slots address =
    unwrap_or (slice_index_or slots (2 * address) None) 255 + 256 * unwrap_or (slice_index_or slots (2 * address + 1) None) 255

-- the bytes that the text's lines give, and where the text behind the end record's line begins
pub record IsEnded (text : List ℕ) (slots : List (Option ℕ)) (position : ℕ) : Type 0 where
  pub sound : hex_fault text ≡ None
  pub slots_are : AreSlots (after_lines after_line nothing (lines_read text)).cells slots
  pub cut : position ≡ length (concat (take (end_line text) (pieces_of text)))

-- what was answered for the lines of a text
abbrev pub IsAnswer : List ℕ → Result (Vec (Option ℕ) × ℕ) HexError → Type 0
IsAnswer text (Ok read) = IsEnded text read.0.items read.1
IsAnswer text (Err (Bad line fault)) = hex_fault text ≡ Some (line, fault)
IsAnswer text (Err errors.NoMemory) = NeedsMemory text

-- what was answered for a text
abbrev pub IsImageAnswer : List ℕ → Result (Image × ℕ) HexError → Type 0
IsImageAnswer text (Ok read) = HexText text read.0 read.1
IsImageAnswer text (Err (Bad line fault)) = hex_fault text ≡ Some (line, fault)
IsImageAnswer text (Err errors.NoMemory) = NeedsMemory text
