-- A text has one image or one first fault, and never both.
use Rattle.std.proofs.Common.{◌≡◌, ℕ, ◌+◌, ◌*◌, ◌/◌, ◌<◌, ◌≤◌, List, [], ◌∷◌, length, get_or, map, refl, sym, ap, ◌∙◌, arith, inl, inr, Some, None, Option, Ok, Err, Result, MatchResult}
use Rattle.std.specs.Prelude.{◌⊎◌, take, unwrap_or}
use Rattle.std.specs.List.{concat, range_with_len}
use Rattle.std.proofs.lemmas.List.{take_all}
use Rattle.std.proofs.lemmas.List.FromFn.{length-map-range_with_len}
use Rattle.text_lines.specs.Lines.{pieces_of}
use Rattle.text_lines.specs.Faults.{after_lines, first_fault}
use Rattle.text_lines.proofs.FaultLaws as faults
use Rattle.hex_image.specs.Image.{most_bytes, most_words}
use Rattle.hex_image.specs.declared.fault.HexFault.{HexFault}
use Rattle.hex_image.specs.declared.fault.HexError.{HexError}
use Rattle.hex_image.specs.declared.fault.HexError.TheVariants.{Bad, NoMemory}
use Rattle.hex_image.specs.declared.image.Image.{Image}
use Rattle.hex_image.specs.Places.{Cell, Known, after_line, byte_at, cells_at, extent, image_of_cells, nothing, word_of_cells}
use Rattle.hex_image.specs.HexText.{HexText, NeedsMemory, end_line, fault_at, hex_fault, lines_read}
use Rattle.hex_image.specs.Reading.{AreSlots, IsEnded, IsImageAnswer, word_of_slots}
use Rattle.hex_image.proofs.PlaceLemmas.{extent-append}
use Rattle.hex_image.proofs.LineAgreement.{few_at}
use Rattle.hex_image.proofs.TextLemmas.{behind}

-- a text has one image, and ends at one position
pub same_image : (text v w : List ℕ) (p q : ℕ) → HexText text v p → HexText text w q → (v ≡ w) × (p ≡ q)
same_image text v w p q a b = (a.image ∙ sym b.image, a.cut ∙ sym b.cut)

-- a text has one first fault
pub same_fault : (text : List ℕ) (l m : ℕ) (f g : HexFault) → hex_fault text ≡ Some (l, f) → hex_fault text ≡ Some (m, g) → (l ≡ m) × (f ≡ g)
same_fault text l m f g a b = faults.same_fault (hex_fault text) l m f g a b

-- a text with an image has no fault
pub never_both : (text words : List ℕ) (position line : ℕ) (fault : HexFault) → HexText text words position → hex_fault text ≡ Some (line, fault) → ⊥
never_both text words position line fault t bad = faults.not_both (hex_fault text) line fault t.sound bad

-- a text has an image or a fault
abbrev IsEither : List ℕ → Type 0
IsEither text = ((words : List ℕ) × (position : ℕ) × HexText text words position) ⊎ ((line : ℕ) × (fault : HexFault) × (hex_fault text ≡ Some (line, fault)))

pub one_of_both : (text : List ℕ) → IsEither text
one_of_both text = by (hex_fault text) refl
  where
    by : (found : Option (ℕ × HexFault)) → hex_fault text ≡ found → IsEither text
    by None is = inl (image_of_cells (behind (lines_read text)).cells, length (concat (take (end_line text) (pieces_of text))), record { sound = is; image = refl; cut = refl })
    by (Some (line, fault)) is = inr (line, fault, is)

-- ---- how many words an image has

few_cells : (number : ℕ) (known : Known) (lines : List (List ℕ)) → extent known.cells ≤ most_bytes → first_fault fault_at after_line number known lines ≡ None
    → extent (after_lines after_line known lines).cells ≤ most_bytes
few_cells number known [] few sound = few
few_cells number known (line ∷ lines) few sound =
    let parts = faults.none_parts fault_at after_line number known line lines sound in
    let here = few_at known line parts.0 in
    few_cells (number + 1) (after_line known line) lines (omega (arith, here, few, extent-append known.cells (cells_at known.base line))) parts.1

extent-few : (text : List ℕ) → hex_fault text ≡ None → extent (behind (lines_read text)).cells ≤ most_bytes
extent-few text sound = few_cells 1 nothing (lines_read text) (omega arith) (faults.neither _ _ sound).0

pub few_words : (text words : List ℕ) (position : ℕ) → HexText text words position → length words ≤ most_words
few_words text words position hex =
    let cells = (behind (lines_read text)).cells in
    omega (arith, ap length hex.image, length-map-range_with_len (word_of_cells cells) 0 ((extent cells + 1) / 2), extent-few text hex.sound)

-- ---- what was answered

map_same : (f g : ℕ → ℕ) → ((x : ℕ) → f x ≡ g x) → (xs : List ℕ) → map f xs ≡ map g xs
map_same f g same [] = refl
map_same f g same (x ∷ xs) = ap (λ z. z ∷ map f xs) (same x) ∙ ap (λ z. g x ∷ z) (map_same f g same xs)

-- the words of the slots are those of the cells
words_of_slots : (cells : List Cell) (slots : List (Option ℕ)) → AreSlots cells slots
    → map (word_of_slots slots) (range_with_len 0 ((length slots + 1) / 2)) ≡ image_of_cells cells
words_of_slots cells slots are =
    map_same (word_of_slots slots) (word_of_cells cells)
    (λ a. ap (λ z. unwrap_or z 255 + 256 * unwrap_or (get_or slots (2 * a + 1) None) 255) (are.bytes (2 * a)) ∙ ap (λ z. byte_at cells (2 * a) + 256 * unwrap_or z 255) (are.bytes (2 * a + 1)))
    (range_with_len 0 ((length slots + 1) / 2))
    ∙ ap (λ n. map (word_of_cells cells) (range_with_len 0 ((n + 1) / 2))) are.size

-- an image's bytes are within the limit
pub slots_few : (text : List ℕ) (slots : List (Option ℕ)) (position : ℕ) → IsEnded text slots position → length slots ≤ most_bytes
slots_few text slots position e = omega (arith, e.slots_are.size, extent-few text e.sound)

-- memory is wanted for the words of some bytes
pub words_wanted : (text : List ℕ) (slots : List (Option ℕ)) (position : ℕ) → IsEnded text slots position → 0 < length slots → NeedsMemory text
words_wanted text slots position e some =
    let lines = lines_read text in
    let all : take (length lines) lines ≡ lines = take_all (length lines) lines (omega arith) in
    record {
      count = length lines;
      sound = ap (first_fault fault_at after_line 1 nothing) all ∙ (faults.neither _ _ e.sound).0;
      some = λ none. omega (arith, some, e.slots_are.size, ap extent (sym (ap (λ z. (behind z).cells) all) ∙ none));
    }

-- what was read is the image
pub image_read : (text words : List ℕ) (slots : List (Option ℕ)) (position : ℕ) → IsEnded text slots position
    → words ≡ map (word_of_slots slots) (range_with_len 0 ((length slots + 1) / 2)) → HexText text words position
image_read text words slots position e is =
    record { sound = e.sound; image = is ∙ words_of_slots (behind (lines_read text)).cells slots e.slots_are; cut = e.cut }

-- a text with an image is answered by it, unless memory runs out
pub answered : (text words : List ℕ) (position : ℕ) (answer : Result (Image × ℕ) HexError) → IsImageAnswer text answer → HexText text words position
    → MatchResult answer (λ read. (read.0 ≡ words) × (read.1 ≡ position)) (λ error. error ≡ NoMemory)
answered text words position (Ok read) is t = same_image text read.0 words read.1 position is t
answered text words position (Err (Bad line fault)) is t = absurd (never_both text words position line fault t is)
answered text words position (Err NoMemory) is t = refl

-- a text with a fault is refused for it, unless memory runs out
pub refused : (text : List ℕ) (line : ℕ) (fault : HexFault) (answer : Result (Image × ℕ) HexError) → IsImageAnswer text answer → hex_fault text ≡ Some (line, fault)
    → (answer ≡ Err (Bad line fault)) ⊎ (answer ≡ Err NoMemory)
refused text line fault (Ok read) is bad = absurd (never_both text read.0 read.1 line fault is bad)
refused text line fault (Err (Bad l f)) is bad =
    let same = same_fault text l line f fault is bad in
    inl (ap (λ z. Err (Bad z f)) same.0 ∙ ap (λ z. Err (Bad line z)) same.1)
refused text line fault (Err NoMemory) is bad = inr refl
