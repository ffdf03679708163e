-- Reading lines one after another.
use Rattle.std.proofs.Common.{◌≡◌, ◌≢◌, ℕ, ◌+◌, ◌*◌, ◌==◌, ◌||◌, cond, true, false, Bool, List, [], ◌∷◌, ◌++◌, length, refl, sym, ap, ◌∙◌, inl, inr, Some, None, Option}
use Rattle.std.specs.Prelude.{is_some}
use Rattle.std.specs.List.{enumerate_from, list_any, range_with_len}
use Rattle.std.proofs.lemmas.List.{append-nil}
use Rattle.text_lines.proofs.FaultLaws.{not_found}
use Rattle.hex_image.specs.declared.fault.HexFault.{HexFault}
use Rattle.hex_image.specs.declared.reading.Reading.{Reading}
use Rattle.hex_image.specs.Lines.{address_in, base_behind, bytes_of, content_in, data_in, is_end, kind_in, word_in}
use Rattle.hex_image.specs.Places.{Cell, Known, after_line, byte_given, cells_at}
use Rattle.hex_image.specs.HexText.{fault_at}
use Rattle.hex_image.specs.Reading.{AreSlots, IsData, IsPassed, IsReading, own_fault, place_fault}
use Rattle.hex_image.proofs.LineLemmas.{data_fault, empty_bytes, of_kind, quiet_fault, two_kinds}
use Rattle.hex_image.proofs.PlaceLemmas.{fault_by}

-- a line that gives no bytes
quiet_read : (known : Known) (line : List ℕ) (old new : Reading) → data_in line ≡ [] → new.base ≡ base_behind known.base line → new.slots ≡ old.slots
    → IsReading known old → IsReading (after_line known line) new
quiet_read known line old new none base same is =
    let cells : known.cells ++ cells_at known.base line ≡ known.cells =
    ap (λ z. known.cells ++ enumerate_from (known.base + address_in (bytes_of line)) z) none ∙ append-nil known.cells in
    record { base_is = base; slots_are = rw (cells, same) is.slots_are }

-- an empty line
pub blank_step : (known : Known) (line : List ℕ) (reading : Reading) → line ≡ [] → IsReading known reading → IsPassed known line false reading
blank_step known line reading empty is =
    let of = of_kind line 0 (ap kind_in (ap bytes_of empty ∙ empty_bytes)) in
    record {
      sound = ap (fault_at known) empty;
      last = of.ends;
      read = quiet_read known line reading reading (of.gives ∙ ap content_in (ap bytes_of empty ∙ empty_bytes)) (is.base_is ∙ sym (of.base known.base)) refl is;
    }

-- a record that gives no bytes
quiet_step : (known : Known) (line : List ℕ) (old new : Reading) (ends : Bool) → own_fault line ≡ None → data_in line ≡ [] → is_end line ≡ ends → new.base ≡ base_behind known.base line
    → new.slots ≡ old.slots → IsReading known old → IsPassed known line ends new
quiet_step known line old new ends sound none last base same is =
    record { sound = quiet_fault known line sound none; last = last; read = quiet_read known line old new none base same is }

-- the end record
pub end_step : (known : Known) (line : List ℕ) (reading : Reading) → own_fault line ≡ None → kind_in (bytes_of line) ≡ 1 → IsReading known reading → IsPassed known line true reading
end_step known line reading sound kind is =
    let of = of_kind line 1 kind in
    quiet_step known line reading reading true sound of.gives of.ends (is.base_is ∙ sym (of.base known.base)) refl is

-- a start address
pub start_step : (known : Known) (line : List ℕ) (reading : Reading) → own_fault line ≡ None → (kind_in (bytes_of line) == 3 || kind_in (bytes_of line) == 5) ≡ true
    → IsReading known reading → IsPassed known line false reading
start_step known line reading sound kind is = elim (two_kinds (kind_in (bytes_of line)) 3 5 kind) [
  | inl third ↦
      let of = of_kind line 3 third in
      quiet_step known line reading reading false sound of.gives of.ends (is.base_is ∙ sym (of.base known.base)) refl is
  | inr fifth ↦
      let of = of_kind line 5 fifth in
      quiet_step known line reading reading false sound of.gives of.ends (is.base_is ∙ sym (of.base known.base)) refl is
]

-- a base
pub base_step : (known : Known) (line : List ℕ) (value : ℕ) (old new : Reading) → own_fault line ≡ None → (kind_in (bytes_of line) == 2 || kind_in (bytes_of line) == 4) ≡ true
    → value ≡ cond (kind_in (bytes_of line) == 2) 16 65536 * word_in (content_in (bytes_of line)) → new.base ≡ value → new.slots ≡ old.slots
    → IsReading known old → IsPassed known line false new
base_step known line value old new sound kind value_is sets same is =
    let factor : ℕ → ℕ = λ k. cond (k == 2) 16 65536 * word_in (content_in (bytes_of line)) in
    elim (two_kinds (kind_in (bytes_of line)) 2 4 kind) [
      | inl second ↦
          let of = of_kind line 2 second in
          quiet_step known line old new false sound of.gives of.ends (sets ∙ value_is ∙ ap factor second ∙ sym (of.base known.base)) same is
      | inr fourth ↦
          let of = of_kind line 4 fourth in
          quiet_step known line old new false sound of.gives of.ends (sets ∙ value_is ∙ ap factor fourth ∙ sym (of.base known.base)) same is
    ]

-- a record without a fault gives no place twice
no_place_twice : (cells : List Cell) (from address : ℕ) (content : List ℕ) → place_fault cells from address content ≡ None
    → list_any (λ place. is_some (byte_given cells place)) (range_with_len (from + address) (length content)) ≡ false
no_place_twice cells from address content none = (not_found _ _ _ (not_found _ _ _ (sym (fault_by cells from address content _ _ _ refl refl refl) ∙ none)).1).0

-- what a data record gives
pub data_cells : (known : Known) (line : List ℕ) (address : ℕ) (content : List ℕ) → IsData line address content → cells_at known.base line ≡ enumerate_from (known.base + address) content
data_cells known line address content is =
    ap (enumerate_from (known.base + address_in (bytes_of line))) ((of_kind line 0 is.kind).gives ∙ sym is.content_is)
    ∙ ap (λ a. enumerate_from (known.base + a) content) (sym is.address_is)

-- the first fault of a record's places, as the slots tell it
abbrev Judges : (slots : List (Option ℕ)) (from address : ℕ) → List ℕ → Option HexFault → Type 0
Judges slots from address content o = (cells : List Cell) → AreSlots cells slots → o ≡ place_fault cells from address content

judged_by : (known : Known) (old : Reading) (slots : List (Option ℕ)) (address : ℕ) (content : List ℕ) (o : Option HexFault) → IsReading known old → slots ≡ old.slots.items
    → Judges slots old.base address content o → o ≡ place_fault known.cells old.base address content
judged_by known old slots address content o is same judged = judged known.cells (rw same is.slots_are)

-- what was judged of a data record
module _ (known : Known) (line : List ℕ) (address : ℕ) (content : List ℕ) (old : Reading) (slots : List (Option ℕ)) (o : Option HexFault)
    (given : IsData line address content) (is : IsReading known old) (same : slots ≡ old.slots.items)
    (judged : Judges slots old.base address content o) where
  places_judged : o ≡ place_fault known.cells old.base address content
  places_judged = judged_by known old slots address content o is same judged

  line_judged : fault_at known line ≡ o
  line_judged = data_fault known line address content given ∙ ap (λ b. place_fault known.cells b address content) (sym is.base_is) ∙ sym places_judged

  -- it was taken
  pub data_step : (start : ℕ) (new : Reading) → o ≡ None → start ≡ old.base + address → new.base ≡ old.base
      → ((cells : List Cell) → AreSlots cells old.slots.items
      → list_any (λ place. is_some (byte_given cells place)) (range_with_len start (length content)) ≡ false
      → AreSlots (cells ++ enumerate_from start content) new.slots.items)
      → IsPassed known line false new
  data_step start new none from kept put =
      let of = of_kind line 0 given.kind in
      let apart : list_any (λ place. is_some (byte_given known.cells place)) (range_with_len start (length content)) ≡ false =
      rw from (no_place_twice known.cells old.base address content (sym places_judged ∙ none)) in
      let here : start ≡ known.base + address = from ∙ ap (λ b. b + address) is.base_is in
      let cells : enumerate_from start content ≡ cells_at known.base line =
      ap (λ z. enumerate_from z content) here ∙ sym (data_cells known line address content given) in
      record {
        sound = line_judged ∙ none;
        last = of.ends;
        read = record {
          base_is = kept ∙ is.base_is ∙ sym (of.base known.base);
          slots_are = rw (← cells) (put known.cells is.slots_are apart);
        };
      }

  -- it has a fault of its places
  pub data_faulty : (fault : HexFault) → o ≡ Some fault → fault_at known line ≡ Some fault
  data_faulty fault bad = line_judged ∙ bad

  no_cells : (start : ℕ) (bytes : List ℕ) (front : List Cell) → front ++ enumerate_from start bytes ≡ [] → bytes ≡ []
  no_cells start [] front e = refl
  no_cells start (byte ∷ bytes) [] e = cc e
  no_cells start (byte ∷ bytes) (cell ∷ front) e = cc e

  -- memory ran out at it, and it has bytes
  pub data_without_memory : o ≡ None → content ≢ [] → (fault_at known line ≡ None) × ((after_line known line).cells ≢ [])
  data_without_memory none some = (
    line_judged ∙ none,
    λ e. some (no_cells (known.base + address) content known.cells (ap (λ z. known.cells ++ z) (sym (data_cells known line address content given)) ∙ e)),
  )
