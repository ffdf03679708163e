-- Reading the lines of a text.
use Rattle.std.proofs.Common.{◌≡◌, ◌≢◌, ℕ, zero, suc, ◌+◌, ◌-◌, add-one, ◌≤◌, true, false, not, cond, List, [], ◌∷◌, ◌++◌, length, take, drop, refl, sym, ap, ◌∙◌, subst, arith, Bool, Option, Some}
use Rattle.std.proofs.Common.{None}
use Rattle.std.specs.Option.{option_or}
use Rattle.std.specs.List.{concat, list_any, position_or_len}
use Rattle.std.proofs.lemmas.Bool.{or_parts}
use Rattle.std.proofs.lemmas.List.{append-nil, append_assoc, length-append, length_push, take_at}
use Rattle.std.proofs.lemmas.List.Folds.{concat-append, list_any-append}
use Rattle.text_lines.specs.Lines.{lines_of, pieces_of}
use Rattle.text_lines.specs.Cutting.{IsCut}
use Rattle.text_lines.specs.Faults.{after_lines, first_fault}
use Rattle.text_lines.proofs.FaultLaws.{after_both, fault_here, none_more}
use Rattle.text_lines.proofs.TextLaws.{lines_cut}
use Rattle.hex_image.specs.declared.fault.HexFault.{HexFault}
use Rattle.hex_image.specs.declared.fault.HexFault.TheVariants.{NoEnd}
use Rattle.hex_image.specs.Lines.{is_end}
use Rattle.hex_image.specs.Places.{Known, after_line, nothing}
use Rattle.hex_image.specs.HexText.{NeedsMemory, end_line, fault_at, hex_fault, lines_read}
use Rattle.hex_image.specs.declared.reading.Reading.{Reading}
use Rattle.hex_image.specs.Reading.{IsEnded, IsPassed, IsReading}

-- ---- lines behind others

-- what is known behind lines, from the first on
abbrev pub behind : List (List ℕ) → Known
behind before = after_lines after_line nothing before

-- lines of a text have no fault, and none is the end record
pub record AreBefore (before : List (List ℕ)) : Type 0 where
  pub sound : first_fault fault_at after_line 1 nothing before ≡ None
  pub unended : list_any is_end before ≡ false

-- nor has one line more
pub before_more : (before : List (List ℕ)) (line : List ℕ) → AreBefore before → fault_at (behind before) line ≡ None → is_end line ≡ false → AreBefore (before ++ line ∷ [])
before_more before line are none other = record {
  sound = none_more fault_at after_line 1 nothing before line are.sound none;
  unended = list_any-append is_end before (line ∷ []) ∙ rw (are.unended, other) refl;
}

-- where the end record is
place_behind : (before lines : List (List ℕ)) → list_any is_end before ≡ false → position_or_len is_end (before ++ lines) ≡ length before + position_or_len is_end lines
place_behind [] lines none = omega arith
place_behind (line ∷ before) lines none =
    let parts = or_parts (is_end line) (list_any is_end before) none in
    ap (λ b. cond (not b) (1 + position_or_len is_end (before ++ lines)) 0) parts.0 ∙ omega (arith, place_behind before lines parts.1)

take_behind : {X : Type 0} (before lines : List X) (n : ℕ) → take (length before + n) (before ++ lines) ≡ before ++ take n lines
take_behind [] lines n = ap (λ z. take z lines) (omega arith)
take_behind (x ∷ before) lines n =
    let more : length (x ∷ before) + n ≡ suc (length before + n) = omega arith in
    ap (λ z. take z (x ∷ before ++ lines)) more ∙ ap (λ z. x ∷ z) (take_behind before lines n)

end_behind : (text : List ℕ) (before lines : List (List ℕ)) → lines_of text ≡ before ++ lines → AreBefore before → end_line text ≡ length before + (position_or_len is_end lines + 1)
end_behind text before lines is are = omega (arith, ap (position_or_len is_end) is ∙ place_behind before lines are.unended)

read_behind : (text : List ℕ) (before lines : List (List ℕ)) → lines_of text ≡ before ++ lines → AreBefore before → lines_read text ≡ before ++ take (position_or_len is_end lines + 1) lines
read_behind text before lines is are =
    ap (λ n. take n (lines_of text)) (end_behind text before lines is are)
    ∙ ap (take (length before + (position_or_len is_end lines + 1))) is
    ∙ take_behind before lines (position_or_len is_end lines + 1)

-- the lines up to the next, and some behind it
pub read_next : (text : List ℕ) (before lines : List (List ℕ)) (line : List ℕ) → lines_of text ≡ before ++ line ∷ lines → AreBefore before
    → lines_read text ≡ before ++ line ∷ take (position_or_len is_end (line ∷ lines)) lines
read_next text before lines line is are =
    read_behind text before (line ∷ lines) is are ∙ ap (λ n. before ++ take n (line ∷ lines)) (add-one (position_or_len is_end (line ∷ lines)))

-- the first fault of the lines that are read, or that none of all is the end record
abbrev told : (text : List ℕ) (found : Option (ℕ × HexFault)) → (ends : Bool) → Option (ℕ × HexFault)
told text found ends = option_or found (cond ends None (Some (end_line text, NoEnd)))

-- the lines up to the end record
pub record AreAll (text : List ℕ) (before : List (List ℕ)) (line : List ℕ) : Type 0 where
  pub number : end_line text ≡ length before + 1
  pub lines : lines_read text ≡ before ++ line ∷ []
  pub sound : hex_fault text ≡ None

pub are_all : (text : List ℕ) (before lines : List (List ℕ)) (line : List ℕ) → lines_of text ≡ before ++ line ∷ lines → AreBefore before
    → fault_at (behind before) line ≡ None → is_end line ≡ true → AreAll text before line
are_all text before lines line is are none last =
    let here : position_or_len is_end (line ∷ lines) ≡ 0 = ap (λ b. cond (not b) (1 + position_or_len is_end lines) 0) last in
    let all : lines_read text ≡ before ++ line ∷ [] = read_next text before lines line is are ∙ ap (λ n. before ++ line ∷ take n lines) here in
    let some : list_any is_end (lines_of text) ≡ true =
    ap (list_any is_end) is ∙ list_any-append is_end before (line ∷ lines) ∙ rw (are.unended, last) refl in
    record {
      number = end_behind text before (line ∷ lines) is are ∙ ap (λ n. length before + (n + 1)) here;
      lines = all;
      sound =
          ap (told text (first_fault fault_at after_line 1 nothing (lines_read text))) some
          ∙ ap (λ o. told text o true) (ap (first_fault fault_at after_line 1 nothing) all ∙ none_more fault_at after_line 1 nothing before line are.sound none);
    }

-- the next line has a fault
pub fault_found : (text : List ℕ) (before lines : List (List ℕ)) (line : List ℕ) (fault : HexFault) → lines_of text ≡ before ++ line ∷ lines → AreBefore before
    → fault_at (behind before) line ≡ Some fault
    → hex_fault text ≡ Some (length before + 1, fault)
fault_found text before lines line fault is are bad =
    let more = take (position_or_len is_end (line ∷ lines)) lines in
    let first : first_fault fault_at after_line 1 nothing (lines_read text) ≡ Some (1 + length before, fault) =
    ap (first_fault fault_at after_line 1 nothing) (read_next text before lines line is are) ∙ fault_here fault_at after_line 1 nothing before more line fault are.sound bad in
    let number : 1 + length before ≡ length before + 1 = omega arith in
    ap (λ o. told text o (list_any is_end (lines_of text))) first ∙ ap (λ m. Some (m, fault)) number

-- no end record comes
pub fault_past : (text : List ℕ) (before : List (List ℕ)) → lines_of text ≡ before ++ [] → AreBefore before → hex_fault text ≡ Some (length before + 1, NoEnd)
fault_past text before is are =
    let none : list_any is_end (lines_of text) ≡ false = ap (list_any is_end) (is ∙ append-nil before) ∙ are.unended in
    let all : lines_read text ≡ before = read_behind text before [] is are ∙ append-nil before in
    let last : end_line text ≡ length before + 1 = omega (arith, end_behind text before [] is are) in
    ap (λ o. told text o (list_any is_end (lines_of text))) (ap (first_fault fault_at after_line 1 nothing) all ∙ are.sound) ∙ ap (told text None) none ∙ ap (λ m. Some (m, NoEnd)) last

-- ---- what was read

take-drop : {X : Type 0} (n : ℕ) (xs : List X) (y : X) (ys : List X) → drop n xs ≡ y ∷ ys → take (suc n) xs ≡ take n xs ++ y ∷ []
take-drop zero [] y ys e = cc e
take-drop zero (x ∷ xs) y ys e = cc e
take-drop (suc n) [] y ys e = cc e
take-drop (suc n) (x ∷ xs) y ys e = ap (λ z. x ∷ z) (take-drop n xs y ys e)

drop-more : {X : Type 0} (n : ℕ) (xs : List X) (y : X) (ys : List X) → drop n xs ≡ y ∷ ys → drop (suc n) xs ≡ ys
drop-more zero [] y ys e = cc e
drop-more zero (x ∷ xs) y ys e = cc e
drop-more (suc n) [] y ys e = cc e
drop-more (suc n) (x ∷ xs) y ys e = drop-more n xs y ys e

-- n lines of a text were read, and this is left
pub record IsRead (text rest : List ℕ) (n : ℕ) (reading : Reading) : Type 0 where
  pub left : drop n (pieces_of text) ≡ pieces_of rest
  pub whole : length (concat (take n (pieces_of text))) + length rest ≡ length text
  pub few : n + length rest ≤ length text
  pub before : List (List ℕ)
  pub count : length before ≡ n
  pub lines : lines_of text ≡ before ++ lines_of rest
  pub are : AreBefore before
  pub kept : IsReading (behind before) reading

-- how far the next line goes
length-next : (text rest line after : List ℕ) (n : ℕ) (reading : Reading) → IsRead text rest n reading → IsCut rest line after
    → length (concat (take (n + 1) (pieces_of text))) + length after ≡ length text
length-next text rest line after n reading is cut =
    let more : take (n + 1) (pieces_of text) ≡ take n (pieces_of text) ++ cut.piece ∷ [] = rw add-one (take-drop n (pieces_of text) cut.piece (pieces_of after) (is.left ∙ cut.pieces)) in
    let joined : concat (take (n + 1) (pieces_of text)) ≡ concat (take n (pieces_of text)) ++ cut.piece =
    ap concat more ∙ concat-append (take n (pieces_of text)) (cut.piece ∷ []) ∙ ap (λ z. concat (take n (pieces_of text)) ++ z) (append-nil cut.piece) in
    let size : length rest ≡ length cut.piece + length after = ap length cut.joined ∙ length-append cut.piece after in
    omega (arith, is.whole, ap length joined, length-append (concat (take n (pieces_of text))) cut.piece)

-- the next line, and those behind it
lines-next : (text rest line after : List ℕ) (n : ℕ) (reading : Reading) → (is : IsRead text rest n reading) → IsCut rest line after → lines_of text ≡ is.before ++ line ∷ lines_of after
lines-next text rest line after n reading is cut = is.lines ∙ ap (λ z. is.before ++ z) (lines_cut rest line after cut)

-- nothing was read
pub read_none : (text : List ℕ) (reading : Reading) → IsReading nothing reading → IsRead text text 0 reading
read_none text reading is = record {
  left = refl;
  whole = omega arith;
  few = omega arith;
  before = [];
  count = refl;
  lines = refl;
  are = record { sound = refl; unended = refl };
  kept = is;
}

-- one line more was read
pub read_more : (text rest line after : List ℕ) (n : ℕ) (old new : Reading) → (is : IsRead text rest n old) → IsCut rest line after → IsPassed (behind is.before) line false new
    → IsRead text after (suc n) new
read_more text rest line after n old new is cut passed =
    let left : drop n (pieces_of text) ≡ cut.piece ∷ pieces_of after = is.left ∙ cut.pieces in
    record {
      left = drop-more n (pieces_of text) cut.piece (pieces_of after) left;
      whole = rw (← add-one) (length-next text rest line after n old is cut);
      few = omega (arith, is.few, cut.some, ap length cut.joined ∙ length-append cut.piece after);
      before = is.before ++ line ∷ [];
      count = omega (arith, is.count, length_push is.before line);
      lines = lines-next text rest line after n old is cut ∙ sym (append_assoc is.before (line ∷ []) (lines_of after));
      are = before_more is.before line is.are passed.sound passed.last;
      kept = rw (after_both fault_at after_line nothing is.before (line ∷ [])) passed.read;
    }

-- the end record's line was read
pub read_end : (text rest line after : List ℕ) (n : ℕ) (reading last : Reading) → (is : IsRead text rest n reading) → IsCut rest line after → IsPassed (behind is.before) line true last
    → IsEnded text last.slots.items (length text - length after)
read_end text rest line after n reading last is cut passed =
    let all = are_all text is.before (lines_of after) line (lines-next text rest line after n reading is cut) is.are passed.sound passed.last in
    let number : end_line text ≡ n + 1 = omega (arith, all.number, is.count) in
    record {
      sound = all.sound;
      slots_are = rw (ap (λ z. (behind z).cells) all.lines ∙ ap (λ (k : Known). k.cells) (after_both fault_at after_line nothing is.before (line ∷ []))) passed.read.slots_are;
      cut = rw number (omega (arith, length-next text rest line after n reading is cut));
    }

-- a line with a fault was read
pub read_fault : (text rest line after : List ℕ) (n number : ℕ) (reading : Reading) (fault : HexFault) → (is : IsRead text rest n reading) → IsCut rest line after
    → number ≡ n + 1 → fault_at (behind is.before) line ≡ Some fault → hex_fault text ≡ Some (number, fault)
read_fault text rest line after n number reading fault is cut counted bad =
    let here : length is.before + 1 ≡ number = omega (arith, is.count, counted) in
    fault_found text is.before (lines_of after) line fault (lines-next text rest line after n reading is cut) is.are bad ∙ ap (λ m. Some (m, fault)) here

-- no end record came
pub read_all : (text rest : List ℕ) (n number : ℕ) (reading : Reading) → IsRead text rest n reading → rest ≡ [] → number ≡ n + 1 → hex_fault text ≡ Some (number, NoEnd)
read_all text rest n number reading is empty counted =
    let here : length is.before + 1 ≡ number = omega (arith, is.count, counted) in
    fault_past text is.before (is.lines ∙ ap (λ r. is.before ++ lines_of r) empty) is.are ∙ ap (λ m. Some (m, NoEnd)) here

-- memory ran out at a line that gives bytes
pub read_without_memory : (text rest line after : List ℕ) (n : ℕ) (reading : Reading) → (is : IsRead text rest n reading) → IsCut rest line after
    → fault_at (behind is.before) line ≡ None → (after_line (behind is.before) line).cells ≢ [] → NeedsMemory text
read_without_memory text rest line after n reading is cut sound some =
    let more = take (position_or_len is_end (line ∷ lines_of after)) (lines_of after) in
    let whole : lines_read text ≡ (is.before ++ line ∷ []) ++ more =
    read_next text is.before (lines_of after) line (lines-next text rest line after n reading is cut) is.are ∙ sym (append_assoc is.before (line ∷ []) more) in
    let front : take (suc n) (lines_read text) ≡ is.before ++ line ∷ [] =
    ap (take (suc n)) whole ∙ take_at (is.before ++ line ∷ []) more (suc n) (omega (arith, is.count, length_push is.before line)) in
    record {
      count = suc n;
      sound = ap (first_fault fault_at after_line 1 nothing) front ∙ none_more fault_at after_line 1 nothing is.before line is.are.sound sound;
      some = λ none. some (ap (λ (k : Known). k.cells) (sym (after_both fault_at after_line nothing is.before (line ∷ []))) ∙ sym (ap (λ z. (behind z).cells) front) ∙ none);
    }

-- a number of lines, or a position, that is written otherwise
pub read_numbered : (text rest : List ℕ) (n other : ℕ) (reading : Reading) → IsRead text rest n reading → other ≡ n → IsRead text rest other reading
read_numbered text rest n other reading is same =
    let P : ℕ → Type 0 = λ m. IsRead text rest m reading in
    subst P (sym same) is

pub ended_at : (text : List ℕ) (slots : List (Option ℕ)) (position other : ℕ) → IsEnded text slots position → other ≡ position → IsEnded text slots other
ended_at text slots position other is same =
    let P : ℕ → Type 0 = λ at. IsEnded text slots at in
    subst P (sym same) is
