-- The text that a task has of the whole.
use Rattle.std.proofs.Common.{◌≡◌, ℕ, zero, suc, ◌+◌, ◌-◌, ◌≤◌, ◌==◌, Bool, true, false, cond, List, [], ◌∷◌, ◌++◌, length, get_or, take, map, arith, ap, ◌∙◌, sym, refl, subst}
use Rattle.std.specs.Prelude.{◌≢◌, All}
use Rattle.std.specs.List.{onto_first}
use Rattle.std.proofs.lemmas.List.{append-nil, append_assoc, get_or_push, length-append, length_push, take_at, length-take}
use Rattle.std.proofs.lemmas.List.Elements.{All-head, All-tail, All-nil, All-cons}
use Rattle.std.proofs.lemmas.Bool.Decides.{nat_tests}
use Rattle.text_lines.specs.Lines.{pieces_of, without_last, line_of, lines_of}
use Rattle.text_lines.specs.Cutting.{Lacks, IsCut}
use Rattle.text_lines.proofs.TextLaws.{pieces_of-line, feed_off}
use Rattle.task_input.specs.Scripts.{own_line}
use Rattle.task_input.specs.Reading.{ended, own_lines, text_of}
use Rattle.task_input.proofs.OwnLines.{own_lacks, own_short}

lacks_take : (byte n : ℕ) (text : List ℕ) → Lacks byte text → Lacks byte (take n text)
lacks_take byte zero [] lacks = tt
lacks_take byte (suc n) [] lacks = tt
lacks_take byte zero (b ∷ text) lacks = tt
lacks_take byte (suc n) (b ∷ text) lacks = (lacks.0, lacks_take byte n text lacks.1)

lacks_push : (byte last : ℕ) (text : List ℕ) → Lacks byte text → last ≢ byte → Lacks byte (text ++ last ∷ [])
lacks_push byte last [] lacks apart = (apart, tt)
lacks_push byte last (b ∷ text) lacks apart = (lacks.0, lacks_push byte last text lacks.1 apart)

lacks_cond : (byte : ℕ) (test : Bool) (a b : List ℕ) → Lacks byte a → Lacks byte b → Lacks byte (cond test a b)
lacks_cond byte true a b first second = first
lacks_cond byte false a b first second = second

lacks_without : (byte last : ℕ) (text : List ℕ) → Lacks byte text → Lacks byte (without_last last text)
lacks_without byte last text lacks = lacks_cond byte (get_or text (length text - 1) 0 == last) (take (length text - 1) text) text (lacks_take byte (length text - 1) text lacks) lacks

-- a piece is a line, with a line feed or without
data IsPiece : List ℕ → Type 0 where
  Fed : (line : List ℕ) → Lacks 10 line → IsPiece (line ++ 10 ∷ [])
  Unfed : (line : List ℕ) → Lacks 10 line → IsPiece line

piece_line : (piece : List ℕ) → IsPiece piece → Lacks 10 (line_of piece)
piece_line _ (Fed line lacks) =
    let P : List ℕ → Type 0 = λ l. Lacks 10 (without_last 13 l) in
    subst P (sym (feed_off line)) (lacks_without 10 13 line lacks)
piece_line _ (Unfed line lacks) = lacks_without 10 13 (without_last 10 line) (lacks_without 10 10 line lacks)

piece_longer : (b : ℕ) (piece : List ℕ) → b ≢ 10 → IsPiece piece → IsPiece (b ∷ piece)
piece_longer b _ apart (Fed line lacks) = Fed (b ∷ line) (apart, lacks)
piece_longer b _ apart (Unfed line lacks) = Unfed (b ∷ line) (apart, lacks)

pieces_longer : (b : ℕ) (pieces : List (List ℕ)) → b ≢ 10 → All IsPiece pieces → All IsPiece (onto_first b pieces)
pieces_longer b [] apart all = All-cons IsPiece (b ∷ []) [] (Unfed (b ∷ []) (apart, tt)) (All-nil IsPiece)
pieces_longer b (piece ∷ pieces) apart all =
    All-cons IsPiece (b ∷ piece) pieces (piece_longer b piece apart (All-head IsPiece piece pieces all)) (All-tail IsPiece piece pieces all)

pieces_by : (b : ℕ) (test : Bool) (pieces : List (List ℕ)) → (b == 10) ≡ test → All IsPiece pieces → All IsPiece (cond test ((b ∷ []) ∷ pieces) (onto_first b pieces))
pieces_by b true pieces is all =
    let feed : b ≡ 10 = grind (arith, nat_tests) in
    let P : ℕ → Type 0 = λ c. IsPiece (c ∷ []) in
    All-cons IsPiece (b ∷ []) pieces (subst P (sym feed) (Fed [] tt)) all
pieces_by b false pieces is all =
    let apart : b ≢ 10 = grind (arith, nat_tests) in
    pieces_longer b pieces apart all

pieces_all : (text : List ℕ) → All IsPiece (pieces_of text)
pieces_all [] = All-nil IsPiece
pieces_all (b ∷ text) = pieces_by b (b == 10) (pieces_of text) refl (pieces_all text)

lines_all : (pieces : List (List ℕ)) → All IsPiece pieces → All (Lacks 10) (map line_of pieces)
lines_all [] all = All-nil (Lacks 10)
lines_all (piece ∷ pieces) all =
    All-cons (Lacks 10) (line_of piece) (map line_of pieces) (piece_line piece (All-head IsPiece piece pieces all)) (lines_all pieces (All-tail IsPiece piece pieces all))

-- no line has a line feed
pub lines_lack : (text : List ℕ) → All (Lacks 10) (lines_of text)
lines_lack text = lines_all (pieces_of text) (pieces_all text)

-- ---- a task's own text, as it is written

-- the carriage return at the end goes
return_off : (line : List ℕ) → without_last 13 (line ++ 13 ∷ []) ≡ line
return_off line =
    let size : length (line ++ 13 ∷ []) - 1 ≡ length line = omega (arith, length_push line 13) in
    let last : get_or (line ++ 13 ∷ []) (length line) 0 ≡ 13 = get_or_push line 13 0 (length line) refl in
    rw (size, last) (take_at line (13 ∷ []) (length line) refl)

-- a line with its end is the first piece, and its line is the line
ended_first : (line rest : List ℕ) → Lacks 10 line → lines_of (ended line ++ rest) ≡ line ∷ lines_of rest
ended_first [] rest lacks = refl
ended_first (b ∷ line) rest lacks =
    let returned = (b ∷ line) ++ 13 ∷ [] in
    let same : ended (b ∷ line) ++ rest ≡ returned ++ 10 ∷ rest = ap (λ l. b ∷ l) (append_assoc line (13 ∷ 10 ∷ []) rest ∙ sym (append_assoc line (13 ∷ []) (10 ∷ rest))) in
    ap lines_of same
    ∙ ap (map line_of) (pieces_of-line returned rest (lacks_push 10 13 (b ∷ line) lacks (λ e. omega arith)))
    ∙ ap (λ l. l ∷ lines_of rest) (ap (without_last 13) (feed_off returned) ∙ return_off (b ∷ line))

-- lines with their ends are the lines of their text
pub ended_lines : (lines : List (List ℕ)) → All (Lacks 10) lines → lines_of (text_of lines) ≡ lines
ended_lines [] lacks = refl
ended_lines (line ∷ lines) lacks =
    ended_first line (text_of lines) (All-head (Lacks 10) line lines lacks) ∙ ap (λ l. line ∷ l) (ended_lines lines (All-tail (Lacks 10) line lines lacks))

pub own_all : (task : ℕ) (lines : List (List ℕ)) → All (Lacks 10) lines → All (Lacks 10) (own_lines task lines)
own_all task [] lacks = All-nil (Lacks 10)
own_all task (line ∷ lines) lacks =
    All-cons (Lacks 10) (own_line task line) (own_lines task lines) (own_lacks task line (All-head (Lacks 10) line lines lacks)) (own_all task lines (All-tail (Lacks 10) line lines lacks))

-- a task's own text has the task's own lines
pub own_text_lines : (task : ℕ) (text : List ℕ) → lines_of (text_of (own_lines task (lines_of text))) ≡ own_lines task (lines_of text)
own_text_lines task text = ended_lines (own_lines task (lines_of text)) (own_all task (lines_of text) (lines_lack text))

-- one line more
pub text_more : (task : ℕ) (front : List (List ℕ)) (line : List ℕ) → text_of (own_lines task (front ++ line ∷ [])) ≡ text_of (own_lines task front) ++ ended (own_line task line)
text_more task [] line = append-nil (ended (own_line task line))
text_more task (first ∷ front) line =
    ap (λ t. ended (own_line task first) ++ t) (text_more task front line) ∙ sym (append_assoc (ended (own_line task first)) (text_of (own_lines task front)) (ended (own_line task line)))

take_short : (n : ℕ) (text : List ℕ) → length (take n text) ≤ length text
take_short n text = omega (arith, length-take n text)

cond_short : (test : Bool) (a b : List ℕ) (n : ℕ) → length a ≤ n → length b ≤ n → length (cond test a b) ≤ n
cond_short true a b n first second = first
cond_short false a b n first second = second

without_short : (byte : ℕ) (text : List ℕ) → length (without_last byte text) ≤ length text
without_short byte text = cond_short (get_or text (length text - 1) 0 == byte) (take (length text - 1) text) text (length text) (take_short (length text - 1) text) (omega arith)

-- a task's line with its end is no longer than what the text had of the line
pub own_within : (task : ℕ) (text line rest : List ℕ) → IsCut text line rest → length (ended (own_line task line)) + length rest ≤ length text
own_within task text line rest cut =
    let most : length line ≤ length cut.piece = omega (arith, ap length cut.line_is, without_short 13 (without_last 10 cut.piece), without_short 10 cut.piece) in
    omega (arith, own_short task line (length cut.piece) cut.some most, ap length cut.joined, length-append cut.piece rest)

-- the lines in front of the rest are written
pub record IsWritten (task : ℕ) (lines : List (List ℕ)) (own : List ℕ) (rest : List (List ℕ)) : Type 0 where
  pub front : List (List ℕ)
  pub cut : lines ≡ front ++ rest
  pub own_is : own ≡ text_of (own_lines task front)

pub written_more : (task : ℕ) (lines : List (List ℕ)) (own more line : List ℕ) (rest : List (List ℕ)) → IsWritten task lines own (line ∷ rest) → more ≡ own ++ ended (own_line task line)
    → IsWritten task lines more rest
written_more task lines own more line rest written is = record {
  front = written.front ++ line ∷ [];
  cut = written.cut ∙ sym (append_assoc written.front (line ∷ []) rest);
  own_is = is ∙ ap (λ o. o ++ ended (own_line task line)) written.own_is ∙ sym (text_more task written.front line);
}

pub written_all : (task : ℕ) (text own : List ℕ) → IsWritten task (lines_of text) own [] → lines_of own ≡ own_lines task (lines_of text)
written_all task text own written =
    ap lines_of (written.own_is ∙ ap (λ l. text_of (own_lines task l)) (sym (written.cut ∙ append-nil written.front))) ∙ own_text_lines task text
