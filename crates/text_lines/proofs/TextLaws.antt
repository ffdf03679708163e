-- The lines of a text: what its first line leaves, and that all of them make up the text.
use Rattle.std.proofs.Common.{◌≡◌, ℕ, zero, suc, ◌-◌, ◌<◌, ◌≤◌, ◌==◌, Bool, true, false, cond, List, [], ◌∷◌, ◌++◌, length, get_or, take, drop, map, refl, sym, ap, ap₂, ◌∙◌, arith}
use Rattle.std.specs.Prelude.{◌≢◌, All, flat_map}
use Rattle.std.specs.List.{concat, onto_first}
use Rattle.std.proofs.lemmas.List.{append-nil, append_assoc, get_or_push, length-append, length_push, take-append-drop, take_at}
use Rattle.std.proofs.lemmas.List.Elements.{All-head, All-tail}
use Rattle.std.proofs.lemmas.List.Folds.{concat-append}
use Rattle.std.proofs.lemmas.Bool.Decides.{nat_tests}
use Rattle.text_lines.specs.Lines.{pieces_of, without_last, line_of, lines_of}
use Rattle.text_lines.specs.Cutting.{Lacks, IsCut}
use Rattle.text_lines.specs.Written.{fed, IsPlain}

no_feed : (byte : ℕ) → byte ≢ 10 → (byte == 10) ≡ false
no_feed byte h = grind (arith, nat_tests)

-- a line with its line feed is the first piece
pub pieces_of-line : (line rest : List ℕ) → Lacks 10 line → pieces_of (line ++ 10 ∷ rest) ≡ (line ++ 10 ∷ []) ∷ pieces_of rest
pieces_of-line [] rest lacks = refl
pieces_of-line (byte ∷ line) rest lacks = rw (no_feed byte lacks.0) (ap (onto_first byte) (pieces_of-line line rest lacks.1))

-- a line without a line feed is the only piece
pub pieces_of-last : (line : List ℕ) → Lacks 10 line → 0 < length line → pieces_of line ≡ line ∷ []
pieces_of-last [] lacks some = absurd (omega arith)
pieces_of-last (byte ∷ []) lacks some = rw (no_feed byte lacks.0) refl
pieces_of-last (byte ∷ next ∷ line) lacks some = rw (no_feed byte lacks.0) (ap (onto_first byte) (pieces_of-last (next ∷ line) lacks.1 (omega arith)))

-- the line feed at the end goes
pub feed_off : (line : List ℕ) → without_last 10 (line ++ 10 ∷ []) ≡ line
feed_off line =
    let size : length (line ++ 10 ∷ []) - 1 ≡ length line = omega (arith, length_push line 10) in
    let last : get_or (line ++ 10 ∷ []) (length line) 0 ≡ 10 = get_or_push line 10 0 (length line) refl in
    rw (size, last) (take_at line (10 ∷ []) (length line) refl)

-- a text that lacks a byte lacks it at each of its places
lacks_at : (byte : ℕ) (text : List ℕ) (i : ℕ) → Lacks byte text → i < length text → get_or text i 0 ≢ byte
lacks_at byte [] i lacks inside = absurd (omega arith)
lacks_at byte (b ∷ text) zero lacks inside = lacks.0
lacks_at byte (b ∷ text) (suc i) lacks inside = lacks_at byte text i lacks.1 (omega arith)

pub no_feed_off : (line : List ℕ) → Lacks 10 line → 0 < length line → without_last 10 line ≡ line
no_feed_off line lacks some =
    let below : length line - 1 < length line = omega arith in
    rw (no_feed (get_or line (length line - 1) 0) (lacks_at 10 line (length line - 1) lacks below)) refl

-- a text is cut behind its first line feed
pub cut_at_feed : (text line rest : List ℕ) → Lacks 10 line → text ≡ line ++ 10 ∷ rest → IsCut text (without_last 13 line) rest
cut_at_feed text line rest lacks parts = record {
  piece = line ++ 10 ∷ [];
  some = omega (arith, length_push line 10);
  joined = parts ∙ sym (append_assoc line (10 ∷ []) rest);
  pieces = ap pieces_of parts ∙ pieces_of-line line rest lacks;
  line_is = ap (without_last 13) (sym (feed_off line));
}

-- a text without a line feed is one line
pub cut_at_end : (text : List ℕ) → Lacks 10 text → 0 < length text → IsCut text (without_last 13 text) []
cut_at_end text lacks some = record {
  piece = text;
  some = some;
  joined = sym (append-nil text);
  pieces = pieces_of-last text lacks some;
  line_is = ap (without_last 13) (sym (no_feed_off text lacks some));
}

-- what stands behind the first line has the other lines
pub lines_cut : (text line rest : List ℕ) → IsCut text line rest → lines_of text ≡ line ∷ lines_of rest
lines_cut text line rest cut = ap (map line_of) cut.pieces ∙ ap (λ z. z ∷ lines_of rest) (sym cut.line_is)

-- the pieces of a text make up the text
concat-onto_first : (byte : ℕ) (pieces : List (List ℕ)) → concat (onto_first byte pieces) ≡ byte ∷ concat pieces
concat-onto_first byte [] = refl
concat-onto_first byte (piece ∷ pieces) = refl

joined : (byte : ℕ) (rest : List ℕ) (test : Bool) → concat (pieces_of rest) ≡ rest → concat (cond test ((byte ∷ []) ∷ pieces_of rest) (onto_first byte (pieces_of rest))) ≡ byte ∷ rest
joined byte rest true whole = ap (λ z. byte ∷ z) whole
joined byte rest false whole = concat-onto_first byte (pieces_of rest) ∙ ap (λ z. byte ∷ z) whole

pub concat-pieces_of : (text : List ℕ) → concat (pieces_of text) ≡ text
concat-pieces_of [] = refl
concat-pieces_of (byte ∷ rest) = joined byte rest (byte == 10) (concat-pieces_of rest)

-- the first pieces of a text are no longer than the text
pub front-short : (n : ℕ) (text : List ℕ) → length (concat (take n (pieces_of text))) ≤ length text
front-short n text =
    let pieces = pieces_of text in
    let parts : concat pieces ≡ concat (take n pieces) ++ concat (drop n pieces) = ap concat (sym (take-append-drop n pieces)) ∙ concat-append (take n pieces) (drop n pieces) in
    omega (arith, ap length parts, length-append (concat (take n pieces)) (concat (drop n pieces)), ap length (concat-pieces_of text))

-- ---- lines that are written

-- a line with its line feed is the line
pub line_of-fed : (line : List ℕ) → IsPlain line → line_of (fed line) ≡ line
line_of-fed line is = ap (without_last 13) (feed_off line) ∙ is.plain

-- lines with their line feeds are the pieces of their text
pub pieces_of-fed : (lines : List (List ℕ)) → All IsPlain lines → pieces_of (flat_map fed lines) ≡ map fed lines
pieces_of-fed [] plain = refl
pieces_of-fed (line ∷ lines) plain =
    let here : IsPlain line = All-head IsPlain line lines plain in
    ap pieces_of (append_assoc line (10 ∷ []) (flat_map fed lines))
    ∙ pieces_of-line line (flat_map fed lines) here.inside
    ∙ ap (λ z. fed line ∷ z) (pieces_of-fed lines (All-tail IsPlain line lines plain))

lines-fed : (lines : List (List ℕ)) → All IsPlain lines → map line_of (map fed lines) ≡ lines
lines-fed [] plain = refl
lines-fed (line ∷ lines) plain =
    ap₂ (λ z zs. z ∷ zs) (line_of-fed line (All-head IsPlain line lines plain)) (lines-fed lines (All-tail IsPlain line lines plain))

-- and they are its lines
pub lines_of-fed : (lines : List (List ℕ)) → All IsPlain lines → lines_of (flat_map fed lines) ≡ lines
lines_of-fed lines plain = ap (map line_of) (pieces_of-fed lines plain) ∙ lines-fed lines plain

pub concat-fed : (lines : List (List ℕ)) → concat (map fed lines) ≡ flat_map fed lines
concat-fed [] = refl
concat-fed (line ∷ lines) = ap (λ z. fed line ++ z) (concat-fed lines)

zero_from : (n : ℕ) → true ≡ (n == 0) → n ≡ 0
zero_from n test = grind (arith, nat_tests)

-- a text without a byte has no line
pub no_lines : (text : List ℕ) → true ≡ (length text == 0) → lines_of text ≡ []
no_lines [] empty = refl
no_lines (b ∷ text) empty = let none : length (b ∷ text) ≡ 0 = zero_from (length (b ∷ text)) empty in absurd (omega arith)
