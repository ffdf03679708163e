-- The text of an image has that image.
use Rattle.std.proofs.Common.{◌≡◌, ℕ, zero, suc, add-one, ◌+◌, ◌*◌, ◌/◌, ◌%◌, ◌<◌, ◌≤◌, ◌==◌, ◌^◌, true, false, List, [], ◌∷◌, ◌++◌, length, get_or, take, drop, length-drop, map, refl, sym, ap, ap₂}
use Rattle.std.proofs.Common.{◌∙◌, subst, arith, Some, None}
use Rattle.std.specs.Prelude.{All, flat_map, is_some, nat_lt, unwrap_or}
use Rattle.std.specs.List.{concat, enumerate_from, list_any, range_with_len}
use Rattle.std.proofs.lemmas.Bool.Decides.{nat_tests}
use Rattle.std.proofs.lemmas.Grind.{flat_map-append}
use Rattle.std.proofs.lemmas.List.{append-nil, length-map, length-take, length_push, take_all}
use Rattle.std.proofs.lemmas.List.Elements.{All-drop, All-from_get_or, All-head, All-push, All-tail, All-take}
use Rattle.std.proofs.lemmas.List.FromFn.{fill_by_all, get_or-map-range_with_len, length-enumerate_from, length-map-range_with_len, map-range_with_len_more}
use Rattle.hex.specs.Hex.{IsBytes}
use Rattle.text_lines.specs.Lines.{lines_of, pieces_of}
use Rattle.text_lines.specs.Written.{fed, IsPlain}
use Rattle.text_lines.proofs.FaultLaws.{after_both}
use Rattle.text_lines.proofs.TextLaws.{concat-fed, lines_of-fed, pieces_of-fed}
use Rattle.hex_image.specs.Lines.{address_in, bytes_of, kind_in}
use Rattle.hex_image.specs.Places.{Known, after_line, byte_at, byte_given, cells_at, extent, image_of_cells, nothing, word_of_cells}
use Rattle.hex_image.specs.HexText.{HexText, end_line, fault_at, lines_read}
use Rattle.hex_image.specs.Image.{IsImage, most_bytes}
use Rattle.hex_image.specs.Written.{bytes_of_words, data_line, record_content, record_count, record_line, written}
use Rattle.hex_image.proofs.LineLemmas.{OfKind, data_fault, of_kind, quiet_fault}
use Rattle.hex_image.proofs.PlaceLemmas.{extent-row, fault_by, fresh}
use Rattle.hex_image.proofs.ReadingLemmas.{data_cells}
use Rattle.hex_image.proofs.TextLemmas.{AreBefore, are_all, before_more, behind}
use Rattle.hex_image.proofs.WrittenLemmas.{IsWritable, data_line-is, record_line-bytes, record_line-plain, record_line-sound}
use Rattle.base.proofs.ManyLaws.{length-two_each}

-- ---- bytes and words

length-bytes_of_words : (words : List ℕ) → length (bytes_of_words words) ≡ 2 * length words
length-bytes_of_words words = length-two_each (λ word. word % 256) (λ word. word / 256) words

bytes_of_words-fit : (words : List ℕ) → All (λ word. word < 2 ^ 16) words → IsBytes (bytes_of_words words)
bytes_of_words-fit [] small i = omega arith
bytes_of_words-fit (word ∷ words) small zero = omega arith
bytes_of_words-fit (word ∷ words) small (suc zero) =
    let here : word < 2 ^ 16 = All-head (λ (w : ℕ). w < 2 ^ 16) word words small in
    omega arith
bytes_of_words-fit (word ∷ words) small (suc (suc i)) = bytes_of_words-fit words (All-tail (λ (w : ℕ). w < 2 ^ 16) word words small) i

-- the two bytes of a word stand in a row
byte_low : (words : List ℕ) (a : ℕ) → a < length words → get_or (bytes_of_words words) (2 * a) 0 ≡ get_or words a 0 % 256
byte_low [] a inside = absurd (omega arith)
byte_low (word ∷ words) zero inside = refl
byte_low (word ∷ words) (suc a) inside =
    let next : 2 * suc a ≡ suc (suc (2 * a)) = omega arith in
    rw next (byte_low words a (omega arith))

byte_high : (words : List ℕ) (a : ℕ) → a < length words → get_or (bytes_of_words words) (2 * a + 1) 0 ≡ get_or words a 0 / 256
byte_high [] a inside = absurd (omega arith)
byte_high (word ∷ words) zero inside = refl
byte_high (word ∷ words) (suc a) inside =
    let next : 2 * suc a + 1 ≡ suc (suc (2 * a + 1)) = omega arith in
    rw next (byte_high words a (omega arith))

-- ---- cells in a row

extent-all : (bytes : List ℕ) → extent (enumerate_from 0 bytes) ≡ length bytes
extent-all [] = refl
extent-all (byte ∷ bytes) = extent-row 0 byte bytes ∙ omega arith

byte_given-row : (start : ℕ) (bytes : List ℕ) (i : ℕ) → i < length bytes → byte_given (enumerate_from start bytes) (start + i) ≡ Some (get_or bytes i 0)
byte_given-row start [] i inside = absurd (omega arith)
byte_given-row start (byte ∷ bytes) zero inside =
    let here : (start == start + 0) ≡ true = grind (arith, nat_tests) in
    rw here refl
byte_given-row start (byte ∷ bytes) (suc i) inside =
    let other : (start == start + suc i) ≡ false = grind (arith, nat_tests) in
    let at : start + suc i ≡ start + 1 + i = omega arith in
    rw (other, at) (byte_given-row (start + 1) bytes i (omega arith))

byte_at-row : (bytes : List ℕ) (i : ℕ) → i < length bytes → byte_at (enumerate_from 0 bytes) i ≡ get_or bytes i 0
byte_at-row bytes i inside =
    ap (λ z. byte_at (enumerate_from 0 bytes) z) (omega arith) ∙ ap (λ z. unwrap_or z 255) (byte_given-row 0 bytes i inside)

-- the bytes of words in a row are the image of the words
image_back : (words : List ℕ) → words ≡ image_of_cells (enumerate_from 0 (bytes_of_words words))
image_back words =
    let cells = enumerate_from 0 (bytes_of_words words) in
    let size = length-bytes_of_words words in
    let at : (k : ℕ) → k < length words → get_or words k 0 ≡ word_of_cells cells k = λ k inside.
    let high : byte_at cells (2 * k + 1) ≡ get_or words k 0 / 256 = byte_at-row (bytes_of_words words) (2 * k + 1) (omega (arith, size)) ∙ byte_high words k inside in
    omega (arith, byte_at-row (bytes_of_words words) (2 * k) (omega (arith, size)) ∙ byte_low words k inside, high) in
    fill_by_all (word_of_cells cells) words (length words) 0 refl at ∙ ap (λ n. map (word_of_cells cells) (range_with_len 0 n)) (omega (arith, extent-all (bytes_of_words words), size))

enumerate_from-append : (start : ℕ) (xs ys : List ℕ) → enumerate_from start (xs ++ ys) ≡ enumerate_from start xs ++ enumerate_from (start + length xs) ys
enumerate_from-append start [] ys =
    ap (λ z. enumerate_from z ys) (omega arith)
enumerate_from-append start (x ∷ xs) ys =
    ap (λ z. (start, x) ∷ z) (enumerate_from-append (start + 1) xs ys) ∙ ap (λ z. (start, x) ∷ (enumerate_from (start + 1) xs ++ enumerate_from z ys)) (omega arith)

take_nothing : {X : Type 0} (n : ℕ) → ◌≡◌ {A = List X} [] (take n [])
take_nothing zero = refl
take_nothing (suc n) = refl

take-plus : {X : Type 0} (m n : ℕ) (xs : List X) → take (m + n) xs ≡ take m xs ++ take n (drop m xs)
take-plus zero n xs =
    let none : 0 + n ≡ n = omega arith in
    ap (λ z. take z xs) none
take-plus (suc m) n [] =
    let more : suc m + n ≡ suc (m + n) = omega arith in
    ap (λ z. take z []) more ∙ take_nothing n
take-plus (suc m) n (x ∷ xs) =
    let more : suc m + n ≡ suc (m + n) = omega arith in
    ap (λ z. take z (x ∷ xs)) more ∙ ap (λ z. x ∷ z) (take-plus m n xs)

-- ---- the lines of the text

length-content : (words : List ℕ) (number : ℕ) → length (record_content words number) ≤ 16
length-content words number =
    omega (arith, length-bytes_of_words (take 8 (drop (8 * number) words)), length-take 8 (drop (8 * number) words))

writable : (words : List ℕ) (number : ℕ) → IsImage words → number < record_count words → IsWritable 0 (16 * number) (record_content words number)
writable words number image below =
    let chunk = take 8 (drop (8 * number) words) in
    let small : All (λ word. word < 2 ^ 16) chunk = All-take (λ (w : ℕ). w < 2 ^ 16) 8 (drop (8 * number) words) (All-drop (λ (w : ℕ). w < 2 ^ 16) (8 * number) words image.small) in
    record {
      kind_fits = omega arith;
      address_fits = omega (arith, image.few);
      bytes = bytes_of_words-fit chunk small;
      short = omega (arith, length-content words number);
      right = refl;
    }

writable_end : IsWritable 1 0 []
writable_end = record { kind_fits = omega arith; address_fits = omega arith; bytes = λ i. omega arith; short = omega arith; right = refl }

-- the lines of the text
abbrev all_lines : List ℕ → List (List ℕ)
all_lines words = map (data_line words) (range_with_len 0 (record_count words)) ++ record_line 1 0 [] ∷ []

plain_lines : (words : List ℕ) → IsImage words → All IsPlain (all_lines words)
plain_lines words image =
    let n = record_count words in
    All-push IsPlain (map (data_line words) (range_with_len 0 n)) (record_line 1 0 [])
    (All-from_get_or IsPlain (map (data_line words) (range_with_len 0 n)) [] (λ i inside.
    let below : i < n = omega (arith, length-map-range_with_len (data_line words) 0 n) in
    subst IsPlain (sym (get_or-map-range_with_len (data_line words) 0 n i i [] below (omega arith)))
    (record_line-plain 0 (16 * i) (record_content words i) (writable words i image below))))
    (record_line-plain 1 0 [] writable_end)

written-fed : (words : List ℕ) → written words ≡ flat_map fed (all_lines words)
written-fed words =
    let lines = map (data_line words) (range_with_len 0 (record_count words)) in
    sym (flat_map-append fed lines (record_line 1 0 [] ∷ []) ∙ ap (λ z. flat_map fed lines ++ z) (append-nil (fed (record_line 1 0 []))))

-- the lines of the first data records
abbrev data_lines : List ℕ → ℕ → List (List ℕ)
data_lines words n = map (data_line words) (range_with_len 0 n)

-- what is known behind them
abbrev data_known : List ℕ → ℕ → Known
data_known words n = record { base = 0; cells = enumerate_from 0 (bytes_of_words (take (8 * n) words)) }

full : (words : List ℕ) (n : ℕ) → n < record_count words → length (bytes_of_words (take (8 * n) words)) ≡ 16 * n
full words n below = omega (arith, length-take (8 * n) words, length-bytes_of_words (take (8 * n) words))

-- the places of bytes in a row are below the next
free_row : (bytes content : List ℕ) (start : ℕ) → length bytes ≤ start
    → list_any (λ place. is_some (byte_given (enumerate_from 0 bytes) place)) (range_with_len start (length content)) ≡ false
free_row bytes [] start above = refl
free_row bytes (byte ∷ content) start above =
    let all = take_all (length bytes) (enumerate_from 0 bytes) (omega (arith, length-enumerate_from 0 bytes)) in
    let none : byte_given (enumerate_from 0 bytes) start ≡ None = ap (λ z. byte_given z start) (sym all) ∙ fresh (length bytes) 0 start bytes (omega (arith, above)) in
    rw none (free_row bytes content (start + 1) (omega (arith, above)))

row_few : (start : ℕ) (content : List ℕ) → start + length content ≤ most_bytes → nat_lt most_bytes (extent (enumerate_from start content)) ≡ false
row_few start [] fits = refl
row_few start (byte ∷ content) fits = let e = extent-row start byte content in grind (arith, nat_tests)

-- a data record that stands in a row has no fault
data_sound : (words : List ℕ) (n : ℕ) → IsImage words → n < record_count words → fault_at (data_known words n) (data_line words n) ≡ None
data_sound words n image below =
    let bytes = bytes_of_words (take (8 * n) words) in
    let content = record_content words n in
    let fits : nat_lt 65536 (16 * n + length content) ≡ false = let short = length-content words n in let few = image.few in grind (arith, nat_tests) in
    let last : 0 + 16 * n + length content ≤ most_bytes =
    omega (arith, image.few, length-bytes_of_words (take 8 (drop (8 * n) words)), length-take 8 (drop (8 * n) words), length-drop (8 * n) words) in
    data_fault (data_known words n) (data_line words n) (16 * n) content (data_line-is (16 * n) content (writable words n image below))
    ∙ fault_by (enumerate_from 0 bytes) 0 (16 * n) content false false false fits (free_row bytes content (0 + 16 * n) (omega (arith, full words n below))) (row_few (0 + 16 * n) content last)

-- and gives its bytes behind those before
data_after : (words : List ℕ) (n : ℕ) → IsImage words → n < record_count words → after_line (data_known words n) (data_line words n) ≡ data_known words (suc n)
data_after words n image below =
    let front = take (8 * n) words in
    let chunk = take 8 (drop (8 * n) words) in
    let content = record_content words n in
    let is = data_line-is (16 * n) content (writable words n image below) in
    let start : 0 + 16 * n ≡ 0 + length (bytes_of_words front) = omega (arith, full words n below) in
    let parts : bytes_of_words (take (8 * suc n) words) ≡ bytes_of_words front ++ bytes_of_words chunk =
    ap (λ z. bytes_of_words (take z words)) (omega arith) ∙ ap bytes_of_words (take-plus (8 * n) 8 words) ∙ flat_map-append (λ word. word % 256 ∷ word / 256 ∷ []) front chunk in
    let cells : enumerate_from 0 (bytes_of_words front) ++ cells_at 0 (data_line words n) ≡ enumerate_from 0 (bytes_of_words (take (8 * suc n) words)) =
    ap (λ z. enumerate_from 0 (bytes_of_words front) ++ z) (data_cells (data_known words n) (data_line words n) (16 * n) content is ∙ ap (λ z. enumerate_from z (bytes_of_words chunk)) start)
    ∙ sym (ap (enumerate_from 0) parts ∙ enumerate_from-append 0 (bytes_of_words front) (bytes_of_words chunk)) in
    ap₂ (λ b c. record { base = b; cells = c }) ((of_kind (data_line words n) 0 is.kind).base 0) cells

-- the data records
data_read : (words : List ℕ) → IsImage words → (n : ℕ) → n ≤ record_count words → AreBefore (data_lines words n) × (behind (data_lines words n) ≡ data_known words n)
data_read words image zero fits = (record { sound = refl; unended = refl }, refl)
data_read words image (suc n) fits =
    let before = data_read words image n (omega arith) in
    let line = data_line words n in
    let more : data_lines words (suc n) ≡ data_lines words n ++ line ∷ [] = ap (data_lines words) (sym (add-one n)) ∙ map-range_with_len_more (data_line words) 0 n n (omega arith) in
    let is = data_line-is (16 * n) (record_content words n) (writable words n image (omega arith)) in
    let sound : fault_at (behind (data_lines words n)) line ≡ None = ap (λ k. fault_at k line) before.1 ∙ data_sound words n image (omega arith) in (
      rw more (before_more (data_lines words n) line before.0 sound (of_kind line 0 is.kind).ends),
      ap behind more ∙ after_both fault_at after_line nothing (data_lines words n) (line ∷ []) ∙ ap (λ k. after_line k line) before.1 ∙ data_after words n image (omega arith),
    )

-- the text of an image has that image, and nothing stands behind it
pub image_written : (words : List ℕ) → IsImage words → HexText (written words) words (length (written words))
image_written words image =
    let n = record_count words in
    let text = written words in
    let end = record_line 1 0 [] in
    let read = data_read words image n (omega arith) in
    let kind : OfKind end 1 = of_kind end 1 (ap kind_in (record_line-bytes 1 0 [] writable_end)) in
    let lines : lines_of text ≡ data_lines words n ++ end ∷ [] = ap lines_of (written-fed words) ∙ lines_of-fed (all_lines words) (plain_lines words image) in
    let sound : fault_at (behind (data_lines words n)) end ≡ None = quiet_fault (behind (data_lines words n)) end (record_line-sound 1 0 [] writable_end) kind.gives in
    let all = are_all text (data_lines words n) [] end lines read.0 sound kind.ends in
    let none : cells_at 0 end ≡ [] = ap (enumerate_from (0 + address_in (bytes_of end))) kind.gives in
    let cells : (behind (lines_read text)).cells ≡ enumerate_from 0 (bytes_of_words words) =
    ap (λ z. (behind z).cells) all.lines
    ∙ ap (λ (k : Known). k.cells) (after_both fault_at after_line nothing (data_lines words n) (end ∷ []))
    ∙ ap (λ k. k.cells ++ cells_at k.base end) read.1
    ∙ ap (λ z. enumerate_from 0 (bytes_of_words (take (8 * n) words)) ++ z) none
    ∙ append-nil _
    ∙ ap (λ z. enumerate_from 0 (bytes_of_words z)) (take_all (8 * n) words (omega arith)) in
    let pieces : pieces_of text ≡ map fed (all_lines words) = ap pieces_of (written-fed words) ∙ pieces_of-fed (all_lines words) (plain_lines words image) in
    let count : length (pieces_of text) ≤ end_line text =
    omega (arith, all.number, ap length pieces, length-map (all_lines words) fed, length_push (data_lines words n) end) in
    let whole : concat (take (end_line text) (pieces_of text)) ≡ text =
    ap concat (take_all (end_line text) (pieces_of text) count ∙ pieces) ∙ concat-fed (all_lines words) ∙ sym (written-fed words) in
    record {
      sound = all.sound;
      image = image_back words ∙ ap image_of_cells (sym cells);
      cut = ap length (sym whole);
    }
