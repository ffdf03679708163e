-- The word `run` alone asks for a plain run of the image that a text was written for.
use Rattle.std.proofs.Common.{◌≡◌, ℕ, ◌*◌, ◌%◌, ◌/◌, ◌≤◌, List, [], ◌∷◌, length, length-append, map, flat_map, take, drop, codes, refl, sym, ap, subst, arith}
use Rattle.std.specs.List.{range_with_len}
use Rattle.std.proofs.lemmas.List.{length_push, length-take}
use Rattle.std.proofs.lemmas.List.FromFn.{length-range_with_len}
use Rattle.hex.specs.Hex.{upper_digits}
use Rattle.hex.proofs.HexLemmas.{length-encode_with}
use Rattle.base.proofs.ManyLaws.{length-two_each}
use Rattle.text_lines.specs.Written.{fed}
use Rattle.hex_image.proofs.LawLemmas.{few_words}
use Rattle.hex_image.specs.Written.{bytes_of_words, checksum_of, fields_of, record_bytes, record_line, record_content, data_line, record_count, written}
use Rattle.hex_image.specs.HexText.{HexText}
use Rattle.input_script.specs.Script.{IsScript, nothing as no_events}
use Rattle.cli_words.specs.declared.command.Command.TheVariants.{Run as RunCommand}
use Rattle.cli_words.specs.Commands.{IsCommand}
use Rattle.cli_words.proofs.WorkedWords.{without_options}
use Rattle.std.specs.Prelude.{Result, Ok, Err, IfOk}
use Rattle.base.specs.declared.no_memory.NoMemory.{NoMemory}
use Rattle.theorem_reader.specs.Runs.{Asks, options_of, plainly}

pub no_script : IsScript [] no_events
no_script = record { sound = refl; schedule_is = refl }

nothing_behind : (text : List ℕ) → drop (length text) text ≡ []
nothing_behind [] = refl
nothing_behind (byte ∷ text) = nothing_behind text

pub asks_plainly : (words : List (List ℕ)) (image text : List ℕ) → words ≡ codes "run" ∷ [] → HexText text image (length text) → length text ≤ 2097152 → Asks words text (plainly image)
asks_plainly words image text is hex short = record {
  command = subst (λ w. IsCommand w (RunCommand (options_of (plainly image)))) (sym is) without_options;
  front = record { position = length text; hex = hex; short = short };
  script = subst (λ t. IsScript t no_events) (sym (nothing_behind text)) no_script;
}

-- what is so of one that was asked, whatever it is
pub told_as : {Q T : Type 0} (result : Result T NoMemory) (Asks : Q → Type 0) (So : Q → T → Type 0) (one : Q) → Asks one
    → IfOk result (λ told. (asked : Q) → Asks asked → So asked told) → IfOk result (λ told. So one told)
told_as (Ok told) Asks So one asks all = all one asks
told_as (Err none) Asks So one asks all = all

-- and of the same words and text
pub told_at : {T : Type 0} (result : Result T NoMemory) (So : List (List ℕ) → List ℕ → T → Type 0) (words words' : List (List ℕ)) (text text' : List ℕ) → words ≡ words' → text ≡ text'
    → IfOk result (So words text) → IfOk result (So words' text')
told_at result So words words' text text' same same' all = subst (λ w. IfOk result (So w text')) same (subst (λ t. IfOk result (So words t)) same' all)

pub told_pair : {P Q T : Type 0} (result : Result T NoMemory) (Asks : P → Q → Type 0) (So : P → Q → T → Type 0) (first : P) (second : Q) → Asks first second
    → IfOk result (λ told. (p : P) (q : Q) → Asks p q → So p q told) → IfOk result (λ told. So first second told)
told_pair (Ok told) Asks So first second asks all = all first second asks
told_pair (Err none) Asks So first second asks all = all

-- The text of an image is short: 44 bytes a line at most, of eight words.
line_short : (words : List ℕ) (number : ℕ) → length (fed (data_line words number)) ≤ 44
line_short words number =
    let content = record_content words number in
    let bytes = record_bytes 0 (16 * number) content in
    let eight = take 8 (drop (8 * number) words) in
    let double : length (bytes_of_words eight) ≡ 2 * length eight = length-two_each (λ word. word % 256) (λ word. word / 256) eight in
    omega (
      arith,
      length_push (data_line words number) 10,
      length-encode_with upper_digits bytes,
      length_push (fields_of 0 (16 * number) content) (checksum_of (fields_of 0 (16 * number) content)),
      double,
      length-take 8 (drop (8 * number) words),
    )

lines_short : (words numbers : List ℕ) → length (flat_map fed (map (data_line words) numbers)) ≤ 44 * length numbers
lines_short words [] = omega arith
lines_short words (number ∷ numbers) =
    omega (arith, length-append (fed (data_line words number)) (flat_map fed (map (data_line words) numbers)), line_short words number, lines_short words numbers)

last_line : length (fed (record_line 1 0 [])) ≤ 12
last_line = omega (arith, length_push (record_line 1 0 []) 10, length-encode_with upper_digits (record_bytes 1 0 []))

pub text_short : (image text : List ℕ) → HexText text image (length text) → text ≡ written image → length text ≤ 2097152
text_short image text hex same =
    let front = flat_map fed (map (data_line image) (range_with_len 0 (record_count image))) in
    omega (
      arith,
      ap length same,
      length-append front (fed (record_line 1 0 [])),
      last_line,
      lines_short image (range_with_len 0 (record_count image)),
      length-range_with_len 0 (record_count image),
      few_words text image (length text) hex,
    )
