use Rattle.std.proofs.Common.{◌≡◌, ◌+◌, ◌*◌, ◌∷◌, ◌++◌, [], map, ap, ◌∙◌, sym, arith, rules}
use Rattle.std.specs.Prelude.{flat_map}
use Rattle.std.specs.List.{range_with_len}
use Rattle.std.proofs.lemmas.Grind.{flat_map-append}
use Rattle.std.proofs.lemmas.List.{append-nil}
use Rattle.std.proofs.lemmas.List.FromFn.{map-range_with_len_more}
use Rattle.text_lines.specs.Written.{fed}
use Rattle.hex_image.specs.Written.{bytes_of_words, data_line, record_line}
use Rattle.hex_image.proofs.written.text_of.Goals as goal

pub records-preserved : goal.records-preserved
records-preserved c =
    let words = c.args.words.now in
    let before = map (data_line words) (range_with_len 0 c.records.number) in
    let line = data_line words c.records.number in
    let more : flat_map fed (map (data_line words) (range_with_len 0 (c.records.number + 1))) ≡ flat_map fed before ++ fed line =
    ap (flat_map fed) (map-range_with_len_more (data_line words) 0 c.records.number c.records.number (omega arith)) ∙ flat_map-append fed before (line ∷ [])
    ∙ ap (λ z. flat_map fed before ++ z) (append-nil (fed line)) in
    let content = c.as_slice.ensures.value ∙ c.bytes_of_words-content.ensures.items ∙ ap bytes_of_words c.words_of_record.ensures.words in
    c.in_ok-push_line.ensures.line
    ∙ ap (λ z. z ++ fed (record_line 0 (16 * c.records.number) c.as_slice.result.now)) c.records.invariant
    ∙ ap (λ z. flat_map fed before ++ fed (record_line 0 (16 * c.records.number) z)) content
    ∙ sym more

pub returns : goal.returns
returns c = search rules
