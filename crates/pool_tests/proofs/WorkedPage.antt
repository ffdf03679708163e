-- The page of a jump back to address 0: its stub calls the bridge 16 words behind its place.
use Rattle.std.proofs.Common.{◌≡◌, ℕ, ◌+◌, List, [], ◌∷◌, arith, refl, subst}
use Rattle.avr_decode.specs.Decoding.{the_form, if_defined, defined_form, one_word_form, is_long}
use Rattle.avr_isa.specs.Encoding.{first_word, second_word}
use Rattle.avr_isa.specs.UndefinedPairs.{is_undefined}
use Rattle.avr_isa.specs.Addresses.{relative}
use Rattle.flash_words.specs.Layouts.{IsRight}
use Rattle.flash_words.specs.declared.layout.Layout.{Layout}
use Rattle.nat_template.specs.declared.piece.Piece.{Piece}
use Rattle.nat_template.specs.Shapes.{shape_of_form}
use Rattle.nat_template.specs.Stubs.{crossing_stub, stub}
use Rattle.nat_template.specs.Templates.{template_by}
use Rattle.page_index.specs.Entries.{IsEntry}
use Rattle.page_draft.specs.Runs.{template_at}
use Rattle.nat_page.specs.Links.{EachLink, IsLinkIn}
use Rattle.nat_page.specs.Faithful.{IsFaithful}
use Rattle.nat_page.proofs.EnteredLaws.{entry_law}

-- RJMP 2; NOP; RJMP 0; RJMP to itself
abbrev pub round : List ℕ
round = 0xC001 ∷ 0x0000 ∷ 0xCFFD ∷ 0xCFFF ∷ []

back_template : template_at round 2 ≡ crossing_stub 0
unfolding the_form if_defined defined_form one_word_form is_long is_undefined relative shape_of_form template_by stub first_word
back_template = refl

pub back_link : (layout : Layout) (words : List ℕ) (v : ℕ) → IsRight layout → IsFaithful layout round words → IsEntry layout words 2 v → IsLinkIn layout round words (v + 16) 0
unfolding second_word
back_link layout words v right code entry =
    let Linked : List Piece → Type 0 = λ pieces. EachLink (λ s t. IsLinkIn layout round words s t) v pieces in
    let linked = subst Linked back_template (entry_law layout round words 2 v right code entry).linked in
    let Here : ℕ → Type 0 = λ s. IsLinkIn layout round words s 0 in
    subst Here (omega arith) linked.0
