-- Where control may go on from rewritten code, and which exit stubs lead there (docs/RUN.md, "Links").
use Rattle.std.specs.Prelude.{◌≡◌, ℕ, ◌+◌, ◌/◌, Bool, true, false, List, Option, Some, None}
use Rattle.flash_words.specs.Pages.{word_at}
use Rattle.flash_words.specs.declared.layout.Layout.{Layout}
use Rattle.flash_words.specs.Layouts.{image_of}
use Rattle.nat_template.specs.Stubs.{call_word, bridge_entry}
use Rattle.nat_page.specs.Parts.{EntersPart, IsLinkFrom}
use Rattle.flat_machine.specs.declared.part.Part.{Part}

-- `enters t v`: control may go on to address t at place v. `marks s t`: a link to t stands at s.
pub record Links : Type 1 where
  pub enters : ℕ → ℕ → Type 0
  pub marks : ℕ → ℕ → Type 0

-- Programs that are shut in their parts have a quarter of the image each, of 4,096 words; else all is one part.
abbrev pub part_number : (shut : Bool) → ℕ → ℕ
part_number true a = a / 4096
part_number false a = 0

abbrev pub number_of : Part → ℕ
number_of part = part_number part.shut part.first

-- in a code pool control goes on at entries of the program's part, and the links are those of its pages
abbrev pub links_of : Part → Layout → List ℕ → Links
links_of part layout words = record {
  enters = EntersPart layout words (part_number part.shut) (number_of part);
  marks = IsLinkFrom layout (image_of layout words) words (part_number part.shut) (number_of part);
}

-- the link to t at s is unresolved: it calls the bridge
pub record IsBridge (links : Links) (words : List ℕ) (s t : ℕ) : Type 0 where
  pub mark : links.marks s t
  pub call : word_at words s ≡ call_word
  pub bridge : word_at words (s + 1) ≡ bridge_entry

-- of an arrival at t that is owed: its stub, if it names one, is an unresolved link to t
abbrev pub OfStub : Links → List ℕ → Option ℕ → ℕ → Type 0
OfStub links words None t = Unit {0}
OfStub links words (Some s) t = IsBridge links words s t
