-- Serves the contract of `grammar`: the format of a dump over all lines at once, and that the functions of `DumpLines` and `Dumps`,
-- which go line by line, say the same.
use Rattle.std.specs.Prelude.{◌≡◌, ◌≢◌, ◌⊎◌, ◌↔◌, ℕ, ◌+◌, ◌<◌, ◌==◌, if◌then◌else◌, List, [], ◌∷◌, ◌++◌, length, codes, All, AllPairs, Some, None}
use Rattle.std.specs.Str.Parse.{AllDigits}
use Rattle.flash_words.specs.Pages.{page_count}
use Rattle.text_lines.specs.Lines.{lines_of}
use Rattle.text_lines.specs.Faults.{after_lines}
use Rattle.flash_dump.specs.declared.dump_line.DumpFault.{DumpFault}
use Rattle.flash_dump.specs.declared.dump_line.DumpFault.TheVariants.{Form}
use Rattle.flash_dump.specs.DumpLines.{next_page, page_fault, page_in}
use Rattle.flash_dump.specs.Dumps.{dump_fault}

-- a line with a page: `page `, three decimal digits, a space, and four hexadecimal digits, of either case, for each of 128 words
pub record HasPage (line : List ℕ) : Type 0 where
  pub number : List ℕ
  pub words : List ℕ
  pub written : line ≡ codes "page " ++ number ++ codes " " ++ words
  pub decimal : AllDigits 10 number
  pub three : length number ≡ 3
  pub hexadecimal : AllDigits 16 words
  pub size : length words ≡ 512

-- a line of a dump: it is empty, or has a page of flash
abbrev pub IsForm : List ℕ → Type 0
IsForm line = (line ≡ []) ⊎ (HasPage line × (page_in line < page_count))

-- the pages of the lines that aren't empty
abbrev pub pages_of : List (List ℕ) → List ℕ
pages_of [] = []
pages_of (line ∷ lines) = if length line == 0 then pages_of lines else page_in line ∷ pages_of lines

-- the lines of a dump: their pages ascend
abbrev pub AreSound : List (List ℕ) → Type 0
AreSound lines = All IsForm lines × AllPairs (λ page later. page < later) (pages_of lines)

-- the first fault of a line, behind lines where the pages from one on may follow: it has no form, or its page's number has the fault
abbrev pub IsWrong : ℕ → List ℕ → DumpFault → Type 0
IsWrong least line fault = ((line ≢ []) × (¬ HasPage line) × (fault ≡ Form)) ⊎ (HasPage line × (page_fault least (page_in line) ≡ Some fault))

-- the lines before are those of a dump, and the line with this number, from 1, has this fault
pub record IsFaulty (lines : List (List ℕ)) (number : ℕ) (fault : DumpFault) : Type 0 where
  pub before : List (List ℕ)
  pub line : List ℕ
  pub rest : List (List ℕ)
  pub cut : lines ≡ before ++ line ∷ rest
  pub number_is : number ≡ length before + 1
  pub sound : AreSound before
  pub wrong : IsWrong (after_lines next_page 0 before) line fault

-- both say the same of a text that is a dump, and of one that isn't
abbrev pub DumpsAgree : Type 0
DumpsAgree = (text : List ℕ) → (dump_fault text ≡ None) ↔ AreSound (lines_of text)

abbrev pub FaultsAgree : Type 0
FaultsAgree = (text : List ℕ) (number : ℕ) (fault : DumpFault) → (dump_fault text ≡ Some (number, fault)) ↔ IsFaulty (lines_of text) number fault
