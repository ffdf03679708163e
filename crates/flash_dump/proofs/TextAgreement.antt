-- What is said line by line of a dump is what the format says of all its lines at once.
use Rattle.std.proofs.Common.{◌≡◌, ℕ, zero, suc, ◌+◌, ◌<◌, ◌≤◌, ◌==◌, Bool, true, false, cond, List, [], ◌∷◌, length, arith, refl, sym, ap, ◌∙◌, inl, inr}
use Rattle.std.specs.Prelude.{◌⊎◌, All, AllPairs, Option, Some, None}
use Rattle.std.proofs.lemmas.Bool.{false_from_ne_true, false≢true}
use Rattle.std.proofs.lemmas.Bool.Decides.{nat_tests}
use Rattle.std.proofs.lemmas.List.Elements.{All-cons, All-head, All-nil, All-tail}
use Rattle.text_lines.specs.Lines.{lines_of}
use Rattle.text_lines.specs.Faults.{after_lines, first_fault}
use Rattle.text_lines.proofs.FaultLaws.{fault_behind, fault_here, first_at, none_parts}
use Rattle.flash_dump.specs.declared.dump_line.DumpFault.{DumpFault}
use Rattle.flash_dump.specs.declared.dump_line.DumpFault.TheVariants.{Form}
use Rattle.flash_dump.specs.DumpLines.{fault_at, has_page, next_page, page_fault, page_in}
use Rattle.flash_dump.specs.Dumps.{dump_fault}
use Rattle.flash_dump.specs.GrammarLaw.{AreSound, HasPage, IsFaulty, IsForm, IsWrong, pages_of}
use Rattle.flash_dump.proofs.DumpLaws.{fault_of_page, may_follow, page_sound}
use Rattle.flash_dump.proofs.LineAgreement.{form_of, page_of_form}

-- ---- pages that ascend

abbrev IsBelow : ℕ → ℕ → Type 0
IsBelow page later = page < later

-- the pages of lines ascend from one on
record AscendFrom (least : ℕ) (pages : List ℕ) : Type 0 where
  from : All (λ page. least ≤ page) pages
  ascend : AllPairs IsBelow pages

none_from : (least : ℕ) → AscendFrom least []
none_from least = record { from = All-nil (λ page. least ≤ page); ascend = λ i j d less below. absurd (omega (arith, below)) }

one_from : (least page : ℕ) (pages : List ℕ) → least ≤ page → AscendFrom (page + 1) pages → AscendFrom least (page ∷ pages)
one_from least page pages low later = record {
  from = All-cons (λ p. least ≤ p) page pages low (λ k d below. omega (arith, low, later.from k d below));
  ascend = ascend_by;
}
  where
    ascend_by : AllPairs IsBelow (page ∷ pages)
    ascend_by zero zero d less below = absurd (omega (arith, less))
    ascend_by zero (suc j) d less below = let behind = later.from j d (omega (arith, below)) in omega (arith, behind)
    ascend_by (suc i) zero d less below = absurd (omega (arith, less))
    ascend_by (suc i) (suc j) d less below = later.ascend i j d (omega (arith, less)) (omega (arith, below))

behind_one : (least page : ℕ) (pages : List ℕ) → AscendFrom least (page ∷ pages) → AscendFrom (page + 1) pages
behind_one least page pages is = record {
  from = λ k d below. let later = is.ascend 0 (suc k) d (omega arith) (omega (arith, below)) in omega (arith, later);
  ascend = λ i j d less below. is.ascend (suc i) (suc j) d (omega (arith, less)) (omega (arith, below));
}

-- ---- a line

not_empty : (byte : ℕ) (rest : List ℕ) → (length (byte ∷ rest) == 0) ≡ false
not_empty byte rest = grind (arith, nat_tests)

-- what a line without a fault is, behind which pages from one on may follow
record IsNext (least : ℕ) (line : List ℕ) : Type 0 where
  form : HasPage line
  from : least ≤ page_in line
  inside : page_in line < 512

-- the form of a line by its fault, and the fault of its page's number
by_form : (least byte : ℕ) (rest : List ℕ) (found : Option DumpFault) → fault_at least (byte ∷ rest) ≡ found
    → ((¬ HasPage (byte ∷ rest)) × (found ≡ Some Form)) ⊎ (HasPage (byte ∷ rest) × (page_fault least (page_in (byte ∷ rest)) ≡ found))
by_form least byte rest found is =
    let line = byte ∷ rest in
    let Ways : Bool → Type 0 = λ has. has_page line ≡ has → cond has (page_fault least (page_in line)) (Some Form) ≡ found
    → ((¬ HasPage line) × (found ≡ Some Form)) ⊎ (HasPage line × (page_fault least (page_in line) ≡ found)) in
    (elim (has_page line) as Ways [
      | true ↦ λ has fault. inr (form_of line has, fault)
      | false ↦ λ none fault. inl (λ form. false≢true (sym none ∙ page_of_form line form), sym fault)
    ]) refl (rw (not_empty byte rest) at is)

next_from : (least byte : ℕ) (rest : List ℕ) → fault_at least (byte ∷ rest) ≡ None → IsNext least (byte ∷ rest)
next_from least byte rest none = elim (by_form least byte rest None none) [
  | inl formless ↦ absurd (let e = formless.1 in cc)
  | inr page ↦ let follows = may_follow least (page_in (byte ∷ rest)) page.1 in record { form = page.0; from = follows.0; inside = follows.1 }
]

next_to : (least byte : ℕ) (rest : List ℕ) → IsNext least (byte ∷ rest) → fault_at least (byte ∷ rest) ≡ None
next_to least byte rest next = page_sound least (byte ∷ rest) (page_of_form (byte ∷ rest) next.form) next.from next.inside

pages_next : (byte : ℕ) (rest : List ℕ) (lines : List (List ℕ)) → pages_of ((byte ∷ rest) ∷ lines) ≡ page_in (byte ∷ rest) ∷ pages_of lines
pages_next byte rest lines = ap (λ b. cond b (pages_of lines) (page_in (byte ∷ rest) ∷ pages_of lines)) (not_empty byte rest)

page_next : (least byte : ℕ) (rest : List ℕ) → next_page least (byte ∷ rest) ≡ page_in (byte ∷ rest) + 1
page_next least byte rest = ap (λ b. cond b least (page_in (byte ∷ rest) + 1)) (not_empty byte rest)

-- ---- lines

-- the lines of a dump, behind which pages from one on may follow
record AreNext (least : ℕ) (lines : List (List ℕ)) : Type 0 where
  forms : All IsForm lines
  pages : AscendFrom least (pages_of lines)

lines_from : (number least : ℕ) (lines : List (List ℕ)) → first_fault fault_at next_page number least lines ≡ None → AreNext least lines
lines_from number least [] none = record { forms = All-nil IsForm; pages = none_from least }
lines_from number least ([] ∷ lines) none =
    let later = lines_from (number + 1) least lines none in
    record { forms = All-cons IsForm [] lines (inl refl) later.forms; pages = later.pages }
lines_from number least ((byte ∷ rest) ∷ lines) none =
    let line = byte ∷ rest in
    let parts = none_parts fault_at next_page number least line lines none in
    let next = next_from least byte rest parts.0 in
    let later = lines_from (number + 1) (page_in line + 1) lines (rw (page_next least byte rest) at parts.1) in
    record {
      forms = All-cons IsForm line lines (inr (next.form, next.inside)) later.forms;
      pages = rw (pages_next byte rest lines) (one_from least (page_in line) (pages_of lines) next.from later.pages);
    }

lines_to : (number least : ℕ) (lines : List (List ℕ)) → AreNext least lines → first_fault fault_at next_page number least lines ≡ None
lines_to number least [] are = refl
lines_to number least ([] ∷ lines) are = lines_to (number + 1) least lines (record { forms = All-tail IsForm [] lines are.forms; pages = are.pages })
lines_to number least ((byte ∷ rest) ∷ lines) are =
    let line = byte ∷ rest in
    let pages = rw (pages_next byte rest lines) at are.pages in
    let none : fault_at least line ≡ None = next_form least byte rest (All-head IsForm line lines are.forms) (All-head (λ page. least ≤ page) (page_in line) (pages_of lines) pages.from) in
    fault_behind fault_at next_page number least line (line ∷ lines) lines refl none ∙ ap (λ k. first_fault fault_at next_page (number + 1) k lines) (page_next least byte rest)
    ∙ lines_to (number + 1) (page_in line + 1) lines (record { forms = All-tail IsForm line lines are.forms; pages = behind_one least (page_in line) (pages_of lines) pages })
  where
    next_form : (least byte : ℕ) (rest : List ℕ) → IsForm (byte ∷ rest) → least ≤ page_in (byte ∷ rest) → fault_at least (byte ∷ rest) ≡ None
    next_form least byte rest (inl empty) low = cc empty
    next_form least byte rest (inr (form, inside)) low = next_to least byte rest (record { form = form; from = low; inside = inside })

from_none : (pages : List ℕ) → AllPairs IsBelow pages → AscendFrom 0 pages
from_none pages ascend = record { from = λ k d below. omega arith; ascend = ascend }

pub dump_from : (text : List ℕ) → dump_fault text ≡ None → AreSound (lines_of text)
dump_from text none = let are = lines_from 1 0 (lines_of text) none in (are.forms, are.pages.ascend)

pub dump_to : (text : List ℕ) → AreSound (lines_of text) → dump_fault text ≡ None
dump_to text (forms, ascend) = lines_to 1 0 (lines_of text) (record { forms = forms; pages = from_none (pages_of (lines_of text)) ascend })

-- ---- a fault

wrong_from : (least : ℕ) (line : List ℕ) (fault : DumpFault) → fault_at least line ≡ Some fault → IsWrong least line fault
wrong_from least [] fault found = absurd (cc)
wrong_from least (byte ∷ rest) fault found = elim (by_form least byte rest (Some fault) found) [
  | inl formless ↦ inl (λ e. cc e, formless.0, cc)
  | inr page ↦ inr page
]

wrong_to : (least : ℕ) (line : List ℕ) (fault : DumpFault) → IsWrong least line fault → fault_at least line ≡ Some fault
wrong_to least line fault (inr (form, is)) = fault_of_page least line (page_of_form line form) ∙ is
wrong_to least [] fault (inl (some, without, is)) = absurd (some refl)
wrong_to least (byte ∷ rest) fault (inl (some, without, is)) =
    let has : has_page (byte ∷ rest) ≡ false = false_from_ne_true (has_page (byte ∷ rest)) (λ is. without (form_of (byte ∷ rest) is)) in
    rw (not_empty byte rest, has, is) refl

pub faulty_from : (text : List ℕ) (number : ℕ) (fault : DumpFault) → dump_fault text ≡ Some (number, fault) → IsFaulty (lines_of text) number fault
faulty_from text number fault found =
    let is = first_at fault_at next_page 1 number 0 (lines_of text) fault found in
    let are = lines_from 1 0 is.front is.none in
    record {
      before = is.front;
      line = is.line;
      rest = is.rest;
      cut = is.cut;
      number_is = omega (arith, is.number_is);
      sound = (are.forms, are.pages.ascend);
      wrong = wrong_from (after_lines next_page 0 is.front) is.line fault is.is;
    }

pub faulty_to : (text : List ℕ) (number : ℕ) (fault : DumpFault) → IsFaulty (lines_of text) number fault → dump_fault text ≡ Some (number, fault)
faulty_to text number fault is =
    let none = lines_to 1 0 is.before (record { forms = is.sound.0; pages = from_none (pages_of is.before) is.sound.1 }) in
    let place : 1 + length is.before ≡ number = omega (arith, is.number_is) in
    ap (first_fault fault_at next_page 1 0) is.cut ∙ fault_here fault_at next_page 1 0 is.before is.rest is.line fault none (wrong_to (after_lines next_page 0 is.before) is.line fault is.wrong)
    ∙ ap (λ n. Some (n, fault)) place
