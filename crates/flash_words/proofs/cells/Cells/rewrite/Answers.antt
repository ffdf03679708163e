use Rattle.std.proofs.Common.{◌≡◌, ℕ, ◌+◌, ◌*◌, ◌≤◌, List, false, None, length, arith, sym, ap, ◌∙◌, subst}
use Rattle.std.specs.Prelude.{slice_index, slice_set}
use Rattle.flash_words.specs.Pages.{page_words, set_page, blank, raised}
use Rattle.flash_words.specs.JumpSets.{IsBlankFrom}
use Rattle.flash_words.specs.Memory.{Memory}
use Rattle.flash_words.specs.Operations.{next_op, fails, erased_page, programmed_page, Performed}
use Rattle.flash_words.proofs.PageLaws.{set_page_twice}
use Rattle.flash_words.proofs.ProgramLaws.{blank_from, length-blank}
use Rattle.flash_words.proofs.cells.Cells.rewrite.Goals as goal

-- one more erase is counted, and one more operation
abbrev counted : Memory → ℕ → Memory
counted m page = record m { erases = slice_set m.erases page (raised (slice_index m.erases page)); ops = next_op m }

-- both operations are counted, and then the page gets its words
both_done : (old mid last : Memory) (erases now : List ℕ) (page : ℕ) (words : List ℕ) → page_words * page + page_words ≤ length old.words
    → mid ≡ record old { ops = next_op old } → erases ≡ slice_set mid.erases page (raised (slice_index mid.erases page)) → last ≡ record mid { erases = erases; ops = next_op mid }
    → now ≡ set_page last.words page words → record last { words = now } ≡ programmed_page (erased_page old page) page words
both_done old mid last erases now page words inside mid_is erases_is last_is now_is =
    let told : last ≡ counted (record old { ops = next_op old }) page =
    last_is ∙ ap (λ es. record mid { erases = es; ops = next_op mid }) erases_is ∙ ap (λ (m : Memory). counted m page) mid_is in
    let same : now ≡ set_page (set_page old.words page blank) page words = now_is ∙ ap (λ (m : Memory). set_page m.words page words) told
    ∙ sym (set_page_twice old.words blank words page length-blank inside) in
    ap (λ ws. record last { words = ws }) same ∙ ap (λ (m : Memory). record m { words = set_page (set_page old.words page blank) page words }) told

pub set-requires-clause-rest : goal.set-requires-clause-rest
set-requires-clause-rest c = subst (λ page. IsBlankFrom page 0) (sym c.erased.ensures.value) blank_from

pub returns-in-Ok-clause-performed : goal.returns-in-Ok-clause-performed
returns-in-Ok-clause-performed c =
    let old = c.args.self.now in
    let page = c.args.page in
    let new = c.args.words.now in
    let mid_is = c.self.view_is ∙ c.in_default.ensures.going in
    let first : fails old ≡ false = c.in_default.ensures.free in
    let second : fails (erased_page old page) ≡ false = ap fails (sym mid_is) ∙ c.in-Ok.ensures.free in
    let done = both_done old _ _ c.count_erase.new.erases.items c.change.new.self page new (omega (arith, c.begin.ensures.whole.0.words)) mid_is c.count_erase.ensures.value
    (c.self-2.view_is ∙ c.in-Ok.ensures.going) c.change.ensures.value in
    let told : Memory → Performed = λ m. record { memory = m; refusal = None } in
    rw (first, second) (ap told (sym done))
