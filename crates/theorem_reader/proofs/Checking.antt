-- What `check` answers.
use Rattle.std.proofs.Common.{◌≡◌, ℕ, zero, suc, ◌+◌, ◌*◌, ◌/◌, ◌==◌, true, false, nat_le, not, if◌then◌else◌, List, ◌++◌, length, slice_index, Option, None, codes, decimal, refl, ap₂, ◌∙◌, subst}
use Rattle.std.proofs.Common.{arith}
use Rattle.flash_words.specs.Layouts.{layout_of, IsRight}
use Rattle.flash_words.specs.Pages.{page_of}
use Rattle.flash_words.proofs.LayoutLaws.{layout_right}
use Rattle.nat_page.specs.Used.{used_among, used_pages}
use Rattle.pool_check.specs.Verdicts.{IsVerdict}
use Rattle.pool_check.specs.declared.checking.Verdict.{Verdict}
use Rattle.pool_check.specs.declared.checking.Verdict.TheVariants as verdicts
use Rattle.pool_check.proofs.CheckedLaws.{code_checked}
use Rattle.program_steps.specs.Machines.{Machine}
use Rattle.cli_requests.specs.Asking.{Tells}
use Rattle.tkernel_cli.specs.declared.top.Exit.{Exit}
use Rattle.cli_words.specs.Status.{number_of}
use Rattle.printed_text.specs.Verdicts.{verdict_text}
use Rattle.cli_requests.specs.CheckCommand.{verdict_status}
use Rattle.theorem_reader.proofs.Checks.{Answers, Wanting, Verdicts, check_answers}
use Rattle.hex_image.proofs.LawLemmas.{few_words}
use Rattle.theorem_reader.specs.Pools.{pool_from, pool_size, number_where}
use Rattle.theorem_reader.specs.Checks.{AsksCheck, IsChecked, NoMemory, Faithful, Misshapen, Unlinked, used_in}
use Rattle.theorem_reader.specs.Telling.{Sink, IsTold}
use Rattle.theorem_reader.proofs.Doing.{IsSoThen, Call, Somehow, so_then, so_is, told_how}
use Rattle.theorem_reader.proofs.Pooling.{in_pool, from_pool, pool_begins}

pub pool_numbers : (image : List ℕ) → ((layout_of (length image)).pool_first ≡ pool_from image / 128) × ((layout_of (length image)).pool_pages ≡ pool_size image)
pool_numbers image = elim (nat_le (length image) 16384) as (λ b. ((if b then 128 else 192) ≡ (if b then 0x4000 else 0x6000) / 128) × (◌≡◌ {A = ℕ} (if b then 352 else 288) (if b then 352 else 288))) [
  | true ↦ (refl, refl)
  | false ↦ (refl, refl)
]

used_among_same : (flash : List ℕ) (first n : ℕ) → used_among flash first n ≡ number_where (λ page. not (slice_index flash (128 * page) == 0xFFFF)) first n
unfolding used_among number_where
used_among_same flash first zero = refl
used_among_same flash first (suc n) =
    let at : 128 * (first + n) + 0 ≡ 128 * (first + n) = omega arith in
    ap₂ (λ a used. (if not (slice_index flash a == 0xFFFF) then 1 else 0) + used) at (used_among_same flash first n)

pub used_same : (image flash : List ℕ) → used_pages (layout_of (length image)) flash ≡ used_in image flash
used_same image flash =
    let numbers = pool_numbers image in
    used_among_same flash _ _ ∙ ap₂ (number_where (λ page. not (slice_index flash (128 * page) == 0xFFFF))) numbers.0 numbers.1

-- each verdict in the reader's words
judged : (image flash : List ℕ) (sink : Sink) (verdict : Verdict) (status : ℕ) (taken : List ℕ) (kept : Option Machine) → IsRight (layout_of (length image))
    → IsVerdict (layout_of (length image)) image flash verdict
    → IsTold sink (number_of (verdict_status verdict)) (verdict_text verdict) status taken → kept ≡ None → IsChecked sink image flash status taken kept
unfolding page_of verdict_text
judged image flash sink (verdicts.Faithful pages) status taken kept right is told none =
    let checked = code_checked (layout_of (length image)) image flash right is.0 in
    let begins = pool_begins image in
    let used = is.1 ∙ used_same image flash in
    Faithful (record {
      forms = checked.forms;
      links = λ page inside. checked.links page (in_pool image page inside);
      held = is.0.held;
      erased = λ a low high. is.0.erased a low (omega (arith, begins.first, high));
      kernel = λ a low high. is.0.kernel a low (omega (arith, high));
    }) (subst (λ n. IsTold sink 0 (codes "faithful pages " ++ decimal n ++ codes "\n") status taken) used told) none
judged image flash sink (verdicts.Form page) status taken kept right is told none =
    Misshapen page (record { inside = is.low; without = is.without; lower = is.lower }) told none
judged image flash sink (verdicts.Links page) status taken kept right is told none =
    Unlinked page (record {
      forms = is.0;
      inside = from_pool image page is.1.pool;
      without = is.1.without;
      lower = λ other inside less. is.1.lower other (in_pool image other inside) less;
    }) told none

checked_how : (words : List (List ℕ)) (exit : Exit) (status faults : ℕ) (taken : List ℕ) (call : Call words exit status faults taken) (image flash : List ℕ) → IsRight (layout_of (length image))
    → Answers image flash call.sink call.sink' exit
    → Somehow call.sink call.sink' (λ sink. IsChecked sink image flash status taken exit.kept)
checked_how words exit status faults taken call image flash right (Wanting none) =
    so_then call.sink call.sink' _ (λ sink. IsChecked sink image flash status taken exit.kept) (λ sink told. NoMemory told none.0.1) (told_how words exit status faults taken call _ _ none.0.0)
checked_how words exit status faults taken call image flash right (Verdicts verdict is said none) =
    so_then call.sink call.sink' _ (λ sink. IsChecked sink image flash status taken exit.kept) (λ sink told. judged image flash sink verdict status taken exit.kept right is told none)
    (told_how words exit status faults taken call _ _ said)

pub check_told : (words : List (List ℕ)) (exit : Exit) (status faults : ℕ) (taken : List ℕ) (call : Call words exit status faults taken) (text : List ℕ) → Tells call.source call.source' text
    → (image flash : List ℕ)
    → AsksCheck words text image flash → IsSoThen faults (λ sink. IsChecked sink image flash status taken exit.kept)
check_told words exit status faults taken call text tells image flash asks =
    so_is words exit status faults taken call (λ sink. IsChecked sink image flash status taken exit.kept)
    (checked_how words exit status faults taken call image flash (layout_right (length image) (few_words text image asks.front.position asks.front.hex))
    (check_answers words image flash text asks.front.position call.source call.source' call.sink call.sink' exit asks.command tells asks.front.short asks.front.hex asks.dump call.answer))
