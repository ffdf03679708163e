-- What is asked for may want memory before it is done.
use Rattle.std.proofs.Common.{◌≡◌, ℕ, ◌≤◌, List, drop, length, length-drop, refl, ◌-◌, arith, subst, take, inl, inr}
use Rattle.std.specs.Prelude.{◌⊎◌}
use Rattle.std.proofs.lemmas.List.{take_all}
use Rattle.hex_image.specs.HexText.{HexText, end_line}
use Rattle.text_lines.proofs.TextLaws.{front-short}
use Rattle.byte_streams.specs.Streams.{Input, TakesAtMost}
use Rattle.cli_words.specs.declared.job.Job.{Job}
use Rattle.cli_words.specs.Commands.{RunsAProgram}
use Rattle.cli_words.specs.Printed.{no_memory}
use Rattle.cli_requests.specs.Reading.{AsksByText, Gave, IsUnread, most_input}
use Rattle.cli_requests.specs.Asking.{Wanted, UsageLine, Made, ByText, AsksFor, IsAsked, wanted}

-- what was read, as a number of bytes
took : (before now : Input) (text : List ℕ) → Gave before now text → TakesAtMost most_input before now
took before now text gave = (length text, gave.short, (text, refl, gave.taken))

-- a text that was read, and judged or not for want of memory
pub judged_text : (Rule : List ℕ → Job → Type 0) (before now : Input) (given text : List ℕ) (job : Job) → given ≡ text → Gave before now text → Rule given job ⊎ (job ≡ no_memory)
    → AsksByText Rule before now job
judged_text Rule before now given text job same gave (inl asks) = inr (text, gave, subst (λ t. Rule t job) same asks)
judged_text Rule before now given text job same gave (inr none) = inl (IsUnread.NoMemory none (took before now text gave))

unread_run : (before now : Input) (job : Job) → RunsAProgram job → IsUnread before now job → ⊥
unread_run before now job runs (IsUnread.ReadFault is rose taken) = subst RunsAProgram is runs
unread_run before now job runs (IsUnread.TooLong is taken) = subst RunsAProgram is runs
unread_run before now job runs (IsUnread.NoMemory is taken) = subst RunsAProgram is runs

-- a text that asks for a program's run may want memory for it
pub text_wants : (Rule : List ℕ → Job → Type 0) (before now : Input) (job : Job) → RunsAProgram job → AsksByText Rule before now job → AsksByText Rule before now no_memory
text_wants Rule before now job runs (inl unread) = absurd (unread_run before now job runs unread)
text_wants Rule before now job runs (inr judged) = inl (IsUnread.NoMemory refl (took before now judged.0 judged.1))

-- what asks for a program's run may want memory for it
run_wants : (by : Wanted) (before now : Input) (job : Job) → RunsAProgram job → AsksFor by before now job → AsksFor by before now no_memory
run_wants UsageLine before now job runs asks = absurd (subst RunsAProgram asks.0 runs)
run_wants (Made own) before now job runs asks = (inr refl, asks.1)
run_wants (ByText Rule) before now job runs asks = text_wants Rule before now job runs asks

pub memory_asked : (words : List (List ℕ)) (before now : Input) (job : Job) → RunsAProgram job → IsAsked words before now job → IsAsked words before now no_memory
memory_asked words before now job runs (inl asked) = inl (asked.0, asked.1, run_wants (wanted asked.0) before now job runs asked.2)
memory_asked words before now job runs (inr none) = absurd (subst RunsAProgram none.1 runs)

-- what stands behind some lines of a text stands in it
pub position_inside : (text words : List ℕ) (position : ℕ) → HexText text words position → position ≤ length text
position_inside text words position hex =
    omega (arith, hex.cut, front-short (end_line text) text)

-- the part of a text from a place to its end is what stands behind that place
pub rest_whole : (text : List ℕ) (position : ℕ) → take (length text - position) (drop position text) ≡ drop position text
rest_whole text position = take_all _ _ (grind (arith, length-drop position text))
