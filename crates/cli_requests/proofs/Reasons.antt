-- What words and input ask for is one thing.
use Rattle.std.proofs.Common.{◌≡◌, ℕ, ◌+◌, ◌≤◌, List, ◌++◌, length, sym, ap, ◌∙◌, subst, arith, append-nil, length-append, Option, Some, None, inl, inr}
use Rattle.std.proofs.lemmas.List.{append_cancel_left}
use Rattle.std.specs.Io.KnownBytes.{Appends, Consumes, IsAtEnd}
use Rattle.byte_streams.specs.Streams.{Input, Gives, Takes}
use Rattle.cli_words.specs.declared.command.Command.TheVariants.{Help}
use Rattle.cli_words.specs.declared.job.Job.{Job}
use Rattle.cli_words.specs.declared.status.Status.{Status}
use Rattle.cli_words.specs.Printed.{no_memory, usage}
use Rattle.cli_words.proofs.OneCommand.{one_command}
use Rattle.cli_requests.specs.Reading.{AsksByText, IsUnread, Limited, most_input}
use Rattle.cli_requests.specs.Asking.{Wanted, UsageLine, Made, ByText, Asks, AsksFor, Warrants, IsAsked, IsWarranted, AskForUsage, HasText, Tells, wanted}
use Rattle.cli_requests.proofs.OneJob.{IsOne, IsOneRule, one_rule}

-- what a source that told its text gave is that text
all_left : (left now : Option (List ℕ)) (text bytes : List ℕ) → left ≡ Some text → Consumes left now bytes → IsAtEnd now → bytes ≡ text
all_left None now text bytes is taken end = cc
all_left (Some xs) None text bytes is taken end = absurd taken
all_left (Some xs) (Some ys) text bytes is taken end =
    let same : xs ≡ text = cc in
    sym (append-nil bytes) ∙ ap (λ z. bytes ++ z) (sym end) ∙ sym taken ∙ same

few_left : (left now : Option (List ℕ)) (text bytes : List ℕ) → left ≡ Some text → Consumes left now bytes → length bytes ≤ length text
few_left None now text bytes is taken = cc
few_left (Some xs) None text bytes is taken = absurd taken
few_left (Some xs) (Some ys) text bytes is taken =
    let same : xs ≡ text = cc in
    omega (arith, ap length same, ap length taken, length-append bytes ys)

-- .. and so is what one gave that keeps it
all_given : (given now : Option (List ℕ)) (first text bytes : List ℕ) → given ≡ Some first → now ≡ Some (first ++ text) → Appends given now bytes → bytes ≡ text
all_given None now first text bytes was is grown = cc
all_given (Some xs) None first text bytes was is grown = cc
all_given (Some xs) (Some ys) first text bytes was is grown =
    let same : xs ≡ first = cc in
    let all : ys ≡ first ++ text = cc in
    append_cancel_left first bytes text (sym (ap (λ z. z ++ bytes) same) ∙ sym grown ∙ all)

pub all_taken : (before now : Input) (text bytes : List ℕ) → HasText before now text → Gives before now bytes → IsAtEnd now.left → bytes ≡ text
all_taken before now text bytes (inl told) gives end = all_left before.left now.left text bytes told gives.left end
all_taken before now text bytes (inr kept) gives end = all_given before.given now.given kept.0 text bytes kept.1 kept.2 gives.given

pub taken_of : (before now : Input) (text : List ℕ) (n : ℕ) → HasText before now text → Takes n before now → n ≤ length text
taken_of before now text n (inl told) takes = omega (arith, takes.1, few_left before.left now.left text takes.0 told takes.2.left)
taken_of before now text n (inr kept) takes = omega (arith, takes.1, ap length (all_given before.given now.given kept.0 text takes.0 kept.1 kept.2 takes.2.given))

-- a job that is asked for is the one that is warranted, but for want of memory
pub data Reason (job whole : Job) : Type 0 where
  Wanting : job ≡ no_memory → Reason job whole
  Same : job ≡ whole → Reason job whole

-- of any rule that asks for one job
by_text : (Rule : List ℕ → Job → Type 0) (before now : Input) (text : List ℕ) (job whole : Job) → ((text : List ℕ) → IsOne (Rule text)) → Tells before now text → AsksByText Rule before now job
    → Limited Rule text whole → Reason job whole
by_text Rule before now text job whole one tells (inl (IsUnread.ReadFault is rose taken)) limited = absurd (tells.read rose)
by_text Rule before now text job whole one tells (inl (IsUnread.NoMemory is taken)) limited = Wanting is
by_text Rule before now text job whole one tells (inl (IsUnread.TooLong is taken)) (inl long) = Same (is ∙ sym long.1)
by_text Rule before now text job whole one tells (inl (IsUnread.TooLong is taken)) (inr short) = absurd (omega (arith, taken_of before now text (most_input + 1) tells.told taken, short.0))
by_text Rule before now text job whole one tells (inr judged) limited =
    let gave = judged.1 in
    let same = all_taken before now text judged.0 tells.told gave.taken gave.end in
    elim limited [
      | inl long ↦ absurd (omega (arith, gave.short, ap length same, long.0))
      | inr short ↦ Same (one text job whole (subst (λ t. Rule t job) same judged.2) short.1)
    ]

-- of anything that is asked for
reason_of : (by : Wanted) (before now : Input) (job whole : Job) → IsOneRule by → AsksFor by before now job → Warrants by before now whole → Reason job whole
reason_of UsageLine before now job whole one asks is = Same (asks.0 ∙ sym is)
reason_of (Made own) before now job whole one (inl made, read) is = Same (made ∙ sym is)
reason_of (Made own) before now job whole one (inr none, read) is = Wanting none
reason_of (ByText Rule) before now job whole one asks by = by_text Rule before now by.0 job whole one by.1 asks by.2

-- of all words
pub why : (words : List (List ℕ)) (before now : Input) (job whole : Job) → IsAsked words before now job → IsWarranted words before now whole → Reason job whole
why words before now job whole (inl asked) (inl other) =
    let same = one_command words asked.0 other.0 asked.1 other.1 in
    reason_of (wanted other.0) before now job whole (one_rule other.0) (subst (λ c. Asks c before now job) same asked.2) other.2
why words before now job whole (inl asked) (inr none) = absurd (none.0 asked.0 asked.1)
why words before now job whole (inr none) (inl other) = absurd (none.0 other.0 other.1)
why words before now job whole (inr none) (inr other) = Same (none.1 ∙ sym other.1)

-- where the words ask for the usage line, that is all that is asked for, and nothing is read
pub usage_asked : (words : List (List ℕ)) (before now : Input) (own : Status) (job : Job) → AskForUsage words own → IsAsked words before now job → (job ≡ usage own) × (now ≡ before)
usage_asked words before now own job (inl help) (inl asked) =
    let asks = subst (λ c. Asks c before now job) (one_command words asked.0 Help asked.1 help.0) asked.2 in
    (asks.0 ∙ ap usage (sym help.1), asks.1)
usage_asked words before now own job (inl help) (inr none) = absurd (none.0 Help help.0)
usage_asked words before now own job (inr none) (inl asked) = absurd (none.0 asked.0 asked.1)
usage_asked words before now own job (inr none) (inr asked) = (asked.1 ∙ ap usage (sym none.1), asked.2)
