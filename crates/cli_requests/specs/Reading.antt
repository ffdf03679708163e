-- Commands that read: each has a rule, which says for what a whole text asks.
use Rattle.std.specs.Prelude.{◌≡◌, ◌⊎◌, ℕ, ◌+◌, ◌<◌, ◌≤◌, List, length}
use Rattle.std.specs.Io.KnownBytes.{IsAtEnd}
use Rattle.byte_streams.specs.Faults.{Rose}
use Rattle.byte_streams.specs.Streams.{Input, Gives, Takes, TakesAtMost}
use Rattle.cli_words.specs.declared.job.Job.{Job}
use Rattle.cli_words.specs.Printed.{bad_part, no_memory, read_fault, too_long}

-- the most bytes of an input
abbrev pub most_input : ℕ
most_input = 2097152

-- the source gave this text, at most that many bytes, and has nothing left
pub record Gave (before now : Input) (text : List ℕ) : Type 0 where
  pub taken : Gives before now text
  pub end : IsAtEnd now.left
  pub short : length text ≤ most_input

-- there is no text to judge, and this is printed. Want of memory needs no other reason
pub data IsUnread (before now : Input) (job : Job) : Type 0 where
  ReadFault : job ≡ read_fault → Rose before.faults now.faults → TakesAtMost most_input before now → IsUnread before now job
  TooLong : job ≡ too_long → Takes (most_input + 1) before now → IsUnread before now job
  NoMemory : job ≡ no_memory → TakesAtMost most_input before now → IsUnread before now job

-- what a command asks for that reads a text
abbrev pub AsksByText : (List ℕ → Job → Type 0) → Input → Input → Job → Type 0
AsksByText Rule before now job = IsUnread before now job ⊎ ((text : List ℕ) × Gave before now text × Rule text job)

-- what a whole text of any length asks for
abbrev pub Limited : (List ℕ → Job → Type 0) → List ℕ → Job → Type 0
Limited Rule text job = ((most_input < length text) × (job ≡ too_long)) ⊎ ((length text ≤ most_input) × Rule text job)

-- A part of a text is one thing, and then more is asked; or it has a first faulty line.
pub data IsJudged (V : Type 0) (part : List ℕ) (Is : V → Type 0) (IsBad : ℕ → List ℕ → Type 0) (Then : V → Job → Type 0) (job : Job) : Type 0 where
  Bad : (line : ℕ) (word : List ℕ) → IsBad line word → job ≡ bad_part part line word → IsJudged V part Is IsBad Then job
  Good : (value : V) → Is value → Then value job → IsJudged V part Is IsBad Then job
