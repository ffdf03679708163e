-- Operations on the pages of flash: erasing and programming (ATmega128 datasheet, "Boot Loader Support",
-- "Self-Programming the Flash"). Each is numbered, from 1, and refused where its number is listed; one that is
-- refused changes no word (docs/MOTE.md).
use Rattle.std.specs.Prelude.{ℕ, ◌+◌, ◌==◌, Bool, if◌then◌else◌, List, [], ◌∷◌, slice_index, slice_set, Option, Some, None, Result, Ok, Err}
use Rattle.std.specs.List.{list_any}
use Rattle.flash_words.specs.Pages.{set_page, blank, raised}
use Rattle.flash_words.specs.Memory.{Memory}
use Rattle.flash_words.specs.declared.failing.FlashStop.{FlashStop}

-- whether the operation of this number is to fail
abbrev pub is_listed : List ℕ → ℕ → Bool
is_listed failing op = list_any (λ n. n == op) failing

-- the number of the next operation, and whether it is to fail
abbrev pub next_op : Memory → ℕ
next_op m = m.ops + 1

abbrev pub fails : Memory → Bool
fails m = is_listed m.failing (next_op m)

-- what is left where it is refused
abbrev pub left_by_refusal : Memory → ℕ → Memory
left_by_refusal m page = record m { ops = next_op m; refused = Some page }

-- .. where a page is erased, and where one is programmed and then holds these words
abbrev pub erased_page : Memory → ℕ → Memory
erased_page m page = record m {
  words = set_page m.words page blank;
  erases = slice_set m.erases page (raised (slice_index m.erases page));
  ops = next_op m;
}

abbrev pub programmed_page : Memory → ℕ → List ℕ → Memory
programmed_page m page words = record m { words = set_page m.words page words; ops = next_op m }

-- operations are counted from 1 again, and none is to fail
abbrev pub renewed : Memory → Memory
renewed m = record m { failing = []; ops = 0; refused = None }

-- an operation: a page is erased, or programmed, and then holds these words
pub data Operation : Type 0 where
  Erase : (page : ℕ) → Operation
  Program : (page : ℕ) → (words : List ℕ) → Operation

abbrev pub operated_page : Operation → ℕ
operated_page (Erase page) = page
operated_page (Program page words) = page

-- flash after an operation that is done
abbrev pub operated : Memory → Operation → Memory
operated m (Erase page) = erased_page m page
operated m (Program page words) = programmed_page m page words

-- an operation that is refused, and its number
pub record Refusal : Type 0 where
  pub op : ℕ
  pub operation : Operation

-- what operations in a row leave, and which of them was refused
pub record Performed : Type 0 where
  pub memory : Memory
  pub refusal : Option Refusal

-- they are done up to the first that is refused, which isn't done, nor what follows it
abbrev pub perform : Memory → List Operation → Performed
perform m [] = record { memory = m; refusal = None }
perform m (operation ∷ operations) =
    if fails m then record { memory = left_by_refusal m (operated_page operation); refusal = Some (record { op = next_op m; operation = operation }) }
    else perform (operated m operation) operations

-- what a call that makes one operation tells of its refusal
abbrev pub refusal_of : Operation → Result Unit FlashStop → Option Refusal
refusal_of operation (Ok done) = None
refusal_of operation (Err stop) = Some (record { op = stop.op; operation = operation })
