-- Operations on flash, one after another: they are done up to the first that is refused, which isn't done, nor
-- what follows it (docs/LOADER.md).
use Rattle.std.specs.Prelude.{ℕ, Bool, true, if◌then◌else◌, List, [], ◌∷◌, Option, Some, None, Result, Ok, Err}
use Rattle.flash_words.specs.Pages.{set_page}
use Rattle.flash_words.specs.Memory.{Memory}
use Rattle.flash_words.specs.Operations.{next_op, fails, left_by_refusal, erased_page, programmed_page}
use Rattle.branch_bridge.specs.declared.rewriting.ResolveStop.{ResolveStop}
use Rattle.branch_bridge.specs.declared.rewriting.Torn.{Torn}

-- A page is erased; a page that is blank is programmed, `again` where it was erased for this.
pub data Operation : Type 0 where
  Erase : (page : ℕ) → Operation
  Program : (again : Bool) → (page : ℕ) → (words : List ℕ) → Operation

abbrev pub operated_page : Operation → ℕ
operated_page (Erase page) = page
operated_page (Program again page words) = page

-- flash after an operation that is done
abbrev pub operated : Memory → Operation → Memory
operated m (Erase page) = erased_page m page
operated m (Program again page words) = programmed_page m page words

-- what is told of one that is refused: a page that was erased for it lacks these words
abbrev pub lacking : Operation → Option Torn
lacking (Program true page words) = Some (record { page = page; words = words })
lacking _ = None

abbrev pub stop_at : Memory → Operation → ResolveStop
stop_at m operation = record { op = next_op m; torn = lacking operation }

pub record Performed : Type 0 where
  pub memory : Memory
  pub stop : Option ResolveStop

abbrev pub perform : Memory → List Operation → Performed
perform m [] = record { memory = m; stop = None }
perform m (operation ∷ operations) =
    if fails m then record { memory = left_by_refusal m (operated_page operation); stop = Some (stop_at m operation) }
    else perform (operated m operation) operations

-- the stop that a call answers
abbrev pub stop_of : {T : Type 0} → Result T ResolveStop → Option ResolveStop
stop_of (Ok x) = None
stop_of (Err stop) = Some stop

-- a page gets these words
abbrev pub rewriting : ℕ → List ℕ → List Operation
rewriting page words = Erase page ∷ Program true page words ∷ []

-- the words, with those put in that a torn page lacks
abbrev pub with_torn : List ℕ → Option Torn → List ℕ
with_torn words None = words
with_torn words (Some torn) = set_page words torn.page torn.words

abbrev pub mended : List ℕ → Option ResolveStop → List ℕ
mended words None = words
mended words (Some stop) = with_torn words stop.torn

-- what follows is done where nothing was refused
abbrev pub unless_stopped : Option ResolveStop → Memory → (Memory → Performed) → Performed
unless_stopped None m next = next m
unless_stopped (Some stop) m next = record { memory = m; stop = Some stop }

abbrev pub then_on : Performed → (Memory → Performed) → Performed
then_on p next = unless_stopped p.stop p.memory next
