-- What `restart` answers: a run, what stands in flash behind a loss of power, what is kept of it, and a second run.
use Rattle.std.specs.Prelude.{◌≡◌, ◌≢◌, ◌↔◌, ℕ, zero, suc, ◌+◌, ◌*◌, ◌/◌, ◌%◌, ◌<◌, ◌==◌, Bool, true, false, not, ◌&&◌, List, [], ◌++◌, codes, decimal, drop, take, length}
use Rattle.std.specs.Prelude.{slice_index, slice_set, Option, Some, None}
use Rattle.std.specs.List.{list_all}
use Rattle.flash_words.specs.Layouts.{layout_of}
use Rattle.flash_words.specs.Pages.{raised}
use Rattle.mote_core.specs.declared.mote.Mote.{Mote}
use Rattle.kernel_entry.specs.declared.kernel.End.TheVariants as ends
use Rattle.program_steps.specs.Machines.{Machine}
use Rattle.cli_words.specs.declared.command.Command.TheVariants.{Restart}
use Rattle.theorem_reader.specs.Acts.{IsNew}
use Rattle.theorem_reader.specs.Pools.{pages_where, IsFormed, IsInPool, AreFaithful, IsErased, HasAddress, KeepsCode}
use Rattle.theorem_reader.specs.Checks.{used_in}
use Rattle.theorem_reader.specs.Dumps.{HasEnded}
use Rattle.theorem_reader.specs.Runs.{Asked, AsksAs, Start, IsRun}
use Rattle.theorem_reader.specs.Wear.{IsSamePage}
use Rattle.theorem_reader.specs.Telling.{Sink, Fails, IsTold}
use Rattle.theorem_reader.specs.Texts.{no_memory}

-- the words are those of `restart` with these options, and the text is of the program
abbrev pub AsksRestart : (words : List (List ℕ)) (text : List ℕ) (asked : Asked) → Type 0
AsksRestart words text asked = AsksAs Restart words text asked

-- numbers in a row behind x: each is the one before it times 1,664,525 plus 1,013,904,223, modulo 2 to the 32
abbrev pub number_behind : (x k : ℕ) → ℕ
number_behind x zero = (x * 1664525 + 1013904223) % 4294967296
number_behind x (suc k) = (number_behind x k * 1664525 + 1013904223) % 4294967296

-- Flash when power is back, and how often its pages were erased till then. Where the run ended in a refused operation, the page
-- of that, one of the pool, has other words, each the upper half of a number behind that operation's, and counts as erased once
-- more; all else is as the run left it.
pub data IsLost (image : List ℕ) (m : Machine) (flash erases : List ℕ) : Type 0 where
  Whole : ((op : ℕ) → m.end ≢ Some (ends.Flash op)) → flash ≡ m.kernel.mote.flash.words → erases ≡ m.kernel.mote.flash.erases → IsLost image m flash erases
  Torn : (op page : ℕ) → m.end ≡ Some (ends.Flash op) → m.kernel.mote.flash.refused ≡ Some page → IsInPool image page
      → ((k : ℕ) → k < 128 → slice_index flash (128 * page + k) ≡ number_behind op k / 65536)
      → ((a : ℕ) → a / 128 ≢ page → slice_index flash a ≡ slice_index m.kernel.mote.flash.words a)
      → erases ≡ slice_set m.kernel.mote.flash.erases page (raised (slice_index m.kernel.mote.flash.erases page))
      → IsLost image m flash erases

-- The page holds code of the image, wherever that leads, and no lower page that is kept has one of its addresses.
pub record IsKeeper (image flash : List ℕ) (kept : ℕ → Bool) (page : ℕ) : Type 0 where
  pub used : slice_index flash (128 * page) ≢ 0xFFFF
  pub formed : IsFormed image flash page
  pub alone : (lower t : ℕ) → IsInPool image lower → lower < page → kept lower ≡ true → HasAddress flash lower t → HasAddress flash page t → ⊥

-- Of the pages of the pool just these are kept. What is left is a faithful flash, in which a page that is kept has the
-- addresses that it had, and of its code only pairs of words as exit stubs begin change; and each other page of the pool is
-- erased.
pub record IsKept (image lost left : List ℕ) (kept : ℕ → Bool) : Type 0 where
  pub are : (page : ℕ) → IsInPool image page → ((kept page ≡ true) ↔ IsKeeper image lost kept page)
  pub faithful : AreFaithful image left
  pub code : (page : ℕ) → IsInPool image page → kept page ≡ true → KeepsCode lost left page
  pub same : (page t : ℕ) → IsInPool image page → kept page ≡ true → (HasAddress left page t ↔ HasAddress lost page t)
  pub erased : (page : ℕ) → IsInPool image page → kept page ≡ false → IsErased left page

-- the line of the restart: how many pages of the pool are used, and how many are dropped, which weren't erased and are not kept
abbrev pub restart_line : (image lost left : List ℕ) (kept : ℕ → Bool) → List ℕ
restart_line image lost left kept =
    codes "restart kept " ++ decimal (used_in image left) ++ codes " dropped "
    ++ decimal (pages_where image (λ page. not (list_all (λ word. word == 0xFFFF) (take 128 (drop (128 * page) lost))) && not (kept page))) ++ codes "\n"

-- A first machine ran as for `run`; power was lost, and of the flash that it left just this was kept.
pub record IsLeft (asked : Asked) : Type 0 where
  pub first : Machine
  pub ended : HasEnded asked first
  pub lost : List ℕ
  pub erases : List ℕ
  pub left : List ℕ
  pub kept : ℕ → Bool
  pub lost_is : IsLost asked.image first lost erases
  pub left_is : IsKept asked.image lost left kept

-- A mote that has done nothing over it, whose operations on flash are counted from 0 again, and none is to fail. Since power
-- was back each page was erased once where it has other words now, and else never; `raised` is one more, up to the greatest
-- 32-bit number.
pub record IsStart (asked : Asked) (flash : IsLeft asked) (m : Mote) : Type 0 where
  pub new : IsNew asked.events asked.quantum asked.slots m
  pub over : m.flash ≡ record m.flash { words = flash.left; failing = [] }
  pub once : (page : ℕ) → page < 512 → (IsSamePage flash.lost flash.left page → ⊥) → slice_index m.flash.erases page ≡ raised (slice_index flash.erases page)
  pub never : (page : ℕ) → page < 512 → IsSamePage flash.lost flash.left page → slice_index m.flash.erases page ≡ slice_index flash.erases page

-- how the second machine began: over that flash, of whose pool so many pages are used, and behind the line of the restart
abbrev pub restart_of : (asked : Asked) → IsLeft asked → Start
restart_of asked flash = record { IsFirst = IsStart asked flash; pages = used_in asked.image flash.left; front = restart_line asked.image flash.lost flash.left flash.kept }

-- The sink failed at the line: the machine has done nothing yet.
pub record IsUnbegun (start : Start) (asked : Asked) (status : ℕ) (taken : List ℕ) (m : Machine) : Type 0 where
  pub told : IsTold Fails 6 start.front status taken
  pub first : start.IsFirst m.kernel.mote
  pub kernel : m.kernel ≡ record m.kernel { layout = layout_of (length asked.image); quantum = asked.quantum }
  pub nothing : m ≡ record m { at = 0; end = None; due = false; broken = false; steps = 0; crossings = 0; natural = 0; entries = 0; pages = start.pages }

-- memory was wanted before the second run, which is all that is told, and no machine is kept; or the second run wasn't begun, or
-- was made
pub data IsRestarted (sink : Sink) (asked : Asked) (status : ℕ) (taken : List ℕ) (kept : Option Machine) : Type 0 where
  NoMemory : IsTold sink 8 no_memory status taken → kept ≡ None → IsRestarted sink asked status taken kept
  Unbegun : (flash : IsLeft asked) → (m : Machine) → kept ≡ Some m → sink ≡ Fails → IsUnbegun (restart_of asked flash) asked status taken m → IsRestarted sink asked status taken kept
  Ran : (flash : IsLeft asked) → IsRun (restart_of asked flash) sink asked status taken kept → IsRestarted sink asked status taken kept
