-- A page of the pool where power was lost in an operation on flash.
use Rattle.std.specs.Prelude.{ℕ, zero, suc, ◌/◌, ◌^◌, List, [], ◌∷◌, Option, Some, None}
use Rattle.flash_words.specs.Memory.{Memory}
use Rattle.flash_words.specs.Operations.{erased_page, programmed_page}
use Rattle.base.specs.Sequences.{next_number}

-- the words that stand in a page where power was lost in the operation of this number: the upper halves of the n
-- numbers that follow it
unfoldable pub torn_words : (x n : ℕ) → List ℕ
torn_words x zero = []
torn_words x (suc n) = next_number x / 2 ^ 16 ∷ torn_words (next_number x) n

-- where power was lost in an operation, its page has such words
abbrev pub lost_in : (op page : Option ℕ) → Memory → Memory
lost_in None page flash = flash
lost_in (Some op) None flash = flash
lost_in (Some op) (Some page) flash = programmed_page (erased_page flash page) page (torn_words op 128)
