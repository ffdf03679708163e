-- What stands after operations on pages of the pool, which go on up to the first that is refused (docs/LOADER.md,
-- "When flash fails").
use Rattle.std.specs.Prelude.{◌≡◌, ℕ, ◌/◌, ◌<◌, ◌≤◌, ◌==◌, Bool, true, List, length, Option, Some, None, IfSome}
use Rattle.std.specs.List.{list_any}
use Rattle.std.specs.Option.{option_map}
use Rattle.flash_words.specs.Pages.{page_words, word_at}
use Rattle.flash_words.specs.Memory.{Memory}
use Rattle.flash_words.specs.declared.layout.Layout.{Layout}
use Rattle.page_index.specs.Maps.{IsPool, IsFree}
use Rattle.branch_bridge.specs.declared.rewriting.ResolveStop.{ResolveStop}
use Rattle.branch_bridge.specs.declared.rewriting.Torn.{Torn}

-- the operation of this number is to fail
abbrev pub is_listed : Memory → ℕ → Bool
is_listed m op = list_any (λ n. n == op) m.failing

-- the number of the refused one
abbrev pub number_in : Option ResolveStop → Option ℕ
number_in stop = option_map (λ (s : ResolveStop). s.op) stop

-- what the page lacks that it left torn
abbrev pub torn_at : Option ResolveStop → Option Torn
torn_at None = None
torn_at (Some stop) = stop.torn

-- a page of the pool is blank, and 128 words are told that it lacks
pub record IsTorn (layout : Layout) (words : List ℕ) (torn : Torn) : Type 0 where
  pub pool : IsPool layout torn.page
  pub blank : IsFree words torn.page
  pub size : length torn.words ≡ page_words

-- the refused operation is the last one that was tried, and was to fail; flash tells its page
pub record IsRefusal (layout : Layout) (old new : Memory) (stop : ResolveStop) : Type 0 where
  pub later : old.ops < stop.op
  pub last : stop.op ≡ new.ops
  pub listed : is_listed old stop.op ≡ true
  pub page : ℕ
  pub pool : IsPool layout page
  pub told : new.refused ≡ Some page
  pub torn : IfSome stop.torn (IsTorn layout new.words)

-- Operations were tried one after another, none behind the one of `stop`, if any was refused. Of those that were
-- to fail just this one was tried. Outside the pool no word changes.
pub record Tried (layout : Layout) (old new : Memory) (stop : Option ResolveStop) : Type 0 where
  pub failing : new.failing ≡ old.failing
  pub counted : old.ops ≤ new.ops
  pub only : (op : ℕ) → old.ops < op → op ≤ new.ops → is_listed old op ≡ true → number_in stop ≡ Some op
  pub unrefused : stop ≡ None → new.refused ≡ old.refused
  pub refused : IfSome stop (IsRefusal layout old new)
  pub size : length new.words ≡ length old.words
  pub outside : (a : ℕ) → ¬ IsPool layout (a / page_words) → word_at new.words a ≡ word_at old.words a
