-- What a place that is passed is not.
use Rattle.std.proofs.Common.{ℕ, ◌<◌, List}
use Rattle.flash_words.specs.declared.layout.Layout.{Layout}
use Rattle.page_index.specs.Entries.{IsEntry}
use Rattle.page_cursor.specs.declared.cursor.Cursor.{Cursor}
use Rattle.page_cursor.specs.Cursors.{IsCursor, IsPassed}

module _ (layout : Layout) (words : List ℕ) (c : Cursor) (place : ℕ) (cursor : IsCursor layout words c) (passed : IsPassed c place) where
  -- no entry begins at a place that is passed, and it is none of the kernel's words
  pub none_passed : (t : ℕ) → ¬ IsEntry layout words t place
  none_passed t entry = cursor.quiet t place passed.inside passed.quiet entry

  pub passed_low : place < 0xF000
  passed_low = cursor.low place passed.inside passed.quiet
