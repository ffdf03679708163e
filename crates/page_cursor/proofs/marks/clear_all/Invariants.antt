use Rattle.std.proofs.Common.{◌≡◌, ℕ, ◌<◌, false, length}
use Rattle.std.specs.Prelude.{slice_index_or}
use Rattle.page_cursor.specs.Marks.{no_entry}
use Rattle.page_cursor.proofs.marks.clear_all.Given as goal

-- of the first places it isn't noted that no entry begins there
abbrev pub invariant-quiet : goal.invariant-quiet
invariant-quiet l = record {
  size : length l.quiet ≡ 65536;
  clear : (place : ℕ) → place < l.place → slice_index_or l.quiet place false ≡ false;
}

-- at the first places no entry is known
abbrev pub invariant-marks : goal.invariant-marks
invariant-marks l = record {
  size : length l.marks ≡ 65536;
  clear : (place : ℕ) → place < l.place → slice_index_or l.marks place 0 ≡ no_entry;
}
