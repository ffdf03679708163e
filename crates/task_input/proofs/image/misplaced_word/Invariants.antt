use Rattle.std.proofs.Common.{◌<◌, ℕ}
use Rattle.task_input.specs.Images.{IsMisplaced}
use Rattle.task_input.proofs.image.misplaced_word.Given as goal

-- none of the first words is misplaced
abbrev pub invariant-words : goal.invariant-words
invariant-words l = (address : ℕ) → address < l.address → ¬ IsMisplaced l.count l.image address
