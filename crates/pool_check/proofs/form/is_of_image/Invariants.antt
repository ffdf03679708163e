use Rattle.std.proofs.Common.{◌≡◌, ℕ, ◌+◌, ◌*◌, ◌<◌}
use Rattle.avr_isa.specs.Image.{word}
use Rattle.flash_words.specs.Pages.{word_at}
use Rattle.pool_check.proofs.form.is_of_image.Given as goal

abbrev pub invariant-loop-k : goal.invariant-loop-k
invariant-loop-k l = (j : ℕ) → j < l.k → word_at l.words j ≡ word l.image (128 * l.page + j)
