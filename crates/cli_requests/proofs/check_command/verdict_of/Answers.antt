use Rattle.std.proofs.Common.{ℕ, List, length, subst}
use Rattle.flash_words.specs.Layouts.{layout_of}
use Rattle.flash_words.specs.declared.layout.Layout.{Layout}
use Rattle.pool_check.specs.Verdicts.{IsVerdict}
use Rattle.cli_requests.proofs.check_command.verdict_of.Goals as goal

pub returns : goal.returns
returns c =
    let flash = c.args.flash.now.words in
    let Of : Layout → Type 0 = λ layout. IsVerdict layout c.words-words.result.now flash c.check.result in
    let Whole : List ℕ → Type 0 = λ image. IsVerdict (layout_of (length image)) image flash c.check.result in
    record { verdict = subst Whole c.words-words.ensures.words (subst Of c.of.ensures.value c.check.ensures.verdict) }
