-- Walks that follow one another.
use Rattle.std.proofs.Common.{◌≡◌, List, [], ◌∷◌, ◌++◌, refl, sym, ap, ap₂, ◌∙◌}
use Rattle.std.specs.Prelude.{Option, Some, None}
use Rattle.mote_devices.specs.declared.line.Line.{Line}
use Rattle.step_laws.specs.Moves.{Move, Begin, Within, Arrive, Take, line_before, line_within, lines_of}
use Rattle.step_laws.specs.Numbers.{Numbers, moved, numbered}
use Rattle.step_laws.specs.Walks.{Makes}
use Rattle.step_laws.specs.Joining.{Joins}
use Rattle.step_laws.proofs.Ways.{walks_on}

line_on : (line : Option Line) (before after : List Line) → line_before line (before ++ after) ≡ line_before line before ++ after
line_on None before after = refl
line_on (Some line) before after = refl

-- the lines of moves in a row
lines_of-append : (before after : List Move) → lines_of (before ++ after) ≡ lines_of before ++ lines_of after
unfolding lines_of
lines_of-append [] after = refl
lines_of-append (Begin line ∷ before) after = ap (line_before line) (lines_of-append before after) ∙ line_on line (lines_of before) (lines_of after)
lines_of-append (Within inner ∷ before) after = ap (line_before (line_within inner)) (lines_of-append before after) ∙ line_on (line_within inner) (lines_of before) (lines_of after)
lines_of-append (Arrive target made ops ∷ before) after = lines_of-append before after
lines_of-append (Take stops ∷ before) after = lines_of-append before after

-- and their numbers
pub numbered-append : (before after : List Move) (n : Numbers) → numbered (before ++ after) n ≡ numbered after (numbered before n)
numbered-append [] after n = refl
numbered-append (move ∷ before) after n = numbered-append before after (moved move n)

pub joins : Joins
joins x y z ms ns before after first second = record {
  walk = walks_on Makes x.state y.state z.state ms ns first.walk second.walk;
  told = lines_of-append ms ns ∙ ap₂ (λ a b. a ++ b) first.told second.told;
  numbers = second.numbers ∙ ap (numbered ns) first.numbers ∙ sym (numbered-append ms ns x.numbers);
}
