-- How the original program's run ended, and its stop line (docs/FORMATS.md, "What is printed").
use Rattle.std.specs.Prelude.{ℕ, List, ◌++◌, codes, decimal}
use Rattle.text_lines.specs.Pieces.{address_text}
use Rattle.flat_machine.specs.FlatMachine.{End, Spent, Wild, Illegal, SelfProgram, Asleep, Halted, Read, Io, Stack, SwapFull}

-- how a run ended; one also names the word that it may not read, and the last three the data address
abbrev pub end_text : End → List ℕ
end_text Spent = codes "spent"
end_text (Halted pc) = codes "halted " ++ address_text pc
end_text (Asleep pc) = codes "asleep " ++ address_text pc
end_text (Wild pc) = codes "fault wild " ++ address_text pc
end_text (Illegal pc) = codes "fault illegal " ++ address_text pc
end_text (SelfProgram pc) = codes "fault selfprogram " ++ address_text pc
end_text (Read pc a) = codes "fault read " ++ address_text pc ++ codes " address " ++ address_text a
end_text (Io pc a) = codes "fault io " ++ address_text pc ++ codes " address " ++ address_text a
end_text (Stack pc a) = codes "fault stack " ++ address_text pc ++ codes " address " ++ address_text a
end_text (SwapFull pc a) = codes "fault swap " ++ address_text pc ++ codes " address " ++ address_text a

-- the stop line
unfoldable pub stop_text : End → (steps checkpoints : ℕ) → List ℕ
stop_text end steps checkpoints =
    end_text end ++ codes " steps " ++ decimal steps ++ codes " checkpoints " ++ decimal checkpoints ++ codes "\n"
