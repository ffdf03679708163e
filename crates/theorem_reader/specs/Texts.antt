-- The printed lines of a run, letter by letter.
use Rattle.std.specs.Prelude.{ℕ, ◌/◌, ◌%◌, List, [], ◌∷◌, ◌++◌, codes, decimal}
use Rattle.mote_devices.specs.declared.line.Line.{Line}
use Rattle.mote_devices.specs.declared.line.Port.{Port}
use Rattle.mote_devices.specs.declared.line.Port.TheVariants.{PortA, PortB, PortC, PortD, DdrA, DdrB, DdrC, DdrD, Uart0}
use Rattle.flat_machine.specs.FlatMachine.{End, Spent, Wild, Illegal, SelfProgram, Asleep, Halted, Read, Io, Stack, SwapFull}
use Rattle.program_steps.specs.Machines.{Machine}
use Rattle.hex.specs.Hex.{encode_upper}

-- all that is told where memory is wanted, with status 8
abbrev pub no_memory : List ℕ
no_memory = codes "no memory\n"

-- the word of an output
abbrev pub port_word : Port → List ℕ
port_word PortA = codes "PORTA"
port_word PortB = codes "PORTB"
port_word PortC = codes "PORTC"
port_word PortD = codes "PORTD"
port_word DdrA = codes "DDRA"
port_word DdrB = codes "DDRB"
port_word DdrC = codes "DDRC"
port_word DdrD = codes "DDRD"
port_word Uart0 = codes "UART0"

-- a device line, as `PORTA 0x0F`
abbrev pub device_line : Line → List ℕ
device_line line = port_word line.port ++ codes " " ++ (codes "0x" ++ encode_upper (line.value ∷ [])) ++ codes "\n"

-- an address, as `0x1234`
abbrev pub address : ℕ → List ℕ
address a = codes "0x" ++ encode_upper (a / 256 ∷ []) ++ encode_upper (a % 256 ∷ [])

-- how the run ended
abbrev pub end_words : End → List ℕ
end_words Spent = codes "spent"
end_words (Halted pc) = codes "halted " ++ address pc
end_words (Asleep pc) = codes "asleep " ++ address pc
end_words (Wild pc) = codes "fault wild " ++ address pc
end_words (Illegal pc) = codes "fault illegal " ++ address pc
end_words (SelfProgram pc) = codes "fault selfprogram " ++ address pc
end_words (Read pc a) = codes "fault read " ++ address pc ++ codes " address " ++ address a
end_words (Io pc a) = codes "fault io " ++ address pc ++ codes " address " ++ address a
end_words (Stack pc a) = codes "fault stack " ++ address pc ++ codes " address " ++ address a
end_words (SwapFull pc a) = codes "fault swap " ++ address pc ++ codes " address " ++ address a

-- the line of how a program ended, and its steps and checkpoints: the last but one of a run
abbrev pub stop_line : (how : List ℕ) (steps checkpoints : ℕ) → List ℕ
stop_line how steps checkpoints = how ++ codes " steps " ++ decimal steps ++ codes " checkpoints " ++ decimal checkpoints ++ codes "\n"

-- the last line: what the machine counted
abbrev pub count_line : Machine → List ℕ
count_line m = codes "natural " ++ decimal m.natural ++ codes " entries " ++ decimal m.entries ++ codes " pages " ++ decimal m.pages ++ codes "\n"

-- the exit status of an end
abbrev pub end_status : End → ℕ
end_status Spent = 1
end_status (Halted pc) = 0
end_status (Asleep pc) = 0
end_status _ = 2
