-- Texts at worked values.
use Rattle.std.proofs.Common.{◌≡◌, refl}
use Rattle.std.specs.Prelude.{codes}
use Rattle.mote_devices.specs.declared.line.Port.TheVariants.{PortA, Uart0}
use Rattle.flat_machine.specs.FlatMachine.{Spent, Wild, Illegal, SelfProgram, Asleep, Halted, Io, Stack, SwapFull}
use Rattle.std.specs.Fmt.{digits}
use Rattle.hex.specs.Hex.{encode_with}
use Rattle.printed_text.specs.DeviceLines.{device_line_text}
use Rattle.printed_text.specs.Ends.{stop_text}

port_line : device_line_text (record { port = PortA; value = 0x0F }) ≡ codes "PORTA 0x0F\n"
unfolding device_line_text encode_with
port_line = refl

serial_line : device_line_text (record { port = Uart0; value = 0xA9 }) ≡ codes "UART0 0xA9\n"
unfolding device_line_text encode_with
serial_line = refl

halted_line : stop_text (Halted 2) 2 0 ≡ codes "halted 0x0002 steps 2 checkpoints 0\n"
unfolding stop_text encode_with digits
halted_line = refl

spent_line : stop_text Spent 1000000 49 ≡ codes "spent steps 1000000 checkpoints 49\n"
unfolding stop_text encode_with digits
spent_line = refl

wild_line : stop_text (Wild 0x10) 1 0 ≡ codes "fault wild 0x0010 steps 1 checkpoints 0\n"
unfolding stop_text encode_with digits
wild_line = refl

illegal_line : stop_text (Illegal 0) 0 0 ≡ codes "fault illegal 0x0000 steps 0 checkpoints 0\n"
unfolding stop_text encode_with digits
illegal_line = refl

self_program_line : stop_text (SelfProgram 0) 0 0 ≡ codes "fault selfprogram 0x0000 steps 0 checkpoints 0\n"
unfolding stop_text encode_with digits
self_program_line = refl

asleep_line : stop_text (Asleep 0x1F4D) 0 0 ≡ codes "asleep 0x1F4D steps 0 checkpoints 0\n"
unfolding stop_text encode_with digits
asleep_line = refl

io_line : stop_text (Io 0 0x3C) 0 0 ≡ codes "fault io 0x0000 address 0x003C steps 0 checkpoints 0\n"
unfolding stop_text encode_with digits
io_line = refl

stack_line : stop_text (Stack 2 0x0CFF) 2 0 ≡ codes "fault stack 0x0002 address 0x0CFF steps 2 checkpoints 0\n"
unfolding stop_text encode_with digits
stack_line = refl

swap_line : stop_text (SwapFull 2 0x0B00) 38 0 ≡ codes "fault swap 0x0002 address 0x0B00 steps 38 checkpoints 0\n"
unfolding stop_text encode_with digits
swap_line = refl
