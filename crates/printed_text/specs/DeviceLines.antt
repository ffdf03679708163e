-- The lines of writes to outputs of devices (docs/FORMATS.md, "What is printed").
use Rattle.std.specs.Prelude.{ℕ, List, ◌++◌, codes, flat_map}
use Rattle.text_lines.specs.Pieces.{byte_text}
use Rattle.mote_devices.specs.declared.line.Line.{Line}
use Rattle.mote_devices.specs.declared.line.Port.{Port}
use Rattle.mote_devices.specs.declared.line.Port.TheVariants.{PortA, PortB, PortC, PortD, DdrA, DdrB, DdrC, DdrD, Uart0}

abbrev pub port_name : Port → List ℕ
port_name PortA = codes "PORTA"
port_name PortB = codes "PORTB"
port_name PortC = codes "PORTC"
port_name PortD = codes "PORTD"
port_name DdrA = codes "DDRA"
port_name DdrB = codes "DDRB"
port_name DdrC = codes "DDRC"
port_name DdrD = codes "DDRD"
port_name Uart0 = codes "UART0"

-- a write to an output of a device
unfoldable pub device_line_text : Line → List ℕ
device_line_text line = port_name line.port ++ codes " " ++ byte_text line.value ++ codes "\n"

-- the text of device lines, one after another
abbrev pub lines_text : List Line → List ℕ
lines_text lines = flat_map device_line_text lines
