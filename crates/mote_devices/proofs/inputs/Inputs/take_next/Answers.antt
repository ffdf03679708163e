use Rattle.std.specs.Prelude.{bit_or, nat_lt, ◌^◌}
use Rattle.std.proofs.Common.{sym, arith, ap, ◌∙◌}
use Rattle.std.proofs.lemmas.Bool.{cond-true, cond-false, lt-ltb, le-ltb}
use Rattle.mote_devices.proofs.QueueLaws.{pin_taken, other_pin_taken, uart_taken, adc_taken, int_taken}
use Rattle.mote_devices.proofs.inputs.Inputs.take_next.Goals as goal

pub returns-then-port-lt-PORTS : goal.returns-then-port-lt-PORTS
returns-then-port-lt-PORTS c =
    record { value = pin_taken c.self.inside _ _ c.self.view_is c.requires.some c.self.invariant.queued c.in-Pin.port c.in-Pin.value (rw c.events.ensures.value at c.in-Pin.is) }

pub returns-else-port-lt-PORTS : goal.returns-else-port-lt-PORTS
returns-else-port-lt-PORTS c =
    record { value = other_pin_taken c.self.inside _ _ c.self.view_is c.requires.some c.self.invariant.queued c.in-Pin.port c.in-Pin.value (rw c.events.ensures.value at c.in-Pin.is) (omega arith) }

pub returns-in-Uart : goal.returns-in-Uart
returns-in-Uart c = record { value = uart_taken c.self.inside _ _ c.self.view_is c.requires.some c.self.invariant.queued c.in-Uart.field-0 (rw c.events.ensures.value at c.in-Uart.is) }

pub returns-in-Adc : goal.returns-in-Adc
returns-in-Adc c = record { value = adc_taken c.self.inside _ _ c.self.view_is c.requires.some c.self.invariant.queued c.in-Adc.value (rw c.events.ensures.value at c.in-Adc.is) }

pub returns-then-k-lt8 : goal.returns-then-k-lt8
returns-then-k-lt8 c =
    let i = c.self.inside in
    let more = ap (bit_or i.pending) c.bit.ensures.value ∙ sym (cond-true (nat_lt c.in-Int.k 8) (bit_or i.pending (2 ^ c.in-Int.k)) i.pending (lt-ltb c.in-Int.k 8 c.if-k-lt8.true)) in
    record { value = int_taken i _ _ c.self.view_is c.requires.some c.self.invariant.queued c.in-Int.k _ (rw c.events.ensures.value at c.in-Int.is) more }

pub returns-else-k-lt8 : goal.returns-else-k-lt8
returns-else-k-lt8 c =
    let i = c.self.inside in
    let same = sym (cond-false (nat_lt c.in-Int.k 8) (bit_or i.pending (2 ^ c.in-Int.k)) i.pending (le-ltb c.in-Int.k 8 c.if-k-lt8.false)) in
    record { value = int_taken i _ _ c.self.view_is c.requires.some c.self.invariant.queued c.in-Int.k _ (rw c.events.ensures.value at c.in-Int.is) same }
