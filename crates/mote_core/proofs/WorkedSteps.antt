-- The tests of an ask at worked values.
use Rattle.std.proofs.Common.{◌≡◌, true, false, refl}
use Rattle.avr_isa.specs.IoTable.{can_read, can_write}
use Rattle.avr_exec.specs.declared.ask.Ask.TheVariants.{Nothing, Load, Store, Modify, Program}
use Rattle.mote_core.specs.Conditions.{is_device_ask}

-- PINA may be read and not written; PORTA both; SRAM is no device
pins : (is_device_ask (Load 0x39) ≡ true) × (is_device_ask (Store 0x39 1) ≡ false) × (is_device_ask (Modify 0x39 0 1) ≡ false)
unfolding is_device_ask can_read can_write
pins = (refl, refl, refl)

port : (is_device_ask (Load 0x3B) ≡ true) × (is_device_ask (Store 0x3B 1) ≡ true) × (is_device_ask (Modify 0x3B 0 1) ≡ true)
unfolding is_device_ask can_read can_write
port = (refl, refl, refl)

others : (is_device_ask Nothing ≡ true) × (is_device_ask (Load 0x0100) ≡ false) × (is_device_ask (Program 0) ≡ false)
unfolding is_device_ask can_read
others = (refl, refl, refl)
