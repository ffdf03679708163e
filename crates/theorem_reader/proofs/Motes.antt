-- A mote whose parts are those of another.
use Rattle.std.proofs.Common.{◌≡◌, ap, ◌∙◌}
use Rattle.avr_exec.specs.declared.cpu.Cpu.{Cpu}
use Rattle.mote_core.specs.declared.mote.Mote.{Mote}

pub one_core : (a b : Cpu) → a.r ≡ b.r → a.sreg ≡ b.sreg → a.sp ≡ b.sp → a ≡ record b { pc = a.pc }
one_core a b r sreg sp =
    ap (λ x. record a { r = x }) r ∙ ap (λ x. record a { r = b.r; sreg = x }) sreg ∙ ap (λ x. record a { r = b.r; sreg = b.sreg; sp = x }) sp

pub one_mote : (a b : Mote) → a.cpu ≡ b.cpu → a.sram ≡ b.sram → a.flash ≡ b.flash → a.devices ≡ b.devices → a.swap ≡ b.swap → a ≡ b
one_mote a b cpu sram flash devices swap =
    ap (λ c. record a { cpu = c }) cpu ∙ ap (λ s. record a { cpu = b.cpu; sram = s }) sram ∙ ap (λ f. record a { cpu = b.cpu; sram = b.sram; flash = f }) flash
    ∙ ap (λ d. record a { cpu = b.cpu; sram = b.sram; flash = b.flash; devices = d }) devices ∙ ap (λ s. record b { swap = s }) swap
