-- A step has one outcome: what it shows, and the mote after it.
use Rattle.std.proofs.Common.{◌≡◌, ℕ, List, refl, sym, ap, ◌∙◌}
use Rattle.std.specs.Prelude.{Some}
use Rattle.avr_exec.specs.declared.cpu.Cpu.{Cpu}
use Rattle.avr_exec.specs.Spaces.{Went as WentOn}
use Rattle.flash_words.specs.Memory.{Memory}
use Rattle.mote_devices.specs.State.{State}
use Rattle.mote_core.specs.declared.mote.Mote.{Mote}
use Rattle.mote_core.specs.declared.mote.Plain.{Plain}
use Rattle.mote_core.specs.declared.mote.Plain.TheVariants.{Went, Wrote}
use Rattle.mote_core.specs.Physical.{Physical}
use Rattle.mote_core.specs.Shown.{line_shown}
use Rattle.mote_core.specs.Step.{space_of, IsPlainStep}

parts : (cpu cpu' : Cpu) (space space' : Physical) → Some (WentOn cpu space) ≡ Some (WentOn cpu' space') → (cpu ≡ cpu') × (space ≡ space')
parts cpu cpu' space space' is = (cc, cc)

same_mote : (cpu cpu' : Cpu) (sram sram' : List ℕ) (flash flash' : Memory) (devices devices' : State) (swap swap' : List (List ℕ)) → cpu ≡ cpu' → sram ≡ sram' → flash ≡ flash' → devices ≡ devices'
    → swap ≡ swap'
    → ◌≡◌ {A = Mote} (record { cpu = cpu; sram = sram; flash = flash; devices = devices; swap = swap }) (record { cpu = cpu'; sram = sram'; flash = flash'; devices = devices'; swap = swap' })
same_mote cpu cpu' sram sram' flash flash' devices devices' swap swap' c s f d w = rw (c, s, f, d, w)

same_line : (shown shown' : Plain) → line_shown shown ≡ line_shown shown' → shown ≡ shown'
same_line Went Went is = refl
same_line Went (Wrote line) is = absurd (cc)
same_line (Wrote line) Went is = absurd (cc)
same_line (Wrote line) (Wrote line') is = cc

pub one_step : (m next next' : Mote) (shown shown' : Plain) → IsPlainStep m shown next → IsPlainStep m shown' next' → (next ≡ next') × (shown ≡ shown')
one_step m next next' shown shown' step step' =
    let both = parts next.cpu next'.cpu (space_of next (line_shown shown)) (space_of next' (line_shown shown')) (sym step.executed ∙ step'.executed) in (
      same_mote next.cpu next'.cpu next.sram next'.sram next.flash next'.flash next.devices next'.devices next.swap next'.swap both.0 (ap (λ (s : Physical). s.sram) both.1)
          (step.flash ∙ sym step'.flash) (ap (λ (s : Physical). s.devices) both.1) (step.swap ∙ sym step'.swap),
      same_line shown shown' (ap (λ (s : Physical). s.line) both.1),
    )
