use Rattle.std.proofs.Common.{◌≡◌, true, false, not, ◌==◌, sym, ap, subst, ◌∙◌}
use Rattle.std.specs.Option.{option_map}
use Rattle.std.proofs.lemmas.Bool.{eq-eqb, ne_eqb}
use Rattle.mote_devices.specs.State.{State}
use Rattle.mote_devices.specs.Inputs.{at_poll}
use Rattle.mote_devices.specs.Waking.{enabled, is_enabled, brought_to, woken, woken_by}
use Rattle.mote_devices.proofs.WakeLaws.{wake_first, wake_now}
use Rattle.mote_devices.proofs.RecursionLaws.{is_wake}
use Rattle.mote_devices.proofs.devices.Devices.sleep.Goals as goal

pub returns-then-enabled-ne0 : goal.returns-then-enabled-ne0
returns-then-enabled-ne0 c =
    let s = c.args.self.now in
    record { woken = sym (ap (woken_by s) (wake_now s (ap (λ n. not (n == 0)) (sym c.enabled.ensures.value) ∙ ap not (ne_eqb c.enabled.result 0 c.if-enabled-ne0.true)))); wake = is_wake s }

pub returns-in-None : goal.returns-in-None
returns-in-None c =
    let i = c.self.inside in
    let v : State = record { registers = i.registers; received = i.inputs; polls = i.polls } in
    let off : is_enabled v ≡ false = ap (λ s. not (enabled s == 0)) c.self.view_is ∙ ap (λ n. not (n == 0)) (sym c.enabled.ensures.value) ∙ ap not (eq-eqb c.enabled.result 0 c.if-enabled-ne0.false) in
    let first = sym c.next_call.ensures.first ∙ c.in-None.is in
    record {
      woken = subst (λ (s : State). (false, s) ≡ woken s) c.self.view_is (sym (ap (woken_by v) (wake_first v off c.next_call.ensures.rising ∙ ap (option_map (λ n. brought_to n v)) first)));
      wake = is_wake c.args.self.now;
    }

pub returns-in-Some : goal.returns-in-Some
returns-in-Some c =
    let i = c.self.inside in
    let v : State = record { registers = i.registers; received = i.inputs; polls = i.polls } in
    let off : is_enabled v ≡ false = ap (λ s. not (enabled s == 0)) c.self.view_is ∙ ap (λ n. not (n == 0)) (sym c.enabled.ensures.value) ∙ ap not (eq-eqb c.enabled.result 0 c.if-enabled-ne0.false) in
    let first = sym c.next_call.ensures.first ∙ c.in-Some.is in
    let new : State = record { registers = i.registers; received = c.take_due.new.self; polls = c.max-self-inside.result } in
    let after : new ≡ brought_to c.in-Some.at v =
    ap (λ r. record { registers = i.registers; received = r; polls = c.max-self-inside.result }) c.take_due.ensures.value
    ∙ ap (λ p. record { registers = i.registers; received = at_poll p i.inputs; polls = p }) c.max-self-inside.ensures in
    record {
      woken = subst (λ (s : State). (true, new) ≡ woken s) c.self.view_is
          (ap (λ t. (true, t)) after ∙ sym (ap (woken_by v) (wake_first v off c.next_call.ensures.rising ∙ ap (option_map (λ n. brought_to n v)) first)));
      wake = is_wake c.args.self.now;
    }
