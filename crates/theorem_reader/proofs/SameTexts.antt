-- The texts are those of the crates below, letter by letter.
use Rattle.std.proofs.Common.{◌≡◌, ℕ, ◌/◌, List, [], ◌∷◌, ◌++◌, flat_map, codes, decimal, refl, sym, ap, ap₂, ◌∙◌}
use Rattle.std.proofs.lemmas.List.{append_assoc}
use Rattle.mote_devices.specs.declared.line.Line.{Line}
use Rattle.mote_devices.specs.declared.line.Port.{Port}
use Rattle.mote_devices.specs.declared.line.Port.TheVariants.{PortA}
use Rattle.hex.specs.Hex.{encode_upper}
use Rattle.flat_machine.specs.FlatMachine.{End, Spent, Run}
use Rattle.printed_text.specs.DeviceLines.{device_line_text, lines_text, port_name}
use Rattle.printed_text.specs.Ends.{stop_text, end_text}
use Rattle.printed_text.specs.StopLines.{end_line}
use Rattle.kernel_entry.specs.declared.kernel.End.TheVariants as ends
use Rattle.program_steps.specs.Machines.{Machine}
use Rattle.tkernel_cli.specs.Runs.{count_line_of, status_of_end}
use Rattle.cli_words.specs.Status.{number_of}
use Rattle.printed_text.specs.Counts.{count_text}
use Rattle.theorem_reader.specs.Texts.{port_word, device_line, end_words, stop_line, count_line, end_status}
use Rattle.theorem_reader.specs.Runs.{last_lines}

port_same : (port : Port) → port_name port ≡ port_word port
port_same PortA = refl
port_same _ = refl

pub line_same : (line : Line) → device_line_text line ≡ device_line line
unfolding device_line_text
line_same line = ap (λ p. p ++ codes " " ++ (codes "0x" ++ encode_upper (line.value ∷ [])) ++ codes "\n") (port_same line.port)

pub lines_same : (lines : List Line) → lines_text lines ≡ flat_map device_line lines
lines_same [] = refl
lines_same (line ∷ lines) = ap₂ (λ a b. a ++ b) (line_same line) (lines_same lines)

end_same : (end : End) → end_text end ≡ end_words end
end_same Spent = refl
end_same _ = refl

pub stop_same : (end : End) (steps checkpoints : ℕ) → stop_text end steps checkpoints ≡ stop_line (end_words end) steps checkpoints
unfolding stop_text
stop_same end steps checkpoints = ap (λ how. stop_line how steps checkpoints) (end_same end)

count_same : (m : Machine) → count_line_of m ≡ count_line m
unfolding count_text
count_same m = refl

flash_same : (op steps checkpoints : ℕ) → end_line (ends.Flash op) steps checkpoints ≡ stop_line (codes "flash fault " ++ decimal op) steps checkpoints
unfolding end_line
flash_same op steps checkpoints = refl

run_same : (front : List ℕ) (r : Run) (stop how : List ℕ) (quantum : ℕ) (m : Machine) → stop ≡ stop_line how r.state.now.steps (r.state.now.crossings / quantum)
    → front ++ (lines_text r.lines ++ stop ++ count_line_of m) ≡ (front ++ flat_map device_line r.lines) ++ last_lines r how quantum m
run_same front r stop how quantum m is =
    ap₂ (λ lines rest. front ++ (lines ++ rest ++ count_line_of m)) (lines_same r.lines) is
    ∙ ap (λ count. front ++ (flat_map device_line r.lines ++ stop_line how r.state.now.steps (r.state.now.crossings / quantum) ++ count)) (count_same m)
    ∙ ap (λ text. front ++ text) (append_assoc (flat_map device_line r.lines) (stop_line how r.state.now.steps (r.state.now.crossings / quantum)) (count_line m))
    ∙ sym (append_assoc front (flat_map device_line r.lines) (last_lines r how quantum m))

pub ended_same : (front : List ℕ) (r : Run) (quantum : ℕ) (m : Machine) → front ++ (lines_text r.lines ++ stop_text r.end r.state.now.steps (r.state.now.crossings / quantum) ++ count_line_of m)
    ≡ (front ++ flat_map device_line r.lines) ++ last_lines r (end_words r.end) quantum m
ended_same front r quantum m = run_same front r _ (end_words r.end) quantum m (stop_same r.end r.state.now.steps (r.state.now.crossings / quantum))

pub failed_same : (r : Run) (op quantum : ℕ) (m : Machine) → m.steps ≡ r.state.now.steps → lines_text r.lines ++ end_line (ends.Flash op) m.steps (r.state.now.crossings / quantum) ++ count_line_of m
    ≡ flat_map device_line r.lines ++ last_lines r (codes "flash fault " ++ decimal op) quantum m
failed_same r op quantum m steps = run_same [] r _ (codes "flash fault " ++ decimal op) quantum m
    (ap (λ n. end_line (ends.Flash op) n (r.state.now.crossings / quantum)) steps ∙ flash_same op r.state.now.steps (r.state.now.crossings / quantum))

pub status_same : (end : End) → number_of (status_of_end end) ≡ end_status end
status_same Spent = refl
status_same _ = refl
