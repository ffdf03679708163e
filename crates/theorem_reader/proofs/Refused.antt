-- A script, one of several programs, their image and a dump that are refused.
use Rattle.std.proofs.Common.{◌≡◌, ℕ, ◌≤◌, List, [], ◌∷◌, codes, map, refl, arith, inl, inr}
use Rattle.std.specs.List.{range_with_len}
use Rattle.hex.proofs.OnLiterals.{hex_on_literals}
use Rattle.avr_isa.specs.Image.{word}
use Rattle.hex_image.specs.Places.{Cell, word_of_cells}
use Rattle.hex_image.specs.HexText.{HexText}
use Rattle.input_script.specs.declared.fault.ScriptFault.TheVariants.{Form}
use Rattle.input_script.specs.Script.{nothing}
use Rattle.flash_dump.specs.declared.dump_line.DumpFault.TheVariants as dump_faults
use Rattle.task_input.specs.Images.{IsApart, IsFirstMisplaced}
use Rattle.theorem_reader.specs.Examples.{example_of_tasks, words_of_tasks}
use Rattle.theorem_reader.specs.Refusals.{Runs, IsRefused, BadScript, BadScripts, BadImage, BadDump, bad_line}
use Rattle.theorem_reader.specs.Runs.{example}
use Rattle.theorem_reader.specs.Tasks.{tasks_options_of}
use Rattle.cli_words.proofs.WorkedWords.{without_options}
use Rattle.theorem_reader.proofs.Exampled.{check_command, schedules, tasks_command}

-- A script. ----------------------------------------------------------------------------------------------

abbrev script_text : List ℕ
script_text = codes ":060000000FE00BBBFFCF77\n:00000001FF\nend\n"

hex_before_script : HexText script_text example.image 36
unfolding hex_on_literals
hex_before_script = record { sound = refl; image = refl; cut = refl }

pub bad_script : IsRefused (codes "run" ∷ []) script_text (bad_line (codes "script") 1 (codes "form"))
bad_script = BadScript (Runs _ without_options) example.image (record { position = 36; hex = hex_before_script; short = omega arith }) 1 Form refl refl

-- A script of several programs. ---------------------------------------------------------------------------

abbrev task_script_text : List ℕ
task_script_text = codes ":060000000FE00BBBFFCF77\n:00000001FF\nfail flash 1\n"

hex_before_task_script : HexText task_script_text example.image 36
unfolding hex_on_literals
hex_before_task_script = record { sound = refl; image = refl; cut = refl }

pub bad_task_script : IsRefused words_of_tasks task_script_text (bad_line (codes "script") 1 (codes "form"))
bad_task_script = BadScripts (tasks_options_of example_of_tasks) tasks_command example.image (record { position = 36; hex = hex_before_task_script; short = omega arith }) 1 Form refl refl

-- An image of several programs. ---------------------------------------------------------------------------

abbrev image_text : List ℕ
image_text = codes ":021FFC000000E3\n:00000001FF\n"

abbrev cells : List Cell
cells = (8188, 0) ∷ (8189, 0) ∷ []

abbrev far_image : List ℕ
far_image = map (word_of_cells cells) (range_with_len 0 4095)

far_hex : HexText image_text far_image 28
unfolding hex_on_literals
far_hex = record { sound = refl; image = refl; cut = refl }

far_word : word far_image 4094 ≡ 0
far_word = refl

from_there : (other : ℕ) → IsApart 1 other → 4094 ≤ other
from_there other (inl behind) = omega (arith, behind)
from_there other (inr (inl one)) = omega (arith, one)
from_there other (inr (inr two)) = omega (arith, two)

misplaced : IsFirstMisplaced 1 far_image 4094
misplaced = record { is = (inr (inl refl), λ e. omega (arith, e, far_word)); least = λ other is. from_there other is.0 }

pub bad_task_image : IsRefused words_of_tasks image_text (codes "bad task image 0x0FFE\n")
unfolding hex_on_literals
bad_task_image = BadImage (tasks_options_of example_of_tasks) tasks_command far_image (record { position = 28; hex = far_hex; short = omega arith }) (nothing ∷ []) schedules 4094 misplaced refl

-- A dump. -------------------------------------------------------------------------------------------------

abbrev dump_text : List ℕ
dump_text = codes ":060000000FE00BBBFFCF77\n:00000001FF\npage\n"

hex_before_dump : HexText dump_text example.image 36
unfolding hex_on_literals
hex_before_dump = record { sound = refl; image = refl; cut = refl }

pub bad_dump : IsRefused (codes "check" ∷ []) dump_text (bad_line (codes "dump") 1 (codes "form"))
bad_dump = BadDump check_command example.image (record { position = 36; hex = hex_before_dump; short = omega arith }) 1 dump_faults.Form refl refl
