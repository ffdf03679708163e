-- Worked words: the command `run` with its three options, in both ways of writing them, and without any.
use Rattle.std.proofs.Common.{ℕ, List, [], ◌∷◌, codes, Some, None, refl, arith, inl, inr}
use Rattle.std.specs.Prelude.{Option}
use Rattle.cli_words.specs.declared.command.Command.TheVariants.{Run}
use Rattle.cli_words.specs.declared.command.RunOptions.{RunOptions}
use Rattle.cli_words.specs.declared.table.Parameter.TheVariants.{Steps, Quantum, Swap}
use Rattle.cli_words.specs.Commands.{IsCommand, run_numbers}
use Rattle.cli_words.specs.Options.{AreValues, Choose, default_options, nothing, run_rows}

abbrev pub options : RunOptions
options = record { steps = 100; quantum = 7; swap = 0 }

-- the words behind `run`, and the values that they choose
abbrev pub rest : List (List ℕ)
rest = codes "--steps" ∷ codes "100" ∷ codes "--quantum=7" ∷ codes "--swap" ∷ codes "0" ∷ []

abbrev pub chosen : List (Option ℕ)
chosen = None ∷ Some 100 ∷ Some 7 ∷ Some 0 ∷ None ∷ []

pub said : Choose run_rows rest nothing chosen
said = (
  record { parameter = Steps; value = 100 } ∷ record { parameter = Quantum; value = 7 } ∷ record { parameter = Swap; value = 0 } ∷ [],
  (
    codes "--quantum=7" ∷ codes "--swap" ∷ codes "0" ∷ [],
    record { digits = codes "100"; written = inl refl; number = refl; has = refl },
    refl,
    (
      codes "--swap" ∷ codes "0" ∷ [],
      record { digits = codes "7"; written = inr refl; number = refl; has = refl },
      refl,
      (
        [],
        record { digits = codes "0"; written = inl refl; number = refl; has = refl },
        refl,
        (refl, refl),
      ),
    ),
  ),
)

pub values_are : AreValues run_rows chosen (run_numbers options)
values_are = (
  100,
  7 ∷ 0 ∷ [],
  refl,
  record { is = refl; least = omega arith; most = omega arith },
  (
    7,
    0 ∷ [],
    refl,
    record { is = refl; least = omega arith; most = omega arith },
    (0, [], refl, record { is = refl; least = omega arith; most = omega arith }, refl),
  ),
)

pub with_options : IsCommand (codes "run" ∷ rest) (Run options)
with_options = (refl, (chosen, said, values_are))

-- the word alone
default_values : AreValues run_rows nothing (run_numbers default_options)
default_values = (
  1000000,
  255 ∷ 128 ∷ [],
  refl,
  record { is = refl; least = omega arith; most = omega arith },
  (
    255,
    128 ∷ [],
    refl,
    record { is = refl; least = omega arith; most = omega arith },
    (128, [], refl, record { is = refl; least = omega arith; most = omega arith }, refl),
  ),
)

pub without_options : IsCommand (codes "run" ∷ []) (Run default_options)
without_options = (refl, (nothing, ([], (refl, refl)), default_values))
