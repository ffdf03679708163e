-- Texts that are put one after another.
use Rattle.std.proofs.Common.{ℕ, ◌≤◌, List, ◌++◌, take, append_assoc, refl, sym, subst, arith, inl, inr}
use Rattle.std.specs.Prelude.{Option}
use Rattle.std.specs.Io.KnownBytes.{Appends}
use Rattle.byte_streams.specs.Faults.{Rose}
use Rattle.byte_streams.specs.Streams.{CutShort}
use Rattle.byte_streams.proofs.KnownBytes.{appends-both, cut_behind}
use Rattle.cli_words.specs.declared.status.Status.{Status}
use Rattle.cli_words.specs.declared.status.Status.TheVariants as status
use Rattle.cli_words.specs.Stream.{Stream}
use Rattle.tkernel_cli.specs.Runs.{Says, Begins}
use Rattle.printed_text.proofs.Gathered.{cut_less}

-- a text said behind one that went out before
pub rose_on : (before mid now : ℕ) → before ≤ mid → Rose mid now → Rose before now
rose_on before mid now later rose = omega arith

pub said_on : (own told : Status) (before mid now : Stream) (lines text : List ℕ) → Appends before.told mid.told lines → before.faults ≤ mid.faults → Says own text mid now told
    → Says own (lines ++ text) before now told
said_on own told before mid now lines text put later said = elim said [
  | inl whole ↦ inl (whole.0, appends-both before.told mid.told now.told lines text put whole.1)
  | inr cut ↦ inr (cut.0, rose_on before.faults mid.faults now.faults later cut.1, cut_behind before.told mid.told now.told lines text put cut.2)
]

-- that one went out whole
pub begun_on : (own told : Status) (before : Option (List ℕ)) (mid now : Stream) (lines text : List ℕ) → Appends before mid.told lines → Says own text mid now told → Begins before now.told lines
begun_on own told before mid now lines text put said = elim said [
  | inl whole ↦ (text, appends-both before mid.told now.told lines text put whole.1)
  | inr cut ↦ (take cut.2.0 text, appends-both before mid.told now.told lines (take cut.2.0 text) put cut.2.2)
]

-- also where what is behind it is cut short
pub begun_cut : (before mid now : Option (List ℕ)) (front text : List ℕ) → Appends before mid front → CutShort mid now text → Begins before now front
begun_cut before mid now front text put cut = (take cut.0 text, appends-both before mid now front (take cut.0 text) put cut.2)

-- and where what is behind it begins with a text
pub begun_behind : (before mid now : Option (List ℕ)) (front text : List ℕ) → Appends before mid front → Begins mid now text → Begins before now (front ++ text)
begun_behind before mid now front text put begun =
    (begun.0, subst (Appends before now) (sym (append_assoc front text begun.0)) (appends-both before mid now front (text ++ begun.0) put begun.1))

-- or behind one that was cut short
pub said_cut : (own : Status) (before now : Stream) (lines text : List ℕ) → Rose before.faults now.faults → CutShort before.told now.told lines → Says own (lines ++ text) before now status.WriteFault
said_cut own before now lines text rose cut = inr (refl, rose, cut_less before.told now.told lines text cut)
