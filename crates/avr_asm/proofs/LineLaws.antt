-- A line with a colon, and one without.
use Rattle.std.proofs.Common.{◌≡◌, ℕ, List, ◌∷◌, ◌++◌, ap, refl, sym, ◌∙◌}
use Rattle.std.specs.Prelude.{IfOk, IfSome, None, Ok, Err, Result}
use Rattle.avr_asm.specs.declared.fault.AsmFault.{AsmFault}
use Rattle.avr_asm.specs.declared.line.Line.{Line}
use Rattle.text_lines.specs.Cutting.{Lacks}
use Rattle.avr_asm.specs.Cuts.{before, trimmed}
use Rattle.avr_asm.specs.SourceLines.{behind_label, code_of, label_text, line_of, with_label, IsNamed}
use Rattle.avr_asm.specs.Operands.{name_of}
use Rattle.avr_asm.proofs.CutLaws.{before_cut, behind_cut, some_cut, none_lacking}

-- the label of a line with a colon is what stands before the colon
pub named : (line code front rest : List ℕ) (result : Result Line AsmFault) → code ≡ code_of line → Lacks 58 front → code ≡ front ++ 58 ∷ rest
    → IfOk result (λ l. IfSome l.label (λ name. name.items ≡ front)) → IfOk result (λ l. IsNamed line l.label)
named line code front rest result is lacks cut has =
    let same : front ≡ label_text line = sym (ap (before 58) (sym is ∙ cut) ∙ before_cut 58 front rest lacks) in
    rw same at has

-- a line without one has no label
pub unnamed : (line : List ℕ) (result : Result Line AsmFault) → IfOk result (λ l. l.label ≡ None) → IfOk result (λ l. IsNamed line l.label)
unnamed line (Ok l) none = rw none tt
unnamed line (Err fault) none = tt

pub labelled : (line code front rest : List ℕ) → code ≡ code_of line → Lacks 58 front → code ≡ front ++ 58 ∷ rest → with_label (name_of front) (trimmed rest) ≡ line_of line
labelled line code front rest is lacks cut =
    rw (sym is ∙ cut, some_cut 58 front rest lacks, before_cut 58 front rest lacks, behind_cut 58 front rest lacks) refl

pub unlabelled : (line code : List ℕ) → code ≡ code_of line → Lacks 58 code → behind_label None code ≡ line_of line
unlabelled line code is lacks = rw (sym is, none_lacking 58 code lacks) refl
