-- The lines that are read so far, and what reading one more makes of them.
use Rattle.std.proofs.Common.{◌≡◌, ℕ, ◌+◌, ◌⊎◌, arith, List, [], ◌∷◌, ◌++◌, length, Result, Ok, Err, ap, ap₂, ◌∙◌, sym, refl, inl, inr}
use Rattle.std.specs.Prelude.{IsErrAnd, Some}
use Rattle.std.proofs.lemmas.List.{append_assoc, length_push}
use Rattle.text_lines.specs.Lines.{lines_of}
use Rattle.text_lines.specs.Faults.{first_fault}
use Rattle.text_lines.proofs.FaultLaws.{after_both, fault_here, none_more}
use Rattle.input_script.proofs.Judgement.{never_both, one_fault}
use Rattle.input_script.specs.declared.fault.ScriptFault.{ScriptFault}
use Rattle.input_script.specs.declared.fault.ScriptError.{ScriptError}
use Rattle.input_script.specs.declared.fault.ScriptError.TheVariants.{Bad, NoMemory}
use Rattle.input_script.specs.Script.{Schedule, IsScript, NeedsMemory, after, fault_at, nothing, script_fault, size}
use Rattle.input_script.specs.Judging.{IsDone, IsRefusal, Takes}

-- one line more
pub done_take : (lines rest : List (List ℕ)) (line : List ℕ) (number other : ℕ) (before behind : Schedule) → IsDone lines number before (line ∷ rest) → Takes line before behind → other ≡ number + 1
    → IsDone lines other behind rest
done_take lines rest line number other before behind done takes next = record {
  front = done.front ++ line ∷ [];
  cut = done.cut ∙ sym (append_assoc done.front (line ∷ []) rest);
  number_is = next ∙ ap (λ n. n + 1) done.number_is ∙ sym (length_push done.front line);
  sound = none_more fault_at after 1 nothing done.front line done.sound (ap (λ s. fault_at s line) (sym done.schedule_is) ∙ takes.sound);
  schedule_is = takes.behind_is ∙ ap (λ s. after s line) done.schedule_is ∙ sym (after_both fault_at after nothing done.front (line ∷ []));
}

-- a line with a fault is the first
pub done_fault : (lines rest : List (List ℕ)) (line : List ℕ) (number : ℕ) (before : Schedule) (fault : ScriptFault) → IsDone lines number before (line ∷ rest) → fault_at before line ≡ Some fault
    → first_fault fault_at after 1 nothing lines ≡ Some (number + 1, fault)
done_fault lines rest line number before fault done is =
    let same : 1 + length done.front ≡ number + 1 = omega (arith, done.number_is) in
    ap (first_fault fault_at after 1 nothing) done.cut
    ∙ fault_here fault_at after 1 nothing done.front rest line fault done.sound (ap (λ s. fault_at s line) (sym done.schedule_is) ∙ is)
    ∙ ap (λ n. Some (n, fault)) same

-- What an error says of the text. ------------------------------------------------------------------------

-- the error names the text's fault, or there is a line for which memory was wanted
abbrev pub Tells : List ℕ → ScriptError → Type 0
Tells text NoMemory = NeedsMemory text
Tells text (Bad line fault) = script_fault text ≡ Some (line, fault)

pub refusal_tells : (text : List ℕ) (rest : List (List ℕ)) (line : List ℕ) (number other : ℕ) (before : Schedule) (error : ScriptError) → IsDone (lines_of text) number before (line ∷ rest)
    → IsRefusal error other line before → other ≡ number + 1
    → Tells text error
refusal_tells text rest line number other before NoMemory done refusal next =
    let more = done_take (lines_of text) rest line number other before (after before line) done (record { sound = refusal.0; behind_is = refl }) next in
    record { front = more.front; rest = rest; cut = more.cut; sound = more.sound; some = omega (arith, refusal.1, ap size more.schedule_is) }
refusal_tells text rest line number other before (Bad at fault) done refusal next =
    done_fault (lines_of text) rest line number before fault done refusal.1 ∙ ap (λ n. Some (n, fault)) (sym (refusal.0 ∙ next))

pub refused_text : (text : List ℕ) (error : ScriptError) → Tells text error → (schedule : Schedule) → IsScript text schedule → error ≡ NoMemory
refused_text text NoMemory tells schedule script = refl
refused_text text (Bad line fault) tells schedule script = absurd (never_both text schedule line fault script tells)

pub refused_as : (text : List ℕ) (error : ScriptError) → Tells text error → (line : ℕ) (fault : ScriptFault) → script_fault text ≡ Some (line, fault) → (error ≡ Bad line fault) ⊎ (error ≡ NoMemory)
refused_as text NoMemory tells line fault bad = inr refl
refused_as text (Bad at other) tells line fault bad =
    let same = one_fault text at line other fault tells bad in
    inl (ap₂ (λ n f. Bad n f) same.0 same.1)

-- an answer that passes an error on
pub err_is : {T : Type 0} (result : Result T ScriptError) (error : ScriptError) → IsErrAnd result (λ e. e ≡ error) → result ≡ Err error
err_is (Ok x) error passed = absurd passed
err_is (Err e) error passed = ap (λ x. Err x) passed
