-- Two restarts of one flash erase its pages alike; and each act of a mote leaves as many counts of erases as there are.
use Rattle.std.proofs.Common.{◌≡◌, ℕ, Bool, true, false, if◌then◌else◌, List, [], ◌∷◌, length, slice_index, refl, sym, ap, ◌∙◌, subst}
use Rattle.std.specs.Prelude.{Some}
use Rattle.std.proofs.lemmas.List.{length-set}
use Rattle.flash_words.specs.Memory.{Memory}
use Rattle.flash_words.specs.Operations.{Operation, Erase, Program, fails, left_by_refusal, next_op, operated, operated_page, Performed, perform}
use Rattle.flash_words.specs.Pages.{raised}
use Rattle.mote_core.specs.declared.mote.Mote.{Mote}
use Rattle.theorem_reader.specs.Acts.{Act, Step, Service, Arrival, Interrupt, Follow}
use Rattle.theorem_reader.specs.Wear.{IsSamePage}
use Rattle.theorem_reader.proofs.Erasing.{Turned, Same, Other}

-- where they leave the same words
pub erased_alike : (old new new' : Memory) (page : ℕ) → new'.words ≡ new.words → Turned old new page → Turned old new' page → slice_index new.erases page ≡ slice_index new'.erases page
erased_alike old new new' page same (Same still count) (Same still' count') = count ∙ sym count'
erased_alike old new new' page same (Same still count) (Other differs' count') = absurd (differs' (subst (λ words. IsSamePage old.words words page) (sym same) still))
erased_alike old new new' page same (Other differs count) (Same still' count') = absurd (differs (subst (λ words. IsSamePage old.words words page) same still'))
erased_alike old new new' page same (Other differs count) (Other differs' count') = count ∙ sym count'

-- How many pages' erases are counted. ---------------------------------------------------------------------

operated_erases : (m : Memory) (operation : Operation) → length (operated m operation).erases ≡ length m.erases
operated_erases m (Erase page) = length-set m.erases page (raised (slice_index m.erases page))
operated_erases m (Program page words) = refl

performed_erases : (operations : List Operation) (m : Memory) → length (perform m operations).memory.erases ≡ length m.erases
performed_erases [] m = refl
performed_erases (operation ∷ operations) m =
    let refused : Performed = record { memory = left_by_refusal m (operated_page operation); refusal = Some (record { op = next_op m; operation = operation }) } in
    let Long : Bool → Type 0 = λ b. length (if b then refused else perform (operated m operation) operations).memory.erases ≡ length m.erases in
    elim (fails m) as Long [ true ↦ refl | false ↦ performed_erases operations (operated m operation) ∙ operated_erases m operation ]

pub acts_erases : (image : List ℕ) (quantum : ℕ) (acts : List Act) (first last : Mote) → Follow image quantum first acts last → length last.flash.erases ≡ length first.flash.erases
acts_erases image quantum [] first last same = ap (λ (m : Mote). length m.flash.erases) (sym same)
acts_erases image quantum (Step line before after ∷ acts) first last (is, act, rest) =
    acts_erases image quantum acts after last rest ∙ ap (λ (f : Memory). length f.erases) act.flash ∙ ap (λ (m : Mote). length m.flash.erases) is
acts_erases image quantum (Service line stops before after ∷ acts) first last (is, act, rest) =
    acts_erases image quantum acts after last rest ∙ ap (λ (f : Memory). length f.erases) act.flash ∙ ap (λ (m : Mote). length m.flash.erases) is
acts_erases image quantum (Arrival refused target made ops before after ∷ acts) first last (is, act, rest) =
    acts_erases image quantum acts after last rest ∙ ap (λ (f : Memory). length f.erases) (sym act.performed) ∙ performed_erases act.operations before.flash
    ∙ ap (λ (m : Mote). length m.flash.erases) is
acts_erases image quantum (Interrupt stops before after ∷ acts) first last (is, act, rest) =
    acts_erases image quantum acts after last rest ∙ ap (λ (m : Mote). length m.flash.erases) act.stays ∙ ap (λ (m : Mote). length m.flash.erases) is
