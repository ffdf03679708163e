-- A page that is rewritten.
use Rattle.std.proofs.Common.{◌≡◌, ◌≢◌, ℕ, zero, suc, ◌+◌, ◌-◌, ◌*◌, ◌^◌, ◌<◌, ◌≤◌, ◌⊎◌, Bool, true, false, if◌then◌else◌, List, [], ◌∷◌, length, set, get_or, Option, Some, None, sym, ap, ◌∙◌}
use Rattle.std.proofs.Common.{arith, inl, inr}
use Rattle.std.specs.Prelude.{slice_index, slice_set}
use Rattle.std.proofs.lemmas.Bool.{cases_lt}
use Rattle.std.proofs.Math.Nat.{min-le_left}
use Rattle.flash_words.specs.Pages.{raised, set_page, blank}
use Rattle.flash_words.specs.Memory.{Memory}
use Rattle.flash_words.specs.Operations.{fails, left_by_refusal, erased_page}
use Rattle.flash_words.proofs.PageLaws.{set_page_twice}
use Rattle.flash_words.proofs.ProgramLaws.{length-blank}
use Rattle.branch_bridge.specs.declared.rewriting.ResolveStop.{ResolveStop}
use Rattle.branch_bridge.specs.Operating.{Operation, Erase, Program, operated, operated_page, Performed, perform, rewriting, stop_at}
use Rattle.branch_bridge.specs.Tried.{torn_at}

-- what is so where an operation is refused, and where it is done, is so behind it
pub one_performed : (So : Performed → Type 0) (m : Memory) (operation : Operation) (more : List Operation)
    → So (record { memory = left_by_refusal m (operated_page operation); stop = Some (stop_at m operation) }) → So (perform (operated m operation) more) → So (perform m (operation ∷ more))
one_performed So m operation more refused done =
    let Ways : Bool → Type 0 = λ b. So (if b then record { memory = left_by_refusal m (operated_page operation); stop = Some (stop_at m operation) } else perform (operated m operation) more) in
    elim (fails m) as Ways [ true ↦ refused | false ↦ done ]

-- Where an operation is refused nothing changes, or the page is blank and lacks these words; else it has them.
pub data Rewrites (old new : Memory) (page : ℕ) (words : List ℕ) (stop : Option ResolveStop) : Type 0 where
  Unerased : (refusal : ResolveStop) → stop ≡ Some refusal → new.words ≡ old.words → new.erases ≡ old.erases → Rewrites old new page words stop
  Unprogrammed : torn_at stop ≡ Some (record { page = page; words = words }) → new.words ≡ set_page old.words page blank
      → new.erases ≡ slice_set old.erases page (raised (slice_index old.erases page)) → Rewrites old new page words stop
  Whole : new.words ≡ set_page old.words page words → new.erases ≡ slice_set old.erases page (raised (slice_index old.erases page)) → Rewrites old new page words stop

pub rewrites_by : (old new : Memory) (page : ℕ) (words : List ℕ) (stop : Option ResolveStop) → 128 * page + 128 ≤ length old.words
    → perform old (rewriting page words) ≡ record { memory = new; stop = stop } → Rewrites old new page words stop
rewrites_by old new page words stop inside performed =
    let So : Performed → Type 0 = λ r. r ≡ record { memory = new; stop = stop } → Rewrites old new page words stop in
    one_performed So old (Erase page) (Program true page words ∷ [])
    (λ is. Unerased (stop_at old (Erase page)) (sym (ap (λ (r : Performed). r.stop) is)) (sym (ap (λ (r : Performed). r.memory.words) is)) (sym (ap (λ (r : Performed). r.memory.erases) is)))
    (one_performed So (erased_page old page) (Program true page words) []
    (λ is. Unprogrammed (sym (ap (λ (r : Performed). torn_at r.stop) is)) (sym (ap (λ (r : Performed). r.memory.words) is)) (sym (ap (λ (r : Performed). r.memory.erases) is)))
    (λ is. Whole (sym (ap (λ (r : Performed). r.memory.words) is) ∙ set_page_twice old.words blank words page length-blank inside) (sym (ap (λ (r : Performed). r.memory.erases) is)))) performed

-- .. where none was refused
pub rewriting_erases : (old new : Memory) (page : ℕ) (words : List ℕ) → 128 * page + 128 ≤ length old.words → perform old (rewriting page words) ≡ record { memory = new; stop = None }
    → new.erases ≡ slice_set old.erases page (raised (slice_index old.erases page))
rewriting_erases old new page words inside performed = elim (rewrites_by old new page words None inside performed) [
  | Unerased refusal is same erases ↦ absurd (let e : None ≡ Some refusal = is in cc)
  | Unprogrammed lacks is erases ↦ absurd (let e : None ≡ Some _ = lacks in cc)
  | Whole is erases ↦ erases
]

-- a word of another page
pub beside : (page own k : ℕ) → k < 128 → page ≢ own → (128 * page + k < 128 * own) ⊎ (128 * own + 128 ≤ 128 * page + k)
beside page own k below apart = elim (cases_lt page own) [ inl less ↦ inl (omega (arith, less, below)) | inr more ↦ inr (omega (arith, more, apart)) ]

bumped : (xs : List ℕ) (i v : ℕ) → v ≤ get_or xs i 0 + 1 → get_or (set xs i v) i 0 ≤ get_or xs i 0 + 1
bumped [] i v most = omega arith
bumped (x ∷ xs) zero v most = most
bumped (x ∷ xs) (suc i) v most = bumped xs i v most

-- so it is erased once more at most
pub erased_more : (old new : Memory) (page : ℕ) → new.erases ≡ slice_set old.erases page (raised (slice_index old.erases page)) → slice_index new.erases page ≤ slice_index old.erases page + 1
erased_more old new page erases =
    omega (arith, ap (λ es. slice_index es page) erases, bumped old.erases page (raised (slice_index old.erases page)) (min-le_left (slice_index old.erases page + 1) (2 ^ 32 - 1)))
