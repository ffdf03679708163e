-- Operations in a row.
use Rattle.std.proofs.Common.{◌≡◌, ℕ, ◌+◌, ◌*◌, ◌≤◌, Bool, true, false, List, ◌∷◌, length, Some, None, arith, sym, ap, ◌∙◌, subst}
use Rattle.std.specs.Prelude.{if◌then◌else◌}
use Rattle.base.proofs.ManyLaws.{length-many}
use Rattle.flash_words.specs.Pages.{page_words, page_of, set_page, blank}
use Rattle.flash_words.specs.Memory.{Memory}
use Rattle.flash_words.specs.Operations.{fails, left_by_refusal, erased_page, programmed_page}
use Rattle.flash_words.proofs.PageLaws.{page_same, set_page_twice}
use Rattle.branch_bridge.specs.Operating.{Operation, Erase, Program, operated_page, operated, stop_at, Performed, perform, rewriting, mended}

-- one operation, refused and done
pub perform_refused : (m : Memory) (operation : Operation) (more : List Operation) → fails m ≡ true
    → perform m (operation ∷ more) ≡ record { memory = left_by_refusal m (operated_page operation); stop = Some (stop_at m operation) }
perform_refused m operation more is =
    let P : Bool → Performed = λ b. (if b then record { memory = left_by_refusal m (operated_page operation); stop = Some (stop_at m operation) } else perform (operated m operation) more) in
    ap P is

pub perform_done : (m : Memory) (operation : Operation) (more : List Operation) → fails m ≡ false → perform m (operation ∷ more) ≡ perform (operated m operation) more
perform_done m operation more is =
    let P : Bool → Performed = λ b. (if b then record { memory = left_by_refusal m (operated_page operation); stop = Some (stop_at m operation) } else perform (operated m operation) more) in
    ap P is

-- an erased page is blank
pub erased_blank : (m : Memory) (page : ℕ) → page_words * page + page_words ≤ length m.words → page_of (erased_page m page).words page ≡ blank
unfolding blank
erased_blank m page inside = page_same m.words blank page (length-many page_words 0xFFFF) inside

-- what holds of the words before and of those with the page in them holds of the words with a torn page put in
pub mended_by : (P : List ℕ → Type 0) (m : Memory) (page : ℕ) (words : List ℕ) → page_words * page + page_words ≤ length m.words → P m.words → P (set_page m.words page words)
    → P (mended (perform m (rewriting page words)).memory.words (perform m (rewriting page words)).stop)
unfolding blank
mended_by P m page words inside before after =
    let m' = erased_page m page in
    let here : P (set_page (set_page m.words page blank) page words) = subst P (sym (set_page_twice m.words blank words page (length-many page_words 0xFFFF) inside)) after in
    let refused : Performed = record { memory = left_by_refusal m page; stop = Some (stop_at m (Erase page)) } in
    let torn : Performed = record { memory = left_by_refusal m' page; stop = Some (stop_at m' (Program true page words)) } in
    let done : Performed = record { memory = programmed_page m' page words; stop = None } in
    let Q : Performed → Type 0 = λ r. P (mended r.memory.words r.stop) in
    let Inner : Bool → Type 0 = λ b. Q (if b then torn else done) in
    let Outer : Bool → Type 0 = λ b. Q (if b then refused else (if fails m' then torn else done)) in
    elim (fails m) as Outer [
      | true ↦ before
      | false ↦ elim (fails m') as Inner [
        | true ↦ here
        | false ↦ here
      ]
    ]

-- .. where all is done, those with the page in them are the words
pub rewriting_done : (m m' : Memory) (page : ℕ) (words : List ℕ) → page_words * page + page_words ≤ length m.words → perform m (rewriting page words) ≡ record { memory = m'; stop = None }
    → m'.words ≡ set_page m.words page words
unfolding blank
rewriting_done m m' page words inside performed =
    let e = erased_page m page in
    let refused : Performed = record { memory = left_by_refusal m page; stop = Some (stop_at m (Erase page)) } in
    let torn : Performed = record { memory = left_by_refusal e page; stop = Some (stop_at e (Program true page words)) } in
    let done : Performed = record { memory = programmed_page e page words; stop = None } in
    let Q : Performed → Type 0 = λ r. r ≡ record { memory = m'; stop = None } → m'.words ≡ set_page m.words page words in
    let Inner : Bool → Type 0 = λ b. Q (if b then torn else done) in
    let Outer : Bool → Type 0 = λ b. Q (if b then refused else (if fails e then torn else done)) in
    (elim (fails m) as Outer [
      | true ↦ λ is. absurd (let told : Some (stop_at m (Erase page)) ≡ None = ap (λ (r : Performed). r.stop) is in cc)
      | false ↦ elim (fails e) as Inner [
        | true ↦ λ is. absurd (let told : Some (stop_at e (Program true page words)) ≡ None = ap (λ (r : Performed). r.stop) is in cc)
        | false ↦ λ is. sym (ap (λ (r : Performed). r.memory.words) is) ∙ set_page_twice m.words blank words page (length-many page_words 0xFFFF) inside
      ]
    ]) performed

-- at most two operations are tried
pub rewriting_ops : (m : Memory) (page : ℕ) (words : List ℕ) → (perform m (rewriting page words)).memory.ops ≤ m.ops + 2
rewriting_ops m page words =
    let e = erased_page m page in
    let refused : Performed = record { memory = left_by_refusal m page; stop = Some (stop_at m (Erase page)) } in
    let torn : Performed = record { memory = left_by_refusal e page; stop = Some (stop_at e (Program true page words)) } in
    let done : Performed = record { memory = programmed_page e page words; stop = None } in
    let Q : Performed → Type 0 = λ r. r.memory.ops ≤ m.ops + 2 in
    let Inner : Bool → Type 0 = λ b. Q (if b then torn else done) in
    let Outer : Bool → Type 0 = λ b. Q (if b then refused else (if fails e then torn else done)) in
    elim (fails m) as Outer [
      | true ↦ omega arith
      | false ↦ elim (fails e) as Inner [
        | true ↦ omega arith
        | false ↦ omega arith
      ]
    ]
