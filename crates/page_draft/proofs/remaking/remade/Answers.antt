use Rattle.std.proofs.Common.{◌≡◌, ℕ, ◌+◌, ◌-◌, List, suc, length, arith, ap, ◌∙◌}
use Rattle.arrayvec.specs.ArrayVec.{ArrayVec}
use Rattle.page_draft.specs.declared.instruction.Instruction.{Instruction}
use Rattle.page_draft.specs.declared.draft.Draft.{Draft}
use Rattle.page_draft.specs.Remaking.{IsWalked, HasTaken}
use Rattle.page_draft.proofs.RunLaws.{closing_at-range}
use Rattle.page_draft.proofs.StartLaws.{length-starts}
use Rattle.page_draft.proofs.PageWords.{small_starts}
use Rattle.page_draft.proofs.RemakeLaws.{IsWhole, walked_first, walked_more, refused, ended, whole, too_large, whole_page, whole_pieces}
use Rattle.page_draft.proofs.remaking.remade.Goals as goal

-- the instructions that were taken, and the last one behind them
all_taken : (image : List ℕ) (t count n last pc : ℕ) (old new : Draft) (here : Instruction) → n ≡ last → IsWalked image t count n pc old → HasTaken image t count pc old new here
    → IsWhole image t last new here
all_taken image t count n last pc old new here is walked taken = whole _ _ _ _ _ _ _ _ (rw is at walked) taken

pub walk-init : goal.walk-init
walk-init g c = walked_first _ _ _ _ (omega (arith, c.requires.few, c.new-draft.ensures.size)) c.new-draft.ensures.entries c.new-draft.ensures.code c.new-draft.ensures.size

pub take-requires-clause-more : goal.take-requires-clause-more
take-requires-clause-more g c =
    omega (arith, ap length c.walk.invariant.entries, length-starts (g.I.ImageWords.words c.args.image.now) c.args.t (c.walk._taken - 1), c.walk-test.true, c.walk.auto._taken)

pub returns-in_err-here : goal.returns-in_err-here
returns-in_err-here g c =
    let none = refused _ _ _ _ _ _ _ (omega (arith, c.requires.some)) (omega (arith, c.walk-test.true)) c.walk.invariant c.in_err-here.ensures.taken in
    record { page = rw c.from_residual.ensures none }

pub returns-then-here : goal.returns-then-here
returns-then-here g c =
    record { page = ended _ _ _ _ _ _ _ _ _ (omega (arith, c.walk-test.true, c.walk.auto._taken)) c.walk.invariant c.in_ok-here.ensures.taken c.if-here.true }

pub walk-preserved : goal.walk-preserved
walk-preserved g c =
    let more : suc (c.walk._taken - 1) ≡ c.walk._taken + 1 - 1 = omega (arith, c.walk.auto._taken) in
    rw more at (walked_more _ _ _ _ _ _ _ _ c.walk.invariant c.in_ok-here.ensures.taken c.if-here.false)

pub take-requires-2-clause-more : goal.take-requires-2-clause-more
take-requires-2-clause-more g c =
    omega (arith, ap length c.walk.invariant.entries, length-starts (g.I.ImageWords.words c.args.image.now) c.args.t (c.walk._taken - 1), c.walk-test.false, c.walk.auto._taken-end, c.requires.some)

pub returns-in_err-last : goal.returns-in_err-last
returns-in_err-last g c =
    let none = refused _ _ _ _ _ _ _ (omega (arith, c.requires.some)) (omega (arith, c.walk.auto._taken-end, c.requires.some)) c.walk.invariant c.in_err-last.ensures.taken in
    record { page = rw c.from_residual-in_err-last.ensures none }

pub overflow_add-count-3 : goal.overflow_add-count-3
overflow_add-count-3 g c =
    omega (arith, (closing_at-range (g.I.ImageWords.words c.args.image.now) c.in_ok-last.last.pc).1, c.in_ok-last.ensures.taken.read.closing_size, c.in_ok-last.ensures.taken.room)

pub returns-then-count-draft-gt-PAGE_WORDS : goal.returns-then-count-draft-gt-PAGE_WORDS
returns-then-count-draft-gt-PAGE_WORDS g c =
    let all = all_taken _ _ _ _ (c.args.count - 1) _ _ _ _ (omega (arith, c.walk-test.false, c.walk.auto._taken-end, c.requires.some)) c.walk.invariant c.in_ok-last.ensures.taken in
    record { page = too_large _ _ c.args.count _ _ _ (omega (arith, c.requires.some)) all (omega (arith, c.if-count-draft-gt-PAGE_WORDS.true)) }

pub pieces-requires-clause-fits : goal.pieces-requires-clause-fits
pieces-requires-clause-fits g c =
    let all = all_taken _ _ _ _ (c.args.count - 1) _ _ _ _ (omega (arith, c.walk-test.false, c.walk.auto._taken-end, c.requires.some)) c.walk.invariant c.in_ok-last.ensures.taken in
    let entries = ap (λ (e : ArrayVec ℕ). length e.items) c.close.ensures.entries in
    omega (
      arith,
      entries,
      ap length all.entries,
      length-starts (g.I.ImageWords.words c.args.image.now) c.args.t (suc (c.args.count - 1)),
      c.close.ensures.size,
      c.if-count-draft-gt-PAGE_WORDS.false,
      c.requires.some,
    )

pub pieces-requires-clause-small : goal.pieces-requires-clause-small
pieces-requires-clause-small g c =
    let all = all_taken _ _ _ _ (c.args.count - 1) _ _ _ _ (omega (arith, c.walk-test.false, c.walk.auto._taken-end, c.requires.some)) c.walk.invariant c.in_ok-last.ensures.taken in
    rw (ap (λ (e : ArrayVec ℕ). e.items) c.close.ensures.entries ∙ all.entries) (small_starts _ _ _ (omega (arith, all.sized, c.if-count-draft-gt-PAGE_WORDS.false)))

pub returns : goal.returns
returns g c =
    let all = all_taken _ _ _ _ (c.args.count - 1) _ _ _ _ (omega (arith, c.walk-test.false, c.walk.auto._taken-end, c.requires.some)) c.walk.invariant c.in_ok-last.ensures.taken in
    record {
      page = (
        whole_page _ _ c.args.count _ _ _ (omega (arith, c.requires.some)) all (omega (arith, c.if-count-draft-gt-PAGE_WORDS.false)),
        c.pieces.ensures.pieces ∙ whole_pieces _ _ _ c.take-2.new.draft c.close.new.self c.in_ok-last.last all c.close.ensures.entries c.close.ensures.code,
      );
    }
