use Rattle.std.proofs.Common.{◌≡◌, ℕ, List, ◌+◌, ◌*◌, arith}
use Rattle.addr_tables.proofs.ForgetLaws.{ForgetsFirst, forgets_aside, forgets_way, forgets_all}
use Rattle.addr_tables.proofs.tables.forget_each.Goals as goal

pub asides-preserved : goal.asides-preserved
asides-preserved c = record {
  forgets = forgets_aside _ _ _ _ _ c.forget_aside.ensures.size.0 (omega arith) c.asides.invariant.forgets c.forget_aside.ensures.after;
  long = λ some. c.forget_aside.ensures.size.1;
}

pub sets-preserved : goal.sets-preserved
sets-preserved c =
    let old = c.args.sram.now in
    let mid = c.forget_way.new.sram in
    let n = 32 + 2 * c.sets.set in
    let at : ℕ → List ℕ → Type 0 = λ n m. ForgetsFirst c.args.page n old m in
    let none : n ≡ n + 0 = omega arith in
    let one : n + 0 + 1 ≡ n + 1 = omega arith in
    let two : n + 1 + 1 ≡ 32 + 2 * (c.sets.set + 1) = omega arith in
    let first = forgets_way c.args.page c.sets.set 0 old c.sets.sram mid c.sets.invariant.long (omega arith) (omega arith) (rw none at c.sets.invariant.forgets) c.forget_way.ensures.after in
    let second = forgets_way _ _ _ _ _ _ c.forget_way.ensures.size.1 (omega arith) (omega arith) (rw one at first) c.forget_way-in-sets.ensures.after in
    record { forgets = rw two at second; long = c.forget_way-in-sets.ensures.size.1 }

pub returns : goal.returns
returns c =
    record { forgets = forgets_all c.args.page (32 + 2 * c.sets.set) c.args.sram.now c.sets.sram (omega arith) c.sets.invariant.forgets; size = c.sets.invariant.long }
