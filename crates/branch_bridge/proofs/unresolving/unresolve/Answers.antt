use Rattle.std.proofs.Common.{◌≡◌, ℕ, ◌+◌, ◌-◌, ◌≤◌, arith, subst}
use Rattle.branch_bridge.proofs.UpToLaws.{UpTo, up_to_none, up_to_page, up_to_done, up_to_stopped}
use Rattle.branch_bridge.proofs.unresolving.unresolve.Goals as goal

pub pages-init : goal.pages-init
pages-init c =
    let layout = c.args.layout.now in
    let old = c.args.flash.now in
    record { start = omega arith; below = omega arith; up = subst (λ (n : ℕ). UpTo layout old old c.args.victim n) (omega arith) (up_to_none layout old c.args.victim c.requires.code) }

pub pages-preserved : goal.pages-preserved
pages-preserved c =
    let layout = c.args.layout.now in
    let at = c.pages.invariant in
    let page = c.in-Some.page in
    let start : layout.pool_first ≤ page = omega (arith, at.start, c.in-Some.ensures.range.0) in
    let before = up_to_page _ _ _ _ _ _ c.requires.right at.start c.in-Some.ensures.range.0 (omega (arith, c.in-Some.ensures.range.1)) at.up c.in-Some.ensures.lowest in
    record {
      start = omega arith;
      below = omega (arith, c.in-Some.ensures.range.1);
      up = up_to_done layout c.args.flash.now c.pages.flash c.unlink_page.new.flash c.args.victim page c.requires.right start c.in-Some.ensures.range.1 before c.in-Ok.ensures.performed;
    }

pub unlink_page-requires-clause-pool : goal.unlink_page-requires-clause-pool
unlink_page-requires-clause-pool c = record { from = omega (arith, c.pages.invariant.start, c.in-Some.ensures.range.0); to = c.in-Some.ensures.range.1 }

pub returns-in-Err : goal.returns-in-Err
returns-in-Err c =
    let layout = c.args.layout.now in
    let at = c.pages.invariant in
    let page = c.in-Some.page in
    let start : layout.pool_first ≤ page = omega (arith, at.start, c.in-Some.ensures.range.0) in
    let before = up_to_page _ _ _ _ _ _ c.requires.right at.start c.in-Some.ensures.range.0 (omega (arith, c.in-Some.ensures.range.1)) at.up c.in-Some.ensures.lowest in
    let stopped = up_to_stopped _ _ _ _ _ _ _ c.requires.right start c.in-Some.ensures.range.1 before c.in-Err.ensures.performed in
    record { performed = stopped.performed; code = stopped.code; image = stopped.same_image; entries = stopped.entries; apart = tt; same = tt; stubs = tt; uses = stopped.uses; ops = stopped.ops }

pub returns : goal.returns
returns c =
    let layout = c.args.layout.now in
    let at = c.pages.invariant in
    let whole : layout.pool_first + layout.pool_pages - layout.pool_first ≡ layout.pool_pages = omega arith in
    let up : UpTo layout c.args.flash.now c.pages.flash c.args.victim layout.pool_pages =
    rw whole at (up_to_page _ _ _ _ _ _ c.requires.right at.start at.below (omega arith) at.up c.in_default.ensures.none) in
    record {
      performed = up.performed;
      code = up.code;
      image = up.same_image;
      entries = up.entries;
      apart = λ page pool away. up.apart page pool pool.to away;
      same = up.entries_back;
      stubs = up.stubs;
      uses = up.uses;
      ops = up.ops;
    }
