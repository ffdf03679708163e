use Rattle.std.proofs.Common.{List, ℕ, [], ◌∷◌, arith}
use Rattle.pool_tests.proofs.restarts.restarted_in.Goals as goal

pub restart-told-requires-clause-around : goal.restart-told-requires-clause-around
restart-told-requires-clause-around c =
    let layout = c.args.layout.now in
    let image : List ℕ = 0xC001 ∷ 0x0000 ∷ 0xCFFD ∷ 0xCFFF ∷ [] in
    let right = c.requires.right in
    c.tear-2.ensures.around layout image right (record { from = omega arith; to = omega arith })
    (c.tear.ensures.around layout image right (record { from = omega arith; to = omega arith }) c.in_ok-flash.ensures.around)
