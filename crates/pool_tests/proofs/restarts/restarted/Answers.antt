use Rattle.std.proofs.Common.{◌≡◌, ℕ, ◌<◌, ◌≤◌, true, ap, ◌∙◌, arith}
use Rattle.std.specs.Prelude.{nat_le, if◌then◌else◌}
use Rattle.std.proofs.lemmas.Bool.Decides.{nat_tests}
use Rattle.flash_words.specs.Layouts.{layout_of, most_image_pages}
use Rattle.flash_words.specs.declared.layout.Layout.{Layout}
use Rattle.page_index.specs.Maps.{IsPool}
use Rattle.pool_tests.proofs.restarts.restarted.Goals as goal

-- the pool of a short image begins with page 128
first_pages : (layout : Layout) (n page : ℕ) → layout ≡ layout_of n → n ≤ 16384 → 128 ≤ page → page < 131 → IsPool layout page
first_pages layout n page is short low high =
    let test : nat_le n 16384 ≡ true = grind (arith, nat_tests) in
    let first : layout.pool_first ≡ 128 = ap (λ (l : Layout). l.pool_first) is ∙ ap (λ b. if b then 128 else most_image_pages) test in
    let pages : layout.pool_pages ≡ 352 = ap (λ (l : Layout). l.pool_pages) is ∙ ap (λ b. if b then 352 else 288) test in
    record { from = omega arith; to = omega arith }

pub restart-told-requires-clause-around : goal.restart-told-requires-clause-around
restart-told-requires-clause-around c =
    let layout = c.of-layout.result in
    let image = c.args.image.now in
    let right = c.of-layout.ensures.right in
    let pool : (page : ℕ) → 128 ≤ page → page < 131 → IsPool layout page = λ page low high. first_pages _ _ page c.of-layout.ensures.value (omega arith) low high in
    c.tear-3.ensures.around layout image right (pool 130 (omega arith) (omega arith)) (c.tear-2.ensures.around layout image right (pool 129 (omega arith) (omega arith))
    (c.tear.ensures.around layout image right (pool 128 (omega arith) (omega arith)) c.in_ok-flash.ensures.around))
