-- The pieces of a draft are those of its run's page.
use Rattle.std.proofs.Common.{◌≡◌, ℕ, suc, ◌+◌, ◌*◌, ◌-◌, ◌/◌, ◌%◌, ◌<◌, ◌≤◌, List, [], ◌∷◌, ◌++◌, length, get_or, map, arith, refl, sym, ap, ap₂, ◌∙◌}
use Rattle.std.specs.Prelude.{All}
use Rattle.std.specs.List.{range_with_len}
use Rattle.std.proofs.lemmas.Simd.{map-map}
use Rattle.std.proofs.lemmas.List.FromFn.{get_or-map-range_with_len}
use Rattle.flash_words.specs.Pages.{page_words}
use Rattle.nat_template.specs.declared.piece.Piece.TheVariants.{Fixed}
use Rattle.nat_template.specs.declared.piece.Piece.{Piece}
use Rattle.page_draft.specs.Standing.{size}
use Rattle.page_draft.specs.Runs.{address, templates}
use Rattle.page_draft.specs.CodePages.{map_word, map_words, code, page_pieces}
use Rattle.page_draft.specs.Drafts.{starts, draft_pieces}
use Rattle.page_draft.proofs.RunLaws.{templates-rise}
use Rattle.page_draft.proofs.StartLaws.{length-starts}

map_alike : (f g : ℕ → ℕ) (xs : List ℕ) → ((x : ℕ) → f x ≡ g x) → map f xs ≡ map g xs
map_alike f g [] same = refl
map_alike f g (x ∷ xs) same = ap₂ (λ y ys. y ∷ ys) (same x) (map_alike f g xs same)

-- each entry of the draft, raised by the words in front of the code, is the map's
entries_raised : (image : List ℕ) (t n : ℕ) → map (λ entry. entry + (2 + n)) (starts image t n) ≡ map_words image t n
unfolding starts map_words
entries_raised image t n =
    map-map (λ entry. entry + (2 + n)) (λ i. 256 * (address image t i % page_words) + size (templates image t i)) (range_with_len 0 n)
    ∙ map_alike _ (map_word image t n) (range_with_len 0 n) (λ i. omega arith)

pub draft_page : (image entries : List ℕ) (body : List Piece) (t last : ℕ) → entries ≡ starts image t (suc last) → body ≡ code image t last → draft_pieces t entries body ≡ page_pieces image t last
unfolding page_pieces
draft_page image entries body t last same same' =
    let n = suc last in
    let count : length entries ≡ n = ap length same ∙ length-starts image t n in
    let row : (m : ℕ) (xs : List ℕ) → map (λ entry. Fixed (entry + (2 + m))) xs ≡ map Fixed (map (λ entry. entry + (2 + m)) xs) = λ m xs. sym (map-map Fixed (λ entry. entry + (2 + m)) xs) in
    let raised = ap₂ (λ m xs. map (λ entry. Fixed (entry + (2 + m))) xs) count same ∙ row n (starts image t n) ∙ ap (map Fixed) (entries_raised image t n) in
    let P : ℕ → List Piece → List Piece → List Piece = λ m map_part back. Fixed (t / page_words) ∷ Fixed m ∷ map_part ++ back in
    ap (λ m. P m (map (λ entry. Fixed (entry + (2 + length entries))) entries) body) count ∙ ap₂ (P n) raised same'

pub small_starts : (image : List ℕ) (t last : ℕ) → size (templates image t (suc last)) ≤ page_words → All (λ entry. entry < 65536 - 128) (starts image t (suc last))
unfolding starts
small_starts image t last fits = λ k d below.
    let start : ℕ → ℕ = λ i. 256 * (address image t i % page_words) + size (templates image t i) in
    let near : k < suc last = omega (arith, length-starts image t (suc last)) in
    let item : get_or (starts image t (suc last)) k d ≡ start k = get_or-map-range_with_len start 0 (suc last) k k d near (omega arith) in
    let rise = templates-rise image t k (suc last) near in
    omega arith
