-- The words of a page that is made.
use Rattle.std.proofs.Common.{◌≡◌, ℕ, ◌+◌, ◌-◌, ◌/◌, List, [], ◌∷◌, ◌++◌, length, map, drop, refl, ap, ◌∙◌}
use Rattle.std.specs.Prelude.{replicate}
use Rattle.std.proofs.lemmas.List.{drop-replicate}
use Rattle.base.specs.Lists.{many}
use Rattle.flash_words.specs.Pages.{page_words}
use Rattle.nat_template.specs.declared.piece.Piece.{Piece}
use Rattle.nat_template.specs.declared.piece.Piece.TheVariants.{Fixed}
use Rattle.nat_template.specs.Stubs.{words_of}
use Rattle.page_draft.specs.Drafts.{draft_pieces}
use Rattle.page_draft.proofs.PieceLaws.{words_of-append}

pub erased_rest : (n : ℕ) → drop n (replicate 128 0xFFFF) ≡ many (128 - n) 0xFFFF
unfolding many
erased_rest n = drop-replicate n 128 0xFFFF

map_words_of : (more : ℕ) (entries : List ℕ) → words_of (map (λ entry. Fixed (entry + more)) entries) ≡ map (λ entry. entry + more) entries
map_words_of more [] = refl
map_words_of more (entry ∷ entries) = ap (λ words. (entry + more) ∷ words) (map_words_of more entries)

-- the words of a draft's pieces
pub draft_words : (t : ℕ) (entries : List ℕ) (body : List Piece) → words_of (draft_pieces t entries body) ≡ (t / page_words) ∷ length entries ∷ map (λ entry. entry + (2 + length entries)) entries
    ++ words_of body
draft_words t entries body =
    let more = 2 + length entries in
    ap (λ words. (t / page_words) ∷ length entries ∷ words) (words_of-append (map (λ entry. Fixed (entry + more)) entries) body ∙ ap (λ words. words ++ words_of body) (map_words_of more entries))
