-- The words that numbers choose, as the generator writes them, and how many words a program has.
use Rattle.std.proofs.Common.{◌≡◌, ℕ, zero, suc, ◌+◌, ◌-◌, ◌<◌, ◌≤◌, List, [], ◌∷◌, ◌++◌, length, refl, ap, arith}
use Rattle.std.proofs.lemmas.List.{append_assoc, length-append, append-nil}
use Rattle.avr_isa.specs.Encoding.{first_word}
use Rattle.base.specs.Sequences.{next_number}
use Rattle.program_generator.specs.Generated.{ending, generated, instruction_of, words_from}

-- No number chooses no word.
pub words_from-none : (x : ℕ) → words_from x 0 ≡ []
unfolding words_from
words_from-none x = refl

-- Of suc n numbers, the first chooses the first word.
pub words_from-suc : (x n : ℕ) → words_from x (suc n) ≡ first_word (instruction_of (next_number x)) ∷ words_from (next_number x) n
unfolding words_from
words_from-suc x n = refl

-- Where numbers are left, the next number's word behind those that stand, and then the rest, are what was wanted.
pub words_from_next : (done : List ℕ) (x i n : ℕ) → i < n → (done ++ first_word (instruction_of (next_number x)) ∷ []) ++ words_from (next_number x) (n - (i + 1)) ≡ done ++ words_from x (n - i)
words_from_next done x i n below =
    let e : n - i ≡ suc (n - (i + 1)) = omega arith in
    rw (e, append_assoc, words_from-suc) refl

-- Where no number is left, no word is wanted.
pub words_from_end : (done : List ℕ) (x i n : ℕ) → n ≤ i → done ++ words_from x (n - i) ≡ done
words_from_end done x i n above =
    let e : n - i ≡ 0 = omega arith in
    rw (e, words_from-none) (append-nil done)

-- n numbers choose n words.
length_words_from : (x n : ℕ) → length (words_from x n) ≡ n
unfolding words_from
length_words_from x zero = refl
length_words_from x (suc n) = ap suc (length_words_from (next_number x) n)

-- A program is its first word, the chosen ones, and the ending.
pub generated_parts : (seed : ℕ) → ((0xEC88 ∷ []) ++ words_from seed 8000) ++ ending ≡ generated seed
unfolding generated
generated_parts seed = refl

-- The number of words of a program.
pub length_generated : (seed : ℕ) → length (generated seed) ≡ 8014
length_generated seed =
    let parts = ap length (generated_parts seed) in
    omega (arith, parts, length-append (0xEC88 ∷ []) (words_from seed 8000), length-append ((0xEC88 ∷ []) ++ words_from seed 8000) ending, length_words_from seed 8000)
