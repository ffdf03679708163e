-- What moves add to the numbers.
use Rattle.std.proofs.Common.{◌≡◌, ℕ, ◌+◌, ◌-◌, ◌≤◌, true, false, List, [], ◌∷◌, length, refl, ◌∙◌, arith, map}
use Rattle.step_laws.specs.Moves.{Inner, Plain, Serve, Move, Within, count_plain, count_serve, count_stop}
use Rattle.step_laws.specs.Numbers.{Numbers, moved, numbered}

-- in the midst of a step
pub natural_is : (rest : List Inner) (n : Numbers) → (numbered (map Within rest) n).natural ≡ n.natural + count_plain rest
unfolding moved
natural_is [] n = omega arith
natural_is (Plain line ∷ rest) n = natural_is rest (moved (Within (Plain line)) n) ∙ omega arith
natural_is (Serve line stops ∷ rest) n = natural_is rest (moved (Within (Serve line stops)) n)

pub entries_is : (rest : List Inner) (n : Numbers) → (numbered (map Within rest) n).entries ≡ n.entries + count_serve rest
unfolding moved
entries_is [] n = omega arith
entries_is (Plain line ∷ rest) n = entries_is rest (moved (Within (Plain line)) n)
entries_is (Serve line stops ∷ rest) n = entries_is rest (moved (Within (Serve line stops)) n) ∙ omega arith

-- no step begins; a service that stops takes one back
pub steps_is : (rest : List Inner) (n : Numbers) → (numbered (map Within rest) n).steps ≡ n.steps - count_stop rest
unfolding moved
steps_is [] n = omega arith
steps_is (Plain line ∷ rest) n = steps_is rest (moved (Within (Plain line)) n)
steps_is (Serve line true ∷ rest) n = steps_is rest (moved (Within (Serve line true)) n) ∙ omega arith
steps_is (Serve line false ∷ rest) n = steps_is rest (moved (Within (Serve line false)) n) ∙ omega arith

pub since_bound : (rest : List Inner) (n : Numbers) → (numbered (map Within rest) n).since ≤ n.since + count_plain rest
unfolding moved
since_bound [] n = omega arith
since_bound (Plain line ∷ rest) n = let below = since_bound rest (moved (Within (Plain line)) n) in omega arith
since_bound (Serve line stops ∷ rest) n = let below = since_bound rest (moved (Within (Serve line stops)) n) in omega arith

pub longest_bound : (rest : List Inner) (n : Numbers) (top : ℕ) → n.longest ≤ top → n.since + count_plain rest ≤ top → (numbered (map Within rest) n).longest ≤ top
unfolding moved
longest_bound [] n top before reach = before
longest_bound (Plain line ∷ rest) n top before reach = longest_bound rest (moved (Within (Plain line)) n) top (omega arith) (omega arith)
longest_bound (Serve line stops ∷ rest) n top before reach = longest_bound rest (moved (Within (Serve line stops)) n) top before (omega arith)

pub length_is : (rest : List Inner) → length rest ≡ count_plain rest + count_serve rest
length_is [] = refl
length_is (Plain line ∷ rest) = omega (arith, length_is rest)
length_is (Serve line stops ∷ rest) = omega (arith, length_is rest)

-- no later run of plain steps is longer
pub since_longest : (rest : List Inner) (n : Numbers) → n.since ≤ n.longest → (numbered (map Within rest) n).since ≤ (numbered (map Within rest) n).longest
unfolding moved
since_longest [] n low = low
since_longest (Plain line ∷ rest) n low = since_longest rest (moved (Within (Plain line)) n) (omega arith)
since_longest (Serve line stops ∷ rest) n low = since_longest rest (moved (Within (Serve line stops)) n) (omega arith)

-- no page is made, and no operation on flash is tried; nor do the numbers change that no move does
pub record SameArrivals (made tried first foreign : ℕ) (n : Numbers) : Type 0 where
  pub pages : n.pages ≡ made
  pub ops : n.ops ≡ tried
  pub began : n.began ≡ first
  pub others : n.others ≡ foreign

pub arrivals_within : (rest : List Inner) (n : Numbers) → SameArrivals n.pages n.ops n.began n.others (numbered (map Within rest) n)
unfolding moved
arrivals_within [] n = record { pages = refl; ops = refl; began = refl; others = refl }
arrivals_within (Plain line ∷ rest) n = arrivals_within rest (moved (Within (Plain line)) n)
arrivals_within (Serve line stops ∷ rest) n = arrivals_within rest (moved (Within (Serve line stops)) n)

-- no move at all changes how many pages there were at the beginning, and how many arrivals others may have made
pub unmoved : (moves : List Move) (n : Numbers) → ((numbered moves n).began ≡ n.began) × ((numbered moves n).others ≡ n.others)
unfolding moved
unmoved [] n = (refl, refl)
unmoved (Within (Plain line) ∷ moves) n = unmoved moves (moved (Within (Plain line)) n)
unmoved (move ∷ moves) n = unmoved moves (moved move n)
