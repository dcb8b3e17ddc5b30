-- A text that grows by a part for each element of a list. Assumes nothing.
use Rattle.std.proofs.Common.{◌≡◌, ℕ, ◌+◌, ◌<◌, ◌≤◌, List, [], ◌∷◌, ◌++◌, length, get_or, drop, sym, ap, ◌∙◌}
use Rattle.std.proofs.lemmas.List.{append_assoc, at_drop_more, at_drop_all}

-- f tells the elements from k on, and g those behind k
module _ {X : Type 0} (f g : List X → List ℕ) (xs : List X) (k : ℕ) (was all : List ℕ) (so_far : was ++ f (drop k xs) ≡ all) where
  pub grown : (d : X) (part after : List ℕ) → k < length xs → f (get_or xs k d ∷ drop (k + 1) xs) ≡ part ++ g (drop (k + 1) xs) → after ≡ was ++ part
      → after ++ g (drop (k + 1) xs) ≡ all
  grown d part after h p q =
      ap (λ (z : List ℕ). z ++ g (drop (k + 1) xs)) q
      ∙ append_assoc was part (g (drop (k + 1) xs))
      ∙ ap (λ (z : List ℕ). was ++ z) (sym (at_drop_more f xs k d h ∙ p))
      ∙ so_far

  pub whole : length xs ≤ k → was ++ f [] ≡ all
  whole h = ap (λ (z : List ℕ). was ++ z) (sym (at_drop_all f xs k h)) ∙ so_far
