-- Rows of a list that is mapped or new. Assumes nothing.
use Rattle.std.proofs.Common.{◌≡◌, ℕ, zero, suc, List, [], ◌∷◌, map, get_or, replicate, sym, refl}

pub map_at : {X : Type 0} (f : X → X) (xs : List X) (i : ℕ) (d : X) → f d ≡ d → get_or (map f xs) i d ≡ f (get_or xs i d)
map_at f [] i d e = sym e
map_at f (x ∷ xs) zero d e = refl
map_at f (x ∷ xs) (suc i) d e = map_at f xs i d e

pub replicate_at : {X : Type 0} (n i : ℕ) (d : X) → get_or (replicate n d) i d ≡ d
replicate_at zero i d = refl
replicate_at (suc n) zero d = refl
replicate_at (suc n) (suc i) d = replicate_at n i d
