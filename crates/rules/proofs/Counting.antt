-- What a count of 0 or 1 says of the rows. Assumes nothing.
use Rattle.std.proofs.Common.{◌≡◌, ℕ, zero, suc, ◌≤◌, Bool, true, false, cond, List, [], ◌∷◌, get_or, refl, ap, arith}
use Rattle.std.proofs.lemmas.Bool.{both_ways}
use Rattle.tables.specs.Searches.{count}

-- one that passes counts
counted : {X : Type 0} (test : X → Bool) (x : X) → test x ≡ true → ◌≡◌ {A = ℕ} (cond (test x) 1 0) 1
counted test x e = ap (λ (b : Bool). cond b 1 0) e

-- a row that passes makes the count positive
pub some_counted : {X : Type 0} (test : X → Bool) (xs : List X) (i : ℕ) (d : X) → test d ≡ false → test (get_or xs i d) ≡ true → 1 ≤ count test xs
some_counted test [] i d f t = absurd (both_ways (test d) f t)
some_counted test (x ∷ xs) zero d f t = omega (arith, counted test x t)
some_counted test (x ∷ xs) (suc i) d f t = omega (arith, some_counted test xs i d f t)

-- two that pass are one, where one at most is counted
pub one_counted : {X : Type 0} (test : X → Bool) (xs : List X) (i j : ℕ) (d : X) → test d ≡ false → count test xs ≤ 1 → test (get_or xs i d) ≡ true → test (get_or xs j d) ≡ true → i ≡ j
one_counted test [] i j d f c s t = absurd (both_ways (test d) f s)
one_counted test (x ∷ xs) zero zero d f c s t = refl
one_counted test (x ∷ xs) zero (suc j) d f c s t = absurd (omega (arith, counted test x s, some_counted test xs j d f t))
one_counted test (x ∷ xs) (suc i) zero d f c s t = absurd (omega (arith, counted test x t, some_counted test xs i d f s))
one_counted test (x ∷ xs) (suc i) (suc j) d f c s t = ap suc (one_counted test xs i j d f (omega arith) s t)
