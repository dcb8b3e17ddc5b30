-- Counting and finding by the library's words. Assumes nothing.
use Rattle.std.proofs.Common.{◌≡◌, ℕ, suc, ◌+◌, Bool, true, false, cond, not, Some, None, ltb, List, [], ◌∷◌, length, filter, refl, ap, arith}
use Rattle.std.specs.List.{position_or_len}
use Rattle.std.proofs.lemmas.Bool.Decides.{nat_tests}
use Rattle.logins.specs.Rows.{SoundRows}
use Rattle.logins.specs.declared.rows.LoginRow.{LoginRow}
use Rattle.tables.specs.Records.{mended}
use Rattle.tables.proofs.Setting.{mended_sound}
use Rattle.tables.specs.Searches.{count, first}

pub counted : {X : Type 0} (test : X → Bool) (xs : List X) → length (filter test xs) ≡ count test xs
counted test [] = refl
counted test (x ∷ xs) = step (test x) (counted test xs)
  where
    step : (b : Bool) → length (filter test xs) ≡ count test xs → length (cond b (x ∷ filter test xs) (filter test xs)) ≡ cond b 1 0 + count test xs
    step true e = omega arith
    step false e = omega arith

-- sound rows are counted as they stand
pub counted_sound : (test : LoginRow → Bool) (rows : List LoginRow) → SoundRows rows → length (filter (λ r. test (mended r)) rows) ≡ count test rows
counted_sound test [] all = refl
counted_sound test (r ∷ rows) all = step (test (mended r)) (test r) (ap test (mended_sound r (all 0))) (counted_sound test rows (λ k. all (suc k)))
  where
    step : (a b : Bool) → a ≡ b → length (filter (λ r. test (mended r)) rows) ≡ count test rows
        → length (cond a (r ∷ filter (λ r. test (mended r)) rows) (filter (λ r. test (mended r)) rows)) ≡ cond b 1 0 + count test rows
    step true true e h = omega arith
    step false false e h = omega arith
    step true false e h = absurd (cc)
    step false true e h = absurd (cc)

module _ {X : Type 0} (test : X → Bool) where
  found_from : (k : ℕ) (xs : List X) → cond (ltb (position_or_len test xs) (length xs)) (Some (k + position_or_len test xs)) None ≡ first test k xs
  found_from k [] = refl
  found_from k (x ∷ xs) = step (test x) (found_from (k + 1) xs)
    where
      step : (b : Bool) → cond (ltb (position_or_len test xs) (length xs)) (Some (k + 1 + position_or_len test xs)) None ≡ first test (k + 1) xs
          → cond (ltb (cond (not b) (1 + position_or_len test xs) 0) (suc (length xs))) (Some (k + cond (not b) (1 + position_or_len test xs) 0)) None ≡ cond b (Some k) (first test (k + 1) xs)
      step true e = grind (arith, nat_tests)
      step false e = grind (arith, nat_tests)

  -- the library's position is the first that passes
  pub found_first : (xs : List X) → cond (ltb (position_or_len test xs) (length xs)) (Some (position_or_len test xs)) None ≡ first test 0 xs
  found_first xs = grind (arith, found_from 0 xs)
