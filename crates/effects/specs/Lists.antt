-- Rows of a table as text. Assumes nothing.
use Rattle.std.specs.Prelude.{◌≡◌, ℕ, ◌+◌, ◌<◌, Bool, true, false, cond, List, [], ◌∷◌, ◌++◌, length, Some, None, Ok, Option, Result, slice_index_or}
use Rattle.std.specs.Option.{option_map}

-- a part for each row from place k on that passes a test, and an end; both may ask whether a part came before
abbrev pub listed : {X : Type 0} → (X → Bool) → (Bool → ℕ → X → List ℕ) → (Bool → List ℕ) → Bool → ℕ → List X → List ℕ
listed test part end first k [] = end first
listed test part end first k (x ∷ xs) =
    cond (test x) (part first k x ++ listed test part end false (k + 1) xs) (listed test part end first (k + 1) xs)

-- a part and what is left to tell behind it, or only that
abbrev pub with_part : List ℕ → Bool → Option (List ℕ) → (Bool → List ℕ) → List ℕ
with_part separator first None left = left first
with_part separator first (Some p) left = cond first [] separator ++ (p ++ left false)

-- parts with a separator before all but the first, and what is told where there is none
abbrev pub joined : List ℕ → List ℕ → List (Option (List ℕ)) → Bool → List ℕ
joined separator none [] first = cond first none []
joined separator none (p ∷ ps) first = with_part separator first p (joined separator none ps)

-- what a call of the place may give, as bytes
pub record Given {S E : Type 0} (bytes : S → List ℕ) (gives : ℕ → Result (Option S) E → Type 0) (place : ℕ) (p : Option (List ℕ)) : Type 0 where
  pub part : Option S
  pub gave : gives place (Ok part)
  pub is : option_map bytes part ≡ p

-- the text of what the calls of so many places gave
pub record Joined {S E : Type 0} (bytes : S → List ℕ) (gives : ℕ → Result (Option S) E → Type 0) (places : ℕ) (separator none text : List ℕ) : Type 0 where
  pub parts : List (Option (List ℕ))
  pub many : length parts ≡ places
  pub given : (k : ℕ) → k < places → Given bytes gives k (slice_index_or parts k None)
  pub told : text ≡ joined separator none parts true
