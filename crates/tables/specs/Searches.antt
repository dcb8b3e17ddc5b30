-- Counting holders and handles, and looking for a place. Assumes nothing.
use Rattle.std.specs.Prelude.{ℕ, zero, suc, ◌+◌, Bool, cond, List, [], ◌∷◌, Some, None, Option, nat_le}
use Rattle.logins.specs.Logins.{holder}
use Rattle.logins.specs.Rows.{logins_size, handles_size, row_at, handle_at, in_use}
use Rattle.tables.specs.Books.{Book}

-- how many pass a test
abbrev pub count : {X : Type 0} → (X → Bool) → List X → ℕ
count test [] = 0
count test (x ∷ xs) = cond (test x) 1 0 + count test xs

-- the place of the first that passes, counted from k
abbrev pub first : {X : Type 0} → (X → Bool) → ℕ → List X → Option ℕ
first test k [] = None
first test k (x ∷ xs) = cond (test x) (Some k) (first test (k + 1) xs)

-- the place after one, going round
abbrev pub after_place : ℕ → ℕ → ℕ
after_place size i = cond (nat_le size (i + 1)) 0 (i + 1)

-- the first place that is not taken, of n places from i on, going round
unfoldable pub next_free : (ℕ → Bool) → ℕ → ℕ → ℕ → Option ℕ
next_free taken size i zero = None
next_free taken size i (suc n) = cond (taken i) (next_free taken size (after_place size i) n) (Some i)

abbrev pub free_login : Book → Option ℕ
free_login b = next_free (λ k. holder (row_at b.logins k)) logins_size b.next_login logins_size

abbrev pub free_handle_place : Book → Option ℕ
free_handle_place b = next_free (λ k. in_use (handle_at b.handles k)) handles_size b.next_handle handles_size
