-- The bytes of a number. Assumes nothing.
use Rattle.std.specs.Prelude.{ℕ, zero, suc, ◌+◌, ◌/◌, ◌%◌, cond, List, [], ◌∷◌, nat_lt}

-- groups of seven bits, lowest first, bit 7 set on all but the last; f bounds how many
abbrev pub groups : ℕ → ℕ → List ℕ
groups zero n = n ∷ []
groups (suc f) n = cond (nat_lt n 128) (n ∷ []) ((n % 128 + 128) ∷ groups f (n / 128))

-- a number in its shortest form: its last group is 0 only if the number is
unfoldable pub code : ℕ → List ℕ
code n = groups n n
