-- Numbers of several bytes, highest first, and their bit fields. Assumes nothing.
use Rattle.std.specs.Prelude.{ℕ, ◌+◌, ◌*◌, ◌/◌, ◌%◌, ◌^◌, Bool, List, ◌==◌, slice_index}

-- two, four and eight bytes from a place on
abbrev pub big2 : List ℕ → ℕ → ℕ
big2 bs at = slice_index bs at * 256 + slice_index bs (at + 1)

abbrev pub big4 : List ℕ → ℕ → ℕ
big4 bs at = big2 bs at * 65536 + big2 bs (at + 2)

abbrev pub big8 : List ℕ → ℕ → ℕ
big8 bs at = big4 bs at * 4294967296 + big4 bs (at + 4)

-- bit k of a number
abbrev pub bit : ℕ → ℕ → Bool
bit q k = q / 2 ^ k % 2 == 1

-- the field of n bits whose lowest is bit k
abbrev pub field : ℕ → ℕ → ℕ → ℕ
field q k n = q / 2 ^ k % 2 ^ n
