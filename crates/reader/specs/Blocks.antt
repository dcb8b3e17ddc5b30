-- What a status area holds after a status block was written to it. Assumes nothing.
use Rattle.std.specs.Prelude.{ℕ, ◌/◌, ◌%◌, ◌^◌, cond, List, [], ◌∷◌, ◌++◌, length, drop, Ok, Err, Result, nat_lt}
use Rattle.reader.specs.declared.refusal.Refusal.{Refusal}
use Rattle.reader.specs.declared.refusal.Refusal.TheVariants.{StatusArea}

-- 01h, the status, and the 48-bit address of the ORB, highest byte first
abbrev pub block : ℕ → ℕ → List ℕ
block status address =
    1
    ∷ status
    ∷ (address / 2 ^ 40 % 256)
    ∷ (address / 2 ^ 32 % 256)
    ∷ (address / 2 ^ 24 % 256)
    ∷ (address / 2 ^ 16 % 256)
    ∷ (address / 2 ^ 8 % 256)
    ∷ (address % 256)
    ∷ []

-- an area below eight bytes is refused, with its length
abbrev pub block_answer : List ℕ → Result (Unit {0}) Refusal
block_answer area = cond (nat_lt (length area) 8) (Err (StatusArea (length area))) (Ok tt)

-- and stays as it was; any other begins with the block and keeps the rest
abbrev pub block_put : List ℕ → ℕ → ℕ → List ℕ
block_put area status address = cond (nat_lt (length area) 8) area (block status address ++ drop 8 area)
