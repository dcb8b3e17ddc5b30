-- What `from_be_bytes` makes of the bytes from a place on is the number that stands there.
use Rattle.std.proofs.Common.{◌≡◌, ℕ, ◌+◌, ◌<◌, List, slice_index, arith, w16, w32, w64}
use Rattle.std.specs.Int.{from_be_bytes}
use Rattle.reader.specs.Quadlets.{big2, big4, big8}

pub from_two : (xs ys : List ℕ) (at : ℕ) → ((i : ℕ) → i < 2 → slice_index ys i ≡ slice_index xs (at + i)) → from_be_bytes w16 ys ≡ big2 xs at
from_two xs ys at same = grind (arith, same 0 (omega arith), same 1 (omega arith))

pub from_four : (xs ys : List ℕ) (at : ℕ) → ((i : ℕ) → i < 4 → slice_index ys i ≡ slice_index xs (at + i)) → from_be_bytes w32 ys ≡ big4 xs at
from_four xs ys at same = grind (arith, same 0 (omega arith), same 1 (omega arith), same 2 (omega arith), same 3 (omega arith))

pub from_eight : (xs ys : List ℕ) (at : ℕ) → ((i : ℕ) → i < 8 → slice_index ys i ≡ slice_index xs (at + i)) → from_be_bytes w64 ys ≡ big8 xs at
from_eight xs ys at same =
    grind (arith, same 0 (omega arith), same 1 (omega arith), same 2 (omega arith), same 3 (omega arith), same 4 (omega arith), same 5 (omega arith), same 6 (omega arith), same 7 (omega arith))
