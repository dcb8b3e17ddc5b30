-- A text that is told record by record, of something that each record changes. Assumes nothing.
use Rattle.std.specs.Prelude.{ℕ, ◌+◌, List, [], ◌∷◌, ◌++◌}
use Rattle.journal.specs.Entries.{Entry}

module _ {C : Type 0} (step : C → Entry → C) where
  -- what it is after all records
  abbrev pub after_all : C → List Entry → C
  after_all c [] = c
  after_all c (e ∷ es) = after_all (step c e) es

  -- a part for each record, counted from k on, by what it was before that record
  abbrev pub told_all : (ℕ → C → Entry → List ℕ) → ℕ → C → List Entry → List ℕ
  told_all part k c [] = []
  told_all part k c (e ∷ es) = part k c e ++ told_all part (k + 1) (step c e) es
