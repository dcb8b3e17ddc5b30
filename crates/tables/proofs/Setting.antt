-- Writing one row of a list, or all. Assumes nothing.
use Rattle.std.proofs.Common.{◌≡◌, ℕ, zero, suc, ◌<◌, Bool, true, cond, ◌⊎◌, List, [], ◌∷◌, length, get_or, set, refl, ap, inl, inr, arith}
use Rattle.std.proofs.lemmas.Bool.{cases_lt}
use Rattle.std.proofs.lemmas.List.{get_or_past}
use Rattle.logins.specs.Logins.{sound, free_row}
use Rattle.logins.specs.Rows.{SoundRows, row_at}
use Rattle.logins.specs.declared.rows.LoginRow.{LoginRow}
use Rattle.tables.specs.Records.{mended}

-- what a place holds after a write: what was written there, or what it held
pub set_either : {X : Type 0} (xs : List X) (k : ℕ) (v d : X) (i : ℕ) → ((i ≡ k) × (get_or (set xs k v) i d ≡ v)) ⊎ (get_or (set xs k v) i d ≡ get_or xs i d)
set_either [] k v d i = inr refl
set_either (x ∷ xs) zero v d zero = inl (refl, refl)
set_either (x ∷ xs) zero v d (suc i) = inr refl
set_either (x ∷ xs) (suc k) v d zero = inr refl
set_either (x ∷ xs) (suc k) v d (suc i) =
    elim (set_either xs k v d i) [ inl w ↦ inl (ap suc w.0, w.1) | inr w ↦ inr w ]

-- past the end stands a free row, which is sound too
pub sound_each : (rows : List LoginRow) (n : ℕ) → length rows ≡ n → ((k : ℕ) → k < n → sound (row_at rows k) ≡ true) → SoundRows rows
sound_each rows n long each k =
    elim (cases_lt k n) [ inl h ↦ each k h | inr h ↦ ap sound (get_or_past rows k free_row (omega arith)) ]

-- a sound row is read as it stands
pub mended_sound : (r : LoginRow) → sound r ≡ true → mended r ≡ r
mended_sound r h = ap (λ (b : Bool). cond b r free_row) h
