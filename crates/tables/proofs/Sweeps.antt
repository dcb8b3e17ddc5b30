-- A loop that writes over each entry what a step makes of it, and what its result is where the step computes a function.
-- Assumes nothing.
use Rattle.std.proofs.Common.{◌≡◌, ℕ, ◌+◌, ◌<◌, ◌≤◌, ◌≢◌, List, map, length, get_or, set, sym, ap, ◌∙◌, arith, below_more, get_or-set_other, get_or-set_same}
use Rattle.logins.specs.Logins.{free_row}
use Rattle.logins.specs.Rows.{SoundRows, row_at}
use Rattle.logins.specs.declared.rows.LoginRow.{LoginRow}
use Rattle.tables.specs.Records.{mended}
use Rattle.tables.proofs.Setting.{mended_sound}
use Rattle.std.proofs.lemmas.List.{get_or_default, get_or-map, length-map, ext_get_or}

-- the entries below i are written, and the others as they were
pub record Written {X : Type 0} (Step : X → X → Type 0) (xs ys : List X) (d : X) (i : ℕ) : Type 0 where
  pub done : (k : ℕ) → k < i → Step (get_or xs k d) (get_or ys k d)
  pub rest : (k : ℕ) → i ≤ k → get_or ys k d ≡ get_or xs k d

pub written_more : {X : Type 0} (Step : X → X → Type 0) (xs ys : List X) (d e v : X) (i : ℕ) → i < length ys → Step (get_or ys i e) v
    → Written Step xs ys d i → Written Step xs (set ys i v) d (i + 1)
written_more Step xs ys d e v i h s w =
    record {
      done = below_more _ _
          (λ k l. let ne : k ≢ i = omega arith in rw get_or-set_other (w.done k l))
          (rw get_or-set_same (rw (← w.rest i (omega arith)) (rw (get_or_default ys i d e h) s)));
      rest = λ k l. let ne : k ≢ i = omega arith in rw get_or-set_other (w.rest k (omega arith));
    }

-- a step that computes f at each entry maps them
pub mapped : {X : Type 0} (f : X → X) (xs ys : List X) (d : X) (n : ℕ) → length xs ≡ n → length ys ≡ n
    → ((k : ℕ) → k < n → get_or ys k d ≡ f (get_or xs k d)) → ys ≡ map f xs
mapped f xs ys d n long same_long each =
    ext_get_or d ys (map f xs) (same_long ∙ sym (length-map _ _ ∙ long)) (λ i h. each i (omega arith) ∙ sym (get_or-map f xs i d d (omega arith)))

-- the same of sound rows, which are read as they stand
pub rows_mapped : (f : LoginRow → LoginRow) (xs ys : List LoginRow) (n : ℕ) → length xs ≡ n → length ys ≡ n → SoundRows xs
    → ((k : ℕ) → k < n → row_at ys k ≡ f (mended (row_at xs k))) → ys ≡ map f xs
rows_mapped f xs ys n long same_long all each =
    mapped f xs ys free_row n long same_long (λ k h. each k h ∙ ap f (mended_sound (row_at xs k) (all k)))
