-- A table of notes, as a list of entries in the order of noting; `is_for` tells which entries are for a key. Assumes nothing.
use Rattle.std.specs.Prelude.{ℕ, Bool, cond, not, List, [], ◌∷◌, ◌++◌, length, Err, filter, find, Option, nat_le, nat_lt}
use Rattle.reader.specs.declared.refusal.Refusal.TheVariants.{TableFull}
use Rattle.notes.specs.Answers.{Answer, granted, if_granted, first_refusal}

-- whether an entry's own key is the same
abbrev pub by_key : {E K : Type 0} → (E → K) → (K → K → Bool) → E → K → Bool
by_key key same e k = same (key e) k

-- the entry for a key
abbrev pub listed : {E K : Type 0} → (E → K → Bool) → List E → K → Option E
listed is_for es k = find (λ x. is_for x k) es

-- the entries for other keys
abbrev pub others : {E K : Type 0} → (E → K → Bool) → List E → K → List E
others is_for es k = filter (λ x. not (is_for x k)) es

-- how a refusal tells a size: in 16 bits, all ones for a larger one
abbrev pub told : ℕ → ℕ
told size = cond (nat_le size 0xFFFF) size 0xFFFF

-- one more entry, if there is a place for it
abbrev pub push_answer : {E : Type 0} → ℕ → List E → Answer
push_answer size es = cond (nat_lt (length es) size) granted (Err (TableFull (told size)))

-- taking an entry out needs no place; putting it in needs one beside the entries for other keys
abbrev pub table_answer : {E K : Type 0} → (E → K → Bool) → ℕ → List E → K → Bool → Answer
table_answer is_for size es k puts_in = cond puts_in (push_answer size (others is_for es k)) granted

-- what a note leaves for its key
abbrev pub new_entry : {E : Type 0} → E → Bool → List E
new_entry e puts_in = cond puts_in (e ∷ []) []

-- the table after a note of an entry for a key
abbrev pub table_after : {E K : Type 0} → (E → K → Bool) → ℕ → List E → K → E → Bool → List E
table_after is_for size es k e puts_in = if_granted (table_answer is_for size es k puts_in) (others is_for es k ++ new_entry e puts_in) es

-- the entries that hold now, and those noted for the next change
pub record Noting (E : Type 0) : Type 0 where
  pub current : List E
  pub noted : List E

abbrev pub new_tables : {E : Type 0} → Noting E
new_tables = record { current = []; noted = [] }

-- after a change what is noted holds, and the notes last
abbrev pub settled : {E : Type 0} → Noting E → Noting E
settled t = record { current = t.noted; noted = t.noted }

-- a note's values are tested before its place, and it is for the next change
abbrev pub note_answer : {E K : Type 0} → (E → K → Bool) → ℕ → Answer → Noting E → K → Bool → Answer
note_answer is_for size in_range t k puts_in = first_refusal in_range (table_answer is_for size t.noted k puts_in)

abbrev pub noted_in : {E K : Type 0} → (E → K → Bool) → ℕ → Answer → Noting E → K → E → Bool → Noting E
noted_in is_for size in_range t k e puts_in =
    record { current = t.current; noted = if_granted in_range (table_after is_for size t.noted k e puts_in) t.noted }
