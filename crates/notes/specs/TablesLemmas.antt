-- A note puts its entry in for its key or takes that one out, and leaves the entries for other keys. Assumes nothing.
use Rattle.std.specs.Prelude.{◌≡◌, ℕ, Bool, true, false, cond, not, List, [], ◌∷◌, ◌++◌, Some, None, Ok, Err, filter, find, Option, refl}
use Rattle.std.specs.Option.{option_or}
use Rattle.std.proofs.Common.{sym, ◌∙◌, ap, arith}
use Rattle.std.proofs.lemmas.List.Folds.{find-append}
use Rattle.reader.specs.declared.refusal.Refusal.{Refusal}
use Rattle.notes.specs.Answers.{Answer, granted, if_granted}
use Rattle.notes.specs.Tables.{Noting, listed, others, new_entry, table_answer, table_after, note_answer, noted_in}

-- a filter that keeps all that a test finds, or none of it
find_filter : {X : Type 0} (p q : X → Bool) (b : Bool) → ((x : X) → p x ≡ true → q x ≡ b) → (xs : List X) → find p (filter q xs) ≡ cond b (find p xs) None
find_filter p q true same [] = refl
find_filter p q false same [] = refl
find_filter p q b same (x ∷ xs) = go (p x) (q x) refl refl (find_filter p q b same xs)
  where
    go : (c d : Bool) → p x ≡ c → q x ≡ d → find p (filter q xs) ≡ cond b (find p xs) None → find p (cond d (x ∷ filter q xs) (filter q xs)) ≡ cond b (cond c (Some x) (find p xs)) None
    go true true h k later = ap (λ c. cond c (Some x) (find p (filter q xs))) h ∙ ap (λ b. cond b (Some x) None) (sym k ∙ same x h)
    go true false h k later =
        later ∙ ap (λ b. cond b (find p xs) None) (sym (same x h) ∙ k) ∙ ap (λ b. cond b (Some x) None) (sym k ∙ same x h)
    go false true h k later = ap (λ c. cond c (Some x) (find p (filter q xs))) h ∙ later
    go false false h k later = later

or_none : {X : Type 0} (o : Option X) → option_or o None ≡ o
or_none (Some x) = refl
or_none None = refl

refused_not_granted : (r : Refusal) → Err r ≡ granted → ⊥
refused_not_granted r h = let z : ◌≡◌ {A = ℕ} 0 1 = cc in omega arith

module _ {E K : Type 0} (is_for : E → K → Bool) (k : K) (e : E) where
  -- the entries for other keys have none for this one, and are as they were for the others
  others_pass : (more es : List E) → listed is_for (others is_for es k ++ more) k ≡ listed is_for more k
  others_pass more es =
      find-append (λ x. is_for x k) (others is_for es k) more
      ∙ ap (λ o. option_or o (listed is_for more k)) (find_filter (λ x. is_for x k) (λ x. not (is_for x k)) false (λ x h. ap not h) es)

  entry_here : is_for e k ≡ true → (puts_in : Bool) → listed is_for (new_entry e puts_in) k ≡ cond puts_in (Some e) None
  entry_here own true = ap (λ b. cond b (Some e) None) own
  entry_here own false = refl

  module _ (size : ℕ) (es : List E) (puts_in : Bool) where
    -- a granted note puts its entry in, or leaves none for its key
    pub after_there : is_for e k ≡ true → table_answer is_for size es k puts_in ≡ granted → listed is_for (table_after is_for size es k e puts_in) k ≡ cond puts_in (Some e) None
    after_there own h =
        ap (λ a. listed is_for (if_granted a (others is_for es k ++ new_entry e puts_in) es) k) h
        ∙ others_pass (new_entry e puts_in) es
        ∙ entry_here own puts_in

    -- a refused note leaves the table
    pub after_refused : (r : Refusal) → table_answer is_for size es k puts_in ≡ Err r → table_after is_for size es k e puts_in ≡ es
    after_refused r h = ap (λ a. if_granted a (others is_for es k ++ new_entry e puts_in) es) h

  module _ (j : K) (apart : (x : E) → is_for x k ≡ true → is_for x j ≡ false) (other : is_for e j ≡ false) where
    entry_elsewhere : (puts_in : Bool) → listed is_for (new_entry e puts_in) j ≡ None
    entry_elsewhere true = ap (λ b. cond b (Some e) None) other
    entry_elsewhere false = refl

    kept : (x : E) → is_for x j ≡ true → not (is_for x k) ≡ true
    kept x h = go (is_for x k) refl
      where
        go : (b : Bool) → is_for x k ≡ b → not b ≡ true
        go true l = sym (apart x l) ∙ h
        go false l = refl

    others_keep : (more es : List E) → listed is_for more j ≡ None → listed is_for (others is_for es k ++ more) j ≡ listed is_for es j
    others_keep more es none =
        find-append (λ x. is_for x j) (others is_for es k) more
        ∙ ap (λ o. option_or o (listed is_for more j)) (find_filter (λ x. is_for x j) (λ x. not (is_for x k)) true kept es)
        ∙ ap (λ o. option_or (listed is_for es j) o) none
        ∙ or_none (listed is_for es j)

    -- a note, granted or refused, leaves the entry for another key
    pub after_elsewhere : (size : ℕ) (es : List E) (puts_in : Bool) → listed is_for (table_after is_for size es k e puts_in) j ≡ listed is_for es j
    after_elsewhere size es puts_in = go (table_answer is_for size es k puts_in)
      where
        go : (a : Answer) → listed is_for (if_granted a (others is_for es k ++ new_entry e puts_in) es) j ≡ listed is_for es j
        go (Ok done) = others_keep (new_entry e puts_in) es (entry_elsewhere puts_in)
        go (Err r) = refl

    pub noted_elsewhere : (size : ℕ) (in_range : Answer) (t : Noting E) (puts_in : Bool) → listed is_for (noted_in is_for size in_range t k e puts_in).noted j ≡ listed is_for t.noted j
    noted_elsewhere size (Err r) t puts_in = refl
    noted_elsewhere size (Ok done) t puts_in = after_elsewhere size t.noted puts_in

  -- the same of a note whose values are tested first
  module _ (size : ℕ) where
    pub noted_there : is_for e k ≡ true → (in_range : Answer) (t : Noting E) (puts_in : Bool) → note_answer is_for size in_range t k puts_in ≡ granted → listed is_for (noted_in is_for size in_range t k e puts_in).noted k ≡ cond puts_in (Some e) None
    noted_there own (Err r) t puts_in h = absurd (refused_not_granted r h)
    noted_there own (Ok done) t puts_in h = after_there size t.noted puts_in own h

    pub noted_not : (in_range : Answer) (t : Noting E) (puts_in : Bool) (r : Refusal) → note_answer is_for size in_range t k puts_in ≡ Err r → noted_in is_for size in_range t k e puts_in ≡ t
    noted_not (Err r) t puts_in s h = refl
    noted_not (Ok done) t puts_in s h = ap (λ es. record { current = t.current; noted = es }) (after_refused size t.noted puts_in s h)
