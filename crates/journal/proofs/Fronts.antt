-- What a reader of numbers finds, by the first byte. Assumes nothing.
use Rattle.std.proofs.Common.{◌≡◌, ℕ, ◌+◌, ◌-◌, ◌*◌, ◌^◌, ◌<◌, ◌≤◌, eqb, ltb, leb, List, [], ◌∷◌, length, get_or, take, drop, None, refl, ap, ◌∙◌, arith, pow_mono, pow-add}
use Rattle.std.proofs.lemmas.List.{nil_from_length}
use Rattle.std.proofs.lemmas.Slice.{first_rest}
use Rattle.std.proofs.lemmas.Bool.{lt-ltb, le-ltb, le-leb, lt-leb, ne_eqb, cond-true, cond-false}
use Rattle.std.specs.List.{AllByRecursion as All}
use Rattle.journal.specs.Reading.{number_at, above, found, Reader, readers, by_kind, entry_at}

pub at_none : (bits : ℕ) (bs : List ℕ) → length bs < 1 → number_at bits bs ≡ None
unfolding number_at
at_none bits bs h = let z : length bs ≡ 0 = omega arith in ap (λ (xs : List ℕ). number_at bits xs) (nil_from_length bs z)

-- a group holds seven bits
pub pow_split : (bits : ℕ) → 7 ≤ bits → 2 ^ bits ≡ 128 * 2 ^ (bits - 7)
pow_split bits h = let e : bits ≡ 7 + (bits - 7) = omega arith in ap (λ (k : ℕ). 2 ^ k) e ∙ pow-add 2 7 (bits - 7)

-- one more group still fits 64 bits
pub joined_fits : (bits high : ℕ) → 7 < bits → bits ≤ 64 → high < 2 ^ (bits - 7) → high * 128 + 127 < 2 ^ 64
joined_fits bits high h k l = let m : 2 ^ bits ≤ 2 ^ 64 = pow_mono k in let p = pow_split bits (omega arith) in omega arith

module _ (bits : ℕ) (b : ℕ) (bs : List ℕ) where
  pub at_small : b < 128 → b < 2 ^ bits → number_at bits (b ∷ bs) ≡ found b bs
  unfolding number_at
  at_small l f = cond-true (ltb b 128) _ _ (lt-ltb b 128 l) ∙ cond-true (ltb b (2 ^ bits)) _ _ (lt-ltb b (2 ^ bits) f)

  pub at_wide : b < 128 → 2 ^ bits ≤ b → number_at bits (b ∷ bs) ≡ None
  unfolding number_at
  at_wide l f = cond-true (ltb b 128) _ _ (lt-ltb b 128 l) ∙ cond-false (ltb b (2 ^ bits)) _ _ (le-ltb b (2 ^ bits) f)

  pub at_narrow : 128 ≤ b → bits ≤ 7 → number_at bits (b ∷ bs) ≡ None
  unfolding number_at
  at_narrow l f = cond-false (ltb b 128) _ _ (le-ltb b 128 l) ∙ cond-true (leb bits 7) _ _ (le-leb bits 7 f)

  pub at_more : 128 ≤ b → 7 < bits → number_at bits (b ∷ bs) ≡ above b (number_at (bits - 7) bs)
  unfolding number_at
  at_more l f = cond-false (ltb b 128) _ _ (le-ltb b 128 l) ∙ cond-false (leb bits 7) _ _ (lt-leb bits 7 f)

-- a list that is not empty, by its first byte and the rest as a slice pattern gives it
pub front_of : (bs : List ℕ) → 1 ≤ length bs → bs ≡ get_or bs 0 0 ∷ take (length bs - 1) (drop 1 bs)
front_of bs h = first_rest bs 0 h

pub kind_front : (k : ℕ) (bs : List ℕ) → 1 ≤ length bs → get_or bs 0 0 ≡ k → bs ≡ k ∷ take (length bs - 1) (drop 1 bs)
kind_front k bs h e = front_of bs h ∙ ap (λ (b : ℕ). b ∷ take (length bs - 1) (drop 1 bs)) e

-- the reader of that kind goes on
pub kind_at : (k : ℕ) (bs : List ℕ) → 1 ≤ length bs → get_or bs 0 0 ≡ k → entry_at bs ≡ by_kind readers k (take (length bs - 1) (drop 1 bs))
unfolding entry_at
kind_at k bs h e = ap entry_at (kind_front k bs h e)

pub entry_none : (bs : List ℕ) → length bs < 1 → entry_at bs ≡ None
unfolding entry_at
entry_none bs h = let z : length bs ≡ 0 = omega arith in ap entry_at (nil_from_length bs z)

-- a kind that no reader has
unread : (rs : List (ℕ × Reader)) (k : ℕ) (bs : List ℕ) → All (λ r. k ≡ r.0 → ⊥) rs → by_kind rs k bs ≡ None
unread [] k bs other = refl
unread (r ∷ rs) k bs other =
    cond-false (eqb k r.0) (r.1 bs) (by_kind rs k bs) (ne_eqb k r.0 other.0) ∙ unread rs k bs other.1

-- no kind but 1 to 9
pub kind_unknown : (bs : List ℕ) → 1 ≤ length bs → ((j : ℕ) → 1 ≤ j → j ≤ 9 → get_or bs 0 0 ≡ j → ⊥) → entry_at bs ≡ None
unfolding entry_at
kind_unknown bs h other =
    ap entry_at (front_of bs h)
    ∙ unread readers (get_or bs 0 0) (take (length bs - 1) (drop 1 bs)) (
      other 1 (omega arith) (omega arith),
      (other 2 (omega arith) (omega arith), (other 3 (omega arith) (omega arith), (other 4 (omega arith) (omega arith), (other 5 (omega arith) (omega arith), (other 6 (omega arith) (omega arith), (other 7 (omega arith) (omega arith), (other 8 (omega arith) (omega arith), (other 9 (omega arith) (omega arith), tt)))))))),
    )
