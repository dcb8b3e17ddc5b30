-- The two shapes of a number's bytes. Assumes nothing.
use Rattle.std.proofs.Common.{◌≡◌, ℕ, zero, suc, ◌+◌, ◌*◌, ◌/◌, ◌%◌, ◌^◌, ◌<◌, ◌≤◌, cond, ltb, List, [], ◌∷◌, length, refl, ap, ◌∙◌, inl, inr, pow-suc, arith}
use Rattle.std.proofs.lemmas.Bool.{lt-ltb, le-ltb, cond-true, cond-false, cases_lt}
use Rattle.journal.specs.Numbers.{groups, code}

groups_fuel : (f g n : ℕ) → n ≤ f → n ≤ g → groups f n ≡ groups g n
groups_fuel zero zero n h k = refl
groups_fuel zero (suc g) n h k = let e : n ≡ 0 = omega arith in rw e refl
groups_fuel (suc f) zero n h k = let e : n ≡ 0 = omega arith in rw e refl
groups_fuel (suc f) (suc g) n h k =
    ap (λ (t : List ℕ). cond (ltb n 128) (n ∷ []) ((n % 128 + 128) ∷ t)) (groups_fuel f g (n / 128) (omega arith) (omega arith))

pub code_last : (n : ℕ) → n < 128 → code n ≡ n ∷ []
unfolding code
code_last zero h = refl
code_last (suc k) h = cond-true (ltb (suc k) 128) _ _ (lt-ltb (suc k) 128 h)

pub code_more : (n : ℕ) → 128 ≤ n → code n ≡ (n % 128 + 128) ∷ code (n / 128)
unfolding code
code_more zero h = absurd (omega arith)
code_more (suc k) h =
    cond-false (ltb (suc k) 128) _ _ (le-ltb (suc k) 128 h)
    ∙ ap (λ (t : List ℕ). (suc k % 128 + 128) ∷ t) (groups_fuel k (suc k / 128) (suc k / 128) (omega arith) (omega arith))

pub code_length : (n : ℕ) → 1 ≤ length (code n)
code_length n =
    elim (cases_lt n 128) [
      | inl h ↦ let q = ap length (code_last n h) in omega arith
      | inr h ↦ let q = ap length (code_more n h) in omega arith
    ]

-- k + 1 groups hold 7 * (k + 1) bits
code_within : (k n : ℕ) → n < 128 * 128 ^ k → length (code n) ≤ k + 1
code_within zero n h = let q = ap length (code_last n (omega arith)) in omega arith
code_within (suc k) n h =
    elim (cases_lt n 128) [
      | inl l ↦ let q = ap length (code_last n l) in omega arith
      | inr l ↦
          let q = ap length (code_more n l) in
          let p : 128 ^ suc k ≡ 128 ^ k * 128 = pow-suc 128 k in
          let i = code_within k (n / 128) (omega arith) in
          omega arith
    ]

-- ten groups hold 64 bits
pub code_short : (n : ℕ) → n < 2 ^ 64 → length (code n) ≤ 10
code_short n h = code_within 9 n (omega arith)

-- and three hold 16
pub code_half : (n : ℕ) → n < 2 ^ 16 → length (code n) ≤ 3
code_half n h = code_within 2 n (omega arith)
