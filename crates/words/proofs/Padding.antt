-- What `{:>5}` writes of a count is its blanks and its decimal digits. Assumes nothing.
use Rattle.std.proofs.Common.{◌≡◌, ℕ, suc, zero, ◌-◌, ◌/◌, ◌^◌, ◌<◌, ◌≤◌, false, List, ◌∷◌, [], ◌++◌, length, replicate, arith, ap, ◌∙◌, refl, append_assoc, append-nil}
use Rattle.std.specs.Fmt.{decimal, styled_decimal, padded_integral, char_count, format_spec}
use Rattle.std.specs.List.{repeat}
use Rattle.std.proofs.lemmas.Bool.{cases_lt}
use Rattle.std.proofs.lemmas.List.{length-append}
use Rattle.std.proofs.lemmas.Fmt.{decimal_digit, decimal_step, decimal_nonempty, length-decimal-le}
use Rattle.std.proofs.lemmas.Str.{encode_ascii}
use Rattle.std.proofs.Math.Nat.{pow-suc, one-le-pow}
use mathlib.Core.Logic.{⊎_elim}
use Rattle.words.specs.Lines.{pad_text}

repeat_one : (k x : ℕ) → repeat k (x ∷ []) ≡ replicate k x
repeat_one zero x = refl
repeat_one (suc k) x = ap (λ (xs : List ℕ). x ∷ xs) (repeat_one k x)

padded_five : (ds : List ℕ) → padded_integral (format_spec 32 3 0 5 (2 ^ 64 - 1)) false [] ds ≡ replicate (5 - length ds) 32 ++ ds
unfolding padded_integral char_count
padded_five ds =
    let room : 5 - length ds - 0 - 0 ≡ 5 - length ds = omega arith in
    let none : (5 - length ds) - (5 - length ds) ≡ 0 = omega arith in
    rw (room, none, encode_ascii 32 (omega arith), repeat_one (5 - length ds) 32) (simp append-nil)

-- a number from 10 ^ k on has more than k digits
long : (k n : ℕ) → 10 ^ k ≤ n → n < 2 ^ 64 → k < length (decimal n)
long zero n high fits = decimal_nonempty n fits
long (suc k) n high fits =
    let front = long k (n / 10) (omega (arith, pow-suc 10 k)) (omega arith) in
    let more = ap length (decimal_step n (omega (arith, pow-suc 10 k, one-le-pow k 10 (omega arith))) fits) ∙ length-append (decimal (n / 10)) _ in
    omega (arith, front, more)

module _ (n : ℕ) (fits : n < 2 ^ 64) where
  between : (k : ℕ) → 10 ^ k ≤ n → n < 10 ^ suc k → length (decimal n) ≡ suc k
  between k high low = omega (arith, long k n high fits, length-decimal-le (suc k) n (omega arith) low fits)

  filled : replicate (5 - length (decimal n)) 32 ≡ pad_text n
  filled =
      ⊎_elim (λ low. rw (decimal_digit n low) (grind (arith, low)))
      (λ ten. ⊎_elim (λ low. rw (between 1 ten low) (grind (arith, ten, low)))
      (λ hundred. ⊎_elim (λ low. rw (between 2 hundred low) (grind (arith, hundred, low)))
      (λ thousand. ⊎_elim (λ low. rw (between 3 thousand low) (grind (arith, thousand, low)))
      (λ more. let none : 5 - length (decimal n) ≡ 0 = omega (arith, long 4 n more fits) in rw none (grind (arith, more)))
      (cases_lt n 10000)) (cases_lt n 1000)) (cases_lt n 100)) (cases_lt n 10)

  pub right_of_five : (after : List ℕ) → styled_decimal (format_spec 32 3 0 5 (2 ^ 64 - 1)) n ++ after ≡ pad_text n ++ (decimal n ++ after)
  right_of_five after = rw (padded_five (decimal n), filled) (append_assoc (pad_text n) (decimal n) after)
