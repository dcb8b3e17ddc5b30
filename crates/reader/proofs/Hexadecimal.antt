-- What `{:04X}` and `{:016X}` write of a number is its digits, all of them.
use Rattle.std.proofs.Common.{◌≡◌, ℕ, suc, zero, ◌+◌, ◌-◌, ◌/◌, ◌%◌, ◌^◌, ◌<◌, ◌≤◌, true, false, List, [], ◌∷◌, ◌++◌, length, replicate, arith, sym, ap, ◌∙◌, refl, append_assoc, append-nil}
use Rattle.std.specs.Fmt.{digit_glyph, digits, digits_onto, padded_integral, char_count, format_spec}
use Rattle.std.proofs.lemmas.Bool.{cases_lt}
use Rattle.std.proofs.lemmas.List.{replicate_more}
use Rattle.std.proofs.lemmas.Nat.{div_below}
use Rattle.std.proofs.Math.Nat.{pow-suc}
use mathlib.Core.Logic.{⊎_elim}
use Rattle.reader.specs.Texts.{hex4, eui_text}

-- the last k digits of n, before what follows
abbrev last_digits : ℕ → ℕ → List ℕ → List ℕ
last_digits zero n after = after
last_digits (suc k) n after = last_digits k (n / 16) (digit_glyph true (n % 16) ∷ after)

zeros : (k : ℕ) (after : List ℕ) → last_digits k 0 after ≡ replicate k 48 ++ after
zeros zero after = refl
zeros (suc k) after =
    zeros k (48 ∷ after) ∙ sym (append_assoc (replicate k 48) (48 ∷ []) after) ∙ ap (λ (xs : List ℕ). xs ++ after) (replicate_more k 48) ∙ ap (λ (j : ℕ). replicate j 48 ++ after) {x = k + 1} {y = suc k} (omega arith)

onto_last : (i n : ℕ) (after : List ℕ) → n < 16 → digits_onto (suc i) 16 true n after ≡ digit_glyph true (n % 16) ∷ after
onto_last i n after small = let high : n / 16 ≡ 0 = omega arith in rw high refl

onto_step : (i n : ℕ) (after : List ℕ) → 16 ≤ n → digits_onto (suc i) 16 true n after ≡ digits_onto i 16 true (n / 16) (digit_glyph true (n % 16) ∷ after)
onto_step i n after large = grind (arith)

four_more : (k n : ℕ) (after : List ℕ) → last_digits (suc (suc (suc (suc k)))) n after ≡ last_digits k (n / 65536) (hex4 (n % 65536) ++ after)
unfolding hex4
four_more k n after =
    let rest : n / 16 / 16 / 16 / 16 ≡ n / 65536 = omega arith in
    let a : n / 16 / 16 / 16 % 16 ≡ n % 65536 / 4096 = omega arith in
    let b : n / 16 / 16 % 16 ≡ n % 65536 / 256 % 16 = omega arith in
    let d : n / 16 % 16 ≡ n % 65536 / 16 % 16 = omega arith in
    let e : n % 16 ≡ n % 65536 % 16 = omega arith in
    λ i. last_digits k (rest i) (digit_glyph true (a i) ∷ digit_glyph true (b i) ∷ digit_glyph true (d i) ∷ digit_glyph true (e i) ∷ after)

padded_four : (ds : List ℕ) → padded_integral (format_spec 32 0 4 4 (2 ^ 64 - 1)) false [] ds ≡ replicate (4 - length ds) 48 ++ ds
unfolding padded_integral char_count
padded_four ds = simp append-nil (ap (λ (k : ℕ). replicate k 48 ++ ds) {x = 4 - length ds - 0 - 0} {y = 4 - length ds} (omega arith))

padded_sixteen : (ds : List ℕ) → padded_integral (format_spec 32 0 4 16 (2 ^ 64 - 1)) false [] ds ≡ replicate (16 - length ds) 48 ++ ds
unfolding padded_integral char_count
padded_sixteen ds = simp append-nil (ap (λ (k : ℕ). replicate k 48 ++ ds) {x = 16 - length ds - 0 - 0} {y = 16 - length ds} (omega arith))

-- zeros stand for the digits that are not written
written_one : (k i n : ℕ) (after : List ℕ) → n < 16 → (places : ℕ) → places ≡ suc k + length after
    → replicate (places - length (digits_onto (suc i) 16 true n after)) 48 ++ digits_onto (suc i) 16 true n after ≡ last_digits (suc k) n after
written_one k i n after one places all =
    let only = digit_glyph true (n % 16) ∷ after in
    let high : 0 ≡ n / 16 = omega arith in
    let left : places - length only ≡ k = omega arith in
    ap (λ (ds : List ℕ). replicate (places - length ds) 48 ++ ds) (onto_last i n after one)
    ∙ ap (λ (j : ℕ). replicate j 48 ++ only) left ∙ sym (zeros k only) ∙ ap (λ (m : ℕ). last_digits k m only) high

written : (k i n : ℕ) (after : List ℕ) → n < 16 ^ suc k → k ≤ i → (places : ℕ) → places ≡ suc k + length after
    → replicate (places - length (digits_onto (suc i) 16 true n after)) 48 ++ digits_onto (suc i) 16 true n after ≡ last_digits (suc k) n after
written zero i n after small room places all = written_one 0 i n after small places all
written (suc k) zero n after small room places all = absurd (omega arith)
written (suc k) (suc i) n after small room places all =
    ⊎_elim (λ one. written_one (suc k) (suc i) n after one places all)
    (λ more.
    ap (λ (ds : List ℕ). replicate (places - length ds) 48 ++ ds) (onto_step (suc i) n after more)
    ∙ written k i (n / 16) (digit_glyph true (n % 16) ∷ after) (div_below n 16 (16 ^ suc k) (omega arith) (omega (arith, pow-suc 16 (suc k)))) (omega arith) places (omega arith))
    (cases_lt n 16)

whole : (n : ℕ) → digits_onto 64 16 true n [] ≡ digits 16 true n
unfolding digits
whole n = refl

pub four_digits : (n : ℕ) → n < 2 ^ 16 → padded_integral (format_spec 32 0 4 4 (2 ^ 64 - 1)) false [] (digits 16 true n) ≡ hex4 n
four_digits n small =
    let same : n % 65536 ≡ n = omega arith in
    rw (← whole n) (padded_four _ ∙ written 3 63 n [] small (omega arith) 4 refl ∙ four_more 0 n [] ∙ append-nil _ ∙ ap hex4 same)

pub sixteen_digits : (n : ℕ) → n < 2 ^ 64 → padded_integral (format_spec 32 0 4 16 (2 ^ 64 - 1)) false [] (digits 16 true n) ≡ eui_text (record { 0 = n })
unfolding eui_text
sixteen_digits n small =
    let a : n / 65536 / 65536 / 65536 % 65536 ≡ n / 2 ^ 48 = omega arith in
    let b : n / 65536 / 65536 % 65536 ≡ n / 2 ^ 32 % 2 ^ 16 = omega arith in
    let groups = four_more 12 n [] ∙ four_more 8 (n / 65536) _ ∙ four_more 4 (n / 65536 / 65536) _ ∙ four_more 0 (n / 65536 / 65536 / 65536) _ in
    rw (← whole n)
    (padded_sixteen _ ∙ written 15 63 n [] small (omega arith) 16 refl ∙ groups
    ∙ (λ i. hex4 (a i) ++ (hex4 (b i) ++ (hex4 (n / 65536 % 65536) ++ append-nil (hex4 (n % 65536)) i))))
