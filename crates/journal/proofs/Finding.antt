-- A reader of numbers finds a number exactly where its bytes stand. Assumes that bytes are below 256.
use Rattle.std.proofs.Common.{◌≡◌, ℕ, zero, suc, ◌+◌, ◌-◌, ◌*◌, ◌/◌, ◌%◌, ◌^◌, ◌<◌, ◌≤◌, eqb, List, [], ◌∷◌, ◌++◌, length, get_or, take, drop, Some, None, Option, sym, refl, ap, ◌∙◌, subst, inl, inr, arith, pow_mono}
use Rattle.std.proofs.lemmas.Bool.{cases_lt, cases_eq, eq-eqb, ne_eqb, cond-true, cond-false}
use Rattle.journal.specs.Numbers.{code}
use Rattle.journal.specs.Reading.{number_at, above, found}
use Rattle.journal.proofs.Fronts.{at_small, at_wide, at_narrow, at_more, pow_split, joined_fits, front_of}
use Rattle.journal.proofs.Codes.{code_last, code_more}

-- each number of the list is a byte
abbrev pub Bytes : List ℕ → Type 0
Bytes bs = (k : ℕ) → get_or bs k 0 < 256

pub tail_bytes : (bs : List ℕ) → 1 ≤ length bs → Bytes bs → Bytes (take (length bs - 1) (drop 1 bs))
tail_bytes bs h small k = subst Bytes (front_of bs h) small (suc k)

pub found_same : (m n : ℕ) (r s : List ℕ) → found m r ≡ found n s → (m ≡ n) × (r ≡ s)
found_same m n r s e =
    let q : ◌≡◌ {A = ℕ × List ℕ} (m, r) (n, s) = cc in (ap (λ (p : ℕ × List ℕ). p.0) q, ap (λ (p : ℕ × List ℕ). p.1) q)

pub record Above (b : ℕ) (o : Option (ℕ × List ℕ)) (n : ℕ) (rest : List ℕ) : Type 0 where
  pub high : ℕ
  pub met : o ≡ found high rest
  pub some : 0 < high
  pub is : n ≡ high * 128 + (b - 128)

above_some : (b : ℕ) (o : Option (ℕ × List ℕ)) (n : ℕ) (rest : List ℕ) → above b o ≡ found n rest → Above b o n rest
above_some b None n rest e = absurd (let z : ◌≡◌ {A = ℕ} 0 1 = cc in omega arith)
above_some b (Some p) n rest e =
    elim (cases_eq p.0 0) [
      | inl z ↦ absurd (let q = cond-true (eqb p.0 0) None (found (p.0 * 128 + (b - 128)) p.1) (eq-eqb p.0 0 z) in let y : ◌≡◌ {A = ℕ} 0 1 = cc in omega arith)
      | inr s ↦
          let q = cond-false (eqb p.0 0) None (found (p.0 * 128 + (b - 128)) p.1) (ne_eqb p.0 0 s) in
          let w : found (p.0 * 128 + (b - 128)) p.1 ≡ found n rest = sym q ∙ e in
          let same = found_same (p.0 * 128 + (b - 128)) n p.1 rest w in
          record { high = p.0; met = ap (found p.0) same.1; some = omega arith; is = sym same.0 }
    ]

pub record Number (bits : ℕ) (bs : List ℕ) (n : ℕ) (rest : List ℕ) : Type 0 where
  pub front : bs ≡ code n ++ rest
  pub fits : n < 2 ^ bits

-- what a reader finds stands there
pub number_sound : (bits : ℕ) (bs : List ℕ) (n : ℕ) (rest : List ℕ) → Bytes bs → number_at bits bs ≡ found n rest → Number bits bs n rest
unfolding number_at
number_sound bits [] n rest h e = absurd (let z : ◌≡◌ {A = ℕ} 0 1 = cc in omega arith)
number_sound bits (b ∷ bs) n rest h e =
    elim (cases_lt b 128) [
      | inl l ↦
          elim (cases_lt b (2 ^ bits)) [
            | inl f ↦
                let w : found b bs ≡ found n rest = sym (at_small bits b bs l f) ∙ e in
                let same = found_same b n bs rest w in
                let is = same.0 in
                let after = same.1 in
                record { front = rw (code_last n (omega arith)) (cc); fits = omega arith }
            | inr f ↦ absurd (let q = at_wide bits b bs l f in let z : ◌≡◌ {A = ℕ} 0 1 = cc in omega arith)
          ]
      | inr l ↦
          elim (cases_lt 7 bits) [
            | inl f ↦
                let w = above_some b (number_at (bits - 7) bs) n rest (sym (at_more bits b bs l f) ∙ e) in
                let i = number_sound (bits - 7) bs w.high rest (λ k. h (suc k)) w.met in
                let small : b < 256 = h 0 in
                let p = pow_split bits (omega arith) in
                let d = i.fits in
                let q : n / 128 ≡ w.high = omega arith in
                let r : n % 128 + 128 ≡ b = omega arith in
                let s : code n ≡ b ∷ code w.high = code_more n (omega arith) ∙ rw (q, r) refl in
                record { front = ap (λ (z : List ℕ). b ∷ z) i.front ∙ ap (λ (z : List ℕ). z ++ rest) (sym s); fits = omega arith }
            | inr f ↦ absurd (let q = at_narrow bits b bs l f in let z : ◌≡◌ {A = ℕ} 0 1 = cc in omega arith)
          ]
    ]

-- the groups above the first leave room for it in 64 bits
pub high_fits : (bits high : ℕ) (bs after : List ℕ) → 1 ≤ length bs → Bytes bs → 7 < bits → bits ≤ 64
    → found high after ≡ number_at (bits - 7) (take (length bs - 1) (drop 1 bs)) → high * 128 + 127 < 2 ^ 64
high_fits bits high bs after some bytes l h e =
    joined_fits bits high l h (number_sound (bits - 7) _ high after (tail_bytes bs some bytes) (sym e)).fits

-- what stands there, a reader finds
small_finds : (bits n : ℕ) (rest : List ℕ) → n < 128 → n < 2 ^ bits → number_at bits (code n ++ rest) ≡ found n rest
small_finds bits n rest l k = rw (code_last n l) (at_small bits n rest l k)

wide : (bits n : ℕ) → 128 ≤ n → n < 2 ^ bits → 7 < bits
wide bits n l k =
    elim (cases_lt 7 bits) [ inl h ↦ h | inr h ↦ absurd (let p : 2 ^ bits ≤ 2 ^ 7 = pow_mono h in omega arith) ]

-- f bounds the number
number_finds : (f bits n : ℕ) (rest : List ℕ) → n ≤ f → n < 2 ^ bits → number_at bits (code n ++ rest) ≡ found n rest
number_finds zero bits n rest h k = small_finds bits n rest (omega arith) k
number_finds (suc f) bits n rest h k =
    elim (cases_lt n 128) [
      | inl l ↦ small_finds bits n rest l k
      | inr l ↦
          let w = wide bits n l k in
          let p = pow_split bits (omega arith) in
          let some : n / 128 ≡ 0 → ⊥ = λ z. omega arith in
          let is : (n / 128) * 128 + (n % 128 + 128 - 128) ≡ n = omega arith in
          rw (code_more n l) (
          at_more bits (n % 128 + 128) (code (n / 128) ++ rest) (omega arith) w
          ∙ ap (above (n % 128 + 128)) (number_finds f (bits - 7) (n / 128) rest (omega arith) (omega arith))
          ∙ cond-false (eqb (n / 128) 0) None (found ((n / 128) * 128 + (n % 128 + 128 - 128)) rest) (ne_eqb (n / 128) 0 some)
          ∙ ap (λ (m : ℕ). found m rest) is
          )
    ]

pub number_complete : (bits n : ℕ) (rest : List ℕ) → n < 2 ^ bits → number_at bits (code n ++ rest) ≡ found n rest
number_complete bits n rest k = number_finds n bits n rest (omega arith) k
