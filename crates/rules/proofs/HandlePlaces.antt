-- Places that a search finds. Assumes nothing.
use Rattle.std.proofs.Common.{◌≡◌, ℕ, zero, suc, ◌+◌, ◌<◌, Bool, true, false, cond, leb, List, [], ◌∷◌, get_or, Some, None, Option, refl, ap, subst, arith}
use Rattle.std.proofs.lemmas.Bool.{both_ways, eqb-true, leb-false}
use Rattle.reader.specs.declared.ids.Eui64.{Eui64}
use Rattle.bus.specs.Finding.{is_shown}
use Rattle.tables.specs.Searches.{first, next_free, after_place}

-- what is found passes the test
pub first_passes : {X : Type 0} (test : X → Bool) (k : ℕ) (xs : List X) (p : ℕ) (d : X) → first test k xs ≡ Some p → (j : ℕ) × (p ≡ k + j) × (test (get_or xs j d) ≡ true)
first_passes test k [] p d e = absurd (let z : ◌≡◌ {A = ℕ} 0 1 = cc in omega arith)
first_passes test k (x ∷ xs) p d e = go (test x) refl e (first_passes test (k + 1) xs p d)
  where
    go : (b : Bool) → test x ≡ b → cond b (Some k) (first test (k + 1) xs) ≡ Some p
        → (first test (k + 1) xs ≡ Some p → (j : ℕ) × (p ≡ k + 1 + j) × (test (get_or xs j d) ≡ true)) → (j : ℕ) × (p ≡ k + j) × (test (get_or (x ∷ xs) j d) ≡ true)
    go true t h ih = let z : k ≡ p = cc in (0, omega arith, t)
    go false t h ih = let w = ih h in (suc w.0, omega (arith, w.1), w.2)

pub first_found : {X : Type 0} (test : X → Bool) (xs : List X) (p : ℕ) (d : X) → first test 0 xs ≡ Some p → test (get_or xs p d) ≡ true
first_found test xs p d e =
    let w = first_passes test 0 xs p d e in
    let z : w.0 ≡ p = omega (arith, w.1) in
    subst (λ (j : ℕ). test (get_or xs j d) ≡ true) z w.2

-- the place after one is a place
pub after_below : (size i : ℕ) → 0 < size → after_place size i < size
after_below size i h = go (leb size (i + 1)) refl
  where
    go : (b : Bool) → leb size (i + 1) ≡ b → cond b 0 (i + 1) < size
    go true e = h
    go false e = leb-false size (i + 1) e

-- what is found is a place
pub next_free_below : (taken : ℕ → Bool) (size i n j : ℕ) → i < size → next_free taken size i n ≡ Some j → j < size
unfolding next_free
next_free_below taken size i zero j h e = absurd (let z : ◌≡◌ {A = ℕ} 0 1 = cc in omega arith)
next_free_below taken size i (suc n) j h e = go (taken i) e (next_free_below taken size (after_place size i) n j (after_below size i (omega arith)))
  where
    go : (b : Bool) → cond b (next_free taken size (after_place size i) n) (Some i) ≡ Some j → (next_free taken size (after_place size i) n ≡ Some j → j < size) → j < size
    go true k ih = ih k
    go false k ih = let p : i ≡ j = cc in omega arith

pub is_shown_some : (o : Option Eui64) (eui : Eui64) → is_shown o eui ≡ true → o ≡ Some eui
is_shown_some (Some e) eui h = ap (λ n. Some (record { 0 = n })) (eqb-true e.0 eui.0 h)
is_shown_some None eui h = absurd (both_ways false refl h)
