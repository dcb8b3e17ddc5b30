-- The search for a free place, step by step. Assumes nothing.
use Rattle.std.proofs.Common.{◌≡◌, ℕ, zero, suc, ◌+◌, Bool, true, false, cond, Some, None, refl, ap, ◌∙◌, add-one, arith}
use Rattle.tables.specs.Searches.{next_free, after_place}

module _ (taken : ℕ → Bool) (size i : ℕ) where
  pub next_free_none : next_free taken size i 0 ≡ None
  unfolding next_free
  next_free_none = refl

  step : (n : ℕ) → next_free taken size i (suc n) ≡ cond (taken i) (next_free taken size (after_place size i) n) (Some i)
  unfolding next_free
  step n = refl

  pub next_free_more : (n m : ℕ) → m ≡ n + 1 → next_free taken size i m ≡ cond (taken i) (next_free taken size (after_place size i) n) (Some i)
  next_free_more n m e = ap (next_free taken size i) (e ∙ add-one n) ∙ step n

-- a place that is found is free
pub next_free_some : (taken : ℕ → Bool) (size i n j : ℕ) → next_free taken size i n ≡ Some j → taken j ≡ false
unfolding next_free
next_free_some taken size i zero j e = absurd (let z : ◌≡◌ {A = ℕ} 0 1 = cc in omega arith)
next_free_some taken size i (suc n) j e = go (taken i) refl e (next_free_some taken size (after_place size i) n j)
  where
    go : (b : Bool) → taken i ≡ b → cond b (next_free taken size (after_place size i) n) (Some i) ≡ Some j → (next_free taken size (after_place size i) n ≡ Some j → taken j ≡ false) → taken j ≡ false
    go true h k ih = ih k
    go false h k ih = let p : i ≡ j = cc in cc
