-- An answer that is right is the first local ID that shows the EUI-64. Assumes nothing.
use Rattle.std.specs.Prelude.{◌≡◌, ℕ, zero, suc, ◌+◌, ◌<◌, ◌≤◌, Bool, true, false, cond, Some, None, Option, ◌≢◌, nat_le, nat_lt}
use Rattle.std.proofs.Math.Path.{refl}
use Rattle.std.proofs.Common.{◌∙◌, ap, inl, inr}
use native.Mathlib.Omega.{arith}
use Rattle.std.proofs.lemmas.Bool.{eqb-true, eq-eqb, both_ways, cases_eq, and_parts, and_from, leb-true, ltb-true, le-leb, lt-ltb}
use Rattle.reader.specs.declared.ids.NodeId.{NodeId}
use Rattle.reader.specs.declared.ids.Eui64.{Eui64}
use Rattle.reader.specs.Ids.{local}
use Rattle.bus.specs.Finding.{Finds, node_id, is_shown, first_from, local_of}

is_shown_some : (o : Option Eui64) (eui : Eui64) → is_shown o eui ≡ true → o ≡ Some eui
is_shown_some (Some e) eui h = ap (λ n. Some (record { 0 = n })) (eqb-true e.0 eui.0 h)
is_shown_some None eui h = absurd (both_ways false refl h)

is_shown_not : (o : Option Eui64) (eui : Eui64) → is_shown o eui ≡ false → o ≢ Some eui
is_shown_not o eui h e = both_ways (is_shown o eui) h (ap (λ p. is_shown p eui) e ∙ eq-eqb eui.0 eui.0 refl)

module _ (shows : NodeId → Option Eui64) (eui : Eui64) where
  -- what the search through `count` node IDs from `i` on comes to
  abbrev Found : ℕ → ℕ → Option NodeId → Type 0
  Found i count (Some j) = (i ≤ j.0) × (j.0 < i + count) × (shows j ≡ Some eui)
  Found i count None = (j : ℕ) → i ≤ j → j < i + count → shows (node_id j) ≢ Some eui

  passed : (i count : ℕ) (o : Option NodeId) → (shows (node_id i) ≢ Some eui) → Found (suc i) count o → Found i (suc count) o
  passed i count (Some j) h f = (omega arith, omega arith, f.2)
  passed i count None h f = λ j l u e. elim (cases_eq i j) [ inl p ↦ h (ap (λ n. shows (node_id n)) p ∙ e) | inr p ↦ f j (omega arith) (omega arith) e ]

  one : (i count : ℕ) (o : Option NodeId) (b : Bool) → is_shown (shows (node_id i)) eui ≡ b → Found (suc i) count o → Found i (suc count) (cond b (Some (node_id i)) o)
  one i count o true e f = (omega arith, omega arith, is_shown_some (shows (node_id i)) eui e)
  one i count o false e f = passed i count o (is_shown_not (shows (node_id i)) eui e) f

  found : (i count : ℕ) → Found i count (first_from shows eui i count)
  unfolding first_from
  found i zero = λ j l u e. omega arith
  found i (suc count) = one i count (first_from shows eui (suc i) count) (is_shown (shows (node_id i)) eui) refl (found (suc i) count)

  found_finds : (o : Option NodeId) → Found 0xFFC0 63 o → Finds shows eui o
  found_finds (Some j) f = (and_from (nat_le 0xFFC0 j.0) (nat_lt j.0 0xFFFF) (le-leb 0xFFC0 j.0 f.0) (lt-ltb j.0 0xFFFF (omega arith)), f.2)
  found_finds None f = λ j h.
      let p = and_parts (nat_le 0xFFC0 j.0) (nat_lt j.0 0xFFFF) h.0 in
      let low = leb-true 0xFFC0 j.0 p.0 in
      let high = ltb-true j.0 0xFFFF p.1 in
      f j.0 low (omega arith) h.1

  pub local_of_finds : Finds shows eui (local_of shows eui)
  local_of_finds = found_finds (local_of shows eui) (found 0xFFC0 63)

  module _ (apart : (i j : NodeId) → (local i ≡ true) × (shows i ≡ Some eui) → (local j ≡ true) × (shows j ≡ Some eui) → i ≡ j) where
    finds_same : (o p : Option NodeId) → Finds shows eui o → Finds shows eui p → o ≡ p
    finds_same (Some i) (Some j) f h = ap Some (apart i j f h)
    finds_same (Some i) None f h = absurd (h i f)
    finds_same None (Some j) f h = absurd (f j h)
    finds_same None None f h = refl

    pub finds_local_of : (o : Option NodeId) → Finds shows eui o → o ≡ local_of shows eui
    finds_local_of o f = finds_same o (local_of shows eui) f local_of_finds
