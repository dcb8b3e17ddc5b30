-- Places that are apart stay so, and show each EUI-64 at one local ID at most. Assumes nothing.
use Rattle.std.specs.Prelude.{◌≡◌, ℕ, zero, suc, ◌+◌, ◌-◌, ◌<◌, ◌≤◌, Bool, true, false, cond, ◌⊎◌, List, [], ◌∷◌, length, replicate, Some, None, Err, Option, ◌==◌, ◌≢◌, nat_le, nat_lt, slice_index_or, slice_set, refl}
use Rattle.std.proofs.Common.{sym, ◌∙◌, ap, inl, inr, arith}
use Rattle.std.proofs.lemmas.Bool.{eqb-true, both_ways, and_parts, and_from, leb-true, ltb-true, le-leb, lt-ltb, cases_lt}
use Rattle.std.proofs.lemmas.List.{get_or_past}
use Rattle.std.proofs.lemmas.Option.{none-some}
use Rattle.reader.specs.declared.ids.NodeId.{NodeId}
use Rattle.reader.specs.declared.ids.Eui64.{Eui64}
use Rattle.reader.specs.declared.refusal.Refusal.TheVariants.{NotedElsewhere}
use Rattle.reader.specs.Ids.{local, none_eui}
use Rattle.bus.specs.Meaning.{granted, nobody, somebody}
use Rattle.bus.specs.Finding.{Finds, node_id, local_of}
use Rattle.bus.specs.Places.{place, Apart, seated, unless_elsewhere}
use Rattle.bus.specs.FindingLemmas.{local_of_finds, finds_local_of}

place_empty : (n k : ℕ) → place (replicate n nobody) k ≡ nobody
place_empty zero k = refl
place_empty (suc n) zero = refl
place_empty (suc n) (suc k) = place_empty n k

pub apart_empty : (n : ℕ) → Apart (replicate n nobody)
apart_empty n i j h = absurd (both_ways (none_eui (place (replicate n nobody) i)) h.1 (ap none_eui (place_empty n i)))

pub somebody_is : (p e : Eui64) (b : Bool) → none_eui p ≡ b → cond b None (Some p) ≡ Some e → (p ≡ e) × (none_eui e ≡ false)
somebody_is p e true k h = absurd (none-some e h)
somebody_is p e false k h = let q : p ≡ e = cc in (q, sym (ap none_eui q) ∙ k)

-- the number of a local ID is FFC0h more than its place
pub local_place : (i : NodeId) → local i ≡ true → (i.0 ≡ 0xFFC0 + (i.0 - 0xFFC0)) × (i.0 - 0xFFC0 < 63)
local_place i h =
    let p = and_parts (nat_le 0xFFC0 i.0) (nat_lt i.0 0xFFFF) h in
    let low = leb-true 0xFFC0 i.0 p.0 in
    let high = ltb-true i.0 0xFFFF p.1 in
    (omega arith, omega arith)

-- who may sit down where one sits already sits there
unless_elsewhere_same : (i j : NodeId) → unless_elsewhere i (Some j) ≡ granted → j.0 ≡ i.0
unless_elsewhere_same i j h = go (j.0 == i.0) refl h
  where
    go : (b : Bool) → (j.0 == i.0) ≡ b → cond b granted (Err (NotedElsewhere j)) ≡ granted → j.0 ≡ i.0
    go true e h = eqb-true j.0 i.0 e
    go false e h = let z : ◌≡◌ {A = ℕ} 0 1 = cc in omega arith

-- an element after a write is the written one or as it was
set_either : {X : Type 0} (xs : List X) (k : ℕ) (v d : X) (i : ℕ) → ((i ≡ k) × (slice_index_or (slice_set xs k v) i d ≡ v)) ⊎ (slice_index_or (slice_set xs k v) i d ≡ slice_index_or xs i d)
set_either [] k v d i = inr refl
set_either (x ∷ xs) zero v d zero = inl (refl, refl)
set_either (x ∷ xs) zero v d (suc i) = inr refl
set_either (x ∷ xs) (suc k) v d zero = inr refl
set_either (x ∷ xs) (suc k) v d (suc i) = elim (set_either xs k v d i) [ inl p ↦ inl (ap suc p.0, p.1) | inr p ↦ inr p ]

module _ (euis : List Eui64) where
  -- who is seated stands at the place, and is not nobody
  pub seated_some : (i : NodeId) (e : Eui64) → seated euis i ≡ Some e → (place euis (i.0 - 0xFFC0) ≡ e) × (none_eui e ≡ false)
  seated_some i e h = go (local i) h
    where
      go : (b : Bool) → cond b (somebody (place euis (i.0 - 0xFFC0))) None ≡ Some e → (place euis (i.0 - 0xFFC0) ≡ e) × (none_eui e ≡ false)
      go true m = somebody_is (place euis (i.0 - 0xFFC0)) e (none_eui (place euis (i.0 - 0xFFC0))) refl m
      go false m = absurd (none-some e m)

  pub finds_at : (k : ℕ) (e : Eui64) → k < 63 → place euis k ≡ e → none_eui e ≡ false → Finds (seated euis) e (Some (node_id (0xFFC0 + k)))
  finds_at k e h p n =
      let here : local (node_id (0xFFC0 + k)) ≡ true = and_from (nat_le 0xFFC0 (0xFFC0 + k)) (nat_lt (0xFFC0 + k) 0xFFFF) (le-leb 0xFFC0 (0xFFC0 + k) (omega arith)) (lt-ltb (0xFFC0 + k) 0xFFFF (omega arith)) in
      let same : 0xFFC0 + k - 0xFFC0 ≡ k = omega arith in
      (here, simp (here, same, p, n))

  pub finds_nowhere : (e : Eui64) → ((k : ℕ) → k < 63 → place euis k ≢ e) → Finds (seated euis) e None
  finds_nowhere e h = λ i f. h (i.0 - 0xFFC0) (local_place i f.0).1 (seated_some i e f.1).0

  pub finds_nobody : (e : Eui64) → none_eui e ≡ true → Finds (seated euis) e None
  finds_nobody e h = λ i f. both_ways (none_eui e) (seated_some i e f.1).1 h

  pub seated_apart : Apart euis → (e : Eui64) (i j : NodeId) → (local i ≡ true) × (seated euis i ≡ Some e) → (local j ≡ true) × (seated euis j ≡ Some e) → i ≡ j
  seated_apart w e i j f g =
      let p = seated_some i e f.1 in
      let q = seated_some j e g.1 in
      let k : i.0 - 0xFFC0 ≡ j.0 - 0xFFC0 = w (i.0 - 0xFFC0) (j.0 - 0xFFC0) (p.0 ∙ sym q.0, ap none_eui p.0 ∙ p.1) in
      let a = local_place i f.0 in
      let b = local_place j g.0 in
      let n : i.0 ≡ j.0 = omega arith in
      ap node_id n

  pub found_is : Apart euis → (e : Eui64) (o : Option NodeId) → Finds (seated euis) e o → o ≡ local_of (seated euis) e
  found_is w e o f = finds_local_of (seated euis) e (seated_apart w e) o f

  -- a write of an EUI-64 that stands nowhere else
  apart_set : Apart euis → (k : ℕ) (e : Eui64) → ((j : ℕ) → place euis j ≡ e → none_eui e ≡ false → j ≡ k) → Apart (slice_set euis k e)
  apart_set w k e only i j h =
      elim (set_either euis k e nobody i) [
        | inl p ↦ elim (set_either euis k e nobody j) [
          | inl q ↦ p.0 ∙ sym q.0
          | inr q ↦ p.0 ∙ sym (only j (sym q ∙ sym h.0 ∙ p.1) (sym (ap none_eui p.1) ∙ h.1))
        ]
        | inr p ↦ elim (set_either euis k e nobody j) [
          | inl q ↦ only i (sym p ∙ h.0 ∙ q.1) (sym (ap none_eui (h.0 ∙ q.1)) ∙ h.1) ∙ sym q.0
          | inr q ↦ w i j (sym p ∙ h.0 ∙ q, sym (ap none_eui p) ∙ h.1)
        ]
      ]

  only_seat : Apart euis → length euis ≡ 63 → (e : Eui64) (i : NodeId) (o : Option NodeId) → Finds (seated euis) e o → unless_elsewhere i o ≡ granted
      → (k : ℕ) → place euis k ≡ e → none_eui e ≡ false → k ≡ i.0 - 0xFFC0
  only_seat w size e i o f free k p n = go o f free (cases_lt k 63)
    where
      go : (o : Option NodeId) → Finds (seated euis) e o → unless_elsewhere i o ≡ granted → (k < 63) ⊎ (63 ≤ k) → k ≡ i.0 - 0xFFC0
      go (Some j) f free (inl h) =
          let same : node_id (0xFFC0 + k) ≡ j = seated_apart w e (node_id (0xFFC0 + k)) j (finds_at k e h p n) f in
          let number : 0xFFC0 + k ≡ j.0 = ap (λ m. m.0) same in
          let here = unless_elsewhere_same i j free in
          omega arith
      go None f free (inl h) = absurd (f (node_id (0xFFC0 + k)) (finds_at k e h p n))
      go o f free (inr h) = absurd (both_ways (none_eui e) n (sym (ap none_eui (sym (get_or_past euis k nobody (omega arith)) ∙ p))))

  pub apart_seat : Apart euis → length euis ≡ 63 → (e : Eui64) (i : NodeId) → unless_elsewhere i (local_of (seated euis) e) ≡ granted → Apart (slice_set euis (i.0 - 0xFFC0) e)
  apart_seat w size e i free = apart_set w (i.0 - 0xFFC0) e (only_seat w size e i (local_of (seated euis) e) (local_of_finds (seated euis) e) free)
