-- A login given or updated: claims still hold. Assumes nothing.
use Rattle.std.proofs.Common.{◌≡◌, ℕ, ◌≤◌, Bool, true, not, eqb, List, set, sym, refl, ap, ◌∙◌, subst, inl, inr, arith}
use Rattle.std.proofs.lemmas.Bool.{and_from, eq-eqb}
use Rattle.reader.specs.Ids.{none_eui}
use Rattle.reader.specs.declared.ids.Eui64.{Eui64}
use Rattle.logins.specs.Logins.{holder, free_row}
use Rattle.logins.specs.Rows.{row_at}
use Rattle.logins.specs.Tests.{among}
use Rattle.logins.specs.declared.rows.Holders.TheVariants.{OfUnit, ExclusiveTo, Owning}
use Rattle.logins.specs.declared.rows.LoginRow.{LoginRow}
use Rattle.tables.specs.Searches.{count}
use Rattle.tables.proofs.Setting.{set_either}
use Rattle.rules.specs.Claims.{Claims}
use Rattle.rules.proofs.Counting.{some_counted, one_counted}

abbrev exclusive_of : LoginRow → Bool
exclusive_of t = t.exclusive

abbrev unit_at : LoginRow → ℕ
unit_at t = t.unit

abbrev eui_number : Eui64 → ℕ
eui_number e = e.0

abbrev owner_of : LoginRow → ℕ
owner_of t = t.owner_eui_64.0

-- what a row that was written, or was left, says of a test
module _ (admits : Eui64 → ℕ → Bool) (rows : List LoginRow) (c : Claims admits rows) where
  abbrev admitted_of : LoginRow → Bool
  admitted_of t = admits t.owner_eui_64 t.unit

  of_unit : (j u : ℕ) → holder (row_at rows j) ≡ true → (row_at rows j).unit ≡ u → among (OfUnit u) (row_at rows j) ≡ true
  of_unit j u h e = and_from (holder (row_at rows j)) (eqb (row_at rows j).unit u) h (eq-eqb _ _ e)

  -- a new holder of a unit that is not claimed, admitted and for the first time
  module _ (slot : ℕ) (r : LoginRow) (allowed : admits r.owner_eui_64 r.unit ≡ true)
      (first : count (among (Owning r.owner_eui_64 r.unit)) rows ≤ 0)
      (alone : r.exclusive ≡ true → count (among (OfUnit r.unit)) rows ≤ 0)
      (open_to : count (among (ExclusiveTo r.unit)) rows ≤ 0) where
    not_owning : (j : ℕ) → holder (row_at rows j) ≡ true → (row_at rows j).owner_eui_64.0 ≡ r.owner_eui_64.0 → (row_at rows j).unit ≡ r.unit → ⊥
    not_owning j h o u =
        let t = and_from (holder (row_at rows j)) _ h (and_from (eqb (row_at rows j).unit r.unit) (eqb (row_at rows j).owner_eui_64.0 r.owner_eui_64.0) (eq-eqb _ _ u) (eq-eqb _ _ o)) in
        omega (arith, some_counted (among (Owning r.owner_eui_64 r.unit)) rows j free_row refl t)

    not_exclusive : (j : ℕ) → holder (row_at rows j) ≡ true → (row_at rows j).exclusive ≡ true → (row_at rows j).unit ≡ r.unit → ⊥
    not_exclusive j h x u =
        let t = and_from (holder (row_at rows j)) _ h (and_from (eqb (row_at rows j).unit r.unit) (row_at rows j).exclusive (eq-eqb _ _ u) x) in
        omega (arith, some_counted (among (ExclusiveTo r.unit)) rows j free_row refl t)

    not_of_unit : (j : ℕ) → r.exclusive ≡ true → holder (row_at rows j) ≡ true → (row_at rows j).unit ≡ r.unit → ⊥
    not_of_unit j x h u = omega (arith, alone x, some_counted (among (OfUnit r.unit)) rows j free_row refl (of_unit j r.unit h u))

    pub claims_new : Claims admits (set rows slot r)
    claims_new =
        record {
          exclusive_holder_is_alone = λ i j h k x u.
              elim (set_either rows slot r free_row i) [
                | inl a ↦
                    elim (set_either rows slot r free_row j) [
                      | inl b ↦ a.0 ∙ sym b.0
                      | inr b ↦ absurd (not_of_unit j (sym (ap exclusive_of a.1) ∙ x) (sym (ap holder b) ∙ k) (sym (ap unit_at b) ∙ sym u ∙ ap unit_at a.1))
                    ]
                | inr a ↦
                    elim (set_either rows slot r free_row j) [
                      | inl b ↦ absurd (not_exclusive i (sym (ap holder a) ∙ h) (sym (ap exclusive_of a) ∙ x) (sym (ap unit_at a) ∙ u ∙ ap unit_at b.1))
                      | inr b ↦ c.exclusive_holder_is_alone i j (sym (ap holder a) ∙ h) (sym (ap holder b) ∙ k) (sym (ap exclusive_of a) ∙ x) (sym (ap unit_at a) ∙ u ∙ ap unit_at b)
                    ]
              ];
          initiator_holds_once = λ i j h k o u.
              elim (set_either rows slot r free_row i) [
                | inl a ↦
                    elim (set_either rows slot r free_row j) [
                      | inl b ↦ a.0 ∙ sym b.0
                      | inr b ↦ absurd (not_owning j (sym (ap holder b) ∙ k) (sym (ap owner_of b) ∙ sym o ∙ ap owner_of a.1) (sym (ap unit_at b) ∙ sym u ∙ ap unit_at a.1))
                    ]
                | inr a ↦
                    elim (set_either rows slot r free_row j) [
                      | inl b ↦ absurd (not_owning i (sym (ap holder a) ∙ h) (sym (ap owner_of a) ∙ o ∙ ap owner_of b.1) (sym (ap unit_at a) ∙ u ∙ ap unit_at b.1))
                      | inr b ↦ c.initiator_holds_once i j (sym (ap holder a) ∙ h) (sym (ap holder b) ∙ k) (sym (ap owner_of a) ∙ o ∙ ap owner_of b) (sym (ap unit_at a) ∙ u ∙ ap unit_at b)
                    ]
              ];
          holders_are_admitted = λ i h.
              elim (set_either rows slot r free_row i) [
                | inl a ↦ ap admitted_of a.1 ∙ allowed
                | inr a ↦ ap admitted_of a ∙ c.holders_are_admitted i (sym (ap holder a) ∙ h)
              ];
        }

  -- a holder that is updated: its unit and owner stay, and it may claim the unit alone only if no one else holds it
  module _ (slot : ℕ) (r : LoginRow) (unit_stays : r.unit ≡ (row_at rows slot).unit) (owner_stays : r.owner_eui_64 ≡ (row_at rows slot).owner_eui_64)
      (alone : r.exclusive ≡ true → count (among (OfUnit (row_at rows slot).unit)) rows ≤ 1) where
    was_held : holder r ≡ true → holder (row_at rows slot) ≡ true
    was_held h = subst (λ (e : Eui64). not (none_eui e) ≡ true) owner_stays h

    pub claims_updated : Claims admits (set rows slot r)
    claims_updated =
        record {
          exclusive_holder_is_alone = λ i j h k x u.
              elim (set_either rows slot r free_row i) [
                | inl a ↦
                    elim (set_either rows slot r free_row j) [
                      | inl b ↦ a.0 ∙ sym b.0
                      | inr b ↦
                          a.0 ∙ one_counted (among (OfUnit (row_at rows slot).unit)) rows slot j free_row refl (alone (sym (ap exclusive_of a.1) ∙ x)) (of_unit slot _ (was_held (sym (ap holder a.1) ∙ h)) refl) (of_unit j _ (sym (ap holder b) ∙ k) (sym (ap unit_at b) ∙ sym u ∙ ap unit_at a.1 ∙ unit_stays))
                    ]
                | inr a ↦
                    elim (set_either rows slot r free_row j) [
                      | inl b ↦ c.exclusive_holder_is_alone i slot (sym (ap holder a) ∙ h) (was_held (sym (ap holder b.1) ∙ k)) (sym (ap exclusive_of a) ∙ x) (sym (ap unit_at a) ∙ u ∙ ap unit_at b.1 ∙ unit_stays) ∙ sym b.0
                      | inr b ↦ c.exclusive_holder_is_alone i j (sym (ap holder a) ∙ h) (sym (ap holder b) ∙ k) (sym (ap exclusive_of a) ∙ x) (sym (ap unit_at a) ∙ u ∙ ap unit_at b)
                    ]
              ];
          initiator_holds_once = λ i j h k o u.
              elim (set_either rows slot r free_row i) [
                | inl a ↦
                    elim (set_either rows slot r free_row j) [
                      | inl b ↦ a.0 ∙ sym b.0
                      | inr b ↦ a.0 ∙ c.initiator_holds_once slot j (was_held (sym (ap holder a.1) ∙ h)) (sym (ap holder b) ∙ k) (sym (ap eui_number owner_stays) ∙ sym (ap owner_of a.1) ∙ o ∙ ap owner_of b) (sym unit_stays ∙ sym (ap unit_at a.1) ∙ u ∙ ap unit_at b)
                    ]
                | inr a ↦
                    elim (set_either rows slot r free_row j) [
                      | inl b ↦ c.initiator_holds_once i slot (sym (ap holder a) ∙ h) (was_held (sym (ap holder b.1) ∙ k)) (sym (ap owner_of a) ∙ o ∙ ap owner_of b.1 ∙ ap eui_number owner_stays) (sym (ap unit_at a) ∙ u ∙ ap unit_at b.1 ∙ unit_stays) ∙ sym b.0
                      | inr b ↦ c.initiator_holds_once i j (sym (ap holder a) ∙ h) (sym (ap holder b) ∙ k) (sym (ap owner_of a) ∙ o ∙ ap owner_of b) (sym (ap unit_at a) ∙ u ∙ ap unit_at b)
                    ]
              ];
          holders_are_admitted = λ i h.
              elim (set_either rows slot r free_row i) [
                | inl a ↦
                    ap admitted_of a.1
                    ∙ (λ z. admits (owner_stays z) (unit_stays z))
                    ∙ c.holders_are_admitted slot (was_held (sym (ap holder a.1) ∙ h))
                | inr a ↦ ap admitted_of a ∙ c.holders_are_admitted i (sym (ap holder a) ∙ h)
              ];
        }
