-- A login or a handle that is given: what holds of handles still does. Assumes nothing.
use Rattle.std.proofs.Common.{◌≡◌, ℕ, ◌+◌, ◌-◌, ◌<◌, true, false, List, length, set, Option, sym, refl, ap, ◌∙◌, subst, inl, inr, arith}
use Rattle.std.proofs.lemmas.List.{get_or-set_same}
use Rattle.std.proofs.lemmas.Bool.{both_ways}
use Rattle.reader.specs.declared.ids.NodeId.{NodeId}
use Rattle.reader.specs.declared.ids.Eui64.{Eui64}
use Rattle.logins.specs.Logins.{free_row}
use Rattle.logins.specs.Rows.{row_at, handle_at, free_handle, in_use}
use Rattle.logins.specs.declared.rows.Handle.{Handle}
use Rattle.logins.specs.declared.rows.LoginRow.{LoginRow}
use Rattle.tables.proofs.Setting.{set_either}
use Rattle.rules.specs.HandleClaims.{AwareHolder, OwnHandle, HandleClaims, login_of}
use Rattle.rules.proofs.HandleThinning.{OwnerShown, HandleShown, in_use_as, in_use_of}

-- all but that aware holders have an own handle
pub record Linked (shows : NodeId → Option Eui64) (rows : List LoginRow) (handles : List Handle) : Type 0 where
  pub belongs : (p : ℕ) → in_use (handle_at handles p) ≡ true → AwareHolder (login_of rows (handle_at handles p))
  pub one : (p q : ℕ) → in_use (handle_at handles p) ≡ true → (handle_at handles p).own ≡ true → (handle_at handles q).own ≡ true
      → (handle_at handles p).login ≡ (handle_at handles q).login → p ≡ q
  pub own : (p : ℕ) → in_use (handle_at handles p) ≡ true → (handle_at handles p).own ≡ true
      → (handle_at handles p).eui_64 ≡ (login_of rows (handle_at handles p)).owner_eui_64
  pub owners : (i : ℕ) → OwnerShown shows (row_at rows i)
  pub shown : (p : ℕ) → HandleShown shows (handle_at handles p)

-- an aware holder has its own handle
abbrev HasOwn : List LoginRow → List Handle → Type 0
HasOwn rows handles = (i : ℕ) → AwareHolder (row_at rows i) → (p : ℕ) × OwnHandle (i + 1) (row_at rows i).owner_eui_64 (handle_at handles p)

pub linked : {shows : NodeId → Option Eui64} {rows : List LoginRow} {handles : List Handle} → HandleClaims shows rows handles → Linked shows rows handles
linked c =
    record {
      belongs = c.handle_belongs_to_an_aware_holder;
      one = c.own_handle_is_one;
      own = c.own_handle_has_its_owner;
      owners = c.owner_is_shown;
      shown = c.handle_is_shown;
    }

whole : {shows : NodeId → Option Eui64} {rows : List LoginRow} {handles : List Handle} → Linked shows rows handles → HasOwn rows handles → HandleClaims shows rows handles
whole l own =
    record {
      handle_belongs_to_an_aware_holder = l.belongs;
      aware_holder_has_its_own_handle = own;
      own_handle_is_one = l.one;
      own_handle_has_its_owner = l.own;
      owner_is_shown = l.owners;
      handle_is_shown = l.shown;
    }

module _ (shows : NodeId → Option Eui64) (rows : List LoginRow) (handles : List Handle) where
  -- a login that has no handle is written
  module _ (c : Linked shows rows handles) (slot : ℕ) (t : LoginRow) (was_not : AwareHolder (row_at rows slot) → ⊥) (owner : OwnerShown shows t) where
    -- a handle in use is of another login
    other_login : (p : ℕ) → in_use (handle_at handles p) ≡ true → login_of (set rows slot t) (handle_at handles p) ≡ login_of rows (handle_at handles p)
    other_login p u =
        elim (set_either rows slot t free_row ((handle_at handles p).login - 1)) [
          | inl w ↦ absurd (was_not (subst (λ (j : ℕ). AwareHolder (row_at rows j)) w.0 (c.belongs p u)))
          | inr w ↦ w
        ]

    pub linked_row : Linked shows (set rows slot t) handles
    linked_row =
        record {
          belongs = λ p u. subst AwareHolder (sym (other_login p u)) (c.belongs p u);
          one = c.one;
          own = λ p u x. c.own p u x ∙ ap (λ (r : LoginRow). r.owner_eui_64) (sym (other_login p u));
          owners = λ i.
              elim (set_either rows slot t free_row i) [
                | inl w ↦ subst (OwnerShown shows) (sym w.1) owner
                | inr w ↦ subst (OwnerShown shows) (sym w) (c.owners i)
              ];
          shown = c.shown;
        }

  -- a handle of an aware holder is put at a free place, an own one if there is none
  module _ (c : Linked shows rows handles) (place : ℕ) (h : Handle) (belongs : AwareHolder (login_of rows h))
      (first : (p : ℕ) → in_use (handle_at handles p) ≡ true → (handle_at handles p).own ≡ true → h.own ≡ true → (handle_at handles p).login ≡ h.login → ⊥)
      (owner : h.own ≡ true → h.eui_64 ≡ (login_of rows h).owner_eui_64) (there : HandleShown shows h) where
    abbrev given : ℕ → Handle
    given p = handle_at (set handles place h) p

    pub linked_handle : Linked shows rows (set handles place h)
    linked_handle =
        record {
          belongs = λ p.
              elim (set_either handles place h free_handle p) [
                | inl w ↦ λ u. subst (λ (k : Handle). AwareHolder (login_of rows k)) (sym w.1) belongs
                | inr w ↦ subst (λ (k : Handle). in_use k ≡ true → AwareHolder (login_of rows k)) (sym w) (c.belongs p)
              ];
          one = λ p q u x y e.
              elim (set_either handles place h free_handle p) [
                | inl v ↦
                    elim (set_either handles place h free_handle q) [
                      | inl w ↦ v.0 ∙ sym w.0
                      | inr w ↦
                          let f : (given q).login ≡ h.login = sym e ∙ ap (λ (k : Handle). k.login) v.1 in
                          absurd (first q (sym (ap in_use w) ∙ in_use_as (given q) (given p) e u) (sym (ap (λ (k : Handle). k.own) w) ∙ y) (sym (ap (λ (k : Handle). k.own) v.1) ∙ x) (sym (ap (λ (k : Handle). k.login) w) ∙ f))
                    ]
                | inr v ↦
                    elim (set_either handles place h free_handle q) [
                      | inl w ↦
                          absurd (first p (sym (ap in_use v) ∙ u) (sym (ap (λ (k : Handle). k.own) v) ∙ x) (sym (ap (λ (k : Handle). k.own) w.1) ∙ y) (sym (ap (λ (k : Handle). k.login) v) ∙ e ∙ ap (λ (k : Handle). k.login) w.1))
                      | inr w ↦
                          c.one p q (sym (ap in_use v) ∙ u) (sym (ap (λ (k : Handle). k.own) v) ∙ x) (sym (ap (λ (k : Handle). k.own) w) ∙ y) (sym (ap (λ (k : Handle). k.login) v) ∙ e ∙ ap (λ (k : Handle). k.login) w)
                    ]
              ];
          own = λ p.
              elim (set_either handles place h free_handle p) [
                | inl w ↦ subst (λ (k : Handle). in_use k ≡ true → k.own ≡ true → k.eui_64 ≡ (login_of rows k).owner_eui_64) (sym w.1) (λ u x. owner x)
                | inr w ↦ subst (λ (k : Handle). in_use k ≡ true → k.own ≡ true → k.eui_64 ≡ (login_of rows k).owner_eui_64) (sym w) (c.own p)
              ];
          owners = c.owners;
          shown = λ p.
              elim (set_either handles place h free_handle p) [
                | inl w ↦ subst (HandleShown shows) (sym w.1) there
                | inr w ↦ subst (HandleShown shows) (sym w) (c.shown p)
              ];
        }

-- a handle in use is not written over at a free place
still_there : (handles : List Handle) (place : ℕ) (h : Handle) → in_use (handle_at handles place) ≡ false → (i : ℕ) (owner : Eui64) → (p : ℕ) × OwnHandle (i + 1) owner (handle_at handles p)
    → (p : ℕ) × OwnHandle (i + 1) owner (handle_at (set handles place h) p)
still_there handles place h free i owner w =
    elim (set_either handles place h free_handle w.0) [
      | inl v ↦ absurd (both_ways (in_use (handle_at handles place)) free (subst (λ (j : ℕ). in_use (handle_at handles j) ≡ true) v.0 (in_use_of (handle_at handles w.0) i w.1.of_login)))
      | inr v ↦ (w.0, subst (OwnHandle (i + 1) owner) (sym v) w.1)
    ]

module _ (shows : NodeId → Option Eui64) (rows : List LoginRow) (handles : List Handle) (c : HandleClaims shows rows handles) where
  -- an unaware login is given
  pub claims_unaware : (slot : ℕ) (t : LoginRow) → (AwareHolder (row_at rows slot) → ⊥) → OwnerShown shows t → t.aware ≡ false → HandleClaims shows (set rows slot t) handles
  claims_unaware slot t was_not owner unaware =
      whole (linked_row shows rows handles (linked c) slot t was_not owner) (
      λ i.
      elim (set_either rows slot t free_row i) [
        | inl w ↦ λ a. absurd (both_ways t.aware unaware (sym (ap (λ (r : LoginRow). r.aware) w.1) ∙ a.is_aware))
        | inr w ↦
            subst (λ (r : LoginRow). AwareHolder r → (p : ℕ) × OwnHandle (i + 1) r.owner_eui_64 (handle_at handles p)) (sym w) (c.aware_holder_has_its_own_handle i)
      ]
      )

  -- an aware login is given, with its own handle
  pub claims_aware : (slot : ℕ) (t : LoginRow) (place : ℕ) (node : NodeId) → slot < length rows → place < length handles → (AwareHolder (row_at rows slot) → ⊥)
      → in_use (handle_at handles place) ≡ false → OwnerShown shows t → AwareHolder t
      → HandleShown shows (record { login = slot + 1; eui_64 = t.owner_eui_64; node = node; own = true })
      → HandleClaims shows (set rows slot t) (set handles place (record { login = slot + 1; eui_64 = t.owner_eui_64; node = node; own = true }))
  claims_aware slot t place node in_rows in_handles was_not free owner aware there =
      let h : Handle = record { login = slot + 1; eui_64 = t.owner_eui_64; node = node; own = true } in
      let r = linked_row shows rows handles (linked c) slot t was_not owner in
      let z : slot + 1 - 1 ≡ slot = omega arith in
      let here : login_of (set rows slot t) h ≡ t = ap (row_at (set rows slot t)) z ∙ get_or-set_same rows slot t free_row in_rows in
      whole (
      linked_handle shows (set rows slot t) handles r place h (subst AwareHolder (sym here) aware) (
      λ p u x y e. was_not (subst (λ (j : ℕ). AwareHolder (row_at rows j)) (ap (λ (n : ℕ). n - 1) e ∙ z) (c.handle_belongs_to_an_aware_holder p u))
      ) (λ x. ap (λ (k : LoginRow). k.owner_eui_64) (sym here)) there
      ) (
      λ i.
      elim (set_either rows slot t free_row i) [
        | inl w ↦ λ a. (
          place,
          subst (OwnHandle (i + 1) _) (sym (get_or-set_same handles place h free_handle in_handles)) (
              record { of_login = ap (λ (n : ℕ). n + 1) (sym w.0); is_own = refl; has_owner = ap (λ (k : LoginRow). k.owner_eui_64) (sym w.1) }
              ),
        )
        | inr w ↦ λ a.
            still_there handles place h free i _ (
            subst (λ (k : LoginRow). AwareHolder k → (p : ℕ) × OwnHandle (i + 1) k.owner_eui_64 (handle_at handles p)) (sym w) (c.aware_holder_has_its_own_handle i) a
            )
      ]
      )

  -- a handle for another node is given to an aware holder
  pub claims_other : (place : ℕ) (h : Handle) → in_use (handle_at handles place) ≡ false → AwareHolder (login_of rows h) → h.own ≡ false → HandleShown shows h
      → HandleClaims shows rows (set handles place h)
  claims_other place h free belongs other there =
      whole (
      linked_handle shows rows handles (linked c) place h belongs (λ p u x y e. both_ways h.own other y) (λ x. absurd (both_ways h.own other x)) there
      ) (λ i a. still_there handles place h free i _ (c.aware_holder_has_its_own_handle i a))
