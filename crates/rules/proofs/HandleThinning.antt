-- Logins and handles that were freed or moved, and nothing else: what holds of handles still does. Assumes nothing.
use Rattle.std.proofs.Common.{◌≡◌, ℕ, ◌+◌, ◌-◌, ◌<◌, true, not, eqb, List, Some, Option, sym, refl, ap, ◌∙◌, subst, arith}
use Rattle.std.proofs.lemmas.Bool.{ne_eqb, not_from_false}
use Rattle.reader.specs.declared.ids.NodeId.{NodeId}
use Rattle.reader.specs.declared.ids.Eui64.{Eui64}
use Rattle.logins.specs.Logins.{holder}
use Rattle.logins.specs.Rows.{row_at, handle_at, in_use}
use Rattle.logins.specs.declared.rows.Handle.{Handle}
use Rattle.logins.specs.declared.rows.LoginRow.{LoginRow}
use Rattle.rules.specs.HandleClaims.{AwareHolder, OwnHandle, HandleClaims, login_of}

-- where the login has an owner ID, its owner is shown
abbrev pub OwnerShown : (NodeId → Option Eui64) → LoginRow → Type 0
OwnerShown shows r = holder r ≡ true → r.owner_id.0 < 0xFFFF → shows r.owner_id ≡ Some r.owner_eui_64

abbrev pub HandleShown : (NodeId → Option Eui64) → Handle → Type 0
HandleShown shows h = in_use h ≡ true → h.node.0 < 0xFFFF → shows h.node ≡ Some h.eui_64

-- the same holder as before, and aware only if it was
pub record Still (r t : LoginRow) : Type 0 where
  pub held : holder r ≡ true
  pub owner : t.owner_eui_64 ≡ r.owner_eui_64
  pub was_aware : t.aware ≡ true → r.aware ≡ true

-- freed, or the same holder
abbrev pub Follows : LoginRow → LoginRow → Type 0
Follows r t = holder t ≡ true → Still r t

-- the same handle, wherever it is now
pub record SameHandle (h k : Handle) : Type 0 where
  pub login : k.login ≡ h.login
  pub eui : k.eui_64 ≡ h.eui_64
  pub own : k.own ≡ h.own

-- freed, or the same handle
abbrev pub Remains : Handle → Handle → Type 0
Remains h k = in_use k ≡ true → SameHandle h k

pub same_handle : (h : Handle) → SameHandle h h
same_handle h = record { login = refl; eui = refl; own = refl }

pub in_use_as : (h k : Handle) → k.login ≡ h.login → in_use k ≡ true → in_use h ≡ true
in_use_as h k e u = ap (λ (n : ℕ). not (eqb n 0)) (sym e) ∙ u

pub in_use_of : (h : Handle) (i : ℕ) → h.login ≡ i + 1 → in_use h ≡ true
in_use_of h i e = not_from_false (eqb h.login 0) (ne_eqb h.login 0 (λ z. omega arith))

module _ (before shows : NodeId → Option Eui64) (rows after : List LoginRow) (handles left : List Handle) (c : HandleClaims before rows handles)
    (follow : (i : ℕ) → Follows (row_at rows i) (row_at after i))
    (remain : (p : ℕ) → Remains (handle_at handles p) (handle_at left p))
    (owners : (i : ℕ) → OwnerShown shows (row_at after i))
    (shown : (p : ℕ) → HandleShown shows (handle_at left p)) where
  -- no handle in use lost its login, and no aware holder its own handle
  module _ (belongs : (p : ℕ) → in_use (handle_at left p) ≡ true → AwareHolder (login_of after (handle_at left p)))
      (stays : (p : ℕ) → in_use (handle_at handles p) ≡ true → (handle_at handles p).own ≡ true → AwareHolder (login_of after (handle_at handles p)) → SameHandle (handle_at handles p) (handle_at left p)) where
    has_own : (i : ℕ) → AwareHolder (row_at after i) → (p : ℕ) × OwnHandle (i + 1) (row_at after i).owner_eui_64 (handle_at left p)
    has_own i a =
        let f = follow i a.held in
        let w = c.aware_holder_has_its_own_handle i (record { held = f.held; is_aware = f.was_aware a.is_aware }) in
        let h = handle_at handles w.0 in
        let o = w.1 in
        let e : i ≡ h.login - 1 = omega (arith, o.of_login) in
        let s = stays w.0 (in_use_of h i o.of_login) o.is_own (subst (λ (j : ℕ). AwareHolder (row_at after j)) e a) in
        (w.0, record { of_login = s.login ∙ o.of_login; is_own = s.own ∙ o.is_own; has_owner = s.eui ∙ o.has_owner ∙ sym f.owner })

    pub claims_thinned : HandleClaims shows after left
    claims_thinned =
        record {
          handle_belongs_to_an_aware_holder = belongs;
          aware_holder_has_its_own_handle = has_own;
          own_handle_is_one = λ p q u x y e.
              let s = remain p u in
              let t = remain q (in_use_as (handle_at left q) (handle_at left p) e u) in
              c.own_handle_is_one p q (in_use_as (handle_at handles p) (handle_at left p) s.login u) (sym s.own ∙ x) (sym t.own ∙ y) (sym s.login ∙ e ∙ t.login);
          own_handle_has_its_owner = λ p u x.
              let s = remain p u in
              let f = follow ((handle_at left p).login - 1) (belongs p u).held in
              s.eui
              ∙ c.own_handle_has_its_owner p (in_use_as (handle_at handles p) (handle_at left p) s.login u) (sym s.own ∙ x)
              ∙ ap (λ (n : ℕ). (row_at rows (n - 1)).owner_eui_64) (sym s.login)
              ∙ sym f.owner;
          owner_is_shown = owners;
          handle_is_shown = shown;
        }

  -- aware holders stay so, and own handles stay
  module _ (keep : (i : ℕ) → AwareHolder (row_at rows i) → AwareHolder (row_at after i))
      (stays : (p : ℕ) → (handle_at handles p).own ≡ true → SameHandle (handle_at handles p) (handle_at left p)) where
    pub claims_kept : HandleClaims shows after left
    claims_kept =
        claims_thinned (
        λ p u.
        let s = remain p u in
        keep ((handle_at left p).login - 1) (
        subst (λ (n : ℕ). AwareHolder (row_at rows (n - 1))) (sym s.login) (
        c.handle_belongs_to_an_aware_holder p (in_use_as (handle_at handles p) (handle_at left p) s.login u)
        )
        )
        ) (λ p u x a. stays p x)
