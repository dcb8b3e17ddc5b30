-- A reserved login stays as it is, and no other becomes reserved: rows one by one. Assumes nothing.
use Rattle.std.proofs.Common.{◌≡◌, ℕ, zero, suc, ◌-◌, ◌≤◌, Bool, true, false, cond, not, ◌&&◌, eqb, leb, List, [], ◌∷◌, set, Some, None, sym, refl, ap, ◌∙◌, subst, inl, inr, arith}
use Rattle.std.proofs.lemmas.Bool.{both_ways, and_parts, and_left, and_right, leb-true, not-true}
use Rattle.reader.specs.Ids.{none_id, none_eui}
use Rattle.reader.specs.declared.ids.NodeId.{NodeId}
use Rattle.logins.specs.Logins.{holder, active, reserved, free_row, moved, after_event, row_after}
use Rattle.logins.specs.Rows.{row_at}
use Rattle.logins.specs.declared.rows.LoginEvent.TheVariants.{Reconnect as Reconnected}
use Rattle.logins.specs.declared.rows.LoginRow.{LoginRow}
use Rattle.logins.specs.declared.rows.LoginState.TheVariants.{Free, Reserved, Active}
use Rattle.tables.specs.Books.{Book}
use Rattle.tables.proofs.Setting.{set_either}
use Rattle.rules.specs.Scenes.{own_login}

-- a reserved login stays as it is, and no other becomes reserved
pub record Calm (before after : LoginRow) : Type 0 where
  pub stays : reserved before ≡ true → after ≡ before
  pub none_new : reserved before ≡ false → reserved after ≡ false

pub calm_same : (r : LoginRow) → Calm r r
calm_same r = record { stays = λ h. refl; none_new = λ h. h }

-- neither before nor after
pub calm_apart : (before after : LoginRow) → reserved before ≡ false → reserved after ≡ false → Calm before after
calm_apart before after p q = record { stays = λ h. absurd (both_ways (reserved before) p h); none_new = λ h. q }

pub calm_to : (before after other : LoginRow) → after ≡ other → Calm before other → Calm before after
calm_to before after other e c = subst (Calm before) (sym e) c

-- one row is written, and it is neither reserved before nor after
pub calm_set : (rows : List LoginRow) (slot : ℕ) (t : LoginRow) → reserved (row_at rows slot) ≡ false → reserved t ≡ false → (k : ℕ) → Calm (row_at rows k) (row_at (set rows slot t) k)
calm_set rows slot t p q k =
    elim (set_either rows slot t free_row k) [
      | inl w ↦ calm_apart (row_at rows k) _ (ap (λ (i : ℕ). reserved (row_at rows i)) w.0 ∙ p) (ap reserved w.1 ∙ q)
      | inr w ↦ calm_to (row_at rows k) _ (row_at rows k) w (calm_same (row_at rows k))
    ]

-- no holder is not reserved, and no active login is
pub unheld_unreserved : (r : LoginRow) → holder r ≡ false → reserved r ≡ false
unheld_unreserved r h = and_left (holder r) (none_id r.owner_id) h

pub active_unreserved : (r : LoginRow) → active r ≡ true → reserved r ≡ false
active_unreserved r a =
    let p = and_parts (holder r) (not (none_id r.owner_id)) a in
    let n : none_id r.owner_id ≡ false = not-true (none_id r.owner_id) p.1 in
    ap (λ (b : Bool). holder r && b) n ∙ and_right (holder r) false refl

-- the own active login is active
pub record Own (b : Book) (id slot : ℕ) : Type 0 where
  pub is_active : active (row_at b.logins slot) ≡ true
  pub numbered : 1 ≤ id
  pub at : slot ≡ id - 1

pub own_is_active : (b : Book) (source : NodeId) (id slot : ℕ) → own_login b source id ≡ Some slot → Own b id slot
own_is_active b source id slot e =
    let row = row_at b.logins (id - 1) in
    go (leb 1 id && (active row && eqb row.owner_id.0 source.0)) refl e where
      go : (t : Bool) → (leb 1 id && (active (row_at b.logins (id - 1)) && eqb (row_at b.logins (id - 1)).owner_id.0 source.0)) ≡ t
          → cond t (Some (id - 1)) None ≡ Some slot → Own b id slot
      go true p q =
          let is : id - 1 ≡ slot = cc in
          let a = (and_parts (active (row_at b.logins (id - 1))) _ (and_parts (leb 1 id) _ p).1).0 in
          record { is_active = subst (λ (k : ℕ). active (row_at b.logins k) ≡ true) is a; numbered = leb-true 1 id (and_parts (leb 1 id) _ p).0; at = sym is }
      go false p q = absurd (let z : ◌≡◌ {A = ℕ} 0 1 = cc in omega arith)

-- what is written over a holder is there
pub set_held : (rows : List LoginRow) (k : ℕ) (t : LoginRow) → holder (row_at rows k) ≡ true → row_at (set rows k t) k ≡ t
set_held [] k t h = absurd (both_ways false refl h)
set_held (r ∷ rows) zero t h = refl
set_held (r ∷ rows) (suc k) t h = set_held rows k t h

-- a holder that reconnects at a node is not reserved
pub returned : (r : LoginRow) (source : NodeId) → holder r ≡ true → none_id source ≡ false → reserved (row_after r (Reconnected source)) ≡ false
returned r source held at_node = go (none_eui r.owner_eui_64) (none_id r.owner_id) refl where
  there : reserved (moved r source 0) ≡ false
  there = ap (λ (b : Bool). not (none_eui r.owner_eui_64) && b) at_node ∙ and_right (not (none_eui r.owner_eui_64)) false refl

  go : (e i : Bool) → none_eui r.owner_eui_64 ≡ e → reserved (after_event (cond e Free (cond i Reserved Active)) (Reconnected source) r) ≡ false
  go true i p = absurd (both_ways (holder r) (ap not p) held)
  go false true p = there
  go false false p = there
