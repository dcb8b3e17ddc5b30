-- What a reset, a net update, a tick and an access change make of a reserved login. Assumes nothing.
use Rattle.std.proofs.Common.{◌≡◌, ℕ, ◌+◌, Bool, true, false, cond, not, ◌&&◌, ltb, leb, Some, None, Option, sym, refl, ap, ◌∙◌, arith}
use Rattle.std.proofs.lemmas.Bool.{both_ways, and_parts, and_right, ltb-true, ne_eqb}
use Rattle.reader.specs.Ids.{none_id, none_eui, local}
use Rattle.reader.specs.declared.ids.NodeId.{NodeId}
use Rattle.reader.specs.declared.ids.Eui64.{Eui64}
use Rattle.bus.specs.Finding.{Finds, local_of}
use Rattle.bus.specs.FindingLemmas.{local_of_finds}
use Rattle.logins.specs.Logins.{holder, reserved, free_row, nowhere, moved, held_back, followed, ticked, after_event, row_after}
use Rattle.logins.specs.declared.rows.LoginEvent.TheVariants.{Reset, NetUpdate, Tick}
use Rattle.logins.specs.declared.rows.LoginRow.{LoginRow}
use Rattle.logins.specs.declared.rows.LoginState.TheVariants.{Free, Reserved, Active}
use Rattle.tables.specs.Events.{kept_row, reset_row}
use Rattle.rules.proofs.Calm.{unheld_unreserved}

-- if it is reserved, it is so from the start
abbrev pub FromTheStart : LoginRow → Type 0
FromTheStart r = reserved r ≡ true → r ≡ moved r nowhere (r.hold + 2)

-- a login at a node is not reserved
unreserved_at : (r : LoginRow) → none_id r.owner_id ≡ false → reserved r ≡ false
unreserved_at r e = ap (λ (b : Bool). holder r && b) e ∙ and_right (holder r) false refl

pub net_update_starts : (r : LoginRow) → FromTheStart (row_after r NetUpdate)
net_update_starts r = go (none_eui r.owner_eui_64) (none_id r.owner_id) refl where
  go : (e i : Bool) → none_eui r.owner_eui_64 ≡ e → FromTheStart (after_event (cond e Free (cond i Reserved Active)) NetUpdate r)
  go true i p = λ h. absurd (both_ways (reserved r) (unheld_unreserved r (ap not p)) h)
  go false true p = λ h. refl
  go false false p = λ h. refl

-- what is found on the local bus is a node
is_node : (shows : NodeId → Option Eui64) (eui : Eui64) (found : Option NodeId) → Finds shows eui found → (id : NodeId) → found ≡ Some id → none_id id ≡ false
is_node shows eui None f id e = absurd (let z : ◌≡◌ {A = ℕ} 0 1 = cc in omega arith)
is_node shows eui (Some j) f id e =
    let same : j ≡ id = cc in
    let p = and_parts (leb 0xFFC0 j.0) (ltb j.0 0xFFFF) f.0 in
    let below = ltb-true j.0 0xFFFF p.1 in
    ap none_id (sym same) ∙ ne_eqb j.0 0xFFFF (λ q. omega arith)

module _ (r : LoginRow) where
  active_starts : (a b : Bool) (found : Option NodeId) → none_id r.owner_id ≡ false → ((id : NodeId) → found ≡ Some id → none_id id ≡ false)
      → FromTheStart (cond a (cond b (followed r found) r) (held_back r))
  active_starts true true (Some id) here node = λ h. absurd (both_ways (reserved (moved r id 0)) (unreserved_at (moved r id 0) (node id refl)) h)
  active_starts true true None here node = λ h. refl
  active_starts true false found here node = λ h. absurd (both_ways (reserved r) (unreserved_at r here) h)
  active_starts false b found here node = λ h. refl

  reset_starts : (found : Option NodeId) → ((id : NodeId) → found ≡ Some id → none_id id ≡ false) → FromTheStart (row_after r (Reset found))
  reset_starts found node = go (none_eui r.owner_eui_64) (none_id r.owner_id) refl refl where
    go : (e i : Bool) → none_eui r.owner_eui_64 ≡ e → none_id r.owner_id ≡ i
        → FromTheStart (after_event (cond e Free (cond i Reserved Active)) (Reset found) r)
    go true i p q = λ h. absurd (both_ways (reserved r) (unheld_unreserved r (ap not p)) h)
    go false true p q = λ h. refl
    go false false p q = active_starts r.aware (local r.owner_id) found q node

pub bus_reset_starts : (shows : NodeId → Option Eui64) (r : LoginRow) → FromTheStart (reset_row shows r)
bus_reset_starts shows r =
    reset_starts r (local_of shows r.owner_eui_64) (is_node shows r.owner_eui_64 (local_of shows r.owner_eui_64) (local_of_finds shows r.owner_eui_64))

-- a tick and an access change make none reserved
pub tick_reserves_none : (r : LoginRow) → reserved r ≡ false → reserved (row_after r Tick) ≡ false
tick_reserves_none r h = go (none_eui r.owner_eui_64) (none_id r.owner_id) refl refl where
  go : (e i : Bool) → none_eui r.owner_eui_64 ≡ e → none_id r.owner_id ≡ i
      → reserved (after_event (cond e Free (cond i Reserved Active)) Tick r) ≡ false
  go true i p q = h
  go false true p q = absurd (both_ways (reserved r) h (ap (λ (b : Bool). not b && none_id r.owner_id) p ∙ q))
  go false false p q = h

pub change_reserves_none : (admits : Eui64 → ℕ → Bool) (r : LoginRow) → reserved r ≡ false → reserved (kept_row admits r) ≡ false
change_reserves_none admits r h = go (holder r && not (admits r.owner_eui_64 r.unit)) where
  go : (b : Bool) → reserved (cond b free_row r) ≡ false
  go true = refl
  go false = h

-- a reserved login loses a tick
pub tick_of_reserved : (r : LoginRow) → reserved r ≡ true → row_after r Tick ≡ ticked r
tick_of_reserved r h = go (none_eui r.owner_eui_64) (none_id r.owner_id) refl refl where
  go : (e i : Bool) → none_eui r.owner_eui_64 ≡ e → none_id r.owner_id ≡ i
      → after_event (cond e Free (cond i Reserved Active)) Tick r ≡ ticked r
  go true i p q = absurd (both_ways (reserved r) (unheld_unreserved r (ap not p)) h)
  go false true p q = refl
  go false false p q = absurd (both_ways (reserved r) (unreserved_at r q) h)
