-- What each event makes of one login or one handle: the same one or a free one, shown where it is. Assumes that the bus is lawful.
use Rattle.std.proofs.Common.{◌≡◌, ℕ, ◌%◌, ◌<◌, Bool, true, false, cond, not, ◌&&◌, eqb, ltb, leb, Some, None, Option, unwrap_or, refl, ◌∙◌, inl, inr, arith}
use Rattle.std.proofs.lemmas.Bool.{both_ways, and_from, and_cases, cases_Bool, not_from_true, not_from_false, lt-ltb, leb-false, cond_both}
use Rattle.reader.specs.Ids.{none_id, none_eui, local}
use Rattle.reader.specs.declared.ids.NodeId.{NodeId}
use Rattle.reader.specs.declared.ids.Eui64.{Eui64}
use Rattle.bus.specs.Finding.{Finds, local_of}
use Rattle.bus.specs.Meaning.{BusModel, Lawful}
use Rattle.bus.specs.FindingLemmas.{local_of_finds}
use Rattle.logins.specs.Logins.{holder, free_row, moved, held_back, followed, after_event, row_after, nowhere}
use Rattle.logins.specs.Rows.{in_use}
use Rattle.logins.specs.declared.rows.Handle.{Handle}
use Rattle.logins.specs.declared.rows.LoginEvent.{LoginEvent}
use Rattle.logins.specs.declared.rows.LoginEvent.TheVariants.{Reset, NetUpdate, Tick, Reconnect}
use Rattle.logins.specs.declared.rows.LoginRow.{LoginRow}
use Rattle.logins.specs.declared.rows.LoginState.TheVariants.{Free, Reserved, Active}
use Rattle.tables.specs.Events.{kept_row, reset_row, reset_handle, handle_to}
use Rattle.rules.proofs.HandleThinning.{OwnerShown, HandleShown, Follows}

-- the same holder or a free login, as aware as it was, and shown
pub record Next (shows : NodeId → Option Eui64) (r t : LoginRow) : Type 0 where
  pub follows : Follows r t
  pub stays_aware : holder t ≡ true → r.aware ≡ true → t.aware ≡ true
  pub is_shown : OwnerShown shows t

not_held : (r : LoginRow) → none_eui r.owner_eui_64 ≡ true → holder r ≡ true → ⊥
not_held r e h = both_ways (holder r) (not_from_true _ e) h

not_below : {X : Type 0} → 0xFFFF < 0xFFFF → X
not_below l = absurd (omega arith)

by_state : (P : LoginRow → Type 0) (e : LoginEvent) (r : LoginRow) → (none_eui r.owner_eui_64 ≡ true → P (after_event Free e r))
    → P (after_event Reserved e r) → P (after_event Active e r) → P (row_after r e)
by_state P e r f g h = go (none_eui r.owner_eui_64) (none_id r.owner_id) refl
  where
    go : (a b : Bool) → none_eui r.owner_eui_64 ≡ a → P (after_event (cond a Free (cond b Reserved Active)) e r)
    go true b w = f w
    go false true w = g
    go false false w = h

module _ (shows : NodeId → Option Eui64) where
  next_moved : (r : LoginRow) (id : NodeId) (ticks : ℕ) → (id.0 < 0xFFFF → shows id ≡ Some r.owner_eui_64) → Next shows r (moved r id ticks)
  next_moved r id ticks s =
      record {
        follows = λ h. record { held = h; owner = refl; was_aware = λ a. a };
        stays_aware = λ h a. a;
        is_shown = λ h l. s l;
      }

  pub next_same : (r : LoginRow) → OwnerShown shows r → Next shows r r
  next_same r s = record { follows = λ h. record { held = h; owner = refl; was_aware = λ a. a }; stays_aware = λ h a. a; is_shown = s }

  pub next_free_row : (r : LoginRow) → Next shows r free_row
  next_free_row r =
      record {
        follows = λ h. absurd (not_held free_row refl h);
        stays_aware = λ h a. absurd (not_held free_row refl h);
        is_shown = λ h l. absurd (not_held free_row refl h);
      }

  next_nobody : (r : LoginRow) → none_eui r.owner_eui_64 ≡ true → Next shows r r
  next_nobody r e = next_same r (λ h l. absurd (not_held r e h))

  next_held_back : (r : LoginRow) → Next shows r (held_back r)
  next_held_back r = next_moved r nowhere _ (λ l. not_below l)

  pub next_net_updated : (r : LoginRow) → Next shows r (row_after r NetUpdate)
  next_net_updated r = by_state (Next shows r) NetUpdate r (next_nobody r) (next_held_back r) (next_held_back r)

  pub next_reconnected : (r : LoginRow) (id : NodeId) → shows id ≡ Some r.owner_eui_64 → Next shows r (row_after r (Reconnect id))
  next_reconnected r id s = by_state (Next shows r) (Reconnect id) r (next_nobody r) (next_moved r id 0 (λ l. s)) (next_moved r id 0 (λ l. s))

  next_moved_in_place : (r : LoginRow) (ticks : ℕ) → OwnerShown shows r → Next shows r (moved r r.owner_id ticks)
  next_moved_in_place r ticks s =
      record { follows = λ h. record { held = h; owner = refl; was_aware = λ a. a }; stays_aware = λ h a. a; is_shown = s }

  pub next_ticked : (r : LoginRow) → OwnerShown shows r → Next shows r (row_after r Tick)
  next_ticked r s =
      by_state (Next shows r) Tick r (λ e. next_same r s) (
      cond_both (leb r.ticks_left 1) _ _ (Next shows r) (λ e. next_free_row r) (λ e. next_moved_in_place r _ s)
      ) (next_same r s)

  pub next_kept : (admits : Eui64 → ℕ → Bool) (r : LoginRow) → OwnerShown shows r → Next shows r (kept_row admits r)
  next_kept admits r s = cond_both (holder r && not (admits r.owner_eui_64 r.unit)) free_row r (Next shows r) (λ e. next_free_row r) (λ e. next_same r s)

  next_followed : (r : LoginRow) (o : Option NodeId) → Finds shows r.owner_eui_64 o → Next shows r (followed r o)
  next_followed r (Some id) f = next_moved r id 0 (λ l. f.1)
  next_followed r None f = next_held_back r

  handle_found : (h : Handle) (o : Option NodeId) → Finds shows h.eui_64 o → HandleShown shows (handle_to h (unwrap_or o nowhere))
  handle_found h (Some id) f u l = f.1
  handle_found h None f u l = not_below l

-- these events free no holder
pub owner_stays_at_reset : (r : LoginRow) (o : Option NodeId) → (row_after r (Reset o)).owner_eui_64 ≡ r.owner_eui_64
owner_stays_at_reset r o =
    let P : LoginRow → Type 0 = λ t. t.owner_eui_64 ≡ r.owner_eui_64 in
    by_state P (Reset o) r (λ e. refl) refl (
    cond_both r.aware _ _ P (λ e. cond_both (local r.owner_id) _ _ P (λ e. of o) (λ e. refl)) (λ e. refl)
    )
  where
    of : (o : Option NodeId) → (followed r o).owner_eui_64 ≡ r.owner_eui_64
    of (Some id) = refl
    of None = refl

pub owner_stays_at_net_update : (r : LoginRow) → (row_after r NetUpdate).owner_eui_64 ≡ r.owner_eui_64
owner_stays_at_net_update r = by_state (λ t. t.owner_eui_64 ≡ r.owner_eui_64) NetUpdate r (λ e. refl) refl refl

pub owner_stays_at_reconnect : (r : LoginRow) (id : NodeId) → (row_after r (Reconnect id)).owner_eui_64 ≡ r.owner_eui_64
owner_stays_at_reconnect r id = by_state (λ t. t.owner_eui_64 ≡ r.owner_eui_64) (Reconnect id) r (λ e. refl) refl refl

module _ {B : Type 0} (m : BusModel B) (lawful : Lawful m) (b c : B) (resets : m.Resets b c) where
  -- what is shown below FFC0h stays at a reset
  below_stays : (i : NodeId) (e : Eui64) → i.0 < 0xFFC0 → m.shows b i ≡ Some e → m.shows c i ≡ Some e
  below_stays i e l s =
      elim (cases_Bool (eqb (i.0 % 64) 63)) [
        | inl t ↦ absurd (none_is_not_some (lawful.broadcast_shows_nobody b i (and_from (ltb i.0 0xFFC0) _ (lt-ltb _ _ l) t)) s)
        | inr f ↦ lawful.reset_keeps_globals b c resets i (and_from (ltb i.0 0xFFC0) _ (lt-ltb _ _ l) (not_from_false _ f)) ∙ s
      ]
    where
      none_is_not_some : {o : Option Eui64} → o ≡ None → o ≡ Some e → ⊥
      none_is_not_some p q = let z : ◌≡◌ {A = ℕ} 0 1 = cc in omega arith

  not_local_stays : (r : LoginRow) → OwnerShown (m.shows b) r → local r.owner_id ≡ false → OwnerShown (m.shows c) r
  not_local_stays r s e h l =
      elim (and_cases (leb 0xFFC0 r.owner_id.0) (ltb r.owner_id.0 0xFFFF) e) [
        | inl low ↦ below_stays r.owner_id _ (leb-false 0xFFC0 r.owner_id.0 low) (s h l)
        | inr high ↦ absurd (both_ways _ high (lt-ltb _ _ l))
      ]

  pub next_reset : (r : LoginRow) → OwnerShown (m.shows b) r → Next (m.shows c) r (reset_row (m.shows c) r)
  next_reset r s =
      let shows = m.shows c in
      let found = local_of shows r.owner_eui_64 in
      by_state (Next shows r) (Reset found) r (next_nobody shows r) (next_held_back shows r) (
      cond_both r.aware _ _ (Next shows r) (
      λ e. cond_both (local r.owner_id) _ _ (Next shows r) (λ e. next_followed shows r found (local_of_finds shows r.owner_eui_64)) (
      λ e. next_same shows r (not_local_stays r s e)
      )
      ) (λ e. next_held_back shows r)
      )

  pub handle_reset : (h : Handle) → HandleShown (m.shows b) h → HandleShown (m.shows c) (reset_handle (m.shows c) h)
  handle_reset h s =
      let shows = m.shows c in
      cond_both (in_use h && leb 0xFFC0 h.node.0) _ h (HandleShown shows) (
      λ e. handle_found shows h (local_of shows h.eui_64) (local_of_finds shows h.eui_64)
      ) (
      λ e u l.
      elim (and_cases (in_use h) (leb 0xFFC0 h.node.0) e) [
        | inl free ↦ absurd (both_ways (in_use h) free u)
        | inr low ↦ below_stays h.node _ (leb-false 0xFFC0 h.node.0 low) (s u l)
      ]
      )
