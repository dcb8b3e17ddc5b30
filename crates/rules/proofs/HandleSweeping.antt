-- Events and sweeps of the whole tables: what holds of handles still does. Assumes that the bus is lawful.
use Rattle.std.proofs.Common.{◌≡◌, ℕ, zero, suc, ◌+◌, ◌-◌, ◌<◌, true, false, not, ◌&&◌, eqb, leb, List, map, length, set, Option, sym, refl, ap, ◌∙◌, subst, inl, inr, arith}
use Rattle.std.proofs.lemmas.List.{get_or-set_same, get_or-set_other}
use Rattle.std.proofs.lemmas.Bool.{both_ways, and_parts, not-true, eqb-false, eqb-true, cases_eq, cond_both}
use Rattle.reader.specs.Ids.{none_eui}
use Rattle.reader.specs.declared.ids.NodeId.{NodeId}
use Rattle.reader.specs.declared.ids.Eui64.{Eui64}
use Rattle.bus.specs.Finding.{local_of}
use Rattle.bus.specs.Meaning.{BusModel, Lawful}
use Rattle.logins.specs.Logins.{holder, free_row, row_after}
use Rattle.logins.specs.Rows.{row_at, handle_at, free_handle, in_use}
use Rattle.logins.specs.declared.rows.Handle.{Handle}
use Rattle.logins.specs.declared.rows.HandleSweep.{HandleSweep}
use Rattle.logins.specs.declared.rows.HandleSweep.TheVariants.{Orphans, AllOf, OthersOf, NetUpdated}
use Rattle.logins.specs.declared.rows.LoginEvent.TheVariants.{NetUpdate}
use Rattle.logins.specs.declared.rows.LoginRow.{LoginRow}
use Rattle.tables.specs.Events.{swept, reset_row, reset_handle}
use Rattle.rules.specs.HandleClaims.{AwareHolder, HandleClaims, login_of}
use Rattle.rules.proofs.HandleFollowing.{Next, next_reset, next_net_updated, next_same, handle_reset, owner_stays_at_reset, owner_stays_at_net_update}
use Rattle.rules.proofs.Rows.{map_at}
use Rattle.rules.proofs.HandleThinning.{OwnerShown, HandleShown, Follows, SameHandle, Remains, same_handle, claims_thinned, claims_kept}

pub free_is_not_in_use : in_use free_handle ≡ true → ⊥
free_is_not_in_use u = both_ways false refl u

-- an aware holder whose owner stays is one
pub aware_stays : {shows : NodeId → Option Eui64} (r t : LoginRow) → Next shows r t → t.owner_eui_64 ≡ r.owner_eui_64 → AwareHolder r → AwareHolder t
aware_stays r t next owner a =
    let held = subst (λ (e : Eui64). not (none_eui e) ≡ true) (sym owner) a.held in
    record { held = held; is_aware = next.stays_aware held a.is_aware }

swept_free : (rows : List LoginRow) (sweep : HandleSweep) → swept rows sweep free_handle ≡ free_handle
swept_free rows Orphans = cond_both (holder (row_at rows (0 - 1))) free_handle free_handle (λ h. h ≡ free_handle) (λ e. refl) (λ e. refl)
swept_free rows (AllOf login) = cond_both (eqb 0 login) free_handle free_handle (λ h. h ≡ free_handle) (λ e. refl) (λ e. refl)
swept_free rows (OthersOf login) = cond_both (eqb 0 login && true) free_handle free_handle (λ h. h ≡ free_handle) (λ e. refl) (λ e. refl)
swept_free rows NetUpdated = refl

module _ (rows : List LoginRow) where
  -- a sweep frees handles, or moves them nowhere
  swept_remains : (sweep : HandleSweep) (h : Handle) → Remains h (swept rows sweep h)
  swept_remains Orphans h = cond_both (holder (login_of rows h)) h free_handle (Remains h) (λ e u. same_handle h) (λ e u. absurd (free_is_not_in_use u))
  swept_remains (AllOf login) h = cond_both (eqb h.login login) free_handle h (Remains h) (λ e u. absurd (free_is_not_in_use u)) (λ e u. same_handle h)
  swept_remains (OthersOf login) h =
      cond_both (eqb h.login login && not h.own) free_handle h (Remains h) (λ e u. absurd (free_is_not_in_use u)) (λ e u. same_handle h)
  swept_remains NetUpdated h =
      cond_both h.own _ free_handle (Remains h) (λ e u. record { login = refl; eui = refl; own = refl }) (λ e u. absurd (free_is_not_in_use u))

  nowhere_shown : (shows : NodeId → Option Eui64) (h : Handle) → HandleShown shows (swept rows NetUpdated h)
  nowhere_shown shows h = cond_both h.own _ free_handle (HandleShown shows) (λ e u l. absurd (omega arith)) (λ e u. absurd (free_is_not_in_use u))

  swept_shown : (shows : NodeId → Option Eui64) (sweep : HandleSweep) (h : Handle) → HandleShown shows h → HandleShown shows (swept rows sweep h)
  swept_shown shows Orphans h s = cond_both (holder (login_of rows h)) h free_handle (HandleShown shows) (λ e. s) (λ e u. absurd (free_is_not_in_use u))
  swept_shown shows (AllOf login) h s = cond_both (eqb h.login login) free_handle h (HandleShown shows) (λ e u. absurd (free_is_not_in_use u)) (λ e. s)
  swept_shown shows (OthersOf login) h s =
      cond_both (eqb h.login login && not h.own) free_handle h (HandleShown shows) (λ e u. absurd (free_is_not_in_use u)) (λ e. s)
  swept_shown shows NetUpdated h s = nowhere_shown shows h

  -- what holds of each handle that was swept
  each_swept : (P : ℕ → Handle → Type 0) (sweep : HandleSweep) (handles : List Handle) → ((p : ℕ) → P p (swept rows sweep (handle_at handles p))) → (p : ℕ) → P p (handle_at (map (swept rows sweep) handles) p)
  each_swept P sweep handles f p = subst (P p) (sym (map_at (swept rows sweep) handles p free_handle (swept_free rows sweep))) (f p)

module _ (shows : NodeId → Option Eui64) (rows : List LoginRow) (handles : List Handle) (c : HandleClaims shows rows handles) where
  -- logins that end, and their handles with them
  pub claims_orphans : (after : List LoginRow) → ((i : ℕ) → Next shows (row_at rows i) (row_at after i)) → HandleClaims shows after (map (swept after Orphans) handles)
  claims_orphans after next =
      claims_thinned shows shows rows after handles (map (swept after Orphans) handles) c (λ i. (next i).follows) (
      each_swept after (λ p k. Remains (handle_at handles p) k) Orphans handles (λ p. swept_remains after Orphans (handle_at handles p))
      ) (λ i. (next i).is_shown) (
      each_swept after (λ p k. HandleShown shows k) Orphans handles (λ p. swept_shown after shows Orphans (handle_at handles p) (c.handle_is_shown p))
      ) (
      each_swept after (λ p k. in_use k ≡ true → AwareHolder (login_of after k)) Orphans handles (
      λ p.
      let h = handle_at handles p in
      cond_both (holder (login_of after h)) h free_handle (λ k. in_use k ≡ true → AwareHolder (login_of after k)) (
      λ e u. record { held = e; is_aware = (next (h.login - 1)).stays_aware e (c.handle_belongs_to_an_aware_holder p u).is_aware }
      ) (λ e u. absurd (free_is_not_in_use u))
      )
      ) (
      each_swept after (λ p k. in_use (handle_at handles p) ≡ true → (handle_at handles p).own ≡ true → AwareHolder (login_of after (handle_at handles p)) → SameHandle (handle_at handles p) k) Orphans handles (
      λ p u x a.
      let h = handle_at handles p in
      cond_both (holder (login_of after h)) h free_handle (SameHandle h) (λ e. same_handle h) (λ e. absurd (both_ways _ e a.held))
      )
      )

  -- all handles of a login but its own are freed
  pub claims_others : (login : ℕ) → HandleClaims shows rows (map (swept rows (OthersOf login)) handles)
  claims_others login =
      claims_kept shows shows rows rows handles (map (swept rows (OthersOf login)) handles) c (λ i. (next_same shows (row_at rows i) (c.owner_is_shown i)).follows) (
      each_swept rows (λ p k. Remains (handle_at handles p) k) (OthersOf login) handles (λ p. swept_remains rows (OthersOf login) (handle_at handles p))
      ) c.owner_is_shown (
      each_swept rows (λ p k. HandleShown shows k) (OthersOf login) handles (λ p. swept_shown rows shows (OthersOf login) (handle_at handles p) (c.handle_is_shown p))
      ) (λ i a. a) (
      each_swept rows (λ p k. (handle_at handles p).own ≡ true → SameHandle (handle_at handles p) k) (OthersOf login) handles (
      λ p x.
      let h = handle_at handles p in
      cond_both (eqb h.login login && not h.own) free_handle h (SameHandle h) (
      λ e. absurd (both_ways _ (not-true h.own (and_parts (eqb h.login login) (not h.own) e).1) x)
      ) (λ e. same_handle h)
      )
      )

  -- a login is aware no more, and all its handles are freed
  module _ (slot : ℕ) (t : LoginRow) (in_rows : slot < length rows) (next : Follows (row_at rows slot) t) (there : OwnerShown shows t) (unaware : t.aware ≡ false) where
    abbrev after : List LoginRow
    after = set rows slot t

    row_after_update : (P : ℕ → LoginRow → Type 0) → P slot t → ((i : ℕ) → (i ≡ slot → ⊥) → P i (row_at rows i)) → (i : ℕ) → P i (row_at after i)
    row_after_update P here other i =
        elim (cases_eq i slot) [
          | inl e ↦ subst (λ (j : ℕ). P j (row_at after j)) (sym e) (subst (P slot) (sym (get_or-set_same rows slot t free_row in_rows)) here)
          | inr e ↦ subst (P i) (sym (get_or-set_other rows slot i t free_row e)) (other i e)
        ]

    pub claims_unaware_now : HandleClaims shows after (map (swept after (AllOf (slot + 1))) handles)
    claims_unaware_now =
        claims_thinned shows shows rows after handles (map (swept after (AllOf (slot + 1))) handles) c (
        row_after_update (λ i r. Follows (row_at rows i) r) next (λ i e. (next_same shows (row_at rows i) (c.owner_is_shown i)).follows)
        ) (
        each_swept after (λ p k. Remains (handle_at handles p) k) (AllOf (slot + 1)) handles (λ p. swept_remains after (AllOf (slot + 1)) (handle_at handles p))
        ) (
        row_after_update (λ i r. OwnerShown shows r) there (λ i e. c.owner_is_shown i)
        ) (
        each_swept after (λ p k. HandleShown shows k) (AllOf (slot + 1)) handles (λ p. swept_shown after shows (AllOf (slot + 1)) (handle_at handles p) (c.handle_is_shown p))
        ) (
        each_swept after (λ p k. in_use k ≡ true → AwareHolder (login_of after k)) (AllOf (slot + 1)) handles (
        λ p.
        let h = handle_at handles p in
        cond_both (eqb h.login (slot + 1)) free_handle h (λ k. in_use k ≡ true → AwareHolder (login_of after k)) (λ e u. absurd (free_is_not_in_use u)) (
        λ e u.
        let n = eqb-false h.login 0 (not-true (eqb h.login 0) u) in
        let o = eqb-false h.login (slot + 1) e in
        let d : (h.login - 1 ≡ slot → ⊥) = λ z. apart h.login n o z in
        subst AwareHolder (sym (get_or-set_other rows slot (h.login - 1) t free_row d)) (c.handle_belongs_to_an_aware_holder p u)
        )
        )
        ) (
        λ p u x a.
        let h = handle_at handles p in
        each_swept after (λ p k. ((handle_at handles p).login ≡ slot + 1 → ⊥) → SameHandle (handle_at handles p) k) (AllOf (slot + 1)) handles (
        λ p o.
        cond_both (eqb (handle_at handles p).login (slot + 1)) free_handle (handle_at handles p) (SameHandle (handle_at handles p)) (λ e. absurd (o (eqb-true _ _ e))) (λ e. same_handle (handle_at handles p))
        ) p (
        λ e.
        let z : h.login - 1 ≡ slot = omega arith in
        both_ways t.aware unaware (sym (ap (λ (r : LoginRow). r.aware) (ap (row_at after) z ∙ get_or-set_same rows slot t free_row in_rows)) ∙ a.is_aware)
        )
        )
      where
        apart : (n : ℕ) → (n ≡ 0 → ⊥) → (n ≡ slot + 1 → ⊥) → n - 1 ≡ slot → ⊥
        apart zero f g e = f refl
        apart (suc n) f g e = g (omega arith)

-- by what the bus shows afterwards
module _ {B : Type 0} (m : BusModel B) (lawful : Lawful m) (b d : B) (rows : List LoginRow) (handles : List Handle) (c : HandleClaims (m.shows b) rows handles) where
  pub claims_reset : m.Resets b d → HandleClaims (m.shows d) (map (reset_row (m.shows d)) rows) (map (reset_handle (m.shows d)) handles)
  claims_reset resets =
      let shows = m.shows d in
      let row_is : (i : ℕ) → row_at (map (reset_row shows) rows) i ≡ reset_row shows (row_at rows i) = λ i. map_at (reset_row shows) rows i free_row refl in
      let handle_is : (p : ℕ) → handle_at (map (reset_handle shows) handles) p ≡ reset_handle shows (handle_at handles p) = λ p. map_at (reset_handle shows) handles p free_handle refl in
      let next : (i : ℕ) → Next shows (row_at rows i) (row_at (map (reset_row shows) rows) i) = λ i.
      subst (Next shows (row_at rows i)) (sym (row_is i)) (next_reset m lawful b d resets (row_at rows i) (c.owner_is_shown i)) in
      let same : (p : ℕ) → SameHandle (handle_at handles p) (handle_at (map (reset_handle shows) handles) p) = λ p.
      subst (SameHandle (handle_at handles p)) (sym (handle_is p)) (
      cond_both (in_use (handle_at handles p) && leb 0xFFC0 (handle_at handles p).node.0) _ (handle_at handles p) (SameHandle (handle_at handles p)) (
      λ e. record { login = refl; eui = refl; own = refl }
      ) (λ e. same_handle (handle_at handles p))
      ) in
      claims_kept (m.shows b) shows rows _ handles _ c (λ i. (next i).follows) (λ p u. same p) (λ i. (next i).is_shown) (
      λ p. subst (HandleShown shows) (sym (handle_is p)) (handle_reset m lawful b d resets (handle_at handles p) (c.handle_is_shown p))
      ) (
      λ i. aware_stays (row_at rows i) _ (next i) (ap (λ (r : LoginRow). r.owner_eui_64) (row_is i) ∙ owner_stays_at_reset (row_at rows i) (local_of shows (row_at rows i).owner_eui_64))
      ) (λ p x. same p)

  pub claims_net_updated : (after : List LoginRow) → after ≡ map (λ r. row_after r NetUpdate) rows → HandleClaims (m.shows d) after (map (swept after NetUpdated) handles)
  claims_net_updated after is =
      let shows = m.shows d in
      let row_is : (i : ℕ) → row_at after i ≡ row_after (row_at rows i) NetUpdate = λ i.
      ap (λ (rs : List LoginRow). row_at rs i) is ∙ map_at (λ r. row_after r NetUpdate) rows i free_row refl in
      let next : (i : ℕ) → Next shows (row_at rows i) (row_at after i) = λ i. subst (Next shows (row_at rows i)) (sym (row_is i)) (next_net_updated shows (row_at rows i)) in
      claims_kept (m.shows b) shows rows after handles (map (swept after NetUpdated) handles) c (λ i. (next i).follows) (
      each_swept after (λ p k. Remains (handle_at handles p) k) NetUpdated handles (λ p. swept_remains after NetUpdated (handle_at handles p))
      ) (λ i. (next i).is_shown) (
      each_swept after (λ p k. HandleShown shows k) NetUpdated handles (λ p. nowhere_shown after shows (handle_at handles p))
      ) (
      λ i. aware_stays (row_at rows i) _ (next i) (ap (λ (r : LoginRow). r.owner_eui_64) (row_is i) ∙ owner_stays_at_net_update (row_at rows i))
      ) (
      each_swept after (λ p k. (handle_at handles p).own ≡ true → SameHandle (handle_at handles p) k) NetUpdated handles (
      λ p x. cond_both (handle_at handles p).own _ free_handle (SameHandle (handle_at handles p)) (λ e. record { login = refl; eui = refl; own = refl }) (λ e. absurd (both_ways _ e x))
      )
      )
