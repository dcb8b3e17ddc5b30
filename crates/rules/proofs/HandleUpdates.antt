-- What is promised of handles holds after an update and a reconnect. Assumes nothing.
use Rattle.std.proofs.Common.{◌≡◌, ℕ, ◌+◌, ◌-◌, true, false, eqb, leb, List, set, Some, None, Option, sym, refl, ap, ◌∙◌, subst, arith}
use Rattle.std.proofs.lemmas.List.{length-set, length-map}
use Rattle.std.proofs.lemmas.Bool.{both_ways, and_parts, eqb-true}
use Rattle.reader.specs.declared.ids.NodeId.{NodeId}
use Rattle.reader.specs.declared.ids.Eui64.{Eui64}
use Rattle.reader.specs.declared.request.Request.{Request}
use Rattle.logins.specs.Logins.{holder, row_after}
use Rattle.logins.specs.Rows.{handles_size, row_at, handle_at, free_handle}
use Rattle.logins.specs.Tests.{meant}
use Rattle.logins.specs.declared.rows.Handle.{Handle}
use Rattle.logins.specs.declared.rows.HandleSweep.TheVariants.{AllOf}
use Rattle.logins.specs.declared.rows.LoginEvent.TheVariants.{Reconnect as Reconnected}
use Rattle.logins.specs.declared.rows.LoginRow.{LoginRow}
use Rattle.logins.specs.declared.rows.WhichHandle.TheVariants.{Own}
use Rattle.tables.specs.Books.{Book, put_login}
use Rattle.tables.specs.Events.{given_handle, handle_to, moved_handle, swept_book}
use Rattle.tables.specs.Searches.{first, free_handle_place}
use Rattle.rules.specs.HandleClaims.{HandleClaims}
use Rattle.rules.specs.Logins.{login_id, own_handle, updated_row, updated, own_handle_moved, may_reconnect}
use Rattle.rules.specs.Scenes.{Scene}
use Rattle.rules.proofs.HandleFollowing.{Next, next_reconnected, owner_stays_at_reconnect}
use Rattle.rules.proofs.HandleGiving.{claims_aware}
use Rattle.rules.proofs.HandleKeeping.{sized_as, held_below, HandlesKept, all_kept, one_kept, claims_row_kept}
use Rattle.rules.proofs.HandlePlaces.{first_found, after_below}
use Rattle.rules.proofs.HandleSweeping.{claims_unaware_now}
use Rattle.rules.proofs.HandleThinning.{HandleShown}
use Rattle.rules.proofs.HandleLogins.{Kept, handle_put, given_is_put, kept_as, place_below, place_free, place_in}

module _ (s : Scene) (k : Kept s.shows s.book) where
  abbrev rows : List LoginRow
  rows = s.book.logins

  abbrev handles : List Handle
  handles = s.book.handles

  module _ (q : Request) (slot : ℕ) (held : holder (row_at rows slot) ≡ true) where
    abbrev old : LoginRow
    old = row_at rows slot

    -- still aware, or still not
    pub as_aware : q.aware ≡ old.aware → Kept s.shows (updated s q slot old)
    as_aware e =
        let next : Next s.shows old (updated_row old q) =
        record {
          follows = λ h. record { held = h; owner = refl; was_aware = λ a. sym e ∙ a };
          stays_aware = λ h a. e ∙ a;
          is_shown = k.claims.owner_is_shown slot;
        } in
        kept_as s k (updated s q slot old) (
        claims_row_kept s.shows rows handles k.claims slot (updated_row old q) handles next refl (all_kept s.shows rows handles k.claims)
        ) (length-set rows slot _) refl refl refl

    pub newly_aware : (place : ℕ) → free_handle_place s.book ≡ Some place → q.aware ≡ true → old.aware ≡ false
        → Kept s.shows (given_handle (updated s q slot old) place (own_handle (slot + 1) old.owner_eui_64 old.owner_id))
    newly_aware place f a e =
        let h = own_handle (slot + 1) old.owner_eui_64 old.owner_id in
        subst (Kept s.shows) (sym (given_is_put (updated s q slot old) place h (place_below s k place f))) (
        record {
          claims = claims_aware s.shows rows handles k.claims slot (updated_row old q) place old.owner_id (held_below rows slot held) (place_in s k place f) (
              λ w. both_ways old.aware e w.is_aware
              ) (place_free s k place f) (k.claims.owner_is_shown slot) (record { held = held; is_aware = a }) (λ u l. k.claims.owner_is_shown slot held l);
          sized = sized_as s.book (handle_put (updated s q slot old) place h) k.sized (length-set rows slot _) (length-set handles place h) k.sized.next_slot (after_below handles_size place (omega arith));
        }
        )

    pub no_longer_aware : q.aware ≡ false → Kept s.shows (swept_book (updated s q slot old) (AllOf (slot + 1)))
    no_longer_aware a =
        kept_as s k (swept_book (updated s q slot old) (AllOf (slot + 1))) (
        claims_unaware_now s.shows rows handles k.claims slot (updated_row old q) (held_below rows slot held) (
        λ h. record { held = h; owner = refl; was_aware = λ x. absurd (both_ways q.aware a x) }
        ) (k.claims.owner_is_shown slot) a
        ) (length-set rows slot _) (length-map handles _) refl refl

  -- the same handle at another node
  pub moved_kept : (place : ℕ) (node : NodeId) → HandleShown s.shows (handle_to (handle_at handles place) node) → HandlesKept s.shows handles (set handles place (handle_to (handle_at handles place) node))
  moved_kept place node there =
      one_kept s.shows rows handles k.claims place (handle_to (handle_at handles place) node) (λ u. record { login = refl; eui = refl; own = refl }) there (
      λ x. record { login = refl; eui = refl; own = refl }
      )

  module _ (source : NodeId) (eui : Eui64) (q : Request) (there : s.shows source ≡ Some eui) where
    abbrev slot_of : ℕ
    slot_of = login_id q - 1

    abbrev back : Book
    back = put_login s.book slot_of (row_after (row_at rows slot_of) (Reconnected source))

    reconnected : ((row_at rows slot_of).owner_eui_64 ≡ eui) → (o : Option ℕ) → first (meant (login_id q) Own) 0 handles ≡ o → Kept s.shows (own_handle_moved back source o)
    reconnected owner o e = go o e
      where
        next : Next s.shows (row_at rows slot_of) (row_after (row_at rows slot_of) (Reconnected source))
        next = next_reconnected s.shows (row_at rows slot_of) source (there ∙ ap (λ (x : Eui64). Some x) (sym owner))

        row_kept : (left : List Handle) → HandlesKept s.shows handles left → HandleClaims s.shows back.logins left
        row_kept left = claims_row_kept s.shows rows handles k.claims slot_of _ left next (owner_stays_at_reconnect (row_at rows slot_of) source)

        go : (o : Option ℕ) → first (meant (login_id q) Own) 0 handles ≡ o → Kept s.shows (own_handle_moved back source o)
        go None e = kept_as s k back (row_kept handles (all_kept s.shows rows handles k.claims)) (length-set rows slot_of _) refl refl refl
        go (Some place) e =
            let h = handle_at handles place in
            let w = and_parts (eqb h.login (login_id q)) h.own (first_found (meant (login_id q) Own) handles place free_handle e) in
            let l = eqb-true h.login (login_id q) w.0 in
            kept_as s k (moved_handle back place source) (
            row_kept _ (
            moved_kept place source (
            λ u below. there ∙ ap (λ (x : Eui64). Some x) (sym (k.claims.own_handle_has_its_owner place u w.1 ∙ ap (λ (n : ℕ). (row_at rows (n - 1)).owner_eui_64) l ∙ owner))
            )
            )
            ) (length-set rows slot_of _) (length-set handles place _) refl refl

    pub reconnect_kept : may_reconnect s eui q ≡ true → Kept s.shows (own_handle_moved back source (first (meant (login_id q) Own) 0 handles))
    reconnect_kept may =
        let p = and_parts (leb 1 (login_id q)) _ may in
        let r = and_parts (holder (row_at rows slot_of)) (eqb (row_at rows slot_of).owner_eui_64.0 eui.0) p.1 in
        reconnected (ap (λ (n : ℕ). record { 0 = n }) (eqb-true _ _ r.1)) (first (meant (login_id q) Own) 0 handles) refl
