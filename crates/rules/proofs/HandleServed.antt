-- What is promised of handles holds after every request: that it holds after each step of the walk through the rules. Assumes that nobody is shown as all ones.
use Rattle.std.proofs.Common.{◌≡◌, ℕ, ◌-◌, true, false, eqb, List, length, set, Some, sym, refl, ap, ◌∙◌, subst, arith}
use Rattle.std.proofs.lemmas.List.{length-set, length-map}
use Rattle.std.proofs.lemmas.Bool.{both_ways, and_parts, eqb-true}
use Rattle.reader.specs.Ids.{none_eui}
use Rattle.reader.specs.declared.ids.NodeId.{NodeId}
use Rattle.reader.specs.declared.ids.Eui64.{Eui64}
use Rattle.reader.specs.declared.request.Request.{Request}
use Rattle.reader.specs.declared.request.Function.{Function}
use Rattle.logins.specs.Logins.{holder, free_row}
use Rattle.logins.specs.Rows.{handles_size, row_at, handle_at, free_handle}
use Rattle.logins.specs.Tests.{meant}
use Rattle.logins.specs.declared.rows.Handle.{Handle}
use Rattle.logins.specs.declared.rows.LoginRow.{LoginRow}
use Rattle.logins.specs.declared.rows.WhichHandle.TheVariants.{For}
use Rattle.tables.specs.Books.{with_handles, put_handle}
use Rattle.tables.specs.Events.{given_handle, moved_handle, ended}
use Rattle.tables.specs.Searches.{first, free_handle_place}
use Rattle.rules.specs.HandleClaims.{AwareHolder, HandleClaims}
use Rattle.rules.specs.Handles.{node_of, other_handle}
use Rattle.rules.specs.Logins.{login_id}
use Rattle.rules.specs.Scenes.{Scene, Outcome, book_after, own_login}
use Rattle.rules.specs.Serving.{outcome}
use Rattle.rules.proofs.Walks.{Steps, walked}
use Rattle.rules.proofs.HandleFollowing.{Next, next_same, next_free_row}
use Rattle.rules.proofs.HandleGiving.{claims_other}
use Rattle.rules.proofs.HandleKeeping.{sized_as, each_written, one_kept, claims_handles_kept}
use Rattle.rules.proofs.HandlePlaces.{first_found, after_below, is_shown_some}
use Rattle.rules.proofs.HandleSweeping.{free_is_not_in_use, claims_orphans, claims_others}
use Rattle.rules.proofs.HandleLogins.{Kept, Named, named, handle_put, given_is_put, kept_as, place_below, place_free, login_kept, aware_login_kept}
use Rattle.rules.proofs.HandleUpdates.{as_aware, newly_aware, no_longer_aware, moved_kept, reconnect_kept}

module _ (s : Scene) (k : Kept s.shows s.book) where
  abbrev rows : List LoginRow
  rows = s.book.logins

  abbrev handles : List Handle
  handles = s.book.handles

  -- a book whose handles alone are others
  handles_only : (left : List Handle) → HandleClaims s.shows rows left → length left ≡ length handles → Kept s.shows (with_handles s.book left)
  handles_only left c h = kept_as s k (with_handles s.book left) c refl h refl refl

  logout_kept : (slot : ℕ) → Kept s.shows (ended s.book slot)
  logout_kept slot =
      kept_as s k (ended s.book slot) (
      claims_orphans s.shows rows handles k.claims (set rows slot free_row) (
      each_written (λ i r. Next s.shows (row_at rows i) r) rows slot free_row free_row (next_free_row s.shows (row_at rows slot)) (
      λ i. next_same s.shows (row_at rows i) (k.claims.owner_is_shown i)
      )
      )
      ) (length-set rows slot _) (length-map handles _) refl refl

  module _ (q : Request) where
    its_login : (slot : ℕ) → Named s.book (login_id q) slot → (row_at rows slot).aware ≡ true → AwareHolder (row_at rows (login_id q - 1))
    its_login slot mine aware =
        let z : slot ≡ login_id q - 1 = let n = mine.numbered in omega arith in
        subst (λ (j : ℕ). AwareHolder (row_at rows j)) z (record { held = mine.is_held; is_aware = aware })

    allocate_kept : AwareHolder (row_at rows (login_id q - 1)) → s.shows (node_of q) ≡ Some q.eui_64 → (place : ℕ) → free_handle_place s.book ≡ Some place → Kept s.shows (given_handle s.book place (other_handle q))
    allocate_kept login there place f =
        subst (Kept s.shows) (sym (given_is_put s.book place (other_handle q) (place_below s k place f))) (
        record {
          claims = claims_other s.shows rows handles k.claims place (other_handle q) (place_free s k place f) login refl (λ u l. there);
          sized = sized_as s.book (handle_put s.book place (other_handle q)) k.sized refl (length-set handles place _) k.sized.next_slot (after_below handles_size place (omega arith));
        }
        )

    move_kept : s.shows (node_of q) ≡ Some q.eui_64 → (place : ℕ) → first (meant (login_id q) (For q.eui_64)) 0 handles ≡ Some place → Kept s.shows (moved_handle s.book place (node_of q))
    move_kept there place f =
        let h = handle_at handles place in
        let w = and_parts (eqb h.login (login_id q)) (eqb h.eui_64.0 q.eui_64.0) (first_found (meant (login_id q) (For q.eui_64)) handles place free_handle f) in
        handles_only _ (
        claims_handles_kept s.shows rows handles k.claims _ (
        moved_kept s k place (node_of q) (λ u l. there ∙ ap (λ (n : ℕ). Some (record { 0 = n })) (sym (eqb-true h.eui_64.0 q.eui_64.0 w.1)))
        )
        ) (length-set handles place _)

    release_kept : (place : ℕ) → (handle_at handles place).own ≡ false → Kept s.shows (put_handle s.book place free_handle)
    release_kept place other =
        handles_only _ (
        claims_handles_kept s.shows rows handles k.claims _ (
        one_kept s.shows rows handles k.claims place free_handle (λ u. absurd (free_is_not_in_use u)) (λ u. absurd (free_is_not_in_use u)) (λ x. absurd (both_ways _ other x))
        )
        ) (length-set handles place _)

  -- every request
  module _ (somebody : (i : NodeId) (e : Eui64) → s.shows i ≡ Some e → none_eui e ≡ false) (source : NodeId) (q : Request) where
    abbrev StillKept : Function → Outcome → Type 0
    StillKept f o = Kept s.shows (book_after s.book o)

    held : (slot : ℕ) → own_login s.book source (login_id q) ≡ Some slot → holder (row_at rows slot) ≡ true
    held slot e = (named s.book source (login_id q) slot e).is_held

    steps : Steps s source q StillKept
    steps =
        record {
          refused = λ f r. k;
          logged_in = λ eui slot g a bytes. login_kept s k source eui q g.there (somebody source eui g.there) slot g.is_free a;
          logged_in_aware = λ eui slot place g a e bytes. aware_login_kept s k source eui q g.there (somebody source eui g.there) slot g.is_free place e a;
          renewed = λ slot g a bytes. as_aware s k q slot (held slot g.is_own) a;
          newly_aware = λ slot place g a b e bytes. newly_aware s k q slot (held slot g.is_own) place e a b;
          no_longer_aware = λ slot g a bytes. no_longer_aware s k q slot (held slot g.is_own) a;
          told = λ bytes. k;
          reconnected = λ eui there may. reconnect_kept s k source eui q there may;
          allocated = λ slot place g there e bytes.
              allocate_kept q (its_login q slot (named s.book source (login_id q) slot g.is_own) g.is_aware) (is_shown_some (s.shows (node_of q)) q.eui_64 there) place e;
          moved = λ slot place g there e bytes. move_kept q (is_shown_some (s.shows (node_of q)) q.eui_64 there) place e;
          others_released = λ slot g. handles_only _ (claims_others s.shows rows handles k.claims (login_id q)) (length-map handles _);
          one_released = λ slot g other. release_kept q (q.node_or_handle - 1) other;
          logged_out = λ slot e. logout_kept slot;
        }

    pub kept_after_request : Kept s.shows (book_after s.book (outcome s source q))
    kept_after_request = walked s source q StillKept steps
