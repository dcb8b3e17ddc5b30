-- What is promised of handles holds after a login. Assumes that nobody is shown as all ones.
use Rattle.std.proofs.Common.{◌≡◌, ℕ, ◌+◌, ◌-◌, ◌<◌, Bool, true, false, cond, ◌&&◌, eqb, ltb, leb, List, length, set, Some, None, Option, sym, refl, ap, ◌∙◌, subst, arith}
use Rattle.std.proofs.lemmas.List.{length-set}
use Rattle.std.proofs.lemmas.Bool.{both_ways, and_parts, leb-true, lt-ltb, not_from_false, cond-true}
use Rattle.reader.specs.Ids.{none_eui}
use Rattle.reader.specs.declared.ids.NodeId.{NodeId}
use Rattle.reader.specs.declared.ids.Eui64.{Eui64}
use Rattle.reader.specs.declared.request.Request.{Request}
use Rattle.logins.specs.Logins.{holder, active}
use Rattle.logins.specs.Rows.{logins_size, handles_size, row_at, handle_at, in_use}
use Rattle.logins.specs.declared.rows.Handle.{Handle}
use Rattle.logins.specs.declared.rows.LoginRow.{LoginRow}
use Rattle.tables.specs.Books.{Book}
use Rattle.tables.specs.Events.{given_login, given_handle}
use Rattle.tables.specs.Searches.{free_login, free_handle_place, after_place}
use Rattle.tables.proofs.Places.{next_free_some}
use Rattle.rules.specs.HandleClaims.{AwareHolder, HandleClaims}
use Rattle.rules.specs.Logins.{new_row, own_handle}
use Rattle.rules.specs.Scenes.{Scene, own_login}
use Rattle.rules.proofs.HandleGiving.{claims_unaware, claims_aware}
use Rattle.rules.proofs.HandleKeeping.{Sized, sized_as}
use Rattle.rules.proofs.HandlePlaces.{after_below, next_free_below}

-- what is promised, in tables of their sizes
pub record Kept (shows : NodeId → Option Eui64) (b : Book) : Type 0 where
  pub claims : HandleClaims shows b.logins b.handles
  pub sized : Sized b

-- the own active login is the one that was named, and active
pub record Named (b : Book) (id slot : ℕ) : Type 0 where
  pub numbered : id ≡ slot + 1
  pub is_held : holder (row_at b.logins slot) ≡ true

pub named : (b : Book) (source : NodeId) (id slot : ℕ) → own_login b source id ≡ Some slot → Named b id slot
named b source id slot e = go _ refl e
  where
    go : (t : Bool) → (leb 1 id && (active (row_at b.logins (id - 1)) && eqb (row_at b.logins (id - 1)).owner_id.0 source.0)) ≡ t → cond t (Some (id - 1)) None ≡ Some slot → Named b id slot
    go true t h =
        let z : id - 1 ≡ slot = cc in
        let p = and_parts (leb 1 id) _ t in
        let a = and_parts (active (row_at b.logins (id - 1))) _ p.1 in
        let i = and_parts (holder (row_at b.logins (id - 1))) _ a.0 in
        let low = leb-true 1 id p.0 in
        record { numbered = omega arith; is_held = subst (λ (j : ℕ). holder (row_at b.logins j) ≡ true) z i.0 }
    go false t h = absurd (let z : ◌≡◌ {A = ℕ} 0 1 = cc in omega arith)

-- tables with one handle given, at a place
abbrev pub handle_put : Book → ℕ → Handle → Book
handle_put b place h =
    record { logins = b.logins; handles = set b.handles place h; next_login = b.next_login; next_handle = after_place handles_size place; ticking = b.ticking }

pub given_is_put : (b : Book) (place : ℕ) (h : Handle) → place < handles_size → given_handle b place h ≡ handle_put b place h
given_is_put b place h l = cond-true (ltb place handles_size) (handle_put b place h) b (lt-ltb place handles_size l)

module _ (s : Scene) (k : Kept s.shows s.book) where
  abbrev rows : List LoginRow
  rows = s.book.logins

  abbrev handles : List Handle
  handles = s.book.handles

  -- searches and sizes as they were
  pub kept_as : (b : Book) → HandleClaims s.shows b.logins b.handles → length b.logins ≡ length rows → length b.handles ≡ length handles
      → b.next_login ≡ s.book.next_login → b.next_handle ≡ s.book.next_handle → Kept s.shows b
  kept_as b c l h i j =
      record {
        claims = c;
        sized = sized_as s.book b k.sized l h (subst (λ (n : ℕ). n < logins_size) (sym i) k.sized.next_slot) (subst (λ (n : ℕ). n < handles_size) (sym j) k.sized.next_place);
      }

  -- a place that is found is free, and in the table
  pub place_below : (place : ℕ) → free_handle_place s.book ≡ Some place → place < handles_size
  place_below place e = next_free_below _ handles_size s.book.next_handle handles_size place k.sized.next_place e

  pub place_free : (place : ℕ) → free_handle_place s.book ≡ Some place → in_use (handle_at handles place) ≡ false
  place_free place e = next_free_some (λ j. in_use (handle_at handles j)) handles_size s.book.next_handle handles_size place e

  pub place_in : (place : ℕ) → free_handle_place s.book ≡ Some place → place < length handles
  place_in place e = subst (λ (n : ℕ). place < n) (sym k.sized.all_handles) (place_below place e)

  module _ (source : NodeId) (eui : Eui64) (q : Request) (there : s.shows source ≡ Some eui) (somebody : none_eui eui ≡ false) where
    module _ (slot : ℕ) (e : free_login s.book ≡ Some slot) where
      abbrev with_row : Book
      with_row =
          record {
            logins = set rows slot (new_row source eui q);
            handles = handles;
            next_login = after_place logins_size slot;
            next_handle = s.book.next_handle;
            ticking = s.book.ticking;
          }

      slot_below : slot < logins_size
      slot_below = next_free_below _ logins_size s.book.next_login logins_size slot k.sized.next_slot e

      given_is : given_login s.book slot (new_row source eui q) ≡ with_row
      given_is = cond-true (ltb slot logins_size) with_row s.book (lt-ltb slot logins_size slot_below)

      was_not : AwareHolder (row_at rows slot) → ⊥
      was_not a = both_ways _ (next_free_some (λ j. holder (row_at rows j)) logins_size s.book.next_login logins_size slot e) a.held

      pub aware_login_kept : (place : ℕ) → free_handle_place s.book ≡ Some place → q.aware ≡ true → Kept s.shows (given_handle (given_login s.book slot (new_row source eui q)) place (own_handle (slot + 1) eui source))
      aware_login_kept place f a =
          let h = own_handle (slot + 1) eui source in
          subst (Kept s.shows) (sym (ap (λ (b : Book). given_handle b place h) given_is ∙ given_is_put with_row place h (place_below place f))) (
          record {
            claims = claims_aware s.shows rows handles k.claims slot (new_row source eui q) place source (subst (λ (n : ℕ). slot < n) (sym k.sized.all_logins) slot_below) (place_in place f) was_not (place_free place f) (λ h l. there) (
                record { held = not_from_false (none_eui eui) somebody; is_aware = a }
                ) (λ u l. there);
            sized = sized_as s.book (handle_put with_row place h) k.sized (length-set rows slot _) (length-set handles place h) (after_below logins_size slot (omega arith)) (after_below handles_size place (omega arith));
          }
          )

      pub login_kept : q.aware ≡ false → Kept s.shows (given_login s.book slot (new_row source eui q))
      login_kept a =
          subst (Kept s.shows) (sym given_is) (
          record {
            claims = claims_unaware s.shows rows handles k.claims slot (new_row source eui q) was_not (λ h l. there) a;
            sized = sized_as s.book with_row k.sized (length-set rows slot _) refl (after_below logins_size slot (omega arith)) k.sized.next_place;
          }
          )
