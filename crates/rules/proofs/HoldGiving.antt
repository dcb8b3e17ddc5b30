-- The hold of a login is the one that was asked when it was granted or last updated: which step of the walk through the rules gives a hold. Assumes nothing.
use Rattle.std.proofs.Common.{◌≡◌, ℕ, ◌+◌, ◌-◌, Bool, true, false, cond, not, ◌&&◌, eqb, ltb, List, set, Some, Option, sym, refl, ap, ◌∙◌, subst, inl, inr, arith}
use Rattle.std.proofs.lemmas.Bool.{both_ways, and_parts, and_left, and_right, and_from, eqb-true, eqb-false, not-true}
use Rattle.reader.specs.declared.ids.NodeId.{NodeId}
use Rattle.reader.specs.declared.ids.Eui64.{Eui64}
use Rattle.reader.specs.declared.refusal.Refusal.{Refusal}
use Rattle.reader.specs.declared.request.Request.{Request}
use Rattle.reader.specs.declared.request.Function.{Function}
use Rattle.reader.specs.declared.request.Function.TheVariants.{Login, QueryLogins, Reconnect, NodeHandle, Logout}
use Rattle.logins.specs.Logins.{holder, free_row, row_after}
use Rattle.logins.specs.Rows.{logins_size, row_at}
use Rattle.logins.specs.Tests.{meant}
use Rattle.logins.specs.declared.rows.Handle.{Handle}
use Rattle.logins.specs.declared.rows.LoginEvent.TheVariants.{Reconnect as Reconnected}
use Rattle.logins.specs.declared.rows.LoginRow.{LoginRow}
use Rattle.logins.specs.declared.rows.WhichHandle.TheVariants.{Own as OwnHandle}
use Rattle.tables.specs.Books.{Book, put_login}
use Rattle.tables.specs.Events.{given_login, given_handle}
use Rattle.tables.specs.Searches.{first, free_login}
use Rattle.tables.proofs.Places.{next_free_some}
use Rattle.tables.proofs.Setting.{set_either}
use Rattle.rules.specs.Holds.{granted, is_login}
use Rattle.rules.specs.Logins.{login_id, hold_of, new_row, updated_row, updated, own_handle_moved}
use Rattle.rules.specs.Scenes.{Scene, Outcome, refuse, grant, answer_of, book_after}
use Rattle.rules.specs.Serving.{outcome}
use Rattle.rules.proofs.Calm.{Own, own_is_active, set_held}
use Rattle.rules.proofs.Walks.{Steps, walked}
use Rattle.rules.proofs.Walking.{either_book, handle_leaves_logins, moved_leaves_logins}
use Rattle.rules.proofs.Thinning.{Like, like_same, like_free, like_after, thinner_set}

module _ (s : Scene) (k : ℕ) (q : Request) where
  abbrev before : LoginRow
  before = row_at s.book.logins k

  abbrev row_then : Outcome → LoginRow
  row_then o = row_at (book_after s.book o).logins k

  -- a granted login of this slot, or a granted update of it
  abbrev gives : Function → Outcome → Bool
  gives f o = granted (answer_of o) && (is_login f && cond q.update (eqb (login_id q) (k + 1)) (not (holder before) && holder (row_then o)))

  record Given (f : Function) (o : Outcome) : Type 0 where
    as_asked : gives f o ≡ true → (row_then o).hold ≡ hold_of q
    as_before : gives f o ≡ false → Like before (row_then o)

  left : (f : Function) (r : Refusal) → Given f (refuse r)
  left f r = record { as_asked = λ h. absurd (both_ways false refl h); as_before = λ h. like_same before }

  -- what is no login gives no hold
  thinned : (f : Function) → is_login f ≡ false → (o : Outcome) → Like before (row_then o) → Given f o
  thinned f e o t =
      let none : gives f o ≡ false = and_right (granted (answer_of o)) _ (and_left (is_login f) _ e) in
      record { as_asked = λ h. absurd (both_ways (gives f o) none h); as_before = λ h. t }

  as_rows : (rows : List LoginRow) → rows ≡ s.book.logins → Like before (row_at rows k)
  as_rows rows e = subst (λ (x : List LoginRow). Like before (row_at x k)) (sym e) (like_same before)

  handled : (bytes : List ℕ) (b : Book) → b.logins ≡ s.book.logins → Given NodeHandle (grant bytes b)
  handled bytes b e = thinned NodeHandle refl (grant bytes b) (as_rows b.logins e)

  -- of a login that is granted
  record Newly (after : LoginRow) : Type 0 where
    asked : (not (holder before) && holder after) ≡ true → after.hold ≡ hold_of q
    kept : (not (holder before) && holder after) ≡ false → Like before after

  newly_same : Newly before
  newly_same =
      record {
        asked = λ h. let p = and_parts (not (holder before)) (holder before) h in absurd (both_ways (holder before) (not-true (holder before) p.0) p.1);
        kept = λ h. like_same before;
      }

  newly_new : (source : NodeId) (eui : Eui64) → holder before ≡ false → Newly (new_row source eui q)
  newly_new source eui free =
      record {
        asked = λ h. refl;
        kept = λ h held. absurd (both_ways (not (holder before) && holder (new_row source eui q)) h (and_from (not (holder before)) (holder (new_row source eui q)) (ap not free) held));
      }

  granted_newly : (up : q.update ≡ false) (bytes : List ℕ) (b : Book) → Newly (row_at b.logins k) → Given Login (grant bytes b)
  granted_newly up bytes b w =
      let test : gives Login (grant bytes b) ≡ (not (holder before) && holder (row_at b.logins k)) =
      ap (λ (u : Bool). cond u (eqb (login_id q) (k + 1)) (not (holder before) && holder (row_at b.logins k))) up in
      record { as_asked = λ h. w.asked (sym test ∙ h); as_before = λ h. w.kept (sym test ∙ h) }

  with_handle : (P : LoginRow → Type 0) (b : Book) (place : ℕ) (h : Handle) → P (row_at b.logins k) → P (row_at (given_handle b place h).logins k)
  with_handle P b place h w = subst (λ (rows : List LoginRow). P (row_at rows k)) (sym (handle_leaves_logins b place h)) w

  module _ (source : NodeId) (eui : Eui64) (up : q.update ≡ false) where
    new_given : (slot : ℕ) → free_login s.book ≡ Some slot → Newly (row_at (given_login s.book slot (new_row source eui q)).logins k)
    new_given slot found =
        either_book (λ b. Newly (row_at b.logins k)) (ltb slot logins_size) _ s.book (
        elim (set_either s.book.logins slot (new_row source eui q) free_row k) [
          | inl w ↦ subst Newly (sym w.1) (newly_new source eui (ap (λ (i : ℕ). holder (row_at s.book.logins i)) w.0 ∙ next_free_some _ _ _ _ slot found))
          | inr w ↦ subst Newly (sym w) newly_same
        ]
        ) newly_same

  -- of a login that is updated
  record Renewed (after : LoginRow) : Type 0 where
    asked : eqb (login_id q) (k + 1) ≡ true → after.hold ≡ hold_of q
    kept : eqb (login_id q) (k + 1) ≡ false → Like before after

  granted_renewed : (up : q.update ≡ true) (bytes : List ℕ) (b : Book) → Renewed (row_at b.logins k) → Given Login (grant bytes b)
  granted_renewed up bytes b w =
      let test : gives Login (grant bytes b) ≡ eqb (login_id q) (k + 1) =
      ap (λ (u : Bool). cond u (eqb (login_id q) (k + 1)) (not (holder before) && holder (row_at b.logins k))) up in
      record { as_asked = λ h. w.asked (sym test ∙ h); as_before = λ h. w.kept (sym test ∙ h) }

  module _ (up : q.update ≡ true) (slot : ℕ) (own : Own s.book (login_id q) slot) where
    abbrev row : LoginRow
    row = row_at s.book.logins slot

    renewed : Renewed (row_at (updated s q slot row).logins k)
    renewed =
        let one = own.numbered in
        let at = own.at in
        record {
          asked = λ h.
              let is = eqb-true (login_id q) (k + 1) h in
              let here : slot ≡ k = omega arith in
              ap (λ (r : LoginRow). r.hold) (
              subst (λ (i : ℕ). row_at (set s.book.logins slot (updated_row row q)) i ≡ updated_row row q) here (
              set_held s.book.logins slot (updated_row row q) (and_parts (holder row) _ own.is_active).0
              )
              );
          kept = λ h. elim (set_either s.book.logins slot (updated_row row q) free_row k) [
            | inl w ↦ absurd (let here = w.0 in eqb-false (login_id q) (k + 1) h (omega arith))
            | inr w ↦ subst (Like before) (sym w) (like_same before)
          ];
        }

  reconnect_thins : (source : NodeId) (place : Option ℕ)
      → Like before (row_at (own_handle_moved (put_login s.book (login_id q - 1) (row_after (row_at s.book.logins (login_id q - 1)) (Reconnected source))) source place).logins k)
  reconnect_thins source place =
      let row = row_at s.book.logins (login_id q - 1) in
      let put = put_login s.book (login_id q - 1) (row_after row (Reconnected source)) in
      subst (λ (rows : List LoginRow). Like before (row_at rows k)) (sym (moved_leaves_logins put source place)) (
      thinner_set s.book.logins (login_id q - 1) _ (like_after row (Reconnected source)) k
      )

  module _ (source : NodeId) where
    steps : Steps s source q Given
    steps =
        record {
          refused = left;
          logged_in = λ eui slot g a bytes. granted_newly g.is_new bytes _ (new_given source eui g.is_new slot g.is_free);
          logged_in_aware = λ eui slot place g a e bytes.
              granted_newly g.is_new bytes _ (with_handle Newly (given_login s.book slot (new_row source eui q)) place _ (new_given source eui g.is_new slot g.is_free));
          renewed = λ slot g a bytes. granted_renewed g.is_update bytes _ (renewed g.is_update slot (own_is_active s.book source (login_id q) slot g.is_own));
          newly_aware = λ slot place g a b e bytes.
              granted_renewed g.is_update bytes _ (
              with_handle Renewed (updated s q slot (row_at s.book.logins slot)) place _ (renewed g.is_update slot (own_is_active s.book source (login_id q) slot g.is_own))
              );
          no_longer_aware = λ slot g a bytes. granted_renewed g.is_update bytes _ (renewed g.is_update slot (own_is_active s.book source (login_id q) slot g.is_own));
          told = λ bytes. thinned QueryLogins refl _ (like_same before);
          reconnected = λ eui there may. thinned Reconnect refl _ (reconnect_thins source (first (meant (login_id q) OwnHandle) 0 s.book.handles));
          allocated = λ slot place g there e bytes. handled bytes _ (handle_leaves_logins s.book place _);
          moved = λ slot place g there e bytes. handled bytes _ refl;
          others_released = λ slot g. handled _ _ refl;
          one_released = λ slot g other. handled _ _ refl;
          logged_out = λ slot e. thinned Logout refl _ (thinner_set s.book.logins slot free_row (like_free (row_at s.book.logins slot)) k);
        }

    request_gives : Given q.function (outcome s source q)
    request_gives = walked s source q Given steps

    pub hold_as_asked : gives q.function (outcome s source q) ≡ true → (row_at (book_after s.book (outcome s source q)).logins k).hold ≡ hold_of q
    hold_as_asked = request_gives.as_asked

    pub hold_as_before : gives q.function (outcome s source q) ≡ false → Like (row_at s.book.logins k) (row_at (book_after s.book (outcome s source q)).logins k)
    hold_as_before = request_gives.as_before
