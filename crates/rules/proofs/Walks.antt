-- A walk through the rules: what is shown of each that is granted or refused, is shown of every request. Assumes nothing.
use Rattle.std.proofs.Common.{◌≡◌, ℕ, ◌+◌, ◌-◌, Bool, true, false, cond, eqb, ltb, List, [], Some, None, Option, sym, refl, ◌∙◌}
use Rattle.reader.specs.declared.ids.NodeId.{NodeId}
use Rattle.reader.specs.declared.ids.Eui64.{Eui64}
use Rattle.reader.specs.declared.refusal.Refusal.{Refusal}
use Rattle.reader.specs.declared.request.Request.{Request}
use Rattle.reader.specs.declared.request.Function.{Function}
use Rattle.reader.specs.declared.request.Function.TheVariants.{Login, QueryLogins, Reconnect, NodeHandle, Logout, Unknown}
use Rattle.logins.specs.Logins.{row_after}
use Rattle.logins.specs.Rows.{row_at, handle_at, free_handle}
use Rattle.logins.specs.Tests.{meant}
use Rattle.logins.specs.declared.rows.HandleSweep.TheVariants.{AllOf, OthersOf}
use Rattle.logins.specs.declared.rows.LoginEvent.TheVariants.{Reconnect as Reconnected}
use Rattle.logins.specs.declared.rows.LoginRow.{LoginRow}
use Rattle.logins.specs.declared.rows.WhichHandle.TheVariants.{For, Own}
use Rattle.tables.specs.Books.{put_login, put_handle}
use Rattle.tables.specs.Events.{given_login, given_handle, moved_handle, swept_book, ended}
use Rattle.tables.specs.Searches.{first, free_login, free_handle_place}
use Rattle.rules.specs.Handles.{node_of, other_handle, allocate_new, allocate_in, handle_of, shown_there, of_login}
use Rattle.rules.specs.Logins.{unit_of, login_id, rejected, denied, new_row, own_handle, login_at, login_in, updated, aware_update, update_of, own_handle_moved, disputed, may_reconnect, logout_of}
use Rattle.rules.specs.Scenes.{Scene, Outcome, refuse, grant, own_login}
use Rattle.rules.specs.Serving.{unsupported, by_function, from, outcome}
use Rattle.rules.proofs.Walking.{by_test}

module _ (s : Scene) (source : NodeId) (q : Request) where
  abbrev row : ℕ → LoginRow
  row slot = row_at s.book.logins slot

  -- what is known where a login is granted, where one is updated, and where its handles are asked for
  pub record Granting (eui : Eui64) (slot : ℕ) : Type 0 where
    pub there : s.shows source ≡ Some eui
    pub is_new : q.update ≡ false
    pub not_denied : denied s eui q ≡ false
    pub is_free : free_login s.book ≡ Some slot

  pub record Renewing (slot : ℕ) : Type 0 where
    pub is_update : q.update ≡ true
    pub is_own : own_login s.book source (login_id q) ≡ Some slot
    pub not_disputed : disputed s q slot ≡ false

  pub record Handling (slot : ℕ) : Type 0 where
    pub is_own : own_login s.book source (login_id q) ≡ Some slot
    pub is_aware : (row_at s.book.logins slot).aware ≡ true

  module _ (P : Function → Outcome → Type 0) where
    pub record Steps : Type 0 where
      pub refused : (f : Function) (r : Refusal) → P f (refuse r)
      pub logged_in : (eui : Eui64) (slot : ℕ) → Granting eui slot → q.aware ≡ false → (bytes : List ℕ) → P Login (grant bytes (given_login s.book slot (new_row source eui q)))
      pub logged_in_aware : (eui : Eui64) (slot place : ℕ) → Granting eui slot → q.aware ≡ true → free_handle_place s.book ≡ Some place → (bytes : List ℕ)
          → P Login (grant bytes (given_handle (given_login s.book slot (new_row source eui q)) place (own_handle (slot + 1) eui source)))
      pub renewed : (slot : ℕ) → Renewing slot → q.aware ≡ (row_at s.book.logins slot).aware → (bytes : List ℕ) → P Login (grant bytes (updated s q slot (row_at s.book.logins slot)))
      pub newly_aware : (slot place : ℕ) → Renewing slot → q.aware ≡ true → (row_at s.book.logins slot).aware ≡ false → free_handle_place s.book ≡ Some place → (bytes : List ℕ)
          → P Login (grant bytes (given_handle (updated s q slot (row_at s.book.logins slot)) place (own_handle (slot + 1) (row_at s.book.logins slot).owner_eui_64 (row_at s.book.logins slot).owner_id)))
      pub no_longer_aware : (slot : ℕ) → Renewing slot → q.aware ≡ false → (bytes : List ℕ) → P Login (grant bytes (swept_book (updated s q slot (row_at s.book.logins slot)) (AllOf (slot + 1))))
      pub told : (bytes : List ℕ) → P QueryLogins (grant bytes s.book)
      pub reconnected : (eui : Eui64) → s.shows source ≡ Some eui → may_reconnect s eui q ≡ true
          → P Reconnect (grant [] (own_handle_moved (put_login s.book (login_id q - 1) (row_after (row_at s.book.logins (login_id q - 1)) (Reconnected source))) source (first (meant (login_id q) Own) 0 s.book.handles)))
      pub allocated : (slot place : ℕ) → Handling slot → shown_there s q ≡ true → free_handle_place s.book ≡ Some place → (bytes : List ℕ) → P NodeHandle (grant bytes (given_handle s.book place (other_handle q)))
      pub moved : (slot place : ℕ) → Handling slot → shown_there s q ≡ true → first (meant (login_id q) (For q.eui_64)) 0 s.book.handles ≡ Some place → (bytes : List ℕ)
          → P NodeHandle (grant bytes (moved_handle s.book place (node_of q)))
      pub others_released : (slot : ℕ) → Handling slot → P NodeHandle (grant [] (swept_book s.book (OthersOf (login_id q))))
      pub one_released : (slot : ℕ) → Handling slot → (handle_at s.book.handles (q.node_or_handle - 1)).own ≡ false → P NodeHandle (grant [] (put_handle s.book (q.node_or_handle - 1) free_handle))
      pub logged_out : (slot : ℕ) → own_login s.book source (login_id q) ≡ Some slot → P Logout (grant [] (ended s.book slot))

    module _ (w : Steps) where
      no : (f : Function) {r : Refusal} → P f (refuse r)
      no f {r} = w.refused f r

      login_slot : (eui : Eui64) (slot : ℕ) → Granting eui slot → (o : Option ℕ) → free_handle_place s.book ≡ o → q.aware ≡ true → P Login (login_at s source eui q slot o)
      login_slot eui slot g None e a = no Login
      login_slot eui slot g (Some place) e a = w.logged_in_aware eui slot place g a e _

      login : (eui : Eui64) → s.shows source ≡ Some eui → q.update ≡ false → denied s eui q ≡ false → (o : Option ℕ) → free_login s.book ≡ o → P Login (login_in s source eui q o)
      login eui there new ok None e = no Login
      login eui there new ok (Some slot) e =
          let g : Granting eui slot = record { there = there; is_new = new; not_denied = ok; is_free = e } in
          by_test (P Login) q.aware _ _ (λ a. login_slot eui slot g (free_handle_place s.book) refl a) (λ a. w.logged_in eui slot g a _)

      aware : (slot : ℕ) → Renewing slot → q.aware ≡ true → (row slot).aware ≡ false → (o : Option ℕ) → free_handle_place s.book ≡ o → P Login (aware_update s q slot (row slot) o)
      aware slot g a b None e = no Login
      aware slot g a b (Some place) e = w.newly_aware slot place g a b e _

      unaware : (slot : ℕ) → Renewing slot → q.aware ≡ false → (bytes : List ℕ) (t : Bool) → (row slot).aware ≡ t
          → P Login (grant bytes (cond t (swept_book (updated s q slot (row slot)) (AllOf (slot + 1))) (updated s q slot (row slot))))
      unaware slot g a bytes true e = w.no_longer_aware slot g a bytes
      unaware slot g a bytes false e = w.renewed slot g (a ∙ sym e) bytes

      update : q.update ≡ true → (o : Option ℕ) → own_login s.book source (login_id q) ≡ o → P Login (update_of s source q o)
      update is None e = no Login
      update is (Some slot) e =
          by_test (P Login) (rejected source q) _ _ (λ x. no Login) (
          λ x. by_test (P Login) (disputed s q slot) _ _ (λ x. no Login) (
          λ alone.
          let g : Renewing slot = record { is_update = is; is_own = e; not_disputed = alone } in
          by_test (P Login) q.aware _ _ (
          λ a. by_test (P Login) (row slot).aware _ _ (λ b. w.renewed slot g (a ∙ sym b) _) (λ b. aware slot g a b (free_handle_place s.book) refl)
          ) (λ a. unaware slot g a _ (row slot).aware refl)
          )
          )

      new_handle : (slot : ℕ) → Handling slot → shown_there s q ≡ true → (o : Option ℕ) → free_handle_place s.book ≡ o → P NodeHandle (allocate_new s q o)
      new_handle slot g there None e = no NodeHandle
      new_handle slot g there (Some place) e = w.allocated slot place g there e _

      old_handle : (slot : ℕ) → Handling slot → shown_there s q ≡ true → (o : Option ℕ) → first (meant (login_id q) (For q.eui_64)) 0 s.book.handles ≡ o → P NodeHandle (allocate_in s q o)
      old_handle slot g there None e = new_handle slot g there (free_handle_place s.book) refl
      old_handle slot g there (Some place) e = w.moved slot place g there e _

      handle : (o : Option ℕ) → own_login s.book source (login_id q) ≡ o → P NodeHandle (handle_of s q o)
      handle None e = no NodeHandle
      handle (Some slot) e =
          by_test (P NodeHandle) (row slot).aware _ _ (
          λ a.
          let g : Handling slot = record { is_own = e; is_aware = a } in
          by_test (P NodeHandle) q.exclusive_or_allocate _ _ (
          λ x. by_test (P NodeHandle) (ltb q.response_length 4) _ _ (λ x. no NodeHandle) (
          λ x. by_test (P NodeHandle) (shown_there s q) _ _ (λ there. old_handle slot g there (first (meant (login_id q) (For q.eui_64)) 0 s.book.handles) refl) (λ x. no NodeHandle)
          )
          ) (
          λ x. by_test (P NodeHandle) (eqb q.node_or_handle 0xFFFF) _ _ (λ x. w.others_released slot g) (
          λ x. by_test (P NodeHandle) (of_login s q (q.node_or_handle - 1)) _ _ (
          λ x. by_test (P NodeHandle) (handle_at s.book.handles (q.node_or_handle - 1)).own _ _ (λ x. no NodeHandle) (λ other. w.one_released slot g other)
          ) (λ x. no NodeHandle)
          )
          )
          ) (λ x. no NodeHandle)

      logout : (o : Option ℕ) → own_login s.book source (login_id q) ≡ o → P Logout (logout_of s o)
      logout None e = no Logout
      logout (Some slot) e = w.logged_out slot e

      function : (f : Function) (eui : Eui64) → s.shows source ≡ Some eui → P f (by_function f s source eui q)
      function Login eui there =
          by_test (P Login) q.update _ _ (λ u. update u (own_login s.book source (login_id q)) refl) (
          λ u. by_test (P Login) (ltb 3 (unit_of q)) _ _ (λ x. no Login) (
          λ x. by_test (P Login) (rejected source q) _ _ (λ x. no Login) (
          λ x. by_test (P Login) (denied s eui q) _ _ (λ x. no Login) (λ ok. login eui there u ok (free_login s.book) refl)
          )
          )
          )
      function QueryLogins eui there =
          by_test (P QueryLogins) (ltb 3 (unit_of q)) _ _ (λ x. no QueryLogins) (
          λ x. by_test (P QueryLogins) (ltb q.response_length 4) _ _ (λ x. no QueryLogins) (λ x. w.told _)
          )
      function Reconnect eui there = by_test (P Reconnect) (may_reconnect s eui q) _ _ (λ may. w.reconnected eui there may) (λ x. no Reconnect)
      function NodeHandle eui there = handle (own_login s.book source (login_id q)) refl
      function Logout eui there = logout (own_login s.book source (login_id q)) refl
      function (Unknown n) eui there = no (Unknown n)

      station : (o : Option Eui64) → s.shows source ≡ o → P q.function (from o s source q)
      station None e = no q.function
      station (Some eui) e = function q.function eui e

      pub walked : P q.function (outcome s source q)
      walked = by_test (P q.function) (unsupported q) _ _ (λ x. no q.function) (λ x. station (s.shows source) refl)
