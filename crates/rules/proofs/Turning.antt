-- No request but a granted reconnect of it touches a reserved login, and none makes one: what each step of the walk through the rules does to a login. Assumes that FFFFh shows nobody.
use Rattle.std.proofs.Common.{◌≡◌, ℕ, ◌+◌, ◌-◌, ◌≤◌, Bool, true, false, not, ◌&&◌, eqb, ltb, leb, List, [], set, Some, None, Option, refl, ap, ◌∙◌, subst, inl, inr, arith}
use Rattle.std.proofs.lemmas.Bool.{both_ways, and_parts, and_left, and_right, leb-true, eqb-true, eqb-false}
use Rattle.reader.specs.Ids.{none_id, none_eui}
use Rattle.reader.specs.declared.ids.NodeId.{NodeId}
use Rattle.reader.specs.declared.ids.Eui64.{Eui64}
use Rattle.reader.specs.declared.refusal.Refusal.{Refusal}
use Rattle.reader.specs.declared.request.Request.{Request}
use Rattle.reader.specs.declared.request.Function.{Function}
use Rattle.reader.specs.declared.request.Function.TheVariants.{Login, QueryLogins, Reconnect, NodeHandle, Logout}
use Rattle.logins.specs.Logins.{holder, reserved, free_row, row_after}
use Rattle.logins.specs.Rows.{logins_size, row_at}
use Rattle.logins.specs.Tests.{meant}
use Rattle.logins.specs.declared.rows.Handle.{Handle}
use Rattle.logins.specs.declared.rows.HandleSweep.TheVariants.{AllOf}
use Rattle.logins.specs.declared.rows.LoginEvent.TheVariants.{Reconnect as Reconnected}
use Rattle.logins.specs.declared.rows.LoginRow.{LoginRow}
use Rattle.logins.specs.declared.rows.WhichHandle.TheVariants.{Own as OwnHandle}
use Rattle.tables.specs.Books.{Book, put_login}
use Rattle.tables.specs.Events.{given_login, given_handle, swept_book, ended}
use Rattle.tables.specs.Searches.{first, free_login}
use Rattle.tables.proofs.Places.{next_free_some}
use Rattle.tables.proofs.Setting.{set_either}
use Rattle.rules.specs.Holds.{granted, is_reconnect}
use Rattle.rules.specs.Logins.{login_id, new_row, updated_row, updated, own_handle_moved, may_reconnect}
use Rattle.rules.specs.Scenes.{Scene, Outcome, refuse, grant, answer_of, book_after}
use Rattle.rules.specs.Serving.{outcome}
use Rattle.rules.proofs.Calm.{Calm, Own, calm_same, calm_to, calm_set, unheld_unreserved, active_unreserved, own_is_active, set_held, returned}
use Rattle.rules.proofs.Walks.{Steps, walked}
use Rattle.rules.proofs.Walking.{either_book, handle_leaves_logins, handle_leaves_ticking, moved_leaves_logins, moved_leaves_ticking}

module _ (s : Scene) (k : ℕ) where
  -- the row of the slot after what came of a request
  abbrev row_then : Outcome → LoginRow
  row_then o = row_at (book_after s.book o).logins k

  -- the row as it was but for a reserved one's leave, and ticks count as they did
  record Quiet (b : Book) : Type 0 where
    calm : Calm (row_at s.book.logins k) (row_at b.logins k)
    ticking : b.ticking ≡ s.book.ticking

  quiet_same : Quiet s.book
  quiet_same = record { calm = calm_same (row_at s.book.logins k); ticking = refl }

  -- the logins are those of another book
  quiet_as : (b c : Book) → c.logins ≡ b.logins → c.ticking ≡ b.ticking → Quiet b → Quiet c
  quiet_as b c rows ticks h =
      record { calm = calm_to _ _ (row_at b.logins k) (ap (λ (rows : List LoginRow). row_at rows k) rows) h.calm; ticking = ticks ∙ h.ticking }

  with_handle : (b : Book) (place : ℕ) (h : Handle) → Quiet b → Quiet (given_handle b place h)
  with_handle b place h c = quiet_as b _ (handle_leaves_logins b place h) (handle_leaves_ticking b place h) c

  module _ (none_shows_nobody : (i : NodeId) → none_id i ≡ true → s.shows i ≡ None) where
    somewhere : (source : NodeId) (eui : Eui64) → s.shows source ≡ Some eui → none_id source ≡ false
    somewhere source eui e = go (none_id source) refl where
      go : (b : Bool) → none_id source ≡ b → b ≡ false
      go false p = refl
      go true p = absurd (let n = none_shows_nobody source p in let z : ◌≡◌ {A = ℕ} 0 1 = cc in omega arith)

    -- a login at a node is not reserved
    placed : (source : NodeId) (eui e : Eui64) → s.shows source ≡ Some eui → (not (none_eui e) && none_id source) ≡ false
    placed source eui e h = ap (λ (b : Bool). not (none_eui e) && b) (somewhere source eui h) ∙ and_right (not (none_eui e)) false refl

    module _ (source : NodeId) (eui : Eui64) (q : Request) (there : s.shows source ≡ Some eui) where
      new_quiet : (slot : ℕ) → free_login s.book ≡ Some slot → Quiet (given_login s.book slot (new_row source eui q))
      new_quiet slot found =
          either_book Quiet (ltb slot logins_size) _ s.book (
          record {
            calm = calm_set s.book.logins slot (new_row source eui q) (unheld_unreserved (row_at s.book.logins slot) (next_free_some _ _ _ _ slot found)) (placed source eui eui there) k;
            ticking = refl;
          }
          ) quiet_same

  module _ (q : Request) (slot : ℕ) (own : Own s.book (login_id q) slot) where
    settled : reserved (row_at s.book.logins slot) ≡ false
    settled = active_unreserved (row_at s.book.logins slot) own.is_active

    updated_quiet : Quiet (updated s q slot (row_at s.book.logins slot))
    updated_quiet = record { calm = calm_set s.book.logins slot (updated_row (row_at s.book.logins slot) q) settled settled k; ticking = refl }

    swept_quiet : Quiet (swept_book (updated s q slot (row_at s.book.logins slot)) (AllOf (slot + 1)))
    swept_quiet = quiet_as (updated s q slot (row_at s.book.logins slot)) _ refl refl updated_quiet

    logged_out_quiet : Quiet (ended s.book slot)
    logged_out_quiet = record { calm = calm_set s.book.logins slot free_row settled refl k; ticking = refl }

  -- a request that is a granted reconnect of the login
  abbrev takes : Function → Request → Outcome → Bool
  takes f q o = granted (answer_of o) && (is_reconnect f && eqb (login_id q) (k + 1))

  -- a reconnect leaves it active, any other request leaves it as it was, and none starts or stops the ticks
  record Told (f : Function) (q : Request) (o : Outcome) : Type 0 where
    pub ticking : (book_after s.book o).ticking ≡ s.book.ticking
    pub taken : takes f q o ≡ true → reserved (row_then o) ≡ false
    pub left_alone : takes f q o ≡ false → Calm (row_at s.book.logins k) (row_then o)

  told_refused : (f : Function) (q : Request) (r : Refusal) → Told f q (refuse r)
  told_refused f q r = record { ticking = refl; taken = λ h. absurd (both_ways false refl h); left_alone = λ h. calm_same (row_at s.book.logins k) }

  told_calm : (f : Function) (q : Request) (bytes : List ℕ) (b : Book) → is_reconnect f ≡ false → Quiet b → Told f q (grant bytes b)
  told_calm f q bytes b e t =
      let none : takes f q (grant bytes b) ≡ false = and_left (is_reconnect f) _ e in
      record { ticking = t.ticking; taken = λ h. absurd (both_ways (takes f q (grant bytes b)) none h); left_alone = λ h. t.calm }

  module _ (source : NodeId) (eui : Eui64) (q : Request) (at_node : none_id source ≡ false) (may : may_reconnect s eui q ≡ true) where
    abbrev back : LoginRow
    back = row_after (row_at s.book.logins (login_id q - 1)) (Reconnected source)

    numbered : 1 ≤ login_id q
    numbered = leb-true 1 (login_id q) (and_parts (leb 1 (login_id q)) _ may).0

    held : holder (row_at s.book.logins (login_id q - 1)) ≡ true
    held = (and_parts (holder (row_at s.book.logins (login_id q - 1))) _ (and_parts (leb 1 (login_id q)) _ may).1).0

    back_is_active : reserved back ≡ false
    back_is_active = returned (row_at s.book.logins (login_id q - 1)) source held at_node

    reconnect_told : (place : Option ℕ) → Told Reconnect q (grant [] (own_handle_moved (put_login s.book (login_id q - 1) back) source place))
    reconnect_told place =
        let logins : (own_handle_moved (put_login s.book (login_id q - 1) back) source place).logins ≡ set s.book.logins (login_id q - 1) back =
        moved_leaves_logins (put_login s.book (login_id q - 1) back) source place in
        let then = ap (λ (rows : List LoginRow). row_at rows k) logins in
        record {
          ticking = moved_leaves_ticking (put_login s.book (login_id q - 1) back) source place;
          taken = λ h.
              let is : login_id q ≡ k + 1 = eqb-true (login_id q) (k + 1) h in
              let slot : login_id q - 1 ≡ k = omega arith in
              ap reserved (then ∙ subst (λ (j : ℕ). row_at (set s.book.logins (login_id q - 1) back) j ≡ back) slot (set_held s.book.logins (login_id q - 1) back held)) ∙ back_is_active;
          left_alone = λ h. elim (set_either s.book.logins (login_id q - 1) back free_row k) [
            | inl w ↦ absurd (let one = numbered in let at = w.0 in eqb-false (login_id q) (k + 1) h (omega arith))
            | inr w ↦ calm_to _ _ (row_at s.book.logins k) (then ∙ w) (calm_same (row_at s.book.logins k))
          ];
        }

  module _ (none_shows_nobody : (i : NodeId) → none_id i ≡ true → s.shows i ≡ None) (source : NodeId) (q : Request) where
    steps : Steps s source q (λ f o. Told f q o)
    steps =
        record {
          refused = λ f r. told_refused f q r;
          logged_in = λ eui slot g a bytes. told_calm Login q bytes _ refl (new_quiet none_shows_nobody source eui q g.there slot g.is_free);
          logged_in_aware = λ eui slot place g a e bytes. told_calm Login q bytes _ refl (with_handle _ place _ (new_quiet none_shows_nobody source eui q g.there slot g.is_free));
          renewed = λ slot g a bytes. told_calm Login q bytes _ refl (updated_quiet q slot (own_is_active s.book source (login_id q) slot g.is_own));
          newly_aware = λ slot place g a b e bytes. told_calm Login q bytes _ refl (with_handle _ place _ (updated_quiet q slot (own_is_active s.book source (login_id q) slot g.is_own)));
          no_longer_aware = λ slot g a bytes. told_calm Login q bytes _ refl (swept_quiet q slot (own_is_active s.book source (login_id q) slot g.is_own));
          told = λ bytes. told_calm QueryLogins q bytes _ refl quiet_same;
          reconnected = λ eui there may.
              reconnect_told source eui q (somewhere none_shows_nobody source eui there) may (first (meant (login_id q) OwnHandle) 0 s.book.handles);
          allocated = λ slot place g there e bytes. told_calm NodeHandle q bytes _ refl (with_handle s.book place _ quiet_same);
          moved = λ slot place g there e bytes. told_calm NodeHandle q bytes _ refl (quiet_as s.book _ refl refl quiet_same);
          others_released = λ slot g. told_calm NodeHandle q [] _ refl (quiet_as s.book _ refl refl quiet_same);
          one_released = λ slot g other. told_calm NodeHandle q [] _ refl (quiet_as s.book _ refl refl quiet_same);
          logged_out = λ slot e. told_calm Logout q [] _ refl (logged_out_quiet q slot (own_is_active s.book source (login_id q) slot e));
        }

    request_told : Told q.function q (outcome s source q)
    request_told = walked s source q (λ f o. Told f q o) steps

    pub reconnect_ends_the_wait : takes q.function q (outcome s source q) ≡ true → reserved (row_at (book_after s.book (outcome s source q)).logins k) ≡ false
    reconnect_ends_the_wait = request_told.taken

    pub request_leaves_reserved : takes q.function q (outcome s source q) ≡ false → Calm (row_at s.book.logins k) (row_at (book_after s.book (outcome s source q)).logins k)
    request_leaves_reserved = request_told.left_alone

    pub request_leaves_ticking : (book_after s.book (outcome s source q)).ticking ≡ s.book.ticking
    request_leaves_ticking = request_told.ticking
