-- Claims hold after every request: that they hold after each step of the walk through the rules. Assumes nothing.
use Rattle.std.proofs.Common.{◌≡◌, ℕ, ◌-◌, Bool, true, false, not, ◌&&◌, ◌||◌, ltb, set, sym, refl, ap, ◌∙◌, subst}
use Rattle.std.proofs.lemmas.Bool.{or_parts, ltb-false, not-false}
use Rattle.reader.specs.declared.ids.NodeId.{NodeId}
use Rattle.reader.specs.declared.ids.Eui64.{Eui64}
use Rattle.reader.specs.declared.request.Request.{Request}
use Rattle.reader.specs.declared.request.Function.{Function}
use Rattle.logins.specs.Logins.{free_row, row_after}
use Rattle.logins.specs.Rows.{logins_size, row_at}
use Rattle.logins.specs.Tests.{among, meant}
use Rattle.logins.specs.declared.rows.Handle.{Handle}
use Rattle.logins.specs.declared.rows.Holders.TheVariants.{OfUnit, ExclusiveTo, Owning}
use Rattle.logins.specs.declared.rows.LoginEvent.TheVariants.{Reconnect as Reconnected}
use Rattle.logins.specs.declared.rows.WhichHandle.TheVariants.{Own}
use Rattle.tables.specs.Books.{Book, put_login}
use Rattle.tables.specs.Events.{given_login, given_handle}
use Rattle.tables.specs.Searches.{count, first}
use Rattle.rules.specs.Claims.{Claims}
use Rattle.rules.specs.Logins.{unit_of, login_id, denied, new_row, updated_row, updated, disputed}
use Rattle.rules.specs.Scenes.{Scene, Outcome, book_after}
use Rattle.rules.specs.Serving.{outcome}
use Rattle.rules.proofs.Claims.{claims_thinner}
use Rattle.rules.proofs.Granting.{claims_new, claims_updated}
use Rattle.rules.proofs.Walks.{Steps, walked}
use Rattle.rules.proofs.Walking.{either_book, handle_leaves_logins, moved_leaves_logins}
use Rattle.rules.proofs.Thinning.{like_after, like_free, thinner_set}

-- where a test that is joined with a true one fails, the other fails
second_fails : (a b : Bool) → (a && b) ≡ false → a ≡ true → b ≡ false
second_fails a b e t = sym (ap (λ (x : Bool). x && b) t) ∙ e

module _ (s : Scene) (c : Claims s.admits s.book.logins) where
  -- rows that a grant leaves, through a handle given
  with_handle : (b : Book) (place : ℕ) (h : Handle) → Claims s.admits b.logins → Claims s.admits (given_handle b place h).logins
  with_handle b place h k = subst (Claims s.admits) (sym (handle_leaves_logins b place h)) k

  module _ (source : NodeId) (eui : Eui64) (q : Request) (ok : denied s eui q ≡ false) where
    login_claims : (slot : ℕ) → Claims s.admits (given_login s.book slot (new_row source eui q)).logins
    login_claims slot =
        let rows = s.book.logins in
        let u = unit_of q in
        let x = q.exclusive_or_allocate in
        let owning = ltb 0 (count (among (Owning eui u)) rows) in
        let unit = ltb 0 (count (among (OfUnit u)) rows) in
        let exclusive = ltb 0 (count (among (ExclusiveTo u)) rows) in
        let p = or_parts (not (s.admits eui u)) (owning || ((x && unit) || exclusive)) ok in
        let r = or_parts owning ((x && unit) || exclusive) p.1 in
        let t = or_parts (x && unit) exclusive r.1 in
        either_book (λ b. Claims s.admits b.logins) (ltb slot logins_size) _ s.book (
        claims_new s.admits rows c slot (new_row source eui q) (not-false (s.admits eui u) p.0) (ltb-false 0 _ r.0) (λ e. ltb-false 0 _ (second_fails x unit t.0 e)) (ltb-false 0 _ t.1)
        ) c

  module _ (q : Request) (slot : ℕ)
      (alone : disputed s q slot ≡ false) where
    update_claims : Claims s.admits (updated s q slot (row_at s.book.logins slot)).logins
    update_claims =
        claims_updated s.admits s.book.logins c slot (updated_row (row_at s.book.logins slot) q) refl refl (λ e. ltb-false 1 _ (second_fails q.exclusive_or_allocate _ alone e))

  module _ (source : NodeId) (q : Request) where
    abbrev Held : Function → Outcome → Type 0
    Held f o = Claims s.admits (book_after s.book o).logins

    steps : Steps s source q Held
    steps =
        record {
          refused = λ f r. c;
          logged_in = λ eui slot g a bytes. login_claims source eui q g.not_denied slot;
          logged_in_aware = λ eui slot place g a e bytes. with_handle _ place _ (login_claims source eui q g.not_denied slot);
          renewed = λ slot g a bytes. update_claims q slot g.not_disputed;
          newly_aware = λ slot place g a b e bytes. with_handle _ place _ (update_claims q slot g.not_disputed);
          no_longer_aware = λ slot g a bytes. update_claims q slot g.not_disputed;
          told = λ bytes. c;
          reconnected = λ eui there may.
              let row = row_at s.book.logins (login_id q - 1) in
              let put = put_login s.book (login_id q - 1) (row_after row (Reconnected source)) in
              subst (Claims s.admits) (sym (moved_leaves_logins put source (first (meant (login_id q) Own) 0 s.book.handles))) (
              claims_thinner s.admits s.book.logins put.logins (thinner_set s.book.logins (login_id q - 1) _ (like_after row (Reconnected source))) c
              );
          allocated = λ slot place g there e bytes. with_handle s.book place _ c;
          moved = λ slot place g there e bytes. c;
          others_released = λ slot g. c;
          one_released = λ slot g other. c;
          logged_out = λ slot e.
              claims_thinner s.admits s.book.logins (set s.book.logins slot free_row) (thinner_set s.book.logins slot free_row (like_free (row_at s.book.logins slot))) c;
        }

    pub claims_after_request : Claims s.admits (book_after s.book (outcome s source q)).logins
    claims_after_request = walked s source q Held steps
