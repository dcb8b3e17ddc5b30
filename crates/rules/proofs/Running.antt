-- Claims hold after every call, and so after every run. Assumes that the access list is lawful.
use Rattle.std.proofs.Common.{◌≡◌, ℕ, Bool, true, false, cond, not, ◌&&◌, List, [], ◌∷◌, map, replicate, sym, refl, ap, subst}
use Rattle.std.proofs.lemmas.Bool.{both_ways}
use Rattle.bus.specs.Meaning.{Answer, BusModel}
use Rattle.bus.specs.Finding.{local_of}
use Rattle.access.specs.Meaning.{AccessModel, Lawful}
use Rattle.reader.specs.declared.ids.Eui64.{Eui64}
use Rattle.logins.specs.Logins.{holder, free_row, row_after}
use Rattle.logins.specs.Rows.{logins_size, row_at}
use Rattle.logins.specs.declared.rows.LoginEvent.TheVariants.{Reset, NetUpdate as NetUpdated, Tick as Ticked}
use Rattle.logins.specs.declared.rows.LoginRow.{LoginRow}
use Rattle.tables.specs.Books.{Book}
use Rattle.tables.specs.Events.{kept_row, reset_row, tick_counted}
use Rattle.rules.specs.Claims.{Claims}
use Rattle.rules.specs.Runs.{Snapshot, Event, Step, Run, New, now_at, scene}
use Rattle.rules.specs.declared.calls.Call.{Call}
use Rattle.rules.specs.declared.calls.Call.TheVariants.{Request, BusReset, NetUpdate, Gap, Tick, AccessChange, BusNote, AccessNote}
use Rattle.rules.proofs.Claims.{claims_thinner}
use Rattle.rules.proofs.Rows.{map_at, replicate_at}
use Rattle.rules.proofs.Served.{claims_after_request}
use Rattle.rules.proofs.Walking.{either_book}
use Rattle.rules.proofs.Thinning.{Like, like_after, like_kept, thinner_map}

never : (r : LoginRow) → r ≡ free_row → holder r ≡ true → ⊥
never r e h = both_ways (holder r) (ap holder e) h

-- a new target has no holder
pub claims_at_first : (admits : Eui64 → ℕ → Bool) (n : ℕ) → Claims admits (replicate n free_row)
claims_at_first admits n =
    record {
      exclusive_holder_is_alone = λ i j h k x u. absurd (never _ (replicate_at n i free_row) h);
      initiator_holds_once = λ i j h k o u. absurd (never _ (replicate_at n i free_row) h);
      holders_are_admitted = λ i h. absurd (never _ (replicate_at n i free_row) h);
    }

-- who is kept at an access change is admitted
kept_is_admitted : (admits : Eui64 → ℕ → Bool) (r : LoginRow) → holder (kept_row admits r) ≡ true → admits (kept_row admits r).owner_eui_64 (kept_row admits r).unit ≡ true
kept_is_admitted admits r h = go (holder r) (admits r.owner_eui_64 r.unit) refl refl h where
  go : (b a : Bool) → holder r ≡ b → admits r.owner_eui_64 r.unit ≡ a → holder (cond (b && not a) free_row r) ≡ true
      → admits (cond (b && not a) free_row r).owner_eui_64 (cond (b && not a) free_row r).unit ≡ true
  go true true p q h = q
  go true false p q h = absurd (never free_row refl h)
  go false true p q h = absurd (both_ways (holder r) p h)
  go false false p q h = absurd (both_ways (holder r) p h)

claims_changed : (admits after : Eui64 → ℕ → Bool) (rows : List LoginRow) → Claims admits rows → Claims after (map (kept_row after) rows)
claims_changed admits after rows c =
    let thin = claims_thinner admits rows (map (kept_row after) rows) (thinner_map (kept_row after) (like_kept after) rows) c in
    record {
      exclusive_holder_is_alone = thin.exclusive_holder_is_alone;
      initiator_holds_once = thin.initiator_holds_once;
      holders_are_admitted = λ i h.
          subst (λ (t : LoginRow). holder t ≡ true → after t.owner_eui_64 t.unit ≡ true) (sym (map_at (kept_row after) rows i free_row refl)) (kept_is_admitted after (row_at rows i)) h;
    }

module _ {B A N : Type 0} (m : BusModel B) (n : AccessModel A N) (lawful : Lawful n) where
  abbrev Held : Snapshot B A → Type 0
  Held x = Claims (n.admits x.list) x.book.logins

  moved_on : (x y : Snapshot B A) (b : Book) → Claims (n.admits x.list) b.logins → y.list ≡ x.list → y.book ≡ b → Held y
  moved_on x y b c l e =
      subst (λ (z : A). Claims (n.admits z) y.book.logins) (sym l) (subst (λ (z : Book). Claims (n.admits x.list) z.logins) (sym e) c)

  -- by what each login becomes
  each : (x : Snapshot B A) (f : LoginRow → LoginRow) → ((r : LoginRow) → Like r (f r)) → Held x → Claims (n.admits x.list) (map f x.book.logins)
  each x f like c = claims_thinner (n.admits x.list) x.book.logins (map f x.book.logins) (thinner_map f like x.book.logins) c

  ticked : (x : Snapshot B A) → Held x → Claims (n.admits x.list) (tick_counted x.book).logins
  ticked x c = either_book (λ b. Claims (n.admits x.list) b.logins) x.book.ticking _ x.book (each x (λ r. row_after r Ticked) (λ r. like_after r Ticked) c) c

  step_holds : (x : Snapshot B A) (call : Call N) (a : Answer) (y : Snapshot B A) → Step m n x call a y → Held x → Held y
  step_holds x (Request source q) a y step c = moved_on x y _ (claims_after_request (scene m n x) c source q) step.1.list step.2
  step_holds x BusReset a y step c =
      moved_on x y _ (each x (reset_row (m.shows y.bus)) (λ r. like_after r (Reset (local_of (m.shows y.bus) r.owner_eui_64))) c) step.2 step.3
  step_holds x NetUpdate a y step c = moved_on x y _ (each x (λ r. row_after r NetUpdated) (λ r. like_after r NetUpdated) c) step.2 step.3
  step_holds x Gap a y step c = moved_on x y _ c step.1.list step.2
  step_holds x Tick a y step c = moved_on x y _ (ticked x c) step.1.list step.2
  step_holds x AccessChange a y step c =
      subst (λ (z : Book). Claims (n.admits y.list) z.logins) (sym step.3) (claims_changed (n.admits x.list) (n.admits y.list) x.book.logins c)
  step_holds x (BusNote node e) a y step c = moved_on x y _ c step.1 step.2
  step_holds x (AccessNote note) a y step c =
      subst (λ (z : Book). Claims (n.admits y.list) z.logins) (sym step.2) (
      subst (λ (f : Eui64 → ℕ → Bool). Claims f x.book.logins) (sym (lawful.note_keeps_admitted x.list y.list note a step.0)) c
      )

  pub claims_hold : (start : Snapshot B A) → New start → (history : List (Event B A N)) → Run m n start history → Held (now_at start history)
  claims_hold start new [] run = subst (λ (z : Book). Claims (n.admits start.list) z.logins) (sym new) (claims_at_first (n.admits start.list) logins_size)
  claims_hold start new (e ∷ es) run = step_holds (now_at start es) e.call e.answer e.after run.1 (claims_hold start new es run.0)
