-- After every run a holder's hold is that of its last granted login or update. Assumes nothing.
use Rattle.std.proofs.Common.{◌≡◌, ℕ, Bool, true, false, cond, List, [], ◌∷◌, map, sym, refl, ap, ◌∙◌, subst, arith}
use Rattle.std.proofs.lemmas.Bool.{both_ways}
use Rattle.bus.specs.Finding.{local_of}
use Rattle.bus.specs.Meaning.{Answer, BusModel}
use Rattle.access.specs.Meaning.{AccessModel}
use Rattle.logins.specs.Logins.{holder, free_row, row_after}
use Rattle.logins.specs.Rows.{logins_size, row_at}
use Rattle.logins.specs.declared.rows.LoginEvent.TheVariants.{Reset, NetUpdate as NetUpdated, Tick as Ticked}
use Rattle.logins.specs.declared.rows.LoginRow.{LoginRow}
use Rattle.tables.specs.Books.{Book}
use Rattle.tables.specs.Events.{kept_row, reset_row}
use Rattle.rules.specs.Holds.{restart, kind, gives_hold, hold_in, last_hold}
use Rattle.rules.specs.Runs.{Snapshot, Event, Step, Run, New, now_at, scene}
use Rattle.rules.specs.Scenes.{answer_of, book_after}
use Rattle.rules.specs.Serving.{outcome}
use Rattle.rules.specs.declared.calls.Call.{Call}
use Rattle.rules.specs.declared.calls.Call.TheVariants.{Request, BusReset, NetUpdate, Gap, Tick, AccessChange, BusNote, AccessNote}
use Rattle.rules.proofs.HoldGiving.{hold_as_asked, hold_as_before}
use Rattle.rules.proofs.Rows.{replicate_at}
use Rattle.rules.proofs.Walking.{either_book}
use Rattle.rules.proofs.Thinning.{Like, like_same, like_after, like_kept, thinner_map}

module _ {B A N : Type 0} (m : BusModel B) (n : AccessModel A N) (slot : ℕ) where
  abbrev row : Snapshot B A → LoginRow
  row x = row_at x.book.logins slot

  -- a call gives the hold that it asks, or none
  record Gives (x : Snapshot B A) (call : Call N) (a : Answer) (y : Snapshot B A) : Type 0 where
    asked : gives_hold slot call a (row x) (row y) ≡ true → (row y).hold ≡ hold_in call
    kept : gives_hold slot call a (row x) (row y) ≡ false → Like (row x) (row y)

  like_rows : (x y : Snapshot B A) (b : Book) → y.book ≡ b → Like (row x) (row_at b.logins slot) → Like (row x) (row y)
  like_rows x y b e w = subst (λ (z : Book). Like (row x) (row_at z.logins slot)) (sym e) w

  -- an event gives none
  silent : (x : Snapshot B A) (call : Call N) (a : Answer) (y : Snapshot B A) → gives_hold slot call a (row x) (row y) ≡ false → Like (row x) (row y) → Gives x call a y
  silent x call a y e w = record { asked = λ h. absurd (both_ways (gives_hold slot call a (row x) (row y)) e h); kept = λ h. w }

  each : (x : Snapshot B A) (f : LoginRow → LoginRow) → ((r : LoginRow) → Like r (f r)) → Like (row x) (row_at (map f x.book.logins) slot)
  each x f like = thinner_map f like x.book.logins slot

  step_gives : (x : Snapshot B A) (call : Call N) (a : Answer) (y : Snapshot B A) → Step m n x call a y → Gives x call a y
  step_gives x (Request source q) a y step =
      let s = scene m n x in
      let o = outcome s source q in
      let call : Call N = Request source q in
      let as_ruled : gives_hold slot call a (row x) (row y) ≡ gives_hold slot call (answer_of o) (row x) (row_at (book_after x.book o).logins slot) =
      ap (λ (z : Answer). gives_hold slot call z (row x) (row y)) step.0 ∙ ap (λ (b : Book). gives_hold slot call (answer_of o) (row x) (row_at b.logins slot)) step.2 in
      record {
        asked = λ h. ap (λ (b : Book). (row_at b.logins slot).hold) step.2 ∙ hold_as_asked s slot q source (sym as_ruled ∙ h);
        kept = λ h. like_rows x y (book_after x.book o) step.2 (hold_as_before s slot q source (sym as_ruled ∙ h));
      }
  step_gives x BusReset a y step =
      silent x BusReset a y refl (like_rows x y _ step.3 (each x (reset_row (m.shows y.bus)) (λ r. like_after r (Reset (local_of (m.shows y.bus) r.owner_eui_64)))))
  step_gives x NetUpdate a y step = silent x NetUpdate a y refl (like_rows x y _ step.3 (each x (λ r. row_after r NetUpdated) (λ r. like_after r NetUpdated)))
  step_gives x Gap a y step = silent x Gap a y refl (like_rows x y _ step.2 (like_same (row x)))
  step_gives x Tick a y step =
      silent x Tick a y refl (
      like_rows x y _ step.2 (
      either_book (λ b. Like (row x) (row_at b.logins slot)) x.book.ticking _ x.book (each x (λ r. row_after r Ticked) (λ r. like_after r Ticked)) (like_same (row x))
      )
      )
  step_gives x AccessChange a y step = silent x AccessChange a y refl (like_rows x y _ step.3 (each x (kept_row (n.admits y.list)) (like_kept (n.admits y.list))))
  step_gives x (BusNote node e) a y step = silent x (BusNote node e) a y refl (like_rows x y _ step.2 (like_same (row x)))
  step_gives x (AccessNote note) a y step = silent x (AccessNote note) a y refl (like_rows x y _ step.2 (like_same (row x)))

  pub hold_is_last : (start : Snapshot B A) → New start → (history : List (Event B A N)) → Run m n start history → holder (row (now_at start history)) ≡ true
      → (row (now_at start history)).hold ≡ last_hold start slot history
  hold_is_last start new [] run h =
      absurd (both_ways (holder (row start)) (ap (λ (b : Book). holder (row_at b.logins slot)) new ∙ ap holder (replicate_at logins_size slot free_row)) h)
  hold_is_last start new (e ∷ es) run h = go (gives_hold slot e.call e.answer (row (now_at start es)) (row e.after)) refl (hold_is_last start new es run.0) where
    gives : Gives (now_at start es) e.call e.answer e.after
    gives = step_gives (now_at start es) e.call e.answer e.after run.1

    go : (t : Bool) → gives_hold slot e.call e.answer (row (now_at start es)) (row e.after) ≡ t
        → (holder (row (now_at start es)) ≡ true → (row (now_at start es)).hold ≡ last_hold start slot es) → (row e.after).hold ≡ cond t (hold_in e.call) (last_hold start slot es)
    go true p earlier = gives.asked p
    go false p earlier = let same = gives.kept p h in same.hold ∙ earlier same.held

  -- a reset and a net update give no hold
  restart_is_silent : (call : Call N) (a : Answer) (before after : LoginRow) → kind call ≡ restart → gives_hold slot call a before after ≡ false
  restart_is_silent (Request source q) a before after e = absurd (let z : ◌≡◌ {A = ℕ} 0 1 = cc in omega arith)
  restart_is_silent BusReset a before after e = refl
  restart_is_silent NetUpdate a before after e = refl
  restart_is_silent Gap a before after e = refl
  restart_is_silent Tick a before after e = refl
  restart_is_silent AccessChange a before after e = refl
  restart_is_silent (BusNote node eui) a before after e = refl
  restart_is_silent (AccessNote note) a before after e = refl

  pub hold_at_restart : (start : Snapshot B A) → New start → (before : List (Event B A N)) (last : Event B A N) → kind last.call ≡ restart → Run m n start (last ∷ before)
      → holder (row last.after) ≡ true → (row last.after).hold ≡ last_hold start slot before
  hold_at_restart start new before last e run h =
      hold_is_last start new (last ∷ before) run h
      ∙ ap (λ (t : Bool). cond t (hold_in last.call) (last_hold start slot before)) (restart_is_silent last.call last.answer (row (now_at start before)) (row last.after) e)
