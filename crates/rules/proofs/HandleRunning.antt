-- What is promised of handles holds after every call, and so after every run. Assumes that the bus is lawful.
use Rattle.std.proofs.Common.{◌≡◌, ℕ, Bool, true, List, [], ◌∷◌, map, Option, sym, refl, ap, subst, arith}
use Rattle.std.proofs.lemmas.List.{length-map}
use Rattle.std.proofs.lemmas.Bool.{both_ways, cond_both}
use Rattle.bus.specs.Meaning.{Answer, BusModel, Lawful}
use Rattle.access.specs.Meaning.{AccessModel}
use Rattle.reader.specs.declared.ids.NodeId.{NodeId}
use Rattle.reader.specs.declared.ids.Eui64.{Eui64}
use Rattle.logins.specs.Logins.{holder, free_row, row_after}
use Rattle.logins.specs.Rows.{logins_size, handles_size, row_at, handle_at, free_handle, in_use}
use Rattle.logins.specs.declared.rows.HandleSweep.TheVariants.{Orphans}
use Rattle.logins.specs.declared.rows.LoginEvent.TheVariants.{Tick as Ticked}
use Rattle.logins.specs.declared.rows.LoginRow.{LoginRow}
use Rattle.tables.specs.Books.{Book, new_book, with_logins}
use Rattle.tables.specs.Events.{swept_book, ticking_so, was_reset, net_updated, tick_counted, access_changed, kept_row}
use Rattle.rules.specs.HandleClaims.{HandleClaims}
use Rattle.rules.specs.Runs.{Snapshot, Event, Step, Run, New, now_at, scene}
use Rattle.rules.specs.declared.calls.Call.{Call}
use Rattle.rules.specs.declared.calls.Call.TheVariants.{Request, BusReset, NetUpdate, Gap, Tick, AccessChange, BusNote, AccessNote}
use Rattle.rules.proofs.HandleFollowing.{Next, next_ticked, next_kept}
use Rattle.rules.proofs.HandleKeeping.{sized_as}
use Rattle.rules.proofs.HandleLogins.{Kept}
use Rattle.rules.proofs.Rows.{map_at, replicate_at}
use Rattle.rules.proofs.HandleServed.{kept_after_request}
use Rattle.rules.proofs.HandleSweeping.{claims_orphans, claims_reset, claims_net_updated}
use Rattle.rules.proofs.HandleThinning.{OwnerShown}

-- a new target has no holder and no handle in use
kept_at_first : (shows : NodeId → Option Eui64) → Kept shows new_book
kept_at_first shows =
    let no_holder : (i : ℕ) → holder (row_at new_book.logins i) ≡ true → ⊥ = λ i. both_ways _ (ap holder (replicate_at logins_size i free_row)) in
    let not_in_use : (p : ℕ) → in_use (handle_at new_book.handles p) ≡ true → ⊥ = λ p. both_ways _ (ap in_use (replicate_at handles_size p free_handle)) in
    record {
      claims =
          record {
            handle_belongs_to_an_aware_holder = λ p u. absurd (not_in_use p u);
            aware_holder_has_its_own_handle = λ i a. absurd (no_holder i a.held);
            own_handle_is_one = λ p q u x y e. absurd (not_in_use p u);
            own_handle_has_its_owner = λ p u x. absurd (not_in_use p u);
            owner_is_shown = λ i h l. absurd (no_holder i h);
            handle_is_shown = λ p u l. absurd (not_in_use p u);
          };
      sized = record { all_logins = refl; all_handles = refl; next_slot = omega arith; next_place = omega arith };
    }

module _ (shows : NodeId → Option Eui64) (b : Book) (k : Kept shows b) where
  -- logins that may end, and their handles with them
  orphans_swept : (f : LoginRow → LoginRow) → f free_row ≡ free_row → ((r : LoginRow) → OwnerShown shows r → Next shows r (f r)) → Kept shows (swept_book (with_logins b (map f b.logins)) Orphans)
  orphans_swept f free next =
      record {
        claims = claims_orphans shows b.logins b.handles k.claims (map f b.logins) (
            λ i. subst (Next shows (row_at b.logins i)) (sym (map_at f b.logins i free_row free)) (next (row_at b.logins i) (k.claims.owner_is_shown i))
            );
        sized = sized_as b _ k.sized (length-map b.logins f) (length-map b.handles _) k.sized.next_slot k.sized.next_place;
      }

  kept_ticking : (ticking : Bool) → Kept shows (ticking_so b ticking)
  kept_ticking ticking = record { claims = k.claims; sized = sized_as b _ k.sized refl refl k.sized.next_slot k.sized.next_place }

  kept_ticked : Kept shows (tick_counted b)
  kept_ticked = cond_both b.ticking _ b (Kept shows) (λ e. orphans_swept (λ r. row_after r Ticked) refl (next_ticked shows)) (λ e. k)

  kept_access : (admits : Eui64 → ℕ → Bool) → Kept shows (access_changed admits b)
  kept_access admits = orphans_swept (kept_row admits) refl (next_kept shows admits)

module _ {B A N : Type 0} (m : BusModel B) (n : AccessModel A N) (lawful : Lawful m) where
  abbrev KeptAt : Snapshot B A → Type 0
  KeptAt x = Kept (m.shows x.bus) x.book

  kept_reset : (b d : B) (book : Book) → m.Resets b d → Kept (m.shows b) book → Kept (m.shows d) (was_reset (m.shows d) book)
  kept_reset b d book resets k =
      record {
        claims = claims_reset m lawful b d book.logins book.handles k.claims resets;
        sized = sized_as book _ k.sized (length-map book.logins _) (length-map book.handles _) k.sized.next_slot k.sized.next_place;
      }

  kept_net_updated : (b d : B) (book : Book) → Kept (m.shows b) book → Kept (m.shows d) (net_updated book)
  kept_net_updated b d book k =
      record {
        claims = claims_net_updated m lawful b d book.logins book.handles k.claims _ refl;
        sized = sized_as book _ k.sized (length-map book.logins _) (length-map book.handles _) k.sized.next_slot k.sized.next_place;
      }

  moved_on : (x y : Snapshot B A) (b : Book) → Kept (m.shows x.bus) b → m.shows y.bus ≡ m.shows x.bus → y.book ≡ b → KeptAt y
  moved_on x y b k s e = subst (λ (z : NodeId → Option Eui64). Kept z y.book) (sym s) (subst (Kept (m.shows x.bus)) (sym e) k)

  step_holds : (x : Snapshot B A) (call : Call N) (a : Answer) (y : Snapshot B A) → Step m n x call a y → KeptAt x → KeptAt y
  step_holds x (Request source q) a y step k =
      moved_on x y _ (kept_after_request (scene m n x) k (lawful.all_ones_is_not_shown x.bus) source q) (ap m.shows step.1.bus) step.2
  step_holds x BusReset a y step k = subst (Kept (m.shows y.bus)) (sym step.3) (kept_reset x.bus y.bus x.book step.1 k)
  step_holds x NetUpdate a y step k = subst (Kept (m.shows y.bus)) (sym step.3) (kept_net_updated x.bus y.bus x.book k)
  step_holds x Gap a y step k = moved_on x y _ (kept_ticking (m.shows x.bus) x.book k true) (ap m.shows step.1.bus) step.2
  step_holds x Tick a y step k = moved_on x y _ (kept_ticked (m.shows x.bus) x.book k) (ap m.shows step.1.bus) step.2
  step_holds x AccessChange a y step k = moved_on x y _ (kept_access (m.shows x.bus) x.book k (n.admits y.list)) (ap m.shows step.2) step.3
  step_holds x (BusNote node e) a y step k = moved_on x y _ k (lawful.note_keeps_shown x.bus y.bus node e a step.0) step.2
  step_holds x (AccessNote note) a y step k = moved_on x y _ k (ap m.shows step.1) step.2

  run_holds : (start : Snapshot B A) → New start → (history : List (Event B A N)) → Run m n start history → KeptAt (now_at start history)
  run_holds start new [] run = subst (Kept (m.shows start.bus)) (sym new) (kept_at_first (m.shows start.bus))
  run_holds start new (e ∷ es) run = step_holds (now_at start es) e.call e.answer e.after run.1 (run_holds start new es run.0)

  pub handles_hold : (start : Snapshot B A) → New start → (history : List (Event B A N)) → Run m n start history
      → HandleClaims (m.shows (now_at start history).bus) (now_at start history).book.logins (now_at start history).book.handles
  handles_hold start new history run = (run_holds start new history run).claims
