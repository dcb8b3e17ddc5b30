-- What one call makes of a reserved login. Assumes that the bus is lawful.
use Rattle.std.proofs.Common.{◌≡◌, ℕ, ◌+◌, Bool, true, false, cond, ◌||◌, sym, refl, ap, ◌∙◌, subst, arith}
use Rattle.bus.specs.Meaning.{Answer, BusModel, Lawful}
use Rattle.access.specs.Meaning.{AccessModel}
use Rattle.reader.specs.declared.ids.NodeId.{NodeId}
use Rattle.reader.specs.declared.request.Request.{Request as Asked}
use Rattle.logins.specs.declared.rows.HandleSweep.TheVariants.{Orphans}
use Rattle.logins.specs.Logins.{free_row, reserved, row_after}
use Rattle.logins.specs.Rows.{row_at}
use Rattle.logins.specs.declared.rows.LoginEvent.TheVariants.{NetUpdate as NetUpdated, Tick as Ticked}
use Rattle.logins.specs.declared.rows.LoginRow.{LoginRow}
use Rattle.tables.specs.Books.{Book}
use Rattle.tables.specs.Events.{kept_row, reset_row, each_login, swept_book, tick_counted}
use Rattle.rules.specs.Holds.{restart, is_gap, kind, reconnects}
use Rattle.rules.specs.Runs.{Snapshot, Step, scene}
use Rattle.rules.specs.Scenes.{answer_of}
use Rattle.rules.specs.Serving.{outcome}
use Rattle.rules.specs.declared.calls.Call.{Call}
use Rattle.rules.specs.declared.calls.Call.TheVariants.{Request, BusReset, NetUpdate, Gap, Tick, AccessChange, BusNote, AccessNote}
use Rattle.rules.proofs.Calm.{Calm}
use Rattle.rules.proofs.Rows.{map_at}
use Rattle.rules.proofs.Restarting.{FromTheStart, bus_reset_starts, net_update_starts, tick_reserves_none, change_reserves_none}
use Rattle.rules.proofs.Walking.{either_book}
use Rattle.rules.proofs.Turning.{reconnect_ends_the_wait, request_leaves_reserved, request_leaves_ticking}

module _ {B A N : Type 0} (m : BusModel B) (n : AccessModel A N) (lawful : Lawful m) where
  abbrev pub asked : NodeId → Asked → Call N
  asked source q = Request source q

  module _ (slot : ℕ) where
    abbrev pub row : Snapshot B A → LoginRow
    row x = row_at x.book.logins slot

    pub row_as : (y : Snapshot B A) (b : Book) → y.book ≡ b → row y ≡ row_at b.logins slot
    row_as y b e = ap (λ (z : Book). row_at z.logins slot) e

    -- a reset and a net update begin a hold anew
    pub record Begun (y : Snapshot B A) : Type 0 where
      pub from_the_start : FromTheStart (row y)
      pub not_ticking : y.book.ticking ≡ false

    pub restart_begins : (x : Snapshot B A) (call : Call N) (a : Answer) (y : Snapshot B A) → Step m n x call a y → kind call ≡ restart → Begun y
    restart_begins x (Request source q) a y step e = absurd (let z : ◌≡◌ {A = ℕ} 0 1 = cc in omega arith)
    restart_begins x BusReset a y step e =
        record {
          from_the_start = subst FromTheStart (sym (row_as y _ step.3 ∙ map_at (reset_row (m.shows y.bus)) x.book.logins slot free_row refl)) (bus_reset_starts (m.shows y.bus) (row x));
          not_ticking = ap (λ (z : Book). z.ticking) step.3;
        }
    restart_begins x NetUpdate a y step e =
        record {
          from_the_start = subst FromTheStart (sym (row_as y _ step.3 ∙ map_at (λ r. row_after r NetUpdated) x.book.logins slot free_row refl)) (net_update_starts (row x));
          not_ticking = ap (λ (z : Book). z.ticking) step.3;
        }
    restart_begins x Gap a y step e = absurd (let z : ◌≡◌ {A = ℕ} 0 1 = cc in omega arith)
    restart_begins x Tick a y step e = absurd (let z : ◌≡◌ {A = ℕ} 0 1 = cc in omega arith)
    restart_begins x AccessChange a y step e = absurd (let z : ◌≡◌ {A = ℕ} 0 1 = cc in omega arith)
    restart_begins x (BusNote node eui) a y step e = absurd (let z : ◌≡◌ {A = ℕ} 0 1 = cc in omega arith)
    restart_begins x (AccessNote note) a y step e = absurd (let z : ◌≡◌ {A = ℕ} 0 1 = cc in omega arith)

    -- ticks count from the first gap on
    ticked_ticking : (b : Book) → (tick_counted b).ticking ≡ b.ticking
    ticked_ticking b = either_book (λ z. z.ticking ≡ b.ticking) b.ticking _ b refl refl

    pub ticking_step : (x : Snapshot B A) (call : Call N) (a : Answer) (y : Snapshot B A) → Step m n x call a y → (kind call ≡ restart → ⊥)
        → y.book.ticking ≡ (is_gap (kind call) || x.book.ticking)
    ticking_step x (Request source q) a y step e =
        ap (λ (z : Book). z.ticking) step.2 ∙ request_leaves_ticking (scene m n x) slot (lawful.none_shows_nobody x.bus) source q
    ticking_step x BusReset a y step e = absurd (e refl)
    ticking_step x NetUpdate a y step e = absurd (e refl)
    ticking_step x Gap a y step e = ap (λ (z : Book). z.ticking) step.2
    ticking_step x Tick a y step e = ap (λ (z : Book). z.ticking) step.2 ∙ ticked_ticking x.book
    ticking_step x AccessChange a y step e = ap (λ (z : Book). z.ticking) step.3
    ticking_step x (BusNote node eui) a y step e = ap (λ (z : Book). z.ticking) step.2
    ticking_step x (AccessNote note) a y step e = ap (λ (z : Book). z.ticking) step.2

    -- the row after a tick, by whether ticks count
    pub row_ticked : (b : Book) (t : Bool) → b.ticking ≡ t → row_at (tick_counted b).logins slot ≡ cond t (row_after (row_at b.logins slot) Ticked) (row_at b.logins slot)
    row_ticked b true e = ap (λ (t : Bool). row_at (cond t (swept_book (each_login b Ticked) Orphans) b).logins slot) e ∙ map_at (λ r. row_after r Ticked) b.logins slot free_row refl
    row_ticked b false e = ap (λ (t : Bool). row_at (cond t (swept_book (each_login b Ticked) Orphans) b).logins slot) e

    module _ (x y : Snapshot B A) (source : NodeId) (q : Asked) (a : Answer) (step : Step m n x (Request source q) a y) where
      by_answer : (t : Bool) → reconnects (slot + 1) (asked source q) a ≡ t → reconnects (slot + 1) (asked source q) (answer_of (outcome (scene m n x) source q)) ≡ t
      by_answer t p = ap (λ (z : Answer). reconnects (slot + 1) (asked source q) z) (sym step.0) ∙ p

      pub reconnected : reconnects (slot + 1) (asked source q) a ≡ true → reserved (row y) ≡ false
      reconnected p =
          ap reserved (row_as y _ step.2) ∙ reconnect_ends_the_wait (scene m n x) slot (lawful.none_shows_nobody x.bus) source q (by_answer true p)

      pub calmed : reconnects (slot + 1) (asked source q) a ≡ false → Calm (row x) (row y)
      calmed p =
          subst (Calm (row x)) (sym (row_as y _ step.2)) (request_leaves_reserved (scene m n x) slot (lawful.none_shows_nobody x.bus) source q (by_answer false p))

    -- no call but a reset or a net update makes a login reserved
    pub reserves_none : (x : Snapshot B A) (call : Call N) (a : Answer) (y : Snapshot B A) → Step m n x call a y → (kind call ≡ restart → ⊥)
        → reserved (row x) ≡ false → reserved (row y) ≡ false
    reserves_none x (Request source q) a y step e h = go (reconnects (slot + 1) (asked source q) a) refl where
      go : (t : Bool) → reconnects (slot + 1) (asked source q) a ≡ t → reserved (row y) ≡ false
      go true p = reconnected x y source q a step p
      go false p = (calmed x y source q a step p).none_new h
    reserves_none x BusReset a y step e h = absurd (e refl)
    reserves_none x NetUpdate a y step e h = absurd (e refl)
    reserves_none x Gap a y step e h = ap reserved (row_as y _ step.2) ∙ h
    reserves_none x Tick a y step e h = go x.book.ticking refl where
      go : (t : Bool) → x.book.ticking ≡ t → reserved (row y) ≡ false
      go true p = ap reserved (row_as y _ step.2 ∙ row_ticked x.book true p) ∙ tick_reserves_none (row x) h
      go false p = ap reserved (row_as y _ step.2 ∙ row_ticked x.book false p) ∙ h
    reserves_none x AccessChange a y step e h =
        ap reserved (row_as y _ step.3 ∙ map_at (kept_row (n.admits y.list)) x.book.logins slot free_row refl) ∙ change_reserves_none (n.admits y.list) (row x) h
    reserves_none x (BusNote node eui) a y step e h = ap reserved (row_as y _ step.2) ∙ h
    reserves_none x (AccessNote note) a y step e h = ap reserved (row_as y _ step.2) ∙ h
