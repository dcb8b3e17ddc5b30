-- A reserved login through every call until the next reset or net update. Assumes that the bus is lawful.
use Rattle.std.proofs.Common.{◌≡◌, ℕ, ◌+◌, ◌-◌, ◌<◌, Bool, true, false, cond, not, ◌&&◌, ◌||◌, leb, ◌⊎◌, List, [], ◌∷◌, ◌++◌, sym, refl, ap, ◌∙◌, subst, inl, inr, arith}
use Rattle.std.proofs.lemmas.Bool.{both_ways, and_parts, and_from, and_right, leb-true, leb-false}
use Rattle.bus.specs.Meaning.{Answer, BusModel, Lawful}
use Rattle.access.specs.Meaning.{AccessModel}
use Rattle.reader.specs.declared.ids.NodeId.{NodeId}
use Rattle.reader.specs.declared.request.Request.{Request as Asked}
use Rattle.logins.specs.Logins.{holder, reserved, free_row, nowhere, moved, ticked}
use Rattle.logins.specs.Rows.{row_at}
use Rattle.logins.specs.declared.rows.LoginRow.{LoginRow}
use Rattle.tables.specs.Events.{kept_row}
use Rattle.rules.specs.Holds.{restart, change, is_gap, is_tick, kind, reconnects, Unrestarted, Unclaimed, gap_came, ticks_after_gap, WasFree, KeptFor, HoldKept, HoldsKept, HoldsKeptIn}
use Rattle.rules.specs.Runs.{Snapshot, Event, Step, Run, New, now_at}
use Rattle.rules.specs.declared.calls.Call.{Call}
use Rattle.rules.specs.declared.calls.Call.TheVariants.{Request, BusReset, NetUpdate, Gap, Tick, AccessChange, BusNote, AccessNote}
use Rattle.rules.proofs.LastHold.{hold_at_restart}
use Rattle.rules.proofs.Rows.{map_at}
use Rattle.rules.proofs.Restarting.{tick_of_reserved}
use Rattle.rules.proofs.HoldSteps.{row_as, row_ticked, reconnected, calmed, reserves_none, restart_begins, ticking_step}

module _ {B A N : Type 0} (m : BusModel B) (n : AccessModel A N) (lawful : Lawful m) where
  abbrev asked : NodeId → Asked → Call N
  asked source q = Request source q

  module _ (slot : ℕ) where
    abbrev row : Snapshot B A → LoginRow
    row x = row_at x.book.logins slot

    abbrev event : Call N → Answer → Snapshot B A → Event B A N
    event call a y = record { call = call; answer = a; after = y }

    module _ (l : LoginRow) (is_reserved : reserved l ≡ true) where
      -- still reserved, and as it should be
      record Up (since : List (Event B A N)) (now : Snapshot B A) : Type 0 where
        kept : KeptFor n slot l (l.hold + 2) since
        as_left : row now ≡ moved l nowhere (l.hold + 2 - ticks_after_gap since)

      -- no longer reserved, and rightly so
      record Down (since : List (Event B A N)) (now : Snapshot B A) : Type 0 where
        unreserved : reserved (row now) ≡ false
        over : KeptFor n slot l (l.hold + 2) since → ⊥
        ended : Unclaimed (slot + 1) since → WasFree slot since

      held : holder l ≡ true
      held = (and_parts (holder l) _ is_reserved).0

      up_is_reserved : (since : List (Event B A N)) (now : Snapshot B A) → Up since now → reserved (row now) ≡ true
      up_is_reserved since now u = ap reserved u.as_left ∙ and_from (holder l) true held refl

      module _ (x y : Snapshot B A) (call : Call N) (a : Answer) (es : List (Event B A N)) where
        stays : reconnects (slot + 1) call a ≡ false → (kind call ≡ change → n.admits y.list l.owner_eui_64 l.unit ≡ true)
            → (is_tick (kind call) && gap_came es) ≡ false → row y ≡ row x → Up es x → Up (event call a y ∷ es) y
        stays free ok uncounted row_stays u =
            let none : ticks_after_gap (event call a y ∷ es) ≡ 0 + ticks_after_gap es = ap (λ (b : Bool). cond b 1 0 + ticks_after_gap es) uncounted in
            let same : ticks_after_gap (event call a y ∷ es) ≡ ticks_after_gap es = omega arith in
            record {
              kept = record {
                unclaimed = (free, u.kept.unclaimed);
                admitted = (ok, u.kept.admitted);
                in_time = subst (λ (t : ℕ). t < l.hold + 2) (sym same) u.kept.in_time;
              };
              as_left = row_stays ∙ u.as_left ∙ ap (λ (t : ℕ). moved l nowhere (l.hold + 2 - t)) (sym same);
            }

        ends : (KeptFor n slot l (l.hold + 2) (event call a y ∷ es) → ⊥) → row y ≡ free_row → Down (event call a y ∷ es) y
        ends f e = record { unreserved = ap reserved e; over = f; ended = λ c. inl (ap holder e) }

        -- what is over stays over
        stays_over : Step m n x call a y → (kind call ≡ restart → ⊥) → Down es x → Down (event call a y ∷ es) y
        stays_over step e d =
            record {
              unreserved = reserves_none m n lawful slot x call a y step e d.unreserved;
              over = λ k. d.over (record { unclaimed = k.unclaimed.1; admitted = k.admitted.1; in_time = let t = k.in_time in omega arith });
              ended = λ c. inr (d.ended c.1);
            }

      -- one more event
      abbrev Next : Call N → Answer → Snapshot B A → List (Event B A N) → Type 0
      Next call a y es = Up (event call a y ∷ es) y ⊎ Down (event call a y ∷ es) y

      module _ (x y : Snapshot B A) (a : Answer) (es : List (Event B A N)) (u : Up es x) where
        request_next : (source : NodeId) (q : Asked) → Step m n x (asked source q) a y → Next (asked source q) a y es
        request_next source q step = go (reconnects (slot + 1) (asked source q) a) refl where
          go : (t : Bool) → reconnects (slot + 1) (asked source q) a ≡ t → Next (asked source q) a y es
          go true p =
              inr (
              record {
                unreserved = reconnected m n lawful slot x y source q a step p;
                over = λ k. both_ways (reconnects (slot + 1) (asked source q) a) k.unclaimed.0 p;
                ended = λ c. absurd (both_ways (reconnects (slot + 1) (asked source q) a) c.0 p);
              }
              )
          go false p =
              inl (stays x y (asked source q) a es p (λ h. absurd (let z : ◌≡◌ {A = ℕ} 0 1 = cc in omega arith)) refl ((calmed m n lawful slot x y source q a step p).stays (up_is_reserved es x u)) u)

        abbrev left : ℕ
        left = l.hold + 2 - ticks_after_gap es

        -- a tick that counts
        counted : row y ≡ ticked (moved l nowhere left) → gap_came es ≡ true → Next Tick a y es
        counted e came = go (leb left 1) refl e where
          more : ticks_after_gap (event Tick a y ∷ es) ≡ 1 + ticks_after_gap es
          more = ap (λ (b : Bool). cond b 1 0 + ticks_after_gap es) came

          go : (t : Bool) → leb left 1 ≡ t → row y ≡ cond t free_row (moved l nowhere (left - 1)) → Next Tick a y es
          go true p q = inr (ends x y Tick a es (λ k. let t = k.in_time in let s = more in let few = leb-true left 1 p in omega arith) q)
          go false p q =
              let many = leb-false left 1 p in
              let one = more in
              let less : left - 1 ≡ l.hold + 2 - ticks_after_gap (event Tick a y ∷ es) = omega arith in
              inl (
              record {
                kept = record {
                  unclaimed = (refl, u.kept.unclaimed);
                  admitted = ((λ h. absurd (let z : ◌≡◌ {A = ℕ} 0 1 = cc in omega arith)), u.kept.admitted);
                  in_time = omega arith;
                };
                as_left = q ∙ ap (moved l nowhere) less;
              }
              )

        tick_next : Step m n x Tick a y → x.book.ticking ≡ gap_came es → Next Tick a y es
        tick_next step now = go (gap_came es) refl where
          go : (t : Bool) → gap_came es ≡ t → Next Tick a y es
          go true came =
              counted (
              row_as m n lawful slot y _ step.2 ∙ row_ticked m n lawful slot x.book true (now ∙ came) ∙ tick_of_reserved (row x) (up_is_reserved es x u) ∙ ap ticked u.as_left
              ) came
          go false came =
              inl (
              stays x y Tick a es refl (λ h. absurd (let z : ◌≡◌ {A = ℕ} 0 1 = cc in omega arith)) came (
              row_as m n lawful slot y _ step.2 ∙ row_ticked m n lawful slot x.book false (now ∙ came)
              ) u
              )

        change_next : Step m n x AccessChange a y → Next AccessChange a y es
        change_next step = go (n.admits y.list l.owner_eui_64 l.unit) refl where
          after : row y ≡ kept_row (n.admits y.list) (moved l nowhere left)
          after = row_as m n lawful slot y _ step.3 ∙ map_at (kept_row (n.admits y.list)) x.book.logins slot free_row refl ∙ ap (kept_row (n.admits y.list)) u.as_left

          go : (t : Bool) → n.admits y.list l.owner_eui_64 l.unit ≡ t → Next AccessChange a y es
          go true p =
              inl (
              stays x y AccessChange a es refl (λ h. p) refl (
              after ∙ ap (λ (b : Bool). cond b free_row (moved l nowhere left)) (and_right (holder l) _ (ap not p)) ∙ sym u.as_left
              ) u
              )
          go false p =
              inr (
              ends x y AccessChange a es (λ k. both_ways (n.admits y.list l.owner_eui_64 l.unit) p (k.admitted.0 refl)) (
              after ∙ ap (λ (b : Bool). cond b free_row (moved l nowhere left)) (and_from (holder l) _ held (ap not p))
              )
              )

        next : (call : Call N) → Step m n x call a y → (kind call ≡ restart → ⊥) → x.book.ticking ≡ gap_came es → Next call a y es
        next (Request source q) step e now = request_next source q step
        next BusReset step e now = absurd (e refl)
        next NetUpdate step e now = absurd (e refl)
        next Gap step e now = inl (stays x y Gap a es refl (λ h. absurd (let z : ◌≡◌ {A = ℕ} 0 1 = cc in omega arith)) refl (row_as m n lawful slot y _ step.2) u)
        next Tick step e now = tick_next step now
        next AccessChange step e now = change_next step
        next (BusNote node eui) step e now = inl (stays x y (BusNote node eui) a es refl (λ h. absurd (let z : ◌≡◌ {A = ℕ} 0 1 = cc in omega arith)) refl (row_as m n lawful slot y _ step.2) u)
        next (AccessNote note) step e now = inl (stays x y (AccessNote note) a es refl (λ h. absurd (let z : ◌≡◌ {A = ℕ} 0 1 = cc in omega arith)) refl (row_as m n lawful slot y _ step.2) u)

      -- either way, and ticks count from the first gap on
      record Tracked (since : List (Event B A N)) (now : Snapshot B A) : Type 0 where
        ticking : now.book.ticking ≡ gap_came since
        which : Up since now ⊎ Down since now

      track : (first : Snapshot B A) → first.book.ticking ≡ false → row first ≡ moved l nowhere (l.hold + 2) → (since : List (Event B A N)) → Unrestarted since → Run m n first since
          → Tracked since (now_at first since)
      track first off begun [] calm run =
          record { ticking = off; which = inl (record { kept = record { unclaimed = tt; admitted = tt; in_time = omega arith }; as_left = begun ∙ ap (moved l nowhere) (let none : l.hold + 2 ≡ l.hold + 2 - 0 = omega arith in none) }) }
      track first off begun (e ∷ es) calm run =
          let x = now_at first es in
          let before = track first off begun es calm.1 run.0 in
          record {
            ticking = ticking_step m n lawful slot x e.call e.answer e.after run.1 calm.0 ∙ ap (λ (b : Bool). is_gap (kind e.call) || b) before.ticking;
            which = elim before.which [
              | inl u ↦ next x e.after e.answer es u e.call run.1 calm.0 before.ticking
              | inr d ↦ inr (stays_over x e.after e.call e.answer es run.1 calm.0 d)
            ];
          }

      told : (since : List (Event B A N)) (now : Snapshot B A) → Up since now ⊎ Down since now → HoldKept n slot l (l.hold + 2) since now
      told since now (inl u) =
          record {
            stays_reserved = λ k. up_is_reserved since now u;
            reserved_only_so = λ h. u.kept;
            keeps_its_record = λ h. u.as_left;
            has_ended = λ h c. absurd (both_ways (reserved (row now)) h (up_is_reserved since now u));
          }
      told since now (inr d) =
          record {
            stays_reserved = λ k. absurd (d.over k);
            reserved_only_so = λ h. absurd (both_ways (reserved (row now)) d.unreserved h);
            keeps_its_record = λ h. absurd (both_ways (reserved (row now)) d.unreserved h);
            has_ended = λ h c. d.ended c;
          }

  -- a run's later part is a run from where the earlier part ended
  later_part : (start : Snapshot B A) (since : List (Event B A N)) (last : Event B A N) (before : List (Event B A N)) → Run m n start (since ++ last ∷ before) → Run m n last.after since
  later_part start [] last before run = tt
  later_part start (e ∷ []) last before run = (tt, run.1)
  later_part start (e ∷ f ∷ es) last before run = (later_part start (f ∷ es) last before run.0, run.1)

  -- and its earlier part, with the last step, is a run
  earlier_part : (start : Snapshot B A) (since : List (Event B A N)) (last : Event B A N) (before : List (Event B A N)) → Run m n start (since ++ last ∷ before) → Run m n start (last ∷ before)
  earlier_part start [] last before run = run
  earlier_part start (e ∷ es) last before run = earlier_part start es last before run.0

  pub holds_kept : HoldsKept New (λ hold. hold + 2) m n
  holds_kept start new before last since restarts calm run slot h =
      let earlier = earlier_part start since last before run in
      let begun = restart_begins m n lawful slot (now_at start before) last.call last.answer last.after earlier.1 restarts in
      let l = row_at last.after.book.logins slot in
      let now = now_at last.after since in
      subst (λ (hold : ℕ). HoldKept n slot l (hold + 2) since now) (hold_at_restart m n slot start new before last restarts earlier (held slot l h)) (
      told slot l h since now (track slot l h last.after begun.not_ticking (begun.from_the_start h) since calm (later_part start since last before run)).which
      )

  pub holds_kept_in : (start : Snapshot B A) → New start → (history : List (Event B A N)) → Run m n start history → HoldsKeptIn (λ hold. hold + 2) n start history
  holds_kept_in start new history run before last since e restarts calm =
      holds_kept start new before last since restarts calm (subst (Run m n start) e run)
