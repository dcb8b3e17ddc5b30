-- A cabinet's data tell every step. Assumes nothing.
use Rattle.std.proofs.Common.{◌≡◌, Bool, true, false, cond, MatchBool, Option, ap, ◌∙◌}
use Rattle.reader.specs.Ids.{global}
use Rattle.reader.specs.declared.ids.NodeId.{NodeId}
use Rattle.reader.specs.declared.ids.Eui64.{Eui64}
use Rattle.bus.specs.Meaning.{Answer}
use Rattle.bus.specs.LocalBuses.{LocalTables, local_tables, local_model, local_answer, local_noted}
use Rattle.bus.specs.Portals.{PortalTables, portal_tables, portal_answer, portal_noted}
use Rattle.access.specs.Tables.{Noting}
use Rattle.access.specs.Pairs.{pair_tables}
use Rattle.access.specs.Stops.{stop_tables}
use Rattle.access.specs.declared.pairs.Pair.{Pair}
use Rattle.access.specs.declared.pairs.PairTable.{PairTable}
use Rattle.access.specs.declared.stops.StopList.{StopList}
use Rattle.access.specs.declared.stops.StopNote.TheVariants.{Stop, Below}
use Rattle.tables.specs.Books.{Book}
use Rattle.tables.specs.Events.{was_reset, access_changed}
use Rattle.rules.specs.declared.calls.Call.TheVariants.{Request, BusReset, NetUpdate, Gap, Tick, AccessChange, BusNote, AccessNote}
use Rattle.replay.specs.Steps.{Moment, StepsTold}
use Rattle.replay.specs.Cabinets.{cabinet_of, shows, admits, answer, after, with_book, with_bus, with_list}

module _ (x y : Moment) where
  -- the list stayed
  same_list : (local : LocalTables) (portal : PortalTables) (book : Book) → local_tables y.bus.below ≡ local → portal_tables y.bus ≡ portal
      → y.list ≡ x.list → y.book ≡ book → cabinet_of y ≡ with_bus (cabinet_of x) local portal book
  same_list local portal book l p same b =
      λ i. record { local = l i; portal = p i; pairs = pair_tables (same i).below; stops = stop_tables (same i); book = b i }

  -- the bus stayed
  same_bus : (pairs : Noting Pair) (stops : Noting Eui64) (book : Book) → pair_tables y.list.below ≡ pairs → stop_tables y.list ≡ stops
      → y.bus ≡ x.bus → y.book ≡ book → cabinet_of y ≡ with_list (cabinet_of x) pairs stops book
  same_bus pairs stops book p s same b =
      λ i. record { local = local_tables (same i).below; portal = portal_tables (same i); pairs = p i; stops = s i; book = b i }

  -- both stayed
  same_both : (book : Book) → y.bus ≡ x.bus → y.list ≡ x.list → y.book ≡ book → cabinet_of y ≡ with_book (cabinet_of x) book
  same_both book bus list b = same_bus _ _ book (ap (λ (a : StopList PairTable). pair_tables a.below) list) (ap stop_tables list) bus b

  -- a note of a global ID is the portal's, and any other one the local bus's
  noted : (node : NodeId) (e : Option Eui64) (r : Answer) (is_global : Bool)
      → MatchBool is_global
      ((y.bus.below ≡ x.bus.below) × (r ≡ portal_answer (portal_tables x.bus) node e) × (portal_tables y.bus ≡ portal_noted (portal_tables x.bus) node e))
      (local_model.Notes x.bus.below node e r y.bus.below × (portal_tables y.bus ≡ portal_tables x.bus))
      → y.list ≡ x.list → y.book ≡ x.book
      → (r ≡ cond is_global (portal_answer (portal_tables x.bus) node e) (local_answer (local_tables x.bus.below) node e))
      × (cabinet_of y
      ≡ cond is_global (with_bus (cabinet_of x) (local_tables x.bus.below) (portal_noted (portal_tables x.bus) node e) x.book) (
      with_bus (cabinet_of x) (local_noted (local_tables x.bus.below) node e) (portal_tables x.bus) x.book
      ))
  noted node e r true n list book = (n.1, same_list _ _ _ (ap local_tables n.0) n.2 list book)
  noted node e r false n list book = (n.0.0, same_list _ _ _ n.0.1 n.1 list book)

pub steps_told : StepsTold answer after
steps_told x (Request source q) a y s = record { answered = s.0; changed = same_both x y _ s.1.bus s.1.list s.2 }
steps_told x BusReset a y s =
    record {
      answered = s.0;
      changed = same_list x y _ _ _ s.1.0 s.1.1 s.2 (s.3 ∙ (λ i. was_reset (shows (s.1.0 i) (s.1.1 i)) x.book));
    }
steps_told x NetUpdate a y s = record { answered = s.0; changed = same_list x y _ _ _ s.1.0 s.1.1 s.2 s.3 }
steps_told x Gap a y s = record { answered = s.0; changed = same_both x y _ s.1.bus s.1.list s.2 }
steps_told x Tick a y s = record { answered = s.0; changed = same_both x y _ s.1.bus s.1.list s.2 }
steps_told x AccessChange a y s =
    record {
      answered = s.0;
      changed = same_bus x y _ _ _ s.1.0 s.1.1 s.2 (s.3 ∙ (λ i. access_changed (admits (s.1.0 i) (s.1.1 i)) x.book));
    }
steps_told x (BusNote node e) a y s =
    let n = noted x y node e a (global node) s.0 s.1 s.2 in
    record { answered = n.0; changed = n.1 }
steps_told x (AccessNote (Stop e stopped)) a y s =
    record { answered = s.0.1; changed = same_bus x y _ _ _ (ap pair_tables s.0.0) s.0.2 s.1 s.2 }
steps_told x (AccessNote (Below n)) a y s =
    record { answered = s.0.0.0; changed = same_bus x y _ _ _ s.0.0.1 s.0.1 s.1 s.2 }
