-- A portal over a bus that keeps the laws keeps them too. Assumes nothing.
use Rattle.std.specs.Prelude.{◌≡◌, Bool, true, false, cond, Some, None, MatchBool, Option, refl}
use Rattle.std.proofs.Common.{sym, ◌∙◌, ap, arith}
use Rattle.std.proofs.lemmas.Bool.Decides.{nat_tests}
use Rattle.std.proofs.lemmas.Option.{none-some}
use Rattle.reader.specs.declared.ids.NodeId.{NodeId}
use Rattle.reader.specs.declared.ids.Eui64.{Eui64}
use Rattle.reader.specs.Ids.{none_id, local, broadcast, global, none_eui}
use Rattle.notes.specs.Tables as notes
use Rattle.bus.specs.declared.entries.Entry.{Entry}
use Rattle.bus.specs.declared.portal.Portal.{Portal}
use Rattle.bus.specs.Meaning.{BusModel, Lawful, Answer}
use Rattle.bus.specs.GlobalTables.{is_at, whom, listed}
use Rattle.bus.specs.Portals.{portal_tables, or_else, portal_shows, portal_answer, portal_noted, portal_model}
use Rattle.bus.specs.Seating.{somebody_is}

whom_real : (o : Option Entry) (e : Eui64) → whom o ≡ Some e → none_eui e ≡ false
whom_real (Some x) e h = (somebody_is x.eui e (none_eui x.eui) refl h).1
whom_real None e h = absurd (none-some e h)

none_not_global : (i : NodeId) → none_id i ≡ true → global i ≡ false
none_not_global i h = grind (arith, nat_tests)

broadcast_not_global : (i : NodeId) → broadcast i ≡ true → global i ≡ false
broadcast_not_global i h = grind (arith, nat_tests)

pub local_not_global : (i : NodeId) → local i ≡ true → global i ≡ false
local_not_global i h = grind (arith, nat_tests)

module _ {B : Type 0} (m : BusModel B) (w : Lawful m) where
  -- at an ID that is not global it shows what the bus below shows
  pub as_below : (p : Portal B) (i : NodeId) → global i ≡ false → (portal_model m).shows p i ≡ m.shows p.below i
  as_below p i h = ap (λ b. cond b (or_else (listed (portal_tables p).shown i) (m.shows p.below i)) (m.shows p.below i)) h

  real : (p : Portal B) (i : NodeId) (e : Eui64) (b : Bool) (o : Option Eui64) → listed (portal_tables p).shown i ≡ o → cond b (or_else o (m.shows p.below i)) (m.shows p.below i) ≡ Some e → none_eui e ≡ false
  real p i e true (Some x) k h = whom_real (notes.listed is_at (portal_tables p).shown i) e (k ∙ h)
  real p i e true None k h = w.all_ones_is_not_shown p.below i e h
  real p i e false o k h = w.all_ones_is_not_shown p.below i e h

  -- what a note leaves: the table shown, and the meaning of the bus below
  pub record Unseen (p q : Portal B) : Type 0 where
    pub shown : (portal_tables q).shown ≡ (portal_tables p).shown
    pub own_below : m.own q.below ≡ m.own p.below
    pub shown_below : m.shows q.below ≡ m.shows p.below

  pub unseen : (p q : Portal B) (i : NodeId) (e : Option Eui64) (a : Answer) → (portal_model m).Notes p i e a q → Unseen p q
  unseen p q i e a n = go (global i) n
    where
      go : (b : Bool)
          → MatchBool b
          ((q.below ≡ p.below) × (a ≡ portal_answer (portal_tables p) i e) × (portal_tables q ≡ portal_noted (portal_tables p) i e))
          (m.Notes p.below i e a q.below × (portal_tables q ≡ portal_tables p))
          → Unseen p q
      go true n = record { shown = ap (λ t. t.shown) n.2; own_below = ap m.own n.0; shown_below = ap m.shows n.0 }
      go false n = record {
        shown = ap (λ t. t.shown) n.1;
        own_below = w.note_keeps_own p.below q.below i e a n.0;
        shown_below = w.note_keeps_shown p.below q.below i e a n.0;
      }

  pub portal_lawful : Lawful (portal_model m)
  portal_lawful = record {
    own_is_local_or_none = λ p. w.own_is_local_or_none p.below;
    none_shows_nobody = λ p i h. as_below p i (none_not_global i h) ∙ w.none_shows_nobody p.below i h;
    broadcast_shows_nobody = λ p i h. as_below p i (broadcast_not_global i h) ∙ w.broadcast_shows_nobody p.below i h;
    all_ones_is_not_shown = λ p i e h. real p i e (global i) (listed (portal_tables p).shown i) refl h;
    local_ids_show_apart = λ p i j e f g.
        w.local_ids_show_apart p.below i j e
        (f.0, sym (as_below p i (local_not_global i f.0)) ∙ f.1)
        (g.0, sym (as_below p j (local_not_global j g.0)) ∙ g.1);
    reset_keeps_globals = λ p q r i h.
        let below = w.reset_keeps_globals p.below q.below r.0 i h in
        cc;
    note_keeps_own = λ p q i e a n. (unseen p q i e a n).own_below;
    note_keeps_shown = λ p q i e a n.
        let u = unseen p q i e a n in
        ap (λ es. portal_shows es (m.shows q.below)) u.shown ∙ ap (λ below. portal_shows (portal_tables p).shown below) u.shown_below;
  }
