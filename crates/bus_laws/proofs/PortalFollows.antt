-- A portal follows its notes where the bus below follows its own. Assumes nothing.
use Rattle.std.proofs.Common.{◌≡◌, Bool, true, false, cond, not, List, Some, None, Err, MatchBool, Option, unwrap_or, sym, refl, ap, ◌∙◌, arith}
use Rattle.std.proofs.lemmas.Bool.{ne_eqb, eq-eqb}
use Rattle.std.proofs.lemmas.Grind.{common_steps}
use Rattle.std.proofs.lemmas.Bool.Decides.{when_true, when_false, nat_tests}
use Rattle.reader.specs.declared.ids.NodeId.{NodeId}
use Rattle.reader.specs.declared.ids.Eui64.{Eui64}
use Rattle.reader.specs.declared.refusal.Refusal.{Refusal}
use Rattle.reader.specs.Ids.{global, none_eui}
use Rattle.notes.specs.TablesLemmas.{after_there, after_elsewhere, after_refused}
use Rattle.bus.specs.declared.entries.Entry.{Entry}
use Rattle.bus.specs.declared.portal.Portal.{Portal}
use Rattle.bus.specs.Meaning.{BusModel, Answer, granted, nobody, somebody}
use Rattle.bus.specs.GlobalTables.{table_size, is_at, whom, listed, table_answer, table_after}
use Rattle.bus.specs.Portals.{portal_tables, or_else, portal_shows, portal_answer, portal_noted, portal_model}
use Rattle.bus_laws.specs.Following.{Follows, PortalFollows, portal_next}
use Rattle.bus.specs.PortalsLemmas.{local_not_global}

-- one at an ID is not at another
apart : (i j : NodeId) → (j.0 ≡ i.0 → ⊥) → (x : Entry) → is_at x i ≡ true → is_at x j ≡ false
apart i j other x h = grind (arith, nat_tests)

module _ (es : List Entry) (i : NodeId) (e : Eui64) where
  abbrev here : Entry
  here = record { node = i; eui = e }

  whom_noted : (b : Bool) → none_eui e ≡ b → whom (cond (not b) (Some here) None) ≡ somebody e
  whom_noted true h = ap (λ b. cond b None (Some e)) (sym h)
  whom_noted false h = refl

  listed_there : table_answer es i e ≡ granted → listed (table_after es i e) i ≡ somebody e
  listed_there h = ap whom (after_there is_at i here table_size es (not (none_eui e)) (eq-eqb i.0 i.0 refl) h) ∙ whom_noted (none_eui e) refl

  listed_elsewhere : (j : NodeId) → (j.0 ≡ i.0 → ⊥) → listed (table_after es i e) j ≡ listed es j
  listed_elsewhere j other = ap whom (after_elsewhere is_at i here j (apart i j other) (ne_eqb i.0 j.0 (λ h. other (sym h))) table_size es (not (none_eui e)))

  table_refused : (r : Refusal) → table_answer es i e ≡ Err r → table_after es i e ≡ es
  table_refused r h = after_refused is_at i here table_size es (not (none_eui e)) r h

module _ {B : Type 0} (m : BusModel B) (next : B → NodeId → Option Eui64) (f : Follows m next) where
  -- what a note is at a portal: its own, or one of the bus below
  abbrev Noted : Bool → Portal B → NodeId → Option Eui64 → Answer → Portal B → Type 0
  Noted b p i e a q = MatchBool b
      ((q.below ≡ p.below) × (a ≡ portal_answer (portal_tables p) i e) × (portal_tables q ≡ portal_noted (portal_tables p) i e))
      (m.Notes p.below i e a q.below × (portal_tables q ≡ portal_tables p))

  -- whom a portal has next at an ID, where b tells whether it is global
  abbrev next_at : Bool → List Entry → Option Eui64 → NodeId → Option Eui64
  next_at b es below i = cond b (or_else (listed es i) below) below

  next_below : (p : Portal B) (i : NodeId) → global i ≡ false → portal_next next p i ≡ next p.below i
  next_below p i h = ap (λ b. next_at b (portal_tables p).noted (next p.below i) i) h

  same_next : (p q : Portal B) → (portal_tables q).noted ≡ (portal_tables p).noted → next q.below ≡ next p.below → portal_next next q ≡ portal_next next p
  same_next p q t n = ap (λ es. portal_shows es (next q.below)) t ∙ ap (λ below. portal_shows (portal_tables p).noted below) n

  somebody_next : (p q : Portal B) (i : NodeId) (e : Eui64) (b : Bool) → Noted b p i (Some e) granted q → none_eui e ≡ false → next_at b (portal_tables q).noted (next q.below i) i ≡ Some e
  somebody_next p q i e true n real =
      let there = listed_there (portal_tables p).noted i e (sym n.1) ∙ ap (λ b. cond b None (Some e)) real in
      ap (λ es. or_else (listed es i) (next q.below i)) (ap (λ t. t.noted) n.2) ∙ ap (λ o. or_else o (next q.below i)) there
  somebody_next p q i e false n real = f.note_of_somebody p.below q.below i e n.0 real

  another_next : (p q : Portal B) (i : NodeId) (e : Option Eui64) (a : Answer) (j : NodeId) → (j.0 ≡ i.0 → ⊥) → (b : Bool) → Noted b p i e a q
      → (listed (portal_tables q).noted j ≡ listed (portal_tables p).noted j) × (next q.below j ≡ next p.below j)
  another_next p q i e a j other true n =
      (ap (λ t. listed t.noted j) n.2 ∙ listed_elsewhere (portal_tables p).noted i (unwrap_or e nobody) j other, ap (λ below. next below j) n.0)
  another_next p q i e a j other false n = (ap (λ t. listed t.noted j) n.1, f.note_of_another p.below q.below i e a n.0 j other)

  refused_next : (p q : Portal B) (i : NodeId) (e : Option Eui64) (r : Refusal) (b : Bool) → Noted b p i e (Err r) q → portal_next next q ≡ portal_next next p
  refused_next p q i e r true n =
      same_next p q (ap (λ t. t.noted) n.2 ∙ table_refused (portal_tables p).noted i (unwrap_or e nobody) r (sym n.1)) (ap next n.0)
  refused_next p q i e r false n = same_next p q (ap (λ t. t.noted) n.1) (f.refused_note p.below q.below i e r n.0)

  follows : Follows (portal_model m) (portal_next next)
  follows = record {
    update_shows_next = λ p q u.
        ap (λ t. portal_shows t.shown (m.shows q.below)) u.1 ∙ ap (λ below. portal_shows (portal_tables p).noted below) (f.update_shows_next p.below q.below u.0);
    reset_shows_next = λ p q r i here.
        ap (λ b. next_at b (portal_tables q).shown (m.shows q.below i) i) (local_not_global i here)
        ∙ f.reset_shows_next p.below q.below r.0 i here
        ∙ sym (next_below p i (local_not_global i here));
    update_keeps_notes = λ p q u. same_next p q (ap (λ t. t.noted) u.1) (f.update_keeps_notes p.below q.below u.0);
    reset_keeps_notes = λ p q r. same_next p q (ap (λ t. t.noted) r.1) (f.reset_keeps_notes p.below q.below r.0);
    note_of_somebody = λ p q i e n real. somebody_next p q i e (global i) n real;
    note_of_nobody = λ p q i n here.
        let below = when_false _ _ (local_not_global i here) n in
        next_below q i (local_not_global i here) ∙ f.note_of_nobody p.below q.below i below.0 here;
    note_of_another = λ p q i e a n j other.
        let same = another_next p q i e a j other (global i) n in
        ap (λ o. cond (global j) (or_else o (next q.below j)) (next q.below j)) same.0 ∙ ap (λ o. next_at (global j) (portal_tables p).noted o j) same.1;
    refused_note = λ p q i e r n. refused_next p q i e r (global i) n;
  }

  taken_out : (p q : Portal B) (i : NodeId) (e : Option Eui64) (a : Answer)
      → (portal_model m).Notes p i e a q → global i ≡ true → none_eui (unwrap_or e nobody) ≡ true → (a ≡ granted) × (portal_next next q i ≡ next q.below i)
  taken_out p q i e a n far none =
      let own = when_true _ _ far n in
      let there = listed_there (portal_tables p).noted i (unwrap_or e nobody) in
      grind (arith, common_steps)

  pub portal_follows : PortalFollows m next
  portal_follows = record { notes = follows; taken_out = taken_out }
