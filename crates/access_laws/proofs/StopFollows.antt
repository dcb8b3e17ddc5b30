-- The notes of a stop list and of the list below are its next set. Assumes nothing.
use Rattle.std.proofs.Common.{◌≡◌, ℕ, Bool, true, false, not, ◌&&◌, is_some, Err, sym, ap, ◌∙◌, arith}
use Rattle.std.proofs.lemmas.Bool.Decides.{nat_tests}
use Rattle.reader.specs.declared.ids.Eui64.{Eui64}
use Rattle.reader.specs.declared.refusal.Refusal.{Refusal}
use Rattle.access.specs.declared.stops.StopList.{StopList}
use Rattle.access.specs.declared.stops.StopNote.{StopNote}
use Rattle.access.specs.declared.stops.StopNote.TheVariants.{Stop, Below}
use Rattle.access.specs.Meaning.{AccessModel}
use Rattle.notes.specs.Tables.{settled}
use Rattle.notes.specs.TablesLemmas.{noted_there, noted_elsewhere, noted_not}
use Rattle.access.specs.Stops.{stop_places, same_eui, stop_range, stop_tables, stop_admits, stop_model}
use Rattle.access_laws.specs.Following.{Follows, StopFollows, stop_next}
use Rattle.access_laws.proofs.ListFollows.{some_or_none}

eui_self : (e : Eui64) → same_eui e e ≡ true
eui_self e = grind (arith, nat_tests)

eui_apart : (e f : Eui64) → same_eui e f ≡ false → (x : Eui64) → same_eui x e ≡ true → same_eui x f ≡ false
eui_apart e f other x h = grind (arith, nat_tests)

module _ {A N : Type 0} (m : AccessModel A N) (next : A → Eui64 → ℕ → Bool) (f : Follows m next) where
  same_next : (a b : StopList A) → stop_tables b ≡ stop_tables a → next b.below ≡ next a.below → stop_next next b ≡ stop_next next a
  same_next a b t n = ap (λ t. stop_admits (settled t) (next b.below)) t ∙ ap (λ below. stop_admits (settled (stop_tables a)) below) n

  refused : (a b : StopList A) (n : StopNote N) (r : Refusal) → (stop_model m).Notes a n (Err r) b → stop_next next b ≡ stop_next next a
  refused a b (Stop e stopped) r h =
      same_next a b (h.2 ∙ noted_not same_eui e e stop_places (stop_range e) (stop_tables a) stopped r (sym h.1)) (ap next h.0)
  refused a b (Below n) r h = same_next a b h.1 (f.refused_note a.below b.below n r h.0)

  pub stop_follows : StopFollows m next
  stop_follows = record {
    notes = record {
      change_admits_next = λ a b c.
          ap (λ t. stop_admits t (m.admits b.below)) c.1 ∙ ap (λ below. stop_admits (settled (stop_tables a)) below) (f.change_admits_next a.below b.below c.0);
      change_keeps_notes = λ a b c.
          ap (λ t. stop_admits (settled t) (next b.below)) c.1 ∙ ap (λ below. stop_admits (settled (stop_tables a)) below) (f.change_keeps_notes a.below b.below c.0);
      refused_note = refused;
    };
    note_of_stop = λ a b e stopped h u.
        let there = noted_there same_eui e e stop_places (eui_self e) (stop_range e) (stop_tables a) stopped (sym h.1) in
        ap (λ t. stop_admits (settled t) (next b.below) e u) h.2
        ∙ ap (λ o. not (is_some o) && next b.below e u) there
        ∙ ap (λ s. not s && next b.below e u) (some_or_none e stopped)
        ∙ ap (λ below. not stopped && next below e u) h.0;
    note_of_another = λ a b e stopped r h g u other.
        let away = noted_elsewhere same_eui e e g (eui_apart e g other) other stop_places (stop_range e) (stop_tables a) stopped in
        ap (λ t. stop_admits (settled t) (next b.below) g u) h.2
        ∙ ap (λ o. not (is_some o) && next b.below g u) away
        ∙ ap (λ below. stop_admits (settled (stop_tables a)) (next below) g u) h.0;
    note_below = λ a b n r h. ap (λ t. stop_admits (settled t) (next b.below)) h.1;
  }
