-- One more call of a run, and the law after every front part of it. Assumes nothing.
use Rattle.std.proofs.Common.{◌≡◌, ℕ, ◌+◌, ◌<◌, List, [], ◌∷◌, ◌++◌, reverse, length, get_or, take, sym, refl, ap, ◌∙◌, subst}
use Rattle.std.proofs.lemmas.List.{take_more, reverse-append}
use Rattle.bus.specs.Meaning.{Answer, BusModel}
use Rattle.access.specs.Meaning.{AccessModel}
use Rattle.rules.specs.Law.{LawAfterRuns}
use Rattle.rules.specs.Runs.{Snapshot, Event, Step, Run, New}
use Rattle.rules.specs.declared.calls.Call.{Call}
use Rattle.agent.specs.Plays.{Plays, LawAbiding}

reverse_push : {X : Type 0} (xs : List X) (x : X) → reverse (xs ++ x ∷ []) ≡ x ∷ reverse xs
reverse_push xs x = reverse-append xs (x ∷ [])

module _ {B A N : Type 0} (m : BusModel B) (n : AccessModel A N) (start : Snapshot B A) where
  pub none_played : (end : Snapshot B A) → start ≡ end → Plays m n start [] [] end
  none_played end e = record { history = []; ran = tt; called = refl; answered = refl; ends = e }

  pub one_more : (calls : List (Call N)) (answers : List Answer) (i : ℕ) (x y : Snapshot B A) (d : Call N) (a : Answer) → i < length calls
      → Plays m n start (take i calls) answers x → Step m n x (get_or calls i d) a y → Plays m n start (take (i + 1) calls) (answers ++ a ∷ []) y
  one_more calls answers i x y d a within p step =
      let call = get_or calls i d in
      record {
        history = record { call = call; answer = a; after = y } ∷ p.history;
        ran = (p.ran, subst (λ (z : Snapshot B A). Step m n z call a y) (sym p.ends) step);
        called = ap (λ (cs : List (Call N)). call ∷ cs) p.called ∙ sym (ap reverse (take_more calls i d within) ∙ reverse_push (take i calls) call);
        answered = ap (λ (rs : List Answer). a ∷ rs) p.answered ∙ sym (reverse_push answers a);
        ends = refl;
      }

  -- a front part of a run is a run
  front_part : (later earlier : List (Event B A N)) → Run m n start (later ++ earlier) → Run m n start earlier
  front_part [] earlier run = run
  front_part (e ∷ es) earlier run = front_part es earlier run.0

  pub abides : (calls : List (Call N)) (answers : List Answer) (end : Snapshot B A) → New start → LawAfterRuns (λ hold. hold + 2) m n New
      → Plays m n start calls answers end → LawAbiding m n start calls answers end
  abides calls answers end new law p =
      record {
        played = p;
        law = λ later earlier e. law start new earlier (front_part later earlier (subst (Run m n start) e p.ran));
      }
