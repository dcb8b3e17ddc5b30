-- Areas that are large enough, and the exchange of a request that is served. Assumes nothing.
use Rattle.std.proofs.Common.{◌≡◌, ℕ, ◌≤◌, List, length, Ok, Result, sym, ap, ◌∙◌, subst, arith}
use Rattle.std.proofs.lemmas.Bool.Decides.{nat_tests}
use Rattle.reader.specs.declared.refusal.Refusal.{Refusal}
use Rattle.reader.specs.declared.request.Request.{Request}
use Rattle.bus.specs.Meaning.{BusModel}
use Rattle.access.specs.Meaning.{AccessModel}
use Rattle.responses.specs.Writing.{smallest_area}
use Rattle.rules.specs.Runs.{Snapshot, Step}
use Rattle.rules.specs.Scenes.{Outcome, book_after, stored}
use Rattle.rules.specs.declared.calls.Call.TheVariants.{Request as Asked}
use Rattle.agent.specs.Answers.{checked, outcome_of, after_answer, rule, Answers}
use Rattle.agent.specs.Exchanges.{answered_with}
use Rattle.management.specs.Serving.{Serves, told, answer_told, in_area}
use Rattle.agent.specs.declared.exchange.Signalled.{Signalled}

pub in_area_fits : (area : List ℕ) (o : Outcome) → smallest_area ≤ length area → in_area area o ≡ o
in_area_fits area o h = grind (arith, nat_tests)

module _ {B A N : Type 0} (m : BusModel B) (n : AccessModel A N) (s : Signalled) (bytes area : List ℕ) (q : Request) (x y : Snapshot B A) (after : List ℕ) (served : Result ℕ Refusal) where
  pub answers : checked bytes area ≡ Ok q → Serves x (rule m n x s q) served y → after ≡ stored area (rule m n x s q)
      → Step m n x (Asked s.source q) (answer_told served) y → Answers m n s bytes area x (Ok (answered_with s q served, served)) y after
  answers e sv stands step =
      let by = rule m n x s in
      record {
        answer = ap (λ (v : Result ℕ Refusal). Ok (answered_with s q v, v)) sv.answered ∙ sym (ap (λ (c : Result Request Refusal). after_answer s c by) e);
        bus = sv.bus;
        list = sv.list;
        book = sv.book ∙ sym (ap (λ (c : Result Request Refusal). book_after x.book (outcome_of c by)) e);
        response = stands ∙ sym (ap (λ (c : Result Request Refusal). stored area (outcome_of c by)) e);
        step = λ p f.
            let same : q ≡ p = cc in
            subst (λ (p : Request). Step m n x (Asked s.source p) (answer_told (told (by p))) y) same (
            subst (λ (v : Result ℕ Refusal). Step m n x (Asked s.source q) (answer_told v) y) sv.answered step
            );
      }
