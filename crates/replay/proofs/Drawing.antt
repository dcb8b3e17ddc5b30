-- The numbers that are drawn from the answers of a cabinet are its own, and one line after another. Assumes nothing.
use Rattle.std.proofs.Common.{◌≡◌, ℕ, ◌+◌, ◌<◌, ◌≤◌, List, [], ◌∷◌, ◌++◌, length, get_or, drop, Ok, Err, Result, sym, refl, ap, ◌∙◌}
use Rattle.std.proofs.lemmas.List.{append-nil, append_assoc, at_drop_more, at_drop_all}
use Rattle.reader.specs.Refusals.{number}
use Rattle.reader.specs.declared.refusal.Refusal.{Refusal}
use Rattle.bus.specs.Meaning.{Answer}
use Rattle.agent.specs.Exchanges.{status_of}
use Rattle.journal.specs.Entries.{Entry, entry, entries}
use Rattle.journal.specs.declared.record.Record.{Record}
use Rattle.replay.specs.Cabinets.{Cabinet, CabinetCall, answer, after, answers}
use Rattle.replay.specs.Calls.{with_call, call_of, calls_of}
use Rattle.replay.specs.Drawing.{next_number, answers_left, numbers_from}
use Rattle.replay.specs.Listings.{drawn, after_record, numbers, line_text, lines_text}

-- one record before those for which it holds
number_first : (c : Cabinet) (es : List Entry) → ((d : Cabinet) → numbers_from (answers d (calls_of es)) es ≡ numbers d es) → (r : Result CabinetCall Refusal)
    → next_number r (answers c (with_call r (calls_of es))) ∷ numbers_from (answers_left r (answers c (with_call r (calls_of es)))) es
    ≡ status_of (drawn c r) ∷ numbers (after_record c r) es
number_first c es later (Ok call) = ap (λ (ns : List ℕ). status_of (answer c call) ∷ ns) (later (after c call))
number_first c es later (Err refusal) = ap (λ (ns : List ℕ). number refusal ∷ ns) (later c)

pub numbers_drawn : (c : Cabinet) (es : List Entry) → numbers_from (answers c (calls_of es)) es ≡ numbers c es
numbers_drawn c [] = refl
numbers_drawn c (e ∷ es) = number_first c es (λ d. numbers_drawn d es) (call_of e)

module _ (rs : List Record) (k : ℕ) (left : List Answer) (was all : List ℕ) (so_far : was ++ lines_text (k + 1) (numbers_from left (entries (drop k rs))) ≡ all) where
  pub line_more : (d : Record) (n : ℕ) (rest : List Answer) (row after : List ℕ) → k < length rs → n ≡ next_number (call_of (entry (get_or rs k d))) left
      → rest ≡ answers_left (call_of (entry (get_or rs k d))) left → row ≡ line_text (k + 1) n → after ≡ was ++ row
      → after ++ lines_text (k + 1 + 1) (numbers_from rest (entries (drop (k + 1) rs))) ≡ all
  line_more d n rest row after h p q r s =
      let tail : List Answer → List ℕ = λ z. lines_text (k + 1 + 1) (numbers_from z (entries (drop (k + 1) rs))) in
      ap (λ (z : List ℕ). z ++ tail rest) s ∙ append_assoc was row (tail rest)
      ∙ ap (λ (z : List ℕ). was ++ (z ++ tail rest)) (r ∙ ap (line_text (k + 1)) p)
      ∙ ap (λ (z : List Answer). was ++ (line_text (k + 1) (next_number (call_of (entry (get_or rs k d))) left) ++ tail z)) q
      ∙ ap (λ (z : List ℕ). was ++ z) (sym (at_drop_more (λ (z : List Record). lines_text (k + 1) (numbers_from left (entries z))) rs k d h)) ∙ so_far

  pub line_all : length rs ≤ k → was ≡ all
  line_all h =
      sym (append-nil was) ∙ ap (λ (z : List ℕ). was ++ z) (sym (at_drop_all (λ (z : List Record). lines_text (k + 1) (numbers_from left (entries z))) rs k h)) ∙ so_far
