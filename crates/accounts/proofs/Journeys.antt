-- One record after another of a text that is told record by record. Assumes nothing.
use Rattle.std.proofs.Common.{◌≡◌, ℕ, ◌+◌, ◌<◌, ◌≤◌, List, ◌++◌, length, get_or, drop, sym, ap, ◌∙◌}
use Rattle.std.proofs.lemmas.List.{append-nil, at_drop_more, at_drop_all}
use Rattle.journal.specs.Entries.{Entry, entry, entries}
use Rattle.journal.specs.declared.record.Record.{Record}
use Rattle.accounts.specs.Journeys.{after_all, told_all}
use Rattle.words.proofs.Growing.{grown, whole}

module _ {C : Type 0} (step : C → Entry → C) (part : ℕ → C → Entry → List ℕ) (rs : List Record) (k : ℕ) (c : C) where
  -- what the records from k on make of it
  pub after_more : (d : Record) (next end : C) → k < length rs → next ≡ step c (entry (get_or rs k d))
      → after_all step c (entries (drop k rs)) ≡ end → after_all step next (entries (drop (k + 1) rs)) ≡ end
  after_more d next end h p e =
      ap (λ (z : C). after_all step z (entries (drop (k + 1) rs))) p
      ∙ sym (at_drop_more (λ (z : List Record). after_all step c (entries z)) rs k d h)
      ∙ e

  pub after_end : (end : C) → length rs ≤ k → after_all step c (entries (drop k rs)) ≡ end → c ≡ end
  after_end end h e = sym (at_drop_all (λ (z : List Record). after_all step c (entries z)) rs k h) ∙ e

  module _ (was all : List ℕ) (so_far : was ++ told_all step part (k + 1) c (entries (drop k rs)) ≡ all) where
    pub told_more : (d : Record) (next : C) (row after : List ℕ) → k < length rs → row ≡ part (k + 1) c (entry (get_or rs k d)) → next ≡ step c (entry (get_or rs k d)) → after ≡ was ++ row
        → after ++ told_all step part (k + 1 + 1) next (entries (drop (k + 1) rs)) ≡ all
    told_more d next row after h p n q =
        grown (λ (z : List Record). told_all step part (k + 1) c (entries z)) (λ (z : List Record). told_all step part (k + 1 + 1) next (entries z)) rs k was all so_far d row after h (
        ap (λ (z : C). part (k + 1) c (entry (get_or rs k d)) ++ told_all step part (k + 1 + 1) z (entries (drop (k + 1) rs))) (sym n)
        ∙ ap (λ (z : List ℕ). z ++ told_all step part (k + 1 + 1) next (entries (drop (k + 1) rs))) (sym p)
        ) q

    pub told_end : length rs ≤ k → was ≡ all
    told_end h =
        sym (append-nil was)
        ∙ whole (λ (z : List Record). told_all step part (k + 1) c (entries z)) (λ (z : List Record). told_all step part (k + 1) c (entries z)) rs k was all so_far h
