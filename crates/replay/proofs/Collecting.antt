-- One call after another. Assumes nothing.
use Rattle.std.proofs.Common.{◌≡◌, ℕ, ◌+◌, ◌<◌, ◌≤◌, List, [], ◌++◌, length, get_or, drop, Ok, Err, Result, sym, refl, ap, ◌∙◌}
use Rattle.std.proofs.lemmas.List.{append-nil, append_assoc, at_drop_more, at_drop_all}
use Rattle.reader.specs.declared.refusal.Refusal.{Refusal}
use Rattle.journal.specs.Entries.{entry, entries}
use Rattle.journal.specs.declared.record.Record.{Record}
use Rattle.replay.specs.Cabinets.{CabinetCall}
use Rattle.replay.specs.Calls.{with_call, call_of, calls_of}

in_front : (r : Result CabinetCall Refusal) (calls : List CabinetCall) → with_call r [] ++ calls ≡ with_call r calls
in_front (Ok call) calls = refl
in_front (Err refusal) calls = refl

module _ (rs : List Record) (k : ℕ) (was all : List CabinetCall) (so_far : was ++ calls_of (entries (drop k rs)) ≡ all) where
  pub call_more : (d : Record) (r : Result CabinetCall Refusal) (after : List CabinetCall) → k < length rs → r ≡ call_of (entry (get_or rs k d)) → after ≡ was ++ with_call r []
      → after ++ calls_of (entries (drop (k + 1) rs)) ≡ all
  call_more d r after h p q =
      let tail : List CabinetCall = calls_of (entries (drop (k + 1) rs)) in
      ap (λ (z : List CabinetCall). z ++ tail) q ∙ append_assoc was (with_call r []) tail
      ∙ ap (λ (z : List CabinetCall). was ++ z) (in_front r tail ∙ ap (λ (x : Result CabinetCall Refusal). with_call x tail) p)
      ∙ ap (λ (z : List CabinetCall). was ++ z) (sym (at_drop_more (λ (z : List Record). calls_of (entries z)) rs k d h)) ∙ so_far

  pub call_all : length rs ≤ k → was ≡ all
  call_all h =
      sym (append-nil was) ∙ ap (λ (z : List CabinetCall). was ++ z) (sym (at_drop_all (λ (z : List Record). calls_of (entries z)) rs k h)) ∙ so_far
