-- The parts of the places so far.
use Rattle.std.proofs.Common.{string_bytes}
use Rattle.effects.proofs.Joining.{SoFar}
use Rattle.effects.proofs.lists.joined.Given as goal

abbrev pub invariant-loop-place : goal.invariant-loop-place
invariant-loop-place g l = SoFar (λ t. string_bytes t) (goal.F-post g l.part) l.separator l.none l.place l.first (string_bytes l.text)
