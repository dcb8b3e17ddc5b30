-- The calls so far were made, with the answers so far.
use Rattle.std.proofs.Common.{take, vec_items}
use Rattle.agent.specs.Plays.{Plays}
use Rattle.agent.specs.Targets.{snapshot_of}
use Rattle.agent.proofs.play.play.Given as goal

abbrev pub invariant-loop-call : goal.invariant-loop-call
invariant-loop-call g l =
    Plays g.B.Bus.model g.A.Access.model (snapshot_of l.initial.target) (take l.call-index l.calls) (vec_items l.answers) (snapshot_of l.target)
