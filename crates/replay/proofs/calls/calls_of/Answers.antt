use Rattle.std.proofs.Common.{Ok, Err, vec_items, sym, ap, ◌∙◌, rules}
use Rattle.std.proofs.lemmas.List.{append-nil}
use Rattle.replay.proofs.Collecting.{call_more, call_all}
use Rattle.replay.proofs.calls.calls_of.Goals as goal
use Rattle.replay.proofs.calls.calls_of.Goals.{in-Ok+in_ok-push, in_default}

pub loop-record-preserved : goal.loop-record-preserved
loop-record-preserved c =
    let more = call_more c.args.records.now c.loop-record.record-index (vec_items c.loop-record.calls) _ c.loop-record.invariant _ in
    let next = vec_items c.match-call_of.calls in
    elim c.match-call_of.branch [
      | in-Ok+in_ok-push w ↦ more (Ok w.in-Ok.call) next (search rules) w.in-Ok.ensures (ap vec_items w.calls-is ∙ w.in_ok-push.ensures.items)
      | in_default w ↦ more (Err w.in_default.field-0) next (search rules) w.in_default.ensures (ap vec_items w.calls-is ∙ sym (append-nil (vec_items c.loop-record.calls)))
    ]

pub returns : goal.returns
returns c = call_all c.args.records.now c.loop-record.record-index (vec_items c.loop-record.calls) _ c.loop-record.invariant (search rules)
