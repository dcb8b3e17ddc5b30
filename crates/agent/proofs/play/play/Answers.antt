use Rattle.std.proofs.Common.{◌+◌, List, [], ◌∷◌, take, vec_items, sym, refl, ap, subst}
use Rattle.std.proofs.lemmas.List.{take_all}
use Rattle.std.proofs.lemmas.Slice.{pushed}
use Rattle.bus.specs.Meaning.{Answer}
use Rattle.rules.specs.Runs.{Snapshot, Step}
use Rattle.rules.specs.declared.calls.Call.{Call}
use Rattle.agent.specs.Plays.{Plays, LawAbiding}
use Rattle.agent.specs.Targets.{snapshot_of}
use Rattle.agent.proofs.Playing.{none_played, one_more, abides}
use Rattle.agent.proofs.play.play.Goals as goal

pub loop-call-init : goal.loop-call-init
loop-call-init g c =
    let start = snapshot_of c.new-target.result in
    subst (λ (answers : List Answer). Plays g.B.Bus.model g.A.Access.model start [] answers start) (sym c.new-answers.ensures.items) (
    none_played g.B.Bus.model g.A.Access.model start start refl
    )

pub loop-call-preserved : goal.loop-call-preserved
loop-call-preserved g c =
    let start = snapshot_of c.new-target.result in
    let calls = c.args.calls.now in
    let i = c.loop-call.call-index in
    let before = snapshot_of c.loop-call.target in
    let after = snapshot_of c.make-answer.new.self in
    let call = c.call-item.result in
    let step = subst (λ (one : Call g.row.A-Note.Denot). Step g.B.Bus.model g.A.Access.model before one c.make-answer.result after) c.call-item.is c.make-answer.ensures in
    subst (λ (answers : List Answer). Plays g.B.Bus.model g.A.Access.model start (take (i + 1) calls) answers after) (
    sym (pushed (c.make-answer.result ∷ []) refl c.in_ok-push.was c.push.ensures.items)
    ) (
    one_more g.B.Bus.model g.A.Access.model start calls (vec_items c.loop-call.answers) i before after call c.make-answer.result c.loop-call-test.true c.loop-call.invariant step
    )

pub returns : goal.returns
returns g c =
    let start = snapshot_of c.new-target.result in
    let calls = c.args.calls.now in
    let answers = vec_items c.loop-call.answers in
    let end = snapshot_of c.loop-call.target in
    let all = subst (λ (made : List (Call g.row.A-Note.Denot)). Plays g.B.Bus.model g.A.Access.model start made answers end) (take_all c.loop-call.call-index calls c.loop-call-test.false) c.loop-call.invariant in
    subst (λ (first : Snapshot g.row.B.Denot g.row.A.Denot). LawAbiding g.B.Bus.model g.A.Access.model first calls answers end) c.new-target.ensures (
    abides g.B.Bus.model g.A.Access.model start calls answers end (ap (λ (x : Snapshot g.row.B.Denot g.row.A.Denot). x.book) c.new-target.ensures) c.law_holds_over_every_run.ensures.after all
    )
