use Rattle.std.proofs.Common.{ap, sym, ◌∙◌}
use Rattle.rules.specs.Runs.{scene}
use Rattle.rules.specs.Scenes.{stored, book_after}
use Rattle.rules.specs.Serving.{outcome}
use Rattle.management.specs.Parts.{snapshot_of}
use Rattle.management.specs.Serving.{told, answer_told}
use Rattle.management.proofs.Areas.{has_room, answer_of_told, stored_in_front}
use Rattle.management.proofs.parts.ManagementAgent.serve.Goals as goal

pub returns-clause-area : goal.returns-clause-area
returns-clause-area g c =
    let o = outcome (scene g.B.Bus.model g.A.Access.model (snapshot_of c.args.self.now)) c.args.source c.args.request.now in
    let chunk = c.in-Some.ensures.cases in
    let front = c.serve_in.ensures.area ∙ ap (λ z. stored z o) chunk.same in
    stored_in_front c.args.response.now chunk.enough o c.serve_in.new.response front c.serve_in.ensures.whole ∙ ap (stored c.args.response.now) (sym (has_room c.args.response.now chunk.enough o))

pub returns-clause-served : goal.returns-clause-served
returns-clause-served g c =
    let o = outcome (scene g.B.Bus.model g.A.Access.model (snapshot_of c.args.self.now)) c.args.source c.args.request.now in
    let room = sym (has_room c.args.response.now c.in-Some.ensures.cases.enough o) in
    let s = c.serve_in.ensures.served in
    record { answered = s.answered ∙ ap told room; bus = s.bus; list = s.list; book = s.book ∙ ap (book_after (snapshot_of c.args.self.now).book) room }

pub returns-clause-step : goal.returns-clause-step
returns-clause-step g c enough =
    let o = outcome (scene g.B.Bus.model g.A.Access.model (snapshot_of c.args.self.now)) c.args.source c.args.request.now in
    let s = c.serve_in.ensures.served in
    (ap answer_told s.answered ∙ answer_of_told o, record { bus = s.bus; list = s.list }, s.book)
