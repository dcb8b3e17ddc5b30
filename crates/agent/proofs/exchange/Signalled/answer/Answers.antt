use Rattle.std.proofs.Common.{ℕ, Ok, sym, subst, rules}
use Rattle.agent.specs.Answers.{Answers}
use Rattle.agent.specs.Targets.{snapshot_of}
use Rattle.agent.proofs.Answering.{answers}
use Rattle.agent.proofs.exchange.Signalled.answer.Goals as goal

pub returns : goal.returns
returns g c =
    let m = g.B.Bus.model in
    let n = g.A.Access.model in
    let s = c.args.self in
    let bytes = c.args.request.now in
    let area = c.args.response.now in
    let q = c.in-Ok.fields in
    let x = snapshot_of c.args.target.now in
    let y = snapshot_of c.serve-served.new.target in
    let after = c.serve-served.new.response in
    let served = c.serve-served.result in
    let did = answers m n s bytes area q x y after served (sym c.in-Ok.ensures.value) c.serve-served.ensures.served c.serve-served.ensures.area c.serve-served.ensures.step in
    record {
      answers =
          subst (λ (status : ℕ). Answers m n s bytes area x (Ok (record { closed = s.closed; orb_address = s.orb_address; status = status; notify = q.notify }, served)) y after) (sym c.status.ensures) did;
      link = search rules;
    }
