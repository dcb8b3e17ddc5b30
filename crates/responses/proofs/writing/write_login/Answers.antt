use Rattle.std.proofs.Common.{◌≡◌, ℕ, ◌-◌, take, ap, ◌∙◌, arith}
use Rattle.rules.specs.Responses.{login_stored}
use Rattle.responses.specs.Writing.{write_answer, write_area, login_told}
use Rattle.responses.proofs.writing.write_login.Goals as goal

pub returns : goal.returns
returns c =
    let long : c.from.result - 0 ≡ login_stored c.args.told.room = omega (arith, c.from.ensures ∙ c.stored.ensures) in
    let told : take (c.from.result - 0) c.login_bytes-bytes.result ≡ login_told c.args.told =
    ap (λ (n : ℕ). take n c.login_bytes-bytes.result) long ∙ ap (take (login_stored c.args.told.room)) c.login_bytes-bytes.ensures in
    record {
      value = c.write.ensures.value ∙ ap (write_answer c.args.area.now) told;
      after = c.write.ensures.after ∙ ap (write_area c.args.area.now) told;
    }
