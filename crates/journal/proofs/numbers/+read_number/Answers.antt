-- The code tests the first byte as the definition does.
use Rattle.std.proofs.Common.{◌^◌, ◌<◌, ◌≤◌, eqb, get_or, None, sym, ap, ◌∙◌, arith, pow_mono, rules}
use Rattle.std.proofs.lemmas.Nat.{one_shl}
use Rattle.std.proofs.lemmas.Bool.{eq-eqb, ne_eqb, cond-true, cond-false}
use Rattle.journal.specs.Reading.{number_at, above}
use Rattle.journal.proofs.Fronts.{at_none, at_small, at_wide, at_narrow, at_more, front_of}
use Rattle.journal.proofs.Finding.{high_fits}
use Rattle.journal.proofs.numbers.+read_number.Goals as goal
use Rattle.journal.proofs.numbers.+read_number.Goals.{else-bits-lt7-via-then-bits-lt7+else-low-bits, else-bits-lt7-via-else-bits-lt7}

pub returns-in_default : goal.returns-in_default
returns-in_default t c = sym (at_none c.args.bits c.args.bytes.now (search rules))

pub returns-then-bits-le7 : goal.returns-then-bits-le7
returns-then-bits-le7 t c =
    let e = front_of c.args.bytes.now (search rules) in
    sym (ap (number_at c.args.bits) e ∙ at_narrow c.args.bits _ _ (omega arith) (omega arith))

pub returns-then-low-bits : goal.returns-then-low-bits
returns-then-low-bits t c =
    let e = front_of c.args.bytes.now (search rules) in
    let s = one_shl c.args.bits 8 (omega arith) in
    sym (ap (number_at c.args.bits) e ∙ at_wide c.args.bits _ _ (omega arith) (omega arith))

pub returns-then-low-lt128 : goal.returns-then-low-lt128
returns-then-low-lt128 t c =
    let e = front_of c.args.bytes.now (search rules) in
    let fits : get_or c.args.bytes.now 0 0 < 2 ^ c.args.bits =
    elim c.else-bits-lt7.branch [
      | else-bits-lt7-via-else-bits-lt7 w ↦
          let h : 7 ≤ c.args.bits = omega arith in let p : 2 ^ 7 ≤ 2 ^ c.args.bits = pow_mono h in omega arith
      | else-bits-lt7-via-then-bits-lt7+else-low-bits w ↦ let s = one_shl c.args.bits 8 (omega arith) in omega arith
    ] in
    rw c.from.ensures (sym (ap (number_at c.args.bits) e ∙ at_small c.args.bits _ _ c.if-low-lt128.true fits))

pub returns-in_err-high : goal.returns-in_err-high
returns-in_err-high t c =
    let e = front_of c.args.bytes.now (search rules) in
    rw c.from_residual.ensures (
    sym (
    ap (number_at c.args.bits) e ∙ at_more c.args.bits _ _ (omega arith) (omega arith)
    ∙ ap (above (get_or c.args.bytes.now 0 0)) (sym c.in_err-high.ensures)
    )
    )

pub returns-then-high-eq0 : goal.returns-then-high-eq0
returns-then-high-eq0 t c =
    let e = front_of c.args.bytes.now (search rules) in
    sym (
    ap (number_at c.args.bits) e ∙ at_more c.args.bits _ _ (omega arith) (omega arith)
    ∙ ap (above (get_or c.args.bytes.now 0 0)) (sym c.in_ok-high.ensures)
    ∙ cond-true (eqb c.in_ok-high.high 0) None _ (eq-eqb c.in_ok-high.high 0 c.if-high-eq0.true)
    )

pub overflow_mul-result : goal.overflow_mul-result
overflow_mul-result t c =
    omega (arith, high_fits c.args.bits c.in_ok-high.high c.args.bytes.now c.in_ok-high.after.now (search rules) (λ k. omega (arith, c.type_inv.bytes k)) (omega arith) c.requires c.in_ok-high.ensures)

pub overflow_add-result : goal.overflow_add-result
overflow_add-result t c =
    omega (arith, c.type_inv.bytes 0, high_fits c.args.bits c.in_ok-high.high c.args.bytes.now c.in_ok-high.after.now (search rules) (λ k. omega (arith, c.type_inv.bytes k)) (omega arith) c.requires c.in_ok-high.ensures)

pub returns : goal.returns
returns t c =
    let e = front_of c.args.bytes.now (search rules) in
    rw c.from-2.ensures (
    sym (
    ap (number_at c.args.bits) e ∙ at_more c.args.bits _ _ (omega arith) (omega arith)
    ∙ ap (above (get_or c.args.bytes.now 0 0)) (sym c.in_ok-high.ensures)
    ∙ cond-false (eqb c.in_ok-high.high 0) None _ (ne_eqb c.in_ok-high.high 0 c.if-high-eq0.false)
    )
    )
