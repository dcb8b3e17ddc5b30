use Rattle.std.proofs.Common.{◌≡◌, ℕ, ◌<◌, ◌≤◌, List, ◌++◌, length, take, drop, sym, ap, ◌∙◌, arith, rules}
use Rattle.std.proofs.lemmas.Slice.{take-put_mid, drop-put_mid}
use Rattle.logins.specs.Rows.{row_at}
use Rattle.logins.specs.Tests.{among}
use Rattle.logins.specs.declared.rows.Holders.TheVariants.{OfUnit}
use Rattle.rules.specs.Responses.{query_entry}
use Rattle.tables.specs.Books.{book_of}
use Rattle.responses.proofs.Telling.{told_all, told_full, told_other, told_more, told_length, told_area, kept_behind}
use Rattle.responses.proofs.queries.write_entries.Goals as goal
use Rattle.responses.proofs.queries.write_entries.Goals.{then-is_among+else-left-lt12, else-is_among}

pub returns-then-left-lt12 : goal.returns-then-left-lt12
returns-then-left-lt12 c =
    let rows = (book_of c.args.tables.now).logins in
    let meant : among (OfUnit c.args.unit) (row_at rows c.loop-slot.slot) ≡ _ = sym (ap (among (OfUnit c.args.unit)) c.login-login.ensures) ∙ sym c.is_among.ensures ∙ c.if-is_among.true in
    let told = told_full rows c.args.unit c.loop-slot.left c.loop-slot.slot (take c.loop-slot.at c.loop-slot.area) _ c.loop-slot.invariant.0 (search rules) meant c.if-left-lt12.true in
    let inside : c.loop-slot.at ≤ length c.loop-slot.area = search rules in
    record {
      value = told_length c.loop-slot.area c.args.area.now _ c.loop-slot.at told c.loop-slot.invariant.1 inside;
      within = omega (arith, c.loop-slot.invariant.2);
      after = told_area c.loop-slot.area c.args.area.now _ c.loop-slot.at told c.loop-slot.invariant.1 inside;
    }

pub loop-slot-preserved : goal.loop-slot-preserved
loop-slot-preserved c =
    let rows = (book_of c.args.tables.now).logins in
    let before = take c.loop-slot.at c.loop-slot.area in
    let after = take c.if-is_among.at c.if-is_among.area in
    let inside : c.loop-slot.slot < length rows = search rules in
    let seen : c.is_among.result ≡ among (OfUnit c.args.unit) (row_at rows c.loop-slot.slot) = c.is_among.ensures ∙ ap (among (OfUnit c.args.unit)) c.login-login.ensures in
    elim c.if-is_among.branch [
      | then-is_among+else-left-lt12 w ↦
          let written = w.copy_from_slice.ensures.after ∙ w.entry.ensures ∙ ap (query_entry c.loop-slot.slot) c.login-login.ensures in
          let put : after ≡ before ++ query_entry c.loop-slot.slot (row_at rows c.loop-slot.slot) =
          ap (take c.if-is_among.at) w.area-is
          ∙ take-put_mid c.loop-slot.at _ c.loop-slot.area _ c.if-is_among.at (omega (arith, w.at-is, ap length written)) (omega (arith, c.loop-slot.invariant.2))
          ∙ ap (λ (z : List ℕ). before ++ z) written in
          let kept : drop c.if-is_among.at c.if-is_among.area ≡ drop c.if-is_among.at c.args.area.now =
          ap (drop c.if-is_among.at) w.area-is
          ∙ drop-put_mid c.loop-slot.at _ c.loop-slot.area _ c.if-is_among.at (omega (arith, w.at-is)) (omega (arith, c.loop-slot.invariant.2)) (omega (arith, ap length written))
          ∙ kept_behind c.loop-slot.area c.args.area.now c.loop-slot.at 12 c.if-is_among.at c.loop-slot.invariant.1 w.at-is in
          (told_more rows c.args.unit c.loop-slot.left c.loop-slot.slot before _ c.loop-slot.invariant.0 inside after c.if-is_among.left (sym seen ∙ w.if-is_among.true) w.if-left-lt12.false put w.left-is, kept, omega (arith, w.at-is, c.loop-slot.invariant.2))
      | else-is_among w ↦
          let same : after ≡ before = ap (λ (n : ℕ). take n c.if-is_among.area) w.at-is ∙ ap (take c.loop-slot.at) w.area-is in
          let kept : drop c.if-is_among.at c.if-is_among.area ≡ drop c.if-is_among.at c.args.area.now =
          ap (drop c.if-is_among.at) w.area-is
          ∙ kept_behind c.loop-slot.area c.args.area.now c.loop-slot.at 0 c.if-is_among.at c.loop-slot.invariant.1 (omega (arith, w.at-is)) in
          (told_other rows c.args.unit c.loop-slot.left c.loop-slot.slot before _ c.loop-slot.invariant.0 inside after c.if-is_among.left (sym seen ∙ w.if-is_among.false) same w.left-is, kept, omega (arith, w.at-is, c.loop-slot.invariant.2))
    ]

pub returns : goal.returns
returns c =
    let told = told_all (book_of c.args.tables.now).logins c.args.unit c.loop-slot.left c.loop-slot.slot (take c.loop-slot.at c.loop-slot.area) _ c.loop-slot.invariant.0 (search rules) in
    let inside : c.loop-slot.at ≤ length c.loop-slot.area = search rules in
    record {
      value = told_length c.loop-slot.area c.args.area.now _ c.loop-slot.at told c.loop-slot.invariant.1 inside;
      within = omega (arith, c.loop-slot.invariant.2);
      after = told_area c.loop-slot.area c.args.area.now _ c.loop-slot.at told c.loop-slot.invariant.1 inside;
    }
