use Rattle.std.proofs.Common.{◌≡◌, string_bytes, ap, ◌∙◌, arith, rules}
use Rattle.effects.proofs.Joining.{so_far_none, one_part, no_part, joined_none, joined_some}
use Rattle.effects.proofs.lists.joined.Goals as goal
use Rattle.effects.proofs.lists.joined.Goals.{in-Some+in_ok-write, in_default, then-first-2+in_ok-push_str, else-first-2}

pub loop-place-init : goal.loop-place-init
loop-place-init g c = so_far_none _ _ _ _ (string_bytes c.new-text.result) (search rules)

pub loop-place-preserved : goal.loop-place-preserved
loop-place-preserved g c =
    let before = c.loop-place in
    elim c.match-branch-2.branch [
      | in-Some+in_ok-write w ↦
          one_part _ _ _ _ before.place before.first (string_bytes before.text) before.invariant c.in_ok-row.field-0 c.in_ok-row.ensures c.match-branch-2.first (string_bytes c.match-branch-2.text) w.if-first.before.now (string_bytes w.in-Some.row)
          (search rules) w.first-is (search rules) (ap string_bytes w.text-is ∙ w.in_ok-write.ensures.bytes)
      | in_default w ↦
          no_part _ _ _ _ before.place before.first (string_bytes before.text) before.invariant c.in_ok-row.field-0 c.in_ok-row.ensures c.match-branch-2.first (string_bytes c.match-branch-2.text)
          (search rules) w.first-is (ap string_bytes w.text-is)
    ]

pub returns : goal.returns
returns g c =
    let told = c.loop-place in
    let at : told.place ≡ c.args.places = omega arith in
    elim c.if-first-2.branch [
      | then-first-2+in_ok-push_str w ↦
          joined_none _ _ _ _ told.place told.first (string_bytes told.text) told.invariant c.args.places at (string_bytes c.if-first-2.text) w.if-first-2.true
          (ap string_bytes w.text-is ∙ w.in_ok-push_str.ensures.bytes)
      | else-first-2 w ↦
          joined_some _ _ _ _ told.place told.first (string_bytes told.text) told.invariant c.args.places at (string_bytes c.if-first-2.text) w.if-first-2.false (ap string_bytes w.text-is)
    ]
