use Rattle.std.proofs.Common.{string_bytes, refl, ◌∙◌, rules}
use Rattle.std.proofs.lemmas.Slice.{pushed}
use Rattle.replay.proofs.Drawing.{line_more, line_all}
use Rattle.replay.proofs.listing.lines.Goals as goal

pub loop-k-preserved : goal.loop-k-preserved
loop-k-preserved c =
    line_more c.args.records.now c.loop-k.k c.loop-k.left.now (string_bytes c.loop-k.text) _ c.loop-k.invariant _ c.next_number-number.result.0 c.next_number-number.result.1.now c.as_str.result.now (string_bytes c.push_str.new.self) (search rules)
    c.next_number-number.ensures.number
    c.next_number-number.ensures.rest
    (c.as_str.ensures.value ∙ c.in_ok-row.ensures)
    (pushed c.as_str.result.now refl c.in_ok-push_str.was c.push_str.ensures.bytes)

pub returns : goal.returns
returns c = line_all c.args.records.now c.loop-k.k c.loop-k.left.now (string_bytes c.loop-k.text) _ c.loop-k.invariant (search rules)
