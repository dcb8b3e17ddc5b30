-- One more record at the end of those that were read.
use Rattle.std.proofs.Common.{◌≡◌, ◌<◌, length, vec_items, inl, arith, rules}
use Rattle.journal.specs.Entries.{entry, entries}
use Rattle.journal.proofs.Journals.{shorter, one_more, so_far_short, whole, broken}
use Rattle.journal.proofs.reading.read_journal.Goals as goal

pub overflow_sub-refusal : goal.overflow_sub-refusal
overflow_sub-refusal c = omega (arith, so_far_short c.args.bytes.now (entries (vec_items c.loop-rest.records)) c.loop-rest.rest.now c.loop-rest.invariant.1)

pub returns-in_default : goal.returns-in_default
returns-in_default c =
    let some : 0 < length c.loop-rest.rest.now = search rules in
    inl (broken c.args.bytes.now (entries (vec_items c.loop-rest.records)) c.loop-rest.rest.now c.loop-rest.invariant.0 c.loop-rest.invariant.1 some c.in_default.ensures)

pub loop-rest-smaller : goal.loop-rest-smaller
loop-rest-smaller c = shorter c.loop-rest.rest.now (entry c.in-Some.record) c.in-Some.after.now c.in-Some.ensures

pub loop-rest-preserved : goal.loop-rest-preserved
loop-rest-preserved c = (
  c.loop-rest.invariant.0,
  one_more c.args.bytes.now (vec_items c.loop-rest.records) (vec_items c.push.new.self) c.in-Some.record c.loop-rest.rest.now c.in-Some.after.now c.in_ok-push.ensures.items c.loop-rest.invariant.1 c.in-Some.ensures,
)

pub returns : goal.returns
returns c =
    let none : length c.loop-rest.rest.now ≡ 0 = search rules in
    whole c.args.bytes.now (entries (vec_items c.loop-rest.records)) c.loop-rest.rest.now c.loop-rest.invariant.0 c.loop-rest.invariant.1 none
