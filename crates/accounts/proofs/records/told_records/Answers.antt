use Rattle.std.proofs.Common.{◌<◌, length, string_bytes, ◌∙◌, rules}
use Rattle.replay.specs.Driving.{data_of}
use Rattle.accounts.specs.Traces.{after_entry, record_text}
use Rattle.accounts.proofs.Journeys.{after_more, after_end, told_more, told_end}
use Rattle.accounts.proofs.records.told_records.Goals as goal

pub loop-k-preserved : goal.loop-k-preserved
loop-k-preserved g c =
    let rs = c.args.records.now in
    let now = data_of c.loop-k.cabinet in
    let next = data_of c.told_record.new.cabinet in
    let inside : c.loop-k.k < length rs = search rules in (
      told_more after_entry (record_text (g.T.Telling.text c.args.telling.now)) rs c.loop-k.k now (string_bytes c.loop-k.text) _ c.loop-k.invariant.0 _ next c.as_str.result.now (string_bytes c.push_str.new.self) inside
          (c.as_str.ensures.value ∙ c.in_ok-row.ensures.text)
          c.told_record.ensures.after
          c.in_ok-push_str.ensures.bytes,
      after_more after_entry (record_text (g.T.Telling.text c.args.telling.now)) rs c.loop-k.k now _ next _ inside c.told_record.ensures.after c.loop-k.invariant.1,
    )

pub returns : goal.returns
returns g c =
    let rs = c.args.records.now in
    let now = data_of c.loop-k.cabinet in (
      told_end after_entry (record_text (g.T.Telling.text c.args.telling.now)) rs c.loop-k.k now (string_bytes c.loop-k.text) _ c.loop-k.invariant.0 (search rules),
      after_end after_entry (record_text (g.T.Telling.text c.args.telling.now)) rs c.loop-k.k now _ (search rules) c.loop-k.invariant.1,
    )
