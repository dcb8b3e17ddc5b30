use Rattle.std.proofs.Common.{ℕ, ◌+◌, List, ◌++◌, drop, string_bytes, sym, ap, ◌∙◌, rules}
use Rattle.std.proofs.lemmas.List.{append-nil}
use Rattle.journal.specs.Entries.{entries}
use Rattle.journal.specs.declared.record.Record.{Record}
use Rattle.words.specs.Lines.{lines_text}
use Rattle.words.proofs.Growing.{grown, whole}
use Rattle.words.proofs.lines.records_words.Goals as goal

pub loop-k-preserved : goal.loop-k-preserved
loop-k-preserved c =
    let k = c.loop-k.k in
    let rs = c.args.records.now in
    let left = λ (n : ℕ) (xs : List Record). lines_text n (entries xs) in
    grown (left (k + 1)) (left (k + 1 + 1)) rs k (string_bytes c.loop-k.text) _ c.loop-k.invariant _ c.as_str.result.now (string_bytes c.push_str.new.self) (search rules)
    (ap (λ (z : List ℕ). z ++ left (k + 1 + 1) (drop (k + 1) rs)) (sym (c.as_str.ensures.value ∙ c.in_ok-row.ensures)))
    c.in_ok-push_str.ensures.bytes

pub returns : goal.returns
returns c =
    let left = λ (xs : List Record). lines_text (c.loop-k.k + 1) (entries xs) in
    search (rules, append-nil, whole left left c.args.records.now c.loop-k.k (string_bytes c.loop-k.text) _ c.loop-k.invariant (search rules))
