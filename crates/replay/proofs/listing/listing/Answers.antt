use Rattle.std.proofs.Common.{◌≡◌, ℕ, List, ◌++◌, length, vec_items, string_bytes, refl, ap, ◌∙◌}
use Rattle.std.proofs.lemmas.Slice.{pushed}
use Rattle.bus.specs.Meaning.{Answer}
use Rattle.journal.specs.Entries.{entries}
use Rattle.journal.specs.declared.record.Record.{Record}
use Rattle.replay.specs.Cabinets.{new_cabinet, answers}
use Rattle.replay.specs.Calls.{calls_of}
use Rattle.replay.specs.Drawing.{numbers_from}
use Rattle.replay.specs.Listings.{numbers, lines_text, end_text, ending_text}
use Rattle.replay.proofs.Drawing.{numbers_drawn}
use Rattle.replay.proofs.listing.listing.Goals as goal

pub returns : goal.returns
returns c =
    let rs = vec_items c.in_ok-journal.journal.records in
    let why = c.in_ok-journal.journal.refusal in
    let slice : c.as_slice-records.result.now ≡ rs = c.as_slice-records.ensures.value in
    let calls : c.as_slice.result.now ≡ calls_of (entries rs) =
    c.as_slice.ensures.value ∙ c.in_ok-calls.ensures ∙ ap (λ (z : List Record). calls_of (entries z)) slice in
    let given : c.as_slice-2.result.now ≡ answers new_cabinet (calls_of (entries rs)) =
    c.as_slice-2.ensures.value ∙ c.in_ok-given.ensures ∙ ap (answers new_cabinet) calls in
    let drawn : numbers_from c.as_slice-2.result.now (entries c.as_slice-records.result.now) ≡ numbers new_cabinet (entries rs) =
    ap (λ (z : List Record). numbers_from c.as_slice-2.result.now (entries z)) slice
    ∙ ap (λ (z : List Answer). numbers_from z (entries rs)) given ∙ numbers_drawn new_cabinet (entries rs) in
    let told : string_bytes c.in_ok-text.text ≡ lines_text 1 (numbers new_cabinet (entries rs)) =
    c.in_ok-text.ensures ∙ ap (lines_text 1) drawn in
    let ended : c.as_str.result.now ≡ end_text (length (entries rs)) why =
    c.as_str.ensures.value ∙ c.in_ok-end.ensures ∙ ap ending_text c.end.ensures in
    let grown = pushed c.as_str.result.now refl c.in_ok-push_str.was c.push_str.ensures.bytes in
    record {
      read = entries rs;
      refusal = why;
      reads = c.in_ok-journal.ensures;
      lines = grown ∙ ap (λ (z : List ℕ). z ++ c.as_str.result.now) told ∙ ap (λ (z : List ℕ). lines_text 1 (numbers new_cabinet (entries rs)) ++ z) ended;
    }
