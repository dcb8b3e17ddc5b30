-- Each number is big-endian, and each mask takes a field's low bits.
use Rattle.std.proofs.Common.{◌≡◌, ℕ, ◌/◌, ◌^◌, ◌∙◌, ap, bit_and, arith}
use Rattle.std.proofs.lemmas.Nat.{and_mask}
use Rattle.reader.specs.Quadlets.{bit, field}
use Rattle.reader.specs.Requests.{function_in}
use Rattle.reader.proofs.BigEndian.{from_two, from_four, from_eight}
use Rattle.reader.proofs.request.RequestFromRefArrayU832.from.Goals as goal

pub returns : goal.returns
returns c =
    let orb = c.args.orb.now in
    let word = c.from_be_bytes-word.ensures ∙ from_four orb _ 16 c.bytes_at.ensures in
    let eui = c.from_be_bytes.ensures ∙ from_eight orb _ 0 c.bytes_at-2.ensures in
    let node = c.from_be_bytes-2.ensures ∙ from_two orb _ 20 c.bytes_at-3.ensures in
    let room = c.from_be_bytes-3.ensures ∙ from_two orb _ 22 c.bytes_at-4.ensures in
    let fifo = c.from_be_bytes-4.ensures ∙ from_eight orb _ 24 c.bytes_at-5.ensures in
    let q = c.from_be_bytes-word.result in
    let notify = c.flag.ensures ∙ ap (λ (q : ℕ). bit q 31) word in
    let exclusive = c.flag-2.ensures ∙ ap (λ (q : ℕ). bit q 28) word in
    let aware = c.flag-3.ensures ∙ ap (λ (q : ℕ). bit q 27) word in
    let update = c.flag-4.ensures ∙ ap (λ (q : ℕ). bit q 26) word in
    let format = and_mask (q / 2 ^ 29) 2 ∙ ap (λ (q : ℕ). field q 29 2) word in
    let reconnect = and_mask (q / 2 ^ 20) 4 ∙ ap (λ (q : ℕ). field q 20 4) word in
    let function = c.from.ensures ∙ ap function_in (and_mask (q / 2 ^ 16) 4 ∙ ap (λ (q : ℕ). field q 16 4) word) in
    let unit : bit_and q 65535 ≡ field q 0 16 = omega (arith, and_mask q 16) in
    λ i.
    record {
      eui_64 = record { 0 = eui i };
      notify = notify i;
      rq_fmt = format i;
      exclusive_or_allocate = exclusive i;
      aware = aware i;
      update = update i;
      reconnect = reconnect i;
      function = function i;
      unit_or_login_id = (unit ∙ ap (λ (q : ℕ). field q 0 16) word) i;
      node_or_handle = node i;
      response_length = room i;
      status_fifo = fifo i;
    }
