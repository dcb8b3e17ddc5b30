-- A local bus keeps the laws of a bus. Assumes nothing.
use Rattle.std.specs.Prelude.{◌≡◌, ◌-◌, true, false, cond, ◌||◌, List, Some, None, Option, refl}
use Rattle.std.proofs.Common.{ap, arith}
use Rattle.std.proofs.lemmas.Bool.{or_left}
use Rattle.std.proofs.lemmas.Bool.Decides.{nat_tests}
use Rattle.std.specs.Option.{unwrap_or}
use Rattle.reader.specs.declared.ids.NodeId.{NodeId}
use Rattle.reader.specs.declared.ids.Eui64.{Eui64}
use Rattle.reader.specs.Ids.{local, none_id, broadcast, global}
use Rattle.bus.specs.Meaning.{Lawful, somebody}
use Rattle.bus.specs.Finding.{Finds, node_id, local_of}
use Rattle.bus.specs.Places.{place, seated}
use Rattle.bus.specs.LocalBuses.{local_model}
use Rattle.bus.specs.FindingLemmas.{local_of_finds}
use Rattle.bus.specs.Seating.{seated_some, seated_apart}

found_or_none : (shows : NodeId → Option Eui64) (e : Eui64) (o : Option NodeId) → Finds shows e o → (local (unwrap_or o (node_id 0xFFFF)) || none_id (unwrap_or o (node_id 0xFFFF))) ≡ true
found_or_none shows e (Some i) f = or_left (local i) (none_id i) f.0
found_or_none shows e None f = refl

pub seated_elsewhere : (euis : List Eui64) (i : NodeId) → local i ≡ false → seated euis i ≡ None
seated_elsewhere euis i h = ap (λ b. cond b (somebody (place euis (i.0 - 0xFFC0))) None) h

none_not_local : (i : NodeId) → none_id i ≡ true → local i ≡ false
none_not_local i h = grind (arith, nat_tests)

broadcast_not_local : (i : NodeId) → broadcast i ≡ true → local i ≡ false
broadcast_not_local i h = grind (arith, nat_tests)

global_not_local : (i : NodeId) → global i ≡ true → local i ≡ false
global_not_local i h = grind (arith, nat_tests)

pub local_lawful : Lawful local_model
local_lawful = record {
  own_is_local_or_none = λ b. found_or_none (seated b.places.current.euis) b.eui (local_of (seated b.places.current.euis) b.eui) (local_of_finds (seated b.places.current.euis) b.eui);
  none_shows_nobody = λ b i h. seated_elsewhere b.places.current.euis i (none_not_local i h);
  broadcast_shows_nobody = λ b i h. seated_elsewhere b.places.current.euis i (broadcast_not_local i h);
  all_ones_is_not_shown = λ b i e h. (seated_some b.places.current.euis i e h).1;
  local_ids_show_apart = λ b i j e f g. seated_apart b.places.current.euis b.places.current.apart e i j f g;
  reset_keeps_globals = λ b c r i h.
      let p = seated_elsewhere b.places.current.euis i (global_not_local i h) in
      let q = seated_elsewhere c.places.current.euis i (global_not_local i h) in
      cc;
  note_keeps_own = λ b c i e a n. cc;
  note_keeps_shown = λ b c i e a n. ap (λ t. seated t.shown) n.1;
}
