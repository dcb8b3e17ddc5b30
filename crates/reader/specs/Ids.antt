-- Which node IDs are local, broadcast, global or none. Assumes nothing.
use Rattle.std.specs.Prelude.{◌%◌, Bool, not, ◌&&◌, ◌==◌, nat_le, nat_lt}
use Rattle.reader.specs.declared.ids.NodeId.{NodeId}
use Rattle.reader.specs.declared.ids.Eui64.{Eui64}

abbrev pub none_id : NodeId → Bool
none_id n = n.0 == 0xFFFF

abbrev pub local : NodeId → Bool
local n = nat_le 0xFFC0 n.0 && nat_lt n.0 0xFFFF

-- all nodes of another bus: the low six bits are all ones
abbrev pub broadcast : NodeId → Bool
broadcast n = nat_lt n.0 0xFFC0 && n.0 % 64 == 63

-- one node of another bus
abbrev pub global : NodeId → Bool
global n = nat_lt n.0 0xFFC0 && not (n.0 % 64 == 63)

abbrev pub none_eui : Eui64 → Bool
none_eui e = e.0 == 0xFFFF_FFFF_FFFF_FFFF
