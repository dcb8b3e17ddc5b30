-- Which owner fields a login has. Assumes nothing.
use Rattle.std.specs.Prelude.{Bool, not, ◌&&◌}
use Rattle.reader.specs.declared.ids.NodeId.{NodeId}
use Rattle.reader.specs.declared.ids.Eui64.{Eui64}
use Rattle.reader.specs.Ids.{none_id, none_eui}

-- an owner, but nowhere: it may come back
abbrev pub waiting : NodeId → Eui64 → Bool
waiting id eui = not (none_eui eui) && none_id id
