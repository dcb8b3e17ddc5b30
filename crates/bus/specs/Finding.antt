-- Which local ID shows an EUI-64: as a relation, and as a value. Assumes nothing.
use Rattle.std.specs.Prelude.{◌≡◌, ℕ, zero, suc, Bool, true, false, cond, Some, None, Option, ◌==◌}
use Rattle.reader.specs.declared.ids.NodeId.{NodeId}
use Rattle.reader.specs.declared.ids.Eui64.{Eui64}
use Rattle.reader.specs.Ids.{local}

-- an answer to "which local ID shows this EUI-64?" that is right
abbrev pub Finds : (NodeId → Option Eui64) → Eui64 → Option NodeId → Type 0
Finds shows eui (Some i) = (local i ≡ true) × (shows i ≡ Some eui)
Finds shows eui None = (i : NodeId) → (local i ≡ true) × (shows i ≡ Some eui) → ⊥

-- the node ID with this number
abbrev pub node_id : ℕ → NodeId
node_id n = record { 0 = n }

-- whether it is this EUI-64 that is shown
abbrev pub is_shown : Option Eui64 → Eui64 → Bool
is_shown (Some e) eui = e.0 == eui.0
is_shown None eui = false

-- the first of `count` node IDs from `i` on that shows an EUI-64
unfoldable pub first_from : (NodeId → Option Eui64) → Eui64 → ℕ → ℕ → Option NodeId
first_from shows eui i zero = None
first_from shows eui i (suc count) = cond (is_shown (shows (node_id i)) eui) (Some (node_id i)) (first_from shows eui (suc i) count)

-- the first local ID that shows an EUI-64; on a lawful bus it is the only one
abbrev pub local_of : (NodeId → Option Eui64) → Eui64 → Option NodeId
local_of shows eui = first_from shows eui 0xFFC0 63
