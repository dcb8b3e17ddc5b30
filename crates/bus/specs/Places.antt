-- The places of a local bus, one for each of the 63 local IDs. Assumes nothing.
use Rattle.std.specs.Prelude.{◌≡◌, ℕ, ◌-◌, false, cond, List, Some, None, Err, Option, ◌==◌, slice_index_or, slice_set}
use Rattle.reader.specs.declared.ids.NodeId.{NodeId}
use Rattle.reader.specs.declared.ids.Eui64.{Eui64}
use Rattle.reader.specs.declared.refusal.Refusal.TheVariants.{OutOfRange, NotedElsewhere}
use Rattle.reader.specs.Ids.{local, none_eui}
use Rattle.bus.specs.Meaning.{Answer, granted, nobody, somebody, if_granted}
use Rattle.bus.specs.Finding.{local_of}

-- who stands at place k, which is that of FFC0h + k
abbrev pub place : List Eui64 → ℕ → Eui64
place euis k = slice_index_or euis k nobody

-- no EUI-64 stands at two places
abbrev pub Apart : List Eui64 → Type 0
Apart euis = (i j : ℕ) → (place euis i ≡ place euis j) × (none_eui (place euis i) ≡ false) → i ≡ j

-- who is seated at a node ID
abbrev pub seated : List Eui64 → NodeId → Option Eui64
seated euis i = cond (local i) (somebody (place euis (i.0 - 0xFFC0))) None

-- an EUI-64 that is seated at another node ID is refused with that one
abbrev pub unless_elsewhere : NodeId → Option NodeId → Answer
unless_elsewhere i None = granted
unless_elsewhere i (Some j) = cond (j.0 == i.0) granted (Err (NotedElsewhere j))

-- the answer to an EUI-64 that is to be seated at a node ID, which must be local
abbrev pub seat_answer : List Eui64 → NodeId → Eui64 → Answer
seat_answer euis i e = cond (local i) (unless_elsewhere i (local_of (seated euis) e)) (Err (OutOfRange i.0))

-- the places after it
abbrev pub seat_after : List Eui64 → NodeId → Eui64 → List Eui64
seat_after euis i e = if_granted (seat_answer euis i e) (slice_set euis (i.0 - 0xFFC0) e) euis
