-- The bytes of the responses. Assumes nothing.
use Rattle.std.specs.Prelude.{ℕ, zero, suc, ◌+◌, ◌-◌, ◌*◌, ◌/◌, ◌%◌, ◌^◌, cond, List, [], ◌∷◌, ◌++◌, length, take, nat_lt}
use Rattle.reader.specs.declared.ids.NodeId.{NodeId}
use Rattle.logins.specs.Logins.{reserved}
use Rattle.logins.specs.Tests.{among}
use Rattle.logins.specs.declared.rows.Holders.TheVariants.{OfUnit}
use Rattle.logins.specs.declared.rows.LoginRow.{LoginRow}

-- a number in n bytes, highest first
abbrev pub big : ℕ → ℕ → List ℕ
big zero x = []
big (suc n) x = (x / 256 ^ n % 256) ∷ big n x

-- where the fetch agent of a slot stands
abbrev pub agent_offset : ℕ → ℕ
agent_offset slot = 0xFFFF_F001_0000 + 32 * slot

-- a login response has 16 bytes, or where the length is below 16 the first 12; it tells how many
abbrev pub login_stored : ℕ → ℕ
login_stored room = cond (nat_lt room 16) 12 16

-- length and login ID; own ID and agent offset; own handle and hold
abbrev pub login_response : NodeId → ℕ → ℕ → ℕ → ℕ → List ℕ
login_response own slot handle hold room =
    take (login_stored room) (
    big 2 (login_stored room) ++ (big 2 (slot + 1) ++ (big 2 own.0 ++ (big 6 (agent_offset slot) ++ (big 2 handle ++ big 2 hold))))
    )

-- the handle and 16 zero bits
abbrev pub handle_response : ℕ → List ℕ
handle_response handle = big 2 handle ++ big 2 0

-- of a holder: owner ID; login ID, or when reserved ticks left less 2; EUI-64
abbrev pub query_entry : ℕ → LoginRow → List ℕ
query_entry slot r = big 2 r.owner_id.0 ++ (big 2 (cond (reserved r) (r.ticks_left - 2) (slot + 1)) ++ big 8 r.owner_eui_64.0)

-- of the holders of a unit in slot order, as many as there is room for
abbrev pub query_entries : ℕ → ℕ → ℕ → List LoginRow → List ℕ
query_entries unit room slot [] = []
query_entries unit room slot (r ∷ rs) =
    cond (among (OfUnit unit) r) (
    cond (nat_lt room 12) [] (query_entry slot r ++ query_entries unit (room - 12) (slot + 1) rs)
    ) (query_entries unit room (slot + 1) rs)

-- the bytes stored and 16, then the entries
abbrev pub query_response : ℕ → ℕ → List LoginRow → List ℕ
query_response unit room rows =
    big 2 (4 + length (query_entries unit (room - 4) 0 rows)) ++ (big 2 16 ++ query_entries unit (room - 4) 0 rows)
