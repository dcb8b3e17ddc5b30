-- A response at the front of a lent area. Assumes nothing.
use Rattle.std.specs.Prelude.{ℕ, ◌+◌, cond, List, ◌++◌, length, drop, Ok, Err, Result, nat_lt}
use Rattle.reader.specs.declared.refusal.Refusal.{Refusal}
use Rattle.reader.specs.declared.refusal.Refusal.TheVariants.{ResponseArea}
use Rattle.rules.specs.Responses.{big, agent_offset, login_stored, login_response}
use Rattle.responses.specs.declared.told.LoginTold.{LoginTold}

-- the longest response is a query that tells 16 holders
abbrev pub smallest_area : ℕ
smallest_area = 196

-- 16 entries of 12 bytes
abbrev pub entries_size : ℕ
entries_size = 192

-- how many bytes were written; a smaller area is refused, with its length
abbrev pub write_answer : List ℕ → List ℕ → Result ℕ Refusal
write_answer area bytes = cond (nat_lt (length area) smallest_area) (Err (ResponseArea (length area))) (Ok (length bytes))

-- and stays as it was; any other begins with the bytes and keeps the rest
abbrev pub write_area : List ℕ → List ℕ → List ℕ
write_area area bytes = cond (nat_lt (length area) smallest_area) area (bytes ++ drop (length bytes) area)

abbrev pub login_told : LoginTold → List ℕ
login_told t = login_response t.own t.slot t.handle t.hold t.room

-- all 16 bytes of it, of which it may be that 12 are stored
abbrev pub login_bytes : LoginTold → List ℕ
login_bytes t =
    big 2 (login_stored t.room)
    ++ (big 2 (t.slot + 1) ++ (big 2 t.own.0 ++ (big 6 (agent_offset t.slot) ++ (big 2 t.handle ++ big 2 t.hold))))
