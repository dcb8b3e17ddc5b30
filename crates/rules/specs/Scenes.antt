-- What a request meets, and what can come of it. Assumes nothing.
use Rattle.std.specs.Prelude.{ℕ, ◌-◌, Bool, cond, ◌&&◌, List, [], ◌++◌, length, drop, Some, None, Err, Option, ◌==◌, nat_le}
use Rattle.reader.specs.declared.ids.NodeId.{NodeId}
use Rattle.reader.specs.declared.ids.Eui64.{Eui64}
use Rattle.reader.specs.declared.refusal.Refusal.{Refusal}
use Rattle.bus.specs.Meaning.{Answer, granted}
use Rattle.logins.specs.Logins.{active}
use Rattle.logins.specs.Rows.{row_at}
use Rattle.tables.specs.Books.{Book}

-- the meaning of the bus, the set of the access list, and the tables
pub record Scene : Type 0 where
  pub own : NodeId
  pub shows : NodeId → Option Eui64
  pub admits : Eui64 → ℕ → Bool
  pub book : Book

-- a request is refused, or granted with the bytes of its response and new tables
pub data Outcome : Type 0 where
  refuse : Refusal → Outcome
  grant : List ℕ → Book → Outcome

abbrev pub answer_of : Outcome → Answer
answer_of (refuse r) = Err r
answer_of (grant bytes b) = granted

-- a refusal changes nothing
abbrev pub book_after : Book → Outcome → Book
book_after before (refuse r) = before
book_after before (grant bytes b) = b

abbrev pub response : Outcome → List ℕ
response (refuse r) = []
response (grant bytes b) = bytes

-- the response area afterwards: bytes beyond those stored keep their values
abbrev pub stored : List ℕ → Outcome → List ℕ
stored area o = response o ++ drop (length (response o)) area

-- the slot of the own active login: active, with the source ID as owner ID
abbrev pub own_login : Book → NodeId → ℕ → Option ℕ
own_login b source id =
    cond (nat_le 1 id && (active (row_at b.logins (id - 1)) && (row_at b.logins (id - 1)).owner_id.0 == source.0)) (Some (id - 1)) None
