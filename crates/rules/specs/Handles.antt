-- QUERY LOGINS and NODE HANDLE. Assumes nothing.
use Rattle.std.specs.Prelude.{ℕ, ◌+◌, ◌-◌, Bool, false, cond, ◌&&◌, [], Some, None, Option, ◌==◌, nat_le, nat_lt}
use Rattle.reader.specs.declared.ids.NodeId.{NodeId}
use Rattle.reader.specs.declared.refusal.Refusal.TheVariants.{LogicalUnitNotSupported, ResourcesUnavailable, FunctionRejected, LoginIdNotRecognized, UnknownEui64, NodeHandleNotRecognized}
use Rattle.reader.specs.declared.request.Request.{Request}
use Rattle.bus.specs.Finding.{is_shown}
use Rattle.logins.specs.Rows.{row_at, handle_at, free_handle}
use Rattle.logins.specs.Tests.{meant}
use Rattle.logins.specs.declared.rows.Handle.{Handle}
use Rattle.logins.specs.declared.rows.HandleSweep.TheVariants.{OthersOf}
use Rattle.logins.specs.declared.rows.WhichHandle.TheVariants.{For}
use Rattle.tables.specs.Books.{put_handle}
use Rattle.tables.specs.Events.{given_handle, moved_handle, swept_book}
use Rattle.tables.specs.Searches.{first, free_handle_place}
use Rattle.rules.specs.Logins.{unit_of, login_id, handles_in_use}
use Rattle.rules.specs.Responses.{handle_response, query_response}
use Rattle.rules.specs.Scenes.{Scene, Outcome, refuse, grant, own_login}

abbrev pub query_outcome : Scene → Request → Outcome
query_outcome s q =
    cond (nat_lt 3 (unit_of q)) (refuse LogicalUnitNotSupported) (
    cond (nat_lt q.response_length 4) (refuse FunctionRejected) (
    grant (query_response (unit_of q) q.response_length s.book.logins) s.book
    )
    )

abbrev pub node_of : Request → NodeId
node_of q = record { 0 = q.node_or_handle }

-- a handle of the login for another node
abbrev pub other_handle : Request → Handle
other_handle q = record { login = login_id q; eui_64 = q.eui_64; node = node_of q; own = false }

abbrev pub allocate_new : Scene → Request → Option ℕ → Outcome
allocate_new s q None = refuse (ResourcesUnavailable (handles_in_use s.book))
allocate_new s q (Some place) = grant (handle_response (place + 1)) (given_handle s.book place (other_handle q))

-- a handle of that login for the EUI-64 takes the new node ID; else a new one is given
abbrev pub allocate_in : Scene → Request → Option ℕ → Outcome
allocate_in s q None = allocate_new s q (free_handle_place s.book)
allocate_in s q (Some place) = grant (handle_response (place + 1)) (moved_handle s.book place (node_of q))

-- the bus shows the EUI-64 at the node number
abbrev pub shown_there : Scene → Request → Bool
shown_there s q = is_shown (s.shows (node_of q)) q.eui_64

abbrev pub allocate : Scene → Request → Outcome
allocate s q =
    cond (nat_lt q.response_length 4) (refuse FunctionRejected) (
    cond (shown_there s q) (allocate_in s q (first (meant (login_id q) (For q.eui_64)) 0 s.book.handles)) (
    refuse UnknownEui64
    )
    )

abbrev pub of_login : Scene → Request → ℕ → Bool
of_login s q place = nat_le 1 q.node_or_handle && (handle_at s.book.handles place).login == login_id q

-- one handle is given back; the own one is not, nor one of another login
abbrev pub release_one : Scene → Request → ℕ → Outcome
release_one s q place =
    cond (of_login s q place) (
    cond (handle_at s.book.handles place).own (refuse FunctionRejected) (grant [] (put_handle s.book place free_handle))
    ) (refuse NodeHandleNotRecognized)

-- FFFFh frees all but the own
abbrev pub release : Scene → Request → Outcome
release s q =
    cond (q.node_or_handle == 0xFFFF) (grant [] (swept_book s.book (OthersOf (login_id q)))) (release_one s q (q.node_or_handle - 1))

abbrev pub handle_of : Scene → Request → Option ℕ → Outcome
handle_of s q None = refuse LoginIdNotRecognized
handle_of s q (Some slot) =
    cond (row_at s.book.logins slot).aware (cond q.exclusive_or_allocate (allocate s q) (release s q)) (refuse FunctionRejected)

abbrev pub handle_outcome : Scene → NodeId → Request → Outcome
handle_outcome s source q = handle_of s q (own_login s.book source (login_id q))
