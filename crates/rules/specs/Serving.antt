-- Every request: what is tested first, and which rule serves it. Assumes nothing.
use Rattle.std.specs.Prelude.{Bool, true, false, cond, not, ◌||◌, Some, None, Option, ◌==◌}
use Rattle.reader.specs.declared.ids.NodeId.{NodeId}
use Rattle.reader.specs.declared.ids.Eui64.{Eui64}
use Rattle.reader.specs.declared.refusal.Refusal.TheVariants.{RequestTypeNotSupported, Unspecified}
use Rattle.reader.specs.declared.request.Request.{Request}
use Rattle.reader.specs.declared.request.Function.{Function}
use Rattle.reader.specs.declared.request.Function.TheVariants.{Login, QueryLogins, Reconnect, NodeHandle, Logout, Unknown}
use Rattle.rules.specs.Handles.{query_outcome, handle_outcome}
use Rattle.rules.specs.Logins.{login_outcome, update_outcome, reconnect_outcome, logout_outcome}
use Rattle.rules.specs.Scenes.{Scene, Outcome, refuse}

abbrev pub unknown : Function → Bool
unknown Login = false
unknown QueryLogins = false
unknown Reconnect = false
unknown NodeHandle = false
unknown Logout = false
unknown (Unknown n) = true

-- by the function, from the station with this EUI-64
abbrev pub by_function : Function → Scene → NodeId → Eui64 → Request → Outcome
by_function Login s source eui q = cond q.update (update_outcome s source q) (login_outcome s source eui q)
by_function QueryLogins s source eui q = query_outcome s q
by_function Reconnect s source eui q = reconnect_outcome s source eui q
by_function NodeHandle s source eui q = handle_outcome s source q
by_function Logout s source eui q = logout_outcome s source q
by_function (Unknown n) s source eui q = refuse RequestTypeNotSupported

abbrev pub from : Option Eui64 → Scene → NodeId → Request → Outcome
from None s source q = refuse (Unspecified source)
from (Some eui) s source q = by_function q.function s source eui q

-- the format is not 0, or the function is unknown
abbrev pub unsupported : Request → Bool
unsupported q = not (q.rq_fmt == 0) || unknown q.function

-- format and function first, then who is at the source ID
abbrev pub outcome : Scene → NodeId → Request → Outcome
outcome s source q = cond (unsupported q) (refuse RequestTypeNotSupported) (from (s.shows source) s source q)
