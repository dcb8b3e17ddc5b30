-- Requests in words. Assumes nothing.
use Rattle.std.specs.Prelude.{ℕ, Bool, cond, List, [], ◌++◌, codes, decimal, ◌==◌}
use Rattle.reader.specs.Requests.{hold_asked}
use Rattle.reader.specs.Texts.{id_text, eui_text}
use Rattle.reader.specs.declared.request.Request.{Request}
use Rattle.reader.specs.declared.request.Function.{Function}
use Rattle.reader.specs.declared.request.Function.TheVariants.{Login, QueryLogins, Reconnect, NodeHandle, Logout, Unknown}

-- a word if it applies
abbrev pub also : Bool → List ℕ → List ℕ
also b word = cond b word []

-- a format is told only where it is not 0
abbrev pub format_text : ℕ → List ℕ
format_text n = cond (n == 0) [] (cond (n == 1) (codes ", format 1") (cond (n == 2) (codes ", format 2") (codes ", format 3")))

abbrev pub verb_text : Bool → List ℕ
verb_text update = cond update (codes "update login") (codes "login to unit")

unfoldable pub login_text : Request → List ℕ
login_text q =
    verb_text q.update
    ++ (codes " "
    ++ (decimal q.unit_or_login_id
    ++ (also q.exclusive_or_allocate (codes ", exclusive")
    ++ (also q.aware (codes ", aware")
    ++ (codes ", hold "
    ++ (decimal (hold_asked q.reconnect q.response_length)
    ++ (codes ", length " ++ decimal q.response_length)))))))

abbrev pub allocate_text : Request → List ℕ
allocate_text q =
    codes "allocate a node handle to login "
    ++ (decimal q.unit_or_login_id
    ++ (codes ", "
    ++ (eui_text q.eui_64
    ++ (codes " at " ++ (id_text (record { 0 = q.node_or_handle }) ++ (codes ", length " ++ decimal q.response_length))))))

unfoldable pub handle_text : Request → List ℕ
handle_text q =
    cond q.exclusive_or_allocate (allocate_text q) (
    cond (q.node_or_handle == 0xFFFF) (
    codes "release all node handles but its own of login " ++ decimal q.unit_or_login_id
    ) (codes "release node handle " ++ (decimal q.node_or_handle ++ (codes " of login " ++ decimal q.unit_or_login_id)))
    )

unfoldable pub function_text : Function → Request → List ℕ
function_text Login q = login_text q
function_text QueryLogins q = codes "query the logins of unit " ++ (decimal q.unit_or_login_id ++ (codes ", length " ++ decimal q.response_length))
function_text Reconnect q = codes "reconnect login " ++ decimal q.unit_or_login_id
function_text NodeHandle q = handle_text q
function_text Logout q = codes "log out login " ++ decimal q.unit_or_login_id
function_text (Unknown n) q = codes "unknown function " ++ decimal n

-- what is asked, then what every request has
unfoldable pub request_text : Request → List ℕ
request_text q =
    function_text q.function q
    ++ (format_text q.rq_fmt ++ (also q.notify (codes ", notify") ++ (codes ", FIFO " ++ eui_text (record { 0 = q.status_fifo }))))
