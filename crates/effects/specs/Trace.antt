-- The line of a trace: all that a record did, for programs. Assumes nothing.
use Rattle.std.specs.Prelude.{ℕ, ◌+◌, Bool, true, cond, List, [], ◌∷◌, ◌++◌, length, Some, None, codes, decimal, Option, ◌==◌}
use Rattle.reader.specs.Refusals.{number, value, layer}
use Rattle.reader.specs.Texts.{hex2, id_text, eui_text}
use Rattle.reader.specs.declared.refusal.Layer.{Layer}
use Rattle.reader.specs.declared.refusal.Layer.TheVariants.{Areas, Request, Bus, Access, Tables, Notes, Journal}
use Rattle.reader.specs.declared.refusal.Refusal.{Refusal}
use Rattle.tables.specs.Books.{Book}
use Rattle.logins.specs.Logins.{holder}
use Rattle.logins.specs.Rows.{in_use}
use Rattle.logins.specs.declared.rows.Handle.{Handle}
use Rattle.logins.specs.declared.rows.LoginRow.{LoginRow}
use Rattle.effects.specs.Lists.{listed}

-- who of the agent refused; notes and journals are refused before it
abbrev pub layer_text : Layer → List ℕ
layer_text Areas = codes "areas"
layer_text Request = codes "request"
layer_text Bus = codes "bus"
layer_text Access = codes "access"
layer_text Tables = codes "tables"
layer_text Notes = codes "-"
layer_text Journal = codes "-"

-- number, layer and value of what was drawn: 0 where it was granted
abbrev pub drew_text : Option Refusal → List ℕ
drew_text None = codes "0 - -"
drew_text (Some r) = decimal (number r) ++ (codes " " ++ (layer_text (layer r) ++ (codes " " ++ decimal (value r))))

abbrev pub hex_bytes : List ℕ → List ℕ
hex_bytes [] = []
hex_bytes (b ∷ bs) = hex2 b ++ hex_bytes bs

-- bytes that were stored; a hyphen for none
abbrev pub stored_text : List ℕ → List ℕ
stored_text bs = cond (length bs == 0) (codes "-") (hex_bytes bs)

abbrev pub mark_text : Bool → List ℕ
mark_text set = cond set (codes "1") (codes "0")

-- unit, owner ID, EUI-64 and status_FIFO
unfoldable pub owner_text : LoginRow → List ℕ
owner_text r =
    decimal r.unit
    ++ (codes ":" ++ (id_text r.owner_id ++ (codes ":" ++ (eui_text r.owner_eui_64 ++ (codes ":" ++ eui_text (record { 0 = r.status_fifo }))))))

-- exclusive, aware, hold and ticks left
unfoldable pub terms_text : LoginRow → List ℕ
terms_text r =
    mark_text r.exclusive
    ++ (codes ":" ++ (mark_text r.aware ++ (codes ":" ++ (decimal r.hold ++ (codes ":" ++ decimal r.ticks_left)))))

-- a comma before all but the first
abbrev pub comma : Bool → List ℕ
comma first = cond first [] (codes ",")

-- where there is none
abbrev pub hyphen : Bool → List ℕ
hyphen first = cond first (codes "-") []

abbrev pub holder_text : Bool → ℕ → LoginRow → List ℕ
holder_text first slot r = comma first ++ (decimal slot ++ (codes ":" ++ (owner_text r ++ (codes ":" ++ terms_text r))))

-- number, login ID, EUI-64, node ID and whether it is the login's own
abbrev pub node_handle_text : Bool → ℕ → Handle → List ℕ
node_handle_text first place h =
    comma first
    ++ (decimal (place + 1)
    ++ (codes ":" ++ (decimal h.login ++ (codes ":" ++ (eui_text h.eui_64 ++ (codes ":" ++ (id_text h.node ++ (codes ":" ++ mark_text h.own))))))))

abbrev pub holders_text : List LoginRow → List ℕ
holders_text rows = listed holder holder_text hyphen true 0 rows

abbrev pub handles_text : List Handle → List ℕ
handles_text handles = listed in_use node_handle_text hyphen true 0 handles

-- whether ticks count, where the next searches begin, the holders and the handles
abbrev pub book_text : Book → List ℕ
book_text b =
    mark_text b.ticking
    ++ (codes " "
    ++ (decimal b.next_login
    ++ (codes " " ++ (decimal b.next_handle ++ (codes " " ++ (holders_text b.logins ++ (codes " " ++ handles_text b.handles)))))))

-- the count, what was drawn, the response, the status block, and the tables
abbrev pub trace_text : ℕ → Option Refusal → List ℕ → List ℕ → Book → List ℕ
trace_text count refusal response status book =
    decimal count
    ++ (codes " "
    ++ (drew_text refusal
    ++ (codes " " ++ (stored_text response ++ (codes " " ++ (stored_text status ++ (codes " " ++ (book_text book ++ codes "\n"))))))))
