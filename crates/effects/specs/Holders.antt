-- The holders and the node handles in words. Assumes nothing.
use Rattle.std.specs.Prelude.{ℕ, ◌+◌, Bool, true, cond, List, [], ◌∷◌, ◌++◌, codes, decimal}
use Rattle.reader.specs.Texts.{id_text, eui_text}
use Rattle.tables.specs.Books.{Book}
use Rattle.logins.specs.Logins.{holder, reserved}
use Rattle.logins.specs.Rows.{in_use}
use Rattle.logins.specs.declared.rows.Handle.{Handle}
use Rattle.logins.specs.declared.rows.LoginRow.{LoginRow}
use Rattle.words.specs.Requests.{also}
use Rattle.effects.specs.Drawn.{one_or_more}
use Rattle.effects.specs.Lists.{listed}

-- where its owner is, or for how long it is kept
unfoldable pub state_text : LoginRow → List ℕ
state_text r =
    cond (reserved r) (
    codes "reserved with " ++ (decimal r.ticks_left ++ one_or_more r.ticks_left (codes " tick left") (codes " ticks left"))
    ) (codes "active at " ++ id_text r.owner_id)

-- how it is held
unfoldable pub claim_text : LoginRow → List ℕ
claim_text r = also r.exclusive (codes ", exclusive") ++ (also r.aware (codes ", aware") ++ (codes ", hold " ++ decimal r.hold))

-- a holder by its login ID
abbrev pub holder_line : Bool → ℕ → LoginRow → List ℕ
holder_line first slot r =
    codes "    login "
    ++ (decimal (slot + 1)
    ++ (codes ": unit "
    ++ (decimal r.unit ++ (codes ", " ++ (state_text r ++ (codes ", owner " ++ (eui_text r.owner_eui_64 ++ (claim_text r ++ codes "\n"))))))))

-- a node handle by its number
abbrev pub handle_line : ℕ → Handle → List ℕ
handle_line place h =
    codes "    node handle "
    ++ (decimal (place + 1)
    ++ (codes " of login "
    ++ (decimal h.login
    ++ (codes ": " ++ (eui_text h.eui_64 ++ (codes " at " ++ (id_text h.node ++ (also h.own (codes ", own") ++ codes "\n"))))))))

abbrev pub no_holder : Bool → List ℕ
no_holder first = cond first (codes "    no holder\n") []

abbrev pub holder_lines : List LoginRow → List ℕ
holder_lines rows = listed holder holder_line no_holder true 0 rows

-- those in use from a place on
abbrev pub handle_lines : ℕ → List Handle → List ℕ
handle_lines place [] = []
handle_lines place (h ∷ hs) = cond (in_use h) (handle_line place h ++ handle_lines (place + 1) hs) (handle_lines (place + 1) hs)

-- a line for each holder and for each handle in use
abbrev pub tables_text : Book → List ℕ
tables_text b = holder_lines b.logins ++ handle_lines 0 b.handles
