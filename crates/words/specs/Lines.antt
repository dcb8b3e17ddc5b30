-- Journals in words. Assumes nothing.
use Rattle.std.specs.Prelude.{◌≡◌, ℕ, ◌+◌, Bool, cond, List, [], ◌∷◌, ◌++◌, length, Some, None, Ok, Err, codes, decimal, Option, Result, nat_lt}
use Rattle.reader.specs.Ids.{none_eui}
use Rattle.reader.specs.Requests.{request_read}
use Rattle.reader.specs.Texts.{id_text, eui_text, refusal_text}
use Rattle.reader.specs.declared.ids.NodeId.{NodeId}
use Rattle.reader.specs.declared.ids.Eui64.{Eui64}
use Rattle.reader.specs.declared.refusal.Refusal.{Refusal}
use Rattle.reader.specs.declared.request.Request.{Request}
use Rattle.journal.specs.Entries.{Entry, request, bus_reset, net_update, gap, tick, access_change, bus_note, pair_note, stop_note}
use Rattle.journal.specs.Journals.{Reads, ending}
use Rattle.words.specs.Requests.{request_text}

-- blanks that bring a count to five places
abbrev pub pad_text : ℕ → List ℕ
pad_text n = cond (nat_lt n 10) (codes "    ") (cond (nat_lt n 100) (codes "   ") (cond (nat_lt n 1000) (codes "  ") (cond (nat_lt n 10000) (codes " ") [])))

abbrev pub in_text : Bool → List ℕ
in_text put = cond put (codes "in") (codes "out")

-- what a request asks for; no ORB of a record has a wrong length
abbrev pub orb_text : Result Request Refusal → List ℕ
orb_text (Ok q) = request_text q
orb_text (Err refusal) = refusal_text refusal

abbrev pub asked_text : NodeId → ℕ → List ℕ → List ℕ
asked_text source address orb =
    codes "request        from " ++ (id_text source ++ (codes ", ORB " ++ (eui_text (record { 0 = address }) ++ (codes ": " ++ orb_text (request_read orb)))))

abbrev pub bus_note_text : NodeId → Eui64 → List ℕ
bus_note_text node e =
    cond (none_eui e) (codes "bus note       " ++ (id_text node ++ codes " shows nobody")) (codes "bus note       " ++ (id_text node ++ (codes " shows " ++ eui_text e)))

abbrev pub entry_text : Entry → List ℕ
entry_text (request source address orb) = asked_text source address orb
entry_text bus_reset = codes "bus reset"
entry_text net_update = codes "net update"
entry_text gap = codes "gap"
entry_text tick = codes "tick"
entry_text access_change = codes "access change"
entry_text (bus_note node e) = bus_note_text node e
entry_text (pair_note e unit admitted) = codes "pair note      " ++ (eui_text e ++ (codes ", unit " ++ (decimal unit ++ (codes ", " ++ in_text admitted))))
entry_text (stop_note e stopped) = codes "stop note      " ++ (eui_text e ++ (codes ", " ++ in_text stopped))

-- the count, what it is, and a line feed
abbrev pub line_text : ℕ → List ℕ → List ℕ
line_text n words = pad_text n ++ (decimal n ++ (codes "  " ++ (words ++ codes "\n")))

-- a line for each entry, counted from n on
abbrev pub lines_text : ℕ → List Entry → List ℕ
lines_text n [] = []
lines_text n (e ∷ es) = line_text n (entry_text e) ++ lines_text (n + 1) es

-- a line that says at which count reading stopped, and why
abbrev pub ending_text : Option (ℕ × Refusal) → List ℕ
ending_text None = []
ending_text (Some p) = line_text p.0 (codes "refused        " ++ refusal_text p.1)

-- the same after n records
abbrev pub end_text : ℕ → Option Refusal → List ℕ
end_text n refusal = ending_text (ending n refusal)

-- the words of some bytes: what was read, and why no more was
pub record Told (bytes text : List ℕ) : Type 0 where
  pub read : List Entry
  pub refusal : Option Refusal
  pub reads : Reads bytes read refusal
  pub words : text ≡ lines_text 1 read ++ end_text (length read) refusal
