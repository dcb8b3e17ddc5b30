-- Node IDs, EUI-64s and refusals as text. Assumes nothing.
use Rattle.std.specs.Prelude.{ℕ, ◌/◌, ◌%◌, ◌^◌, true, List, [], ◌∷◌, ◌++◌, codes, decimal}
use Rattle.std.specs.Fmt.{digit_glyph}
use Rattle.reader.specs.Refusals.{number, value}
use Rattle.reader.specs.declared.refusal.Refusal.{Refusal}
use Rattle.reader.specs.declared.refusal.Refusal.TheVariants.{RequestTypeNotSupported, AccessDenied, LogicalUnitNotSupported, ResourcesUnavailable, FunctionRejected, LoginIdNotRecognized, UnknownEui64, NodeHandleNotRecognized, Unspecified, RequestLength, ResponseArea, StatusArea, OrbAddress, OutOfRange, NotedElsewhere, TableFull, MalformedRecord, JournalTooLong}
use Rattle.reader.specs.declared.ids.NodeId.{NodeId}
use Rattle.reader.specs.declared.ids.Eui64.{Eui64}

-- eight bits as two hexadecimal capitals
unfoldable pub hex2 : ℕ → List ℕ
hex2 n = digit_glyph true (n / 16) ∷ digit_glyph true (n % 16) ∷ []

-- sixteen bits as four hexadecimal capitals
unfoldable pub hex4 : ℕ → List ℕ
hex4 n = digit_glyph true (n / 4096) ∷ digit_glyph true (n / 256 % 16) ∷ digit_glyph true (n / 16 % 16) ∷ digit_glyph true (n % 16) ∷ []

abbrev pub id_text : NodeId → List ℕ
id_text n = hex4 n.0

unfoldable pub eui_text : Eui64 → List ℕ
eui_text e = hex4 (e.0 / 2 ^ 48) ++ (hex4 (e.0 / 2 ^ 32 % 2 ^ 16) ++ (hex4 (e.0 / 2 ^ 16 % 2 ^ 16) ++ hex4 (e.0 % 2 ^ 16)))

-- the name of a refusal, in the standard's words where it has them, and what its value tells
abbrev pub refusal_words : Refusal → List ℕ × List ℕ
refusal_words RequestTypeNotSupported = (codes "request type not supported", codes "unknown format or function; request byte")
refusal_words (AccessDenied unit) = (codes "access denied", codes "not admitted, or claimed by another; unit")
refusal_words LogicalUnitNotSupported = (codes "logical unit not supported", codes "no such unit; request byte")
refusal_words (ResourcesUnavailable in_use) = (codes "resources unavailable", codes "no free place; in use")
refusal_words FunctionRejected = (codes "function rejected", codes "not allowed here, or too short a response; request byte")
refusal_words LoginIdNotRecognized = (codes "login ID not recognized", codes "no such login of this station; request byte")
refusal_words UnknownEui64 = (codes "unknown EUI-64", codes "the bus does not show it at that node; request byte")
refusal_words NodeHandleNotRecognized = (codes "node handle not recognized", codes "no such handle of this login; request byte")
refusal_words (Unspecified source) = (codes "unspecified error", codes "nobody is at node")
refusal_words (RequestLength bytes) = (codes "wrong request length", codes "32 bytes are needed; given")
refusal_words (ResponseArea bytes) = (codes "response area too short", codes "196 bytes are needed; given")
refusal_words (StatusArea bytes) = (codes "status area too short", codes "8 bytes are needed; given")
refusal_words (OrbAddress address) = (codes "wrong ORB address", codes "above FFFFFFFFFFFC or no multiple of 4; address")
refusal_words (OutOfRange noted) = (codes "out of range", codes "it cannot be noted; value")
refusal_words (NotedElsewhere node) = (codes "noted elsewhere", codes "that station is noted at node")
refusal_words (TableFull size) = (codes "table full", codes "all places are taken; size")
refusal_words (MalformedRecord place) = (codes "malformed record", codes "none begins at byte")
refusal_words (JournalTooLong bytes) = (codes "journal too long", codes "more bytes than there is room for; length")

-- its value: IDs and addresses as they are written, other numbers in decimal
abbrev pub value_text : Refusal → List ℕ
value_text RequestTypeNotSupported = decimal (value RequestTypeNotSupported)
value_text (AccessDenied unit) = decimal (value (AccessDenied unit))
value_text LogicalUnitNotSupported = decimal (value LogicalUnitNotSupported)
value_text (ResourcesUnavailable in_use) = decimal (value (ResourcesUnavailable in_use))
value_text FunctionRejected = decimal (value FunctionRejected)
value_text LoginIdNotRecognized = decimal (value LoginIdNotRecognized)
value_text UnknownEui64 = decimal (value UnknownEui64)
value_text NodeHandleNotRecognized = decimal (value NodeHandleNotRecognized)
value_text (Unspecified source) = id_text source
value_text (RequestLength bytes) = decimal (value (RequestLength bytes))
value_text (ResponseArea bytes) = decimal (value (ResponseArea bytes))
value_text (StatusArea bytes) = decimal (value (StatusArea bytes))
value_text (OrbAddress address) = eui_text (record { 0 = address })
value_text (OutOfRange noted) = decimal (value (OutOfRange noted))
value_text (NotedElsewhere node) = id_text node
value_text (TableFull size) = decimal (value (TableFull size))
value_text (MalformedRecord place) = decimal (value (MalformedRecord place))
value_text (JournalTooLong bytes) = decimal (value (JournalTooLong bytes))

-- a whole sentence
abbrev pub refusal_text : Refusal → List ℕ
refusal_text r =
    (refusal_words r).0 ++ (codes " (" ++ (decimal (number r) ++ (codes "): " ++ ((refusal_words r).1 ++ (codes " " ++ value_text r)))))
