-- The number, the value and the layer of each refusal. Assumes nothing.
use Rattle.std.specs.Prelude.{ℕ}
use Rattle.reader.specs.declared.refusal.Refusal.{Refusal}
use Rattle.reader.specs.declared.refusal.Refusal.TheVariants.{RequestTypeNotSupported, AccessDenied, LogicalUnitNotSupported, ResourcesUnavailable, FunctionRejected, LoginIdNotRecognized, UnknownEui64, NodeHandleNotRecognized, Unspecified, RequestLength, ResponseArea, StatusArea, OrbAddress, OutOfRange, NotedElsewhere, TableFull, MalformedRecord, JournalTooLong}
use Rattle.reader.specs.declared.refusal.Layer.{Layer}
use Rattle.reader.specs.declared.refusal.Layer.TheVariants.{Areas, Request, Bus, Access, Tables, Notes, Journal}

abbrev pub number : Refusal → ℕ
number RequestTypeNotSupported = 1
number (AccessDenied unit) = 4
number LogicalUnitNotSupported = 5
number (ResourcesUnavailable in_use) = 8
number FunctionRejected = 9
number LoginIdNotRecognized = 10
number UnknownEui64 = 13
number NodeHandleNotRecognized = 14
number (Unspecified source) = 255
number (RequestLength bytes) = 32
number (ResponseArea bytes) = 33
number (StatusArea bytes) = 34
number (OrbAddress address) = 35
number (OutOfRange noted) = 36
number (NotedElsewhere node) = 37
number (TableFull size) = 38
number (MalformedRecord place) = 39
number (JournalTooLong bytes) = 40

-- where the fault lies in the request (its quadlet at byte 16 or 20), or what was found instead
abbrev pub value : Refusal → ℕ
value RequestTypeNotSupported = 16
value (AccessDenied unit) = unit
value LogicalUnitNotSupported = 16
value (ResourcesUnavailable in_use) = in_use
value FunctionRejected = 16
value LoginIdNotRecognized = 16
value UnknownEui64 = 20
value NodeHandleNotRecognized = 20
value (Unspecified source) = source.0
value (RequestLength bytes) = bytes
value (ResponseArea bytes) = bytes
value (StatusArea bytes) = bytes
value (OrbAddress address) = address
value (OutOfRange noted) = noted
value (NotedElsewhere node) = node.0
value (TableFull size) = size
value (MalformedRecord place) = place
value (JournalTooLong bytes) = bytes

abbrev pub layer : Refusal → Layer
layer RequestTypeNotSupported = Request
layer (AccessDenied unit) = Access
layer LogicalUnitNotSupported = Request
layer (ResourcesUnavailable in_use) = Tables
layer FunctionRejected = Request
layer LoginIdNotRecognized = Request
layer UnknownEui64 = Request
layer NodeHandleNotRecognized = Request
layer (Unspecified source) = Bus
layer (RequestLength bytes) = Areas
layer (ResponseArea bytes) = Areas
layer (StatusArea bytes) = Areas
layer (OrbAddress address) = Areas
layer (OutOfRange noted) = Notes
layer (NotedElsewhere node) = Notes
layer (TableFull size) = Notes
layer (MalformedRecord place) = Journal
layer (JournalTooLong bytes) = Journal
