-- What the 32 bytes of a request say, and the hold that it asks for. Assumes nothing.
use Rattle.std.specs.Prelude.{◌≡◌, ℕ, ◌+◌, ◌-◌, ◌^◌, ◌<◌, ◌≤◌, min, cond, List, length, Ok, Err, Result, ◌==◌, nat_lt}
use Rattle.reader.specs.Quadlets.{big2, big4, big8, bit, field}
use Rattle.reader.specs.declared.request.Request.{Request}
use Rattle.reader.specs.declared.request.Function.{Function}
use Rattle.reader.specs.declared.request.Function.TheVariants.{Login, QueryLogins, Reconnect, NodeHandle, Logout, Unknown}
use Rattle.reader.specs.declared.refusal.Refusal.{Refusal}
use Rattle.reader.specs.declared.refusal.Refusal.TheVariants.{RequestLength}

abbrev pub function_number : Function → ℕ
function_number Login = 0
function_number QueryLogins = 1
function_number Reconnect = 3
function_number NodeHandle = 5
function_number Logout = 7
function_number (Unknown n) = n

abbrev pub function_in : ℕ → Function
function_in n =
    cond (n == 0) Login (
    cond (n == 1) QueryLogins (
    cond (n == 3) Reconnect (cond (n == 5) NodeHandle (cond (n == 7) Logout (Unknown n)))
    )
    )

-- every field of 32 bytes; bytes 8 to 15 and bits 25 and 24 of the quadlet at 16 are not read
abbrev pub request_in : List ℕ → Request
request_in bs =
    record {
      eui_64 = record { 0 = big8 bs 0 };
      notify = bit (big4 bs 16) 31;
      rq_fmt = field (big4 bs 16) 29 2;
      exclusive_or_allocate = bit (big4 bs 16) 28;
      aware = bit (big4 bs 16) 27;
      update = bit (big4 bs 16) 26;
      reconnect = field (big4 bs 16) 20 4;
      function = function_in (field (big4 bs 16) 16 4);
      unit_or_login_id = field (big4 bs 16) 0 16;
      node_or_handle = big2 bs 20;
      response_length = big2 bs 22;
      status_fifo = big8 bs 24;
    }

-- any other length is refused, with that length
abbrev pub request_read : List ℕ → Result Request Refusal
request_read bs = cond (length bs == 32) (Ok (request_in bs)) (Err (RequestLength (length bs)))

-- 2 ^ reconnect - 1 ticks, 255 at most, and none where the response has no room to tell it
abbrev pub hold_asked : ℕ → ℕ → ℕ
hold_asked reconnect response = cond (nat_lt response 16) 0 (min (2 ^ reconnect - 1) 255)

-- a hold fits a byte, and one more than it is a power of two
pub record HoldLaw (reconnect response hold : ℕ) : Type 0 where
  pub fits : hold ≤ 255
  pub short : response < 16 → hold ≡ 0
  pub told : 16 ≤ response → hold + 1 ≡ min (2 ^ reconnect) 256
