-- What the C entry points return and fill in. Assumes nothing.
use Rattle.std.specs.Prelude.{ℕ, List, Ok, Err, Result}
use Rattle.reader.specs.Refusals.{number}
use Rattle.reader.specs.Requests.{request_read, function_number, hold_asked}
use Rattle.reader.specs.Blocks.{block_answer}
use Rattle.reader.specs.declared.request.Request.{Request}
use Rattle.reader.specs.declared.link.LinkRequest.{LinkRequest}
use Rattle.reader.specs.declared.refusal.Refusal.{Refusal}

-- 0, or the number of the refusal
abbrev pub number_of : {T : Type 0} → Result T Refusal → ℕ
number_of (Ok x) = 0
number_of (Err refusal) = number refusal

abbrev pub link_number : List ℕ → ℕ
link_number bytes = number_of (request_read bytes)

abbrev pub block_number : List ℕ → ℕ
block_number area = number_of (block_answer area)

-- the fields of a request, under C's names
abbrev pub link_fields : Request → LinkRequest
link_fields q =
    record {
      eui_64 = q.eui_64.0;
      status_fifo = q.status_fifo;
      unit_or_login_id = q.unit_or_login_id;
      node_or_handle = q.node_or_handle;
      response_length = q.response_length;
      rq_fmt = q.rq_fmt;
      reconnect = q.reconnect;
      function = function_number q.function;
      hold = hold_asked q.reconnect q.response_length;
      notify = q.notify;
      exclusive_or_allocate = q.exclusive_or_allocate;
      aware = q.aware;
      update = q.update;
    }

-- a request that is read replaces all fields, one that is refused none
abbrev pub filled : Result Request Refusal → LinkRequest → LinkRequest
filled (Ok q) before = link_fields q
filled (Err refusal) before = before

abbrev pub link_filled : List ℕ → LinkRequest → LinkRequest
link_filled bytes before = filled (request_read bytes) before
