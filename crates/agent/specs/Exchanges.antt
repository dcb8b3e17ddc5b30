-- One exchange: what a signal, an answer and a close make of it, and of the areas. Assumes nothing.
use Rattle.std.specs.Prelude.{ℕ, ◌+◌, ◌%◌, ◌^◌, Bool, cond, not, ◌&&◌, ◌||◌, List, length, Ok, Err, Result, ◌==◌, nat_le, nat_lt}
use Rattle.reader.specs.Blocks.{block_put}
use Rattle.reader.specs.Refusals.{number}
use Rattle.reader.specs.declared.ids.NodeId.{NodeId}
use Rattle.reader.specs.declared.refusal.Refusal.{Refusal}
use Rattle.reader.specs.declared.refusal.Refusal.TheVariants.{OrbAddress, StatusArea}
use Rattle.reader.specs.declared.request.Request.{Request}
use Rattle.agent.specs.declared.exchange.Idle.{Idle}
use Rattle.agent.specs.declared.exchange.Signalled.{Signalled}
use Rattle.agent.specs.declared.exchange.Answered.{Answered}

-- an ORB stands at a multiple of 4, at FFFFFFFFFFFCh at most
abbrev pub orb_fits : ℕ → Bool
orb_fits address = nat_le address 0xFFFF_FFFF_FFFC && address % 4 == 0

-- a signal takes the source ID and the ORB address; one that does not fit is refused, and the exchange stays idle
abbrev pub after_signal : Idle → NodeId → ℕ → Result Signalled (Refusal × Idle)
after_signal i source address =
    cond (orb_fits address) (Ok (record { closed = i.closed; source = source; orb_address = address })) (Err (OrbAddress address, i))

-- 0, or the number of the refusal
abbrev pub status_of : {T : Type 0} → Result T Refusal → ℕ
status_of (Ok n) = 0
status_of (Err refusal) = number refusal

-- an exchange whose request was served, with its status
abbrev pub answered_with : Signalled → Request → Result ℕ Refusal → Answered
answered_with s q served =
    record { closed = s.closed; orb_address = s.orb_address; status = status_of served; notify = q.notify }

-- a status block is written where the request asks for it, or was refused
abbrev pub tells : Answered → Bool
tells a = a.notify || not (a.status == 0)

-- too small a status area is refused, with its length, and the exchange stays answered
abbrev pub after_close : Answered → List ℕ → Result Idle (Refusal × Answered)
after_close a area = cond (nat_lt (length area) 8) (Err (StatusArea (length area), a)) (Ok (record { closed = (a.closed + 1) % 2 ^ 64 }))

abbrev pub closed_area : Answered → List ℕ → List ℕ
closed_area a area = cond (tells a) (block_put area a.status a.orb_address) area
