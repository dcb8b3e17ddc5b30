-- A harness: a bus that always shows the same nodes. Assumes nothing.
use Rattle.std.specs.Prelude.{◌≡◌, ℕ, ◌+◌, ◌-◌, ◌^◌, cond, ◌&&◌, Some, None, Err, Option, nat_le, nat_lt}
use Rattle.reader.specs.declared.ids.NodeId.{NodeId}
use Rattle.reader.specs.declared.ids.Eui64.{Eui64}
use Rattle.reader.specs.declared.refusal.Refusal.{Refusal}
use Rattle.reader.specs.declared.refusal.Refusal.TheVariants.{OutOfRange}
use Rattle.bus.specs.Meaning.{BusModel}
use Rattle.bus.specs.Finding.{node_id}

-- base + k at FFC0h + k, for k below count
abbrev pub harness_shows : ℕ → ℕ → NodeId → Option Eui64
harness_shows base count i = cond (nat_le 0xFFC0 i.0 && nat_lt i.0 (0xFFC0 + count)) (Some (record { 0 = base + (i.0 - 0xFFC0) })) None

-- why there is no such harness: its count is not 1 to 63, or else its base is above 2^64 - 65
abbrev pub no_harness : ℕ → ℕ → Option Refusal
no_harness base count =
    cond (nat_le 1 count && nat_le count 63) (cond (nat_le base (2 ^ 64 - 65)) None (Some (OutOfRange base))) (Some (OutOfRange count))

-- a bus that is node FFC0h, never changes, and takes no note
abbrev pub fixed_model : {B : Type 0} → (B → NodeId → Option Eui64) → BusModel B
fixed_model shows = record {
  own = λ b. node_id 0xFFC0;
  shows = shows;
  Resets = λ b c. c ≡ b;
  Updates = λ b c. c ≡ b;
  Notes = λ b i e a c. (a ≡ Err (OutOfRange i.0)) × (c ≡ b);
}
