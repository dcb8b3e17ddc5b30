-- Whom a stop list with one stop, on a pair table with one pair, admits. Assumes nothing.
use Rattle.std.proofs.Common.{◌≡◌, ℕ, Bool, true, not, ◌&&◌, leb, ap, ◌∙◌, arith}
use Rattle.std.proofs.lemmas.Bool.Decides.{nat_tests}
use Rattle.reader.specs.declared.ids.Eui64.{Eui64}
use Rattle.reader.specs.Ids.{none_eui}
use Rattle.notes.specs.Answers.{Answer}
use Rattle.access.specs.declared.pairs.PairNote.{PairNote}
use Rattle.access.specs.declared.pairs.PairTable.{PairTable}
use Rattle.access.specs.declared.stops.StopList.{StopList}
use Rattle.access.specs.declared.stops.StopNote.TheVariants.{Stop, Below}
use Rattle.access.specs.Pairs.{same_pair, noted_pair, pair_tables, new_pairs, pair_settled, pair_noted, pair_admits, pair_model}
use Rattle.access.specs.Stops.{same_eui, stop_tables, new_stops, stop_settled, stop_noted, stop_admits, is_stopped, stop_model}
use Rattle.access_laws.specs.Changes.{AdmittedAfterChange, first_admitted}

-- who is stopped when the first stop comes true
one_stop : (stopped e : Eui64) → is_stopped (stop_settled (stop_noted new_stops stopped true)) e ≡ (not (none_eui stopped) && same_eui stopped e)
one_stop stopped e = grind (arith, nat_tests)

-- who is admitted when the first note of a pair comes true
one_pair : (n : PairNote) (e : Eui64) (u : ℕ)
    → pair_admits (pair_settled (pair_noted new_pairs n)) e u
    ≡ (n.admitted && same_pair (noted_pair n) (record { eui = e; unit = u }) && leb n.unit 3 && not (none_eui n.eui_64))
one_pair n e u = grind (arith, nat_tests)

one_of_each : (n : PairNote) (stopped e : Eui64) (u : ℕ)
    → stop_admits (stop_settled (stop_noted new_stops stopped true)) (pair_admits (pair_settled (pair_noted new_pairs n))) e u
    ≡ first_admitted n stopped e u
one_of_each n stopped e u =
    let s = one_stop stopped e in
    let p = one_pair n e u in
    grind (arith, nat_tests)

module _ (n : PairNote) (stopped e : Eui64) (u : ℕ) (answer : Answer) (admitted : Bool) (new one after : StopList PairTable) (empty : stop_tables new ≡ new_stops) (below : pair_tables new.below ≡ new_pairs)
    (stop : (stop_model pair_model).Notes new (Stop stopped true) answer one) (s : AdmittedAfterChange (stop_model pair_model) one (Below n) e u admitted after) where
  stops : stop_tables after ≡ stop_settled (stop_noted new_stops stopped true)
  stops = s.changed.1 ∙ ap stop_settled (s.noted.1 ∙ stop.2 ∙ ap (λ t. stop_noted t stopped true) empty)

  pairs : pair_tables after.below ≡ pair_settled (pair_noted new_pairs n)
  pairs = s.changed.0 ∙ ap pair_settled (s.noted.0.1 ∙ ap (λ t. pair_noted t n) (ap pair_tables stop.0 ∙ below))

  pub admitted_first : admitted ≡ first_admitted n stopped e u
  admitted_first =
      s.admits
      ∙ ap (λ t. stop_admits t (pair_admits (pair_tables after.below)) e u) stops
      ∙ ap (λ t. stop_admits (stop_settled (stop_noted new_stops stopped true)) (pair_admits t) e u) pairs
      ∙ one_of_each n stopped e u
