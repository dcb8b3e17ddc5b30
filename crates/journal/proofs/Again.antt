-- Bytes of entries read back as these entries. Assumes nothing.
use Rattle.std.proofs.Common.{◌≡◌, ℕ, ◌≤◌, Bool, true, false, cond, leb, List, [], ◌∷◌, ◌++◌, length, take, drop, Some, None, Ok, Err, Option, sym, refl, ap, ◌∙◌, inl, inr, arith}
use Rattle.std.proofs.lemmas.List.{append_assoc, append-nil, length-append, take_at}
use Rattle.std.proofs.lemmas.Bool.{cond-true, leb-true, and_parts}
use Rattle.reader.specs.declared.refusal.Refusal.{Refusal}
use Rattle.reader.specs.declared.refusal.Refusal.TheVariants.{JournalTooLong}
use Rattle.journal.specs.Entries.{Entry, entry_code, journal_code, NoEntry}
use Rattle.journal.specs.Journals.{AllWithin, Reads, fits, written_answer, written_area, longest_journal}
use Rattle.journal.specs.Reading.{entry_at}
use Rattle.journal.specs.Trips.{ReadBack}
use Rattle.journal.proofs.Entries.{entry_absent, entry_unique}
use Rattle.journal.proofs.Journals.{entry_some}

-- where no entry follows the second, the two are the same
pub same_entries : (es fs : List Entry) (rest : List ℕ) → AllWithin es → AllWithin fs → NoEntry rest → journal_code es ≡ journal_code fs ++ rest → (fs ≡ es) × (length rest ≡ 0)
same_entries [] [] rest w v none q = (refl, ap length (sym q))
same_entries [] (f ∷ fs) rest w v none q =
    absurd (omega (arith, ap length q, length-append (entry_code f ++ journal_code fs) rest, length-append (entry_code f) (journal_code fs), entry_some f))
same_entries (e ∷ es) [] rest w v none q = absurd (none e (journal_code es) (record { front = sym q; within = w.0 }))
same_entries (e ∷ es) (f ∷ fs) rest w v none q =
    let u = entry_unique (journal_code (e ∷ es)) e f (journal_code es) (journal_code fs ++ rest) (record { front = refl; within = w.0 })
    (record { front = q ∙ append_assoc (entry_code f) (journal_code fs) rest; within = v.0 }) in
    let i = same_entries es fs rest w.1 v.1 none u.1 in
    ((λ j. sym u.0 j ∷ i.0 j), i.1)

nothing : NoEntry []
unfolding entry_at
nothing = entry_absent [] refl

module _ (es : List Entry) (area bs : List ℕ) (held : fits es area ≡ true) (is : bs ≡ journal_code es) (w : AllWithin es) (short : length (journal_code es) ≤ longest_journal) where
  told : (back : List Entry) (refusal : Option Refusal) → back ≡ es → refusal ≡ None → ReadBack es area back refusal
  told back refusal p q =
      record {
        same = p ∙ sym (cond-true (fits es area) es [] held);
        refused = q ∙ sym (cond-true (fits es area) None (Some (JournalTooLong (length (journal_code es)))) held);
      }

  pub read_again : (back : List Entry) (refusal : Option Refusal) → Reads bs back refusal → ReadBack es area back refusal
  read_again back None r =
      told back None (same_entries es back [] w r.within nothing (sym is ∙ r.front ∙ sym (append-nil (journal_code back)))).0 refl
  read_again back (Some refusal) (inl r) =
      let s = same_entries es back r.rest w r.within r.absent (sym is ∙ r.front) in absurd (omega (arith, s.1, r.left))
  read_again back (Some refusal) (inr r) = absurd (omega (arith, r.long, ap length is))

-- an answer Ok says that the journal fitted, and its length
pub record Held (es : List Entry) (area : List ℕ) (end : ℕ) : Type 0 where
  pub held : fits es area ≡ true
  pub short : length (journal_code es) ≤ longest_journal
  pub end_is : end ≡ length (journal_code es)

pub answered : (es : List Entry) (area : List ℕ) (end : ℕ) → Ok end ≡ written_answer es area → Held es area end
answered es area end q = go (fits es area) refl q where
  go : (b : Bool) → fits es area ≡ b → Ok end ≡ cond b (Ok (length (journal_code es))) (Err (JournalTooLong (length (journal_code es)))) → Held es area end
  go true e q =
      record {
        held = e;
        short = leb-true (length (journal_code es)) longest_journal (and_parts (leb (length (journal_code es)) longest_journal) (leb (length (journal_code es)) (length area)) e).0;
        end_is = cc;
      }
  go false e q = absurd (let z : ◌≡◌ {A = ℕ} 0 1 = cc in omega arith)

-- the bytes that were written, and no others
pub front_is : (es : List Entry) (area after : List ℕ) (end cut : ℕ) → Held es area end → after ≡ written_area es area → cut ≡ end → take cut after ≡ journal_code es
front_is es area after end cut h q e =
    let n = length (journal_code es) in
    let a : after ≡ journal_code es ++ drop n area = q ∙ cond-true (fits es area) (journal_code es ++ drop n area) area h.held in
    ap (take cut) a ∙ take_at (journal_code es) (drop n area) cut (sym (e ∙ h.end_is))
