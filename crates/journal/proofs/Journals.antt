-- One entry after another: what is read so far, and one entry more. Assumes nothing.
use Rattle.std.proofs.Common.{◌≡◌, ℕ, ◌+◌, ◌-◌, ◌<◌, ◌≤◌, List, [], ◌∷◌, ◌++◌, length, get_or, take, drop, sym, refl, ap, ◌∙◌, subst, arith}
use Rattle.std.proofs.lemmas.List.{append_assoc, append-nil, length-append, map-append, nil_from_length, take-append-drop, take_more}
use Rattle.journal.specs.Entries.{Entry, request, bus_reset, net_update, gap, tick, access_change, bus_note, pair_note, stop_note, entry, entries, entry_code, journal_code, Within, EntryAt, NoEntry}
use Rattle.journal.specs.Journals.{AllWithin, Whole, Broken, longest_journal}
use Rattle.journal.specs.Areas.{Room, Wrote}
use Rattle.journal.specs.declared.writing.Cursor.{Cursor}
use Rattle.journal.proofs.Writes.{room_first, room_then, wrote_then}
use Rattle.journal.specs.declared.record.Record.{Record}
use Rattle.reader.specs.declared.refusal.Refusal.TheVariants.{MalformedRecord}

pub entry_some : (e : Entry) → 1 ≤ length (entry_code e)
entry_some (request source address orb) = omega arith
entry_some bus_reset = omega arith
entry_some net_update = omega arith
entry_some gap = omega arith
entry_some tick = omega arith
entry_some access_change = omega arith
entry_some (bus_note node e) = omega arith
entry_some (pair_note e unit admitted) = omega arith
entry_some (stop_note e stopped) = omega arith

pub shorter : (bs : List ℕ) (e : Entry) (rest : List ℕ) → EntryAt bs e rest → length rest < length bs
shorter bs e rest a = omega (arith, entry_some e, length-append (entry_code e) rest, ap length a.front)

pub journal_append : (es fs : List Entry) → journal_code (es ++ fs) ≡ journal_code es ++ journal_code fs
journal_append [] fs = refl
journal_append (e ∷ es) fs =
    ap (λ (z : List ℕ). entry_code e ++ z) (journal_append es fs) ∙ sym (append_assoc (entry_code e) (journal_code es) (journal_code fs))

pub code_push : (es : List Entry) (e : Entry) → journal_code (es ++ e ∷ []) ≡ journal_code es ++ entry_code e
code_push es e = journal_append es (e ∷ []) ∙ ap (λ (z : List ℕ). journal_code es ++ z) (append-nil (entry_code e))

within_push : (es : List Entry) (e : Entry) → AllWithin es → Within e → AllWithin (es ++ e ∷ [])
within_push [] e w v = (v, tt)
within_push (x ∷ es) e w v = (w.0, within_push es e w.1 v)

-- one record more of a list
module _ (rs : List Record) (i : ℕ) (d : Record) (h : i < length rs) where
  entries_more : entries (take (i + 1) rs) ≡ entries (take i rs) ++ entry (get_or rs i d) ∷ []
  entries_more = ap entries (take_more rs i d h) ∙ map-append entry (take i rs) (get_or rs i d ∷ [])

  code_more_of : journal_code (entries (take (i + 1) rs)) ≡ journal_code (entries (take i rs)) ++ entry_code (entry (get_or rs i d))
  code_more_of = ap journal_code entries_more ∙ code_push (entries (take i rs)) (entry (get_or rs i d))

  length_more : length (journal_code (entries (take (i + 1) rs))) ≡ length (journal_code (entries (take i rs))) + length (entry_code (entry (get_or rs i d)))
  length_more = ap length code_more_of ∙ length-append (journal_code (entries (take i rs))) (entry_code (entry (get_or rs i d)))

  pub total_more : (t n : ℕ) → t ≡ length (journal_code (entries (take i rs))) → n ≡ length (entry_code (entry (get_or rs i d))) → t + n ≡ length (journal_code (entries (take (i + 1) rs)))
  total_more t n p q = omega (arith, length_more)

  -- what is written so far leaves room for the next record, if there is room for all
  module _ (one two : Cursor) (so_far : Wrote one two (journal_code (entries (take i rs)))) (start : one.at ≡ 0) (room : length (journal_code (entries rs)) ≤ length one.area.now) where
    room_for : Room one (journal_code (entries (take i rs)) ++ entry_code (entry (get_or rs i d)))
    room_for =
        let front = entries (take (i + 1) rs) in
        let back = entries (drop (i + 1) rs) in
        let split : journal_code front ++ journal_code back ≡ journal_code (entries rs) =
        sym (journal_append front back)
        ∙ ap journal_code (sym (map-append entry (take (i + 1) rs) (drop (i + 1) rs)))
        ∙ ap (λ (z : List Record). journal_code (entries z)) (take-append-drop (i + 1) rs) in
        subst (Room one) code_more_of (room_first one (journal_code front) (journal_code back) (subst (Room one) (sym split) (record { fits = omega (arith, start, room) })))

    pub room_left : Room two (entry_code (entry (get_or rs i d)))
    room_left = room_then one (journal_code (entries (take i rs))) (entry_code (entry (get_or rs i d))) room_for two so_far

    pub wrote_more : (three : Cursor) → Wrote two three (entry_code (entry (get_or rs i d))) → Wrote one three (journal_code (entries (take (i + 1) rs)))
    wrote_more three next =
        subst (Wrote one three) (sym code_more_of) (
        wrote_then one (journal_code (entries (take i rs))) (entry_code (entry (get_or rs i d))) room_for two so_far three next
        )

  pub within_more : AllWithin (entries (take i rs)) → Within (entry (get_or rs i d)) → AllWithin (entries (take (i + 1) rs))
  within_more w v = subst AllWithin (sym entries_more) (within_push (entries (take i rs)) (entry (get_or rs i d)) w v)

-- the entries so far, and the bytes that are left
pub record SoFar (bs : List ℕ) (es : List Entry) (rest : List ℕ) : Type 0 where
  pub front : bs ≡ journal_code es ++ rest
  pub within : AllWithin es

pub one_more : (bs : List ℕ) (rs ss : List Record) (r : Record) (rest after : List ℕ) → ss ≡ rs ++ r ∷ [] → SoFar bs (entries rs) rest → EntryAt rest (entry r) after → SoFar bs (entries ss) after
one_more bs rs ss r rest after q f a =
    let es = entries rs in
    let e = entry r in
    let grown : entries ss ≡ es ++ e ∷ [] = ap entries q ∙ map-append entry rs (r ∷ []) in
    let pushed : SoFar bs (es ++ e ∷ []) after = record {
      front = f.front ∙ ap (λ (z : List ℕ). journal_code es ++ z) a.front
          ∙ sym (append_assoc (journal_code es) (entry_code e) after)
          ∙ ap (λ (z : List ℕ). z ++ after) (sym (code_push es e));
      within = within_push es e f.within a.within;
    } in
    subst (λ (x : List Entry). SoFar bs x after) (sym grown) pushed

pub so_far_short : (bs : List ℕ) (es : List Entry) (rest : List ℕ) → SoFar bs es rest → length bs ≡ length (journal_code es) + length rest
so_far_short bs es rest f = ap length f.front ∙ length-append (journal_code es) rest

pub whole : (bs : List ℕ) (es : List Entry) (rest : List ℕ) → length bs ≤ longest_journal → SoFar bs es rest → length rest ≡ 0 → Whole bs es
whole bs es rest h f z =
    record {
      short = h;
      front = f.front ∙ ap (λ (r : List ℕ). journal_code es ++ r) (nil_from_length rest z) ∙ append-nil (journal_code es);
      within = f.within;
    }

pub broken : (bs : List ℕ) (es : List Entry) (rest : List ℕ) → length bs ≤ longest_journal → SoFar bs es rest → 0 < length rest → NoEntry rest
    → Broken bs es (MalformedRecord (length bs - length rest))
broken bs es rest h f some none =
    let place : length bs - length rest ≡ length (journal_code es) = omega (arith, so_far_short bs es rest f) in
    record { short = h; rest = rest; front = f.front; within = f.within; left = some; absent = none; place = ap MalformedRecord place }
