-- One holder after another in the response to a query. Assumes nothing.
use Rattle.std.proofs.Common.{◌≡◌, ℕ, ◌+◌, ◌-◌, ◌<◌, ◌≤◌, true, false, cond, ltb, List, [], ◌++◌, length, take, drop, sym, ap, ◌∙◌}
use Rattle.std.proofs.lemmas.List.{append-nil, append_assoc, length-take-le, take-append-drop, drop-drop, at_drop_more, at_drop_all}
use Rattle.std.proofs.lemmas.Bool.{cond-true, cond-false, lt-ltb, le-ltb}
use Rattle.logins.specs.Logins.{free_row}
use Rattle.logins.specs.Rows.{row_at}
use Rattle.logins.specs.Tests.{among}
use Rattle.logins.specs.declared.rows.Holders.TheVariants.{OfUnit}
use Rattle.logins.specs.declared.rows.LoginRow.{LoginRow}
use Rattle.rules.specs.Responses.{query_entry, query_entries}

-- what is told so far, and then what is to tell of the logins from a slot on
module _ (rows : List LoginRow) (unit room slot : ℕ) (told all : List ℕ) (so_far : told ++ query_entries unit room slot (drop slot rows) ≡ all) where
  pub told_all : length rows ≤ slot → told ≡ all
  told_all h = sym (append-nil told) ∙ ap (λ (z : List ℕ). told ++ z) (sym (at_drop_all (query_entries unit room slot) rows slot h)) ∙ so_far

  module _ (h : slot < length rows) where
    here : query_entries unit room slot (drop slot rows) ≡ cond (among (OfUnit unit) (row_at rows slot)) (
        cond (ltb room 12) [] (query_entry slot (row_at rows slot) ++ query_entries unit (room - 12) (slot + 1) (drop (slot + 1) rows))
        ) (query_entries unit room (slot + 1) (drop (slot + 1) rows))
    here = at_drop_more (query_entries unit room slot) rows slot free_row h

    pub told_other : (next : List ℕ) (left : ℕ) → among (OfUnit unit) (row_at rows slot) ≡ false → next ≡ told → left ≡ room
        → next ++ query_entries unit left (slot + 1) (drop (slot + 1) rows) ≡ all
    told_other next left e p q =
        ap (λ (z : List ℕ). z ++ query_entries unit left (slot + 1) (drop (slot + 1) rows)) p
        ∙ ap (λ (n : ℕ). told ++ query_entries unit n (slot + 1) (drop (slot + 1) rows)) q
        ∙ ap (λ (z : List ℕ). told ++ z) (sym (here ∙ cond-false _ _ _ e)) ∙ so_far

    pub told_full : among (OfUnit unit) (row_at rows slot) ≡ true → room < 12 → told ≡ all
    told_full e full =
        sym (append-nil told) ∙ ap (λ (z : List ℕ). told ++ z) (sym (here ∙ cond-true _ _ _ e ∙ cond-true _ _ _ (lt-ltb room 12 full))) ∙ so_far

    pub told_more : (next : List ℕ) (left : ℕ) → among (OfUnit unit) (row_at rows slot) ≡ true → 12 ≤ room → next ≡ told ++ query_entry slot (row_at rows slot) → left ≡ room - 12
        → next ++ query_entries unit left (slot + 1) (drop (slot + 1) rows) ≡ all
    told_more next left e fits p q =
        ap (λ (z : List ℕ). z ++ query_entries unit left (slot + 1) (drop (slot + 1) rows)) p
        ∙ append_assoc told _ _
        ∙ ap (λ (n : ℕ). told ++ (query_entry slot (row_at rows slot) ++ query_entries unit n (slot + 1) (drop (slot + 1) rows))) q
        ∙ ap (λ (z : List ℕ). told ++ z) (sym (here ∙ cond-true _ _ _ e ∙ cond-false _ _ _ (le-ltb room 12 fits)))
        ∙ so_far

-- an area that begins with what is told and keeps the rest
module _ (area before all : List ℕ) (at : ℕ) (told : take at area ≡ all) (kept : drop at area ≡ drop at before) (inside : at ≤ length area) where
  pub told_length : at ≡ length all
  told_length = sym (length-take-le at area inside) ∙ ap length told

  pub told_area : area ≡ all ++ drop at before
  told_area = sym (take-append-drop at area) ∙ ap (λ (z : List ℕ). z ++ drop at area) told ∙ ap (λ (z : List ℕ). all ++ z) kept

-- what is kept from a place on is kept further behind
pub kept_behind : (area before : List ℕ) (at more next : ℕ) → drop at area ≡ drop at before → next ≡ at + more → drop next area ≡ drop next before
kept_behind area before at more next kept e =
    ap (λ (n : ℕ). drop n area) e ∙ sym (drop-drop more at area) ∙ ap (drop more) kept ∙ drop-drop more at before ∙ ap (λ (n : ℕ). drop n before) (sym e)
