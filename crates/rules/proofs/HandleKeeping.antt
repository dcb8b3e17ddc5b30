-- One login or one handle written over by the same one, and tables that keep their sizes. Assumes nothing.
use Rattle.std.proofs.Common.{◌≡◌, ℕ, ◌<◌, true, List, length, get_or, set, Option, sym, refl, ap, ◌∙◌, subst, inl, inr}
use Rattle.std.proofs.lemmas.List.{get_or_past}
use Rattle.std.proofs.lemmas.Bool.{both_ways, cases_lt}
use Rattle.reader.specs.declared.ids.NodeId.{NodeId}
use Rattle.reader.specs.declared.ids.Eui64.{Eui64}
use Rattle.logins.specs.Logins.{holder, free_row}
use Rattle.logins.specs.Rows.{logins_size, handles_size, row_at, handle_at, free_handle}
use Rattle.logins.specs.declared.rows.Handle.{Handle}
use Rattle.logins.specs.declared.rows.LoginRow.{LoginRow}
use Rattle.tables.specs.Books.{Book}
use Rattle.tables.proofs.Setting.{set_either}
use Rattle.rules.specs.HandleClaims.{HandleClaims}
use Rattle.rules.proofs.HandleFollowing.{Next, next_same}
use Rattle.rules.proofs.HandleSweeping.{aware_stays}
use Rattle.rules.proofs.HandleThinning.{HandleShown, SameHandle, Remains, same_handle, claims_kept}

-- both tables have their sizes, and both searches begin at a place
pub record Sized (b : Book) : Type 0 where
  pub all_logins : length b.logins ≡ logins_size
  pub all_handles : length b.handles ≡ handles_size
  pub next_slot : b.next_login < logins_size
  pub next_place : b.next_handle < handles_size

pub sized_as : (b d : Book) → Sized b → length d.logins ≡ length b.logins → length d.handles ≡ length b.handles → d.next_login < logins_size → d.next_handle < handles_size → Sized d
sized_as b d s l h i j = record { all_logins = l ∙ s.all_logins; all_handles = h ∙ s.all_handles; next_slot = i; next_place = j }

-- there is no holder past the end
pub held_below : (rows : List LoginRow) (i : ℕ) → holder (row_at rows i) ≡ true → i < length rows
held_below rows i h =
    elim (cases_lt i (length rows)) [
      | inl l ↦ l
      | inr past ↦ absurd (both_ways (holder (row_at rows i)) (ap holder (get_or_past rows i free_row past)) h)
    ]

-- what holds of what was written and of all that was there
pub each_written : {X : Type 0} (P : ℕ → X → Type 0) (xs : List X) (k : ℕ) (v d : X) → P k v → ((i : ℕ) → P i (get_or xs i d)) → (i : ℕ) → P i (get_or (set xs k v) i d)
each_written P xs k v d here all i =
    elim (set_either xs k v d i) [
      | inl w ↦ subst (P i) (sym w.1) (subst (λ (j : ℕ). P j v) (sym w.0) here)
      | inr w ↦ subst (P i) (sym w) (all i)
    ]

-- handles that were freed or moved, but no own one freed
pub record HandlesKept (shows : NodeId → Option Eui64) (handles left : List Handle) : Type 0 where
  pub remain : (p : ℕ) → Remains (handle_at handles p) (handle_at left p)
  pub are_shown : (p : ℕ) → HandleShown shows (handle_at left p)
  pub stays : (p : ℕ) → (handle_at handles p).own ≡ true → SameHandle (handle_at handles p) (handle_at left p)

module _ (shows : NodeId → Option Eui64) (rows : List LoginRow) (handles : List Handle) (c : HandleClaims shows rows handles) where
  pub all_kept : HandlesKept shows handles handles
  all_kept = record { remain = λ p u. same_handle (handle_at handles p); are_shown = c.handle_is_shown; stays = λ p x. same_handle (handle_at handles p) }

  pub one_kept : (place : ℕ) (k : Handle) → Remains (handle_at handles place) k → HandleShown shows k → ((handle_at handles place).own ≡ true → SameHandle (handle_at handles place) k) → HandlesKept shows handles (set handles place k)
  one_kept place k remain there stays =
      record {
        remain = each_written (λ p t. Remains (handle_at handles p) t) handles place k free_handle remain all_kept.remain;
        are_shown = each_written (λ p t. HandleShown shows t) handles place k free_handle there c.handle_is_shown;
        stays = each_written (λ p t. (handle_at handles p).own ≡ true → SameHandle (handle_at handles p) t) handles place k free_handle stays all_kept.stays;
      }

  pub claims_handles_kept : (left : List Handle) → HandlesKept shows handles left → HandleClaims shows rows left
  claims_handles_kept left kept =
      claims_kept shows shows rows rows handles left c (λ i. (next_same shows (row_at rows i) (c.owner_is_shown i)).follows) kept.remain c.owner_is_shown kept.are_shown (λ i a. a) kept.stays

  -- a login whose owner stays
  pub claims_row_kept : (slot : ℕ) (t : LoginRow) (left : List Handle) → Next shows (row_at rows slot) t → t.owner_eui_64 ≡ (row_at rows slot).owner_eui_64 → HandlesKept shows handles left → HandleClaims shows (set rows slot t) left
  claims_row_kept slot t left next owner kept =
      let nexts : (i : ℕ) → Next shows (row_at rows i) (row_at (set rows slot t) i) =
      each_written (λ i r. Next shows (row_at rows i) r) rows slot t free_row next (λ i. next_same shows (row_at rows i) (c.owner_is_shown i)) in
      let owners : (i : ℕ) → (row_at (set rows slot t) i).owner_eui_64 ≡ (row_at rows i).owner_eui_64 =
      each_written (λ i r. r.owner_eui_64 ≡ (row_at rows i).owner_eui_64) rows slot t free_row owner (λ i. refl) in
      claims_kept shows shows rows (set rows slot t) handles left c (λ i. (nexts i).follows) kept.remain (λ i. (nexts i).is_shown) kept.are_shown (
      λ i. aware_stays (row_at rows i) _ (nexts i) (owners i)
      ) kept.stays
