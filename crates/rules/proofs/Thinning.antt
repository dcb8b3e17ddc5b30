-- Rows that were freed or moved, and nothing else: who is the same holder. Assumes nothing.
use Rattle.std.proofs.Common.{◌≡◌, ℕ, zero, suc, Bool, true, false, cond, leb, List, [], ◌∷◌, map, set, Some, None, Option, sym, refl, ap, subst, inl, inr, arith}
use Rattle.reader.specs.Ids.{local}
use Rattle.reader.specs.declared.ids.NodeId.{NodeId}
use Rattle.reader.specs.declared.ids.Eui64.{Eui64}
use Rattle.logins.specs.Logins.{holder, free_row, moved, followed, ticked, state, after_event, row_after}
use Rattle.logins.specs.Rows.{row_at}
use Rattle.logins.specs.declared.rows.LoginEvent.{LoginEvent}
use Rattle.logins.specs.declared.rows.LoginEvent.TheVariants.{Reset, NetUpdate, Tick, Reconnect}
use Rattle.logins.specs.declared.rows.LoginRow.{LoginRow}
use Rattle.logins.specs.declared.rows.LoginState.{LoginState}
use Rattle.logins.specs.declared.rows.LoginState.TheVariants.{Free, Reserved, Active}
use Rattle.tables.specs.Events.{kept_row}
use Rattle.tables.proofs.Setting.{set_either}

-- the same holder as before
pub record SameHolder (r t : LoginRow) : Type 0 where
  pub held : holder r ≡ true
  pub unit : t.unit ≡ r.unit
  pub exclusive : t.exclusive ≡ r.exclusive
  pub owner : t.owner_eui_64 ≡ r.owner_eui_64
  pub hold : t.hold ≡ r.hold

-- freed, or the same holder
abbrev pub Like : LoginRow → LoginRow → Type 0
Like r t = holder t ≡ true → SameHolder r t

abbrev pub Thinner : List LoginRow → List LoginRow → Type 0
Thinner rows after = (i : ℕ) → Like (row_at rows i) (row_at after i)

pub like_same : (r : LoginRow) → Like r r
like_same r h = record { held = h; unit = refl; exclusive = refl; owner = refl; hold = refl }

pub like_free : (r : LoginRow) → Like r free_row
like_free r h = absurd (let z : ◌≡◌ {A = ℕ} 0 1 = ap (λ (b : Bool). cond b 1 0) h in omega arith)

like_moved : (r : LoginRow) (id : NodeId) (t : ℕ) → Like r (moved r id t)
like_moved r id t h = record { held = h; unit = refl; exclusive = refl; owner = refl; hold = refl }

like_cond : (r x y : LoginRow) (b : Bool) → Like r x → Like r y → Like r (cond b x y)
like_cond r x y true p q = p
like_cond r x y false p q = q

like_followed : (r : LoginRow) (found : Option NodeId) → Like r (followed r found)
like_followed r (Some id) = like_moved r id 0
like_followed r None = like_moved r _ _

like_ticked : (r : LoginRow) → Like r (ticked r)
like_ticked r = like_cond r free_row _ (leb r.ticks_left 1) (like_free r) (like_moved r _ _)

like_event : (r : LoginRow) (s : LoginState) (e : LoginEvent) → Like r (after_event s e r)
like_event r Free (Reset found) = like_same r
like_event r Free NetUpdate = like_same r
like_event r Free Tick = like_same r
like_event r Free (Reconnect id) = like_same r
like_event r Reserved (Reset found) = like_moved r _ _
like_event r Reserved NetUpdate = like_moved r _ _
like_event r Reserved Tick = like_ticked r
like_event r Reserved (Reconnect id) = like_moved r _ _
like_event r Active (Reset found) =
    like_cond r _ _ r.aware (like_cond r _ _ (local r.owner_id) (like_followed r found) (like_same r)) (like_moved r _ _)
like_event r Active NetUpdate = like_moved r _ _
like_event r Active Tick = like_same r
like_event r Active (Reconnect id) = like_moved r _ _

pub like_after : (r : LoginRow) (e : LoginEvent) → Like r (row_after r e)
like_after r e = like_event r (state r) e

pub like_kept : (admits : Eui64 → ℕ → Bool) (r : LoginRow) → Like r (kept_row admits r)
like_kept admits r = like_cond r free_row r _ (like_free r) (like_same r)

pub thinner_map : (f : LoginRow → LoginRow) → ((r : LoginRow) → Like r (f r)) → (rows : List LoginRow) → Thinner rows (map f rows)
thinner_map f like [] i = like_free free_row
thinner_map f like (r ∷ rows) zero = like r
thinner_map f like (r ∷ rows) (suc i) = thinner_map f like rows i

pub thinner_set : (rows : List LoginRow) (k : ℕ) (t : LoginRow) → Like (row_at rows k) t → Thinner rows (set rows k t)
thinner_set rows k t like i =
    elim (set_either rows k t free_row i) [
      | inl w ↦ subst (λ (x : LoginRow). Like (row_at rows i) x) (sym w.1) (subst (λ (j : ℕ). Like (row_at rows j) t) (sym w.0) like)
      | inr w ↦ subst (λ (x : LoginRow). Like (row_at rows i) x) (sym w) (like_same (row_at rows i))
    ]
