-- Rows that were freed or moved, and nothing else: claims still hold. Assumes nothing.
use Rattle.std.proofs.Common.{◌≡◌, ℕ, Bool, true, List, sym, ap, ◌∙◌, subst}
use Rattle.reader.specs.declared.ids.Eui64.{Eui64}
use Rattle.logins.specs.Rows.{row_at}
use Rattle.logins.specs.declared.rows.LoginRow.{LoginRow}
use Rattle.rules.specs.Claims.{Claims}
use Rattle.rules.proofs.Thinning.{Thinner}

pub claims_thinner : (admits : Eui64 → ℕ → Bool) (rows after : List LoginRow) → Thinner rows after → Claims admits rows → Claims admits after
claims_thinner admits rows after thin c =
    record {
      exclusive_holder_is_alone = λ i j h k x u.
          let p = thin i h in
          let q = thin j k in
          c.exclusive_holder_is_alone i j p.held q.held (sym p.exclusive ∙ x) (sym p.unit ∙ u ∙ q.unit);
      initiator_holds_once = λ i j h k o u.
          let p = thin i h in
          let q = thin j k in
          c.initiator_holds_once i j p.held q.held (sym (ap (λ (e : Eui64). e.0) p.owner) ∙ o ∙ ap (λ (e : Eui64). e.0) q.owner) (sym p.unit ∙ u ∙ q.unit);
      holders_are_admitted = λ i h.
          let p = thin i h in
          subst (λ (e : Eui64). admits e (row_at after i).unit ≡ true) (sym p.owner) (
          subst (λ (u : ℕ). admits (row_at rows i).owner_eui_64 u ≡ true) (sym p.unit) (c.holders_are_admitted i p.held)
          );
    }
