-- The first topology of a portal on a new local bus. Assumes nothing.
use Rattle.std.proofs.Common.{◌≡◌, Bool, true, false, cond, List, [], length, replicate, Some, None, Option, refl, ap, ◌∙◌, arith}
use Rattle.std.proofs.lemmas.Bool.Decides.{when_false}
use Rattle.std.proofs.lemmas.Grind.{common_steps}
use Rattle.reader.specs.declared.ids.NodeId.{NodeId}
use Rattle.reader.specs.declared.ids.Eui64.{Eui64}
use Rattle.reader.specs.Ids.{local, global}
use Rattle.bus.specs.declared.local.LocalBus.{LocalBus}
use Rattle.bus.specs.declared.portal.Portal.{Portal}
use Rattle.bus.specs.Meaning.{granted, nobody, somebody}
use Rattle.bus.specs.Finding.{first_from, local_of}
use Rattle.bus.specs.Places.{seated, seat_answer, seat_after}
use Rattle.bus.specs.LocalBuses.{local_model, local_tables, new_local}
use Rattle.bus.specs.GlobalTables.{listed}
use Rattle.bus.specs.Portals.{or_else, portal_tables, new_portal, portal_model}
use Rattle.bus_laws.specs.Topologies.{ShownAfterReset}
use Rattle.bus.specs.LocalBusesLemmas.{seated_elsewhere, local_lawful}
use Rattle.bus.specs.PortalsLemmas.{local_not_global, as_below, unseen}

nobody_seated : (e : Eui64) → local_of (seated (replicate 63 nobody)) e ≡ None
unfolding first_from
nobody_seated e = refl

-- one who is seated nowhere may sit down at a local ID
seat_free : (euis : List Eui64) (i : NodeId) (e : Eui64) → local i ≡ true → local_of (seated euis) e ≡ None → seat_answer euis i e ≡ granted
seat_free euis i e here free = cc

-- one who may sit down sits there
seated_there : (euis : List Eui64) (i : NodeId) (e : Eui64) → length euis ≡ 63 → seat_answer euis i e ≡ granted → seated (seat_after euis i e) i ≡ somebody e
seated_there euis i e size h = grind (arith, common_steps)

module _ {own eui : Eui64} {i : NodeId} {who : Option Eui64} (p q : Portal LocalBus) (new : portal_tables p ≡ new_portal) (below : local_tables p.below ≡ new_local own)
    (s : ShownAfterReset (portal_model local_model) p i (Some eui) who q) where
  no_entry : (portal_tables q).shown ≡ []
  no_entry = ap (λ t. t.shown) s.was_reset.1 ∙ (unseen local_model local_lawful p s.between i (Some eui) s.answer s.noted).shown ∙ ap (λ t. t.shown) new

  at_local : local i ≡ true → seated q.below.places.current.euis i ≡ somebody eui
  at_local here =
      let noted = when_false _ _ (local_not_global i here) s.noted in
      let places = p.below.places.noted in
      let empty : places.euis ≡ replicate 63 nobody = ap (λ t. t.noted) below in
      let then_shown : q.below.places.current.euis ≡ seat_after places.euis i eui = ap (λ t. t.shown) s.was_reset.0 ∙ ap (λ t. t.noted) noted.0.1 in
      let free = ap (λ euis. local_of (seated euis) eui) empty ∙ nobody_seated eui in
      ap (λ euis. seated euis i) then_shown ∙ seated_there places.euis i eui places.size (seat_free places.euis i eui here free)

  elsewhere : local i ≡ false → (portal_model local_model).shows q i ≡ None
  elsewhere away = go (global i)
    where
      nobody_below : seated q.below.places.current.euis i ≡ None
      nobody_below = seated_elsewhere q.below.places.current.euis i away

      go : (b : Bool) → cond b (or_else (listed (portal_tables q).shown i) (seated q.below.places.current.euis i)) (seated q.below.places.current.euis i) ≡ None
      go true = ap (λ es. or_else (listed es i) (seated q.below.places.current.euis i)) no_entry ∙ nobody_below
      go false = nobody_below

  pub shown_first : who ≡ cond (local i) (somebody eui) None
  shown_first = s.shown ∙ go (local i) refl
    where
      go : (b : Bool) → local i ≡ b → (portal_model local_model).shows q i ≡ cond b (somebody eui) None
      go true here = as_below local_model local_lawful q i (local_not_global i here) ∙ at_local here
      go false away = elsewhere away
