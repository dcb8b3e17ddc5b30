-- A response at the front of an area is stored in the whole area. Assumes nothing.
use Rattle.std.proofs.Common.{◌≡◌, ℕ, ◌≤◌, List, ◌++◌, length, take, drop, refl, sym, ap, ◌∙◌, arith}
use Rattle.std.proofs.lemmas.Bool.{cond-false, le-ltb}
use Rattle.std.proofs.lemmas.List.{append_assoc, length-append, length-take-le, take-append-drop, drop-append-le}
use Rattle.responses.specs.Writing.{smallest_area}
use Rattle.rules.specs.Scenes.{Outcome, refuse, grant, answer_of, response, stored}
use Rattle.management.specs.Serving.{in_area, told, answer_told}

pub answer_of_told : (o : Outcome) → answer_told (told o) ≡ answer_of o
answer_of_told (refuse r) = refl
answer_of_told (grant bytes b) = refl

module _ (area : List ℕ) (enough : smallest_area ≤ length area) (o : Outcome) where
  pub has_room : in_area area o ≡ o
  has_room = cond-false _ _ _ (le-ltb (length area) smallest_area enough)

  module _ (front : List ℕ) (told : front ≡ stored (take smallest_area area) o) (whole : length front ≡ smallest_area) where
    fits : length (response o) ≤ length (take smallest_area area)
    fits =
        let parts = length-append (response o) (drop (length (response o)) (take smallest_area area)) in
        omega (arith, whole, ap length told, parts, length-take-le smallest_area area enough)

    pub stored_in_front : front ++ drop smallest_area area ≡ stored area o
    stored_in_front =
        ap (λ (z : List ℕ). z ++ drop smallest_area area) told
        ∙ append_assoc (response o) (drop (length (response o)) (take smallest_area area)) (drop smallest_area area)
        ∙ ap (λ (z : List ℕ). response o ++ z) (
        sym (drop-append-le (length (response o)) (take smallest_area area) (drop smallest_area area) fits)
        ∙ ap (drop (length (response o))) (take-append-drop smallest_area area)
        )
