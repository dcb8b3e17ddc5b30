-- A refusal changes nothing. Assumes nothing.
use Rattle.std.proofs.Common.{◌≡◌, ℕ, Err, refl, arith}
use Rattle.reader.specs.declared.refusal.Refusal.{Refusal}
use Rattle.rules.specs.Laws.{Unchanged, ChangesNothing}
use Rattle.rules.specs.Scenes.{Scene, Outcome, refuse, grant, answer_of}
use Rattle.rules.specs.Serving.{outcome}

-- by what came of it
unchanged : (s : Scene) (o : Outcome) (r : Refusal) → answer_of o ≡ Err r → Unchanged s o
unchanged s (refuse x) r e = record { tables = refl; area = λ bytes. refl }
unchanged s (grant bytes c) r e = absurd (let z : ◌≡◌ {A = ℕ} 0 1 = cc in omega arith)

pub refusal_changes_nothing : (r : Refusal) → ChangesNothing (Err r)
refusal_changes_nothing r s source q e = unchanged s (outcome s source q) r e
