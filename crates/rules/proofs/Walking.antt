-- Steps of a walk through the rules, whatever is to be shown. Assumes nothing.
use Rattle.std.proofs.Common.{◌≡◌, ℕ, Bool, true, false, cond, ltb, Some, None, Option, refl}
use Rattle.reader.specs.declared.ids.NodeId.{NodeId}
use Rattle.logins.specs.Rows.{handles_size}
use Rattle.logins.specs.declared.rows.Handle.{Handle}
use Rattle.tables.specs.Books.{Book}
use Rattle.tables.specs.Events.{given_handle}
use Rattle.rules.specs.Logins.{own_handle_moved}
use Rattle.rules.specs.Scenes.{Outcome}

-- by a test
pub by_test : (P : Outcome → Type 0) (b : Bool) (x y : Outcome) → (b ≡ true → P x) → (b ≡ false → P y) → P (cond b x y)
by_test P true x y f g = f refl
by_test P false x y f g = g refl

pub either_book : (P : Book → Type 0) (t : Bool) (x y : Book) → P x → P y → P (cond t x y)
either_book P true x y p q = p
either_book P false x y p q = q

-- a handle that is given or moved leaves the logins, and whether ticks count
pub handle_leaves_logins : (b : Book) (place : ℕ) (h : Handle) → (given_handle b place h).logins ≡ b.logins
handle_leaves_logins b place h = either_book (λ x. x.logins ≡ b.logins) (ltb place handles_size) _ b refl refl

pub handle_leaves_ticking : (b : Book) (place : ℕ) (h : Handle) → (given_handle b place h).ticking ≡ b.ticking
handle_leaves_ticking b place h = either_book (λ x. x.ticking ≡ b.ticking) (ltb place handles_size) _ b refl refl

pub moved_leaves_logins : (b : Book) (node : NodeId) (o : Option ℕ) → (own_handle_moved b node o).logins ≡ b.logins
moved_leaves_logins b node None = refl
moved_leaves_logins b node (Some place) = refl

pub moved_leaves_ticking : (b : Book) (node : NodeId) (o : Option ℕ) → (own_handle_moved b node o).ticking ≡ b.ticking
moved_leaves_ticking b node None = refl
moved_leaves_ticking b node (Some place) = refl
