-- The notes of a pair table and of a maker list are their next sets. Assumes nothing.
use Rattle.std.proofs.Common.{◌≡◌, ℕ, Bool, true, false, cond, not, ◌&&◌, is_some, Some, None, sym, refl, ap, ◌∙◌, arith}
use Rattle.std.proofs.lemmas.Bool.{ne_eqb}
use Rattle.std.proofs.lemmas.Bool.Decides.{nat_tests}
use Rattle.std.proofs.lemmas.Grind.{common_steps}
use Rattle.reader.specs.declared.ids.Eui64.{Eui64}
use Rattle.reader.specs.Ids.{none_eui}
use Rattle.notes.specs.Answers.{Answer, granted}
use Rattle.access.specs.declared.pairs.Pair.{Pair}
use Rattle.access.specs.declared.makers.MakerNote.{MakerNote}
use Rattle.access.specs.declared.makers.MakerList.{MakerList}
use Rattle.notes.specs.Tables.{listed, settled}
use Rattle.notes.specs.TablesLemmas.{noted_there, noted_elsewhere}
use Rattle.access.specs.Pairs.{pair_places, same_pair, pair_range, noted_pair, pair_tables}
use Rattle.access.specs.Makers.{maker_places, is_of, maker_range, puts_in, maker_of, units_of, in_mask, maker_tables, maker_admits, maker_model}
use Rattle.access_laws.specs.Following.{PairNotes, MakerNotes, maker_next}

pub some_or_none : {X : Type 0} (x : X) (b : Bool) → is_some (cond b (Some x) None) ≡ b
some_or_none x true = refl
some_or_none x false = refl

pair_self : (p : Pair) → same_pair p p ≡ true
pair_self p = grind (arith, nat_tests)

pair_apart : (p q : Pair) → same_pair p q ≡ false → (x : Pair) → same_pair x p ≡ true → same_pair x q ≡ false
pair_apart p q other x h = grind (arith, nat_tests)

pub pair_notes : PairNotes
pair_notes = record {
  note_of_pair = λ a b n h.
      ap (λ t. is_some (listed same_pair t.noted (noted_pair n))) h.1
      ∙ ap is_some (noted_there same_pair (noted_pair n) (noted_pair n) pair_places (pair_self (noted_pair n)) (pair_range (noted_pair n)) (pair_tables a) n.admitted (sym h.0))
      ∙ some_or_none (noted_pair n) n.admitted;
  note_of_another = λ a b n r h e u other.
      let q : Pair = record { eui = e; unit = u } in
      ap (λ t. is_some (listed same_pair t.noted q)) h.1
      ∙ ap is_some (noted_elsewhere same_pair (noted_pair n) (noted_pair n) q (pair_apart (noted_pair n) q other) other pair_places (pair_range (noted_pair n)) (pair_tables a) n.admitted);
}

maker_self : (n : MakerNote) → is_of n n.maker ≡ true
maker_self n = grind (arith, nat_tests)

maker_apart : (m k : ℕ) → (m ≡ k → ⊥) → (x : MakerNote) → is_of x m ≡ true → is_of x k ≡ false
maker_apart m k other x h = grind (arith, nat_tests)

module _ (a b : MakerList) (n : MakerNote) (e : Eui64) (u : ℕ) where
  of_maker : maker_model.Notes a n granted b → n.maker ≡ maker_of e → none_eui e ≡ false → maker_next b e u ≡ in_mask n.units u
  of_maker h same real =
      let there = noted_there is_of n.maker n maker_places (maker_self n) (maker_range n) (maker_tables a) (puts_in n) (sym h.0) in
      grind (arith, common_steps)

  of_another : (r : Answer) → maker_model.Notes a n r b → (n.maker ≡ maker_of e → ⊥) → maker_next b e u ≡ maker_next a e u
  of_another r h other =
      let away = noted_elsewhere is_of n.maker n (maker_of e) (maker_apart n.maker (maker_of e) other) (ne_eqb n.maker (maker_of e) other) maker_places (maker_range n) (maker_tables a) (puts_in n) in
      ap (λ t. maker_admits (settled t) e u) h.1 ∙ ap (λ o. not (none_eui e) && in_mask (units_of o) u) away

pub maker_notes : MakerNotes
maker_notes = record {
  note_of_maker = λ a b n h e u same real. of_maker a b n e u h same real;
  note_of_another = λ a b n r h e u other. of_another a b n e u r h other;
}
