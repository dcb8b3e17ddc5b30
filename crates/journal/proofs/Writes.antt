-- One write after another to an area. Assumes nothing.
use Rattle.std.proofs.Common.{◌≡◌, ℕ, ◌+◌, ◌≤◌, List, ◌++◌, length, take, drop, sym, ap, ◌∙◌, arith}
use Rattle.std.proofs.lemmas.List.{append_assoc, length-append, length-drop, length-take-le, take_at, drop_at, drop-drop}
use Rattle.journal.specs.Areas.{put, Room, Wrote}
use Rattle.journal.specs.declared.writing.Cursor.{Cursor}

-- bytes behind bytes
put_put : (area xs ys : List ℕ) (at mid : ℕ) → mid ≡ at + length xs → mid ≤ length area → put (put area at xs) mid ys ≡ put area at (xs ++ ys)
put_put area xs ys at mid e h =
    let head : List ℕ = take at area ++ xs in
    let whole : put area at xs ≡ head ++ drop mid area =
    ap (λ (k : ℕ). take at area ++ (xs ++ drop k area)) (sym e) ∙ sym (append_assoc (take at area) xs (drop mid area)) in
    let long : length head ≡ mid = length-append (take at area) xs ∙ omega (arith, length-take-le at area (omega arith)) in
    let front : take mid (put area at xs) ≡ head = ap (take mid) whole ∙ take_at head (drop mid area) mid long in
    let back : drop (mid + length ys) (put area at xs) ≡ drop (mid + length ys) area =
    sym (drop-drop (length ys) mid (put area at xs))
    ∙ ap (drop (length ys)) (ap (drop mid) whole ∙ drop_at head (drop mid area) mid long)
    ∙ drop-drop (length ys) mid area in
    let far : mid + length ys ≡ at + length (xs ++ ys) = omega (arith, length-append xs ys) in
    rw (front, back) (
    append_assoc (take at area) xs (ys ++ drop (mid + length ys) area)
    ∙ ap (λ (z : List ℕ). take at area ++ z) (
    sym (append_assoc xs ys (drop (mid + length ys) area)) ∙ ap (λ (k : ℕ). (xs ++ ys) ++ drop k area) far
    )
    )

put_length : (area bs : List ℕ) (at : ℕ) → at + length bs ≤ length area → length (put area at bs) ≡ length area
put_length area bs at h =
    omega (arith, length-append (take at area) (bs ++ drop (at + length bs) area), length-append bs (drop (at + length bs) area), length-take-le at area (omega arith), length-drop (at + length bs) area)

-- bytes that are written in two parts
module _ (c : Cursor) (xs ys : List ℕ) (room : Room c (xs ++ ys)) where
  pub room_first : Room c xs
  room_first = record { fits = omega (arith, room.fits, length-append xs ys) }

  module _ (d : Cursor) (first : Wrote c d xs) where
    pub room_then : Room d ys
    room_then =
        let same : length d.area.now ≡ length c.area.now = ap length first.area ∙ put_length c.area.now xs c.at room_first.fits in
        record { fits = omega (arith, room.fits, first.ends, length-append xs ys) }

    pub wrote_then : (e : Cursor) → Wrote d e ys → Wrote c e (xs ++ ys)
    wrote_then e then =
        let fits = room_first.fits in
        record {
          ends = omega (arith, first.ends, then.ends, length-append xs ys);
          area = then.area ∙ ap (λ (z : List ℕ). put z d.at ys) first.area ∙ put_put c.area.now xs ys c.at d.at first.ends (omega (arith, first.ends));
          same_area = then.same_area ∙ first.same_area;
        }

pub wrote_three : (c d e f : Cursor) (xs ys zs : List ℕ) → Room c (xs ++ (ys ++ zs)) → Wrote c d xs → Wrote d e ys → Wrote e f zs → Wrote c f (xs ++ (ys ++ zs))
wrote_three c d e f xs ys zs room first next last =
    wrote_then c xs (ys ++ zs) room d first f (wrote_then d ys zs (room_then c xs (ys ++ zs) room d first) e next f last)

pub wrote_four : (c d e f g : Cursor) (ws xs ys zs : List ℕ) → Room c (ws ++ (xs ++ (ys ++ zs))) → Wrote c d ws → Wrote d e xs → Wrote e f ys → Wrote f g zs → Wrote c g (ws ++ (xs ++ (ys ++ zs)))
wrote_four c d e f g ws xs ys zs room first next third last =
    wrote_then c ws (xs ++ (ys ++ zs)) room d first g (wrote_three d e f g xs ys zs (room_then c ws (xs ++ (ys ++ zs)) room d first) next third last)
