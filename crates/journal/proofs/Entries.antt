-- A reader of entries finds an entry exactly where its bytes stand. Assumes that bytes are below 256.
use Rattle.std.proofs.Common.{◌≡◌, ℕ, suc, ◌+◌, ◌^◌, ◌<◌, ◌≤◌, Bool, true, false, eqb, ltb, List, [], ◌∷◌, ◌++◌, length, get_or, take, drop, Some, None, Option, sym, refl, ap, ◌∙◌, subst, inl, inr, arith}
use Rattle.std.proofs.lemmas.List.{append_assoc, take_at, drop_at, length-append, take-append-drop, length-take-le, get_or-append-add}
use Rattle.std.proofs.lemmas.Bool.{cases_lt, cases_eq, eq-eqb, ne_eqb, le-ltb, lt-ltb, cond-true, cond-false}
use Rattle.std.specs.List.{AllByRecursion as All}
use Rattle.journal.specs.Numbers.{code}
use Rattle.journal.specs.Entries.{Entry, request, bus_reset, net_update, gap, tick, access_change, bus_note, pair_note, stop_note, entry_code, mark, Within, EntryAt, NoEntry}
use Rattle.journal.specs.Reading.{number_at, after, met, id, eui, orb_at, request_at, bus_note_at, pair_note_at, stop_note_at, Reader, readers, by_kind, entry_at}
use Rattle.journal.proofs.Finding.{Bytes, Number, number_sound, number_complete}

-- a reader goes on behind a number that stands there
after_code : {T : Type 0} (bits n : ℕ) (rest : List ℕ) (f : ℕ → List ℕ → Option T) → n < 2 ^ bits → after (number_at bits (code n ++ rest)) f ≡ f n rest
after_code bits n rest f h = ap (λ (o : Option (ℕ × List ℕ)). after o f) (number_complete bits n rest h)

mark_one : (b : Bool) → eqb (mark b) 1 ≡ b
mark_one true = refl
mark_one false = refl

mark_small : (b : Bool) → mark b < 2 ^ 1
mark_small true = omega arith
mark_small false = omega arith

orb_found : (s a : ℕ) (orb rest : List ℕ) → length orb ≡ 32 → orb_at s a (orb ++ rest) ≡ met (request (id s) a orb) rest
orb_found s a orb rest h =
    let long : 32 ≤ length (orb ++ rest) = omega (arith, length-append orb rest) in
    cond-false (ltb (length (orb ++ rest)) 32) None (met (request (id s) a (take 32 (orb ++ rest))) (drop 32 (orb ++ rest))) (le-ltb (length (orb ++ rest)) 32 long)
    ∙ rw (take_at orb rest 32 h, drop_at orb rest 32 h) refl

-- what stands there, a reader finds
pub entry_complete : (e : Entry) (rest : List ℕ) → Within e → entry_at (entry_code e ++ rest) ≡ met e rest
unfolding entry_at
entry_complete (request source address orb) rest w =
    rw (append_assoc (code source.0) (code address ++ orb) rest, append_assoc (code address) orb rest) (
    after_code 16 source.0 (code address ++ (orb ++ rest)) (λ s r. after (number_at 64 r) (orb_at s)) w.0
    ∙ after_code 64 address (orb ++ rest) (orb_at source.0) w.1 ∙ orb_found source.0 address orb rest w.2
    )
entry_complete bus_reset rest w = refl
entry_complete net_update rest w = refl
entry_complete gap rest w = refl
entry_complete tick rest w = refl
entry_complete access_change rest w = refl
entry_complete (bus_note node e) rest w =
    rw (append_assoc (code node.0) (code e.0) rest) (
    after_code 16 node.0 (code e.0 ++ rest) (λ n r. after (number_at 64 r) (λ x. met (bus_note (id n) (eui x)))) w.0
    ∙ after_code 64 e.0 rest (λ x. met (bus_note node (eui x))) w.1
    )
entry_complete (pair_note e unit b) rest w =
    rw (append_assoc (code e.0) (code unit ++ code (mark b)) rest, append_assoc (code unit) (code (mark b)) rest) (
    after_code 64 e.0 (code unit ++ (code (mark b) ++ rest)) (λ x r. after (number_at 16 r) (λ u r. after (number_at 1 r) (λ m. met (pair_note (eui x) u (eqb m 1))))) w.0
    ∙ after_code 16 unit (code (mark b) ++ rest) (λ u r. after (number_at 1 r) (λ m. met (pair_note e u (eqb m 1)))) w.1
    ∙ after_code 1 (mark b) rest (λ m. met (pair_note e unit (eqb m 1))) (mark_small b)
    ∙ ap (λ (m : Bool). met (pair_note e unit m) rest) (mark_one b)
    )
entry_complete (stop_note e b) rest w =
    rw (append_assoc (code e.0) (code (mark b)) rest) (
    after_code 64 e.0 (code (mark b) ++ rest) (λ x r. after (number_at 1 r) (λ m. met (stop_note (eui x) (eqb m 1)))) w
    ∙ after_code 1 (mark b) rest (λ m. met (stop_note e (eqb m 1))) (mark_small b)
    ∙ ap (λ (m : Bool). met (stop_note e m) rest) (mark_one b)
    )

bytes_after : (bs xs rest : List ℕ) → bs ≡ xs ++ rest → Bytes bs → Bytes rest
bytes_after bs xs rest e h k =
    subst (λ (m : ℕ). m < 256) (get_or-append-add xs rest k 0) (subst (λ (z : List ℕ). get_or z (length xs + k) 0 < 256) e (h (length xs + k)))

-- what a reader finds behind a number
record Behind {T : Type 0} (bits : ℕ) (bs : List ℕ) (f : ℕ → List ℕ → Option T) (x : T) : Type 0 where
  number : ℕ
  rest : List ℕ
  there : Number bits bs number rest
  on : f number rest ≡ Some x
  bytes : Bytes rest

behind : {T : Type 0} (bits : ℕ) (bs : List ℕ) (f : ℕ → List ℕ → Option T) (x : T) → Bytes bs → after (number_at bits bs) f ≡ Some x → Behind bits bs f x
behind bits bs f x h e = go (number_at bits bs) refl e where
  go : (o : Option (ℕ × List ℕ)) → number_at bits bs ≡ o → after o f ≡ Some x → Behind bits bs f x
  go None q e = absurd (let z : ◌≡◌ {A = ℕ} 0 1 = cc in omega arith)
  go (Some p) q e =
      let n = number_sound bits bs p.0 p.1 h q in
      record { number = p.0; rest = p.1; there = n; on = e; bytes = bytes_after bs (code p.0) p.1 n.front h }

met_same : (d e : Entry) (r s : List ℕ) → met d r ≡ met e s → (d ≡ e) × (r ≡ s)
met_same d e r s q =
    let p : ◌≡◌ {A = Entry × List ℕ} (d, r) (e, s) = cc in (ap (λ (x : Entry × List ℕ). x.0) p, ap (λ (x : Entry × List ℕ). x.1) p)

-- the bytes of an entry that a reader has put together
made : (bs : List ℕ) (d e : Entry) (r s : List ℕ) → met d r ≡ met e s → bs ≡ entry_code d ++ r → Within d → EntryAt bs e s
made bs d e r s q f w =
    let same = met_same d e r s q in
    subst (λ (x : List ℕ). EntryAt bs e x) same.1 (subst (λ (x : Entry). EntryAt bs x r) same.0 (record { front = f; within = w }))

mark_back : (m : ℕ) → m < 2 ^ 1 → m ≡ mark (eqb m 1)
mark_back m h =
    elim (cases_eq m 1) [
      | inl e ↦ e ∙ sym (cond-true (eqb m 1) 1 0 (eq-eqb m 1 e))
      | inr n ↦ let z : m ≡ 0 = omega arith in z ∙ sym (cond-false (eqb m 1) 1 0 (ne_eqb m 1 n))
    ]

-- a number below 2 is the mark that it is read as
marked : {T : Type 0} {bs : List ℕ} {f : ℕ → List ℕ → Option T} {x : T} (m : Behind 1 bs f x) → bs ≡ code (mark (eqb m.number 1)) ++ m.rest
marked m = m.there.front ∙ ap (λ (n : ℕ). code n ++ m.rest) (mark_back m.number m.there.fits)

module _ (bs : List ℕ) (e : Entry) (rest : List ℕ) (h : Bytes bs) where
  request_sound : request_at bs ≡ met e rest → EntryAt (1 ∷ bs) e rest
  request_sound q =
      let x : Entry × List ℕ = (e, rest) in
      let s = behind 16 bs (λ s r. after (number_at 64 r) (orb_at s)) x h q in
      let a = behind 64 s.rest (orb_at s.number) x s.bytes s.on in
      elim (cases_lt (length a.rest) 32) [
        | inl l ↦ absurd (
            let c = cond-true (ltb (length a.rest) 32) None (met (request (id s.number) a.number (take 32 a.rest)) (drop 32 a.rest)) (lt-ltb (length a.rest) 32 l) in
            let d : None ≡ Some x = sym c ∙ a.on in
            let z : ◌≡◌ {A = ℕ} 0 1 = cc in
            omega arith
            )
        | inr l ↦
            let c = cond-false (ltb (length a.rest) 32) None (met (request (id s.number) a.number (take 32 a.rest)) (drop 32 a.rest)) (le-ltb (length a.rest) 32 l) in
            made (1 ∷ bs) (request (id s.number) a.number (take 32 a.rest)) e (drop 32 a.rest) rest (sym c ∙ a.on)
            (ap (λ (z : List ℕ). 1 ∷ z) (
            s.there.front
            ∙ ap (λ (z : List ℕ). code s.number ++ z) (
            a.there.front
            ∙ ap (λ (z : List ℕ). code a.number ++ z) (sym (take-append-drop 32 a.rest))
            ∙ sym (append_assoc (code a.number) (take 32 a.rest) (drop 32 a.rest))
            )
            ∙ sym (append_assoc (code s.number) (code a.number ++ take 32 a.rest) (drop 32 a.rest))
            ))
            (s.there.fits, a.there.fits, length-take-le 32 a.rest l)
      ]

  bus_note_sound : bus_note_at bs ≡ met e rest → EntryAt (7 ∷ bs) e rest
  bus_note_sound q =
      let x : Entry × List ℕ = (e, rest) in
      let n = behind 16 bs (λ n r. after (number_at 64 r) (λ y. met (bus_note (id n) (eui y)))) x h q in
      let y = behind 64 n.rest (λ y. met (bus_note (id n.number) (eui y))) x n.bytes n.on in
      made (7 ∷ bs) (bus_note (id n.number) (eui y.number)) e y.rest rest y.on
      (ap (λ (z : List ℕ). 7 ∷ z) (
      n.there.front ∙ ap (λ (z : List ℕ). code n.number ++ z) y.there.front
      ∙ sym (append_assoc (code n.number) (code y.number) y.rest)
      ))
      (n.there.fits, y.there.fits)

  pair_note_sound : pair_note_at bs ≡ met e rest → EntryAt (8 ∷ bs) e rest
  pair_note_sound q =
      let x : Entry × List ℕ = (e, rest) in
      let y = behind 64 bs (λ y r. after (number_at 16 r) (λ u r. after (number_at 1 r) (λ m. met (pair_note (eui y) u (eqb m 1))))) x h q in
      let u = behind 16 y.rest (λ u r. after (number_at 1 r) (λ m. met (pair_note (eui y.number) u (eqb m 1)))) x y.bytes y.on in
      let m = behind 1 u.rest (λ m. met (pair_note (eui y.number) u.number (eqb m 1))) x u.bytes u.on in
      made (8 ∷ bs) (pair_note (eui y.number) u.number (eqb m.number 1)) e m.rest rest m.on
      (ap (λ (z : List ℕ). 8 ∷ z) (
      y.there.front
      ∙ ap (λ (z : List ℕ). code y.number ++ z) (
      u.there.front ∙ ap (λ (z : List ℕ). code u.number ++ z) (marked m)
      ∙ sym (append_assoc (code u.number) (code (mark (eqb m.number 1))) m.rest)
      )
      ∙ sym (append_assoc (code y.number) (code u.number ++ code (mark (eqb m.number 1))) m.rest)
      ))
      (y.there.fits, u.there.fits)

  stop_note_sound : stop_note_at bs ≡ met e rest → EntryAt (9 ∷ bs) e rest
  stop_note_sound q =
      let x : Entry × List ℕ = (e, rest) in
      let y = behind 64 bs (λ y r. after (number_at 1 r) (λ m. met (stop_note (eui y) (eqb m 1)))) x h q in
      let m = behind 1 y.rest (λ m. met (stop_note (eui y.number) (eqb m 1))) x y.bytes y.on in
      made (9 ∷ bs) (stop_note (eui y.number) (eqb m.number 1)) e m.rest rest m.on
      (ap (λ (z : List ℕ). 9 ∷ z) (
      y.there.front ∙ ap (λ (z : List ℕ). code y.number ++ z) (marked m)
      ∙ sym (append_assoc (code y.number) (code (mark (eqb m.number 1))) m.rest)
      ))
      y.there.fits

-- behind its kind byte a reader finds only what stands there
abbrev Right : ℕ × Reader → Type 0
Right r = (bs : List ℕ) (e : Entry) (rest : List ℕ) → Bytes bs → r.1 bs ≡ met e rest → EntryAt (r.0 ∷ bs) e rest

plain : (k : ℕ) (d : Entry) → entry_code d ≡ k ∷ [] → Within d → Right (k, met d)
plain k d is w bs e rest h q = made (k ∷ bs) d e bs rest q (ap (λ (z : List ℕ). z ++ bs) (sym is)) w

by_kind_sound : (rs : List (ℕ × Reader)) → All Right rs → (k : ℕ) (bs : List ℕ) (e : Entry) (rest : List ℕ) → Bytes bs → by_kind rs k bs ≡ met e rest → EntryAt (k ∷ bs) e rest
by_kind_sound [] right k bs e rest h q = absurd (let z : ◌≡◌ {A = ℕ} 0 1 = cc in omega arith)
by_kind_sound (r ∷ rs) right k bs e rest h q =
    elim (cases_eq k r.0) [
      | inl y ↦
          subst (λ (i : ℕ). EntryAt (i ∷ bs) e rest) (sym y) (
          right.0 bs e rest h (sym (cond-true (eqb k r.0) (r.1 bs) (by_kind rs k bs) (eq-eqb k r.0 y)) ∙ q)
          )
      | inr n ↦ by_kind_sound rs right.1 k bs e rest h (sym (cond-false (eqb k r.0) (r.1 bs) (by_kind rs k bs) (ne_eqb k r.0 n)) ∙ q)
    ]

readers_right : All Right readers
readers_right = (
  request_sound,
  (plain 2 bus_reset refl tt, (plain 3 net_update refl tt, (plain 4 gap refl tt, (plain 5 tick refl tt, (plain 6 access_change refl tt, (bus_note_sound, (pair_note_sound, (stop_note_sound, tt)))))))),
)

-- what a reader finds stands there
pub entry_sound : (bs : List ℕ) (e : Entry) (rest : List ℕ) → Bytes bs → entry_at bs ≡ met e rest → EntryAt bs e rest
unfolding entry_at
entry_sound [] e rest h q = absurd (let z : ◌≡◌ {A = ℕ} 0 1 = cc in omega arith)
entry_sound (k ∷ bs) e rest h q = by_kind_sound readers readers_right k bs e rest (λ i. h (suc i)) q

-- nothing is found where nothing stands
pub entry_absent : (bs : List ℕ) → entry_at bs ≡ None → NoEntry bs
entry_absent bs q e rest there =
    let f : entry_at bs ≡ met e rest = ap entry_at there.front ∙ entry_complete e rest there.within in
    let z : ◌≡◌ {A = ℕ} 0 1 = cc in
    omega arith

-- two entries that stand at one place are the same
pub entry_unique : (bs : List ℕ) (d e : Entry) (r s : List ℕ) → EntryAt bs d r → EntryAt bs e s → (d ≡ e) × (r ≡ s)
entry_unique bs d e r s a b =
    let f : entry_at bs ≡ met d r = ap entry_at a.front ∙ entry_complete d r a.within in
    let g : entry_at bs ≡ met e s = ap entry_at b.front ∙ entry_complete e s b.within in
    met_same d e r s (sym f ∙ g)
