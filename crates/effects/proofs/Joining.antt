-- Parts that are joined one after another. Assumes nothing.
use Rattle.std.proofs.Common.{◌≡◌, ℕ, suc, ◌+◌, ◌<◌, Bool, true, false, cond, List, [], ◌∷◌, ◌++◌, length, get_or, Some, None, Ok, Option, Result, sym, refl, ap, ◌∙◌, subst, inl, inr, arith}
use Rattle.std.specs.Option.{option_map}
use Rattle.std.proofs.lemmas.List.{append-nil, append_assoc, length-append, get_or_append_left, get_or-append-add}
use Rattle.std.proofs.lemmas.Bool.{cases_lt}
use Rattle.effects.specs.Lists.{listed, with_part, joined, Given, Joined}

module _ {S E : Type 0} (bytes : S → List ℕ) (gives : ℕ → Result (Option S) E → Type 0) (separator none : List ℕ) where
  -- the parts so far, and how their text goes on with those that are left
  pub record SoFar (place : ℕ) (first : Bool) (text : List ℕ) : Type 0 where
    pub parts : List (Option (List ℕ))
    pub many : length parts ≡ place
    pub given : (k : ℕ) → k < place → Given bytes gives k (get_or parts k None)
    pub told : (rest : List (Option (List ℕ))) → joined separator none (parts ++ rest) true ≡ text ++ joined separator none rest first

  pub so_far_none : (text : List ℕ) → text ≡ [] → SoFar 0 true text
  so_far_none text e =
      record {
        parts = [];
        many = refl;
        given = λ k h. absurd (omega arith);
        told = λ rest. ap (λ (z : List ℕ). z ++ joined separator none rest true) (sym e);
      }

  module _ (place : ℕ) (first : Bool) (text : List ℕ) (so_far : SoFar place first text) where
    pub so_far_more : (part : Option S) → gives place (Ok part) → (next : Bool) (after : List ℕ)
        → ((left : Bool → List ℕ) → text ++ with_part separator first (option_map bytes part) left ≡ after ++ left next) → SoFar (place + 1) next after
    so_far_more part gave next after more =
        let p : Option (List ℕ) = option_map bytes part in
        let parts = so_far.parts in
        let many = so_far.many in
        record {
          parts = parts ++ p ∷ [];
          many = omega (arith, length-append parts (p ∷ []));
          given = λ k h.
              elim (cases_lt k place) [
                | inl l ↦ subst (Given bytes gives k) (sym (get_or_append_left parts (p ∷ []) None k (omega arith))) (so_far.given k l)
                | inr r ↦
                    let there : get_or (parts ++ p ∷ []) (length parts + 0) None ≡ p = get_or-append-add parts (p ∷ []) 0 None in
                    let at : length parts + 0 ≡ k = omega arith in
                    let here : place ≡ k = omega arith in
                    subst (λ (i : ℕ). Given bytes gives i (get_or (parts ++ p ∷ []) i None)) at (
                    record { part = part; gave = subst (λ (i : ℕ). gives i (Ok part)) (here ∙ sym at) gave; is = sym there }
                    )
              ];
          told = λ rest.
              ap (λ (z : List (Option (List ℕ))). joined separator none z true) (append_assoc parts (p ∷ []) rest)
              ∙ so_far.told (p ∷ rest)
              ∙ more (joined separator none rest);
        }

    -- a part behind its separator
    pub one_part : (part : Option S) → gives place (Ok part) → (next : Bool) (after before row : List ℕ) → option_map bytes part ≡ Some row → next ≡ false
        → before ≡ cond first [] separator → after ≡ text ++ (before ++ row) → SoFar (place + 1) next after
    one_part part gave next after before row is n b e =
        let own : List ℕ = cond first [] separator in
        so_far_more part gave next after (λ left.
        ap (λ (p : Option (List ℕ)). text ++ with_part separator first p left) is
        ∙ ap (λ (z : List ℕ). text ++ z) (sym (append_assoc own row (left false)))
        ∙ sym (append_assoc text (own ++ row) (left false))
        ∙ ap (λ (z : List ℕ). (text ++ (z ++ row)) ++ left false) (sym b)
        ∙ ap (λ (z : List ℕ). z ++ left false) (sym e)
        ∙ ap (λ (q : Bool). after ++ left q) (sym n))

    pub no_part : (part : Option S) → gives place (Ok part) → (next : Bool) (after : List ℕ) → option_map bytes part ≡ None → next ≡ first → after ≡ text
        → SoFar (place + 1) next after
    no_part part gave next after is n e =
        so_far_more part gave next after (λ left.
        ap (λ (p : Option (List ℕ)). text ++ with_part separator first p left) is
        ∙ ap (λ (z : List ℕ). z ++ left first) (sym e)
        ∙ ap (λ (q : Bool). after ++ left q) (sym n))

    joined_all : (places : ℕ) → place ≡ places → (after : List ℕ) → after ≡ text ++ cond first none [] → Joined bytes gives places separator none after
    joined_all places at after e =
        subst (λ (n : ℕ). Joined bytes gives n separator none after) at (
        record {
          parts = so_far.parts;
          many = so_far.many;
          given = so_far.given;
          told = e ∙ sym (so_far.told []) ∙ ap (λ (z : List (Option (List ℕ))). joined separator none z true) (append-nil so_far.parts);
        }
        )

    pub joined_none : (places : ℕ) → place ≡ places → (after : List ℕ) → first ≡ true → after ≡ text ++ none → Joined bytes gives places separator none after
    joined_none places at after f e = joined_all places at after (e ∙ ap (λ (b : Bool). text ++ cond b none []) (sym f))

    pub joined_some : (places : ℕ) → place ≡ places → (after : List ℕ) → first ≡ false → after ≡ text → Joined bytes gives places separator none after
    joined_some places at after f e = joined_all places at after (e ∙ sym (append-nil text) ∙ ap (λ (b : Bool). text ++ cond b none []) (sym f))

-- parts that are those of the rows that pass a test, without their separator
module _ {X : Type 0} (test : X → Bool) (part : Bool → ℕ → X → List ℕ) (end : Bool → List ℕ) (separator none : List ℕ) (d : X)
    (fits : (first : Bool) (k : ℕ) (x : X) → cond first [] separator ++ part true k x ≡ part first k x)
    (ends : (first : Bool) → cond first none [] ≡ end first) where
  step : (x : X) (xs : List X) (k : ℕ) (first b : Bool) (p : Option (List ℕ)) (left : Bool → List ℕ) → p ≡ cond b (Some (part true k x)) None → ((f : Bool) → left f ≡ listed test part end f (k + 1) xs)
      → with_part separator first p left ≡ cond b (part first k x ++ listed test part end false (k + 1) xs) (listed test part end first (k + 1) xs)
  step x xs k first true p left q same =
      ap (λ (o : Option (List ℕ)). with_part separator first o left) q
      ∙ sym (append_assoc (cond first [] separator) (part true k x) (left false))
      ∙ ap (λ (z : List ℕ). z ++ left false) (fits first k x)
      ∙ ap (λ (z : List ℕ). part first k x ++ z) (same false)
  step x xs k first false p left q same = ap (λ (o : Option (List ℕ)). with_part separator first o left) q ∙ same first

  same_text : (ps : List (Option (List ℕ))) (xs : List X) (k : ℕ) (first : Bool) → length ps ≡ length xs
      → ((i j : ℕ) → i < length xs → j ≡ k + i → get_or ps i None ≡ cond (test (get_or xs i d)) (Some (part true j (get_or xs i d))) None)
      → joined separator none ps first ≡ listed test part end first k xs
  same_text [] [] k first h e = ends first
  same_text [] (x ∷ xs) k first h e = absurd (omega arith)
  same_text (p ∷ ps) [] k first h e = absurd (omega arith)
  same_text (p ∷ ps) (x ∷ xs) k first h e =
      step x xs k first (test x) p (joined separator none ps) (e 0 k (omega arith) (omega arith)) (λ f. same_text ps xs (k + 1) f (omega arith) (λ i j l q. e (suc i) j (omega arith) (omega arith)))

  pub listed_so : {S E : Type 0} (bytes : S → List ℕ) (gives : ℕ → Result (Option S) E → Type 0) (rows : List X) (places : ℕ) (text : List ℕ) → length rows ≡ places
      → ((k : ℕ) (o : Option S) → k < places → gives k (Ok o) → option_map bytes o ≡ cond (test (get_or rows k d)) (Some (part true k (get_or rows k d))) None)
      → Joined bytes gives places separator none text → text ≡ listed test part end true 0 rows
  listed_so bytes gives rows places text many told j =
      j.told ∙ same_text j.parts rows 0 true (j.many ∙ sym many) (λ i n l q.
      let given = j.given i (omega (arith, l, many)) in
      let at : i ≡ n = omega arith in
      sym given.is ∙ subst (λ (m : ℕ). option_map bytes given.part ≡ cond (test (get_or rows i d)) (Some (part true m (get_or rows i d))) None) at (told i given.part (omega (arith, l, many)) given.gave))

pub no_separator : (first : Bool) (z : List ℕ) → cond first [] [] ++ z ≡ z
no_separator true z = refl
no_separator false z = refl
