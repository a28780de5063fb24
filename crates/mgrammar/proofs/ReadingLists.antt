-- SPDX-License-Identifier: Apache-2.0
-- The laws of reading a list of items.
use Rattle.mgrammar.proofs.GrammarWords.{cond, inl, inr, eqb-true, ◌≡◌, ℕ, zero, suc, ◌<◌, ◌≤◌, Bool, eqb, List, [], ◌∷◌, ◌++◌, length, Option, Some, None}
use Rattle.mgrammar.proofs.GrammarWords.{refl, sym, ap, subst, ◌∙◌, append_assoc, arith, length-append, spell_more, spell_list, WellAll, WellList, Read, ◌>>=◌}
use Rattle.mgrammar.proofs.GrammarWords.{past, many, more_by, comma_by, after_comma, list_at}
use Rattle.mgrammar.proofs.ReadingBasics.{chosen, Takes, Again, Stops, bind_some, some_is, past_takes}

-- the texts of the items, one after another
abbrev pub each : {A : Type 0} → (A → List ℕ) → List A → List ℕ
each spell [] = []
each spell (x ∷ xs) = spell x ++ each spell xs

module _ {A : Type 0} (spell : A → List ℕ) (P : A → Type 0) (item : List ℕ → Option (Option (A × List ℕ))) where
  -- the law Takes, for an item that may not begin
  abbrev pub ItemTakes : Type 0
  ItemTakes = (cs : List ℕ) (x : A × List ℕ) → item cs ≡ Some (Some x) → (cs ≡ spell x.0 ++ x.1) × P x.0

  -- these items were read of a text
  abbrev Parts : List ℕ → List A × List ℕ → Type 0
  Parts cs x = (cs ≡ each spell x.0 ++ x.1) × WellAll P x.0

  -- one turn
  abbrev more_takes : (n : ℕ) (cs : List ℕ) (o : Option (A × List ℕ)) (x : List A × List ℕ) → item cs ≡ Some o → ItemTakes
      → ((ds : List ℕ) (y : List A × List ℕ) → many item n ds ≡ Some y → Parts ds y) → more_by item (many item n) cs o ≡ Some x → Parts cs x
  more_takes n cs None x h takes i e = subst (Parts cs) (some_is ([], cs) x e) (refl, tt)
  more_takes n cs (Some y) x h takes i e =
      let b = bind_some (many item n y.1) (λ z. Some ((y.0 ∷ []) ++ z.0, z.1)) x e in
      let first = takes cs y h in
      let others = i y.1 b.0 b.1 in
      subst (Parts cs) (some_is ((y.0 ∷ []) ++ b.0.0, b.0.1) x b.2)
      (first.0 ∙ ap (λ (t : List ℕ). spell y.0 ++ t) others.0 ∙ sym (append_assoc (spell y.0) (each spell b.0.0) b.0.1), (first.1, others.1))

  pub many_takes : ItemTakes → (n : ℕ) (cs : List ℕ) (x : List A × List ℕ) → many item n cs ≡ Some x → Parts cs x
  unfolding many
  many_takes takes zero cs x e = subst (Parts cs) (some_is ([], cs) x e) (refl, tt)
  many_takes takes (suc n) cs x e =
      let b = bind_some (item cs) (more_by item (many item n) cs) x e in
      more_takes n cs b.0 x b.1 takes (many_takes takes n) b.2

  -- what may follow an item stands before other items too
  follows_by : (F : List ℕ → Type 0) → ((x : A) (rest : List ℕ) → P x → F (spell x ++ rest)) → (xs : List A) (rest : List ℕ) → WellAll P xs → F rest → F (each spell xs ++ rest)
  follows_by F begins [] rest w f = f
  follows_by F begins (x ∷ xs) rest w f = subst F (sym (append_assoc (spell x) (each spell xs) rest)) (begins x (each spell xs ++ rest) w.0)

  -- F is what may follow an item, and each item begins so
  pub many_again : (F : List ℕ → Type 0) → ((x : A) (rest : List ℕ) → P x → F rest → item (spell x ++ rest) ≡ Some (Some (x, rest))) → ((x : A) (rest : List ℕ) → P x → F (spell x ++ rest))
      → (n : ℕ) (xs : List A) (rest : List ℕ) → length xs ≤ n → WellAll P xs → F rest → item rest ≡ Some None → many item n (each spell xs ++ rest) ≡ Some (xs, rest)
  unfolding many
  many_again F again begins zero [] rest le w f none = refl
  many_again F again begins zero (x ∷ xs) rest le w f none = absurd (omega arith)
  many_again F again begins (suc n) [] rest le w f none = rw none refl
  many_again F again begins (suc n) (x ∷ xs) rest le w f none =
      let follows : F (each spell xs ++ rest) = follows_by F begins xs rest w.1 f in
      let parts : each spell (x ∷ xs) ++ rest ≡ spell x ++ (each spell xs ++ rest) = append_assoc (spell x) (each spell xs) rest in
      let one : item (each spell (x ∷ xs) ++ rest) ≡ Some (Some (x, each spell xs ++ rest)) = ap item parts ∙ again x (each spell xs ++ rest) w.0 follows in
      let others : many item n (each spell xs ++ rest) ≡ Some (xs, rest) = many_again F again begins n xs rest (omega arith) w.1 f none in
      rw (one, others) refl

  -- each item has a character, so the count of the characters is enough
  pub count_le : ((x : A) → P x → 0 < length (spell x)) → (xs : List A) (rest : List ℕ) → WellAll P xs → length xs ≤ length (each spell xs ++ rest)
  count_le long [] rest w = omega arith
  count_le long (x ∷ xs) rest w =
      omega (arith, long x w.0, count_le long xs rest w.1, length-append (each spell xs) rest, length-append (spell x) (each spell xs), length-append (spell x ++ each spell xs) rest)

-- the text of two parts, of which the second is spelled by b' too
pub joined : (cs a r b c b' : List ℕ) → cs ≡ a ++ r → r ≡ b ++ c → b' ≡ b → cs ≡ (a ++ b') ++ c
joined cs a r b c b' p q e = rw (p, q, e, append_assoc) refl

-- the text of two parts with this character between
pub joined_by : (x : ℕ) (cs a r u b rest : List ℕ) → cs ≡ a ++ r → r ≡ x ∷ u → u ≡ b ++ rest → cs ≡ (a ++ x ∷ b) ++ rest
joined_by x cs a r u b rest p q s = rw (p, q, s, append_assoc) refl

-- the text of what stands in brackets
pub enclosed : (c : ℕ) (cs t last rest : List ℕ) → c ≡ 40 → cs ≡ t ++ last → last ≡ 41 ∷ rest → c ∷ cs ≡ (40 ∷ (t ++ 41 ∷ [])) ++ rest
enclosed c cs t last rest p q s = rw (p, q, s, append_assoc) refl

-- ---- lists with commas

abbrev pub is_comma : ℕ → Bool
is_comma c = eqb c 44

pub spell_more-each : {A : Type 0} (f : A → List ℕ) (xs : List A) → spell_more f xs ≡ each (λ a. 44 ∷ f a) xs
spell_more-each f [] = refl
spell_more-each f (x ∷ xs) = ap (λ (y : List ℕ). 44 ∷ (f x ++ y)) (spell_more-each f xs)

module _ {A : Type 0} (f : A → List ℕ) (P : A → Type 0) (item : List ℕ → Read A) where
  -- as comma_takes, where this comes after a comma
  comma_takes_by : (cs : List ℕ) (o : Option (List ℕ)) (x : A × List ℕ) → Takes f P item → past 44 cs ≡ o → comma_by item o ≡ Some (Some x) → (cs ≡ (44 ∷ f x.0) ++ x.1) × P x.0
  comma_takes_by cs None x takes h e = absurd cc
  comma_takes_by cs (Some rest) x takes h e =
      let b = bind_some (item rest) (λ y. Some (Some y)) (Some x) e in
      let t = takes rest b.0 b.1 in
      subst (λ (y : A × List ℕ). (cs ≡ (44 ∷ f y.0) ++ y.1) × P y.0) (some_is b.0 x (some_is (Some b.0) (Some x) b.2)) (past_takes 44 cs rest h ∙ ap (λ (y : List ℕ). 44 ∷ y) t.0, t.1)

  pub comma_takes : Takes f P item → ItemTakes (λ a. 44 ∷ f a) P (after_comma item)
  comma_takes takes cs x e = comma_takes_by cs (past 44 cs) x takes refl e

  pub list_takes : Takes f P item → Takes (spell_list f) (WellList P) (list_at item)
  unfolding list_at
  list_takes takes cs x e =
      let b = bind_some (item cs) (λ y. many (after_comma item) (length y.1) y.1 >>= λ ys. Some (y.0 ∷ ys.0, ys.1)) x e in
      let k = bind_some (many (after_comma item) (length b.0.1) b.0.1) (λ ys. Some (b.0.0 ∷ ys.0, ys.1)) x b.2 in
      let first = takes cs b.0 b.1 in
      let others = many_takes (λ a. 44 ∷ f a) P (after_comma item) (comma_takes takes) (length b.0.1) b.0.1 k.0 k.1 in
      let parts : cs ≡ (f b.0.0 ++ spell_more f k.0.0) ++ k.0.1 = joined cs (f b.0.0) b.0.1 (each (λ a. 44 ∷ f a) k.0.0) k.0.1 (spell_more f k.0.0) first.0 others.0 (spell_more-each f k.0.0) in
      subst (λ (y : List A × List ℕ). (cs ≡ spell_list f y.0 ++ y.1) × WellList P y.0) {x = (b.0.0 ∷ k.0.0, k.0.1)} (some_is (b.0.0 ∷ k.0.0, k.0.1) x k.2) (parts, (first.1, others.1))

  no_comma : (rest : List ℕ) → Stops is_comma rest → after_comma item rest ≡ Some None
  no_comma [] s = refl
  no_comma (c ∷ cs) s = rw s refl

  none_more : (n : ℕ) (rest : List ℕ) → Stops is_comma rest → many (after_comma item) n rest ≡ Some ([], rest)
  unfolding many
  none_more zero rest s = refl
  none_more (suc n) rest s = rw (no_comma rest s) refl

  -- a list of one, whose item a comma might go on with
  pub one_again : (x : A) (rest : List ℕ) → item (f x ++ rest) ≡ Some (x, rest) → Stops is_comma rest → list_at item (spell_list f (x ∷ []) ++ rest) ≡ Some (x ∷ [], rest)
  unfolding list_at
  one_again x rest h s =
      let parts : (f x ++ []) ++ rest ≡ f x ++ rest = append_assoc (f x) [] rest in
      ap (list_at item) parts ∙ rw (h, none_more (length rest) rest s) refl

  module _ (F : List ℕ → Type 0) (comma_follows : (rest : List ℕ) → F (44 ∷ rest)) (again : Again f P F item) where
    comma_again : (x : A) (rest : List ℕ) → P x → F rest → after_comma item ((44 ∷ f x) ++ rest) ≡ Some (Some (x, rest))
    comma_again x rest w s = rw (again x rest w s) refl

    more_follows : (xs : List A) (rest : List ℕ) → F rest → F (spell_more f xs ++ rest)
    more_follows [] rest s = s
    more_follows (x ∷ xs) rest s = comma_follows ((f x ++ spell_more f xs) ++ rest)

    pub more_again : (xs : List A) (rest : List ℕ) → WellAll P xs → F rest → Stops is_comma rest → many (after_comma item) (length (spell_more f xs ++ rest)) (spell_more f xs ++ rest) ≡ Some (xs, rest)
    more_again xs rest w s k =
        rw (spell_more-each f xs) (many_again (λ a. 44 ∷ f a) P (after_comma item) F comma_again (λ x cs v. comma_follows (f x ++ cs))
        (length (each (λ a. 44 ∷ f a) xs ++ rest)) xs rest (count_le (λ a. 44 ∷ f a) P (after_comma item) (λ x v. omega arith) xs rest w) w s (no_comma rest k))

    pub list_again : Again (spell_list f) (WellList P) (λ rest. F rest × Stops is_comma rest) (list_at item)
    unfolding list_at
    list_again [] rest w s = absurd w
    list_again (x ∷ xs) rest w s =
        ap (list_at item) (append_assoc (f x) (spell_more f xs) rest)
        ∙ rw (again x (spell_more f xs ++ rest) w.0 (more_follows xs rest s.0), more_again xs rest w.1 s.0 s.1) refl

-- a list in brackets, or one item, of which a tree is made
pub listed_or_one : {A B C : Type 0} (spell : A → List ℕ) (P : A → Type 0) (item : List ℕ → Read A) (made : List A → B) (spell_one : C → List ℕ) (W : C → Type 0) (single : List ℕ → Read C) (alone : C → B) (Q : B × List ℕ → Type 0)
    → Takes spell P item → Takes spell_one W single → (c : ℕ) (cs : List ℕ) (x : B × List ℕ)
    → cond (eqb c 40) (list_at item cs >>= λ y. past 41 y.1 >>= λ rest. Some (made y.0, rest)) (single (c ∷ cs) >>= λ v. Some (alone v.0, v.1)) ≡ Some x
    → ((ys : List A) (rest : List ℕ) → c ∷ cs ≡ (40 ∷ (spell_list spell ys ++ 41 ∷ [])) ++ rest → WellList P ys → Q (made ys, rest))
    → ((v : C) (rest : List ℕ) → c ∷ cs ≡ spell_one v ++ rest → W v → Q (alone v, rest)) → Q x
listed_or_one spell P item made spell_one W single alone Q takes singly c cs x e listed is =
    elim (chosen (eqb c 40) (list_at item cs >>= λ y. past 41 y.1 >>= λ rest. Some (made y.0, rest)) (single (c ∷ cs) >>= λ v. Some (alone v.0, v.1)) (Some x) e) [
      | inl p ↦
          let b = bind_some (list_at item cs) (λ y. past 41 y.1 >>= λ rest. Some (made y.0, rest)) x p.1 in
          let k = bind_some (past 41 b.0.1) (λ rest. Some (made b.0.0, rest)) x b.2 in
          let t = list_takes spell P item takes cs b.0 b.1 in
          subst Q {x = (made b.0.0, k.0)} (some_is (made b.0.0, k.0) x k.2)
          (listed b.0.0 k.0 (enclosed c cs (spell_list spell b.0.0) b.0.1 k.0 (eqb-true _ _ p.0) t.0 (past_takes 41 b.0.1 k.0 k.1)) t.1)
      | inr p ↦
          let b = bind_some (single (c ∷ cs)) (λ v. Some (alone v.0, v.1)) x p.1 in
          let t = singly (c ∷ cs) b.0 b.1 in
          subst Q {x = (alone b.0.0, b.0.1)} (some_is (alone b.0.0, b.0.1) x b.2) (is b.0.0 b.0.1 t.0 t.1)
    ]

-- a list in brackets that is spelled so is read, by what reads one after its bracket
pub bracketed_again : {A B : Type 0} (spell : A → List ℕ) (P : A → Type 0) (item : List ℕ → Read A) (F : List ℕ → Type 0) (made : List A → B) (read : List ℕ → Read B)
    → ((cs : List ℕ) → read (40 ∷ cs) ≡ (list_at item cs >>= λ y. past 41 y.1 >>= λ rest. Some (made y.0, rest))) → ((rest : List ℕ) → F (44 ∷ rest) × F (41 ∷ rest)) → Again spell P F item
    → (xs : List A) (rest : List ℕ) → WellList P xs → read ((40 ∷ (spell_list spell xs ++ 41 ∷ [])) ++ rest) ≡ Some (made xs, rest)
bracketed_again spell P item F made read opens follows again xs rest w =
    let l = list_again spell P item F (λ cs. (follows cs).0) again xs (41 ∷ rest) w ((follows rest).1, refl) in
    ap (λ (y : List ℕ). read (40 ∷ y)) (append_assoc (spell_list spell xs) (41 ∷ []) rest) ∙ opens (spell_list spell xs ++ 41 ∷ rest) ∙ rw l refl
