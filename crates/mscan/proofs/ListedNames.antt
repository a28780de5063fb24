-- SPDX-License-Identifier: Apache-2.0
-- The names of a list, as a loop over them meets them, of which count - i more may come after commas.
use Rattle.std.proofs.Common.{◌≡◌, ℕ, zero, suc, ◌+◌, ◌-◌, ◌<◌, ◌≤◌, Bool, true, false, List, [], ◌∷◌, ◌++◌, length, Option, Some, None, refl, ap, ◌∙◌, arith}
use Rattle.std.specs.Prelude.{option_map}
use Rattle.std.specs.List.{list_any}
use Rattle.mspec.specs.Trees.{text_eq}
use Rattle.std.proofs.lemmas.List.{length-append}
use Rattle.mgrammar.specs.ReadingWords.{Read, ◌>>=◌, name_at, past, more_by, many, comma_by, after_comma, with_front, list_at}
use Rattle.mgrammar.specs.Reading.{names_at}
use Rattle.mgrammar.specs.RoutineLine.{are_distinct, unlike, formals_by}
use Rattle.mgrammar.proofs.ReadingBasics.{bind_some, some_is, past_takes, name_takes}
use Rattle.mscan.specs.Formals.{next_name, names_by, names_after, names_in}

-- ---- the names that are met

pub met : (count i : ℕ) (cs x rest : List ℕ) → i < count → next_name cs ≡ Some (x, rest) → names_after (count - i) cs ≡ x ∷ names_after (count - (i + 1)) rest
unfolding names_after
met count i cs x rest lt h =
    let k : count - i ≡ suc (count - (i + 1)) = omega arith in
    rw (k, h) refl

pub none_met : (n : ℕ) (cs : List ℕ) → next_name cs ≡ None → names_after n cs ≡ []
unfolding names_after
none_met zero cs h = refl
none_met (suc n) cs h = rw h refl

pub all_met : (count i : ℕ) (cs : List ℕ) → count ≤ i → names_after (count - i) cs ≡ []
unfolding names_after
all_met count i cs le =
    let k : count - i ≡ 0 = omega arith in
    rw k refl

-- ---- the count of the characters is always enough

pub shorter : (cs x rest : List ℕ) → next_name cs ≡ Some (x, rest) → length rest < length cs
shorter cs x rest h =
    let v = bind_some (past 44 cs) (λ behind. name_at behind) (x, rest) h in
    let whole : cs ≡ 44 ∷ (x ++ rest) = past_takes 44 cs v.0 v.1 ∙ ap (λ (t : List ℕ). 44 ∷ t) (name_takes v.0 (x, rest) v.2).0 in
    let count : length cs ≡ suc (length x + length rest) = ap length whole ∙ ap suc (length-append x rest) in
    omega (arith, count)

alike : (n m : ℕ) (o : Option (List ℕ × List ℕ)) → ((x : List ℕ × List ℕ) → o ≡ Some x → names_after n x.1 ≡ names_after m x.1) → names_by (names_after n) o ≡ names_by (names_after m) o
alike n m None f = refl
alike n m (Some x) f = ap (λ (ns : List (List ℕ)). x.0 ∷ ns) (f x refl)

pub enough : (n m : ℕ) (cs : List ℕ) → length cs ≤ n → length cs ≤ m → names_after n cs ≡ names_after m cs
unfolding names_after
enough zero zero cs a b = refl
enough zero (suc m) [] a b = refl
enough zero (suc m) (c ∷ cs) a b = absurd (omega arith)
enough (suc n) zero [] a b = refl
enough (suc n) zero (c ∷ cs) a b = absurd (omega arith)
enough (suc n) (suc m) cs a b =
    alike n m (next_name cs)
    (λ x e.
    let s : length x.1 < length cs = shorter cs x.0 x.1 e in
    enough n m x.1 (omega (arith, s, a)) (omega (arith, s, b)))

-- ---- whether one of them is meant, and whether two are equal

module _ (p : List ℕ → Bool) (count i : ℕ) (cs x rest : List ℕ) (lt : i < count) (next : next_name cs ≡ Some (x, rest)) where
  pub found : p x ≡ true → list_any p (names_after (count - i) cs) ≡ true
  found h = rw (met count i cs x rest lt next, h) refl

  pub passed : p x ≡ false → list_any p (names_after (count - i) cs) ≡ list_any p (names_after (count - (i + 1)) rest)
  passed h = rw (met count i cs x rest lt next, h) refl

module _ (x cs : List ℕ) where
  among : (n : ℕ) (b : Bool) → length cs ≤ n → list_any (text_eq x) (names_after (length cs) cs) ≡ b → list_any (text_eq x) (names_after n cs) ≡ b
  among n b le h =
      let whole : length cs ≤ length cs = omega arith in
      ap (list_any (text_eq x)) (enough n (length cs) cs le whole) ∙ h

  pub repeated : (n : ℕ) → length cs ≤ n → list_any (text_eq x) (names_after (length cs) cs) ≡ true → are_distinct (x ∷ names_after n cs) ≡ false
  repeated n le h = rw (among n true le h) refl

  pub not_repeated : (count i : ℕ) (y rest : List ℕ) → i < count → length cs ≤ count - i → next_name cs ≡ Some (y, rest) → list_any (text_eq x) (names_after (length cs) cs) ≡ false
      → (length rest ≤ count - (i + 1)) × (are_distinct (x ∷ names_after (count - i) cs) ≡ are_distinct (y ∷ names_after (count - (i + 1)) rest))
  not_repeated count i y rest lt le next h =
      let s : length rest < length cs = shorter cs y rest next in
      let fits : length rest ≤ count - (i + 1) = omega (arith, s, le, lt) in
      (fits, rw (among (count - i) false le h) (ap are_distinct (met count i cs y rest lt next)))

  pub alone : (n : ℕ) → names_after n cs ≡ [] → are_distinct (x ∷ names_after n cs) ≡ true
  alone n h = rw h refl

-- ---- names that are read are those that are met

module _ (n : ℕ) (ih : (cs : List ℕ) (xs : List (List ℕ)) (rest : List ℕ) → many (after_comma name_at) n cs ≡ Some (xs, rest) → names_after n cs ≡ xs) where
  by_name : (cs : List ℕ) (xs : List (List ℕ)) (rest : List ℕ) (y : Option (List ℕ × List ℕ)) → ((y >>= λ x. Some (Some x)) >>= more_by (after_comma name_at) (many (after_comma name_at) n) cs) ≡ Some (xs, rest)
      → names_by (names_after n) y ≡ xs
  by_name cs xs rest None h = absurd cc
  by_name cs xs rest (Some x) h =
      let v = bind_some (many (after_comma name_at) n x.1) (λ y. Some (x.0 ∷ y.0, y.1)) (xs, rest) h in
      let e : x.0 ∷ v.0.0 ≡ xs = ap (λ (p : List (List ℕ) × List ℕ). p.0) (some_is (x.0 ∷ v.0.0, v.0.1) (xs, rest) v.2) in
      ap (λ (ns : List (List ℕ)). x.0 ∷ ns) (ih x.1 v.0.0 v.0.1 v.1) ∙ e

  by_comma : (cs : List ℕ) (xs : List (List ℕ)) (rest : List ℕ) (o : Option (List ℕ)) → (comma_by name_at o >>= more_by (after_comma name_at) (many (after_comma name_at) n) cs) ≡ Some (xs, rest)
      → names_by (names_after n) (o >>= λ behind. name_at behind) ≡ xs
  by_comma cs xs rest None h = ap (λ (p : List (List ℕ) × List ℕ). p.0) (some_is ([], cs) (xs, rest) h)
  by_comma cs xs rest (Some behind) h = by_name cs xs rest (name_at behind) h

pub names_read : (n : ℕ) (cs : List ℕ) (xs : List (List ℕ)) (rest : List ℕ) → many (after_comma name_at) n cs ≡ Some (xs, rest) → names_after n cs ≡ xs
unfolding many names_after
names_read zero cs xs rest h = ap (λ (p : List (List ℕ) × List ℕ). p.0) (some_is ([], cs) (xs, rest) h)
names_read (suc n) cs xs rest h = by_comma n (names_read n) cs xs rest (past 44 cs) h

-- ---- what follows the names

-- what follows a list, whatever is in it
abbrev pub behind : Read (List (List ℕ)) → Option (List ℕ)
behind read = option_map (λ x. x.1) read

front_passed : (front : List (List ℕ)) (read : Read (List (List ℕ))) → behind (with_front front read) ≡ behind read
front_passed front None = refl
front_passed front (Some x) = refl

module _ (count i : ℕ) (cs : List ℕ) where
  pub one_passed : (inside x rest : List ℕ) → i < count → past 44 cs ≡ Some inside → name_at inside ≡ Some (x, rest)
      → behind (many (after_comma name_at) (count - i) cs) ≡ behind (many (after_comma name_at) (count - (i + 1)) rest)
  unfolding many
  one_passed inside x rest lt h g =
      let k : count - i ≡ suc (count - (i + 1)) = omega arith in
      rw (k, h, g) (front_passed (x ∷ []) (many (after_comma name_at) (count - (i + 1)) rest))

  pub no_comma : i < count → past 44 cs ≡ None → behind (many (after_comma name_at) (count - i) cs) ≡ Some cs
  unfolding many
  no_comma lt h =
      let k : count - i ≡ suc (count - (i + 1)) = omega arith in
      rw (k, h) refl

  pub no_name : (inside : List ℕ) → i < count → past 44 cs ≡ Some inside → name_at inside ≡ None → behind (many (after_comma name_at) (count - i) cs) ≡ None
  unfolding many
  no_name inside lt h g =
      let k : count - i ≡ suc (count - (i + 1)) = omega arith in
      rw (k, h, g) refl

  pub all_passed : count ≤ i → behind (many (after_comma name_at) (count - i) cs) ≡ Some cs
  unfolding many
  all_passed le =
      let k : count - i ≡ 0 = omega arith in
      rw k refl

-- ---- a formal list, after its first bracket

module _ (inside : List ℕ) where
  pub empty_list : (rest : List ℕ) → past 41 inside ≡ Some rest → formals_by inside (past 41 inside) ≡ Some (names_in inside, rest)
  unfolding name_at
  empty_list rest h =
      let closed = past_takes 41 inside rest h in
      rw closed refl

  module _ (begins : past 41 inside ≡ None) where
    pub unnamed : name_at inside ≡ None → formals_by inside (past 41 inside) ≡ None
    unfolding names_at list_at
    unnamed h = rw (begins, h) refl

    module _ (first more : List ℕ) (named : name_at inside ≡ Some (first, more)) where
      ended : (read : Read (List (List ℕ))) → many (after_comma name_at) (length more) more ≡ read → behind read ≡ None → formals_by inside (past 41 inside) ≡ None
      unfolding names_at list_at
      ended None h e = rw (begins, named, h) refl
      ended (Some x) h e = absurd cc

      pub unlisted : behind (many (after_comma name_at) (length more) more) ≡ None → formals_by inside (past 41 inside) ≡ None
      unlisted e = ended (many (after_comma name_at) (length more) more) refl e

      unclosed_by : (read : Read (List (List ℕ))) (after : List ℕ) → many (after_comma name_at) (length more) more ≡ read → behind read ≡ Some after → past 41 after ≡ None → formals_by inside (past 41 inside) ≡ None
      unfolding names_at list_at
      unclosed_by None after h e c = absurd cc
      unclosed_by (Some x) after h e c =
          let same : x.1 ≡ after = some_is x.1 after e in
          rw (begins, named, h, same, c) refl

      pub unclosed : (after : List ℕ) → behind (many (after_comma name_at) (length more) more) ≡ Some after → past 41 after ≡ None → formals_by inside (past 41 inside) ≡ None
      unclosed after e c = unclosed_by (many (after_comma name_at) (length more) more) after refl e c

      listed_by : (read : Read (List (List ℕ))) (after rest : List ℕ) → many (after_comma name_at) (length more) more ≡ read → behind read ≡ Some after → past 41 after ≡ Some rest
          → formals_by inside (past 41 inside) ≡ unlike (first ∷ names_after (length more) more, rest)
      unfolding names_at list_at
      listed_by None after rest h e c = absurd cc
      listed_by (Some x) after rest h e c =
          let same : x.1 ≡ after = some_is x.1 after e in
          let names : names_after (length more) more ≡ x.0 = names_read (length more) more x.0 x.1 h in
          rw (begins, named, h, same, c, names) refl

      listed : (after rest : List ℕ) → behind (many (after_comma name_at) (length more) more) ≡ Some after → past 41 after ≡ Some rest
          → formals_by inside (past 41 inside) ≡ unlike (first ∷ names_after (length more) more, rest)
      listed after rest e c = listed_by (many (after_comma name_at) (length more) more) after rest refl e c

      pub taken : (after rest : List ℕ) → behind (many (after_comma name_at) (length more) more) ≡ Some after → past 41 after ≡ Some rest → are_distinct (first ∷ names_after (length more) more) ≡ true
          → formals_by inside (past 41 inside) ≡ Some (names_in inside, rest)
      taken after rest e c d = listed after rest e c ∙ rw (d, named) refl

      pub refused : (after rest : List ℕ) → behind (many (after_comma name_at) (length more) more) ≡ Some after → past 41 after ≡ Some rest → are_distinct (first ∷ names_after (length more) more) ≡ false
          → formals_by inside (past 41 inside) ≡ None
      refused after rest e c d = listed after rest e c ∙ rw d refl
