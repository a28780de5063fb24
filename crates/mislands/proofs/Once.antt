-- SPDX-License-Identifier: Apache-2.0
-- Each account is in exactly one of the islands.
use Rattle.mislands.proofs.IslandWords.{◌≡◌, inl, inr, ℕ, ◌+◌, Bool, true, false, not, cond, List, ◌∷◌, ◌++◌, length, map, get_or, Some, refl, sym, ap, subst}
use Rattle.mislands.proofs.IslandWords.{◌∙◌, append_assoc, length-append, arith, ◌&&◌, ◌||◌, slice_get, option_map, unwrap_or, count_by, ◌⊎◌, [], list_any}
use Rattle.mislands.proofs.IslandWords.{filter, range_with_len, bytes_decides, cases_Bool, or_cases, or_left, or_right, and_parts, and_from, false≢true}
use Rattle.mislands.proofs.IslandWords.{false_from_ne_true, list_any_at, list_any-append, Text, text_eq, Settings, Account, name_at, IsIslandOf, names_of}
use Rattle.mislands.proofs.IslandWords.{IsIslandBy, is_among, AreIslands, none, adds, has, EachInOne}
use Rattle.std.proofs.Math.Bool.{or-false}
use Rattle.std.specs.Cmp.{both_ways}
use Rattle.std.proofs.lemmas.List.Sums.{sum_by_push}
use Rattle.mspec.specs.Flow.{IsIsland}
use Rattle.mislands.specs.Listing.{names_at}

itself : (a : Text) → text_eq a a ≡ true
itself a = (bytes_decides a a).1 refl

any_last : {X : Type 0} (p : X → Bool) (xs : List X) (x : X) → list_any p (xs ++ x ∷ []) ≡ true → (list_any p xs ≡ true) ⊎ (p x ≡ true)
any_last p xs x e =
    elim (or_cases (list_any p xs) (p x || false) (sym (list_any-append p xs (x ∷ [])) ∙ e)) [
      | inl earlier ↦ inl earlier
      | inr last ↦ inr (sym (or-false (p x)) ∙ last)
    ]

-- ---- sets of accounts

module _ (settings : Settings) where
  -- an island is that of each of its accounts
  moved : (a x : Text) (s : Text → Bool) → IsIslandOf settings a s → s x ≡ true → IsIslandOf settings x s
  moved a x s is here = record {
    has = here;
    island = is.island;
    least = λ other island own y e.
        elim (cases_Bool (other a)) [
          | inl inside ↦ is.least other island inside y e
          | inr outside ↦
              let apart : IsIsland settings (λ z. s z && not (other z)) = λ p q flow. rw (is.island p q flow, island p q flow) refl in
              let within : (s x && not (other x)) ≡ true = is.least (λ z. s z && not (other z)) apart (and_from (s a) (not (other a)) is.has (ap not outside)) x here in
              absurd (false≢true (sym (ap not own) ∙ (and_parts (s x) (not (other x)) within).1))
        ];
  }

  -- islands that have an account in common are the same
  same_sets : (a b x : Text) (s t : Text → Bool) → IsIslandOf settings a s → IsIslandOf settings b t → s x ≡ true → t x ≡ true → (y : Text) → s y ≡ t y
  same_sets a b x s t one two here there y =
      both_ways (s y) (t y) ((moved a x s one here).least t two.island there y) ((moved b x t two there).least s one.island here y)

-- ---- the names in a line

any_kept : (s : Text → Bool) (f : ℕ → Text) (x : Text) (ps : List ℕ) → list_any (text_eq x) (map f (filter (λ p. s (f p)) ps)) ≡ true → s x ≡ true
any_kept s f x [] e = absurd (false≢true e)
any_kept s f x (p ∷ ps) e =
    elim (cases_Bool (s (f p))) [
      | inl on ↦
          let found : (text_eq x (f p) || list_any (text_eq x) (map f (filter (λ p. s (f p)) ps))) ≡ true = (rw on at e) in
          elim (or_cases (text_eq x (f p)) _ found) [
            | inl same ↦ ap s ((bytes_decides x (f p)).0 same) ∙ on
            | inr rest ↦ any_kept s f x ps rest
          ]
      | inr off ↦ any_kept s f x ps (rw off at e)
    ]

kept_any : (s : Text → Bool) (f : ℕ → Text) (x : Text) (ps : List ℕ) → s x ≡ true → list_any (text_eq x) (map f ps) ≡ true → list_any (text_eq x) (map f (filter (λ p. s (f p)) ps)) ≡ true
kept_any s f x [] on e = e
kept_any s f x (p ∷ ps) on e =
    elim (or_cases (text_eq x (f p)) (list_any (text_eq x) (map f ps)) e) [
      | inl same ↦
          let here : s (f p) ≡ true = ap s (sym ((bytes_decides x (f p)).0 same)) ∙ on in
          rw here (or_left (text_eq x (f p)) _ same)
      | inr rest ↦
          elim (cases_Bool (s (f p))) [
            | inl inside ↦ rw inside (or_right (text_eq x (f p)) _ (kept_any s f x ps on rest))
            | inr outside ↦ rw outside (kept_any s f x ps on rest)
          ]
    ]

middle : (front : List Account) (a : Account) (rest : List Account) → slice_get (front ++ a ∷ rest) (length front) ≡ Some a
middle [] a rest = refl
middle (b ∷ front) a rest = middle front a rest

abbrev name_in : List Account → ℕ → Text
name_in accounts p = unwrap_or (option_map (λ a. a.name) (slice_get accounts p)) []

names_from : (front rest : List Account) → map (name_in (front ++ rest)) (range_with_len (length front) (length rest)) ≡ map (λ a. a.name) rest
names_from front [] = refl
names_from front (a ∷ rest) =
    let next = names_from (front ++ a ∷ []) rest in
    let moved_on : map (name_in (front ++ a ∷ rest)) (range_with_len (length front + 1) (length rest)) ≡ map (λ b. b.name) rest =
    subst (λ n. map (name_in (front ++ a ∷ rest)) (range_with_len n (length rest)) ≡ map (λ b. b.name) rest) (omega (arith, length-append front (a ∷ [])))
    (subst (λ all. map (name_in all) (range_with_len (length (front ++ a ∷ [])) (length rest)) ≡ map (λ b. b.name) rest) (append_assoc front (a ∷ []) rest) next) in
    ap (λ o. unwrap_or (option_map (λ b. b.name) o) [] ∷ map (name_in (front ++ a ∷ rest)) (range_with_len (length front + 1) (length rest))) (middle front a rest)
    ∙ ap (λ ns. a.name ∷ ns) moved_on

all_names : (settings : Settings) → names_at settings (range_with_len 0 (length settings.accounts)) ≡ names_of settings
all_names settings = names_from [] settings.accounts

module _ (settings : Settings) where
  -- a line has exactly the accounts of its island
  member : (a : Text) (line : List Text) (x : Text) (own : IsIslandBy settings a line) → list_any (text_eq x) line ≡ true → own.1.members x ≡ true
  member a line x (places, island, named) e =
      any_kept island.members (name_at settings) x (range_with_len 0 (length settings.accounts)) (ap (list_any (text_eq x)) (sym (named ∙ ap (names_at settings) island.listed)) ∙ e)

  in_line : (a : Text) (line : List Text) (x : Text) (own : IsIslandBy settings a line) → list_any (text_eq x) (names_of settings) ≡ true → own.1.members x ≡ true → list_any (text_eq x) line ≡ true
  in_line a line x (places, island, named) known on =
      ap (list_any (text_eq x)) (named ∙ ap (names_at settings) island.listed)
      ∙ kept_any island.members (name_at settings) x (range_with_len 0 (length settings.accounts)) on (ap (list_any (text_eq x)) (all_names settings) ∙ known)

  -- lines that have an account in common have each the other's first
  shared : (a b x : Text) (one two : List Text) → IsIslandBy settings a one → IsIslandBy settings b two → list_any (text_eq x) one ≡ true → list_any (text_eq x) two ≡ true
      → list_any (text_eq a) (names_of settings) ≡ true → list_any (text_eq a) two ≡ true
  shared a b x one two own other here there known =
      in_line b two a other known
      (sym (same_sets settings a b x own.1.members other.1.members own.1.least other.1.least (member a one x own here) (member b two x other there) a) ∙ own.1.least.has)

  abbrev is_known : Text → Bool
  is_known x = list_any (text_eq x) (names_of settings)

  -- an account of an island that one before shares an account with is in one before too
  shared_before : (before : List Text) (islands : List (List Text)) → AreIslands settings before islands → (a x : Text) (island : List Text) → IsIslandBy settings a island → list_any (text_eq x) island ≡ true
      → is_known a ≡ true → is_among x islands ≡ true → is_among a islands ≡ true
  shared_before _ _ none a x island own here known e = absurd (false≢true e)
  shared_before _ _ (adds before islands b other old free own') a x island own here known e =
      list_any-append (list_any (text_eq a)) islands (other ∷ [])
      ∙ elim (any_last (list_any (text_eq x)) islands other e) [
        | inl earlier ↦ or_left (is_among a islands) _ (shared_before before islands old a x island own here known earlier)
        | inr there ↦ or_right (is_among a islands) _ (or_left (list_any (text_eq a) other) false (shared a b x island other own own' here there known))
      ]
  shared_before _ _ (has before islands b old there) a x island own here known e = shared_before before islands old a x island own here known e

  abbrev AllKnown : List Text → Type 0
  AllKnown before = (x : Text) → list_any (text_eq x) before ≡ true → is_known x ≡ true

  front_known : (before : List Text) (a : Text) → AllKnown (before ++ a ∷ []) → AllKnown before
  front_known before a all x e = all x (list_any-append (text_eq x) before (a ∷ []) ∙ or_left (list_any (text_eq x) before) _ e)

  last_known : (before : List Text) (a : Text) → AllKnown (before ++ a ∷ []) → is_known a ≡ true
  last_known before a all = all a (list_any-append (text_eq a) before (a ∷ []) ∙ or_right (list_any (text_eq a) before) _ (or_left (text_eq a a) false (itself a)))

  -- how many islands have an account: one if any has
  one_more : (b : Bool) (n : ℕ) (c : Bool) → n ≡ cond b 1 0 → (c ≡ true → b ≡ false) → n + cond c 1 0 ≡ cond (b || (c || false)) 1 0
  one_more true n true e apart = absurd (false≢true (sym (apart refl)))
  one_more true n false e apart = omega (arith, e)
  one_more false n true e apart = omega (arith, e)
  one_more false n false e apart = omega (arith, e)

  counted : (before : List Text) (islands : List (List Text)) → AreIslands settings before islands → AllKnown before → (x : Text) → count_by (list_any (text_eq x)) islands ≡ cond (is_among x islands) 1 0
  counted _ _ none all x = refl
  counted _ _ (adds before islands a island old free own) all x =
      sum_by_push (λ line. cond (list_any (text_eq x) line) 1 0) islands island
      ∙ one_more (is_among x islands) (count_by (list_any (text_eq x)) islands) (list_any (text_eq x) island) (counted before islands old (front_known before a all) x)
      (λ here. false_from_ne_true _ (λ there. false≢true (sym free ∙ shared_before before islands old a x island own here (last_known before a all) there)))
      ∙ ap (λ b. cond b 1 0) (sym (list_any-append (list_any (text_eq x)) islands (island ∷ [])))
  counted _ _ (has before islands a old there) all x = counted before islands old (front_known before a all) x

  -- an account that had its turn is in one of them
  covered : (before : List Text) (islands : List (List Text)) → AreIslands settings before islands → AllKnown before → (x : Text) → list_any (text_eq x) before ≡ true → is_among x islands ≡ true
  covered _ _ none all x e = absurd (false≢true e)
  covered _ _ (adds before islands a island old free own) all x e =
      list_any-append (list_any (text_eq x)) islands (island ∷ [])
      ∙ elim (any_last (text_eq x) before a e) [
        | inl earlier ↦ or_left (is_among x islands) _ (covered before islands old (front_known before a all) x earlier)
        | inr same ↦
            let line : list_any (text_eq a) island ≡ true = in_line a island a own (last_known before a all) own.1.least.has in
            or_right (is_among x islands) _ (or_left (list_any (text_eq x) island) false (ap (λ t. list_any (text_eq t) island) ((bytes_decides x a).0 same) ∙ line))
      ]
  covered _ _ (has before islands a old there) all x e =
      elim (any_last (text_eq x) before a e) [
        | inl earlier ↦ covered before islands old (front_known before a all) x earlier
        | inr same ↦ ap (λ t. is_among t islands) ((bytes_decides x a).0 same) ∙ there
      ]

pub each_in_one : (settings : Settings) (islands : List (List Text)) → AreIslands settings (names_of settings) islands → EachInOne settings islands
each_in_one settings islands is k d within =
    let x = get_or (names_of settings) k d in
    let known : list_any (text_eq x) (names_of settings) ≡ true = list_any_at (text_eq x) (names_of settings) k d within (itself x) in
    counted settings (names_of settings) islands is (λ y e. e) x ∙ ap (λ b. cond b 1 0) (covered settings (names_of settings) islands is (λ y e. e) x known)
